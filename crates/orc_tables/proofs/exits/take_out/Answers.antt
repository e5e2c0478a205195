use Rattle.std.proofs.Common.{refl, ap, arith}
use Rattle.orc_indexes.specs.Same.{weight}
use Rattle.orc_indexes.specs.Same.{is_this}
use Rattle.orc_tables.specs.OpenGroups.{size_of}
use Rattle.orc_tables.proofs.exits.take_out.Goals as goal

pub returns-clause-rest : goal.returns-clause-rest
returns-clause-rest c = λ w. omega (arith, ap (weight w) c.leave.ensures.items, c.take.ensures.one c.args.group c.requires refl w)

pub returns-clause-sizes : goal.returns-clause-sizes
returns-clause-sizes c = λ i. omega (arith, c.leave.ensures.sizes i, ap (λ z. size_of z i) c.take.ensures.sizes, ap (is_this i) c.group_at-parent.ensures)
