use Rattle.std.proofs.Common.{sym, ap, ◌∙◌, arith}
use Rattle.orc_indexes.specs.Same.{weight}
use Rattle.orc_indexes.specs.Parking.{one}
use Rattle.orc_indexes.proofs.Flags.{count-clear}
use Rattle.orc_indexes.proofs.wait_index.Parking.clear.Goals as goal

pub overflow_sub-self : goal.overflow_sub-self
overflow_sub-self c = omega (arith, c.self.invariant, count-clear c.self.inside.flags.items c.args.slot (sym c.is_set.ensures ∙ c.if-not-is_set.false))

pub invariant_of-self : goal.invariant_of-self
invariant_of-self c = omega (arith, c.self.invariant, count-clear c.self.inside.flags.items c.args.slot (sym c.is_set.ensures ∙ c.if-not-is_set.false), ap (weight one) c.write_flag.ensures)
