use Rattle.std.proofs.Common.{sym, ◌∙◌}
use Rattle.std.proofs.lemmas.Bool.{eqb-true}
use Rattle.orc_schedules.specs.Counts.{count_of}
use Rattle.orc_schedules.proofs.Raised.{same_count}
use Rattle.orc_schedules.proofs.counts.is_same.Goals as goal

pub returns : goal.returns
returns c = λ same. same_count (count_of c.args.one.now) (count_of c.args.other.now) (sym c.is_kind.ensures ∙ c.if-not-is_kind.false) (eqb-true c.args.one.now.times c.args.other.now.times same)
