use Rattle.std.proofs.lemmas.Bool.Decides.{Decides-at}
use Rattle.orc_verdict.specs.Finding.{is_one}
use Rattle.orc_verdict.proofs.Conditions.{other_found, other_none}
use Rattle.orc_verdict.proofs.reasons.has_otherwise.Goals as goal

pub returns-in-Some : goal.returns-in-Some
returns-in-Some c x l p nu sp = Decides-at c.is_one.result (is_one c.in-Some.part.kind) c.is_one.ensures (other_found x l c.args.marked.now p nu sp c.args.s c.in-Some.part c.in-Some.ensures.has)

pub returns-in-None : goal.returns-in-None
returns-in-None c x l p nu sp = other_none x l c.args.marked.now p nu sp c.args.s c.in-None.ensures.none
