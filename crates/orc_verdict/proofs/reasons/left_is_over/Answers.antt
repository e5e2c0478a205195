use Rattle.std.proofs.lemmas.Bool.Decides.{Decides-at}
use Rattle.orc_verdict.specs.Reasons.{left_flag}
use Rattle.orc_verdict.proofs.Conditions.{left_found, left_none}
use Rattle.orc_verdict.proofs.reasons.left_is_over.Goals as goal

pub returns-in-Some : goal.returns-in-Some
returns-in-Some c x l p nu sp =
    let s = c.args.marked.now in
    Decides-at c.left_has_halted.result (left_flag s.flags c.in-Some.part.kind) c.left_has_halted.ensures (left_found x l s p nu sp c.args.s c.in-Some.part c.in-Some.ensures.has)

pub returns-in-None : goal.returns-in-None
returns-in-None c x l p nu sp = left_none x l c.args.marked.now p nu sp c.args.s c.in-None.ensures.none
