use Rattle.std.proofs.lemmas.Bool.Decides.{Decides-at}
use Rattle.orc_verdict.specs.Reasons.{right_flag}
use Rattle.orc_verdict.proofs.Conditions.{right_found, right_none}
use Rattle.orc_verdict.proofs.reasons.right_is_over.Goals as goal

pub returns-in-Some : goal.returns-in-Some
returns-in-Some c x l p nu sp =
    let s = c.args.marked.now in
    Decides-at c.right_has_halted.result (right_flag s.flags c.in-Some.part.kind) c.right_has_halted.ensures (right_found x l s p nu sp c.args.c c.in-Some.part c.in-Some.ensures.has)

pub returns-in-None : goal.returns-in-None
returns-in-None c x l p nu sp = right_none x l c.args.marked.now p nu sp c.args.c c.in-None.ensures.none
