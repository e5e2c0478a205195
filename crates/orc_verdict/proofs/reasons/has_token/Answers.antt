use Rattle.std.proofs.lemmas.Bool.Decides.{Decides-at}
use Rattle.orc_verdict.specs.Finding.{is_leaf}
use Rattle.orc_verdict.proofs.Conditions.{token_found, token_none}
use Rattle.orc_verdict.proofs.reasons.has_token.Goals as goal

pub returns-in-Some : goal.returns-in-Some
returns-in-Some c x l p nu sp = Decides-at c.is_leaf.result (is_leaf c.in-Some.part.kind) c.is_leaf.ensures (token_found x l c.args.marked.now p nu sp c.args.s c.in-Some.part c.in-Some.ensures.has)

pub returns-in-None : goal.returns-in-None
returns-in-None c x l p nu sp = token_none x l c.args.marked.now p nu sp c.args.s c.in-None.ensures.none
