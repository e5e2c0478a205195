use Rattle.std.proofs.Common.{◌≡◌, ◌∙◌, sym, ap, Some}
use Rattle.std.proofs.lemmas.Bool.Decides.{Decides-at}
use Rattle.orc_rules.specs.Nodes.{source, code, definitions}
use Rattle.orc_env.specs.Scopes.{env_of}
use Rattle.orc_checker.specs.Checker.{context}
use Rattle.orc_verdict.specs.Standing.{fits_as, mark_of, summary, under}
use Rattle.orc_verdict.proofs.Conditions.{fits_found, fits_none, takes_is}
use Rattle.orc_verdict.proofs.reasons.fits.Goals as goal

pub returns-in-Some-find : goal.returns-in-Some-find
returns-in-Some-find c cancels p r sp =
    let l = c.args.program.now in
    let x = context l c.args.answers.now cancels in
    let s = c.args.marked.now in
    let e = c.args.entry.now in
    let f = c.in-Some-find.part in
    let k = c.standing_of-standing.result in
    let o = c.taker.result in
    let is : mark_of e ≡ Some c.in-Some.s = sym c.mark_named.ensures ∙ c.in-Some.is in
    Decides-at c.fits_standing.result (fits_as e k o) c.fits_standing.ensures
    (fits_found x l s p (c.journal_is_numbered.ensures x (source l) r.0 p r.1) sp c.in-Some.s e f k o is c.in-Some-find.ensures.has (takes_is s.nodes f.at o c.taker.ensures.taker c.taker.ensures.none)
    (c.standing_of-standing.ensures sp.scopes ∙ ap (λ z. summary (definitions l) z (under (code l) (env_of s.cells s.scopes) f.kind)) c.args_named.ensures))

pub returns-in-None : goal.returns-in-None
returns-in-None c cancels p r sp =
    let l = c.args.program.now in
    let x = context l c.args.answers.now cancels in
    fits_none x l c.args.marked.now p (c.journal_is_numbered.ensures x (source l) r.0 p r.1) sp c.in-Some.s c.args.entry.now (sym c.mark_named.ensures ∙ c.in-Some.is) c.in-None.ensures.none
