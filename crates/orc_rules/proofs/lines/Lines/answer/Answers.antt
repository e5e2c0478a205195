use Rattle.std.proofs.Common.{◌≡◌, ◌≤◌, length, Some, refl, sym, ap, subst, ◌∙◌}
use Rattle.std.specs.Prelude.{slice_get}
use Rattle.std.proofs.lemmas.Option.{slice_get_read, slice_get_past}
use Rattle.orc_rules.specs.Sites.{nth_answer, line_answer}
use Rattle.orc_rules.specs.Lines.{lines_of, match_place}
use Rattle.orc_rules.proofs.Places.{answer_at, answer_is}
use Rattle.orc_rules.proofs.lines.Lines.answer.Goals as goal

pub returns-in-Some : goal.returns-in-Some
returns-in-Some c =
    let lines = c.self.inside.lines.items in
    let args = c.args.args.now in
    let n = c.args.n in
    let at = c.first.result in
    let line = c.in-Some.line.now in
    let here : at ≡ match_place (lines_of lines) args = c.first.ensures ∙ ap (λ z. match_place z args) (sym c.self.view_is) in
    let there : slice_get lines at ≡ Some line = subst (λ z. slice_get z at ≡ Some line) c.deref.ensures.value (slice_get_read c.deref.result.now (length c.deref.result.now) at line refl c.in-Some.ensures.lookup.3.0 c.in-Some.ensures.lookup.1) in
    c.nth.ensures
    ∙ ap (λ z. nth_answer z n) c.deref-in-Some.ensures.value
    ∙ sym (ap (λ o. answer_at o n) there)
    ∙ ap (λ k. answer_at (slice_get lines k) n) here
    ∙ sym (answer_is lines args n)
    ∙ ap (λ z. line_answer z args n) c.self.view_is

pub returns-in-None : goal.returns-in-None
returns-in-None c =
    let lines = c.self.inside.lines.items in
    let args = c.args.args.now in
    let n = c.args.n in
    let at = c.first.result in
    let here : at ≡ match_place (lines_of lines) args = c.first.ensures ∙ ap (λ z. match_place z args) (sym c.self.view_is) in
    let past : length lines ≤ at = subst (λ z. length z ≤ at) c.deref.ensures.value c.in-None.ensures.lookup.3 in
    c.no_answer.ensures
    ∙ sym (ap (λ o. answer_at o n) (slice_get_past lines at past))
    ∙ ap (λ k. answer_at (slice_get lines k) n) here
    ∙ sym (answer_is lines args n)
    ∙ ap (λ z. line_answer z args n) c.self.view_is
