use Rattle.std.proofs.Common.{◌≡◌, ◌≤◌, length, Some, arith, refl, sym, ap, subst, ◌∙◌}
use Rattle.std.specs.Prelude.{◌-◌, slice_get}
use Rattle.std.proofs.lemmas.Option.{slice_get_read, slice_get_past}
use Rattle.orc_rules.specs.Sites.{last_of_line}
use Rattle.orc_rules.specs.Lines.{lines_of, match_place}
use Rattle.orc_rules.proofs.Places.{last_at, last_is}
use Rattle.orc_rules.proofs.lines.Lines.last_answer.Goals as goal

pub returns-in-Some : goal.returns-in-Some
returns-in-Some c =
    let lines = c.self.inside.lines.items in
    let args = c.args.args.now in
    let at = c.first.result in
    let line = c.in-Some.line.now in
    let here : at ≡ match_place (lines_of lines) args = c.first.ensures ∙ ap (λ z. match_place z args) (sym c.self.view_is) in
    let there : slice_get lines at ≡ Some line = subst (λ z. slice_get z at ≡ Some line) c.deref.ensures.value (slice_get_read c.deref.result.now (length c.deref.result.now) at line refl c.in-Some.ensures.lookup.3.0 c.in-Some.ensures.lookup.1) in
    let long : c.len.result ≡ length line.answers.items = c.len.ensures ∙ line.answers.ok.0 in
    let less : c.saturating_sub.result ≡ length line.answers.items - 1 = omega (arith, c.saturating_sub.ensures, long) in
    less
    ∙ sym (ap last_at there)
    ∙ ap (λ k. last_at (slice_get lines k)) here
    ∙ sym (last_is lines args)
    ∙ ap (λ z. last_of_line z args) c.self.view_is

pub returns-in-None : goal.returns-in-None
returns-in-None c =
    let lines = c.self.inside.lines.items in
    let args = c.args.args.now in
    let at = c.first.result in
    let here : at ≡ match_place (lines_of lines) args = c.first.ensures ∙ ap (λ z. match_place z args) (sym c.self.view_is) in
    let past : length lines ≤ at = subst (λ z. length z ≤ at) c.deref.ensures.value c.in-None.ensures.lookup.3 in
    sym (ap last_at (slice_get_past lines at past))
    ∙ ap (λ k. last_at (slice_get lines k)) here
    ∙ sym (last_is lines args)
    ∙ ap (λ z. last_of_line z args) c.self.view_is
