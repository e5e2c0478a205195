use Rattle.std.proofs.Common.{◌≡◌, ◌≤◌, ◌+◌, ℕ, suc, List, refl, ap, subst, ◌∙◌, arith}
use Rattle.orc_rules.specs.declared.value.Value.{Value}
use Rattle.orc_rules.specs.Sites.{find}
use Rattle.orc_search.specs.declared.made.Made.{Made}
use Rattle.orc_search.specs.Asked.{times_of}
use Rattle.orc_schedules.specs.Counts.{Count, made_at}
use Rattle.orc_schedules.proofs.Raised.{same_coming, next_coming}
use Rattle.orc_schedules.proofs.counts.Counts.called.Goals as goal

pub returns-then-times-last-clause-coming : goal.returns-then-times-last-clause-coming
returns-then-times-last-clause-coming c =
    let sites = c.args.answers.now.sites in
    let site : ℕ = c.args.site in
    let args = c.args.args.now in
    let made = made_at c.args.self.now c.args.at in
    let last : ℕ = c.last_answer-last.result in
    let times : c.times_of-times.result ≡ times_of made site args = c.times_of-times.ensures ∙ ap (λ (l : List Made). times_of l site args) c.made.ensures in
    let enough : last ≤ times_of made site args = omega (arith, times) in
    same_coming sites site args made last
    (subst (λ (vs : List Value). (n : ℕ) → last ≤ n → find sites site vs (suc n) ≡ find sites site vs (suc last)) c.in-Some.ensures c.last_answer-last.ensures.alike)
    enough

pub returns-clause-coming : goal.returns-clause-coming
returns-clause-coming c =
    let sites = c.args.answers.now.sites in
    let site : ℕ = c.args.site in
    let args = c.args.args.now in
    let made = made_at c.args.self.now c.args.at in
    let times : c.times_of-times.result ≡ times_of made site args = c.times_of-times.ensures ∙ ap (λ (l : List Made). times_of l site args) c.made.ensures in
    let count : Count = record { site = site; args = c.in_ok-from_slice.field-0.items; times = c.times_of-times.result + 1 } in
    next_coming sites site args made (made_at c.raised.new.self c.in_ok-to.to) count refl c.in_ok-from_slice.ensures.items (omega (arith, times)) c.in_ok-to.ensures.times
