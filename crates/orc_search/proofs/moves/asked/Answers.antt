use Rattle.std.proofs.Common.{◌≡◌, ◌∷◌, [], ◌++◌, ℕ, List, false, Some, sym, ◌∙◌}
use Rattle.orc_rules.specs.declared.value.Value.{Value}
use Rattle.orc_rules.specs.Term.{values_of}
use Rattle.orc_rules.specs.Idle.{has_void}
use Rattle.orc_search.specs.Small.{Out, nothing, awaits}
use Rattle.orc_search.specs.Moves.{called}
use Rattle.orc_search.specs.Successors.{asked, silently}
use Rattle.orc_search.specs.States.{next_call}
use Rattle.orc_search.specs.Asked.{coming_of_made}
use Rattle.orc_search.proofs.Own.{none_void}
use Rattle.orc_search.proofs.moves.asked.Goals as goal

pub returns : goal.returns
returns c =
    let m : ℕ = c.args.site in
    let args : List Value = c.in-Some.args in
    let ask : ℕ → List Value → Out = next_call (coming_of_made c.args.source.now.answers.now.sites c.args.made.now) in
    let are : values_of c.args.params.now ≡ Some args = sym c.values_of.ensures ∙ c.in-Some.is in
    let void : has_void c.args.params.now ≡ false = none_void c.args.params.now args are in
    let slice : c.as_slice.result.now ≡ args = c.as_slice.ensures.value in
    let says : c.in_ok-rest.rest ≡ coming_of_made c.args.source.now.answers.now.sites c.args.made.now m args 0 = c.in_ok-rest.ensures in
    c.in_ok-becoming.ensures ∙ (λ i. (called m (slice i), awaits (record { site = m; args = slice i; rest = says i })) ∷ []) ∙ (λ i. asked ask m (sym are i) ++ silently (sym void i) nothing)
