use Rattle.std.proofs.Common.{◌≡◌, ◌++◌, ◌∷◌, [], sym, ap, ◌∙◌, List, ℕ, slice_index_or, append_assoc}
use Rattle.std.proofs.lemmas.Option.{get_or_from_slice_get}
use Rattle.orc_rules.specs.Text.{arguments}
use Rattle.orc_rules.specs.declared.value.Value.{Value}
use Rattle.orc_journal_text.proofs.writer.push_call.Goals as goal

-- pieces put at the end one after another
joined : (out pushed named whole name text : List ℕ) (slice args : List Value) → pushed ≡ out ++ (32 ∷ []) → named ≡ pushed ++ name → whole ≡ named ++ arguments slice → slice ≡ args → text ≡ name → whole ≡ out ++ 32 ∷ (text ++ arguments args)
joined out pushed named whole name text slice args p n w s t =
    w ∙ ap (λ (x : List ℕ). x ++ arguments slice) (n ∙ ap (λ (x : List ℕ). x ++ name) p) ∙ append_assoc (out ++ (32 ∷ [])) name (arguments slice) ∙ append_assoc out (32 ∷ []) (name ++ arguments slice)
    ∙ ap (λ (x : List Value). out ++ 32 ∷ (name ++ arguments x)) s ∙ ap (λ (x : List ℕ). out ++ 32 ∷ (x ++ arguments args)) (sym t)

pub returns : goal.returns
returns c =
    let named : slice_index_or c.args.answers.now.names c.args.site [] ≡ c.in-Some.name.now = get_or_from_slice_get c.args.answers.now.names c.args.site c.in-Some.name.now [] (sym c.in-Some.ensures) in
    joined c.args.out.now.items _ _ _ c.in-Some.name.now _ c.as_slice.result.now c.args.args.now c.in_ok-push.ensures.items c.in_ok-extend_from_slice.ensures.items c.in_ok-push_arguments.ensures c.as_slice.ensures.value named
