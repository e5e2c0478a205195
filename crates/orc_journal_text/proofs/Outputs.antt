-- The text of publications that follow one another.
use Rattle.std.proofs.Common.{◌≡◌, ◌<◌, ◌+◌, ℕ, length, take, slice_index_or, List, [], ◌∷◌, ◌++◌, refl, ap, ◌∙◌, sym, append_assoc, codes}
use Rattle.std.proofs.lemmas.List.{take_more}
use Rattle.orc_rules.specs.declared.value.Value.{Value}
use Rattle.orc_rules.specs.Text.{output, value_text}

-- the text of more values
pub output-append : (vs ws : List Value) → output (vs ++ ws) ≡ output vs ++ output ws
output-append [] ws = refl
output-append (v ∷ vs) ws =
    ap (λ t. value_text v ++ (codes "\n" ++ t)) (output-append vs ws)
    ∙ (ap (λ t. value_text v ++ t) (sym (append_assoc (codes "\n") (output vs) (output ws))) ∙ sym (append_assoc (value_text v) (codes "\n" ++ output vs) (output ws)))

-- one line more
pub output-more : (front text new : List ℕ) (vs : List Value) (i : ℕ) (d : Value) → i < length vs → text ≡ front ++ output (take i vs) → new ≡ text ++ output (slice_index_or vs i d ∷ []) → new ≡ front ++ output (take (i + 1) vs)
output-more front text new vs i d within so_far grown =
    let line = slice_index_or vs i d ∷ [] in
    grown ∙ (ap (λ t. t ++ output line) so_far ∙ (append_assoc front (output (take i vs)) (output line) ∙ ap (λ t. front ++ t) (sym (output-append (take i vs) line) ∙ ap output (sym (take_more vs i d within)))))
