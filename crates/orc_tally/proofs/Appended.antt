-- Some texts behind another.
use Rattle.std.proofs.Common.{◌≡◌, ◌∷◌, ◌∙◌, ◌++◌, ℕ, List, [], ap, refl}

appended : (a b c : List ℕ) → (a ++ b) ++ c ≡ a ++ (b ++ c)
appended [] b c = refl
appended (x ∷ xs) b c = ap (λ t. x ∷ t) (appended xs b c)

pub all_appended : (text a b c first second last : List ℕ) → first ≡ text ++ a → second ≡ first ++ b → last ≡ second ++ c → last ≡ text ++ (a ++ (b ++ c))
all_appended text a b c first second last one two three = three ∙ ap (λ t. t ++ c) (two ∙ ap (λ t. t ++ b) one) ∙ appended (text ++ a) b c ∙ appended text a (b ++ c)

pub more_appended : (text a b c d e f h g first second third fourth fifth sixth last : List ℕ) → h ≡ f → first ≡ text ++ a → second ≡ first ++ b → third ≡ second ++ c → fourth ≡ third ++ d → fifth ≡ fourth ++ e → sixth ≡ fifth ++ h → last ≡ sixth ++ g
    → last ≡ text ++ (a ++ (b ++ (c ++ (d ++ (e ++ (f ++ g))))))
more_appended text a b c d e f h g first second third fourth fifth sixth last same one two three four five six seven =
    all_appended fourth e f g fifth sixth last five (six ∙ ap (λ t. fifth ++ t) same) seven
    ∙ ap (λ t. t ++ (e ++ (f ++ g))) four
    ∙ appended third d (e ++ (f ++ g))
    ∙ ap (λ t. t ++ (d ++ (e ++ (f ++ g)))) (all_appended text a b c first second third one two three)
    ∙ appended text (a ++ (b ++ c)) (d ++ (e ++ (f ++ g)))
    ∙ ap (λ t. text ++ t) (appended a (b ++ c) (d ++ (e ++ (f ++ g))) ∙ ap (λ t. a ++ t) (appended b c (d ++ (e ++ (f ++ g)))))
