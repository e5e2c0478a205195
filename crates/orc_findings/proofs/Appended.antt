-- Texts behind one another.
use Rattle.std.proofs.Common.{◌≡◌, ◌∷◌, ◌∙◌, ◌++◌, ℕ, List, [], ap, refl}

pub appended : (a b c : List ℕ) → (a ++ b) ++ c ≡ a ++ (b ++ c)
appended [] b c = refl
appended (x ∷ xs) b c = ap (λ t. x ∷ t) (appended xs b c)

pub all_appended : (text first second third last said state word number head tail : List ℕ)
    → first ≡ text ++ said → said ≡ state → second ≡ first ++ (word ++ number) → third ≡ second ++ head → last ≡ third ++ tail
    → last ≡ text ++ (state ++ (word ++ (number ++ (head ++ tail))))
all_appended text first second third last said state word number head tail one is two three four =
    four
    ∙ ap (λ t. t ++ tail) (three ∙ ap (λ t. t ++ head) (two ∙ ap (λ t. t ++ (word ++ number)) (one ∙ ap (λ s. text ++ s) is)))
    ∙ appended ((text ++ state) ++ (word ++ number)) head tail
    ∙ appended (text ++ state) (word ++ number) (head ++ tail)
    ∙ ap (λ t. (text ++ state) ++ t) (appended word number (head ++ tail))
    ∙ appended text state (word ++ (number ++ (head ++ tail)))

-- one more text behind those
pub behind : (text next added rest : List ℕ) → next ≡ text ++ added → next ++ rest ≡ text ++ (added ++ rest)
behind text next added rest is = ap (λ t. t ++ rest) is ∙ appended text added rest

pub six_appended : (text a b c d e f said first second third fourth fifth last : List ℕ)
    → first ≡ text ++ a → second ≡ first ++ b → third ≡ second ++ c → fourth ≡ third ++ said → said ≡ d → fifth ≡ fourth ++ e → last ≡ fifth ++ f
    → last ≡ text ++ (a ++ (b ++ (c ++ (d ++ (e ++ f)))))
six_appended text a b c d e f said first second third fourth fifth last one two three four is five six =
    six
    ∙ behind fourth fifth e f five
    ∙ behind third fourth d (e ++ f) (four ∙ ap (λ s. third ++ s) is)
    ∙ behind second third c (d ++ (e ++ f)) three
    ∙ behind first second b (c ++ (d ++ (e ++ f))) two
    ∙ behind text first a (b ++ (c ++ (d ++ (e ++ f)))) one
