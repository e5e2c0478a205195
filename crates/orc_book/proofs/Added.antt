-- What a step adds to the tokens that are out, and to the passes that are to be left.
use Rattle.std.proofs.Common.{◌≡◌, List, [], ◌∷◌, ◌++◌, sym, ap, ◌∙◌, subst, append_assoc, append-nil, inl, inr, OnOk, Result, Ok, Err}
use Rattle.orc_rules.specs.Timed.{IsIn}
use Rattle.orc_word.specs.declared.view.View.{View}
use Rattle.orc_book.specs.declared.token.Token.{Token as Out}
use Rattle.orc_book.specs.Held.{Held, IsOut, AreBorn}
use Rattle.orc_book.specs.Stepping.{AreLeft, HaveCome}

pub two-added : {X : Type 0} (before mid after : List (Out X)) (k m : Out X) → mid ≡ before ++ k ∷ [] → after ≡ mid ++ m ∷ [] → after ≡ before ++ k ∷ m ∷ []
two-added before mid after k m e f = f ∙ ap (λ z. z ++ m ∷ []) e ∙ append_assoc before (k ∷ []) (m ∷ [])

pub two-born : {X : Type 0} (before mid after : List (Out X)) (k m : Out X) (b : Held) → mid ≡ before ++ k ∷ [] → after ≡ mid ++ m ∷ [] → IsOut b k → IsOut b m → AreBorn before after b
two-born {X} before mid after k m b e f o p = (k ∷ m ∷ [], two-added before mid after k m e f, its)
  where
    its : (j : Out X) → IsIn j (k ∷ m ∷ []) → IsOut b j
    its j (inl h) = subst (λ z. IsOut b z) (sym h) o
    its j (inr (inl h)) = subst (λ z. IsOut b z) (sym h) p
    its j (inr (inr i)) = elim i [ ]

-- two tokens with these passes
pub two-come : {X : Type 0} (before mid after : List (Out X)) (k m : Out X) (v w : View) → mid ≡ before ++ k ∷ [] → after ≡ mid ++ m ∷ [] → k.pass ≡ v → m.pass ≡ w → HaveCome before after (v ∷ w ∷ [])
two-come before mid after k m v w e f p q = (k ∷ m ∷ [], two-added before mid after k m e f, ap (λ z. z ∷ m.pass ∷ []) p ∙ ap (λ z. v ∷ z ∷ []) q)

-- nothing is added
pub none-born : {X A B : Type 0} (r : Result A B) (before after : List (Out X)) (b : Held) → after ≡ before → OnOk r (AreBorn before after b)
none-born (Ok x) before after b e = ([], e ∙ sym (append-nil before), λ k i. elim i [ ])
none-born (Err x) before after b e = tt

pub none-left : {A B : Type 0} (r : Result A B) (before after : List View) → after ≡ before → OnOk r (AreLeft before after)
none-left (Ok x) before after e = ([], e ∙ sym (append-nil before), λ v i. elim i [ ])
none-left (Err x) before after e = tt
