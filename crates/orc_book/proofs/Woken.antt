-- Tokens that have come out stay out while the records stay.
use Rattle.std.proofs.Common.{◌≡◌, ◌≤◌, ◌+◌, ℕ, zero, suc, List, [], ◌∷◌, ◌++◌, Bool, true, false, nat_eq, eq-eqb, refl, sym, ap, ◌∙◌, subst, arith, append_assoc, ⊎_elim, inl, inr, ◌⊎◌, Some}
use Rattle.std.proofs.lemmas.Bool.{eqb-true}
use Rattle.orc_indexes.specs.Same.{is_this, weight}
use Rattle.orc_indexes.proofs.Weight.{this_is, this_not, weight-append}
use Rattle.orc_rules.specs.Timed.{IsIn}
use Rattle.orc_tables.specs.Steps.{group_at}
use Rattle.orc_tables.specs.Tokens.{IsHeld}
use Rattle.orc_tables.specs.declared.records.Token.{Token}
use Rattle.orc_book.specs.declared.token.Token.{Token as Out}
use Rattle.orc_book.specs.Held.{Held, IsOut, IsMarked, AreBorn, AreUnmarked, HaveStayed, HaveWoken, is_kept, mark_at, word_at}

pub stay-on : (b b' b'' : Held) → HaveStayed b b' → HaveStayed b' b'' → HaveStayed b b''
stay-on b b' b'' S T = (T.0 ∙ S.0, λ i. T.1 i ∙ S.1 i, T.2 ∙ S.2)

pub out-on : {X : Type 0} (b b' : Held) (k : Out X) → HaveStayed b b' → IsOut b k → IsOut b' k
out-on b b' k S o =
    let t : Token = o.0 in
    let h = o.1 in
    (t, (subst (λ z. IsHeld z.slots k.slot t) (sym S.0) h.0, h.1, h.2 ∙ ap Some (sym (S.1 (group_at b'.ledger.steps t.step) ∙ ap (λ z. word_at b.posts (group_at z.steps t.step)) S.0))))

pub born-on : {X : Type 0} (before after : List (Out X)) (b b' : Held) → HaveStayed b b' → AreBorn before after b → AreBorn before after b'
born-on before after b b' S B = (B.0, B.1, λ k i. out-on b b' k S (B.2 k i))

in_end : {X : Type 0} (xs : List X) (x y : X) → IsIn y (xs ++ x ∷ []) → IsIn y xs ⊎ (y ≡ x)
in_end [] x y (inl e) = inr e
in_end [] x y (inr i) = elim i [ ]
in_end (z ∷ xs) x y (inl e) = inl (inl e)
in_end (z ∷ xs) x y (inr i) = ⊎_elim (λ j. inl (inr j)) (λ e. inr e) (in_end xs x y i)

pub born-more : {X : Type 0} (before after after' : List (Out X)) (k : Out X) (b b' : Held) → HaveStayed b b' → AreBorn before after b → after' ≡ after ++ k ∷ [] → IsOut b' k → AreBorn before after' b'
born-more {X} before after after' k b b' S B e o = (
  B.0 ++ k ∷ [],
  e ∙ ap (λ xs. xs ++ k ∷ []) B.1 ∙ append_assoc before B.0 (k ∷ []),
  λ j i. ⊎_elim (λ h. out-on b b' j S (B.2 j h)) (λ h. subst (λ z. IsOut b' z) (sym h) o) (in_end B.0 k j i),
)

-- ---- tokens that were kept come out once

kept_is : (n : ℕ) → 1 ≤ n → is_kept n ≡ 1
kept_is zero le = absurd (omega (arith, le))
kept_is (suc n) le = refl

kept_few : (m n : ℕ) → (m ≡ n) ⊎ (m ≡ 0) → is_kept m ≤ is_kept n
kept_few m n (inl e) = omega (arith, ap is_kept e)
kept_few m n (inr e) = omega (arith, ap is_kept e)

fewer_on : (l m n : ℕ) → (m ≡ l) ⊎ (m ≡ 0) → (n ≡ m) ⊎ (n ≡ 0) → (n ≡ l) ⊎ (n ≡ 0)
fewer_on l m n (inl d) (inl e) = inl (e ∙ d)
fewer_on l m n (inr d) (inl e) = inr (e ∙ d)
fewer_on l m n d (inr e) = inr e

pub marked-none : (ms : List ℕ) (slot : ℕ) (ms' : List ℕ) → IsMarked ms slot 0 ms' → AreUnmarked ms ms'
marked-none ms slot ms' M i = by (nat_eq i slot) refl
  where
    by : (b : Bool) → nat_eq i slot ≡ b → (mark_at ms' i ≡ mark_at ms i) ⊎ (mark_at ms' i ≡ 0)
    by true e = inr (ap (mark_at ms') (eqb-true i slot e) ∙ M.0)
    by false e = inl (M.1 i (λ same. cc (eq-eqb i slot same, e)))

module _ {X : Type 0} (ms : List ℕ) (before : List (Out X)) where
  module _ (mid ms' : List ℕ) (after : List (Out X)) (W : HaveWoken ms mid before after) where
    pub woken-on : AreUnmarked mid ms' → HaveWoken ms ms' before after
    woken-on U =
        record {
          more = W.more;
          added = W.added;
          kept = W.kept;
          once = λ i. omega (arith, W.once i, kept_few (mark_at ms' i) (mark_at mid i) (U i));
          others = λ i. fewer_on (mark_at ms i) (mark_at mid i) (mark_at ms' i) (W.others i) (U i);
        }

    module _ (after' : List (Out X)) (k : Out X) (least : 1 ≤ k.serial) (was : mark_at mid k.slot ≡ k.serial) (M : IsMarked mid k.slot 0 ms') (e : after' ≡ after ++ k ∷ []) where
      first : (mark_at mid k.slot ≡ mark_at ms k.slot) ⊎ (mark_at mid k.slot ≡ 0) → mark_at ms k.slot ≡ k.serial
      first (inl d) = sym d ∙ was
      first (inr d) = absurd (omega (arith, d, was, least))

      one : (i : ℕ) (b : Bool) → nat_eq i k.slot ≡ b → weight (λ (j : Out X). is_this i j.slot) (W.more ++ k ∷ []) + is_kept (mark_at ms' i) ≤ is_kept (mark_at ms i)
      one i true h =
          let same = eqb-true i k.slot h in
          omega (
            arith,
            W.once i,
            weight-append (λ (j : Out X). is_this i j.slot) W.more (k ∷ []),
            this_is i k.slot same,
            ap is_kept (ap (mark_at ms') same ∙ M.0),
            ap is_kept (ap (mark_at mid) same ∙ was),
            kept_is k.serial least,
          )
      one i false h =
          let off : i ≡ k.slot → ⊥ = λ same. cc (eq-eqb i k.slot same, h) in
          omega (arith, W.once i, weight-append (λ (j : Out X). is_this i j.slot) W.more (k ∷ []), this_not i k.slot off, ap is_kept (M.1 i off))

      pub woken-more : HaveWoken ms ms' before after'
      woken-more =
          record {
            more = W.more ++ k ∷ [];
            added = e ∙ ap (λ xs. xs ++ k ∷ []) W.added ∙ append_assoc before W.more (k ∷ []);
            kept = λ j i. ⊎_elim (λ h. W.kept j h) (λ h. subst (λ (z : Out X). (1 ≤ z.serial) × (mark_at ms z.slot ≡ z.serial)) (sym h) (least, first (W.others k.slot))) (in_end W.more k j i);
            once = λ i. one i (nat_eq i k.slot) refl;
            others = λ i. fewer_on (mark_at ms i) (mark_at mid i) (mark_at ms' i) (W.others i) (marked-none mid k.slot ms' M i);
          }
