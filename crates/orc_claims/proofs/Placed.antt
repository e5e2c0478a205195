-- The happenings so far are as asked.
use Rattle.std.proofs.Common.{◌≡◌, ℕ, ◌<◌, ◌≤◌, ◌+◌, List, [], ◌∷◌, ◌++◌, Bool, true, false, cond, Some, None, length, take, drop, get_or, refl, sym, ap, ◌∙◌, arith}
use Rattle.std.proofs.lemmas.List.{drop_all, drop_more, length-take-le}
use Rattle.std.proofs.Math.Numerals.{suc-eq-add-one}
use Rattle.std.proofs.Math.Seq.{take-suc}
use Rattle.orc_claims.specs.declared.happening.Happening.{Happening}
use Rattle.orc_claims.specs.Verdicts.{first_bad}

-- those before the place are as asked, so the first one that isn't is one of the others
pub record IsGood (good : List Happening → Happening → List Happening → Bool) (at : ℕ) (hs : List Happening) : Type 0 where
  pub same : first_bad good [] hs ≡ first_bad good (take at hs) (drop at hs)

pub one_more : (hs : List Happening) (at : ℕ) (h : Happening) → at < length hs → h ≡ get_or hs at h → take (at + 1) hs ≡ take at hs ++ h ∷ []
one_more hs at h lt is = ap (λ n. take n hs) (sym (suc-eq-add-one at)) ∙ take-suc hs at h lt ∙ ap (λ x. take at hs ++ x ∷ []) (sym is)

pub one_less : (hs : List Happening) (at : ℕ) (h : Happening) → at < length hs → h ≡ get_or hs at h → drop at hs ≡ h ∷ drop (at + 1) hs
one_less hs at h lt is = drop_more hs at h lt ∙ ap (λ x. x ∷ drop (at + 1) hs) (sym is)

module _ (good : List Happening → Happening → List Happening → Bool) (hs : List Happening) where
  pub begun : IsGood good 0 hs
  begun = record { same = refl }

  turned : (at : ℕ) (h : Happening) → at < length hs → h ≡ get_or hs at h → IsGood good at hs → first_bad good [] hs ≡ cond (good (take at hs) h (drop (at + 1) hs)) (first_bad good (take at hs ++ h ∷ []) (drop (at + 1) hs)) (Some (length (take at hs)))
  turned at h lt is g = g.same ∙ ap (first_bad good (take at hs)) (one_less hs at h lt is)

  pub goes_on : (at : ℕ) (h : Happening) → at < length hs → h ≡ get_or hs at h → IsGood good at hs → good (take at hs) h (drop (at + 1) hs) ≡ true → IsGood good (at + 1) hs
  goes_on at h lt is g e = record {
    same = turned at h lt is g ∙ ap (λ b. cond b (first_bad good (take at hs ++ h ∷ []) (drop (at + 1) hs)) (Some (length (take at hs)))) e ∙ ap (λ xs. first_bad good xs (drop (at + 1) hs)) (sym (one_more hs at h lt is));
  }

  pub stops : (at : ℕ) (h : Happening) → at < length hs → h ≡ get_or hs at h → IsGood good at hs → good (take at hs) h (drop (at + 1) hs) ≡ false → first_bad good [] hs ≡ Some at
  stops at h lt is g e = turned at h lt is g ∙ ap (λ b. cond b (first_bad good (take at hs ++ h ∷ []) (drop (at + 1) hs)) (Some (length (take at hs)))) e ∙ ap Some (length-take-le at hs (omega (arith, lt)))

  pub done : (at : ℕ) → length hs ≤ at → IsGood good at hs → first_bad good [] hs ≡ None
  done at le g = g.same ∙ ap (first_bad good (take at hs)) (drop_all at hs le)
