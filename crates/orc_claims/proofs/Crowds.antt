-- How many calls are out after one happening more.
use Rattle.std.proofs.Common.{◌≡◌, ℕ, ◌<◌, ◌≤◌, ◌+◌, List, [], ◌∷◌, ◌++◌, true, length, take, get_or, refl, sym, ap, ◌∙◌, rules}
use Rattle.std.specs.Prelude.{leb}
use Rattle.orc_claims.specs.declared.claim.Event.{Event}
use Rattle.orc_claims.specs.declared.happening.Happening.{Happening}
use Rattle.orc_claims.specs.Claims.{out, out_after}
use Rattle.orc_claims.proofs.Placed.{one_more}

out_push : (e : Event) (n : ℕ) (xs : List Happening) (h : Happening) → out e n (xs ++ h ∷ []) ≡ out_after e (out e n xs) h
out_push e n [] h = refl
out_push e n (x ∷ xs) h = out_push e (out_after e n x) xs h

pub counted_on : (e : Event) (hs : List Happening) (at : ℕ) (h : Happening) (n m : ℕ) → at < length hs → h ≡ get_or hs at h → n ≡ out e 0 (take at hs) → m ≡ out_after e n h → m ≡ out e 0 (take (at + 1) hs)
counted_on e hs at h n m lt is before after = after ∙ ap (λ k. out_after e k h) before ∙ sym (out_push e 0 (take at hs) h) ∙ ap (out e 0) (sym (one_more hs at h lt is))

pub uncrowded : (e : Event) (hs : List Happening) (at : ℕ) (h : Happening) (n m most : ℕ) → n ≡ out e 0 (take at hs) → m ≡ out_after e n h → m ≤ most → leb (out_after e (out e 0 (take at hs)) h) most ≡ true
uncrowded e hs at h n m most before after le = ap (λ k. leb k most) (sym (after ∙ ap (λ k. out_after e k h) before)) ∙ leb_true m most le
  where
    leb_true : (m most : ℕ) → m ≤ most → leb m most ≡ true
    leb_true m most le = search rules
