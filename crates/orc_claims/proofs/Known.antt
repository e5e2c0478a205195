-- What is known stays so.
use Rattle.std.proofs.Common.{◌≡◌, ℕ, ◌<◌, ◌+◌, List, [], ◌∷◌, ◌++◌, Bool, true, false, All, Some, None, length, take, get_or, sym, ap, subst, ◌∙◌, refl}
use Rattle.std.specs.Prelude.{◌&&◌, ◌||◌, ◌-◌, is_some}
use Rattle.std.specs.Global.{Vec}
use Rattle.orc_claims.specs.declared.claim.Event.{Event}
use Rattle.orc_claims.specs.declared.happening.Happening.{Happening}
use Rattle.orc_claims.specs.declared.event_match.Bound.{Bound}
use Rattle.orc_claims.specs.Claims.{any_meets, if_met, is_prepared, up_to}
use Rattle.orc_claims.specs.Known.{AreMet}
use Rattle.orc_claims.specs.Meets.{meets}
use Rattle.orc_claims.proofs.Placed.{one_more}

-- what is true of all that are known is true of one that is the same
pub known_is : (p : List Bound → Bool) (known : List (Vec Bound)) (at : ℕ) (k : Vec Bound) (given : List Bound) → All (λ k. p k.items ≡ true) known → at < length known → k ≡ get_or known at k → k.items ≡ given → p given ≡ true
known_is p known at k given all lt is same = subst (λ xs. p xs ≡ true) same (subst (λ (x : Vec Bound). p x.items ≡ true) (sym is) (all at k lt))

or_true : (b c d : Bool) → (c ≡ true → d ≡ true) → (b || c) ≡ true → (b || d) ≡ true
or_true true c d f e = refl
or_true false c d f e = f e

met_longer : (e : Event) (given : List Bound) (xs ys : List Happening) → any_meets e given 0 None xs ≡ true → any_meets e given 0 None (xs ++ ys) ≡ true
met_longer e given [] ys h = absurd (cc h)
met_longer e given (x ∷ xs) ys h = or_true (is_some (meets e x given) && up_to None (x.time - 0)) (any_meets e given 0 None xs) (any_meets e given 0 None (xs ++ ys)) (met_longer e given xs ys) h

pub still_met : (e : Event) (hs : List Happening) (at : ℕ) (h : Happening) (known : List (Vec Bound)) → at < length hs → h ≡ get_or hs at h → AreMet e (take at hs) known → AreMet e (take (at + 1) hs) known
still_met e hs at h known lt is all = λ k d small. subst (λ xs. any_meets e (get_or known k d).items 0 None xs ≡ true) (sym (one_more hs at h lt is)) (met_longer e (get_or known k d).items (take at hs) (h ∷ []) (all k d small))

-- a happening that meets an event with known values is prepared
pub prepared : (e f : Event) (before : List Happening) (h : Happening) (given : List Bound) → meets e h [] ≡ Some given → any_meets f given 0 None before ≡ true → true ≡ is_prepared e f before h []
prepared e f before h given met known = sym (ap (λ m. if_met m (λ xs. any_meets f xs 0 None before)) met ∙ known)
