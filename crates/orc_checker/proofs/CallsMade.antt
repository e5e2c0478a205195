-- Calls and their answers.
use Rattle.std.proofs.Common.{◌≡◌, ◌+◌, ◌-◌, ℕ, zero, suc, List, [], ◌∷◌, ◌++◌, length, map, Some, refl, sym, ap, ◌∙◌, subst, inl, inr, ⊎_elim, arith, length-append}
use Rattle.std.specs.Prelude.{slice_get, option_map}
use Rattle.orc_rules.specs.declared.value.Answer.{Answer}
use Rattle.orc_rules.specs.declared.value.Found.{Found}
use Rattle.orc_rules.specs.Sites.{Site}
use Rattle.orc_rules.specs.Timed.{Context, CallMade, says_of, IsIn, IsDue}
use Rattle.orc_checker.specs.declared.rest.Called.{Called}
use Rattle.orc_checker.specs.Calls.{Rest, told, told_of, AreNumbered, IsCall, IsDueNow, Keeps}
use Rattle.orc_term.proofs.Lists.{get-more}

length-told : (sites : List Site) (calls : List CallMade) → length (told_of sites calls) ≡ length calls
length-told sites [] = refl
length-told sites (c ∷ cs) = omega (arith, length-append (told_of sites cs) ((says_of sites c, c.at) ∷ []), length-told sites cs)

pub length-map : {X Y : Type 0} (f : X → Y) (xs : List X) → length (map f xs) ≡ length xs
length-map f [] = refl
length-map f (x ∷ xs) = ap suc (length-map f xs)

pub map-more : {X Y : Type 0} (f : X → Y) (xs : List X) (y : X) → map f (xs ++ y ∷ []) ≡ map f xs ++ f y ∷ []
map-more f [] y = refl
map-more f (x ∷ xs) y = ap (λ z. f x ∷ z) (map-more f xs y)

pub get-map : {X Y : Type 0} (f : X → Y) (xs : List X) (i : ℕ) (x : X) → slice_get xs i ≡ Some x → slice_get (map f xs) i ≡ Some (f x)
get-map f [] i x h = cc h
get-map f (y ∷ xs) zero x h = ap (option_map f) h
get-map f (y ∷ xs) (suc i) x h = get-map f xs i x h

-- as many calls are kept as there were
pub kept_length : (x : Context) (now : ℕ) (calls : List CallMade) (due : List ℕ) (r : Rest) → Keeps x now calls due r → length r.calls ≡ length calls
kept_length x now calls due r k = sym (length-map told r.calls) ∙ ap length k.calls_are ∙ length-told x.sites calls

-- a call that is kept is one that was made
pub record Made (sites : List Site) (calls : List CallMade) (i : ℕ) (t : Found × ℕ) : Type 0 where
  pub by : CallMade
  pub is_made : IsIn by calls
  pub number : by.number ≡ suc i
  pub tells : (says_of sites by, by.at) ≡ t

pub made_there : (sites : List Site) (calls : List CallMade) (i : ℕ) (t : Found × ℕ) → AreNumbered calls → slice_get (told_of sites calls) i ≡ Some t → Made sites calls i t
made_there sites [] i t n h = cc h
made_there sites (c ∷ cs) i t n h =
    ⊎_elim
    (λ e. let m = made_there sites cs i t n.1 e in record { by = m.by; is_made = inr m.is_made; number = m.number; tells = m.tells })
    (λ e. record { by = c; is_made = inl refl; number = n.0 ∙ ap suc (sym (e.0 ∙ length-told sites cs)); tells = e.1 })
    (get-more (told_of sites cs) (says_of sites c, c.at) i t h)

-- a call that is due at a time is due by the table
pub due_at_time : (x : Context) (now : ℕ) (calls : List CallMade) (due : List ℕ) (r : Rest) (k : ℕ) (c : Called) (a : Answer) (t : ℕ) → Keeps x now calls due r → IsCall r k c → IsDueNow c a t → IsDue x.sites calls k a t
due_at_time x now calls due r k c a t keeps call d =
    let m = made_there x.sites calls (k - 1) (told c) keeps.numbered (ap (λ z. slice_get z (k - 1)) (sym keeps.calls_are) ∙ get-map told r.calls (k - 1) c call.1) in
    record { by = m.by; is_made = m.is_made; is_k = omega (arith, m.number, call.0); delay = d.delay; says = ap (λ z. z.0) m.tells ∙ d.says; sum = d.sum ∙ ap (λ z. z + d.delay) (sym (ap (λ z. z.1) m.tells)); fits = d.fits }

pub is_due : (x : Context) (now : ℕ) (calls : List CallMade) (due : List ℕ) (r : Rest) (k : ℕ) (c : Called) (a : Answer) → Keeps x now calls due r → IsCall r k c → IsDueNow c a r.time → IsDue x.sites calls k a now
is_due x now calls due r k c a keeps call d = subst (IsDue x.sites calls k a) (sym keeps.time) (due_at_time x now calls due r k c a r.time keeps call d)
