-- The calls of a part in the run around it.
use Rattle.std.proofs.Common.{◌≡◌, ◌<◌, ◌+◌, ◌^◌, ℕ, List, [], ◌∷◌, ◌++◌, length, refl, sym, ap, ◌∙◌, subst, inl, inr, false, Option, Some, None, arith}
use Rattle.std.specs.Prelude.{slice_get}
use Rattle.std.specs.List.{AllByRecursion}
use Rattle.orc_rules.specs.declared.value.Value.{Value}
use Rattle.orc_rules.specs.declared.value.Answer.{Answer}
use Rattle.orc_rules.specs.Sites.{Site, built_in, scripted, site_answer, find, is_script, is_scripted}
use Rattle.orc_rules.specs.Timed.{CallMade, IsIn, IsDue, nth_of, says_of}
use Rattle.orc_subrun.specs.declared.numbers.Numbering.{Numbering}
use Rattle.orc_subrun.specs.Grafts.{IsNewCall}

-- a call that a part has made at time 0, which no script answers
abbrev pub IsOwnCall : List Site → CallMade → Type 0
IsOwnCall sites c = (0 < c.number) × (c.at ≡ 0) × (is_scripted sites c.site ≡ false)

-- the part's calls as they stand in the run around it, which has made those before them
abbrev pub new_calls : Numbering → ℕ → List CallMade → List CallMade → List CallMade
new_calls n now before [] = []
new_calls n now before (c ∷ cs) = record { number = n.calls + c.number; site = c.site; args = c.args; nth = nth_of c.site c.args (new_calls n now before cs ++ before); at = now } ∷ new_calls n now before cs

pub as_many : (n : Numbering) (now : ℕ) (before cs : List CallMade) → length (new_calls n now before cs) ≡ length cs
as_many n now before [] = refl
as_many n now before (c ∷ cs) = omega (arith, as_many n now before cs)

pub are_new : (sites : List Site) (n : Numbering) (now : ℕ) (before cs : List CallMade) → n.calls ≡ length before → AllByRecursion (IsOwnCall sites) cs → AllByRecursion (IsNewCall sites (length before)) (new_calls n now before cs)
are_new sites n now before [] e all = tt
are_new sites n now before (c ∷ cs) e all = ((omega (arith, e, all.0.0), all.0.2), are_new sites n now before cs e all.1)

all_in : {X : Type 0} (P : X → Type 0) (x : X) (xs : List X) → AllByRecursion P xs → IsIn x xs → P x
all_in P x [] all i = elim i [ ]
all_in P x (y ∷ ys) all (inl e) = subst P (sym e) all.0
all_in P x (y ∷ ys) all (inr i) = all_in P x ys all.1 i

-- only a script's answers go by how many such calls there were
same_answer : (o : Option Site) (args : List Value) (i j : ℕ) → is_script o ≡ false → site_answer o args i ≡ site_answer o args j
same_answer None args i j h = refl
same_answer (Some (built_in b)) args i j h = refl
same_answer (Some (scripted ls)) args i j h = cc h

found : (n : Numbering) (now : ℕ) (before : List CallMade) (by : CallMade) (cs : List CallMade) → IsIn by cs
    → (c : CallMade) × IsIn c (new_calls n now before cs ++ before) × (c.number ≡ n.calls + by.number) × (c.site ≡ by.site) × (c.args ≡ by.args) × (c.at ≡ now)
found n now before by [] i = elim i [ ]
found n now before by (c ∷ cs) (inl e) = (_, inl refl, ap (λ (w : CallMade). n.calls + w.number) (sym e), ap (λ (w : CallMade). w.site) (sym e), ap (λ (w : CallMade). w.args) (sym e), refl)
found n now before by (c ∷ cs) (inr i) = let r = found n now before by cs i in (r.0, inr r.1, r.2, r.3, r.4, r.5)

-- what is due at once in the part is due at once in the run around it
pub due_in : (sites : List Site) (n : Numbering) (now : ℕ) (before cs : List CallMade) (k : ℕ) (a : Answer) (t : ℕ)
    → AllByRecursion (IsOwnCall sites) cs → t ≡ 0 → now < 2 ^ 64 → IsDue sites cs k a t → IsDue sites (new_calls n now before cs ++ before) (n.calls + k) a now
due_in sites n now before cs k a t all zero fits d =
    let f = found n now before d.by cs d.is_made in
    let own = all_in (IsOwnCall sites) d.by cs all d.is_made in
    let same : says_of sites f.0 ≡ says_of sites d.by = (λ i. find sites (f.3 i) (f.4 i) (CallMade.nth f.0)) ∙ same_answer (slice_get sites (CallMade.site d.by)) (CallMade.args d.by) (CallMade.nth f.0) (CallMade.nth d.by) own.2 in
    record { by = f.0; is_made = f.1; is_k = f.2 ∙ ap (λ j. n.calls + j) d.is_k; delay = d.delay; says = same ∙ d.says; sum = omega (arith, f.5, own.1, d.sum, zero); fits = fits }
