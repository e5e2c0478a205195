-- A claim is said to hold where it holds.
use Rattle.std.proofs.Common.{◌≡◌, ℕ, suc, take, ◌+◌, ◌<◌, ◌≤◌, List, [], ◌∷◌, ◌++◌, Bool, true, false, cond, Option, Some, None, length, map, count_by, refl, sym, ap, ◌∙◌, arith, rules}
use Rattle.std.specs.Prelude.{◌&&◌, ◌||◌, not, leb, is_none, is_some}
use Rattle.std.proofs.lemmas.List.{take_all}
use Rattle.std.proofs.lemmas.List.Sums.{sum_by-append, sum_by-cons}
use Rattle.orc_rules.specs.declared.entry.State.{State}
use Rattle.orc_claims.specs.declared.claim.Event.{Event}
use Rattle.orc_claims.specs.declared.claim.Claim.{Claim}
use Rattle.orc_claims.specs.declared.claim.Plain.{Plain}
use Rattle.orc_claims.specs.declared.claim.Plain.TheVariants.{Count, AtOnce, OnlyAfter, NoneAfter, EachThen, Ends, InOrder, InAnyOrder, OneOf}
use Rattle.orc_claims.specs.declared.happening.Happening.{Happening}
use Rattle.orc_claims.specs.declared.verdict.Judged.{Judged}
use Rattle.orc_claims.specs.declared.verdict.Verdict.TheVariants.{Holds}
use Rattle.orc_claims.specs.Claims.{come_true, counts, each_is, holds, holds_plain, is_allowed, is_counted, is_followed, is_prepared, is_uncrowded, number, up_to}
use Rattle.orc_claims.specs.Verdicts.{first_bad, is_kept, judged, says_so, tests_plain, verdict_at, verdict_plain}

said_next : (b : Bool) (at at' : Option ℕ) (each : Bool) → is_some at' ≡ true → says_so (verdict_at at true) ≡ each → says_so (verdict_at (cond b at at') true) ≡ (b && each)
said_next true at at' each some e = e
said_next false at (Some k) each some e = refl
said_next false at None each some e = absurd (cc some)

-- each is as asked where none is the first that isn't
each_where_none : (good : List Happening → Happening → List Happening → Bool) (before hs : List Happening) → says_so (verdict_at (first_bad good before hs) true) ≡ each_is good before hs
each_where_none good before [] = refl
each_where_none good before (h ∷ hs) = said_next (good before h hs) (first_bad good (before ++ h ∷ []) hs) (Some (length before)) (each_is good (before ++ h ∷ []) hs) refl (each_where_none good (before ++ h ∷ []) hs)

says_as : (at : Option ℕ) (b : Bool) → says_so (verdict_at at b) ≡ (b && is_none at)
says_as None true = refl
says_as None false = refl
says_as (Some at) true = refl
says_as (Some at) false = refl

counted_first : (p : Happening → Bool) (h : Happening) (hs : List Happening) (b : Bool) → p h ≡ b → count_by p (h ∷ hs) ≡ cond b 1 0 + count_by p hs
counted_first p h hs b e = sum_by-cons (λ x. cond (p x) 1 0) h hs ∙ ap (λ z. cond z 1 0 + count_by p hs) e

counted_last : (p : Happening → Bool) (hs : List Happening) (h : Happening) (b : Bool) → p h ≡ b → count_by p (hs ++ h ∷ []) ≡ count_by p hs + cond b 1 0
counted_last p hs h b e = sum_by-append (λ x. cond (p x) 1 0) hs (h ∷ []) ∙ ap (λ z. count_by p hs + z) (counted_first p h [] b e ∙ omega arith)

-- a number that is too large with one more is so with still more
over : (most : Option ℕ) (n k : ℕ) → up_to most (suc n) ≡ false → up_to most (n + (1 + k)) ≡ false
over None n k e = absurd (cc e)
over (Some m) n k e = leb_false (n + (1 + k)) m (omega (arith, false_leb (suc n) m e))
  where
    false_leb : (n m : ℕ) → leb n m ≡ false → m < n
    false_leb n m e = search rules

    leb_false : (n m : ℕ) → m < n → leb n m ≡ false
    leb_false n m lt = search rules

-- none is one too many where their number isn't
none_too_many : (e : Event) (most by : Option ℕ) (before hs : List Happening) → up_to most (number e by before) ≡ true → is_none (first_bad (is_counted e most by) before hs) ≡ up_to most (number e by before + number e by hs)
none_too_many e most by before [] under = sym under ∙ ap (up_to most) (omega arith)
none_too_many e most by before (h ∷ hs) under = go (none_too_many e most by (before ++ h ∷ []) hs) (counts e by h) refl (up_to most (suc (number e by before))) refl
  where
    turn : (b c : Bool) → counts e by h ≡ b → up_to most (suc (number e by before)) ≡ c → first_bad (is_counted e most by) before (h ∷ hs) ≡ cond (not b || c) (first_bad (is_counted e most by) (before ++ h ∷ []) hs) (Some (length before))
    turn b c i j = λ k. cond (not (i k) || j k) (first_bad (is_counted e most by) (before ++ h ∷ []) hs) (Some (length before))

    go : (up_to most (number e by (before ++ h ∷ [])) ≡ true → is_none (first_bad (is_counted e most by) (before ++ h ∷ []) hs) ≡ up_to most (number e by (before ++ h ∷ []) + number e by hs)) → (b : Bool) → counts e by h ≡ b → (c : Bool) → up_to most (suc (number e by before)) ≡ c → is_none (first_bad (is_counted e most by) before (h ∷ hs)) ≡ up_to most (number e by before + number e by (h ∷ hs))
    go rest false i c j =
        let last = counted_last (counts e by) before h false i in
        let first = counted_first (counts e by) h hs false i in
        let same : number e by (before ++ h ∷ []) ≡ number e by before = omega (arith, last) in
        let all : number e by (before ++ h ∷ []) + number e by hs ≡ number e by before + number e by (h ∷ hs) = omega (arith, last, first) in
        ap is_none (turn false c i j) ∙ rest (ap (up_to most) same ∙ under) ∙ ap (up_to most) all
    go rest true i true j =
        let last = counted_last (counts e by) before h true i in
        let first = counted_first (counts e by) h hs true i in
        let same : number e by (before ++ h ∷ []) ≡ suc (number e by before) = omega (arith, last) in
        let all : number e by (before ++ h ∷ []) + number e by hs ≡ number e by before + number e by (h ∷ hs) = omega (arith, last, first) in
        ap is_none (turn true true i j) ∙ rest (ap (up_to most) same ∙ j) ∙ ap (up_to most) all
    go rest true i false j = ap is_none (turn true false i j) ∙ sym (ap (λ n. up_to most (number e by before + n)) (counted_first (counts e by) h hs true i) ∙ over most (number e by before) (number e by hs) j)

says_kept : (b : Bool) → says_so (verdict_at None b) ≡ b
says_kept true = refl
says_kept false = refl

says_plain : (p : Plain) (hs : List Happening) (end : State) (now : ℕ) → says_so (verdict_plain p hs end now) ≡ holds_plain p hs end now
says_plain (Count e low most by) hs end now = says_as (first_bad (is_counted e most by) [] hs) (leb low (number e by hs)) ∙ ap (λ b. leb low (number e by hs) && b) (none_too_many e most by [] hs (under most) ∙ ap (up_to most) (omega arith))
  where
    under : (most : Option ℕ) → up_to most 0 ≡ true
    under None = refl
    under (Some m) = search rules
says_plain (AtOnce e most) hs end now = each_where_none (is_uncrowded e most) [] hs
says_plain (OnlyAfter e f) hs end now = each_where_none (is_prepared e f) [] hs
says_plain (NoneAfter e f) hs end now = each_where_none (is_allowed e f) [] hs
says_plain (EachThen e f within) hs end now = each_where_none (is_followed e f within) [] hs
says_plain (Ends halted quiet by) hs end now = says_kept (is_kept (Ends halted quiet by) hs end now)
says_plain (InOrder vs) hs end now = says_kept (is_kept (InOrder vs) hs end now)
says_plain (InAnyOrder vs) hs end now = says_kept (is_kept (InAnyOrder vs) hs end now)
says_plain (OneOf vs) hs end now = says_kept (is_kept (OneOf vs) hs end now)

says : (c : Claim) (hs : List Happening) (end : State) (now : ℕ) → says_so (Judged.verdict (judged c hs end now)) ≡ holds c hs end now
says c hs end now = go (come_true c.conditions.items hs)
  where
    go : (b : Bool) → says_so (Judged.verdict (cond {A = Judged} b (record { verdict = verdict_plain c.plain hs end now; tested = tests_plain c.plain hs }) (record { verdict = Holds; tested = false }))) ≡ (not b || holds_plain c.plain hs end now)
    go true = says_plain c.plain hs end now
    go false = refl

pub says_what_holds : (cs : List Claim) (hs : List Happening) (end : State) (now : ℕ) (js : List Judged) (n : ℕ) → length cs ≤ n → js ≡ map (λ c. judged c hs end now) (take n cs) → map (λ (j : Judged). says_so j.verdict) js ≡ map (λ c. holds c hs end now) cs
says_what_holds cs hs end now js n le e = ap (map (λ (j : Judged). says_so j.verdict)) (e ∙ ap (map (λ c. judged c hs end now)) (take_all n cs le)) ∙ each cs
  where
    each : (cs : List Claim) → map (λ (j : Judged). says_so j.verdict) (map (λ c. judged c hs end now) cs) ≡ map (λ c. holds c hs end now) cs
    each [] = refl
    each (c ∷ cs) = λ i. says c hs end now i ∷ each cs i
