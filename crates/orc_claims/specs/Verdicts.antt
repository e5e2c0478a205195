-- Where a claim fails, and whether it was put to the test.
use Rattle.std.specs.Prelude.{ℕ, zero, leb, List, [], ◌∷◌, ◌++◌, Option, Some, None, Bool, true, false, cond, ◌&&◌, ◌||◌, length}
use Rattle.orc_rules.specs.Sites.{matches}
use Rattle.orc_rules.specs.declared.entry.State.{State}
use Rattle.orc_claims.specs.Claims.{any_meets, are_same_in_any_order, come_true, ends_so, is_one_of, number, published, up_to, is_counted, is_uncrowded, is_prepared, is_allowed, is_followed}
use Rattle.orc_claims.specs.declared.claim.Plain.{Plain}
use Rattle.orc_claims.specs.declared.claim.Plain.TheVariants.{Count, AtOnce, OnlyAfter, NoneAfter, EachThen, Ends, InOrder, InAnyOrder, OneOf}
use Rattle.orc_claims.specs.declared.claim.Claim.{Claim}
use Rattle.orc_claims.specs.declared.happening.Happening.{Happening}
use Rattle.orc_claims.specs.declared.verdict.Judged.{Judged}
use Rattle.orc_claims.specs.declared.verdict.Verdict.{Verdict}
use Rattle.orc_claims.specs.declared.verdict.Verdict.TheVariants.{Holds, FailsAt, FailsAtEnd}

-- the place, from 0, of the first happening that isn't as asked
abbrev pub first_bad : (List Happening → Happening → List Happening → Bool) → List Happening → List Happening → Option ℕ
first_bad good before [] = None
first_bad good before (h ∷ behind) = cond (good before h behind) (first_bad good (before ++ h ∷ []) behind) (Some (length before))

-- The place of the happening at which a claim fails. Of a number it is the one that is one too many.
abbrev pub place : Plain → List Happening → Option ℕ
place (Count e low most by) hs = first_bad (is_counted e most by) [] hs
place (AtOnce e most) hs = first_bad (is_uncrowded e most) [] hs
place (OnlyAfter e f) hs = first_bad (is_prepared e f) [] hs
place (NoneAfter e f) hs = first_bad (is_allowed e f) [] hs
place (EachThen e f within) hs = first_bad (is_followed e f within) [] hs
place _ hs = None

-- where a claim fails; at the end, where it does so at no happening
abbrev pub verdict_at : Option ℕ → Bool → Verdict
verdict_at (Some at) b = FailsAt at
verdict_at None true = Holds
verdict_at None false = FailsAtEnd

-- what it asks of the run as a whole: enough happenings, its end, all that it published
abbrev pub is_kept : Plain → List Happening → State → ℕ → Bool
is_kept (Count e low most by) hs end now = leb low (number e by hs)
is_kept (Ends halted quiet by) hs end now = ends_so halted quiet end && up_to by now
is_kept (InOrder vs) hs end now = matches vs.items (published hs)
is_kept (InAnyOrder vs) hs end now = are_same_in_any_order vs.items (published hs)
is_kept (OneOf vs) hs end now = is_one_of vs.items (published hs)
is_kept _ hs end now = true

-- whether a claim without conditions holds, and else where it fails
abbrev pub verdict_plain : Plain → List Happening → State → ℕ → Verdict
verdict_plain p hs end now = verdict_at (place p hs) (is_kept p hs end now)

-- the greatest number is 0: something never happens
abbrev pub is_none_at_all : Option ℕ → Bool
is_none_at_all (Some zero) = true
is_none_at_all _ = false

-- whether the run tests the claim: a happening meets what it is about, or it says that something never happens, or is on the end or publications
abbrev pub tests_plain : Plain → List Happening → Bool
tests_plain (Count e low most by) hs = is_none_at_all most || any_meets e [] 0 by hs
tests_plain (AtOnce e most) hs = any_meets e [] 0 None hs
tests_plain (OnlyAfter e f) hs = any_meets e [] 0 None hs
tests_plain (NoneAfter e f) hs = any_meets f [] 0 None hs
tests_plain (EachThen e f within) hs = any_meets e [] 0 None hs
tests_plain _ hs = true

-- whether a claim holds, and else where it fails; and whether it was put to the test
abbrev pub judged : Claim → List Happening → State → ℕ → Judged
judged c hs end now = cond (come_true c.conditions.items hs) (record { verdict = verdict_plain c.plain hs end now; tested = tests_plain c.plain hs }) (record { verdict = Holds; tested = false })

-- whether it says that the claim holds
abbrev pub says_so : Verdict → Bool
says_so Holds = true
says_so (FailsAt at) = false
says_so FailsAtEnd = false
