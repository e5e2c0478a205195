-- What is reported of a claim over the trials of its ways. A trial is what claims see of one run; a way has one for each order.
use Rattle.std.specs.Prelude.{ℕ, suc, ◌+◌, List, [], ◌∷◌, Option, Some, None, Bool, false, cond, ◌||◌}
use Rattle.std.specs.List.{count_by, list_any}
use Rattle.orc_claims.specs.Verdicts.{says_so}
use Rattle.orc_claims.specs.declared.claim.Claim.{Claim}
use Rattle.orc_claims.specs.declared.verdict.Judged.{Judged}
use Rattle.orc_tally.specs.Sight.{Sight, fails, said, tests}
use Rattle.orc_tally.specs.declared.told.Failure.{Failure}
use Rattle.orc_tally.specs.declared.told.Told.{Told}

-- the first one if there is one, and otherwise the other
abbrev pub first_of : Option Failure → Option Failure → Option Failure
first_of None other = other
first_of (Some one) other = Some one

-- ---- of a way

-- its first trial in which the claim fails, where these are its trials from an order on
abbrev pub first_failure : Claim → ℕ → ℕ → List Sight → Option Failure
first_failure c way order [] = None
first_failure c way order (s ∷ ss) = cond (fails c s) (Some (record { way = way; order = order; verdict = (said c s).verdict })) (first_failure c way (suc order) ss)

-- whether the claim fails in one of its trials, and whether it was put to the test in one
abbrev pub fails_in : Claim → List Sight → Bool
fails_in c ss = list_any (fails c) ss

abbrev pub tests_in : Claim → List Sight → Bool
tests_in c ss = list_any (tests c) ss

-- what is reported of one way, the way of this number
abbrev pub told_of_way : Claim → ℕ → List Sight → Told
told_of_way c way ss = record { failing = cond (fails_in c ss) 1 0; first = first_failure c way 0 ss; tested = tests_in c ss }

-- ---- of all ways

-- the first trial in which the claim fails, where these are the trials of the ways from one on
abbrev pub first_in_ways : Claim → ℕ → List (List Sight) → Option Failure
first_in_ways c way [] = None
first_in_ways c way (ss ∷ sss) = first_of (first_failure c way 0 ss) (first_in_ways c (suc way) sss)

-- in how many ways it fails, its first failure, and whether it was put to the test at all
abbrev pub told : Claim → List (List Sight) → Told
told c sss = record { failing = count_by (fails_in c) sss; first = first_in_ways c 0 sss; tested = list_any (tests_in c) sss }

-- ---- as it grows

-- before the first trial
abbrev pub nothing : Told
nothing = record { failing = 0; first = None; tested = false }

-- of one way, with one trial more
abbrev pub noted : ℕ → ℕ → Told → Judged → Told
noted way order t j = cond (says_so j.verdict) (record { failing = t.failing; first = t.first; tested = t.tested || j.tested }) (record { failing = 1; first = first_of t.first (Some (record { way = way; order = order; verdict = j.verdict })); tested = t.tested || j.tested })

-- of some ways, and then of others
abbrev pub joined : Told → Told → Told
joined t u = record { failing = t.failing + u.failing; first = first_of t.first u.first; tested = t.tested || u.tested }

-- both for each claim
abbrev pub noted_all : ℕ → ℕ → List Told → List Judged → List Told
noted_all way order (t ∷ ts) (j ∷ js) = noted way order t j ∷ noted_all way order ts js
noted_all way order _ _ = []

abbrev pub joined_all : List Told → List Told → List Told
joined_all (t ∷ ts) (u ∷ us) = joined t u ∷ joined_all ts us
joined_all _ _ = []
