-- The ways of a test's cases, and their scripts.
use Rattle.std.proofs.Common.{◌≡◌, ◌+◌, ◌++◌, ◌∷◌, ◌<◌, ℕ, suc, List, [], Some, arith, length, subst, sym}
use Rattle.std.specs.List.{AllZip}
use Rattle.std.proofs.lemmas.List.{append-nil, append_assoc}
use Rattle.orc_ways.specs.Drafts.{Test}
use Rattle.orc_cases.specs.Ways.{CaseWays, ways_of}
use Rattle.orc_run.specs.Tested.{AreScripts, AreWays}
use Rattle.orc_run.specs.declared.scripts.CaseScripts.{CaseScripts}

-- those of the next case behind those of some
next_ways : (t : Test) (case : ℕ) (cs : List CaseWays) (c : CaseWays) → AreWays t case cs → ways_of t (case + length cs) ≡ Some c → AreWays t case (cs ++ c ∷ [])
next_ways t case [] c are is = let here : case + 0 ≡ case = omega arith in (subst (λ at. ways_of t at ≡ Some c) here is, tt)
next_ways t case (d ∷ cs) c (first, are) is = let here : case + length (d ∷ cs) ≡ suc case + length cs = omega arith in (first, next_ways t (suc case) cs c are (subst (λ at. ways_of t at ≡ Some c) here is))

pub one_case : (t : Test) (cs : List CaseWays) (c : CaseWays) (at : ℕ) → AreWays t 0 cs → at ≡ length cs → ways_of t at ≡ Some c → AreWays t 0 (cs ++ c ∷ [])
one_case t cs c at are here is = let there : at ≡ 0 + length cs = omega (arith, here) in next_ways t 0 cs c are (subst (λ n. ways_of t n ≡ Some c) there is)

-- the scripts of one case more,
pub one_written : (most : ℕ) (behind : List ℕ) (c : CaseWays) (more cs : List CaseWays) (s : CaseScripts) (ss : List CaseScripts) → ((xs : List CaseScripts) → AllZip (AreScripts most behind) (c ∷ more) xs → AllZip (AreScripts most behind) cs (ss ++ xs)) → AreScripts most behind c s → (xs : List CaseScripts) → AllZip (AreScripts most behind) more xs → AllZip (AreScripts most behind) cs ((ss ++ s ∷ []) ++ xs)
one_written most behind c more cs s ss left is xs are = subst (AllZip (AreScripts most behind) cs) (sym (append_assoc ss (s ∷ []) xs)) (left (s ∷ xs) (is, are))

-- and of all where none is left
pub all_written : (most : ℕ) (behind : List ℕ) (cs rest : List CaseWays) (ss : List CaseScripts) → length rest < 1 → ((xs : List CaseScripts) → AllZip (AreScripts most behind) rest xs → AllZip (AreScripts most behind) cs (ss ++ xs)) → AllZip (AreScripts most behind) cs ss
all_written most behind cs [] ss few left = subst (AllZip (AreScripts most behind) cs) (append-nil ss) (left [] tt)
all_written most behind cs (c ∷ rest) ss few left = absurd (omega (arith, few))
