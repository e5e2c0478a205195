-- What the code finds of a case is the case.
use Rattle.std.proofs.Common.{◌≡◌, ◌<◌, ◌≤◌, ℕ, List, Some, None, length, map, sym, ap, ◌∙◌}
use Rattle.orc_ways.specs.declared.limits.TheConstants.{MOST_WAYS}
use Rattle.orc_ways.specs.declared.test.ServiceLine.{ServiceLine as CodeServiceLine}
use Rattle.orc_ways.specs.declared.test.Test.{Test}
use Rattle.orc_ways.specs.Lines.{Service}
use Rattle.orc_ways.specs.Drafts.{ServiceLine}
use Rattle.orc_ways.specs.Drafting.{service_lines_of, test_of}
use Rattle.orc_cases.specs.Services.{names, new_names, others_of, services_of}
use Rattle.orc_cases.specs.Texts.{halts_text}
use Rattle.orc_cases.specs.Sizes.{ways_from_size}
use Rattle.orc_cases.specs.Ways.{CaseWays, case_of, choices_of, combinations, line_of, ways_of, within_limit}
use Rattle.orc_cases.specs.Values.{services_at}
use Rattle.orc_cases.specs.Cases.{case_at}
use Rattle.orc_cases.proofs.Limit.{few, size_counts, too_many}

of_services : ℕ → List ServiceLine → CaseWays
of_services case ls = record { lines = map line_of (services_of case ls); halts = halts_text (others_of case ls) }

module _ (t : Test) (case : ℕ) (ls : List CodeServiceLine) (found places : List ℕ) (size : ℕ) (lines_are : ls ≡ t.services.items) (found_are : services_at ls found ≡ services_of case (service_lines_of ls)) (places_are : places ≡ found) (size_is : size ≡ ways_from_size 1 (services_at ls places)) where
  is_case : case_at ls places ≡ case_of (test_of t) case
  unfolding of_services
  is_case =
      ap (λ (ss : List Service). record { lines = map line_of ss; halts = halts_text (new_names (names ss) (map (λ (l : ServiceLine). l.service) (service_lines_of ls))) }) (ap (λ (ns : List ℕ). services_at ls ns) places_are ∙ found_are)
      ∙ ap (λ (xs : List CodeServiceLine). of_services case (service_lines_of xs)) lines_are

  pub none_of : MOST_WAYS < size → None ≡ ways_of (test_of t) case
  none_of over = sym (ap within_limit (sym is_case) ∙ too_many (services_at ls places) (case_at ls places).halts size size_is over)

  pub some_of : size ≤ MOST_WAYS → (w : CaseWays) → w ≡ case_at ls places → Some w ≡ ways_of (test_of t) case
  some_of under w is = ap (λ (x : CaseWays). Some x) is ∙ sym (few (services_at ls places) (case_at ls places).halts size size_is under) ∙ ap within_limit is_case

  pub counted : size ≤ MOST_WAYS → size ≡ length (combinations (choices_of (case_at ls places).lines))
  counted under = size_counts (services_at ls places) size size_is under
