use Rattle.std.proofs.Common.{◌≡◌, drop}
use Rattle.orc_ways.specs.Drafts.{has_case}
use Rattle.orc_ways.specs.Drafting.{cases_of}
use Rattle.orc_ways.proofs.draft.has_case_named.Given as goal

abbrev pub invariant-loop-case : goal.invariant-loop-case
invariant-loop-case l = has_case (cases_of (drop l.case-index l.cases)) l.name ≡ has_case (cases_of l.cases) l.name
