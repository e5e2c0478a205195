-- How a run of a ledger ends.
use Rattle.std.specs.Prelude.{List}
use Rattle.orc_rules.specs.declared.entry.Entry.{Entry}
use Rattle.orc_rules.specs.Nodes.{Listing, code, source}
use Rattle.orc_rules.specs.Sites.{Table}
use Rattle.orc_rules.specs.Journal.{Place, Journal, begin}
use Rattle.orc_checker.specs.Checker.{State, Spells}
use Rattle.orc_outcome.specs.Outcome.{context, EndsAt}
use Rattle.orc_outcome.specs.declared.end.End.{End}
use Rattle.orc_ledger_spec.specs.Records.{Records}
use Rattle.orc_ledger_spec.specs.Answers.{IsAt}

-- the run whose records these are ends so
abbrev pub HasEnded : Listing → Table → Records → End → Type 0
HasEnded l t s end = (p : Place) → IsAt l t.sites s p → EndsAt (context l t) s.limit s.journal p end

-- the marked term spells the place to which the journal leads
abbrev pub IsSpelt : Listing → Table → List Entry → State → Type 0
IsSpelt l t es marked = (q : Place) × Journal (context l t) (begin (source l)) es q × Spells (context l t) (code l) marked q
