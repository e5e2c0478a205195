-- What comes next of a run, and what has been done of it.
use Rattle.std.specs.Prelude.{◌≡◌, ℕ, ◌+◌, List, [], ◌∷◌, ◌++◌}
use Rattle.orc_rules.specs.Nodes.{Listing, code, definitions}
use Rattle.orc_rules.specs.Sites.{Site}
use Rattle.orc_rules.specs.declared.entry.Entry.TheVariants.{Tick}
use Rattle.orc_ledger_spec.specs.Records.{Records}
use Rattle.orc_ledger_spec.specs.Next.{next_of, numbers_of, work, ticks, quiet}
use Rattle.orc_ledger_spec.specs.Spoken.{IsRight}
use Rattle.orc_ledger_spec.specs.declared.results.Next.TheVariants as answer
use Rattle.orc_book.specs.declared.clock.Next.{Next}
use Rattle.orc_book.specs.declared.clock.Next.TheVariants.{Work, Ticked, Quiet}

-- what comes next by the rules; where that is a tick it has been made
abbrev pub SaysNext : Listing → List Site → Records → Next → Records → Type 0
SaysNext l sites s Work s' = (s' ≡ s) × (next_of (code l) (definitions l) (numbers_of s) s ≡ work) × IsRight l sites s answer.Work
SaysNext l sites s Ticked s' =
    (t : ℕ) × (next_of (code l) (definitions l) (numbers_of s) s ≡ ticks t) × IsRight l sites s (answer.Ticks t) × (s' ≡ record s { journal = s.journal ++ Tick t ∷ []; entries = s.entries + 1; now = t })
SaysNext l sites s Quiet s' = (s' ≡ s) × (next_of (code l) (definitions l) (numbers_of s) s ≡ quiet) × IsRight l sites s answer.Quiet
