-- What comes next, as the ledger says it.
use Rattle.std.specs.Prelude.{◌⊎◌, List}
use Rattle.orc_rules.specs.Nodes.{Listing, source}
use Rattle.orc_rules.specs.Sites.{Site}
use Rattle.orc_rules.specs.Term.{Halted}
use Rattle.orc_rules.specs.Marked.{erase}
use Rattle.orc_rules.specs.Timed.{IsTick, IsQuiet}
use Rattle.orc_rules.specs.Journal.{Place, Journal, begin, moment}
use Rattle.orc_ledger_spec.specs.Records.{Records, context}
use Rattle.orc_ledger_spec.specs.Next.{Next, work, ticks, quiet, numbers_of}
use Rattle.orc_ledger_spec.specs.Laws.{Allowed, IsLeft}
use Rattle.orc_ledger_spec.specs.declared.results.Next.{Next as Answer}
use Rattle.orc_ledger_spec.specs.declared.results.Next.TheVariants.{Work, Ticks, Quiet}

-- what the ledger answers, as a value of the definition
abbrev pub spoken : Answer → Next
spoken Work = work
spoken (Ticks t) = ticks t
spoken Quiet = quiet

-- what an answer says of the place to which the journal leads
abbrev pub Holds : Listing → List Site → Records → Answer → Place → Type 0
Holds l sites s Work p = Allowed l sites p ⊎ (IsLeft l (numbers_of s) s ⊎ Halted (erase p.marked))
Holds l sites s (Ticks t) p = IsTick (context l sites) (moment p) t
Holds l sites s Quiet p = IsQuiet (context l sites) (moment p)

-- an answer is right by the rules
abbrev pub IsRight : Listing → List Site → Records → Answer → Type 0
IsRight l sites s r = (p : Place) → Journal (context l sites) (begin (source l)) s.journal p → Holds l sites s r p
