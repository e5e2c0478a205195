-- What it is to apply an entry.
use Rattle.std.specs.Prelude.{◌≤◌, ◌+◌, ℕ, List, Bool, Option}
use Rattle.orc_rules.specs.declared.entry.Entry.{Entry}
use Rattle.orc_rules.specs.declared.entry.Label.{Label}
use Rattle.orc_rules.specs.declared.limits.TheConstants.{MOST_LEVELS}
use Rattle.orc_rules.specs.Journal.{Place}
use Rattle.orc_rules.specs.Marked.{erase}
use Rattle.orc_rules.specs.Nodes.{Listing, code, source}
use Rattle.orc_rules.specs.Refusal.{IsTaken, depth}
use Rattle.orc_rules.specs.Sites.{Table}
use Rattle.orc_rules.specs.Timed.{Context}
use Rattle.orc_checker.specs.Checker.{State, Spells, context, IsReached}
use Rattle.orc_checker.specs.Labelling.{IsLabel}
use Rattle.orc_verdict.specs.Deepening.{deepening}
use Rattle.orc_verdict.specs.Heights.{AreHeights, AreAtMost}

-- at each place that s spells and a journal of the program and its sites leads to, the entry has this label and is taken, and s' spells the place
-- after it
abbrev pub ShowsTaken : Listing → Table → Entry → State → State → Option Label → Type 0
ShowsTaken l t e s s' label = (cancels : Bool) (p : Place) → IsReached (context l t cancels) (source l) p → Spells (context l t cancels) (code l) s p → IsLabel p e label × ((q : Place) × IsTaken (context l t cancels) p e q × Spells (context l t cancels) (code l) s' q)

-- with the levels that the entry adds at most, the places that s spells have no more than a checked term may have
abbrev pub StaysShallow : List ℕ → Entry → State → Type 0
StaysShallow heights e s = (most : ℕ) × AreAtMost heights most × ((x : Context) (l : Listing) (p : Place) → AreHeights (code l) heights → Spells x (code l) s p → depth (erase p.marked) + deepening most e ≤ MOST_LEVELS)
