-- What the verdict on a whole journal rests on.
use Rattle.std.specs.Prelude.{◌≡◌, ◌≤◌, ◌⊎◌, ℕ, suc, List, [], ◌∷◌, Bool, true, false}
use Rattle.orc_rules.specs.declared.entry.Entry.{Entry}
use Rattle.orc_rules.specs.declared.entry.RuleFault.{RuleFault}
use Rattle.orc_rules.specs.declared.entry.RuleFault.TheVariants.{Memory}
use Rattle.orc_rules.specs.Term.{Term}
use Rattle.orc_rules.specs.Marked.{erase}
use Rattle.orc_rules.specs.Nodes.{Listing, code, source}
use Rattle.orc_rules.specs.Sites.{Table}
use Rattle.orc_rules.specs.Timed.{Context}
use Rattle.orc_rules.specs.Journal.{Place, begin}
use Rattle.orc_rules.specs.Refusal.{Meets, IsTaken, IsRefused, depth}
use Rattle.orc_checker.specs.Checker.{State, Spells, context, IsReached}
use Rattle.orc_journal.specs.declared.journal.Version.{Version}
use Rattle.orc_journal.specs.declared.journal.Version.TheVariants.{One, Two}

-- whether cancels stand in a journal of this version
abbrev pub records_cancels : Version → Bool
records_cancels One = false
records_cancels Two = true

-- at each place that s spells, that a journal of the program and its sites leads to and that has at most `levels` levels, the entry is taken; s'
-- spells the place after it, which has at most `levels'` levels
abbrev pub Takes : Listing → Table → Entry → State → ℕ → State → ℕ → Type 0
Takes l t e s levels s' levels' = (cancels : Bool) (p : Place) → IsReached (context l t cancels) (source l) p → Spells (context l t cancels) (code l) s p → depth (erase p.marked) ≤ levels
    → (q : Place) × IsTaken (context l t cancels) p e q × Spells (context l t cancels) (code l) s' q × (depth (erase q.marked) ≤ levels')

-- the entry is refused at p for this reason first; where that is memory it meets every condition
abbrev pub IsStopped : Context → Place → Entry → RuleFault → Type 0
IsStopped x p e Memory = (r : RuleFault) → Meets x p e r
IsStopped x p e why = IsRefused x p e why

-- `IsStopped` holds at each place that s spells and that a journal of the program and its sites leads to
abbrev pub Stops : Listing → Table → Entry → State → RuleFault → Type 0
Stops l t e s why = (cancels : Bool) (p : Place) → IsReached (context l t cancels) (source l) p → Spells (context l t cancels) (code l) s p → IsStopped (context l t cancels) p e why

-- the entries are taken up to the one with this number, which meets every condition; the next one from p on has number n
abbrev pub IsCutFrom : Context → Place → ℕ → List Entry → ℕ → Type 0
IsCutFrom x p n [] at = ⊥
IsCutFrom x p n (e ∷ es) at = ((at ≡ n) × ((r : RuleFault) → Meets x p e r)) ⊎ ((mid : Place) × IsTaken x p e mid × IsCutFrom x mid (suc n) es at)

-- memory was refused before the first entry, or at one that meets every condition, after all before it were taken
abbrev pub IsCutShort : Context → Term → List Entry → ℕ → Type 0
IsCutShort x t es at = (at ≡ 0) ⊎ IsCutFrom x (begin t) 1 es at
