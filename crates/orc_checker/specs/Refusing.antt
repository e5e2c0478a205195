-- What a refusal says of the entry.
use Rattle.std.specs.Prelude.{◌≡◌, ◌≢◌, ℕ, List, [], Bool}
use Rattle.orc_rules.specs.declared.value.Value.{Value}
use Rattle.orc_rules.specs.declared.entry.Entry.{Entry}
use Rattle.orc_rules.specs.declared.entry.Entry.TheVariants.{Def}
use Rattle.orc_rules.specs.declared.entry.RuleFault.{RuleFault}
use Rattle.orc_rules.specs.declared.entry.RuleFault.TheVariants as reason
use Rattle.orc_rules.specs.Nodes.{Listing, code, definitions, source}
use Rattle.orc_rules.specs.Program.{IsProgram}
use Rattle.orc_rules.specs.Term.{Term}
use Rattle.orc_rules.specs.Sites.{Table}
use Rattle.orc_rules.specs.Journal.{Place}
use Rattle.orc_rules.specs.Refusal.{Meets}
use Rattle.orc_term.specs.declared.arena.Node.{Node}
use Rattle.orc_term.specs.declared.arena.Kind.TheVariants.{Leaf, One, Two}
use Rattle.orc_term.specs.declared.arena.Tip.{Tip}
use Rattle.orc_term.specs.declared.arena.Tip.TheVariants.{Bears, Waits}
use Rattle.orc_term.specs.declared.arena.Single.TheVariants.{Entered}
use Rattle.orc_term.specs.declared.arena.Double.TheVariants.{Side}
use Rattle.orc_term.specs.Arena.{at}
use Rattle.orc_term.specs.Bearers.{BearsOther, Carries}
use Rattle.orc_checker.specs.Checker.{State, Spells, context, IsReached}

-- the entry breaks the condition of that reason at each place that s spells and that a journal of the program and its sites leads to
abbrev pub Breaks : Listing → Table → Entry → State → RuleFault → Type 0
Breaks l t e s r = (cancels : Bool) (p : Place) → IsReached (context l t cancels) (source l) p → Spells (context l t cancels) (code l) s p → Meets (context l t cancels) p e r → ⊥

-- a refusal names a condition that the entry breaks, memory aside
abbrev pub IsRightlyRefused : Listing → Table → Entry → State → RuleFault → Type 0
IsRightlyRefused l t e s r = r ≢ reason.Memory → Breaks l t e s r

-- a call of a definition is rightly refused where the program is closed, as each program of a source is; every other entry anyhow
abbrev pub Presumes : Listing → Entry → Type 0
Presumes l (Def s a) = IsProgram (definitions l) (source l)
Presumes l _ = Unit {0}

-- no node has the token
abbrev pub NoToken : List Node → ℕ → Type 0
NoToken nodes s = (p i : ℕ) (k : Tip) → at nodes p i (Leaf k) → Carries s k → ⊥

-- no node waits for the call
abbrev pub NoCall : List Node → ℕ → Type 0
NoCall nodes k = (p i : ℕ) → at nodes p i (Leaf (Waits k)) → ⊥

-- no node is the pruning of the cell
abbrev pub NoPruning : List Node → ℕ → Type 0
NoPruning nodes c = (p i left right : ℕ) → at nodes p i (Two (Side c) left right) → ⊥

-- no node is the otherwise
abbrev pub NoOtherwise : List Node → ℕ → Type 0
NoOtherwise nodes s = (p i g e left : ℕ) → at nodes p i (One (Entered s g e) left) → ⊥

-- why what an entry names isn't found: a cancel is due, or no node has it
abbrev pub Lacks : State → Type 0 → RuleFault → Type 0
Lacks s none reason.Cancel = s.rest.to_cancel ≡ [] → ⊥
Lacks s none reason.Mark = none
Lacks s none _ = ⊥

-- why no token is found that stands on a node of the program: no token is found, or it stands on a value that a call gave
abbrev pub LacksSpot : State → ℕ → RuleFault → Type 0
LacksSpot s m reason.Form = (p i : ℕ) × (v : Value) × at s.nodes p i (Leaf (Bears m v))
LacksSpot s m r = Lacks s (NoToken s.nodes m) r

-- why no token is found that stands on the value: no token is found, or it stands on something else
abbrev pub LacksBearer : (ℕ → Term) → State → ℕ → Value → RuleFault → Type 0
LacksBearer code s m v reason.Form = (p i : ℕ) × (k : Tip) × at s.nodes p i (Leaf k) × Carries m k × BearsOther code s.cells s.scopes m k v
LacksBearer code s m v r = Lacks s (NoToken s.nodes m) r
