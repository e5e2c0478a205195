-- What becomes of a group that has halted: it has no members.
use Rattle.std.specs.Prelude.{◌≡◌, ◌≤◌, ℕ, [], ◌∷◌, ◌++◌, true, false}
use Rattle.orc_rules.specs.declared.entry.Entry.TheVariants as entry
use Rattle.orc_rules.specs.Term.{Term}
use Rattle.orc_rules.specs.Timed.{IsIn}
use Rattle.orc_env.specs.declared.names.Bound.TheVariants as bound
use Rattle.orc_ledger_spec.specs.Records.{Records, is_over}
use Rattle.orc_frames.specs.Paths.{has_published}
use Rattle.orc_tables.specs.Steps.{group_at}
use Rattle.orc_tables.specs.Tokens.{IsHeld}
use Rattle.orc_ledger_spec.specs.Calls.{Drops, GoesAlone, Resumes, Closes, IsRefused}
use Rattle.orc_ledger_spec.specs.Next.{members, numbers_of}
use Rattle.orc_ledger_spec.specs.declared.faults.LedgerFault.{LedgerFault}
use Rattle.orc_ledger_spec.specs.declared.results.Halted.{Halted}
use Rattle.orc_ledger_spec.specs.declared.results.Halted.TheVariants.{Lost, Resumed, Closed}
use Rattle.orc_ledger_spec.specs.declared.faults.HaltFault.{HaltFault}
use Rattle.orc_ledger_spec.specs.declared.faults.HaltFault.TheVariants.{Gone, Live, Refused}
use Rattle.orc_tables.specs.declared.records.Standing.TheVariants.{At}
use Rattle.orc_tables.specs.declared.records.Side.{Side}
use Rattle.orc_tables.specs.declared.records.Side.TheVariants.{Right, Left}
use Rattle.orc_tables.specs.declared.records.Group.{Group}

-- an open group has this number
abbrev pub IsGroup : Records → ℕ → Group → Type 0
IsGroup s number g = IsIn g s.groups × (g.number ≡ number)

module _ (code : ℕ → Term) (s s' : Records) (g : Group) where
  -- its side is a cell's right side: the cell is lost, and no other record goes
  pub record Loses (cell parent : ℕ) : Type 0 where
    pub side : g.side ≡ Right cell
    pub done : Drops code cell bound.Void s s'
    pub alone : GoesAlone s s' g
    pub journal : s'.journal ≡ s.journal ++ entry.Lost cell ∷ []
    pub round : parent ≡ group_at s.steps g.outer

  -- its side is the left side of an otherwise that no publication has left: a token stands on the right side, in this slot
  pub record Starts (slot : ℕ) : Type 0 where
    pub number : ℕ
    pub node : ℕ
    pub scope : ℕ
    pub side : g.side ≡ Left number node scope
    pub stays : has_published s.steps number ≡ false
    pub done : Resumes s s' g number node scope
    pub held : IsHeld s'.slots slot (record { serial = s.next_mark; standing = At node scope; step = g.outer })

  -- its side is one that a publication has left: it goes without an entry
  pub record Leaves (parent : ℕ) : Type 0 where
    pub over : is_over code s g.side ≡ true
    pub done : Closes s s' g
    pub round : parent ≡ group_at s.steps g.outer

  -- what each answer of `halt` says
  abbrev pub Becomes : Halted → Type 0
  Becomes (Lost cell parent) = Loses cell parent
  Becomes (Resumed slot) = Starts slot
  Becomes (Closed parent) = Leaves parent

-- the group with this number had no members, and h says what has become of it
pub record HasHalted (code : ℕ → Term) (s s' : Records) (number : ℕ) (h : Halted) : Type 0 where
  pub group : Group
  pub is : IsGroup s number group
  pub empty : members (numbers_of s) s number ≡ 0
  pub becomes : Becomes code s s' group h

-- why the entry of a group with this side is refused; one that was left needs none
abbrev pub IsRefusedAt : Records → Side → LedgerFault → Type 0
IsRefusedAt s (Right cell) fault = IsRefused s 0 0 0 fault
IsRefusedAt s (Left n node scope) fault = (has_published s.steps n ≡ false) × IsRefused s 1 0 0 fault

-- why a group doesn't halt: the first cause that there is
abbrev pub IsHinderedAt : Records → ℕ → HaltFault → Type 0
IsHinderedAt s number Gone = (g : Group) → IsIn g s.groups → g.number ≡ number → ⊥
IsHinderedAt s number Live = ((g : Group) × IsGroup s number g) × (1 ≤ members (numbers_of s) s number)
IsHinderedAt s number (Refused fault) = (g : Group) × IsGroup s number g × (members (numbers_of s) s number ≡ 0) × IsRefusedAt s g.side fault
