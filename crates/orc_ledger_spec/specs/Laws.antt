-- What a token's word and what comes next promise of the rules: the statements.
use Rattle.std.specs.Prelude.{◌≡◌, ◌≤◌, ◌⊎◌, ◌↔◌, ◌||◌, ℕ, List, true, false, not, Some}
use Rattle.orc_rules.specs.declared.entry.Entry.{Entry}
use Rattle.orc_rules.specs.declared.entry.Entry.TheVariants.{Tick}
use Rattle.orc_rules.specs.Nodes.{Listing, code, definitions}
use Rattle.orc_rules.specs.Sites.{Site}
use Rattle.orc_rules.specs.Term.{Halted}
use Rattle.orc_rules.specs.Marked.{erase}
use Rattle.orc_rules.specs.Idle.{can_move}
use Rattle.orc_rules.specs.Lost.{IsMove}
use Rattle.orc_rules.specs.Timed.{IsIn, IsTick, IsQuiet}
use Rattle.orc_rules.specs.Journal.{Place, Leads, moment}
use Rattle.orc_rules.specs.Refusal.{Fits}
use Rattle.orc_ledger_spec.specs.Records.{Records, Lawful, context, is_over}
use Rattle.orc_ledger_spec.specs.Doing.{term_of, what_of}
use Rattle.orc_frames.specs.Doing.{is_wait, moves_marks, names, Asks}
use Rattle.orc_ledger_spec.specs.Told.{AreTold}
use Rattle.orc_ledger_spec.specs.Next.{Numbers, AreGrouped, members, work, ticks, quiet, next_of}
use Rattle.orc_tables.specs.PendingCalls.{due_of}
use Rattle.orc_tables.specs.declared.records.Token.{Token}
use Rattle.orc_tables.specs.declared.records.Call.{Call}
use Rattle.orc_tables.specs.declared.records.Group.{Group}
use Rattle.orc_frames.specs.declared.action.Action.{Action}

-- ---- what a place allows
module _ (l : Listing) (sites : List Site) (p : Place) where
  -- an entry that the place allows, and no tick
  pub record Allowed : Type 0 where
    pub entry_is : Entry
    pub after : Place
    pub leads : Leads (context l sites) p entry_is after
    pub untimed : (t : ℕ) → entry_is ≡ Tick t → ⊥

  -- an entry of a token that the place allows
  pub record Offer (t : Token) : Type 0 where
    pub entry_is : Entry
    pub what : Action
    pub named : names entry_is ≡ Some (t.serial, what)
    pub after : Place
    pub leads : Leads (context l sites) p entry_is after

module _ (l : Listing) (n : Numbers) (s : Records) where
  -- a group without members that a publication has left: it goes without an entry
  abbrev pub IsLeft : Type 0
  IsLeft = (g : Group) × IsIn g s.groups × (is_over (code l) s g.side ≡ true) × (members n s (n.number g) ≡ 0)

  -- the causes of work: a token that moves, a group (the root, too) without members, or a call that is due
  abbrev pub Cause : Type 0
  Cause =
      ((t : Token) × IsIn t s.tokens × (is_wait (what_of (code l) (definitions l) s t) ≡ false)) ⊎ ((members n s 0 ≡ 0) ⊎ ((g : Group) × IsIn g s.groups × (members n s (n.number g) ≡ 0)))
      ⊎ ((c : Call) × (t : ℕ) × IsIn c s.calls × (due_of c ≡ Some t) × (t ≤ s.now))

  -- a move of marks that the place allows, or a group that goes without an entry
  abbrev pub IsDelayed : List Site → Place → Type 0
  IsDelayed sites p = ((o : Allowed l sites p) × IsMove o.entry_is) ⊎ IsLeft

-- ---- a token's word

-- the place has an entry of a token exactly where the token's word names it
abbrev pub WordIsOffered : Type 0
WordIsOffered = (l : Listing) (sites : List Site) (s : Records) (L : Lawful l sites s) (t : Token) → IsIn t s.tokens → (e : Entry) (w : Action) → names e ≡ Some (t.serial, w)
    → Fits (context l sites) L.place e ↔ ((what_of (code l) (definitions l) s t ≡ w) × Asks e (term_of (code l) s t))

-- a token waits exactly where its term is no move of marks, and none of the rules moves it
abbrev pub WaitIsStill : Type 0
WaitIsStill = (l : Listing) (sites : List Site) (s : Records) (L : Lawful l sites s) (t : Token) → IsIn t s.tokens
    → is_wait (what_of (code l) (definitions l) s t) ≡ not (moves_marks (term_of (code l) s t) || can_move (definitions l) (term_of (code l) s t))

-- where a token doesn't wait, the place allows an entry of it
abbrev pub WordIsAllowed : Type 0
WordIsAllowed = (l : Listing) (sites : List Site) (s : Records) (L : Lawful l sites s) (t : Token) → IsIn t s.tokens → is_wait (what_of (code l) (definitions l) s t) ≡ false → Offer l sites L.place t

-- each entry of a token that the place allows is the word of one of the records' tokens
abbrev pub NoneIsLost : Type 0
NoneIsLost = (l : Listing) (sites : List Site) (s : Records) (L : Lawful l sites s) (e : Entry) (q : Place) (serial : ℕ) (w : Action) → Leads (context l sites) L.place e q → names e ≡ Some (serial, w)
    → (t : Token) × IsIn t s.tokens × (t.serial ≡ serial) × (what_of (code l) (definitions l) s t ≡ w) × Asks e (term_of (code l) s t)

-- ---- what comes next, where the records have the table's word on each call, and each group those that are in it

-- a tick that comes next is one that the rules allow
abbrev pub NextTicks : Type 0
NextTicks = (l : Listing) (sites : List Site) (s : Records) (L : Lawful l sites s) → AreTold sites L.place.calls s.calls → (n : Numbers) → AreGrouped n s
    → (t : ℕ) → next_of (code l) (definitions l) n s ≡ ticks t → IsTick (context l sites) (moment L.place) t

-- where nothing comes next, the run is quiet by the rules
abbrev pub NextIsQuiet : Type 0
NextIsQuiet = (l : Listing) (sites : List Site) (s : Records) (L : Lawful l sites s) → AreTold sites L.place.calls s.calls → (n : Numbers) → AreGrouped n s
    → next_of (code l) (definitions l) n s ≡ quiet → IsQuiet (context l sites) (moment L.place)

-- work has a cause, and each cause is work
abbrev pub WorkHasCause : Type 0
WorkHasCause = (l : Listing) (sites : List Site) (s : Records) (L : Lawful l sites s) → AreTold sites L.place.calls s.calls → (n : Numbers) → AreGrouped n s
    → (next_of (code l) (definitions l) n s ≡ work) ↔ Cause l n s

-- work is never found in vain: the place allows an entry, or a group goes without one, or the term has halted
abbrev pub WorkIsAllowed : Type 0
WorkIsAllowed = (l : Listing) (sites : List Site) (s : Records) (L : Lawful l sites s) → AreTold sites L.place.calls s.calls → (n : Numbers) → AreGrouped n s
    → next_of (code l) (definitions l) n s ≡ work → Allowed l sites L.place ⊎ (IsLeft l n s ⊎ Halted (erase L.place.marked))

-- a tick that the rules allow is what comes next, but for moves of marks and groups that go
abbrev pub TickIsNext : Type 0
TickIsNext = (l : Listing) (sites : List Site) (s : Records) (L : Lawful l sites s) → AreTold sites L.place.calls s.calls → (n : Numbers) → AreGrouped n s
    → (t : ℕ) → IsTick (context l sites) (moment L.place) t → (next_of (code l) (definitions l) n s ≡ ticks t) ⊎ IsDelayed l n s sites L.place

-- where the run is quiet by the rules, quiet comes next, but for moves of marks and groups that go
abbrev pub QuietIsNext : Type 0
QuietIsNext = (l : Listing) (sites : List Site) (s : Records) (L : Lawful l sites s) → AreTold sites L.place.calls s.calls → (n : Numbers) → AreGrouped n s
    → IsQuiet (context l sites) (moment L.place) → (next_of (code l) (definitions l) n s ≡ quiet) ⊎ IsDelayed l n s sites L.place

-- where the program's own group has no members, the term has halted
abbrev pub RootHasHalted : Type 0
RootHasHalted = (l : Listing) (sites : List Site) (s : Records) (L : Lawful l sites s) (n : Numbers) → AreGrouped n s → members n s 0 ≡ 0 → Halted (erase L.place.marked)
