-- What a move of a token does: the entry of the token's word (its next action), and what the move answers.
use Rattle.std.specs.Prelude.{◌≡◌, ◌+◌, ◌≤◌, ℕ, List, [], ◌∷◌, ◌++◌, map, length, slice_index_or}
use Rattle.orc_rules.specs.declared.value.Value.{Value}
use Rattle.orc_rules.specs.declared.entry.Entry.TheVariants as entry
use Rattle.orc_rules.specs.Term.{Term, call, par, seq, prune, other}
use Rattle.orc_rules.specs.Nodes.{Listing, code, source, definitions, param_of}
use Rattle.orc_rules.specs.Program.{IsProgram}
use Rattle.orc_env.specs.declared.names.Bound.TheVariants as bound
use Rattle.orc_env.specs.Scopes.{close, without}
use Rattle.orc_frames.specs.Spelling.{feeding}
use Rattle.orc_ledger_spec.specs.Records.{Records, its_env, its_path}
use Rattle.orc_tables.specs.Steps.{group_at, depth_at}
use Rattle.orc_tables.specs.Tokens.{IsHeld}
use Rattle.orc_frames.specs.Taking.{taker, crossed, HasStep}
use Rattle.orc_ledger_spec.specs.Calls.{Crosses, Drops, AreCancelled, IsEnded, IsVoided, IsForked, IsFed, IsTried, IsOpened, IsFree, IsRefused, born}
use Rattle.orc_ledger_spec.specs.Parameters.{IsCalled, IsUndone}
use Rattle.orc_ledger_spec.specs.Doing.{what_of}
use Rattle.orc_frames.specs.declared.action.Action.{Action}
use Rattle.orc_frames.specs.declared.action.Action.TheVariants.{Halt, Fork, Seq, Prune, Other, Def, Void, Publish, Send, Bind, Call, Wait}
use Rattle.orc_ledger_spec.specs.declared.faults.LedgerFault.{LedgerFault}
use Rattle.orc_ledger_spec.specs.declared.results.Moved.{Moved}
use Rattle.orc_ledger_spec.specs.declared.results.Moved.TheVariants as moved
use Rattle.orc_frames.specs.declared.takers.Taker.{Taker}
use Rattle.orc_frames.specs.declared.takers.Taker.TheVariants as by
use Rattle.orc_tables.specs.declared.records.Frame.TheVariants.{PruneRight}
use Rattle.orc_tables.specs.declared.records.Standing.TheVariants.{At}
use Rattle.orc_tables.specs.declared.records.Token.{Token}

-- the token stands at a node of this term, in this scope
abbrev pub StandsAt : Listing → Token → ℕ → Term → Type 0
StandsAt l t scope u = (node : ℕ) × (t.standing ≡ At node scope) × (code l node ≡ u)

-- what takes a publication names a scope and a step that are there
abbrev pub IsThere : Records → Taker → Type 0
IsThere s by.Whole = Unit {0}
IsThere s (by.SeqLeft x node scope outer) = (scope ≤ length s.scopes) × (outer ≤ length s.steps)
IsThere s (by.PruneRight c outer) = HasStep s.steps (PruneRight c) outer

module _ (l : Listing) (s : Records) (slot : ℕ) (t : Token) (s' : Records) where
  -- t is at `f | g`: a token at the left side comes into its slot, one at the right side into another
  pub record Forks (right_slot : ℕ) : Type 0 where
    pub scope : ℕ
    pub left : ℕ
    pub right : ℕ
    pub at : StandsAt l t scope (par (code l left) (code l right))
    pub done : IsForked s t scope left right s'
    pub held : IsHeld s'.slots slot (born s t s.next_mark left scope t.step)
    pub right_held : IsHeld s'.slots right_slot (born s t (s.next_mark + 1) right scope t.step)

  -- t is at `f >x> g`: a token at the left side comes into its slot
  pub record Feeds : Type 0 where
    pub scope : ℕ
    pub left : ℕ
    pub name : ℕ
    pub right : ℕ
    pub at : StandsAt l t scope (seq (code l left) name (code l right))
    pub done : IsFed s t scope left name right s'
    pub held : IsHeld s'.slots slot (born s t s.next_mark left scope (length s.steps + 1))

  -- t is at `f ; g`: a token at the left side comes into its slot, in a group with a number that was free
  pub record Tries : Type 0 where
    pub scope : ℕ
    pub left : ℕ
    pub right : ℕ
    pub number : ℕ
    pub at : StandsAt l t scope (other (code l left) (code l right))
    pub free : IsFree s number
    pub done : IsTried s t scope left right number s'
    pub held : IsHeld s'.slots slot (born s t s.next_mark left scope (length s.steps + 1))

  -- t is at `f <x< g`: a token at the left side comes into its slot, one at the right side into another, in a group with a number that was free
  pub record Opens (right_slot : ℕ) : Type 0 where
    pub scope : ℕ
    pub left : ℕ
    pub name : ℕ
    pub right : ℕ
    pub number : ℕ
    pub at : StandsAt l t scope (prune (code l left) name (code l right))
    pub free : IsFree s number
    pub done : IsOpened s t scope left name right number s'
    pub held : IsHeld s'.slots slot (born s t s.next_mark left (length s.scopes + 1) t.step)
    pub right_held : IsHeld s'.slots right_slot (born s t (s.next_mark + 1) right scope (length s.steps + 1))

  -- t calls a definition: a token at the body comes into its slot
  pub record Enters : Type 0 where
    pub scope : ℕ
    pub definition : ℕ
    pub list : ℕ
    pub at : StandsAt l t scope (call definition (map param_of (slice_index_or l.lists list [])))
    pub done : IsCalled l s t scope definition list s'
    pub held : (b : Token) × IsHeld s'.slots slot b × (b.serial ≡ s.next_mark)

  -- the operands don't fit the parameters of the definition that is called, and nothing has changed
  pub record Misfits : Type 0 where
    pub scope : ℕ
    pub definition : ℕ
    pub list : ℕ
    pub at : StandsAt l t scope (call definition (map param_of (slice_index_or l.lists list [])))
    pub undone : IsUndone l s scope definition list
    pub same : s' ≡ s

  -- a `>x>` takes the value v: a token at a copy of the right side comes into t's slot
  pub record Sends (v : Value) : Type 0 where
    pub name : ℕ
    pub right : ℕ
    pub scope : ℕ
    pub outer : ℕ
    pub takes : taker (its_path (code l) s t.step) ≡ feeding name (close (without name (its_env (code l) s scope)) (code l right)) (its_path (code l) s outer)
    pub done : Crosses s s' t (born s t s.next_mark right (length s.scopes + 1) outer ∷ []) (record { name = name; bound = bound.Is v; outer = scope } ∷ []) (crossed (its_path (code l) s t.step)) (entry.Send t.serial s.next_mark v)
    pub held : IsHeld s'.slots slot (born s t s.next_mark right (length s.scopes + 1) outer)

  -- cell c is bound to v, the calls ks are cancelled, and the group around the pruning has this number
  pub record Binds (c : ℕ) (v : Value) (ks : List ℕ) (number : ℕ) : Type 0 where
    pub done : Drops (code l) c (bound.Is v) s s'
    pub journal : s'.journal ≡ s.journal ++ entry.Bind t.serial c v ∷ map entry.Cancel ks
    pub cancelled : AreCancelled (code l) c s ks
    pub outer : ℕ
    pub side : HasStep s.steps (PruneRight c) outer
    pub round : number ≡ group_at s.steps outer

  -- what each word does, and what the move answers
  abbrev pub Does : List ℕ → Action → Moved → Type 0
  Does ks Halt (moved.Gone g) = IsEnded s t s' × (g ≡ group_at s.steps t.step)
  Does ks Void (moved.Gone g) = IsVoided s t s' × (g ≡ group_at s.steps t.step)
  Does ks Fork (moved.Forked right_slot) = Forks right_slot
  Does ks Seq moved.On = Feeds
  Does ks Other moved.On = Tries
  Does ks Prune (moved.Forked right_slot) = Opens right_slot
  Does ks Def moved.On = Enters
  Does ks Def moved.Waits = Misfits
  Does ks (Publish v) (moved.Gone g) = Crosses s s' t [] [] (crossed (its_path (code l) s t.step)) (entry.Publish t.serial v) × (g ≡ group_at s.steps t.step)
  Does ks (Send v) (moved.Sent g) = Sends v × (g ≡ group_at s.steps t.step)
  Does ks (Bind c v) (moved.Bound d g) = Binds c v ks g × (d ≡ c)
  Does ks Call moved.Calls = s' ≡ s
  Does ks (Wait c) moved.Waits = s' ≡ s
  Does ks _ _ = ⊥

-- the token does what its word says; ks are the calls that are cancelled where a cell is bound
abbrev pub Moves : Listing → Records → ℕ → Token → Moved → List ℕ → Records → Type 0
Moves l s slot t m ks s' = Does l s slot t s' ks (what_of (code l) (definitions l) s t) m

-- why what a word does is refused: the first cause that there is
abbrev pub Hinders : Records → Token → Action → LedgerFault → Type 0
Hinders s t Fork fault = IsRefused s 1 0 0 fault
Hinders s t Seq fault = IsRefused s 0 0 (depth_at s.steps t.step + 1) fault
Hinders s t Other fault = IsRefused s 0 1 0 fault
Hinders s t Prune fault = IsRefused s 1 1 0 fault
Hinders s t Call fault = ⊥
Hinders s t (Wait c) fault = ⊥
Hinders s t _ fault = IsRefused s 0 0 0 fault

-- why the token's move is refused
abbrev pub IsHindered : Listing → Records → Token → LedgerFault → Type 0
IsHindered l s t fault = Hinders s t (what_of (code l) (definitions l) s t) fault

-- in a program with a closed term and closed bodies the operands of a definition's call fit
abbrev pub CallsFit : Listing → Records → Type 0
CallsFit l s = IsProgram (definitions l) (source l) → (slot : ℕ) (t : Token) (s' : Records) → IsHeld s.slots slot t → what_of (code l) (definitions l) s t ≡ Def → Misfits l s slot t s' → ⊥
