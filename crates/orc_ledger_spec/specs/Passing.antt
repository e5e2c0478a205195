-- What becomes of a token that goes on: a move, or a `>x>` that it enters with the call there, and what takes its answer.
use Rattle.std.specs.Prelude.{◌≡◌, ℕ, List, []}
use Rattle.orc_rules.specs.declared.value.Value.{Value}
use Rattle.orc_rules.specs.Nodes.{Listing}
use Rattle.orc_rules.specs.Sites.{Site}
use Rattle.orc_ledger_spec.specs.Records.{Records}
use Rattle.orc_ledger_spec.specs.AtOnce.{IsCalled}
use Rattle.orc_ledger_spec.specs.Moves.{Moves, Feeds}
use Rattle.orc_ledger_spec.specs.Vacant.{Sheds}
use Rattle.orc_tables.specs.Tokens.{IsHeld}
use Rattle.orc_tables.specs.declared.records.Standing.TheVariants.{On}
use Rattle.orc_tables.specs.declared.records.Token.{Token}
use Rattle.orc_ledger_spec.specs.declared.results.Called.TheVariants as called
use Rattle.orc_ledger_spec.specs.declared.results.Moved.{Moved}
use Rattle.orc_ledger_spec.specs.declared.results.Moved.TheVariants as moved
use Rattle.orc_ledger_spec.specs.declared.results.Passed.{Passed}
use Rattle.orc_ledger_spec.specs.declared.results.Passed.TheVariants as passed

-- the same as a move
abbrev pub goes : Moved → Passed
goes moved.On = passed.On
goes (moved.Forked k) = passed.Forked k
goes (moved.Sent g) = passed.Sent g
goes (moved.Gone g) = passed.Gone g
goes (moved.Bound c g) = passed.Bound c g
goes moved.Calls = passed.Calls
goes moved.Waits = passed.Waits

-- token t, in this slot, stands at a call in the left side of a `>x>`: nothing has changed; or its call was made; or the call was also answered at
-- once, with a value that the `>x>` took
abbrev pub GoesOn : Listing → List Site → Records → ℕ → Token → Passed → Records → Type 0
GoesOn l sites s slot t passed.On s' = s' ≡ s
GoesOn l sites s slot t (passed.Pends k) s' = IsCalled l sites s slot t (called.Pends k) s'
GoesOn l sites s slot t passed.Answered s' = (v : Value) × IsCalled l sites s slot t (called.Answered v) s'
GoesOn l sites s slot t (passed.Halted g) s' = IsCalled l sites s slot t (called.Halted g) s'
GoesOn l sites s slot t passed.Through s' = (s2 : Records) × (u : Token) × (v : Value) × (g : ℕ) × IsCalled l sites s slot t (called.Answered v) s2 × IsHeld s2.slots slot u × (u.standing ≡ On v) × Moves l s2 slot u (moved.Sent g) [] s'
GoesOn l sites s slot t _ s' = ⊥

-- token t, in this slot, enters the left side of a `>x>`, where u stands then, and goes on there
abbrev pub Enters : Listing → List Site → Records → ℕ → Token → Passed → Records → Type 0
Enters l sites s slot t p s' = (s1 : Records) × (u : Token) × Feeds l s slot t s1 × IsHeld s1.slots slot u × GoesOn l sites s1 slot u p s'

-- as `Enters`, but then nothing is in that left side any more, and its step goes
abbrev pub Clears : Listing → List Site → Records → ℕ → Token → Passed → Records → Type 0
Clears l sites s slot t p s' = (s2 : Records) × Enters l sites s slot t p s2 × Sheds s2 s'

-- token t, in this slot, makes a move; or it enters the left side of a `>x>`, and goes on there, or through it
abbrev pub Passes : Listing → List Site → Records → ℕ → Token → Passed → List ℕ → Records → Type 0
Passes l sites s slot t passed.On ks s' = Moves l s slot t moved.On ks s'
Passes l sites s slot t (passed.Forked k) ks s' = Moves l s slot t (moved.Forked k) ks s'
Passes l sites s slot t (passed.Sent g) ks s' = Moves l s slot t (moved.Sent g) ks s'
Passes l sites s slot t (passed.Gone g) ks s' = Moves l s slot t (moved.Gone g) ks s'
Passes l sites s slot t (passed.Bound c g) ks s' = Moves l s slot t (moved.Bound c g) ks s'
Passes l sites s slot t passed.Calls ks s' = Moves l s slot t moved.Calls ks s'
Passes l sites s slot t passed.Waits ks s' = Moves l s slot t moved.Waits ks s'
Passes l sites s slot t (passed.Pends k) ks s' = Enters l sites s slot t (passed.Pends k) s'
Passes l sites s slot t passed.Answered ks s' = Enters l sites s slot t passed.Answered s'
Passes l sites s slot t (passed.Halted g) ks s' = Clears l sites s slot t (passed.Halted g) s'
Passes l sites s slot t passed.Through ks s' = Clears l sites s slot t passed.Through s'
