-- A move that says that its token calls a site has that word, and has changed nothing.
use Rattle.std.proofs.Common.{◌≡◌, ℕ, List, refl}
use Rattle.orc_rules.specs.Nodes.{Listing, code, definitions}
use Rattle.orc_ledger_spec.specs.Records.{Records}
use Rattle.orc_ledger_spec.specs.Moves.{Does, Moves}
use Rattle.orc_ledger_spec.specs.Doing.{what_of}
use Rattle.orc_ledger_spec.specs.declared.results.Moved.TheVariants as moved
use Rattle.orc_tables.specs.declared.records.Token.{Token}
use Rattle.orc_frames.specs.declared.action.Action.{Action}
use Rattle.orc_frames.specs.declared.action.Action.TheVariants.{Halt, Fork, Seq, Prune, Other, Def, Void, Publish, Send, Bind, Call, Wait}

calls_by : (l : Listing) (s : Records) (slot : ℕ) (t : Token) (s' : Records) (ks : List ℕ) (w : Action) → Does l s slot t s' ks w moved.Calls → (w ≡ Call) × (s' ≡ s)
calls_by l s slot t s' ks Halt h = absurd h
calls_by l s slot t s' ks Fork h = absurd h
calls_by l s slot t s' ks Seq h = absurd h
calls_by l s slot t s' ks Prune h = absurd h
calls_by l s slot t s' ks Other h = absurd h
calls_by l s slot t s' ks Def h = absurd h
calls_by l s slot t s' ks Void h = absurd h
calls_by l s slot t s' ks (Publish v) h = absurd h
calls_by l s slot t s' ks (Send v) h = absurd h
calls_by l s slot t s' ks (Bind c v) h = absurd h
calls_by l s slot t s' ks Call h = (refl, h)
calls_by l s slot t s' ks (Wait c) h = absurd h

pub calls-so : (l : Listing) (s : Records) (slot : ℕ) (t : Token) (s' : Records) (ks : List ℕ) → Moves l s slot t moved.Calls ks s' → (what_of (code l) (definitions l) s t ≡ Call) × (s' ≡ s)
calls-so l s slot t s' ks h = calls_by l s slot t s' ks (what_of (code l) (definitions l) s t) h
