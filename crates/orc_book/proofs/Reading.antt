-- What a move has done, by the word of its token.
use Rattle.std.proofs.Common.{◌≡◌, ℕ, List, refl, subst}
use Rattle.orc_rules.specs.Nodes.{Listing, code, definitions}
use Rattle.orc_ledger_spec.specs.Records.{Records}
use Rattle.orc_ledger_spec.specs.Doing.{what_of}
use Rattle.orc_ledger_spec.specs.Moves.{Moves, Does, Forks, Opens, Tries}
use Rattle.orc_ledger_spec.specs.declared.results.Moved.{Moved}
use Rattle.orc_ledger_spec.specs.declared.results.Moved.TheVariants as moved
use Rattle.orc_frames.specs.declared.action.Action.TheVariants as what
use Rattle.orc_tables.specs.declared.records.Token.{Token}

module _ (l : Listing) (s : Records) (slot : ℕ) (t : Token) (s' : Records) (ks : List ℕ) where
  opens : (m : Moved) → Does l s slot t s' ks what.Prune m → (k : ℕ) × (m ≡ moved.Forked k) × Opens l s slot t s' k
  opens (moved.Forked k) d = (k, refl, d)
  opens moved.On d = elim d [ ]
  opens (moved.Gone g) d = elim d [ ]
  opens (moved.Sent g) d = elim d [ ]
  opens (moved.Bound c g) d = elim d [ ]
  opens moved.Calls d = elim d [ ]
  opens moved.Waits d = elim d [ ]

  tries : (m : Moved) → Does l s slot t s' ks what.Other m → (m ≡ moved.On) × Tries l s slot t s'
  tries moved.On d = (refl, d)
  tries (moved.Forked k) d = elim d [ ]
  tries (moved.Gone g) d = elim d [ ]
  tries (moved.Sent g) d = elim d [ ]
  tries (moved.Bound c g) d = elim d [ ]
  tries moved.Calls d = elim d [ ]
  tries moved.Waits d = elim d [ ]

  pub forked : (k : ℕ) → what_of (code l) (definitions l) s t ≡ what.Fork → Moves l s slot t (moved.Forked k) ks s' → Forks l s slot t s' k
  forked k e d = subst (λ w. Does l s slot t s' ks w (moved.Forked k)) e d

  pub opened : (k : ℕ) → what_of (code l) (definitions l) s t ≡ what.Prune → Moves l s slot t (moved.Forked k) ks s' → Opens l s slot t s' k
  opened k e d = subst (λ w. Does l s slot t s' ks w (moved.Forked k)) e d

  pub tried : what_of (code l) (definitions l) s t ≡ what.Other → Moves l s slot t moved.On ks s' → Tries l s slot t s'
  tried e d = subst (λ w. Does l s slot t s' ks w moved.On) e d
