-- A token enters the left side of a `>x>`, and goes on there.
use Rattle.std.proofs.Common.{◌≡◌, ℕ, ◌+◌, List, [], ◌∷◌, length, length-append, false, refl, ap, sym, subst, arith}
use Rattle.orc_rules.specs.Nodes.{Listing}
use Rattle.orc_rules.specs.Sites.{Site}
use Rattle.orc_ledger_spec.specs.Records.{Records}
use Rattle.orc_ledger_spec.specs.Moves.{Moves, Feeds}
use Rattle.orc_ledger_spec.specs.Passing.{GoesOn, Passes}
use Rattle.orc_ledger_spec.specs.declared.results.Moved.TheVariants as moved
use Rattle.orc_ledger_spec.specs.declared.results.Passed.{Passed}
use Rattle.orc_ledger_spec.specs.declared.results.Passed.TheVariants as passed
use Rattle.orc_tables.specs.Steps.{group_at, depth_at}
use Rattle.orc_tables.specs.Tokens.{IsHeld}
use Rattle.orc_tables.specs.declared.records.Frame.TheVariants.{SeqLeft}
use Rattle.orc_tables.specs.declared.records.Standing.TheVariants.{At}
use Rattle.orc_tables.specs.declared.records.Step.{Step}
use Rattle.orc_tables.specs.declared.records.Token.{Token}

-- the token that stands in the left side
pub fed-held : (l : Listing) (s : Records) (slot : ℕ) (t : Token) (s1 : Records) (F : Feeds l s slot t s1) (serial step : ℕ) → serial ≡ s.next_mark → step ≡ length s1.steps → IsHeld s1.slots slot (record { serial = serial; standing = At F.left F.scope; step = step })
fed-held l s slot t s1 F serial step mark last =
    let p : Step = record { entered = SeqLeft F.name F.right F.scope; outer = t.step; group = group_at s.steps t.step; depth = depth_at s.steps t.step + 1; published = false } in
    let at : length s.steps + 1 ≡ step = omega (arith, last, ap length F.done.steps, length-append s.steps (p ∷ [])) in
    subst (λ (n : ℕ). IsHeld s1.slots slot (record { serial = n; standing = At F.left F.scope; step = step })) (sym mark)
    (subst (λ (n : ℕ). IsHeld s1.slots slot (record { serial = s.next_mark; standing = At F.left F.scope; step = n })) at F.held)

module _ (l : Listing) (sites : List Site) (s : Records) (slot : ℕ) (t : Token) (s1 : Records) (u : Token) (enters : Feeds l s slot t s1) (held : IsHeld s1.slots slot u) where
  -- it has not come through, and its call did not halt
  pub fed-passes : (ks : List ℕ) → Moves l s slot t moved.On ks s1 → (p : Passed) → (p ≡ passed.Through → ⊥) → ((g : ℕ) → p ≡ passed.Halted g → ⊥) → (s' : Records) → GoesOn l sites s1 slot u p s' → Passes l sites s slot t p ks s'
  fed-passes ks moves passed.On not_through not_halted s' same = subst (λ (z : Records). Moves l s slot t moved.On ks z) (sym same) moves
  fed-passes ks moves (passed.Forked k) not_through not_halted s' h = absurd h
  fed-passes ks moves (passed.Sent g) not_through not_halted s' h = absurd h
  fed-passes ks moves (passed.Gone g) not_through not_halted s' h = absurd h
  fed-passes ks moves (passed.Bound c g) not_through not_halted s' h = absurd h
  fed-passes ks moves passed.Calls not_through not_halted s' h = absurd h
  fed-passes ks moves passed.Waits not_through not_halted s' h = absurd h
  fed-passes ks moves (passed.Pends k) not_through not_halted s' h = (s1, u, enters, held, h)
  fed-passes ks moves passed.Answered not_through not_halted s' h = (s1, u, enters, held, h)
  fed-passes ks moves (passed.Halted g) not_through not_halted s' h = absurd (not_halted g refl)
  fed-passes ks moves passed.Through not_through not_halted s' h = absurd (not_through refl)
