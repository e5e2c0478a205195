-- Where no token that is asked can move, none can.
use Rattle.std.proofs.Common.{◌≡◌, ◌≤◌, ◌<◌, ◌⊎◌, ℕ, zero, suc, List, [], ◌∷◌, length, refl, arith, inl, inr, ⊎_elim, Bool, true, false}
use Rattle.orc_rules.specs.Term.{Term, Definition}
use Rattle.orc_term.specs.declared.arena.Node.{Node}
use Rattle.orc_env.specs.declared.names.Bound.{Bound}
use Rattle.orc_env.specs.declared.names.Scope.{Scope}
use Rattle.orc_term.specs.declared.arena.Kind.{Kind}
use Rattle.orc_term.specs.declared.arena.Kind.TheVariants.{Leaf, One, Two}
use Rattle.orc_term.specs.declared.arena.Tip.TheVariants.{Gone, Ended, Token, Bears, Waits}
use Rattle.orc_term.specs.declared.arena.Single.TheVariants.{Feeds, Entered, Passed}
use Rattle.orc_term.specs.declared.arena.Double.TheVariants.{Both, Side}
use Rattle.orc_term.specs.Settling.{kind_at}
use Rattle.orc_term.specs.Asking.{AreToAsk}
use Rattle.orc_term.specs.Hints.{restless}
use Rattle.orc_checker.specs.Stillness.{token_moves, AreStill, DoMove, DoMoveFrom, DoMoveOf}

-- a number is below another, or isn't
pub below_or : (i n : ℕ) → (i < n) ⊎ (n ≤ i)
below_or i zero = inr (omega arith)
below_or zero (suc n) = inl (omega arith)
below_or (suc i) (suc n) = ⊎_elim (λ lt. inl (omega (arith, lt))) (λ le. inr (omega (arith, le))) (below_or i n)

module _ (defs : List Definition) (code : ℕ → Term) (cells : List Bound) (scopes : List Scope) where
  abbrev moves : Kind → Bool
  moves = token_moves defs code cells scopes

  over : (k : Kind) → restless k ≡ false → moves k ≡ false
  over (Leaf Gone) h = refl
  over (Leaf Ended) h = refl
  over (Leaf (Token s f e)) h = cc h
  over (Leaf (Bears s v)) h = cc h
  over (Leaf (Waits k)) h = refl
  over (One (Feeds x g e) p) h = refl
  over (One (Entered m g e) p) h = refl
  over (One Passed p) h = refl
  over (Two Both p q) h = refl
  over (Two (Side c) p q) h = refl

  -- where there is no node, none moves
  pub none_there : (nodes : List Node) (i : ℕ) → length nodes ≤ i → moves (kind_at nodes i) ≡ false
  none_there [] i le = refl
  none_there (x ∷ nodes) zero le = absurd (omega (arith, le))
  none_there (x ∷ nodes) (suc i) le = none_there nodes i (omega (arith, le))

  -- none can move where none that is asked can, and the others couldn't
  pub none_moves : (nodes : List Node) (asked : List Kind) (waiting woken : List ℕ) (newer : ℕ) → AreToAsk nodes asked waiting woken newer → AreStill defs code cells scopes asked
      → DoMoveOf moves nodes waiting false → DoMoveOf moves nodes woken false → DoMoveFrom moves nodes newer false → DoMove moves nodes false
  none_moves nodes asked waiting woken newer all still of_waiting of_woken of_newer i = go (restless (kind_at nodes i)) refl
    where
      go : (b : Bool) → restless (kind_at nodes i) ≡ b → moves (kind_at nodes i) ≡ false
      go true e = ⊎_elim (of_newer i) (λ v. ⊎_elim (of_woken i) (λ w. ⊎_elim (of_waiting i) (λ h. (still (kind_at nodes i) h).0) w) v) (all i e)
      go false e = over (kind_at nodes i) e
