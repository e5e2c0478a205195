-- Step by step outwards to what takes a publication.
use Rattle.std.proofs.Common.{◌≡◌, ◌≤◌, ◌-◌, ℕ, List, refl, ap, ◌∙◌, arith, Bool, true, false, cond, Some}
use Rattle.std.specs.Prelude.{slice_get}
use Rattle.orc_rules.specs.Term.{Term}
use Rattle.orc_env.specs.Scopes.{Env, close, without}
use Rattle.orc_frames.specs.Spelling.{Path, feeding, aiding, trying, seen}
use Rattle.orc_frames.specs.Paths.{path, inwards}
use Rattle.orc_frames.specs.Taking.{taker}
use Rattle.orc_tables.specs.Steps.{AreOutwards}
use Rattle.orc_tables.specs.declared.records.Frame.TheVariants.{SeqLeft, PruneRight, OtherwiseLeft}
use Rattle.orc_tables.specs.declared.records.Step.{Step}
use Rattle.orc_frames.proofs.Growth.{path-unfold}

pub taker-try : (left : ℕ → Bool) (n : ℕ) (p : Path) → taker (seen left (trying n p)) ≡ taker (seen left p)
taker-try left n p = go (left n)
  where
    go : (b : Bool) → taker (cond b (seen left p) (trying n (seen left p))) ≡ taker (seen left p)
    go true = refl
    go false = refl

module _ (ss : List Step) (outwards : AreOutwards ss) (i : ℕ) (p : Step) (off : i ≡ 0 → ⊥) (h : slice_get ss (i - 1) ≡ Some p) where
  pub before-it : p.outer ≤ i - 1
  before-it = outwards (i - 1) p h

  here : (code : ℕ → Term) (env : ℕ → Env) → path code env ss i ≡ inwards code env p.entered (path code env ss p.outer)
  here code env = path-unfold code env ss i (i - 1) p (omega (arith, off)) h before-it

  pub on-feed : (x g scope : ℕ) → p.entered ≡ SeqLeft x g scope → (code : ℕ → Term) (env : ℕ → Env) (left : ℕ → Bool) → taker (seen left (path code env ss i)) ≡ feeding x (close (without x (env scope)) (code g)) (seen left (path code env ss p.outer))
  on-feed x g scope is code env left = ap (λ z. taker (seen left z)) (here code env ∙ ap (λ z. inwards code env z (path code env ss p.outer)) is)

  pub on-aid : (c : ℕ) → p.entered ≡ PruneRight c → (code : ℕ → Term) (env : ℕ → Env) (left : ℕ → Bool) → taker (seen left (path code env ss i)) ≡ aiding c (seen left (path code env ss p.outer))
  on-aid c is code env left = ap (λ z. taker (seen left z)) (here code env ∙ ap (λ z. inwards code env z (path code env ss p.outer)) is)

  pub on-try : (n : ℕ) → p.entered ≡ OtherwiseLeft n → (code : ℕ → Term) (env : ℕ → Env) (left : ℕ → Bool) → taker (seen left (path code env ss i)) ≡ taker (seen left (path code env ss p.outer))
  on-try n is code env left = ap (λ z. taker (seen left z)) (here code env ∙ ap (λ z. inwards code env z (path code env ss p.outer)) is) ∙ taker-try left n (path code env ss p.outer)
