-- Outwards to the step that takes a publication, whatever otherwises are between.
use Rattle.std.proofs.Common.{◌≡◌, ◌<◌, ◌-◌, ℕ, zero, suc, List, [], ◌∷◌, refl, ap, ◌∙◌, arith, length, Bool, true, false, cond, Option, Some, None}
use Rattle.std.specs.Prelude.{slice_get}
use Rattle.orc_rules.specs.Term.{Term}
use Rattle.orc_env.specs.Scopes.{Env}
use Rattle.orc_frames.specs.Spelling.{seen, whole}
use Rattle.orc_frames.specs.Paths.{path}
use Rattle.orc_frames.specs.Taking.{taker, outer_at, outer_of, reach}
use Rattle.orc_tables.specs.Steps.{AreOutwards, step_at, is_try, past_try, taker_among, taker_at}
use Rattle.orc_tables.specs.declared.records.Frame.{Frame}
use Rattle.orc_tables.specs.declared.records.Frame.TheVariants.{SeqLeft, PruneRight, OtherwiseLeft}
use Rattle.orc_tables.specs.declared.records.Step.{Step}
use Rattle.orc_frames.proofs.Growth.{path-none}
use Rattle.orc_frames.proofs.Forms.{path-past}
use Rattle.orc_frames.proofs.Outwards.{on-try}

-- the same takes a publication, and it is reached step by step
pub record IsPast (ss : List Step) (from at : ℕ) : Type 0 where
  pub way : (code : ℕ → Term) (env : ℕ → Env) (left : ℕ → Bool) → taker (seen left (path code env ss from)) ≡ taker (seen left (path code env ss at))
  pub round : (n : ℕ) × (reach ss n from ≡ at)

pub entered-try : (e : Frame) → is_try e ≡ true → (n : ℕ) × (e ≡ OtherwiseLeft n)
entered-try (SeqLeft x g scope) h = cc h
entered-try (PruneRight c) h = cc h
entered-try (OtherwiseLeft n) h = (n, refl)

pub get-step : (ss : List Step) (i : ℕ) (p : Step) → step_at ss i ≡ Some p → (i ≡ 0 → ⊥) × (slice_get ss (i - 1) ≡ Some p)
get-step ss zero p h = cc h
get-step ss (suc k) p h = (λ e. cc e, ap (slice_get ss) (let e : suc k - 1 ≡ k = omega arith in e) ∙ h)

pub next-round : (ss : List Step) (from i : ℕ) (p : Step) → step_at ss i ≡ Some p → ((n : ℕ) × (reach ss n from ≡ i)) → (n : ℕ) × (reach ss n from ≡ p.outer)
next-round ss from zero p h r = cc h
next-round ss from (suc k) p h r = (suc r.0, ap (outer_at ss) r.1 ∙ ap outer_of h)

past-one : (ss : List Step) → AreOutwards ss → (from i : ℕ) (p : Step) → step_at ss i ≡ Some p → is_try p.entered ≡ true → IsPast ss from i → IsPast ss from p.outer
past-one ss outwards from i p h tries P =
    let g = get-step ss i p h in
    let e = entered-try p.entered tries in
    record {
      way = λ code env left. P.way code env left ∙ on-try ss outwards i p g.0 g.1 e.0 e.1 code env left;
      round = next-round ss from i p h P.round;
    }

past-among : (ss : List Step) → AreOutwards ss → (from n i : ℕ) → IsPast ss from i → IsPast ss from (taker_among n ss i)
past-among ss outwards from zero i P = P
past-among ss outwards from (suc n) i P = go (step_at ss i) refl (λ j Q. past-among ss outwards from n j Q)
  where
    go : (o : Option Step) → step_at ss i ≡ o → ((j : ℕ) → IsPast ss from j → IsPast ss from (taker_among n ss j)) → IsPast ss from (past_try (λ j. taker_among n ss j) i o)
    go None e next = P
    go (Some p) e next = on (is_try p.entered) refl
      where
        on : (b : Bool) → is_try p.entered ≡ b → IsPast ss from (cond b (taker_among n ss p.outer) i)
        on true f = next p.outer (past-one ss outwards from i p e f P)
        on false f = P

pub is-past : (ss : List Step) → AreOutwards ss → (from : ℕ) → IsPast ss from (taker_at ss from)
is-past ss outwards from = past-among ss outwards from from from (record { way = λ code env left. refl; round = (zero, refl) })

-- where no step is, the whole program is
pub none-whole : (ss : List Step) (i : ℕ) → step_at ss i ≡ None → (code : ℕ → Term) (env : ℕ → Env) (left : ℕ → Bool) → taker (seen left (path code env ss i)) ≡ whole
none-whole ss zero h code env left = ap (λ z. taker (seen left z)) (path-none code env ss)
none-whole ss (suc k) h code env left = ap (λ z. taker (seen left z)) (path-past code env ss (suc k) (got-none ss k h))
  where
    got-none : (xs : List Step) (k : ℕ) → slice_get xs k ≡ None → length xs < suc k
    got-none [] k h = omega arith
    got-none (x ∷ xs) zero h = cc h
    got-none (x ∷ xs) (suc k) h = omega (arith, got-none xs k h)
