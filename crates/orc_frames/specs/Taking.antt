-- What takes a publication.
use Rattle.std.specs.Prelude.{ℕ, ◌≡◌, List, [], ◌∷◌, Bool, true, false, cond, nat_eq, map, zero, suc, Option, Some, None, slice_get}
use Rattle.orc_rules.specs.Term.{Term}
use Rattle.orc_frames.specs.Spelling.{Path, whole, feeding, aiding, trying, seen}
use Rattle.orc_frames.specs.Paths.{has_published, path}
use Rattle.orc_tables.specs.declared.records.Frame.TheVariants.{SeqLeft, PruneRight}
use Rattle.orc_tables.specs.declared.records.Step.{Step}
use Rattle.orc_env.specs.Scopes.{Env, close, without}
use Rattle.orc_tables.specs.declared.records.Frame.{Frame}
use Rattle.orc_frames.specs.declared.takers.Taker.{Taker}
use Rattle.orc_frames.specs.declared.takers.Taker.TheVariants as by

-- what takes a publication from a path, with the path around it: the otherwises on the way are passed over
abbrev pub taker : Path → Path
taker whole = whole
taker (feeding x g p) = feeding x g p
taker (aiding c p) = aiding c p
taker (trying n p) = taker p

-- the otherwises that a publication from a path leaves, the innermost first
abbrev pub crossed : Path → List ℕ
crossed (trying n p) = n ∷ crossed p
crossed _ = []

-- this is what takes a publication of a token at step `from`
abbrev pub Takes : (ℕ → Term) → (ℕ → Env) → (ℕ → Bool) → List Step → ℕ → Taker → Type 0
Takes code env left steps from by.Whole = taker (seen left (path code env steps from)) ≡ whole
Takes code env left steps from (by.SeqLeft x node scope outer) = taker (seen left (path code env steps from)) ≡ feeding x (close (without x (env scope)) (code node)) (seen left (path code env steps outer))
Takes code env left steps from (by.PruneRight c outer) = taker (seen left (path code env steps from)) ≡ aiding c (seen left (path code env steps outer))

-- t takes a publication of a token at step `from`, whatever the names stand for and whichever otherwises have been left
abbrev pub GoesTo : List Step → ℕ → Taker → Type 0
GoesTo steps from t = (code : ℕ → Term) (env : ℕ → Env) (left : ℕ → Bool) → Takes code env left steps from t

-- the step around a step
abbrev pub outer_of : Option Step → ℕ
outer_of (Some p) = p.outer
outer_of None = 0

-- the step around a step; that of step 0 is 0
abbrev pub outer_at : List Step → ℕ → ℕ
outer_at ss zero = 0
outer_at ss (suc k) = outer_of (slice_get ss k)

-- n steps outwards from a step
abbrev pub reach : List Step → ℕ → ℕ → ℕ
reach ss zero i = i
reach ss (suc n) i = outer_at ss (reach ss n i)

-- a `>x>` that takes a publication is at a step around the token's
abbrev pub IsOnWay : List Step → ℕ → Taker → Type 0
IsOnWay steps from by.Whole = Unit {0}
IsOnWay steps from (by.SeqLeft x node scope outer) = (n : ℕ) × (reach steps n from ≡ outer)
IsOnWay steps from (by.PruneRight c outer) = Unit {0}

-- a step enters this, from that outer step
abbrev pub HasStep : List Step → Frame → ℕ → Type 0
HasStep steps e outer = (k : ℕ) × (p : Step) × (slice_get steps k ≡ Some p) × (p.entered ≡ e) × (p.outer ≡ outer)

-- what takes a publication is entered by a step
abbrev pub IsEntered : List Step → Taker → Type 0
IsEntered steps by.Whole = Unit {0}
IsEntered steps (by.SeqLeft x node scope outer) = HasStep steps (SeqLeft x node scope) outer
IsEntered steps (by.PruneRight c outer) = HasStep steps (PruneRight c) outer

-- which otherwises have been left, once these are left, too
abbrev pub left_all : List ℕ → (ℕ → Bool) → ℕ → Bool
left_all [] left = left
left_all (n ∷ ns) left = left_all ns (λ m. cond (nat_eq n m) true (left m))

-- a step without its mark
abbrev pub bare : Step → Step
bare p = record { entered = p.entered; outer = p.outer; group = p.group; depth = p.depth; published = false }

-- the steps once a publication has left these otherwises
pub record Publishes (ns : List ℕ) (ss ss' : List Step) : Type 0 where
  pub left : (n : ℕ) → has_published ss' n ≡ left_all ns (has_published ss) n
  pub alike : map bare ss' ≡ map bare ss
