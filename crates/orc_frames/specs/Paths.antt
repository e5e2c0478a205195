-- The path of each step: what is round a token that took it last.
use Rattle.std.specs.Prelude.{ℕ, List, [], ◌∷◌, ◌++◌, Bool, false, cond, nat_eq, nat_lt, not, ◌&&◌, ◌||◌, slice_index_or, Option, Some, None}
use Rattle.orc_rules.specs.declared.param.Param.TheVariants.{Is}
use Rattle.orc_rules.specs.Term.{Term, param}
use Rattle.orc_env.specs.Scopes.{Env, close, without}
use Rattle.orc_frames.specs.Spelling.{Path, whole, feeding, aiding, trying}
use Rattle.orc_tables.specs.declared.records.Standing.{Standing}
use Rattle.orc_tables.specs.declared.records.Standing.TheVariants.{At, On}
use Rattle.orc_tables.specs.declared.records.Frame.{Frame}
use Rattle.orc_tables.specs.declared.records.Frame.TheVariants.{SeqLeft, PruneRight, OtherwiseLeft}
use Rattle.orc_tables.specs.declared.records.Step.{Step}

-- over the program's terms and the scopes' environments
module _ (code : ℕ → Term) (env : ℕ → Env) where
  -- the term under a token
  abbrev pub standing : Standing → Term
  standing (At node scope) = close (env scope) (code node)
  standing (On v) = param (Is v)

  -- the path inside a frame that itself has path p
  abbrev pub inwards : Frame → Path → Path
  inwards (SeqLeft x g scope) p = feeding x (close (without x (env scope)) (code g)) p
  inwards (PruneRight c) p = aiding c p
  inwards (OtherwiseLeft n) p = trying n p

  -- these paths, and behind them the path of each of these steps
  abbrev pub paths_from : List Path → List Step → List Path
  paths_from ps [] = ps
  paths_from ps (s ∷ ss) = paths_from (ps ++ inwards s.entered (slice_index_or ps s.outer whole) ∷ []) ss

  -- the path of step i; there is no step 0
  abbrev pub path : List Step → ℕ → Path
  path ss i = slice_index_or (paths_from (whole ∷ []) ss) i whole

-- this is the left side of otherwise n
abbrev pub enters_left_of : ℕ → Frame → Bool
enters_left_of n (SeqLeft x g scope) = false
enters_left_of n (PruneRight c) = false
enters_left_of n (OtherwiseLeft m) = nat_eq n m

-- this step enters otherwise n, and a publication has left it there
abbrev pub has_published_at : ℕ → Option Step → Bool
has_published_at n (Some s) = s.published && enters_left_of n s.entered
has_published_at n None = false

-- a publication has left otherwise n
abbrev pub has_published : List Step → ℕ → Bool
has_published [] n = false
has_published (s ∷ ss) n = (s.published && enters_left_of n s.entered) || has_published ss n

-- ---- names of what isn't there: a scope past the last one, n, or an otherwise whose number isn't below the next mark
abbrev pub is_out : ℕ → Standing → Bool
is_out n (At node scope) = nat_lt n scope
is_out n (On v) = false

abbrev pub entered_out : ℕ → ℕ → Frame → Bool
entered_out n next (SeqLeft x g scope) = nat_lt n scope
entered_out n next (PruneRight c) = false
entered_out n next (OtherwiseLeft m) = not (nat_lt m next)

abbrev pub step_out : ℕ → ℕ → Step → Bool
step_out n next p = entered_out n next p.entered

-- 1 if the step enters the left side of otherwise m, else 0
abbrev pub tries : ℕ → Step → ℕ
tries m p = cond (enters_left_of m p.entered) 1 0
