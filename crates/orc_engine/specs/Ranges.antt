-- What a run may be asked for.
use Rattle.std.specs.Prelude.{◌≤◌, ℕ}
use Rattle.orc_rules.specs.declared.limits.TheConstants.{MOST_ENTRIES, MOST_WORKERS}

-- 1 to MOST_WORKERS workers, and a limit of 1 to MOST_ENTRIES entries
abbrev pub IsInRange : ℕ → ℕ → Type 0
IsInRange workers limit = ((1 ≤ workers) × (workers ≤ MOST_WORKERS)) × ((1 ≤ limit) × (limit ≤ MOST_ENTRIES))
