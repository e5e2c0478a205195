-- How large the records of a run can be, by its journal.
use Rattle.std.specs.Prelude.{◌≤◌, ◌+◌, ◌⊎◌, ℕ, List, [], ◌∷◌}
use Rattle.orc_rules.specs.declared.entry.Entry.{Entry}
use Rattle.orc_rules.specs.declared.entry.Entry.TheVariants.{Fork, Open, Right, Other, Seq}
use Rattle.orc_rules.specs.declared.limits.TheConstants.{MOST_TOKENS, MOST_GROUPS, MOST_FRAMES}

-- by how many an entry raises the number of tokens and calls, how many sides it opens, and how many left sides of a `>x>` it enters
abbrev pub brings : Entry → ℕ
brings (Fork s a b) = 1
brings (Open s c a b) = 1
brings (Right s a) = 1
brings _ = 0

abbrev pub opens : Entry → ℕ
opens (Open s c a b) = 1
opens (Other s a) = 1
opens _ = 0

abbrev pub feeds : Entry → ℕ
feeds (Seq s a) = 1
feeds _ = 0

-- the sum of such a number over the entries of a journal
abbrev pub total : (Entry → ℕ) → List Entry → ℕ
total w [] = 0
total w (e ∷ es) = w e + total w es

-- a limit of the engine can have been reached: as many tokens and calls, open groups or frames as there may be
abbrev pub IsCrowded : List Entry → Type 0
IsCrowded es = (MOST_TOKENS ≤ total brings es + 1) ⊎ ((MOST_GROUPS ≤ total opens es + 1) ⊎ (MOST_FRAMES ≤ total feeds es))
