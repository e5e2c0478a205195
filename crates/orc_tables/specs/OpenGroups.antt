-- The table of the open groups: each is found by its number, and each number says how many members it has.
use Rattle.std.specs.Prelude.{◌≡◌, ◌≤◌, ◌<◌, ◌+◌, ◌⊎◌, ℕ, zero, suc, List, length, Some, slice_get, slice_index_or}
use Rattle.orc_rules.specs.declared.limits.TheConstants.{MOST_GROUPS}
use Rattle.orc_indexes.specs.Same.{weight, is_this}
use Rattle.orc_tables.specs.Steps.{group_at}
use Rattle.orc_tables.specs.declared.records.Token.{Token}
use Rattle.orc_tables.specs.declared.records.Call.{Call}
use Rattle.orc_tables.specs.declared.records.Step.{Step}
use Rattle.orc_tables.specs.declared.records.Group.{Group}

-- what callers see of it: the groups, how many members each number has, and how many groups more find room
pub record GroupTable : Type 0 where
  pub items : List Group
  pub sizes : List ℕ
  pub room : ℕ

-- 1 for a group with number i
abbrev pub is_named : ℕ → Group → ℕ
is_named i g = is_this i g.number

-- an open group has this number, or it is the program's own
abbrev pub IsOpen : List Group → ℕ → Type 0
IsOpen gs i = (i ≡ 0) ⊎ (1 ≤ weight (is_named i) gs)

-- `places` leads from each group's number to its place
abbrev pub LeadTo : List Group → List ℕ → Type 0
LeadTo gs places = (k : ℕ) (g : Group) → slice_get gs k ≡ Some g → slice_get places g.number ≡ Some k

-- the numbers of a table, from 1 on: each is one group's, or it is free
pub record AreNumbered (gs : List Group) (places free : List ℕ) : Type 0 where
  pub lead : LeadTo gs places
  pub once : (i : ℕ) → weight (is_this i) free + weight (is_named i) gs ≤ 1
  pub root : weight (is_this 0) free + weight (is_named 0) gs ≡ 0
  pub within : (i : ℕ) → 1 ≤ weight (is_this i) free → i < length places
  pub all : length free + length gs + 1 ≡ length places
  pub few : length places ≤ MOST_GROUPS

-- how many of these tokens, calls and groups each group has
abbrev pub tokens_in : List Step → List Token → ℕ → ℕ
tokens_in ss ts i = weight (λ (t : Token). is_this i (group_at ss t.step)) ts

abbrev pub calls_in : List Step → List Call → ℕ → ℕ
calls_in ss cs i = weight (λ (c : Call). is_this i (group_at ss c.step)) cs

abbrev pub groups_in : List Step → List Group → ℕ → ℕ
groups_in ss gs i = weight (λ (g : Group). is_this i (group_at ss g.outer)) gs

-- how many members a number has
abbrev pub size_of : List ℕ → ℕ → ℕ
size_of sizes i = slice_index_or sizes i 0

-- each group's size has changed by as much as its count has from `before` to `after`, if it was no less than that count before
abbrev pub HaveLeft : List ℕ → List ℕ → (ℕ → ℕ) → (ℕ → ℕ) → Type 0
HaveLeft sizes sizes' before after = (i : ℕ) → before i ≤ size_of sizes i → size_of sizes' i + before i ≡ size_of sizes i + after i

-- 1 for the size 0, else 0
abbrev pub is_none : ℕ → ℕ
is_none zero = 1
is_none (suc k) = 0

-- how many groups have no members
abbrev pub empty_in : List ℕ → List Group → ℕ
empty_in sizes gs = weight (λ (g : Group). is_none (size_of sizes g.number)) gs
