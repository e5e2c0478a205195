-- Group words, what passes and supplies stand for, and the rule that ties them.
use Rattle.std.specs.Prelude.{◌≡◌, ℕ, ◌+◌, ◌/◌, ◌%◌, ◌<◌, ◌≤◌, Bool, true, false, cond, ◌==◌, List, length, slice_index, Option, None, Some}
use Rattle.std.specs.List.{sum_by}
use mathlib.Core.Option.{some}
use lib.ListN.{get_elem?}
use Rattle.atomic_table.specs.Table.{State}
use Rattle.atomic_table.specs.Seated.{TableId}
use Rattle.orc_word.specs.declared.bits.Bit.{Bit}
use Rattle.orc_word.specs.declared.bits.Bit.TheVariants.{Published, Killed}
use Rattle.orc_word.specs.declared.bits.Bits.{Bits}
use Rattle.orc_word.specs.declared.view.Stance.{Stance}
use Rattle.orc_word.specs.declared.view.Stance.TheVariants.{Supplies, Parting, Idle, Names, Spent}
use Rattle.orc_word.specs.declared.view.Plan.{Plan}

-- the name of no table
abbrev pub no_table : TableId
no_table = record { words = 0; slots = 0; views_name = 0; atom = 0; block = 0; offset = 0; slot_names = List.[] }

-- a word's count of passes, bits 0 to 31
abbrev pub count_of : ℕ → ℕ
count_of w = w % 4294967296

-- a word's bit: published is bit 32, killed is bit 33
abbrev pub bit_of : Bit → ℕ → ℕ
bit_of Published w = w / 4294967296 % 2
bit_of Killed w = w / 8589934592 % 2

-- 1 for yes
abbrev pub flag : Bool → ℕ
flag b = cond b 1 0

-- whether these bits have the bit
abbrev pub has : Bit → Bits → Bool
has Published bits = bits.published
has Killed bits = bits.killed

abbrev pub no_bits : Bits
no_bits = record { published = false; killed = false }

-- these bits and the bit
abbrev pub with_bit : Bit → Bits → Bits
with_bit Published bits = record { published = true; killed = bits.killed }
with_bit Killed bits = record { published = bits.published; killed = true }

-- the second bits have at least the first
abbrev pub Covers : Bits → Bits → Type 0
Covers less more = (b : Bit) → flag (has b less) ≤ flag (has b more)

-- how many passes it stands for
abbrev pub worth : Stance → ℕ
worth (Supplies k) = k
worth (Parting k j) = k + j
worth Idle = 1
worth (Names g seen won) = 1
worth Spent = 0

-- 1 where it names g
abbrev pub names : ℕ → Stance → ℕ
names g (Supplies k) = 0
names g (Parting k j) = 0
names g Idle = 0
names g (Names h seen won) = cond (h == g) 1 0
names g Spent = 0

-- 1 where it names g and has seen its bit
abbrev pub has_seen : Bit → ℕ → Stance → ℕ
has_seen b g (Supplies k) = 0
has_seen b g (Parting k j) = 0
has_seen b g Idle = 0
has_seen b g (Names h seen won) = cond (h == g) (flag (has b seen)) 0
has_seen b g Spent = 0

-- 1 where it names g and has won its bit
abbrev pub has_won : Bit → ℕ → Stance → ℕ
has_won b g (Supplies k) = 0
has_won b g (Parting k j) = 0
has_won b g Idle = 0
has_won b g (Names h seen won) = cond (h == g) (flag (has b won)) 0
has_won b g Spent = 0

-- Word g: its count is the number of passes that name g, every seen bit is set in it, each set bit was won at most once, and no bit above 33 is set
pub record Fits (views : List Stance) (g w : ℕ) : Type 0 where
  pub counted : count_of w ≡ sum_by (names g) views
  pub seen : (b : Bit) (by : ℕ) (v : Stance) → get_elem? views by ≡ some v → has_seen b g v ≤ bit_of b w
  pub won : (b : Bit) → sum_by (has_won b g) views ≤ bit_of b w
  pub narrow : w < 17179869184

-- The rule: each word fits, and idle, naming and supplied passes together are those made at the start
pub record Rule (plan : Plan) (words : List ℕ) (views : List Stance) : Type 0 where
  pub few : plan.passes < 2147483648
  pub wide : length words ≡ plan.groups
  pub whole : sum_by worth views ≡ plan.passes
  pub each : (g : ℕ) → g < plan.groups → Fits views g (slice_index words g)

-- the rule, of a table's words and stances
abbrev pub Held : Plan → State (Unit {0}) Stance → Type 0
Held plan s = Rule plan s.words s.views

-- the group that it names
abbrev pub group_in : Stance → Option ℕ
group_in (Supplies k) = None
group_in (Parting k j) = None
group_in Idle = None
group_in (Names g seen won) = Some g
group_in Spent = None

-- an idle pass
abbrev pub IsIdle : Stance → Type 0
IsIdle (Supplies k) = ⊥
IsIdle (Parting k j) = ⊥
IsIdle Idle = Unit {0}
IsIdle (Names g seen won) = ⊥
IsIdle Spent = ⊥

-- a pass: it is idle, or names a group below n
abbrev pub IsPass : ℕ → Option ℕ → Stance → Type 0
IsPass n None v = IsIdle v
IsPass n (Some g) v = (g < n) × ((seen : Bits) × (won : Bits) × (v ≡ Names g seen won))

-- the bits that it has seen
abbrev pub seen_in : Stance → Bits
seen_in (Supplies k) = no_bits
seen_in (Parting k j) = no_bits
seen_in Idle = no_bits
seen_in (Names g seen won) = seen
seen_in Spent = no_bits

-- the bits that it has won
abbrev pub won_in : Stance → Bits
won_in (Supplies k) = no_bits
won_in (Parting k j) = no_bits
won_in Idle = no_bits
won_in (Names g seen won) = won
won_in Spent = no_bits
