-- What each step on the words tells: of the step, the seat before, the number found and the seat after.
use Rattle.std.specs.Prelude.{◌≡◌, ◌≢◌, ℕ, ◌+◌, ◌-◌, ◌≤◌, ◌<◌, ◌==◌, cond, List, [], ◌∷◌, ◌++◌}
use Rattle.atomic_table.specs.Table.{Me, Step}
use Rattle.orc_word.specs.declared.bits.Bit.{Bit}
use Rattle.orc_word.specs.declared.bits.Bit.TheVariants.{Published, Killed}
use Rattle.orc_word.specs.declared.bits.Bits.{Bits}
use Rattle.orc_word.specs.declared.view.Stance.{Stance}
use Rattle.orc_word.specs.declared.view.Stance.TheVariants.{Supplies, Parting, Idle, Names, Spent}
use Rattle.orc_word.specs.declared.view.Deed.{Deed}
use Rattle.orc_word.specs.declared.view.Deed.TheVariants.{Opened, Found, Ended, Won}
use Rattle.orc_word.specs.declared.view.View.{View}
use Rattle.orc_word.specs.Words.{count_of, bit_of, flag, has, no_bits, with_bit, Covers}

-- what the table knows of a seat, with what it stands for and without its deeds
abbrev pub Sat : Type 0
Sat = Me (Unit {0}) Stance

-- what an exchange tells: of the step, the seat before, the number found and the seat after
abbrev pub Told : Type 1
Told = Step (Unit {0}) → Sat → ℕ → Sat → Type 0

-- nothing changes
abbrev pub peeked : Told
peeked st m r n = n ≡ m

-- a supply stands for fewer than 2 ^ 31 passes
abbrev pub bounded : Told
bounded st m r n = (n ≡ m) × ((k : ℕ) → m.0 ≡ Supplies k → k < 2147483648)

-- the supply sets the operand's number of passes aside
abbrev pub set_aside : Told
set_aside st m r n = (k : ℕ) → m.0 ≡ Supplies k → n ≡ (Parting (k - st.first) st.first, m.1)

-- where the word was found as expected, the pass names the group
abbrev pub opened : Told
opened st m r n = (r ≡ st.first → n ≡ (Names st.word no_bits no_bits, m.1)) × (r ≢ st.first → n ≡ m)

-- the pass names the group
abbrev pub entered : Told
entered st m r n = n ≡ (Names st.word no_bits no_bits, m.1)

-- the pass is idle
abbrev pub left : Told
left st m r n = n ≡ (Idle, m.1)

-- the bits that a word shows
abbrev pub bits_of : ℕ → Bits
bits_of w = record { published = bit_of Published w == 1; killed = bit_of Killed w == 1 }

-- the pass has seen the bit, and has won it where the word had it clear; a bit that it had seen was set
abbrev pub marked : Bit → Told
marked b st m r n = (seen won : Bits) → m.0 ≡ Names st.word seen won → (n ≡ (Names st.word (with_bit b seen) (cond (bit_of b r == 0) (with_bit b won) won), m.1)) × (flag (has b seen) ≤ bit_of b r)

-- the pass has seen what the word shows, which is at least what it had seen
abbrev pub looked : Told
looked st m r n = (seen won : Bits) → m.0 ≡ Names st.word seen won → (n ≡ (Names st.word (bits_of r) won, m.1)) × Covers seen (bits_of r)

-- a supply with one pass fewer, and below one with one more; other stances are as they were
abbrev pub one_less : Stance → Stance
one_less (Supplies k) = Supplies (k - 1)
one_less (Parting k j) = Parting k j
one_less Idle = Idle
one_less (Names g seen won) = Names g seen won
one_less Spent = Spent

abbrev pub one_more : Stance → Stance
one_more (Supplies k) = Supplies (k + 1)
one_more (Parting k j) = Parting k j
one_more Idle = Idle
one_more (Names g seen won) = Names g seen won
one_more Spent = Spent

-- of a supply that parts with passes, the part that keeps its own, and below the part that has those set aside
abbrev pub all_kept : Stance → Stance
all_kept (Supplies k) = Supplies k
all_kept (Parting k j) = Supplies k
all_kept Idle = Idle
all_kept (Names g seen won) = Names g seen won
all_kept Spent = Spent

abbrev pub all_given : Stance → Stance
all_given (Supplies k) = Supplies k
all_given (Parting k j) = Supplies j
all_given Idle = Idle
all_given (Names g seen won) = Names g seen won
all_given Spent = Spent

-- a seat with its view, and what it stands for
abbrev pub Seated : Type 0
Seated = Me (Unit {0}) View

abbrev pub stood : Seated → Sat
stood m = (m.0.stance, m.1)

-- the step tells this of what the seat stands for, and adds what it does for good
abbrev pub doing : (Step (Unit {0}) → ℕ → List Deed) → Told → Step (Unit {0}) → Seated → ℕ → Seated → Type 0
doing deeds told st m r n = told st (stood m) r (stood n) × (n.0.deeds ≡ m.0.deeds ++ deeds st r)

-- it adds nothing
abbrev pub seeing : Told → Step (Unit {0}) → Seated → ℕ → Seated → Type 0
seeing told st m r n = told st (stood m) r (stood n) × (n.0.deeds ≡ m.0.deeds)

-- what an exchange does for good, by the number that it found: an opening, a first coming, a last leave, a win
abbrev pub if_opened : Step (Unit {0}) → ℕ → List Deed
if_opened st r = cond (r == st.first) (Opened st.word (bits_of r) ∷ []) []

abbrev pub if_found : Step (Unit {0}) → ℕ → List Deed
if_found st r = cond (count_of r == 0) (Found st.word ∷ []) []

abbrev pub if_ended : Step (Unit {0}) → ℕ → List Deed
if_ended st r = cond (count_of r == 1) (Ended st.word ∷ []) []

abbrev pub if_won : Bit → Step (Unit {0}) → ℕ → List Deed
if_won b st r = cond (bit_of b r == 0) (Won st.word b ∷ []) []
