-- Group words, passes and the records of the book, as a machine whose events any number of workers make, in any order.
use Rattle.std.specs.Prelude.{◌≡◌, ◌≢◌, ℕ, ◌+◌, ◌-◌, Bool, true, false, not, cond, ◌==◌, List, [], ◌∷◌, ◌++◌, slice_set, Option, None, Some, ◌⊎◌}
use Rattle.std.specs.List.{sum_by}
use mathlib.Core.Option.{some}
use lib.ListN.{get_elem?}

-- a bit of a word
pub data Bit : Type 0 where
  published : Bit
  killed : Bit

-- how many passes a word counts, and its bits
pub record Word : Type 0 where
  pub count : ℕ
  pub is_published : Bool
  pub is_killed : Bool

-- the word of a group that has just been opened
abbrev pub opened : Word
opened = record { count = 1; is_published = false; is_killed = false }

-- what a pass is: idle, a right to one group, or taken back
pub data Pass : Type 0 where
  idle : Pass
  names : ℕ → Pass
  gone : Pass

-- a record of the book: its group and the number of its own pass
pub record Record : Type 0 where
  pub group : ℕ
  pub own : ℕ

-- The words by their groups' numbers; the passes; the records; which numbers are taken; the opening, a pass and a number, whose commit is still
-- to come; and the groups that were left last and not yet closed. A number is taken from the commit that follows its opening to the one that frees it
pub record State : Type 0 where
  pub words : ℕ → Word
  pub passes : List Pass
  pub records : List Record
  pub taken : ℕ → Bool
  pub opening : Option (ℕ × ℕ)
  pub lasts : List ℕ

-- An event names passes by their places, its group, and what it answers:
--     make                  an idle pass comes
--     sits                  a place comes that is no pass
--     join p                the idle pass p goes
--     opens p g             the idle pass p comes to name g, which counted nobody: the count is 1, the bits are clear
--     enters p q g          the idle pass q comes to name g, while p names it
--     leaves p g last       the pass p is idle again; `last` where it was the last that named g
--     marks p g bit won     p, which names g, sets the bit; `won` where it was clear
--     looks p g x y         p, which names g, finds the bits published x and killed y
--     commits come freed    one call of the book: records go, the records `come` come, an opened number is taken, `freed` numbers are free
pub data Event : Type 0 where
  make : Event
  sits : Event
  join : ℕ → Event
  opens : ℕ → ℕ → Event
  enters : ℕ → ℕ → ℕ → Event
  leaves : ℕ → ℕ → Bool → Event
  marks : ℕ → ℕ → Bit → Bool → Event
  looks : ℕ → ℕ → Bool → Bool → Event
  commits : List Record → List ℕ → Event

-- the function with another value at g
abbrev pub at_put : {A : Type 0} → (ℕ → A) → ℕ → A → ℕ → A
at_put f g a h = cond (h == g) a (f h)

abbrev pub same_bit : Bit → Bit → Bool
same_bit published published = true
same_bit published killed = false
same_bit killed published = false
same_bit killed killed = true

abbrev pub bit_of : Bit → Word → Bool
bit_of published w = w.is_published
bit_of killed w = w.is_killed

abbrev pub with_bit : Bit → Word → Word
with_bit published w = record w { is_published = true }
with_bit killed w = record w { is_killed = true }

-- a list has an item, somewhere
abbrev pub Has : {A : Type 0} → List A → A → Type 0
Has xs x = (k : ℕ) × (get_elem? xs k ≡ some x)

-- each item of the first list stands in the second
abbrev pub Within : {A : Type 0} → List A → List A → Type 0
Within {A} xs ys = (x : A) → Has xs x → Has ys x

-- the state with other passes and words
abbrev pub moved : State → List Pass → (ℕ → Word) → State
moved s passes words = record s { passes = passes; words = words }

-- no record has this pass, and no opening
abbrev pub IsFree : State → ℕ → Type 0
IsFree s p = ((r : Record) → Has s.records r → r.own ≢ p) × ((g : ℕ) → s.opening ≡ Some (p, g) → ⊥)

-- What an event asks of the state before, and the state after
abbrev pub Step : State → Event → State → Type 0
Step s make t = t ≡ moved s (s.passes ++ idle ∷ []) s.words
Step s sits t = t ≡ moved s (s.passes ++ gone ∷ []) s.words
Step s (join p) t = (get_elem? s.passes p ≡ some idle) × (t ≡ moved s (slice_set s.passes p gone) s.words)
Step s (opens p g) t =
    (get_elem? s.passes p ≡ some idle) × (s.taken g ≡ false) × ((s.words g).count ≡ 0) × (s.opening ≡ None)
    × (t ≡ record s { passes = slice_set s.passes p (names g); words = at_put s.words g opened; opening = Some (p, g) })
Step s (enters p q g) t =
    (get_elem? s.passes p ≡ some (names g)) × (get_elem? s.passes q ≡ some idle)
    × (t ≡ moved s (slice_set s.passes q (names g)) (at_put s.words g (record (s.words g) { count = (s.words g).count + 1 })))
Step s (leaves p g last) t =
    (get_elem? s.passes p ≡ some (names g)) × IsFree s p × (last ≡ ((s.words g).count == 1))
    × (t ≡ record s { passes = slice_set s.passes p idle; words = at_put s.words g (record (s.words g) { count = (s.words g).count - 1 }); lasts = cond last (g ∷ s.lasts) s.lasts })
Step s (marks p g b won) t =
    (get_elem? s.passes p ≡ some (names g)) × (won ≡ not (bit_of b (s.words g))) × (t ≡ moved s s.passes (at_put s.words g (with_bit b (s.words g))))
Step s (looks p g is_published is_killed) t =
    (get_elem? s.passes p ≡ some (names g)) × (is_published ≡ (s.words g).is_published) × (is_killed ≡ (s.words g).is_killed) × (t ≡ s)
Step s (commits come freed) t =
    -- a record stays, or comes with a pass of its own that names its group; an opened number is taken; the freed ones had been left last
    ((r : Record) → Has t.records r → (Has s.records r) ⊎ (Has come r × (get_elem? s.passes r.own ≡ some (names r.group))))
    × ((i j : ℕ) (r q : Record) → get_elem? t.records i ≡ some r → get_elem? t.records j ≡ some q → r.own ≡ q.own → i ≡ j)
    × ((g : ℕ) → Has freed g → Has s.lasts g)
    × ((g : ℕ) → Has t.lasts g → Has s.lasts g × (Has freed g → ⊥))
    × ((g : ℕ) → Has s.lasts g → (Has freed g → ⊥) → Has t.lasts g)
    × ((g : ℕ) → t.taken g ≡ true → (s.taken g ≡ true) ⊎ ((p : ℕ) × (s.opening ≡ Some (p, g))))
    × ((g : ℕ) → s.taken g ≡ true → (Has freed g → ⊥) → t.taken g ≡ true)
    × ((g : ℕ) → Has freed g → t.taken g ≡ false)
    × ((p g : ℕ) → s.opening ≡ Some (p, g) → t.taken g ≡ true)
    × (t.opening ≡ None) × (t.passes ≡ s.passes) × ((g : ℕ) → t.words g ≡ s.words g)

-- a list of events, one after another
abbrev pub Run : State → List Event → State → Type 0
Run s [] t = s ≡ t
Run s (e ∷ es) t = (m : State) × Step s e m × Run m es t

-- before the first event
abbrev pub start : State
start = record { words = λ g. record { count = 0; is_published = false; is_killed = false }; passes = []; records = []; taken = λ g. false; opening = None; lasts = [] }

-- 1 where the pass names g
abbrev pub naming : ℕ → Pass → ℕ
naming g idle = 0
naming g (names h) = cond (h == g) 1 0
naming g gone = 0

-- how many passes name g
abbrev pub named : ℕ → State → ℕ
named g s = sum_by (naming g) s.passes

-- no record is of g
abbrev pub NoRecord : ℕ → State → Type 0
NoRecord g s = (r : Record) → Has s.records r → r.group ≢ g

-- whether the event opens g
abbrev pub is_opening : ℕ → Event → Bool
is_opening g (opens p h) = h == g
is_opening g e = false

-- whether the event frees g
abbrev pub Frees : ℕ → Event → Type 0
Frees g (commits come freed) = Has freed g
Frees g e = ⊥

-- 1 where the event wins the bit of g
abbrev pub wins : Bit → ℕ → Event → ℕ
wins b g (marks p h c won) = cond (h == g) (cond (same_bit b c) (cond won 1 0) 0) 0
wins b g e = 0
