-- Lists of what was seen by their numbers.
use Rattle.std.specs.Prelude.{◌≡◌, ◌<◌, ◌≤◌, ℕ, List, [], ◌∷◌, ◌++◌, length, Some, slice_get, slice_index_or}
use Rattle.orc_rules.specs.declared.value.Value.TheVariants.{Signal}
use Rattle.orc_claims.specs.declared.happening.Occurrence.{Occurrence}
use Rattle.orc_claims.specs.declared.happening.Occurrence.TheVariants as occurrence
use Rattle.orc_schedules.specs.declared.lists.Longer.{Longer}
use Rattle.orc_schedules.specs.declared.lists.What.{What}
use Rattle.orc_schedules.specs.declared.lists.What.TheVariants.{Published, Call, Nothing}
use Rattle.orc_schedules.specs.Seen.{Past, nothing_yet}
use Rattle.orc_schedules.specs.Watch.{all_at}

-- what became of calls, by their numbers, and what each list but the empty one is made of
pub record Linked : Type 0 where
  pub calls : List Occurrence
  pub longer : List Longer

-- the list of a number, and the empty one where there is none
abbrev pub list_at : List Past → ℕ → Past
list_at ls i = slice_index_or ls i nothing_yet

-- where only time passes nothing is seen
abbrev pub what_of : List Occurrence → What → List Occurrence
what_of calls (Published v) = occurrence.Published v ∷ []
what_of calls (Call n) = slice_index_or calls n (occurrence.Published Signal) ∷ []
what_of calls Nothing = []

-- a list with one thing more, at this time
abbrev pub list_of : List Occurrence → List Past → Longer → Past
list_of calls ls x = record { happened = (list_at ls x.before).happened ++ all_at x.now (what_of calls x.what); now = x.now }

-- these lists, and behind them those that longer ones make of lists before
abbrev pub lists_from : List Occurrence → List Past → List Longer → List Past
lists_from calls ls [] = ls
lists_from calls ls (x ∷ xs) = lists_from calls (ls ++ list_of calls ls x ∷ []) xs

-- the lists in the order of their numbers: the empty one at time 0, and each other behind the one that it is longer than
abbrev pub lists : Linked → List Past
lists l = lists_from l.calls (nothing_yet ∷ []) l.longer

-- each list is longer than one with a lower number: the place i has the list of the number i + 1
abbrev pub AreBehind : List Longer → Type 0
AreBehind xs = (i : ℕ) (x : Longer) → slice_get xs i ≡ Some x → x.before ≤ i

-- a list names only what is among the n that became of calls
abbrev pub IsMade : ℕ → What → Type 0
IsMade n (Published v) = Unit {0}
IsMade n (Call k) = k < n
IsMade n Nothing = Unit {0}

-- so it is of each list
abbrev pub AreMade : List Occurrence → List Longer → Type 0
AreMade calls xs = (i : ℕ) (x : Longer) → slice_get xs i ≡ Some x → IsMade (length calls) x.what
