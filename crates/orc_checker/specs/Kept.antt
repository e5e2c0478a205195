-- Calls as they are kept.
use Rattle.std.specs.Prelude.{◌≡◌, refl, ℕ}
use Rattle.orc_rules.specs.declared.value.Value.TheVariants as datum
use Rattle.orc_rules.specs.declared.value.Answer.TheVariants as answer
use Rattle.orc_rules.specs.declared.value.Found.{Found}
use Rattle.orc_rules.specs.declared.value.Found.TheVariants.{After, Never}
use Rattle.orc_checker.specs.declared.rest.Called.{Called}
use Rattle.orc_checker.specs.declared.kept.Flat.{Flat}
use Rattle.orc_checker.specs.declared.kept.Flat.TheVariants as flat

-- what the table says of a call that is kept
abbrev pub found_in : Flat → Found
found_in (flat.Never i t) = Never
found_in (flat.Halts i t d) = After answer.Halt d
found_in (flat.Number i t d n) = After (answer.Value (datum.Number n)) d
found_in (flat.Truth i t d b) = After (answer.Value (datum.Truth b)) d
found_in (flat.Signal i t d) = After (answer.Value datum.Signal) d

-- when it was made
abbrev pub at_in : Flat → ℕ
at_in (flat.Never i t) = t
at_in (flat.Halts i t d) = t
at_in (flat.Number i t d n) = t
at_in (flat.Truth i t d b) = t
at_in (flat.Signal i t d) = t

-- the node where it was put
abbrev pub node_in : Flat → ℕ
node_in (flat.Never i t) = i
node_in (flat.Halts i t d) = i
node_in (flat.Number i t d n) = i
node_in (flat.Truth i t d b) = i
node_in (flat.Signal i t d) = i

-- the call that is kept
abbrev pub called_in : Flat → Called
called_in f = record { found = found_in f; at = at_in f; node = node_in f }

-- how a call is kept
abbrev pub flat_of : Found → ℕ → ℕ → Flat
flat_of Never t i = flat.Never i t
flat_of (After answer.Halt d) t i = flat.Halts i t d
flat_of (After (answer.Value (datum.Number n)) d) t i = flat.Number i t d n
flat_of (After (answer.Value (datum.Truth b)) d) t i = flat.Truth i t d b
flat_of (After (answer.Value datum.Signal) d) t i = flat.Signal i t d

-- what is kept is the same again
pub is_again : (f : Flat) → flat_of (found_in f) (at_in f) (node_in f) ≡ f
is_again (flat.Never i t) = refl
is_again (flat.Halts i t d) = refl
is_again (flat.Number i t d n) = refl
is_again (flat.Truth i t d b) = refl
is_again (flat.Signal i t d) = refl
