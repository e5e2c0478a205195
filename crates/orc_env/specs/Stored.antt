-- How the meaning of a name is stored.
use Rattle.std.specs.Prelude.{◌≡◌, refl}
use Rattle.orc_rules.specs.declared.value.Value.TheVariants.{Number, Truth, Signal}
use Rattle.orc_env.specs.declared.names.Bound.{Bound}
use Rattle.orc_env.specs.declared.names.Bound.TheVariants.{Is, Cell, Void}
use Rattle.orc_env.specs.declared.stored.Put.{Put}
use Rattle.orc_env.specs.declared.stored.Put.TheVariants as put

-- the meaning that is stored so
abbrev pub bound_in : Put → Bound
bound_in (put.Number n) = Is (Number n)
bound_in (put.Truth b) = Is (Truth b)
bound_in put.Signal = Is Signal
bound_in (put.Cell c) = Cell c
bound_in put.Void = Void

-- how it is stored
abbrev pub put_for : Bound → Put
put_for (Is (Number n)) = put.Number n
put_for (Is (Truth b)) = put.Truth b
put_for (Is Signal) = put.Signal
put_for (Cell c) = put.Cell c
put_for Void = put.Void

-- a meaning that was read and stored again is stored as it was
pub is_again : (p : Put) → put_for (bound_in p) ≡ p
is_again (put.Number n) = refl
is_again (put.Truth b) = refl
is_again put.Signal = refl
is_again (put.Cell c) = refl
is_again put.Void = refl
