-- A text that comes piece by piece.
use Rattle.std.specs.Prelude.{◌≡◌, ◌+◌, ℕ, List, ◌++◌, length, ⊤}
use Rattle.std.specs.declared.option.Option.{Option}
use Rattle.std.specs.declared.option.Option.TheVariants.{None, Some}

-- what has come and isn't used yet; what is still to come, where that is known; and how many bytes have come
pub record Coming : Type 0 where
  pub rest : List ℕ
  pub left : Option (List ℕ)
  pub came : ℕ

-- one piece more has come
abbrev pub comes_with : Coming → List ℕ → Option (List ℕ) → Coming
comes_with c piece left = record { rest = c.rest ++ piece; left = left; came = c.came + length piece }

-- of the bytes that have come, all but this rest are used
abbrev pub with_rest : Coming → List ℕ → Coming
with_rest c rest = record { rest = rest; left = c.left; came = c.came }

-- these bytes may still come
abbrev pub MayCome : Option (List ℕ) → List ℕ → Type 0
MayCome None bytes = ⊤
MayCome (Some known) bytes = bytes ≡ known
