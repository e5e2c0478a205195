-- Tables to which more is added.
use Rattle.std.specs.Prelude.{◌≡◌, List, ◌++◌}

-- the same entries, and perhaps more behind them
abbrev pub Grows : {X : Type 0} → List X → List X → Type 0
Grows {X} xs ys = (more : List X) × (ys ≡ xs ++ more)
