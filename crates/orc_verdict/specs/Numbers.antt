-- The new numbers of an entry.
use Rattle.std.specs.Prelude.{◌≡◌, ℕ, suc}
use Rattle.std.specs.declared.option.Option.{Option}
use Rattle.std.specs.declared.option.Option.TheVariants.{None, Some}
use Rattle.orc_rules.specs.Journal.{Place, next}
use Rattle.orc_verdict.specs.declared.numbers.Numbers.{Numbers}

-- there is no such number, or it is this one
abbrev pub IsIf : Option ℕ → ℕ → Type 0
IsIf None n = Unit {0}
IsIf (Some m) n = m ≡ n

-- the numbers are those that come next
abbrev pub AreNext : Place → Numbers → Type 0
AreNext p n = IsIf n.cell (next p.cells) × IsIf n.call (next p.calls) × IsIf n.mark p.mark × IsIf n.second (suc p.mark)
