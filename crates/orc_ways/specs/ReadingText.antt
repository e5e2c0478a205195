-- Why the lines of a text aren't read.
use Rattle.std.specs.Prelude.{◌≡◌, ℕ, List}
use Rattle.orc_ways.specs.declared.fault.TestFault.{TestFault}
use Rattle.orc_ways.specs.declared.fault.TestFault.TheVariants as fault
use Rattle.orc_ways.specs.Drafts.{no_line, no_place, read_text}

-- the faults that the lines of a text have, before the whole is looked at
abbrev pub IsDraftFault : List ℕ → TestFault → Type 0
IsDraftFault text fault.Memory = Unit {0}
IsDraftFault text (fault.Line n) = read_text text ≡ no_line n
IsDraftFault text (fault.Place n) = read_text text ≡ no_place n
IsDraftFault text _ = ⊥
