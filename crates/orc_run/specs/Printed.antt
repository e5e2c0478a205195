-- What the printing of a source does.
use Rattle.std.specs.Prelude.{ℕ, List, Err}
use Rattle.std.specs.declared.option.Option.{Option}
use Rattle.std.specs.Io.KnownBytes.{Appends}
use Rattle.orc_syntax.specs.Tree.{Source}
use Rattle.orc_syntax.specs.Text.{SpellsText, IsFault, IfFault}
use Rattle.orc_syntax.specs.Printing.{printed}
use Rattle.orc_output.specs.Output.{AppendsPrefix}
use Rattle.orc_run.specs.declared.faults.RunFault.{RunFault}
use Rattle.orc_run.specs.declared.faults.RunFault.TheVariants as fault
use Rattle.orc_run.specs.Running.{KeepsOr}

-- what was written is the printed text of the program that the source spells
abbrev pub Prints : List ℕ → Option (List ℕ) → Option (List ℕ) → Type 0
Prints source old new = (s : Source) × SpellsText source s × Appends old new (printed s)

-- at a fault nothing was written, or at a write fault a prefix of the text
abbrev pub LeavesUnprinted : List ℕ → Option (List ℕ) → Option (List ℕ) → RunFault → Type 0
LeavesUnprinted source old new = KeepsOr ((s : Source) × SpellsText source s × AppendsPrefix old new (printed s)) old new

-- a fault is one of the source's text or of the output
abbrev pub IsPrintFault : List ℕ → RunFault → Type 0
IsPrintFault source (fault.Syntax f) = IfFault (Err f) (IsFault source)
IsPrintFault source (fault.Write w) = Unit {0}
IsPrintFault source _ = ⊥
