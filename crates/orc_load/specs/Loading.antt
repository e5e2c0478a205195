-- What is loaded from a source and a script.
use Rattle.std.specs.Prelude.{ℕ, List, Ok, Err}
use Rattle.orc_rules.specs.Sites.{Table}
use Rattle.orc_rules.specs.Nodes.{Listing}
use Rattle.orc_syntax.specs.Tree.{Source}
use Rattle.orc_syntax.specs.Text.{SpellsText, IsShallow, IsFault, IfFault}
use Rattle.orc_scope.specs.Checking.{Checks}
use Rattle.orc_site.specs.Script.{Says, IsFault as IsBad}
use Rattle.orc_load.specs.declared.fault.LoadFault.{LoadFault}
use Rattle.orc_load.specs.declared.fault.LoadFault.TheVariants as fault

-- the source spells a tree without a fault: it isn't too long, and nothing in it is too deep
abbrev pub SpellsTree : List ℕ → Source → Type 0
SpellsTree source s = SpellsText source s × IsShallow source

-- the program of a source with these sites: the source spells a tree without a fault, and the numbered nodes are those of its written-out terms
abbrev pub IsProgramOf : List ℕ → Table → Listing → Type 0
IsProgramOf source t l = (s : Source) × SpellsTree source s × Checks t.names s (Ok l)

-- the source spells a program, with the sites that the script says
abbrev pub Loads : List ℕ → List ℕ → Type 0
Loads source script = (l : Listing) × (t : Table) × Says script t × IsProgramOf source t l

-- why no program is loaded. A `Syntax` fault is one of the source's text, a `Script` fault one of the script if the source spells a program, and a
-- `Scope` fault one of the names if the script is one, too. Refused memory is set aside.
abbrev pub IsLoadFault : List ℕ → List ℕ → LoadFault → Type 0
IsLoadFault source script (fault.Syntax f) = IfFault (Err f) (IsFault source)
IsLoadFault source script (fault.Script f) = ((s : Source) × SpellsTree source s) × IsBad script f
IsLoadFault source script (fault.Scope f) = (s : Source) × (t : Table) × SpellsTree source s × Says script t × Checks t.names s (Err f)
