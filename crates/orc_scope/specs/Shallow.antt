-- What the bounds on a text's depth say of its tree.
use Rattle.std.specs.Prelude.{ℕ, List}
use Rattle.orc_syntax.specs.Text.{SpellsText, IsShallow as IsShallowText}
use Rattle.orc_syntax.specs.Tree.{Source}
use Rattle.orc_scope.specs.Deep.{IsShallow, AreShallow}

-- where no bracket, `val` or operator of a text is one too many, none of its tree is
abbrev pub ShallowTrees : Type 0
ShallowTrees = (src : List ℕ) (s : Source) → SpellsText src s → IsShallowText src → AreShallow s.definitions × IsShallow s.main
