use Rattle.std.proofs.Common.{rules, ◌≡◌, ◌++◌, List, ℕ}
use Rattle.std.specs.Prelude.{OnOk, Result, Ok, Err}
use Rattle.orc_syntax.specs.Tree.{Source}
use Rattle.orc_syntax.specs.Text.{SpellsText}
use Rattle.orc_syntax.specs.Same.{AppendsSame}
use Rattle.orc_syntax.specs.Printing.{printed}
use Rattle.orc_syntax.proofs.Again.{appended_same}
use Rattle.orc_syntax.proofs.printer.print.Goals as goal

on_ok : {E : Type 0} (src : List ℕ) (s : Source) (old new : List ℕ) → SpellsText src s → (r : Result (Unit {0}) E) → OnOk r (new ≡ old ++ printed s) → OnOk r (AppendsSame old new s)
on_ok src s old new spells (Ok u) h = appended_same src s old new spells h
on_ok src s old new spells (Err e) h = h

pub returns-clause-same : goal.returns-clause-same
returns-clause-same c = λ src s is spells. on_ok src s c.args.out.now.items c.extend_from_slice.new.self.items spells c.extend_from_slice.result (search rules)
