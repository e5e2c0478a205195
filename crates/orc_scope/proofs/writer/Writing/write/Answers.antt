use Rattle.std.proofs.Common.{◌≡◌, sym, subst}
use Rattle.std.specs.Prelude.{OnOk}
use Rattle.orc_syntax.specs.declared.tree.Part.{Part}
use Rattle.orc_scope.specs.Building.{built}
use Rattle.orc_syntax.specs.Ast.{sort}
use Rattle.orc_scope.specs.Pieces.{parts}
use Rattle.orc_scope.proofs.writer.Writing.write.Goals as goal

pub returns-in-Call-clause-parts : goal.returns-in-Call-clause-parts
returns-in-Call-clause-parts c = λ small. subst (λ (p : Part). OnOk c.call.result (parts c.call.new.self ≡ built (c.args.numbers.now.known) (c.args.numbers.now.names) (sort p) (parts c.args.self.now))) (sym c.in-Call.is) (c.call.ensures.parts c.in-Call.name.span)

pub returns-in-Operation-clause-parts : goal.returns-in-Operation-clause-parts
returns-in-Operation-clause-parts c = λ small. subst (λ (p : Part). OnOk c.operate.result (parts c.operate.new.self ≡ built (c.args.numbers.now.known) (c.args.numbers.now.names) (sort p) (parts c.args.self.now))) (sym c.in-Operation.is) c.operate.ensures.parts

pub returns-in-Val-clause-parts : goal.returns-in-Val-clause-parts
returns-in-Val-clause-parts c = λ small. subst (λ (p : Part). OnOk c.bind.result (parts c.bind.new.self ≡ built (c.args.numbers.now.known) (c.args.numbers.now.names) (sort p) (parts c.args.self.now))) (sym c.in-Val.is) c.bind.ensures.parts
