use Rattle.std.proofs.Common.{◌≡◌, sym, subst}
use Rattle.std.specs.Prelude.{OnOk}
use Rattle.orc_syntax.specs.Ast.{sort}
use Rattle.orc_syntax.specs.Backward.{waiting, parts}
use Rattle.orc_syntax.specs.declared.tree.Part.{Part}
use Rattle.orc_syntax.proofs.printer.Printer.parts.Goals as goal

pub returns-in-Call-clause-tasks : goal.returns-in-Call-clause-tasks
returns-in-Call-clause-tasks c = subst (λ (p : Part). OnOk c.call.result (waiting c.call.new.self.tasks.items ≡ parts c.args.wanted (sort p) (waiting c.args.self.now.tasks.items))) (sym c.in-Call.is) (c.call.ensures.tasks c.args.wanted)
