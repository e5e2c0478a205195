use Rattle.std.proofs.Common.{List, sym, subst}
use Rattle.orc_scope.specs.declared.nodes.Piece.{Piece}
use Rattle.orc_scope.specs.Listed.{terms}
use Rattle.orc_scope.specs.Pieces.{AreFine}
use Rattle.orc_scope.proofs.Pieces.{are_push}
use Rattle.orc_scope.proofs.writer.Writing.operand.Goals as goal

pub returns-clause-ready : goal.returns-clause-ready
returns-clause-ready c =
    let fs = terms c.args.self.now.nodes in
    subst (λ (l : List Piece). AreFine fs l) (sym c.in_ok-push.ensures.items) (are_push fs c.args.self.now.pieces.items _ c.requires tt)
