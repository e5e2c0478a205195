use Rattle.std.proofs.Common.{◌≡◌, ◌∷◌, [], List, map, reverse, sym, ap, subst, ◌∙◌}
use Rattle.orc_scope.specs.declared.nodes.Piece.{Piece}
use Rattle.orc_rules.specs.Term.{Term}
use Rattle.orc_syntax.specs.Tree.{Item}
use Rattle.orc_syntax.specs.Ast.{item}
use Rattle.orc_scope.specs.Building.{builds, AreSmall}
use Rattle.orc_scope.specs.Listed.{terms}
use Rattle.orc_scope.specs.Pieces.{parts, piece_term}
use Rattle.orc_scope.specs.Written.{written}
use Rattle.orc_scope.proofs.Build.{build_whole}
use Rattle.orc_scope.proofs.writer.Writing.expression.Goals as goal

pub returns-clause-term : goal.returns-clause-term
returns-clause-term c = λ t e small.
    let k = c.args.numbers.now.known in
    let names = c.args.numbers.now.names in
    let empty : reverse (map (piece_term (terms c.args.self.now.nodes)) c.clear.new.self.items) ≡ [] = ap (λ (ps : List Piece). reverse (map (piece_term (terms c.args.self.now.nodes)) ps)) c.clear.ensures.items in
    let all : parts c.write_all.new.self ≡ written k names t ∷ [] =
    c.in_ok-write_all.ensures.parts (subst AreSmall (sym e) small) ∙ ap (λ (fs : List Term). builds k names fs (map item c.args.nodes.now)) empty ∙ ap (λ (l : List Item). builds k names [] l) e ∙ build_whole k names t in
    c.root.ensures.term (written k names t) all
