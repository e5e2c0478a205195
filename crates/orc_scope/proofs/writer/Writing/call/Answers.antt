use Rattle.std.proofs.Common.{rules, ◌≡◌, ◌++◌, ◌∷◌, [], ◌-◌, List, length, map, take, refl, ap, ◌∙◌}
use Rattle.std.specs.Global.{Vec}
use Rattle.orc_scope.specs.declared.nodes.Piece.{Piece}
use Rattle.orc_scope.specs.declared.nodes.Piece.TheVariants as pieces
use Rattle.orc_scope.specs.Scope.{outer_meaning, position}
use Rattle.orc_scope.specs.Written.{called}
use Rattle.orc_rules.specs.Nodes.{param_of}
use Rattle.orc_scope.specs.Listed.{terms}
use Rattle.orc_scope.proofs.Pieces.{keeps_push, keeps_trans, ready_keep}
use Rattle.orc_scope.proofs.Arguments.{call_parts}
use Rattle.orc_scope.proofs.writer.Writing.call.Goals as goal

pub prunings-requires-clause-ready : goal.prunings-requires-clause-ready
prunings-requires-clause-ready c =
    let fs = terms c.args.self.now.nodes in
    let gs = terms c.add_call.new.self in
    ready_keep fs gs c.args.self.now.pieces.items (keeps_push fs gs _ c.in_ok-at.ensures.added) c.requires.ready

pub returns-clause-parts : goal.returns-clause-parts
returns-clause-parts c = λ span.
    let fs = terms c.args.self.now.nodes in
    let gs = terms c.add_call.new.self in
    let hs = terms c.prunings.new.self.nodes in
    let old = c.args.self.now.pieces.items in
    let k = c.args.numbers.now.known in
    let n = length c.args.numbers.now.names in
    let m = outer_meaning (position k.definitions c.args.text.now) (position k.sites c.args.text.now) in
    let base = c.saturating_sub-base.result in
    let b : base ≡ length old - c.args.count = search rules in
    let is = c.in_ok-push.ensures.items ∙ ap (λ (l : List Piece). l ++ pieces.Node c.in_ok-root.root ∷ []) (c.truncate.ensures.items ∙ ap (λ (v : Vec Piece). take base v.items) c.in_ok-root.ensures.pieces) in
    let z = call_parts fs gs hs old c.push.new.self.items n c.args.count base c.in_ok-at.at c.in_ok-root.root m (map param_of c.operands-operands.result) (called m (map param_of c.operands-operands.result))
    c.requires.ready b c.operands-operands.ensures refl c.in_ok-at.ensures.added c.in_ok-at.ensures.number c.in_ok-root.ensures.term c.in_ok-root.ensures.within c.in_ok-root.ensures.keeps is in
    z.0

pub returns-clause-ready : goal.returns-clause-ready
returns-clause-ready c =
    let fs = terms c.args.self.now.nodes in
    let gs = terms c.add_call.new.self in
    let hs = terms c.prunings.new.self.nodes in
    let old = c.args.self.now.pieces.items in
    let k = c.args.numbers.now.known in
    let n = length c.args.numbers.now.names in
    let m = outer_meaning (position k.definitions c.args.text.now) (position k.sites c.args.text.now) in
    let base = c.saturating_sub-base.result in
    let b : base ≡ length old - c.args.count = search rules in
    let is = c.in_ok-push.ensures.items ∙ ap (λ (l : List Piece). l ++ pieces.Node c.in_ok-root.root ∷ []) (c.truncate.ensures.items ∙ ap (λ (v : Vec Piece). take base v.items) c.in_ok-root.ensures.pieces) in
    let z = call_parts fs gs hs old c.push.new.self.items n c.args.count base c.in_ok-at.at c.in_ok-root.root m (map param_of c.operands-operands.result) (called m (map param_of c.operands-operands.result))
    c.requires.ready b c.operands-operands.ensures refl c.in_ok-at.ensures.added c.in_ok-at.ensures.number c.in_ok-root.ensures.term c.in_ok-root.ensures.within c.in_ok-root.ensures.keeps is in
    z.1

pub returns-clause-keeps : goal.returns-clause-keeps
returns-clause-keeps c =
    let fs = terms c.args.self.now.nodes in
    let gs = terms c.add_call.new.self in
    keeps_trans fs gs (terms c.prunings.new.self.nodes) (keeps_push fs gs _ c.in_ok-at.ensures.added) c.in_ok-root.ensures.keeps
