use Rattle.std.proofs.Common.{rules, ◌≡◌, ◌<◌, ◌+◌, ◌-◌, ◌∷◌, [], length, map, get_or, sym, ap, subst, ◌∙◌, arith}
use Rattle.std.proofs.lemmas.List.{length-append, map-append}
use Rattle.orc_scope.specs.declared.nodes.Piece.{Piece}
use Rattle.orc_rules.specs.Nodes.{param_of}
use Rattle.orc_scope.specs.Listed.{terms}
use Rattle.orc_scope.specs.Pieces.{piece_term, IsFine}
use Rattle.orc_scope.specs.Written.{as_param, param_or}
use Rattle.orc_scope.proofs.Arguments.{fine_at, params_step}
use Rattle.orc_scope.proofs.writer.Writing.operands.Goals as goal

pub loop-at-preserved : goal.loop-at-preserved
loop-at-preserved c =
    let i = c.loop-at.invariant in
    let d = c.index.result.now in
    let fs = terms c.args.self.now.nodes in
    let ps = c.args.self.now.pieces.items in
    let n = length c.args.numbers.now.names in
    let h : c.loop-at.at < length ps = search rules in
    let fine : IsFine fs d = subst (λ (p : Piece). IsFine fs p) (sym c.index.ensures) (fine_at fs ps c.loop-at.at d h c.requires.ready) in
    let e : param_of c.argument.result ≡ param_or (n + (c.loop-at.at - c.args.base)) (as_param (piece_term fs (get_or ps c.loop-at.at d))) =
    c.argument.ensures fs fine ∙ ap (λ m. param_or m (as_param (piece_term fs d))) c.fresh.ensures ∙ ap (λ (p : Piece). param_or (n + (c.loop-at.at - c.args.base)) (as_param (piece_term fs p))) c.index.ensures in
    record {
      low = omega (arith, i.low);
      high = omega (arith, h);
      count = ap length c.push.ensures ∙ length-append c.loop-at.operands (c.argument.result ∷ []) ∙ omega (arith, i.count, i.low);
      so_far = params_step fs ps n c.loop-at.at c.args.base d (map param_of c.loop-at.operands) (map param_of c.push.new.self) (param_of c.argument.result) _ h i.low e (ap (map param_of) c.push.ensures ∙ map-append param_of c.loop-at.operands (c.argument.result ∷ [])) i.so_far;
    }
