use Rattle.std.proofs.Common.{rules, ◌≡◌, ◌<◌, ◌+◌, ◌-◌, length, get_or, sym, ap, subst, ◌∙◌, arith}
use Rattle.std.specs.Global.{Vec}
use Rattle.orc_scope.specs.declared.nodes.Piece.{Piece}
use Rattle.orc_rules.specs.Term.{Term}
use Rattle.orc_scope.specs.Written.{as_param, pruned}
use Rattle.orc_scope.specs.Listed.{terms, term_at}
use Rattle.orc_scope.specs.Pieces.{piece_term, IsFine}
use Rattle.orc_scope.proofs.Pieces.{fine_keep, piece_keep, keeps_trans}
use Rattle.orc_scope.proofs.Arguments.{fine_at, prunings_step}
use Rattle.orc_scope.proofs.writer.Writing.prunings.Goals as goal

pub pruning-requires-clause-fine : goal.pruning-requires-clause-fine
pruning-requires-clause-fine c =
    let i = c.loop-at.invariant in
    let d = c.index-piece.result.now in
    let fs = terms c.args.self.now.nodes in
    let ps = c.args.self.now.pieces.items in
    let h : c.loop-at.at < length ps = search (rules, i.same) in
    let e : d ≡ get_or ps c.loop-at.at d = c.index-piece.ensures ∙ ap (λ (v : Vec Piece). get_or v.items c.loop-at.at d) i.same in
    fine_keep fs (terms c.loop-at.self.nodes) d i.keeps (subst (λ (p : Piece). IsFine fs p) (sym e) (fine_at fs ps c.loop-at.at d h c.requires.ready))

pub loop-at-preserved : goal.loop-at-preserved
loop-at-preserved c =
    let i = c.loop-at.invariant in
    let d = c.index-piece.result.now in
    let fs = terms c.args.self.now.nodes in
    let gs = terms c.loop-at.self.nodes in
    let ps = c.args.self.now.pieces.items in
    let n = length c.args.numbers.now.names in
    let name = n + (c.loop-at.at - c.args.base) in
    let h : c.loop-at.at < length ps = search (rules, i.same) in
    let e : d ≡ get_or ps c.loop-at.at d = c.index-piece.ensures ∙ ap (λ (v : Vec Piece). get_or v.items c.loop-at.at d) i.same in
    let fine : IsFine fs d = subst (λ (p : Piece). IsFine fs p) (sym e) (fine_at fs ps c.loop-at.at d h c.requires.ready) in
    let f : term_at (terms c.pruning.new.self.nodes) c.in_ok-root.root ≡ pruned (term_at gs c.loop-at.root) name (piece_term fs (get_or ps c.loop-at.at d)) (as_param (piece_term fs (get_or ps c.loop-at.at d))) =
    c.in_ok-root.ensures.term ∙ ap (λ m. pruned (term_at gs c.loop-at.root) m (piece_term gs d) (as_param (piece_term gs d))) c.fresh.ensures ∙ ap (λ (t : Term). pruned (term_at gs c.loop-at.root) name t (as_param t)) (piece_keep fs gs d i.keeps fine ∙ ap (λ (p : Piece). piece_term fs p) e) in
    record {
      low = omega (arith, i.low);
      high = search (rules, c.pruning.ensures.pieces, i.same, h);
      same = c.pruning.ensures.pieces ∙ i.same;
      within = c.in_ok-root.ensures.within;
      keeps = keeps_trans fs gs (terms c.pruning.new.self.nodes) i.keeps c.in_ok-root.ensures.keeps;
      so_far = prunings_step fs ps n c.loop-at.at c.args.base d (term_at gs c.loop-at.root) (term_at (terms c.pruning.new.self.nodes) c.in_ok-root.root) _ h i.low f i.so_far;
    }
