use Rattle.std.proofs.Common.{rules, ◌≤◌, List, length, map, refl, sym, ap, ◌∙◌}
use Rattle.std.proofs.lemmas.List.{drop_all}
use Rattle.orc_syntax.specs.declared.tree.Node.{Node}
use Rattle.orc_syntax.specs.Ast.{item}
use Rattle.orc_scope.specs.Building.{builds}
use Rattle.orc_scope.specs.Listed.{terms}
use Rattle.orc_scope.specs.Pieces.{parts}
use Rattle.orc_scope.proofs.Build.{builds_step, small_at}
use Rattle.orc_scope.proofs.Pieces.{keeps_trans, keeps_none}
use Rattle.orc_scope.proofs.writer.Writing.write_all.Goals as goal

pub loop-node-init : goal.loop-node-init
loop-node-init c = record {
  ready = c.requires;
  keeps = keeps_none (terms c.args.self.now.nodes);
  so_far = λ small. refl;
}

pub loop-node-preserved : goal.loop-node-preserved
loop-node-preserved c =
    let i = c.loop-node.invariant in
    let at = c.loop-node.node-index in
    record {
      ready = c.in_ok-write.ensures.ready;
      keeps = keeps_trans (terms c.args.self.now.nodes) (terms c.loop-node.self.nodes) (terms c.write.new.self.nodes) i.keeps c.in_ok-write.ensures.keeps;
      so_far = λ small. builds_step c.args.numbers.now.known c.args.numbers.now.names (parts c.loop-node.self) (parts c.write.new.self) _ c.args.nodes.now at _ c.loop-node-test.true (c.in_ok-write.ensures.parts (small_at c.args.nodes.now at _ c.loop-node-test.true small)) (i.so_far small);
    }

pub returns-clause-parts : goal.returns-clause-parts
unfolding builds
returns-clause-parts c = λ small.
    let i = c.loop-node.invariant in
    let end : length c.args.nodes.now ≤ c.loop-node.node-index = search rules in
    sym (ap (λ (l : List Node). builds c.args.numbers.now.known c.args.numbers.now.names (parts c.loop-node.self) (map item l)) (drop_all c.loop-node.node-index c.args.nodes.now end)) ∙ i.so_far small
