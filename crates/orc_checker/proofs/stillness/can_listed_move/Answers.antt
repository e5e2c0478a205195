use Rattle.std.proofs.Common.{◌≡◌, ◌<◌, ◌∙◌, ap, sym, subst, get_or, arith, ⊎_elim}
use Rattle.orc_rules.specs.Nodes.{code, definitions}
use Rattle.orc_term.specs.declared.arena.Node.{Node}
use Rattle.orc_term.specs.Halting.{AreHalts}
use Rattle.orc_term.specs.Settling.{kind_at}
use Rattle.orc_checker.specs.Stillness.{token_moves}
use Rattle.orc_term.proofs.Hints.{next_or}
use Rattle.orc_checker.proofs.stillness.can_listed_move.Goals as goal

pub loop-index-preserved : goal.loop-index-preserved
loop-index-preserved c =
    let nodes = c.args.nodes.now.items in
    let list = c.args.list.now in
    let moves = token_moves (definitions c.args.program.now) (code c.args.program.now) c.args.cells.now c.args.scopes.now in
    let its : c.node_at-kind.result.kind ≡ kind_at nodes (get_or list c.loop-index.index 0) = ap Node.kind c.node_at-kind.ensures in (
      c.can_token_move.ensures.same ∙ c.loop-index.invariant.0,
      λ are ordered k lt.
          let are' = subst (AreHalts (code c.args.program.now)) c.can_token_move.ensures.same are in
          ⊎_elim
          (λ (a : k < c.loop-index.index). c.loop-index.invariant.1 are' ordered k a)
          (λ same. ap (λ z. moves (kind_at nodes (get_or list z 0))) same ∙ sym (ap moves its) ∙ sym (c.can_token_move.ensures.moves are' ordered) ∙ c.if-can_token_move.false)
          (next_or k c.loop-index.index lt),
    )

pub returns-clause-moves : goal.returns-clause-moves
returns-clause-moves c are ordered i w =
    let moves = token_moves (definitions c.args.program.now) (code c.args.program.now) c.args.cells.now c.args.scopes.now in
    let are' = subst (AreHalts (code c.args.program.now)) (sym c.loop-index.invariant.0) are in
    ap (λ z. moves (kind_at c.args.nodes.now.items z)) (sym w.2) ∙ c.loop-index.invariant.1 are' ordered w.0 (omega (arith, w.1, c.loop-index-test.false))
