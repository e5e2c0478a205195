use Rattle.std.proofs.Common.{◌<◌, ◌∙◌, ap, sym, subst, arith, length, ⊎_elim}
use Rattle.orc_rules.specs.Nodes.{code, definitions}
use Rattle.orc_term.specs.declared.arena.Node.{Node}
use Rattle.orc_term.specs.Halting.{AreHalts}
use Rattle.orc_term.specs.Settling.{kind_at}
use Rattle.orc_checker.specs.Stillness.{token_moves}
use Rattle.orc_term.proofs.Hints.{next_or}
use Rattle.orc_checker.proofs.Listing.{below_or, none_there}
use Rattle.orc_checker.proofs.stillness.can_new_move.Goals as goal

pub loop-place-preserved : goal.loop-place-preserved
loop-place-preserved c =
    let nodes = c.args.nodes.now.items in
    let moves = token_moves (definitions c.args.program.now) (code c.args.program.now) c.args.cells.now c.args.scopes.now in (
      c.can_token_move.ensures.same ∙ c.loop-place.invariant.0,
      λ are ordered i from lt.
          let are' = subst (AreHalts (code c.args.program.now)) c.can_token_move.ensures.same are in
          ⊎_elim
          (λ (a : i < c.loop-place.place). c.loop-place.invariant.1 are' ordered i from a)
          (λ same. ap (λ z. moves (kind_at nodes z)) same ∙ sym (ap moves (ap Node.kind c.node_at-kind.ensures)) ∙ sym (c.can_token_move.ensures.moves are' ordered) ∙ c.if-can_token_move.false)
          (next_or i c.loop-place.place lt),
    )

pub returns-clause-moves : goal.returns-clause-moves
returns-clause-moves c are ordered i from =
    let nodes = c.args.nodes.now.items in
    let moves = token_moves (definitions c.args.program.now) (code c.args.program.now) c.args.cells.now c.args.scopes.now in
    let are' = subst (AreHalts (code c.args.program.now)) (sym c.loop-place.invariant.0) are in
    ⊎_elim
    (λ (lt : i < length nodes). c.loop-place.invariant.1 are' ordered i from (omega (arith, lt, c.loop-place-test.false, c.len-place-end.ensures.count)))
    (λ out. none_there (definitions c.args.program.now) (code c.args.program.now) c.args.cells.now c.args.scopes.now nodes i out)
    (below_or i (length nodes))
