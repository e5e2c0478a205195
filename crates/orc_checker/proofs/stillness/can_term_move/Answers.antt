use Rattle.std.proofs.Common.{◌≤◌, ◌∙◌, length, map, ap, sym, subst, arith}
use Rattle.orc_rules.specs.Idle.{can_move}
use Rattle.orc_rules.specs.Nodes.{code, definitions, param_of, unfold_node}
use Rattle.orc_rules.specs.Term.{site}
use Rattle.orc_env.specs.Scopes.{close, env_of}
use Rattle.orc_checker.specs.Stillness.{term_moves, Wakes}
use Rattle.orc_env.proofs.Scopes.{close-of-param, close-site}
use Rattle.orc_checker.proofs.Waking.{looks_first, none_active}
use Rattle.orc_checker.proofs.stillness.can_term_move.Goals as goal

pub loop-above-init : goal.loop-above-init
loop-above-init c =
    let l = c.args.program.now in
    let cells = c.args.cells.now in
    let scopes = c.args.scopes.now in
    let node = c.args.node in
    let halts = c.args.halts.now.items in
    let queued = c.loop-i.queued.items in
    let queued' = c.wakes.new.queued.items in
    let moves = term_moves (definitions l) (code l) cells scopes c.args.scope in
    let room : length halts ≤ length queued = omega (arith, c.requires, c.loop-i.invariant.0) in (
      c.wakes.ensures.len ∙ c.loop-i.invariant.0,
      λ are ordered.
          looks_first moves node queued queued' (subst (Wakes moves queued queued' node) c.if-wakes.false (c.wakes.ensures.wakes are ordered))
          (none_active (definitions l) (code l) (env_of cells scopes c.args.scope) halts queued node (c.program_is_source.ensures l).0 are room
          (λ k lt. c.loop-i.invariant.1 k (omega (arith, lt, c.loop-i-test.false, c.loop-i.auto.i-end)))),
    )

pub returns-in-Operand-clause-moves : goal.returns-in-Operand-clause-moves
returns-in-Operand-clause-moves c are ordered =
    let l = c.args.program.now in
    let env = env_of c.args.cells.now c.args.scopes.now c.args.scope in
    c.is_ready.ensures ordered
    ∙ sym (ap (λ z. can_move (definitions l) (close env z)) (c.node.ensures.term ∙ ap (unfold_node (code l) l.lists) c.in-Operand.is) ∙ ap (can_move (definitions l)) (close-of-param env (param_of c.in-Operand.operand)))

pub returns-in-Site-clause-moves : goal.returns-in-Site-clause-moves
returns-in-Site-clause-moves c are ordered =
    let l = c.args.program.now in
    let env = env_of c.args.cells.now c.args.scopes.now c.args.scope in
    let ps = c.operands.result.now in
    c.is_callable.ensures ordered
    ∙ sym (ap (λ z. can_move (definitions l) (close env z)) (c.node.ensures.term ∙ ap (unfold_node (code l) l.lists) c.in-Site.is ∙ ap (λ z. site c.in-Site.field-0 (map param_of z)) (sym c.operands.ensures.value))
    ∙ ap (can_move (definitions l)) (close-site env c.in-Site.field-0 (map param_of ps)))
