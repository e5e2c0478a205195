use Rattle.std.proofs.Common.{◌≡◌, ◌∙◌, ap, sym, subst, refl, map, Bool, true, false}
use Rattle.std.specs.Prelude.{◌||◌, is_some}
use Rattle.orc_rules.specs.Idle.{can_move}
use Rattle.orc_rules.specs.Nodes.{code, unfold_node, param_of, HasParts, definitions}
use Rattle.orc_rules.specs.Term.{site}
use Rattle.orc_env.specs.Scopes.{close, env_of}
use Rattle.orc_checker.specs.Stillness.{term_moves}
use Rattle.orc_env.proofs.Closing.{close-stop, close-par, close-seq, close-other, close-prune}
use Rattle.orc_env.proofs.Scopes.{close-of-param, close-site, close-call}
use Rattle.orc_term.proofs.Settling.{close_halted}
use Rattle.orc_checker.proofs.Waking.{wakes_itself, wakes_one, wakes_two, parts_total}
use Rattle.orc_checker.proofs.stillness.wakes.Goals as goal

or_false : (b : Bool) → b ≡ (b || false)
or_false true = refl
or_false false = refl

pub returns-in-Stop-clause-wakes : goal.returns-in-Stop-clause-wakes
returns-in-Stop-clause-wakes c are ordered =
    let l = c.args.program.now in
    let env = env_of c.args.cells.now c.args.scopes.now c.args.scope in
    wakes_itself (term_moves (definitions l) (code l) c.args.cells.now c.args.scopes.now c.args.scope) _ _ c.args.node _ refl
    (ap (λ z. can_move (definitions l) (close env z)) (c.node.ensures.term ∙ ap (unfold_node (code l) l.lists) c.in-Stop.is) ∙ ap (can_move (definitions l)) (close-stop env))

pub returns-in-Operand-clause-wakes : goal.returns-in-Operand-clause-wakes
returns-in-Operand-clause-wakes c are ordered =
    let l = c.args.program.now in
    let env = env_of c.args.cells.now c.args.scopes.now c.args.scope in
    wakes_itself (term_moves (definitions l) (code l) c.args.cells.now c.args.scopes.now c.args.scope) _ _ c.args.node _ refl
    (ap (λ z. can_move (definitions l) (close env z)) (c.node.ensures.term ∙ ap (unfold_node (code l) l.lists) c.in-Operand.is) ∙ ap (can_move (definitions l)) (close-of-param env (param_of c.in-Operand.operand))
    ∙ sym (c.is_ready.ensures ordered))

pub returns-in-Site-clause-wakes : goal.returns-in-Site-clause-wakes
returns-in-Site-clause-wakes c are ordered =
    let l = c.args.program.now in
    let env = env_of c.args.cells.now c.args.scopes.now c.args.scope in
    let ps = c.operands.result.now in
    wakes_itself (term_moves (definitions l) (code l) c.args.cells.now c.args.scopes.now c.args.scope) _ _ c.args.node _ refl
    (ap (λ z. can_move (definitions l) (close env z)) (c.node.ensures.term ∙ ap (unfold_node (code l) l.lists) c.in-Site.is ∙ ap (λ z. site c.in-Site.field-0 (map param_of z)) (sym c.operands.ensures.value))
    ∙ ap (can_move (definitions l)) (close-site env c.in-Site.field-0 (map param_of ps))
    ∙ sym (c.is_callable.ensures ordered))

pub returns-in-Some-clause-wakes : goal.returns-in-Some-clause-wakes
returns-in-Some-clause-wakes c are ordered =
    let l = c.args.program.now in
    let env = env_of c.args.cells.now c.args.scopes.now c.args.scope in
    wakes_itself (term_moves (definitions l) (code l) c.args.cells.now c.args.scopes.now c.args.scope) _ _ c.args.node _ refl
    (ap (λ z. can_move (definitions l) (close env z)) (c.node.ensures.term ∙ ap (unfold_node (code l) l.lists) c.in-Call.is) ∙ ap (can_move (definitions l)) (close-call env c.in-Call.number _)
    ∙ ap is_some c.in-Some.ensures.there)

pub returns-in-None-clause-wakes : goal.returns-in-None-clause-wakes
returns-in-None-clause-wakes c are ordered =
    let l = c.args.program.now in
    let env = env_of c.args.cells.now c.args.scopes.now c.args.scope in
    wakes_itself (term_moves (definitions l) (code l) c.args.cells.now c.args.scopes.now c.args.scope) _ _ c.args.node _ refl
    (ap (λ z. can_move (definitions l) (close env z)) (c.node.ensures.term ∙ ap (unfold_node (code l) l.lists) c.in-Call.is) ∙ ap (can_move (definitions l)) (close-call env c.in-Call.number _)
    ∙ ap is_some c.in-None.ensures.none)

pub returns-in-Par-clause-wakes : goal.returns-in-Par-clause-wakes
returns-in-Par-clause-wakes c are ordered =
    let l = c.args.program.now in
    let k = c.in-Par in
    let env = env_of c.args.cells.now c.args.scopes.now c.args.scope in
    let parts = subst (HasParts c.args.node) (sym c.node.ensures.node ∙ k.is) (parts_total l.nodes c.args.node c.are_parts_first.ensures) in
    wakes_two (term_moves (definitions l) (code l) c.args.cells.now c.args.scopes.now c.args.scope) _ _ c.args.node k.f k.g _ parts.0 parts.1 c.write_flag.ensures.items c.write_flag-in-Par.ensures.items
    (ap (λ z. can_move (definitions l) (close env z)) (c.node.ensures.term ∙ ap (unfold_node (code l) l.lists) k.is) ∙ ap (can_move (definitions l)) (close-par env (code l k.f) (code l k.g)))

pub returns-in-Seq-clause-wakes : goal.returns-in-Seq-clause-wakes
returns-in-Seq-clause-wakes c are ordered =
    let l = c.args.program.now in
    let k = c.in-Seq in
    let env = env_of c.args.cells.now c.args.scopes.now c.args.scope in
    let parts = subst (HasParts c.args.node) (sym c.node.ensures.node ∙ k.is) (parts_total l.nodes c.args.node c.are_parts_first.ensures) in
    wakes_one (term_moves (definitions l) (code l) c.args.cells.now c.args.scopes.now c.args.scope) _ _ c.args.node k.f false parts.0 c.write_flag-in-Seq.ensures.items
    (ap (λ z. can_move (definitions l) (close env z)) (c.node.ensures.term ∙ ap (unfold_node (code l) l.lists) k.is) ∙ ap (can_move (definitions l)) (close-seq env (code l k.f) k.field-1 (code l k.field-2)) ∙ or_false _)

pub returns-in-Prune-clause-wakes : goal.returns-in-Prune-clause-wakes
returns-in-Prune-clause-wakes c are ordered =
    let l = c.args.program.now in
    let k = c.in-Prune in
    let env = env_of c.args.cells.now c.args.scopes.now c.args.scope in
    wakes_itself (term_moves (definitions l) (code l) c.args.cells.now c.args.scopes.now c.args.scope) _ _ c.args.node _ refl
    (ap (λ z. can_move (definitions l) (close env z)) (c.node.ensures.term ∙ ap (unfold_node (code l) l.lists) k.is) ∙ ap (can_move (definitions l)) (close-prune env (code l k.field-0) k.field-1 (code l k.field-2)))

pub returns-in-Other-clause-wakes : goal.returns-in-Other-clause-wakes
returns-in-Other-clause-wakes c are ordered =
    let l = c.args.program.now in
    let k = c.in-Other in
    let env = env_of c.args.cells.now c.args.scopes.now c.args.scope in
    let parts = subst (HasParts c.args.node) (sym c.node.ensures.node ∙ k.is) (parts_total l.nodes c.args.node c.are_parts_first.ensures) in
    wakes_one (term_moves (definitions l) (code l) c.args.cells.now c.args.scopes.now c.args.scope) _ _ c.args.node k.f _ parts.0 c.write_flag-in-Other.ensures.items
    (ap (λ z. can_move (definitions l) (close env z)) (c.node.ensures.term ∙ ap (unfold_node (code l) l.lists) k.is) ∙ ap (can_move (definitions l)) (close-other env (code l k.f) (code l k.field-1))
    ∙ (λ j. term_moves (definitions l) (code l) c.args.cells.now c.args.scopes.now c.args.scope k.f || (close_halted env (code l k.f) ∙ sym (are k.f) ∙ sym c.flag_at.ensures) j))
