use Rattle.std.proofs.Common.{◌≡◌, ◌∙◌, ap, sym, subst, map, get_or, refl, [], List, false}
use Rattle.orc_rules.specs.declared.param.Param.{Param}
use Rattle.orc_rules.specs.declared.param.Operand.{Operand}
use Rattle.orc_rules.specs.Idle.{can_move, is_ready}
use Rattle.orc_rules.specs.Journal.{IsVoid}
use Rattle.orc_rules.specs.Nodes.{code, definitions, unfold_node, param_of}
use Rattle.orc_rules.specs.Term.{Term, Definition, param, site}
use Rattle.orc_env.specs.Names.{Means}
use Rattle.orc_env.specs.Scopes.{close, close_param, env_of}
use Rattle.orc_env.proofs.Closing.{close-stop, close-par, close-seq, close-prune, close-other}
use Rattle.orc_env.proofs.Scopes.{close-of-param, close-site, close-call}
use Rattle.orc_checker.specs.Offers.{Allows, IsAsking}
use Rattle.orc_checker.specs.Stillness.{params_in}
use Rattle.orc_checker.proofs.next.move_from.Goals as goal

asks : (defs : List Definition) (t : Term) (q : Param) → t ≡ param q → is_ready q ≡ false → IsAsking t × (can_move defs t ≡ false)
asks defs t q is still = subst (λ z. IsAsking z × (can_move defs z ≡ false)) (sym is) (tt, still)

pub returns-in-Stop : goal.returns-in-Stop
returns-in-Stop c ordered =
    let l = c.args.program.now in
    let env = env_of c.args.cells.now c.args.scopes.now c.args.scope in
    ap (close env) (c.node.ensures.term ∙ ap (unfold_node (code l) l.lists) c.in-Stop.is) ∙ close-stop env

pub returns-in-Par : goal.returns-in-Par
returns-in-Par c ordered =
    let l = c.args.program.now in
    let k = c.in-Par in
    let env = env_of c.args.cells.now c.args.scopes.now c.args.scope in
    (_, _, ap (close env) (c.node.ensures.term ∙ ap (unfold_node (code l) l.lists) k.is) ∙ close-par env (code l k.field-0) (code l k.field-1))

pub returns-in-Other : goal.returns-in-Other
returns-in-Other c ordered =
    let l = c.args.program.now in
    let k = c.in-Other in
    let env = env_of c.args.cells.now c.args.scopes.now c.args.scope in
    (_, _, ap (close env) (c.node.ensures.term ∙ ap (unfold_node (code l) l.lists) k.is) ∙ close-other env (code l k.field-0) (code l k.field-1))

pub returns-in-Seq : goal.returns-in-Seq
returns-in-Seq c ordered =
    let l = c.args.program.now in
    let k = c.in-Seq in
    let env = env_of c.args.cells.now c.args.scopes.now c.args.scope in
    (_, _, _, ap (close env) (c.node.ensures.term ∙ ap (unfold_node (code l) l.lists) k.is) ∙ close-seq env (code l k.field-0) k.field-1 (code l k.field-2))

pub returns-in-Prune : goal.returns-in-Prune
returns-in-Prune c ordered =
    let l = c.args.program.now in
    let k = c.in-Prune in
    let env = env_of c.args.cells.now c.args.scopes.now c.args.scope in
    (_, _, _, ap (close env) (c.node.ensures.term ∙ ap (unfold_node (code l) l.lists) k.is) ∙ close-prune env (code l k.field-0) k.field-1 (code l k.field-2))

pub returns-in-Some : goal.returns-in-Some
returns-in-Some c ordered =
    let l = c.args.program.now in
    let k = c.in-Call in
    let env = env_of c.args.cells.now c.args.scopes.now c.args.scope in
    (k.number, _, _, c.in-Some.ensures.there, ap (close env) (c.node.ensures.term ∙ ap (unfold_node (code l) l.lists) k.is) ∙ close-call env k.number _)

pub returns-in-Some-Void : goal.returns-in-Some-Void
returns-in-Some-Void c ordered =
    let l = c.args.program.now in
    let env = env_of c.args.cells.now c.args.scopes.now c.args.scope in
    let p = c.in-Operand.operand in
    subst IsVoid (sym (ap (close env) (c.node.ensures.term ∙ ap (unfold_node (code l) l.lists) c.in-Operand.is) ∙ close-of-param env (param_of p)))
    (subst (λ b. Means c.args.cells.now c.args.scopes.now c.args.scope p b) c.in-Some-Void.field-0-is c.in-Some-Void.ensures.bound ordered)

pub returns-in-Some-Cell : goal.returns-in-Some-Cell
returns-in-Some-Cell c ordered =
    let l = c.args.program.now in
    let env = env_of c.args.cells.now c.args.scopes.now c.args.scope in
    let p = c.in-Operand.operand in
    asks (definitions l) _ _
    (ap (close env) (c.node.ensures.term ∙ ap (unfold_node (code l) l.lists) c.in-Operand.is) ∙ close-of-param env (param_of p)
    ∙ ap param (subst (λ b. Means c.args.cells.now c.args.scopes.now c.args.scope p b) c.in-Some-Cell.field-0-is c.in-Some-Cell.ensures.bound ordered))
    refl

pub returns-in-None-meaning : goal.returns-in-None-meaning
returns-in-None-meaning c ordered =
    let l = c.args.program.now in
    let env = env_of c.args.cells.now c.args.scopes.now c.args.scope in
    let free = c.in-None-meaning.ensures.free in
    asks (definitions l) _ _
    (ap (close env) (c.node.ensures.term ∙ ap (unfold_node (code l) l.lists) c.in-Operand.is) ∙ close-of-param env (param_of c.in-Operand.operand)
    ∙ ap param (ap (λ z. close_param env (param_of z)) free.1 ∙ free.2 ordered))
    refl

pub returns-in-Site : goal.returns-in-Site
returns-in-Site c ordered =
    let l = c.args.program.now in
    let k = c.in-Site in
    let env = env_of c.args.cells.now c.args.scopes.now c.args.scope in
    let ps = map param_of (get_or l.lists k.list []) in
    subst (λ z. Allows (definitions l) z c.call_from.result) (sym (ap (close env) (c.node.ensures.term ∙ ap (unfold_node (code l) l.lists) k.is) ∙ close-site env k.site ps))
    (subst (λ (z : List Operand). Allows (definitions l) (site k.site (params_in c.args.cells.now c.args.scopes.now c.args.scope z)) c.call_from.result) c.operands.ensures.value (c.call_from.ensures (definitions l) ordered))
