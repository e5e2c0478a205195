use Rattle.std.proofs.Common.{◌≡◌, ap, ◌∙◌, sym, subst, map, get_or, [], List}
use Rattle.orc_rules.specs.Idle.{has_halted, has_void}
use Rattle.orc_rules.specs.Journal.{IsVoid}
use Rattle.orc_rules.specs.declared.param.Operand.{Operand}
use Rattle.orc_rules.specs.Nodes.{code, unfold_node, param_of}
use Rattle.orc_rules.specs.Term.{param, HasVoid}
use Rattle.orc_env.specs.Scopes.{close, close_param, env_of}
use Rattle.orc_env.specs.Names.{AreOrdered}
use Rattle.orc_checker.specs.Checker.{State}
use Rattle.orc_env.proofs.Scopes.{close-of-param, close-site}
use Rattle.orc_checker.proofs.Voiding.{among_void, void_among, void_not}
use Rattle.orc_checker.proofs.marked.Marked.on_void.Goals as goal

pub returns-in-Operand-clause-void : goal.returns-in-Operand-clause-void
returns-in-Operand-clause-void c = λ e o.
    let s = c.args.self.now in
    let env = env_of s.cells s.scopes c.args.spot.scope in
    let p = c.in-Operand.operand in
    let is = c.node.ensures.term ∙ ap (unfold_node (code c.args.program.now) c.args.program.now.lists) c.in-Operand.is in
    subst IsVoid (sym (ap (close env) is ∙ close-of-param env (param_of p)))
    (subst (λ (z : State). AreOrdered z.scopes → IsVoid (param (close_param (env_of z.cells z.scopes c.args.spot.scope) (param_of p)))) c.self.view_is
    (λ ordered. subst (λ cs. IsVoid (param (close_param (env_of cs c.self.inside.scopes.items c.args.spot.scope) (param_of p)))) c.deref-in-Operand.ensures.value
    (subst (λ ss. AreOrdered ss → IsVoid (param (close_param (env_of c.deref-in-Operand.result.now ss c.args.spot.scope) (param_of p)))) c.deref.ensures.value (c.is_void.ensures.void e) ordered)) o)

pub returns-in-Operand-clause-running : goal.returns-in-Operand-clause-running
returns-in-Operand-clause-running c = λ e. ap has_halted (c.node.ensures.term ∙ ap (unfold_node (code c.args.program.now) c.args.program.now.lists) c.in-Operand.is)

pub returns-in-Site-clause-void : goal.returns-in-Site-clause-void
returns-in-Site-clause-void c = λ e o.
    let s = c.args.self.now in
    let l = c.args.program.now in
    let env = env_of s.cells s.scopes c.args.spot.scope in
    let k = c.in-Site in
    let is = c.node.ensures.term ∙ ap (unfold_node (code l) l.lists) k.is in
    let ps = map param_of (get_or l.lists k.list []) in
    let found : c.has_void.result ≡ has_void (map (close_param env) (map param_of c.operands.result.now)) =
    subst (λ (z : State). AreOrdered z.scopes → c.has_void.result ≡ has_void (map (close_param (env_of z.cells z.scopes c.args.spot.scope)) (map param_of c.operands.result.now))) c.self.view_is
    (λ ordered. subst (λ cs. c.has_void.result ≡ has_void (map (close_param (env_of cs c.self.inside.scopes.items c.args.spot.scope)) (map param_of c.operands.result.now))) c.deref-in-Site-2.ensures.value
    (subst (λ ss. AreOrdered ss → c.has_void.result ≡ has_void (map (close_param (env_of c.deref-in-Site-2.result.now ss c.args.spot.scope)) (map param_of c.operands.result.now))) c.deref-in-Site.ensures.value c.has_void.ensures ordered)) o in
    let f = void_among (map (close_param env) (map param_of c.operands.result.now)) (sym found ∙ e) in
    subst IsVoid (sym (ap (close env) is ∙ close-site env k.field-0 ps)) (subst (λ (z : List Operand). HasVoid (map (close_param env) (map param_of z))) c.operands.ensures.value f)

pub returns-in-Site-clause-running : goal.returns-in-Site-clause-running
returns-in-Site-clause-running c = λ e. ap has_halted (c.node.ensures.term ∙ ap (unfold_node (code c.args.program.now) c.args.program.now.lists) c.in-Site.is)

pub returns-in-Operand-clause-other : goal.returns-in-Operand-clause-other
returns-in-Operand-clause-other c = λ e o void.
    let s = c.args.self.now in
    let env = env_of s.cells s.scopes c.args.spot.scope in
    let p = c.in-Operand.operand in
    let is = c.node.ensures.term ∙ ap (unfold_node (code c.args.program.now) c.args.program.now.lists) c.in-Operand.is in
    subst (λ (z : State). AreOrdered z.scopes → IsVoid (param (close_param (env_of z.cells z.scopes c.args.spot.scope) (param_of p))) → ⊥) c.self.view_is
    (λ ordered. subst (λ cs. IsVoid (param (close_param (env_of cs c.self.inside.scopes.items c.args.spot.scope) (param_of p))) → ⊥) c.deref-in-Operand.ensures.value
    (subst (λ ss. AreOrdered ss → IsVoid (param (close_param (env_of c.deref-in-Operand.result.now ss c.args.spot.scope) (param_of p))) → ⊥) c.deref.ensures.value (c.is_void.ensures.other e) ordered))
    o (subst IsVoid (ap (close env) is ∙ close-of-param env (param_of p)) void)

pub returns-in-Site-clause-other : goal.returns-in-Site-clause-other
returns-in-Site-clause-other c = λ e o void.
    let s = c.args.self.now in
    let l = c.args.program.now in
    let env = env_of s.cells s.scopes c.args.spot.scope in
    let k = c.in-Site in
    let is = c.node.ensures.term ∙ ap (unfold_node (code l) l.lists) k.is in
    let ps = map param_of (get_or l.lists k.list []) in
    let found : c.has_void.result ≡ has_void (map (close_param env) (map param_of c.operands.result.now)) =
    subst (λ (z : State). AreOrdered z.scopes → c.has_void.result ≡ has_void (map (close_param (env_of z.cells z.scopes c.args.spot.scope)) (map param_of c.operands.result.now))) c.self.view_is
    (λ ordered. subst (λ cs. c.has_void.result ≡ has_void (map (close_param (env_of cs c.self.inside.scopes.items c.args.spot.scope)) (map param_of c.operands.result.now))) c.deref-in-Site-2.ensures.value
    (subst (λ ss. AreOrdered ss → c.has_void.result ≡ has_void (map (close_param (env_of c.deref-in-Site-2.result.now ss c.args.spot.scope)) (map param_of c.operands.result.now))) c.deref-in-Site.ensures.value c.has_void.ensures ordered)) o in
    let among : HasVoid (map (close_param env) ps) = subst IsVoid (ap (close env) is ∙ close-site env k.field-0 ps) void in
    cc (sym e ∙ found ∙ ap (λ z. has_void (map (close_param env) (map param_of z))) c.operands.ensures.value ∙ among_void (map (close_param env) ps) among)

pub returns-in_default : goal.returns-in_default
returns-in_default c =
    let s = c.args.self.now in
    let l = c.args.program.now in
    record {
      void = λ e. absurd (cc e);
      other = λ e o. void_not (env_of s.cells s.scopes c.args.spot.scope) (code l) l.lists c.node.result (code l c.args.spot.node) c.node.ensures.term (λ p is. c.in_default.not-Operand p is) (λ m list is. c.in_default.not-Site m list is);
      running = λ e. absurd (cc e);
    }
