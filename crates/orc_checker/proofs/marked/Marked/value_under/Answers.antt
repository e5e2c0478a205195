use Rattle.std.proofs.Common.{◌∙◌, ap, subst}
use Rattle.orc_rules.specs.Nodes.{code, unfold_node}
use Rattle.orc_env.specs.declared.names.Bound.TheVariants.{Is}
use Rattle.orc_checker.specs.Checker.{State}
use Rattle.orc_env.specs.Names.{AreOrdered, Means}
use Rattle.orc_checker.proofs.Bearers.{bears_token, other_operand, other_node_under}
use Rattle.orc_checker.proofs.Offered.{if_some}
use Rattle.orc_checker.proofs.marked.Marked.value_under.Goals as goal

pub returns-in-Operand-clause-bears : goal.returns-in-Operand-clause-bears
returns-in-Operand-clause-bears c =
    let l = c.args.program.now in
    let m = c.args.self.now in
    let k = c.in-Token in
    let scopes = c.deref.ensures.value ∙ ap State.scopes c.self.view_is in
    let cells = c.deref-in-Operand.ensures.value ∙ ap State.cells c.self.view_is in
    if_some c.value_of.result
    (λ v means s carries.
    bears_token (code l) m.cells m.scopes s c.args.tip k.field-0 k.node k.scope c.in-Operand.operand v k.is carries
    (c.node.ensures.term ∙ ap (unfold_node (code l) l.lists) c.in-Operand.is)
    (subst (λ ss. Means m.cells ss k.scope c.in-Operand.operand (Is v)) scopes (subst (λ cs. Means cs c.deref.result.now k.scope c.in-Operand.operand (Is v)) cells means)))
    c.value_of.ensures.value

pub returns-in-Operand-clause-other : goal.returns-in-Operand-clause-other
returns-in-Operand-clause-other c s v none =
    let l = c.args.program.now in
    let m = c.args.self.now in
    let k = c.in-Token in
    let scopes = c.deref.ensures.value ∙ ap State.scopes c.self.view_is in
    let cells = c.deref-in-Operand.ensures.value ∙ ap State.cells c.self.view_is in
    other_operand (code l) m.cells m.scopes s c.args.tip k.field-0 k.node k.scope v k.is c.in-Operand.operand
    (c.node.ensures.term ∙ ap (unfold_node (code l) l.lists) c.in-Operand.is)
    (subst (λ ss. Means m.cells ss k.scope c.in-Operand.operand (Is v) → AreOrdered ss → ⊥) scopes (subst (λ cs. Means cs c.deref.result.now k.scope c.in-Operand.operand (Is v) → AreOrdered c.deref.result.now → ⊥) cells (c.value_of.ensures.other v none)))

pub returns-in_default-node : goal.returns-in_default-node
returns-in_default-node c =
    let l = c.args.program.now in
    let m = c.args.self.now in
    let k = c.in-Token in
    record { lives = tt; bears = tt; other = λ s v none. other_node_under (code l) m.cells m.scopes s c.args.tip k.field-0 k.node k.scope v k.is l.lists c.node.result c.node.ensures.term (λ p e. c.in_default-node.not-Operand p e) }
