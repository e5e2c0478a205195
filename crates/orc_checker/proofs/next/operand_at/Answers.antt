use Rattle.std.proofs.Common.{◌≡◌, ◌∙◌, ap, subst, inl, inr, List, Some, get_or, []}
use Rattle.std.specs.Prelude.{slice_get}
use Rattle.orc_rules.specs.declared.param.Operand.{Operand}
use Rattle.orc_rules.specs.Nodes.{code, unfold_node}
use Rattle.orc_checker.proofs.Offered.{if_some}
use Rattle.orc_checker.proofs.next.operand_at.Goals as goal

pub returns-in-Operand : goal.returns-in-Operand
returns-in-Operand c =
    let l = c.args.program.now in
    inl (c.if-position-eq0.true, c.node.ensures.term ∙ ap (unfold_node (code l) l.lists) c.in-Operand.is)

pub returns-in-Site : goal.returns-in-Site
returns-in-Site c =
    let l = c.args.program.now in
    let k = c.in-Site in
    if_some c.nth_of.result (λ o h. inr (k.field-0, get_or l.lists k.list [], c.node.ensures.term ∙ ap (unfold_node (code l) l.lists) k.is, subst (λ (z : List Operand). slice_get z c.args.position ≡ Some o) c.operands.ensures.value h)) c.nth_of.ensures
