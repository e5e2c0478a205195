use Rattle.std.proofs.Common.{◌∙◌, sym, ap, map, List}
use Rattle.orc_rules.specs.Term.{param}
use Rattle.orc_rules.specs.Nodes.{code, definitions, unfold_node, param_of}
use Rattle.orc_rules.specs.Idle.{has_void}
use Rattle.orc_rules.specs.declared.param.Operand.{Operand}
use Rattle.orc_env.specs.Scopes.{close, close_param, env_of}
use Rattle.orc_env.proofs.Closing.{close-stop, close-par, close-seq, close-prune, close-other}
use Rattle.orc_env.proofs.Scopes.{close-of-param, close-site, close-call}
use Rattle.orc_verdict.specs.declared.position.Standing.TheVariants as stands
use Rattle.orc_verdict.specs.Standing.{are_these, summary}
use Rattle.orc_verdict.proofs.position.on_node.Goals as goal

pub returns-in-Stop : goal.returns-in-Stop
returns-in-Stop c ordered =
    let l = c.args.program.now in
    let s = c.args.marked.now in
    let e = env_of s.cells s.scopes c.args.scope in
    sym (ap (summary (definitions l) c.args.args.now) (ap (close e) (c.node.ensures.term ∙ ap (unfold_node (code l) l.lists) c.in-Stop.is) ∙ close-stop e))

pub returns-in-Operand : goal.returns-in-Operand
returns-in-Operand c ordered =
    let l = c.args.program.now in
    let s = c.args.marked.now in
    let e = env_of s.cells s.scopes c.args.scope in
    sym (ap (summary (definitions l) c.args.args.now) (ap (close e) (c.node.ensures.term ∙ ap (unfold_node (code l) l.lists) c.in-Operand.is) ∙ close-of-param e (param_of c.in-Operand.operand) ∙ ap param (c.param.ensures ordered)))

pub returns-in-Site : goal.returns-in-Site
returns-in-Site c ordered =
    let l = c.args.program.now in
    let s = c.args.marked.now in
    let e = env_of s.cells s.scopes c.args.scope in
    let args = c.args.args.now in
    (λ i. stands.Site c.in-Site.site (c.some_void.ensures ordered i) (c.are_these.ensures ordered i))
    ∙ ap (λ (z : List Operand). stands.Site c.in-Site.site (has_void (map (close_param e) (map param_of z))) (are_these (map (close_param e) (map param_of z)) args)) c.operands-operands.ensures.value
    ∙ sym (ap (summary (definitions l) args) (ap (close e) (c.node.ensures.term ∙ ap (unfold_node (code l) l.lists) c.in-Site.is) ∙ close-site e c.in-Site.site _))

pub returns-in-Call : goal.returns-in-Call
returns-in-Call c ordered =
    let l = c.args.program.now in
    let s = c.args.marked.now in
    let e = env_of s.cells s.scopes c.args.scope in
    ap (λ z. stands.Call z) c.is_defined.ensures ∙ sym (ap (summary (definitions l) c.args.args.now) (ap (close e) (c.node.ensures.term ∙ ap (unfold_node (code l) l.lists) c.in-Call.is) ∙ close-call e c.in-Call.definition _))

pub returns-in-Par : goal.returns-in-Par
returns-in-Par c ordered =
    let l = c.args.program.now in
    let s = c.args.marked.now in
    let e = env_of s.cells s.scopes c.args.scope in
    sym (ap (summary (definitions l) c.args.args.now) (ap (close e) (c.node.ensures.term ∙ ap (unfold_node (code l) l.lists) c.in-Par.is) ∙ close-par e _ _))

pub returns-in-Seq : goal.returns-in-Seq
returns-in-Seq c ordered =
    let l = c.args.program.now in
    let s = c.args.marked.now in
    let e = env_of s.cells s.scopes c.args.scope in
    sym (ap (summary (definitions l) c.args.args.now) (ap (close e) (c.node.ensures.term ∙ ap (unfold_node (code l) l.lists) c.in-Seq.is) ∙ close-seq e _ _ _))

pub returns-in-Prune : goal.returns-in-Prune
returns-in-Prune c ordered =
    let l = c.args.program.now in
    let s = c.args.marked.now in
    let e = env_of s.cells s.scopes c.args.scope in
    sym (ap (summary (definitions l) c.args.args.now) (ap (close e) (c.node.ensures.term ∙ ap (unfold_node (code l) l.lists) c.in-Prune.is) ∙ close-prune e _ _ _))

pub returns-in-Other : goal.returns-in-Other
returns-in-Other c ordered =
    let l = c.args.program.now in
    let s = c.args.marked.now in
    let e = env_of s.cells s.scopes c.args.scope in
    sym (ap (summary (definitions l) c.args.args.now) (ap (close e) (c.node.ensures.term ∙ ap (unfold_node (code l) l.lists) c.in-Other.is) ∙ close-other e _ _))
