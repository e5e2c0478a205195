use Rattle.std.proofs.Common.{List, sym, ap, ◌∙◌, None, false}
use Rattle.orc_rules.specs.declared.param.Operand.{Operand}
use Rattle.orc_rules.specs.declared.param.Param.TheVariants as is
use Rattle.orc_rules.specs.Nodes.{code, definitions}
use Rattle.orc_env.specs.Scopes.{Env, env_of}
use Rattle.orc_env.specs.declared.names.Bound.TheVariants as bound
use Rattle.orc_env.proofs.Scopes.{close-given}
use Rattle.orc_frames.specs.Spelling.{Path, seen}
use Rattle.orc_frames.specs.Paths.{path, has_published}
use Rattle.orc_frames.specs.Doing.{of_param, scan, closed}
use Rattle.orc_frames.proofs.Forms.{at-stop, at-param, at-site, at-call, at-par, at-seq, at-prune, at-other, defined, undefined}
use Rattle.orc_frames.proofs.action.action_at.Goals as goal

pub returns-in-Stop : goal.returns-in-Stop
returns-in-Stop c =
    let its : Path = seen (has_published c.args.steps.now.items) (path (code c.args.graph.now) (env_of c.args.cells.now c.args.scopes.now) c.args.steps.now.items c.args.from) in
    let env : Env = env_of c.args.cells.now c.args.scopes.now c.args.scope in
    at-stop (definitions c.args.graph.now) its env (code c.args.graph.now c.args.node) c.in-Stop.ensures.term

pub returns-in-Name : goal.returns-in-Name
returns-in-Name c =
    c.variable_action.ensures (code c.args.graph.now) (env_of c.args.cells.now c.args.scopes.now) (has_published c.args.steps.now.items) ∙
    at-param (definitions c.args.graph.now) (seen (has_published c.args.steps.now.items) (path (code c.args.graph.now) (env_of c.args.cells.now c.args.scopes.now) c.args.steps.now.items c.args.from)) (env_of c.args.cells.now c.args.scopes.now c.args.scope) (code c.args.graph.now c.args.node) (is.Name c.in-Name.name) c.in-Name.ensures.term

pub returns-in-Is : goal.returns-in-Is
returns-in-Is c =
    let its : Path = seen (has_published c.args.steps.now.items) (path (code c.args.graph.now) (env_of c.args.cells.now c.args.scopes.now) c.args.steps.now.items c.args.from) in
    let env : Env = env_of c.args.cells.now c.args.scopes.now c.args.scope in
    c.publish_action.ensures (code c.args.graph.now) (env_of c.args.cells.now c.args.scopes.now) (has_published c.args.steps.now.items) ∙
    (sym (ap (of_param its) (close-given env (bound.Is c.in-Is.value))) ∙ at-param (definitions c.args.graph.now) its env (code c.args.graph.now c.args.node) (is.Is c.in-Is.value) c.in-Is.ensures.term)

pub returns-in-Site : goal.returns-in-Site
returns-in-Site c =
    let its : Path = seen (has_published c.args.steps.now.items) (path (code c.args.graph.now) (env_of c.args.cells.now c.args.scopes.now) c.args.steps.now.items c.args.from) in
    let env : Env = env_of c.args.cells.now c.args.scopes.now c.args.scope in
    c.site_call_action.ensures ∙ (ap (λ (ps : List Operand). scan false None (closed env ps)) c.operands.ensures.value ∙
    at-site (definitions c.args.graph.now) its env (code c.args.graph.now c.args.node) _ _ c.in-Site.ensures.term)

pub returns-in-Some : goal.returns-in-Some
returns-in-Some c =
    let its : Path = seen (has_published c.args.steps.now.items) (path (code c.args.graph.now) (env_of c.args.cells.now c.args.scopes.now) c.args.steps.now.items c.args.from) in
    let env : Env = env_of c.args.cells.now c.args.scopes.now c.args.scope in
    sym (defined c.args.graph.now c.in-Call.definition c.in-Some.field-0 (sym c.in-Some.ensures)) ∙ at-call (definitions c.args.graph.now) its env (code c.args.graph.now c.args.node) _ _ c.in-Call.ensures.term

pub returns-in-None : goal.returns-in-None
returns-in-None c =
    let its : Path = seen (has_published c.args.steps.now.items) (path (code c.args.graph.now) (env_of c.args.cells.now c.args.scopes.now) c.args.steps.now.items c.args.from) in
    let env : Env = env_of c.args.cells.now c.args.scopes.now c.args.scope in
    sym (undefined c.args.graph.now c.in-Call.definition (sym c.in-None.ensures)) ∙ at-call (definitions c.args.graph.now) its env (code c.args.graph.now c.args.node) _ _ c.in-Call.ensures.term

pub returns-in-Par : goal.returns-in-Par
returns-in-Par c =
    let its : Path = seen (has_published c.args.steps.now.items) (path (code c.args.graph.now) (env_of c.args.cells.now c.args.scopes.now) c.args.steps.now.items c.args.from) in
    let env : Env = env_of c.args.cells.now c.args.scopes.now c.args.scope in
    at-par (definitions c.args.graph.now) its env (code c.args.graph.now c.args.node) _ _ c.in-Par.ensures.term

pub returns-in-Seq : goal.returns-in-Seq
returns-in-Seq c =
    let its : Path = seen (has_published c.args.steps.now.items) (path (code c.args.graph.now) (env_of c.args.cells.now c.args.scopes.now) c.args.steps.now.items c.args.from) in
    let env : Env = env_of c.args.cells.now c.args.scopes.now c.args.scope in
    at-seq (definitions c.args.graph.now) its env (code c.args.graph.now c.args.node) _ _ _ c.in-Seq.ensures.term

pub returns-in-Prune : goal.returns-in-Prune
returns-in-Prune c =
    let its : Path = seen (has_published c.args.steps.now.items) (path (code c.args.graph.now) (env_of c.args.cells.now c.args.scopes.now) c.args.steps.now.items c.args.from) in
    let env : Env = env_of c.args.cells.now c.args.scopes.now c.args.scope in
    at-prune (definitions c.args.graph.now) its env (code c.args.graph.now c.args.node) _ _ _ c.in-Prune.ensures.term

pub returns-in-Other : goal.returns-in-Other
returns-in-Other c =
    let its : Path = seen (has_published c.args.steps.now.items) (path (code c.args.graph.now) (env_of c.args.cells.now c.args.scopes.now) c.args.steps.now.items c.args.from) in
    let env : Env = env_of c.args.cells.now c.args.scopes.now c.args.scope in
    at-other (definitions c.args.graph.now) its env (code c.args.graph.now c.args.node) _ _ c.in-Other.ensures.term
