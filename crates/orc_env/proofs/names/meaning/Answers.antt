use Rattle.std.proofs.Common.{◌∙◌, ap}
use Rattle.orc_rules.specs.Nodes.{param_of}
use Rattle.orc_env.specs.declared.names.Bound.TheVariants.{Is}
use Rattle.orc_env.specs.Scopes.{close_param, env_of}
use Rattle.orc_env.proofs.Scopes.{close-given}
use Rattle.orc_env.proofs.names.meaning.Goals as goal

pub returns-in-Is-clause-bound : goal.returns-in-Is-clause-bound
returns-in-Is-clause-bound c ordered =
    let env = env_of c.args.cells.now c.args.scopes.now c.args.scope in
    ap (λ z. close_param env (param_of z)) c.in-Is.is ∙ close-given env (Is c.in-Is.v)
