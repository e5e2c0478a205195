use Rattle.std.proofs.Common.{◌<◌, ◌++◌, ◌∷◌, [], List, ℕ, ap, sym, ◌∙◌, append-nil, arith, length}
use Rattle.orc_rules.specs.declared.param.Param.TheVariants as is
use Rattle.orc_rules.specs.Nodes.{param_of}
use Rattle.orc_env.specs.Scopes.{env_of, close_param}
use Rattle.orc_frames.proofs.Waiting.{one-more}
use Rattle.orc_frames.proofs.waits.list_cells.Goals as goal
use Rattle.orc_frames.proofs.waits.list_cells.Goals.{in-Some-Cell+in_ok-reserve-in-Some-Cell, in-Some-Is, in-Some-Void, in-None}

pub loop-operand-preserved : goal.loop-operand-preserved
loop-operand-preserved c =
    let e = env_of c.args.cells.now c.args.scopes.now c.args.scope in
    let ps = c.args.operands.now in
    let i = c.loop-operand.operand-index in
    let lt : i < length ps = omega (arith, c.loop-operand-test.true) in
    let so_far = c.loop-operand.invariant in
    let none = sym (append-nil c.loop-operand.listed.items) in
    elim c.match-meaning.branch [
      | in-Some-Cell+in_ok-reserve-in-Some-Cell w ↦ one-more e ps i _ lt _ so_far (is.Cell w.in-Some-Cell.cell) ((rw w.in-Some-Cell.field-0-is at w.in-Some-Cell.ensures.bound) c.requires) _ (ap (λ z. z.items) w.listed-is ∙ w.push_within.ensures.items ∙ ap (λ (z : List ℕ). z ++ w.in-Some-Cell.cell ∷ []) w.in_ok-reserve-in-Some-Cell.ensures.items)
      | in-Some-Is w ↦ one-more e ps i _ lt _ so_far (is.Is w.in-Some-Is.field-0-0) ((rw w.in-Some-Is.field-0-is at w.in-Some-Is.ensures.bound) c.requires) _ (ap (λ z. z.items) w.listed-is ∙ none)
      | in-Some-Void w ↦ one-more e ps i _ lt _ so_far is.Void ((rw w.in-Some-Void.field-0-is at w.in-Some-Void.ensures.bound) c.requires) _ (ap (λ z. z.items) w.listed-is ∙ none)
      | in-None w ↦ one-more e ps i _ lt _ so_far (is.Name w.in-None.ensures.free.0) (ap (λ z. close_param e (param_of z)) w.in-None.ensures.free.1 ∙ w.in-None.ensures.free.2 c.requires) _ (ap (λ z. z.items) w.listed-is ∙ none)
    ]
