use Rattle.std.proofs.Common.{◌∙◌, ap, arith, take, sym, Some}
use Rattle.std.proofs.lemmas.List.{take_more, length-take}
use Rattle.orc_rules.specs.Term.{values_of}
use Rattle.orc_env.specs.Scopes.{env_of, given}
use Rattle.orc_frames.specs.Doing.{closed}
use Rattle.orc_frames.proofs.Values.{stands-value, one-value, values-length}
use Rattle.orc_frames.proofs.arguments.take_values.Goals as goal

pub push-requires : goal.push-requires
push-requires c =
    let a = c.args in
    let i = c.loop-operand.operand-index in
    omega (arith, values-length (env_of a.cells.now a.scopes.now a.scope) (take i a.operands.now) c.loop-operand.args c.loop-operand.invariant, length-take i a.operands.now, c.loop-operand-test.true, c.requires.few)

pub loop-operand-preserved : goal.loop-operand-preserved
loop-operand-preserved c =
    let a = c.args in
    let i = c.loop-operand.operand-index in
    let e = env_of a.cells.now a.scopes.now a.scope in
    ap (λ ops. values_of (closed e ops)) (take_more a.operands.now i _ c.loop-operand-test.true)
    ∙ one-value e (take i a.operands.now) _ c.loop-operand.args c.in-Some-Is.value c.loop-operand.invariant (c.in-Some-Is.ensures.bound c.requires.ordered ∙ ap given c.in-Some-Is.field-0-is)
    ∙ ap Some (sym c.push.ensures)

pub returns-in-Some-Cell-clause-none : goal.returns-in-Some-Cell-clause-none
returns-in-Some-Cell-clause-none c _ vs whole =
    let a = c.args in
    let stands = stands-value a.cells.now a.scopes.now a.scope a.operands.now c.loop-operand.operand-index _ vs c.loop-operand-test.true whole c.requires.ordered c.meaning.result c.meaning.ensures.bound c.meaning.ensures.free in
    cc (stands.1, c.in-Some-Cell.is, c.in-Some-Cell.field-0-is)

pub returns-in-Some-Void-clause-none : goal.returns-in-Some-Void-clause-none
returns-in-Some-Void-clause-none c _ vs whole =
    let a = c.args in
    let stands = stands-value a.cells.now a.scopes.now a.scope a.operands.now c.loop-operand.operand-index _ vs c.loop-operand-test.true whole c.requires.ordered c.meaning.result c.meaning.ensures.bound c.meaning.ensures.free in
    cc (stands.1, c.in-Some-Void.is, c.in-Some-Void.field-0-is)

pub returns-in-None-clause-none : goal.returns-in-None-clause-none
returns-in-None-clause-none c _ vs whole =
    let a = c.args in
    let stands = stands-value a.cells.now a.scopes.now a.scope a.operands.now c.loop-operand.operand-index _ vs c.loop-operand-test.true whole c.requires.ordered c.meaning.result c.meaning.ensures.bound c.meaning.ensures.free in
    cc (stands.1, c.in-None.is)
