use Rattle.std.proofs.Common.{◌+◌, ◌∙◌, ap, sym, subst, refl, arith}
use Rattle.orc_env.specs.Scopes.{current, given}
use Rattle.orc_env.proofs.Scopes.{LooksFor, looks_here, looks_on, looks_on_less, looks_out, looks_end, looks_never}
use Rattle.orc_env.proofs.names.bound_of.Goals as goal

pub returns-then-name-clause-bound : goal.returns-then-name-clause-bound
returns-then-name-clause-bound c ordered =
    looks_here c.args.cells.now c.args.scopes.now c.args.name c.args.scope c.loop-step.at c.in-Some.inner.now c.loop-step.invariant.0 (λ e. c.if-at-eq0.false e) c.in-Some.ensures.there (sym c.name.ensures ∙ c.if-name.true) ordered
    ∙ ap (λ b. given (current c.args.cells.now b)) (sym c.bound.ensures)
    ∙ ap given (sym c.current.ensures)

pub returns-then-at-eq0-clause-free : goal.returns-then-at-eq0-clause-free
returns-then-at-eq0-clause-free c = looks_end c.args.cells.now c.args.scopes.now c.args.name c.args.scope c.loop-step.at c.loop-step.invariant.0 c.if-at-eq0.true

pub returns-in-None-clause-free : goal.returns-in-None-clause-free
returns-in-None-clause-free c = looks_out c.args.cells.now c.args.scopes.now c.args.name c.args.scope c.loop-step.at c.loop-step.invariant.0 (λ e. c.if-at-eq0.false e) c.in-None.ensures.none

pub returns-else-name-clause-free : goal.returns-else-name-clause-free
returns-else-name-clause-free c =
    looks_never c.args.cells.now c.args.scopes.now c.args.name c.args.scope c.in-Some.inner.now.outer (c.loop-step._step + 1) (
      looks_on c.args.cells.now c.args.scopes.now c.args.name c.args.scope c.loop-step.at c.in-Some.inner.now c.loop-step.invariant.0 (λ e. c.if-at-eq0.false e) c.in-Some.ensures.there (λ e. c.if-name.false (c.name.ensures ∙ e)),
      looks_on_less c.args.cells.now c.args.scopes.now c.args.name c.args.scope c.loop-step.at c.in-Some.inner.now c.loop-step._step c.loop-step.invariant (λ e. c.if-at-eq0.false e) c.in-Some.ensures.there,
    )
    (omega arith)

pub loop-step-preserved : goal.loop-step-preserved
loop-step-preserved c =
    subst (λ z. LooksFor c.args.cells.now c.args.scopes.now c.args.name c.args.scope z (c.loop-step._step + 1)) (sym c.outer-at.ensures) (
      looks_on c.args.cells.now c.args.scopes.now c.args.name c.args.scope c.loop-step.at c.in-Some.inner.now c.loop-step.invariant.0 (λ e. c.if-at-eq0.false e) c.in-Some.ensures.there (λ e. c.if-name.false (c.name.ensures ∙ e)),
      looks_on_less c.args.cells.now c.args.scopes.now c.args.name c.args.scope c.loop-step.at c.in-Some.inner.now c.loop-step._step c.loop-step.invariant (λ e. c.if-at-eq0.false e) c.in-Some.ensures.there,
    )

pub loop-step-init : goal.loop-step-init
loop-step-init c = (λ ordered. refl, λ ordered more. absurd (omega (arith, more)))
