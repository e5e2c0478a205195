use Rattle.std.proofs.Common.{◌≡◌, sym, subst, arith, true}
use Rattle.std.specs.Prelude.{◌↔◌}
use Rattle.orc_rules.specs.Nodes.{source}
use Rattle.orc_rules.specs.Journal.{Place, Journal, begin, moment}
use Rattle.orc_rules.specs.Timed.{IsQuiet}
use Rattle.orc_outcome.specs.Outcome as outcome
use Rattle.orc_ledger_spec.specs.Records.{context}
use Rattle.orc_ledger_spec.specs.Answers.{IsAt}
use Rattle.orc_ledger_spec.specs.Spoken.{IsRight}
use Rattle.orc_ledger_spec.specs.declared.results.Next.TheVariants.{Ticks}
use Rattle.orc_scheduler.proofs.scheduler.Scheduler.cut.Goals as goal

pub returns-in-Ticks-clause-ended : goal.returns-in-Ticks-clause-ended
returns-in-Ticks-clause-ended g c p at =
    let s = c.next-next.new.self in
    let said = subst (λ z. IsRight g.P.Run.listing g.P.Run.sites z (Ticks c.in-Ticks.field-0)) (sym c.next-next.ensures.same) c.in-Ticks.ensures.right in
    let right = subst (λ z. IsRight g.P.Run.listing z s (Ticks c.in-Ticks.field-0)) (sym c.args.inputs.now.its_sites) said in (
      omega (arith, c.is_whole.ensures.entries, c.is_whole.ensures.within, c.if-entries-limit.false, c.entries.ensures, c.limit.ensures),
      λ quiet. quiet.no_tick c.in-Ticks.field-0 (right p at),
    )

pub returns-then-can_use_rule-clause-ended : goal.returns-then-can_use_rule-clause-ended
returns-then-can_use_rule-clause-ended g c p at =
    let s = c.next-next.new.self in
    let l = g.P.Run.listing in
    let moves = subst (λ z. (q : Place) → IsAt l z s q → IsQuiet (context l z) (moment q) → ⊥) (sym c.args.inputs.now.its_sites) (c.can_use_rule.ensures c.if-can_use_rule.true) in
    (omega (arith, c.is_whole.ensures.entries, c.is_whole.ensures.within, c.if-entries-limit.false, c.entries.ensures, c.limit.ensures), λ quiet. moves p at quiet)

pub returns-in-Some-false-clause-ended : goal.returns-in-Some-false-clause-ended
returns-in-Some-false-clause-ended g c p at =
    let l = g.P.Run.listing in
    let t = c.args.inputs.now.answers.now in
    let field = c.in-Some-false.field-0 in
    let says = subst (λ z. (q : Place) → Journal (outcome.context z t) (begin (source z)) c.journal.result.now.entries q → (field ≡ true) ↔ IsQuiet (outcome.context z t) (moment q)) c.requires.program c.in-Some-false.ensures in
    let there : Journal (outcome.context l t) (begin (source l)) c.journal.result.now.entries p = subst (λ es. Journal (outcome.context l t) (begin (source l)) es p) (sym c.journal.ensures.entries) at in
    (omega (arith, c.is_whole.ensures.entries, c.is_whole.ensures.within, c.if-entries-limit.false, c.entries.ensures, c.limit.ensures), λ quiet. cc ((says p there).1 quiet, c.in-Some-false.field-0-test))
