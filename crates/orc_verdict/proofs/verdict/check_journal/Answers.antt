use Rattle.std.proofs.Common.{◌≡◌, ◌∙◌, ◌+◌, suc, take, ap, sym, refl, subst, inr, arith}
use Rattle.orc_rules.specs.Nodes.{code, source}
use Rattle.orc_rules.specs.Journal.{begin}
use Rattle.orc_rules.specs.Verdict.{AreTaken}
use Rattle.orc_checker.specs.Checker.{Begins, Spells, context}
use Rattle.orc_verdict.specs.Heights.{height}
use Rattle.orc_verdict.specs.Verdicts.{records_cancels, IsStopped}
use Rattle.orc_verdict.proofs.Judging.{AreDone, none_done, one_done, stopped_there, refused_of, fault_from, cut_from, fault_end, none_due, some_due, take_one, take_all}
use Rattle.orc_verdict.proofs.verdict.check_journal.Goals as goal

pub loop-next-init : goal.loop-next-init
loop-next-init c =
    let l = c.args.program.now in
    let cancels = c.records_cancels.ensures ∙ ap records_cancels c.version.ensures in
    none_done l c.args.answers.now (records_cancels c.args.journal.now.version) c.in-Ok-new.marked c.at-levels.result
    (subst (λ z. Begins l z c.in-Ok-new.marked (begin (source l))) cancels c.in-Ok-new.ensures)
    (c.at-levels.ensures ∙ ap (height c.in-Ok.heights) c.source.ensures ∙ c.in-Ok.ensures l.root)

pub loop-next-preserved : goal.loop-next-preserved
loop-next-preserved c =
    let l = c.args.program.now in
    let t = c.args.answers.now in
    let cancels = records_cancels c.args.journal.now.version in
    let es = c.args.journal.now.entries in
    let i = c.loop-next.next in
    let e = c.entry_at-entry.result in
    let s = c.take.new.taken.marked in
    let levels = c.take.new.taken.levels in
    subst (λ n. AreDone l t cancels (take n es) s levels) (let same : suc i ≡ i + 1 = omega arith in same)
    (subst (λ z. AreDone l t cancels z s levels) (sym (take_one es i e c.entry_at-entry.ensures))
    (one_done l t cancels (take i es) e c.loop-next.taken.marked c.loop-next.taken.levels s levels c.loop-next.invariant (c.in-Ok-take.ensures.done c.in-Ok.ensures c.most-most.ensures)))

pub returns-in-Err-clause-fault : goal.returns-in-Err-clause-fault
returns-in-Err-clause-fault c off =
    let l = c.args.program.now in
    let t = c.args.answers.now in
    let cancels = records_cancels c.args.journal.now.version in
    let es = c.args.journal.now.entries in
    let i = c.loop-next.next in
    let e = c.entry_at-entry.result in
    let d = c.loop-next.invariant in
    let x = context l t cancels in
    fault_from x (begin (source l)) 1 es i e d.0 c.in-Err.why (i + 1) d.1 c.entry_at-entry.ensures
    (refused_of x d.0 e c.in-Err.why off (stopped_there l t cancels (take i es) e c.loop-next.taken.marked c.loop-next.taken.levels c.in-Err.why d (c.in-Err.ensures.refused c.in-Ok.ensures)))
    (omega arith)

pub returns-in-Err-clause-memory : goal.returns-in-Err-clause-memory
returns-in-Err-clause-memory c is =
    let l = c.args.program.now in
    let t = c.args.answers.now in
    let cancels = records_cancels c.args.journal.now.version in
    let es = c.args.journal.now.entries in
    let i = c.loop-next.next in
    let e = c.entry_at-entry.result in
    let d = c.loop-next.invariant in
    let x = context l t cancels in
    inr (cut_from x (begin (source l)) 1 es i e d.0 (i + 1) d.1 c.entry_at-entry.ensures
    (subst (IsStopped x d.0 e) is (stopped_there l t cancels (take i es) e c.loop-next.taken.marked c.loop-next.taken.levels c.in-Err.why d (c.in-Err.ensures.refused c.in-Ok.ensures)))
    (omega arith))

pub returns-in-Some-clause-fault : goal.returns-in-Some-clause-fault
returns-in-Some-clause-fault c off =
    let l = c.args.program.now in
    let x = context l c.args.answers.now (records_cancels c.args.journal.now.version) in
    let es = c.args.journal.now.entries in
    let d = c.loop-next.invariant in
    let sp = d.2 in
    let taken = subst (λ z. AreTaken x (begin (source l)) z d.0) (take_all es c.loop-next.next (omega (arith, c.loop-next-test.false, c.loop-next.auto.next-end, c.len-next-end.ensures))) d.1 in
    fault_end x (begin (source l)) 1 es d.0 c.next_number.result taken
    (λ none. some_due c.loop-next.taken.marked.rest.to_cancel c.in-Some.field-0 (sym c.next_cancel.ensures ∙ c.in-Some.is) (sym sp.rest.due ∙ none))
    (omega (arith, c.next_number.ensures))

pub returns-clause-verdict : goal.returns-clause-verdict
returns-clause-verdict c =
    let l = c.args.program.now in
    let x = context l c.args.answers.now (records_cancels c.args.journal.now.version) in
    let es = c.args.journal.now.entries in
    let d = c.loop-next.invariant in
    let sp = d.2 in
    let taken = subst (λ z. AreTaken x (begin (source l)) z d.0) (take_all es c.loop-next.next (omega (arith, c.loop-next-test.false, c.loop-next.auto.next-end, c.len-next-end.ensures))) d.1 in
    record {
      end = d.0;
      taken = taken;
      paid = sp.rest.due ∙ none_due c.loop-next.taken.marked.rest.to_cancel (sym c.next_cancel.ensures ∙ c.in-None.is);
      reached = c.state_of-state.ensures.state x d.0 refl sp;
      time = c.now-now.ensures x l d.0 (subst (λ z. Spells x (code l) z d.0) (sym c.state_of-state.ensures.same) sp);
    }
