use Rattle.std.proofs.Common.{◌∙◌, ◌++◌, ◌∷◌, [], ap, sym, refl, subst, inl, arith}
use Rattle.std.proofs.KnownBytes.{Consumes-trans}
use Rattle.std.proofs.lemmas.Result.{err_from_is_err_and}
use Rattle.orc_rules.specs.Nodes.{code, source}
use Rattle.orc_rules.specs.Journal.{begin}
use Rattle.orc_journal.specs.declared.journal.Version.{Version}
use Rattle.orc_journal_text.proofs.Coming.{may_come}
use Rattle.orc_checker.specs.Checker.{Begins, Spells, context}
use Rattle.orc_verdict.specs.Heights.{height}
use Rattle.orc_verdict.specs.Lines.{IsRefusedAt, IsTextFault}
use Rattle.orc_verdict.specs.Verdicts.{records_cancels}
use Rattle.orc_verdict.proofs.Judging.{AreDone, none_done, one_done, refused_at, fault_end, none_due, some_due}
use Rattle.orc_verdict.proofs.Reading.{fault_with, read_fault}
use Rattle.orc_verdict.proofs.lines.check_lines.Goals as goal

pub returns-in-Err-clause-fault : goal.returns-in-Err-clause-fault
returns-in-Err-clause-fault g c =
    let t = c.args.answers.now in
    let (whole, may, is) = read_fault c.args.program.now t (g.R.Read.remaining c.args.text) [] c.in-Err.fault (c.in-Err.ensures.fault t.names) in
    (whole, may, subst (IsTextFault c.args.program.now t whole) (sym c.from.ensures) is)

-- ---- memory was refused before the first entry

pub returns-in_default-clause-fault : goal.returns-in_default-clause-fault
returns-in_default-clause-fault g c =
    let (piece, p, reads) = c.in-Ok.ensures.begun in
    fault_with c.args.program.now c.args.answers.now _ _ piece _ p (c.refused.ensures c.args.program.now piece [] (reads c.args.answers.now.names) (λ more. (λ firm. absurd (firm refl), λ is. inl refl)))

pub returns-in_default-new-clause-fault : goal.returns-in_default-new-clause-fault
returns-in_default-new-clause-fault g c =
    let (piece, p, reads) = c.in-Ok.ensures.begun in
    fault_with c.args.program.now c.args.answers.now _ _ piece _ p (c.refused-in_default-new.ensures c.args.program.now piece [] (reads c.args.answers.now.names) (λ more. (λ firm. absurd (firm refl), λ is. inl refl)))

-- ---- the entries

pub loop-taken-init : goal.loop-taken-init
loop-taken-init g c =
    let l = c.args.program.now in
    let cancels = c.records_cancels.ensures ∙ ap records_cancels c.version.ensures in
    let (piece, p, reads) = c.in-Ok.ensures.begun in (
      piece,
      [],
      p,
      reads c.args.answers.now.names,
      none_done l c.args.answers.now (records_cancels c.in-Ok.lines.version) c.in-Ok-new-2.marked c.at-levels.result
          (subst (λ z. Begins l z c.in-Ok-new-2.marked (begin (source l))) cancels c.in-Ok-new-2.ensures)
          (c.at-levels.ensures ∙ ap (height c.in-Ok-new.heights) c.source.ensures ∙ c.in-Ok-new.ensures l.root),
    )

pub loop-taken-preserved : goal.loop-taken-preserved
loop-taken-preserved g c =
    let l = c.args.program.now in
    let t = c.args.answers.now in
    let (piece, es, p, read, done) = c.loop-taken.invariant in
    let (next, q, reads) = c.in_ok-next.ensures.more c.if-branch.true in
    let e = c.next.new.entry in
    let s = c.take.new.taken.marked in
    let levels = c.take.new.taken.levels in (
      piece ++ next,
      es ++ e ∷ [],
      Consumes-trans _ _ _ piece next p q,
      reads piece es read,
      subst (λ (v : Version). AreDone l t (records_cancels v) (es ++ e ∷ []) s levels) (sym c.next.ensures.version)
          (one_done l t (records_cancels c.loop-taken.lines.version) es e c.loop-taken.taken.marked c.loop-taken.taken.levels s levels done (c.in-Ok-take.ensures.done c.in-Ok-new.ensures c.most-most.ensures)),
    )

pub returns-in_err-next-clause-fault : goal.returns-in_err-next-clause-fault
returns-in_err-next-clause-fault g c =
    let (y, is, from) = err_from_is_err_and c.from_residual.result c.from_residual.ensures.1 in
    let l = c.args.program.now in
    let t = c.args.answers.now in
    let (piece, es, p, read, done) = c.loop-taken.invariant in
    let b = c.loop-taken.lines.coming.left in
    rw (is, from) (fault_with l t (g.R.Read.remaining c.args.text) b piece _ p (read_fault l t b piece c.in_err-next.field-0.0 (c.in_err-next.ensures.fault piece es read)))

pub returns-in-Err-take-clause-fault : goal.returns-in-Err-take-clause-fault
returns-in-Err-take-clause-fault g c =
    let l = c.args.program.now in
    let t = c.args.answers.now in
    let (piece, es, p, read, done) = c.loop-taken.invariant in
    let (next, q, reads) = c.in_ok-next.ensures.more c.if-branch.true in
    let e = c.next.new.entry in
    let after = reads piece es read in
    fault_with l t _ _ (piece ++ next) _ (Consumes-trans _ _ _ piece next p q) (c.refused-in-Err-take.ensures l (piece ++ next) (es ++ e ∷ []) after (λ more.
    subst (λ (v : Version). IsRefusedAt l t v ((es ++ e ∷ []) ++ more) (record { at = c.read-at.result; why = c.in-Err-take.why })) (sym c.next.ensures.version)
    (refused_at l t c.loop-taken.lines.version es e more c.loop-taken.taken.marked c.loop-taken.taken.levels c.read-at.result c.in-Err-take.why done (c.in-Err-take.ensures.refused c.in-Ok-new.ensures) (c.read-at.ensures.count ∙ after.number))))

-- ---- the end

pub returns-in-Some-clause-fault : goal.returns-in-Some-clause-fault
returns-in-Some-clause-fault g c =
    let l = c.args.program.now in
    let (piece, es, p, read, done) = c.loop-taken.invariant in
    let (next, may, reads) = c.in_ok-next.ensures.end c.if-branch.false in
    let v = c.loop-taken.lines.version in
    let x = context l c.args.answers.now (records_cancels v) in
    let number = c.read.ensures.count ∙ c.in_ok-next.ensures.same c.if-branch.false ∙ read.number in (
      piece ++ next,
      may_come _ _ piece next p may,
      (
        record { version = v; entries = es },
        reads piece es read,
        (
          λ firm. fault_end x (begin (source l)) 1 es done.0 _ done.1
              (λ none. some_due c.loop-taken.taken.marked.rest.to_cancel c.in-Some.field-0 (sym c.next_cancel.ensures ∙ c.in-Some.is) (sym done.2.rest.due ∙ none))
              (omega (arith, number)),
          λ is. absurd (cc is),
        ),
      ),
    )

pub returns-clause-verdict : goal.returns-clause-verdict
returns-clause-verdict g c =
    let l = c.args.program.now in
    let (piece, es, p, read, done) = c.loop-taken.invariant in
    let (next, may, reads) = c.in_ok-next.ensures.end c.if-branch.false in
    let v = c.loop-taken.lines.version in
    let x = context l c.args.answers.now (records_cancels v) in
    let sp = done.2 in (
      piece ++ next,
      may_come _ _ piece next p may,
      (
        record { version = v; entries = es },
        reads piece es read,
        c.read-in-None.ensures.count ∙ c.in_ok-next.ensures.same c.if-branch.false ∙ read.number,
        record {
          end = done.0;
          taken = done.1;
          paid = sp.rest.due ∙ none_due c.loop-taken.taken.marked.rest.to_cancel (sym c.next_cancel.ensures ∙ c.in-None.is);
          reached = c.state_of-state.ensures.state x done.0 refl sp;
          time = c.now-now.ensures x l done.0 (subst (λ z. Spells x (code l) z done.0) (sym c.state_of-state.ensures.same) sp);
        },
      ),
    )
