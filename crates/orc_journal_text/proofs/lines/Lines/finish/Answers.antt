use Rattle.std.proofs.Common.{◌++◌, ◌∷◌, [], List, ℕ, append_assoc, subst, ◌∙◌}
use Rattle.std.proofs.KnownBytes.{Consumes-trans}
use Rattle.std.proofs.lemmas.Result.{err_from_is_err_and}
use Rattle.orc_rules.specs.declared.entry.Entry.{Entry}
use Rattle.orc_journal.specs.declared.journal.Version.{Version}
use Rattle.orc_journal_text.specs.Lines.{HasRead}
use Rattle.orc_journal_text.specs.Texts.{IsJournal}
use Rattle.orc_journal_text.proofs.Arriving.{fault_before}
use Rattle.orc_journal_text.proofs.Coming.{may_come}
use Rattle.orc_journal_text.proofs.lines.Lines.finish.Goals as goal

pub returns-in_err-next-clause-fault : goal.returns-in_err-next-clause-fault
returns-in_err-next-clause-fault g c =
    let (y, is, from) = err_from_is_err_and c.from_residual.result c.from_residual.ensures.1 in
    let (version, (piece, p, so)) = c.loop.invariant in
    rw (is, from) (λ text es read.
    let (more, now) = so text es read in
    fault_before c.args.answers.now.names c.args.self.now.coming.left c.loop.self.coming.left text piece _ p (c.in_err-next.ensures.fault (text ++ piece) (es ++ more) now))

pub loop-preserved : goal.loop-preserved
loop-preserved g c =
    let (version, (piece, p, so)) = c.loop.invariant in
    let (next, q, reads) = c.in_ok-next.ensures.more c.if-branch.true in
    let names = c.args.answers.now.names in
    let e = c.next.new.entry in
    let l = c.next.new.self in (
      c.next.ensures.version ∙ version,
      (
        piece ++ next,
        Consumes-trans _ _ _ piece next p q,
        λ text es read.
            let (more, now) = so text es read in (
              more ++ e ∷ [],
              subst (λ (t : List ℕ). HasRead names t l (es ++ (more ++ e ∷ []))) (append_assoc text piece next)
                  (subst (λ (z : List Entry). HasRead names ((text ++ piece) ++ next) l z) (append_assoc es more (e ∷ [])) (reads (text ++ piece) (es ++ more) now)),
            ),
      ),
    )

pub returns-clause-end : goal.returns-clause-end
returns-clause-end g c =
    let (version, (piece, p, so)) = c.loop.invariant in
    let (next, may, reads) = c.in_ok-next.ensures.end c.if-branch.false in
    let names = c.args.answers.now.names in (
      piece ++ next,
      may_come _ _ piece next p may,
      λ text es read.
          let (more, now) = so text es read in (
            more,
            subst (λ (t : List ℕ). IsJournal names t (record { version = c.args.self.now.version; entries = es ++ more })) (append_assoc text piece next)
                (subst (λ (v : Version). IsJournal names ((text ++ piece) ++ next) (record { version = v; entries = es ++ more })) version (reads (text ++ piece) (es ++ more) now)),
          ),
    )
