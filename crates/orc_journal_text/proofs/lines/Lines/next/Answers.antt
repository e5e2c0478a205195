use Rattle.std.proofs.Common.{◌≡◌, ℕ, ◌+◌, ◌<◌, ◌≤◌, ◌++◌, List, length, sym, ap, subst, ◌∙◌, append-nil, length-append, arith}
use Rattle.std.proofs.lemmas.Result.{err_from_is_err_and}
use Rattle.std.specs.Io.KnownBytes.{Consumes}
use Rattle.orc_rules.specs.Text.{line, Fits}
use Rattle.orc_rules.specs.declared.entry.Entry.{Entry}
use Rattle.orc_journal_text.specs.declared.lines.LinesFault.{LinesFault}
use Rattle.orc_journal_text.specs.Lines.{Left, HasRead, IsLinesFault}
use Rattle.orc_journal_text.specs.Texts.{NoLine}
use Rattle.orc_journal_text.proofs.Arriving.{arrived, no_line_reached, no_line_read, too_many_read, unfilled, unfilled_then, whole_has_come}
use Rattle.orc_journal_text.proofs.Coming.{may_come}
use Rattle.orc_journal_text.proofs.Stripping.{not_empty}
use Rattle.orc_journal_text.proofs.lines.Lines.next.Goals as goal

pub returns-in_err-take_line-clause-fault : goal.returns-in_err-take_line-clause-fault
returns-in_err-take_line-clause-fault g c =
    let (y, is, from) = err_from_is_err_and c.from_residual.result c.from_residual.ensures.1 in
    let (piece, p, so) = c.loop-self.invariant in
    let (long, many) = c.in_err-take_line.ensures.fault in
    let names = c.args.answers.now.names in
    let now = c.args.self.now in
    let l = c.loop-self.self in
    rw (is, from) (λ text es read.
    subst (λ (f : LinesFault). IsLinesFault names now.coming.left text f) (sym long)
    (too_many_read names now.coming.left l.coming.left text piece l.version p (many (text ++ piece) es (arrived names text now l es piece l.coming.left so read))))

pub returns-in_err-fill-clause-fault : goal.returns-in_err-fill-clause-fault
returns-in_err-fill-clause-fault g c =
    let (y, is, from) = err_from_is_err_and c.from_residual-in_err-fill.result c.from_residual-in_err-fill.ensures.1 in
    let (piece, p, so) = c.loop-self.invariant in
    let names = c.args.answers.now.names in
    let now = c.args.self.now in
    let l = c.loop-self.self in
    let same = c.self.view_is ∙ (c.in_ok-take_line.ensures.none c.if-not-branch.true).0 in
    rw (is, from) (λ text es read.
    let came : c.self.inside.pieces.came ≡ length (text ++ piece) = ap (λ (z : Left). z.coming.came) same ∙ (arrived names text now l es piece l.coming.left so read).came in
    unfilled names now.coming.left l.coming.left text piece c.self.inside.pieces.came c.in_err-fill.field-0.0 p came c.in_err-fill.ensures.fault)

pub returns-then-not-branch-2-clause-fault : goal.returns-then-not-branch-2-clause-fault
returns-then-not-branch-2-clause-fault g c text es read =
    let (piece, p, so) = c.loop-self.invariant in
    let names = c.args.answers.now.names in
    let now = c.args.self.now in
    let l = c.loop-self.self in
    let none = c.in_ok-take_line.ensures.none c.if-not-branch.true in
    let here : Left = record { version = c.self.inside.version; coming = c.self.inside.pieces; read = c.self.inside.read; counted = c.self.inside.counted } in
    let same : ◌≡◌ {A = Left} here l = c.self.view_is ∙ none.0 in
    let (next, q, grew, some, end) = c.in_ok-fill.ensures.came in
    let (empty, over) = end c.if-not-branch-2.true in
    let may = whole_has_come now.coming.left here.coming.left c.fill.new.self.left piece next (subst (λ (z : Left). Consumes now.coming.left z.coming.left piece) (sym same) p) q empty over in
    let rest : c.rest-then-not-branch-2.result.now ≡ here.coming.rest = c.rest-then-not-branch-2.ensures ∙ ap (λ z. z.rest) grew ∙ ap (λ (t : List ℕ). here.coming.rest ++ t) empty ∙ append-nil here.coming.rest in
    subst (λ (f : LinesFault). IsLinesFault names now.coming.left text f) (sym c.line_fault-then-not-branch-2.ensures)
    (no_line_read names now.coming.left text piece here es may (subst (λ (z : Left). HasRead names (text ++ piece) z es) (sym same) (arrived names text now l es piece l.coming.left so read)) c.in_ok-fill.ensures.fits c.self.invariant.2
    (subst (λ (t : List ℕ). 0 < length t) rest (not_empty c.rest-then-not-branch-2.result.now (sym c.if-is_empty.ensures)))
    (subst (λ (z : Left). NoLine names z.version z.coming.rest) (sym same) none.1))

pub returns-clause-more : goal.returns-clause-more
returns-clause-more g c some =
    let (piece, p, so) = c.loop-self.invariant in
    let names = c.args.answers.now.names in
    let now = c.args.self.now in
    let l = c.loop-self.self in (
      piece,
      subst (λ o. Consumes now.coming.left o piece) (sym c.take_line.ensures.left) p,
      λ text es read. c.in_ok-take_line.ensures.more c.if-not-branch.false (text ++ piece) es (arrived names text now l es piece l.coming.left so read),
    )

pub returns-in_err-skip-clause-fault : goal.returns-in_err-skip-clause-fault
returns-in_err-skip-clause-fault g c =
    let (y, is, from) = err_from_is_err_and c.from_residual-in_err-skip.result c.from_residual-in_err-skip.ensures.1 in
    let (piece, p, so) = c.loop-self.invariant in
    let names = c.args.answers.now.names in
    let now = c.args.self.now in
    let l = c.loop-self.self in
    let here : Left = record { version = c.self.inside.version; coming = c.self.inside.pieces; read = c.self.inside.read; counted = c.self.inside.counted } in
    let same : ◌≡◌ {A = Left} here l = c.self.view_is ∙ (c.in_ok-take_line.ensures.none c.if-not-branch.true).0 in
    let (more, may, why) = c.in_err-skip.ensures.fault in
    let all = may_come now.coming.left here.coming.left piece more (subst (λ (z : Left). Consumes now.coming.left z.coming.left piece) (sym same) p) may in
    rw (is, from) (λ text es read.
    let came : here.coming.came ≡ length (text ++ piece) = ap (λ (z : Left). z.coming.came) same ∙ (arrived names text now l es piece l.coming.left so read).came in
    unfilled_then names now.coming.left text (piece ++ more) (here.coming.came + length more) c.in_err-skip.field-0.0 all (omega (arith, came, length-append text piece, length-append piece more, length-append text (piece ++ more))) why)

pub returns-then-is_longest-clause-fault : goal.returns-then-is_longest-clause-fault
returns-then-is_longest-clause-fault g c text es read =
    let (piece, p, so) = c.loop-self.invariant in
    let names = c.args.answers.now.names in
    let now = c.args.self.now in
    let l = c.loop-self.self in
    let none = c.in_ok-take_line.ensures.none c.if-not-branch.true in
    let here : Left = record { version = c.self.inside.version; coming = c.self.inside.pieces; read = c.self.inside.read; counted = c.self.inside.counted } in
    let same : ◌≡◌ {A = Left} here l = c.self.view_is ∙ none.0 in
    let (more, may, fits) = c.in_ok-skip.ensures.end in
    subst (λ (f : LinesFault). IsLinesFault names now.coming.left text f) (sym c.line_fault.ensures)
    (no_line_reached names now.coming.left here.coming.left text piece more here es (subst (λ (z : Left). Consumes now.coming.left z.coming.left piece) (sym same) p) may
    (subst (λ (z : Left). HasRead names (text ++ piece) z es) (sym same) (arrived names text now l es piece l.coming.left so read)) fits c.self.invariant.2
    (subst (λ (t : List ℕ). 0 < length t) c.rest.ensures (c.is_longest.ensures.some c.if-is_longest.true))
    (subst (λ (t : List ℕ). (e : Entry) → Fits names e → length (line names e) ≤ length t) c.rest.ensures (c.is_longest.ensures.longest c.if-is_longest.true))
    (subst (λ (z : Left). NoLine names z.version z.coming.rest) (sym same) none.1))
