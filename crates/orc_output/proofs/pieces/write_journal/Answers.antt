use Rattle.std.proofs.Common.{◌≡◌, ◌+◌, ◌++◌, List, ℕ, sym, subst, refl, ◌∙◌, rules}
use Rattle.std.specs.Io.KnownBytes.{Appends}
use Rattle.orc_rules.specs.Text.{line}
use Rattle.orc_journal.specs.declared.journal.Version.TheVariants.{Two}
use Rattle.orc_journal_text.specs.Texts.{journal_text}
use Rattle.orc_journal_text.proofs.Composing.{each_more}
use Rattle.orc_output.specs.Output.{AppendsPrefix}
use Rattle.orc_output.proofs.Parted.{IsPart, line_more, written, faulted, cut, on_err}
use Rattle.orc_output.proofs.pieces.write_journal.Goals as goal
use Rattle.orc_output.proofs.pieces.write_journal.Goals.{then-len-ge-PIECE+in_ok-write_text, else-len-ge-PIECE}

pub returns-then-not-has_line-clause-err : goal.returns-then-not-has_line-clause-err
returns-then-not-has_line-clause-err g c = faulted c.args.answers.now.names c.args.journal.now (g.W.Write.contents c.args.out.now) (g.W.Write.contents c.loop-at.out) c.loop-at.piece.items c.loop-at.at c.loop-at.invariant.0

pub returns-then-is_err-2-clause-err : goal.returns-then-is_err-2-clause-err
returns-then-is_err-2-clause-err g c = faulted c.args.answers.now.names c.args.journal.now (g.W.Write.contents c.args.out.now) (g.W.Write.contents c.loop-at.out) c.loop-at.piece.items c.loop-at.at c.loop-at.invariant.0

pub returns-in_err-write_text-clause-err : goal.returns-in_err-write_text-clause-err
returns-in_err-write_text-clause-err g c =
    let names = c.args.answers.now.names in
    let j = c.args.journal.now in
    let old = g.W.Write.contents c.args.out.now in
    let mid = g.W.Write.contents c.loop-at.out in
    let now = g.W.Write.contents c.write_text.new.out in
    let grown : c.write_entry.new.out.items ≡ c.loop-at.piece.items ++ line names c.read.new.entry = search rules in
    let part : IsPart names j old mid c.write_entry.new.out.items (c.loop-at.at + 1) = line_more names j old mid c.loop-at.piece.items c.write_entry.new.out.items c.loop-at.at c.read.new.entry c.loop-at.invariant.0 (c.read.ensures.read c.if-not-read.false) grown in
    let taken : AppendsPrefix mid now c.write_entry.new.out.items = subst (λ (t : List ℕ). AppendsPrefix mid now t) c.as_slice.ensures.value c.in_err-write_text.ensures.err in
    let left : AppendsPrefix old now (journal_text names j) = cut names j old mid now c.write_entry.new.out.items (c.loop-at.at + 1) part taken in
    search (rules, left)

pub loop-at-preserved : goal.loop-at-preserved
loop-at-preserved g c =
    let names = c.args.answers.now.names in
    let j = c.args.journal.now in
    let old = g.W.Write.contents c.args.out.now in
    let mid = g.W.Write.contents c.loop-at.out in
    let i = c.loop-at.at in
    let e = c.read.new.entry in
    let here = c.read.ensures.read c.if-not-read.false in
    let grown : c.write_entry.new.out.items ≡ c.loop-at.piece.items ++ line names e = search rules in
    let part : IsPart names j old mid c.write_entry.new.out.items (i + 1) = line_more names j old mid c.loop-at.piece.items c.write_entry.new.out.items i e c.loop-at.invariant.0 here grown in
    let each = each_more names Two j.entries i e here c.loop-at.invariant.1 (c.has_line.ensures.fits c.if-not-has_line.false) refl in
    elim c.if-len-ge-PIECE.branch [
      | then-len-ge-PIECE+in_ok-write_text w ↦ (
        subst (λ o. IsPart names j old (g.W.Write.contents o) c.if-len-ge-PIECE.piece.items (i + 1)) (sym w.out-is)
            (subst (λ p. IsPart names j old (g.W.Write.contents w.write_text.new.out) p.items (i + 1)) (sym w.piece-is)
            (written names j old mid (g.W.Write.contents w.write_text.new.out) c.write_entry.new.out.items w.clear.new.self.items (i + 1) part
            (subst (λ (t : List ℕ). Appends mid (g.W.Write.contents w.write_text.new.out) t) w.as_slice.ensures.value w.in_ok-write_text.ensures.ok) w.clear.ensures.items)),
        each,
      )
      | else-len-ge-PIECE w ↦ (
        subst (λ o. IsPart names j old (g.W.Write.contents o) c.if-len-ge-PIECE.piece.items (i + 1)) (sym w.out-is)
            (subst (λ p. IsPart names j old mid p.items (i + 1)) (sym w.piece-is) part),
        each,
      )
    ]

pub returns-clause-err : goal.returns-clause-err
returns-clause-err g c =
    let names = c.args.answers.now.names in
    let j = c.args.journal.now in
    let old = g.W.Write.contents c.args.out.now in
    let mid = g.W.Write.contents c.loop-at.out in
    let now = g.W.Write.contents c.write_text-2.new.out in
    on_err c.write_text-2.result (λ taken. cut names j old mid now c.loop-at.piece.items c.loop-at.at c.loop-at.invariant.0 (subst (λ (t : List ℕ). AppendsPrefix mid now t) c.as_slice-2.ensures.value taken)) c.write_text-2.ensures.err
