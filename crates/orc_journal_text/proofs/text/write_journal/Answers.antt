use Rattle.std.proofs.Common.{sym, ap, ◌∙◌, arith}
use Rattle.orc_journal_text.specs.Texts.{is_of}
use Rattle.orc_journal_text.proofs.Composing.{none_past, lines_more, each_more, each_at, named_at}
use Rattle.orc_journal_text.proofs.text.write_journal.Goals as goal
use Rattle.orc_journal_text.proofs.text.write_journal.Goals.{then-read+else-not-is_written+in_ok-write_entry, else-read}

pub returns-then-not-is_written-clause-lacking : goal.returns-then-not-is_written-clause-lacking
returns-then-not-is_written-clause-lacking c _ are =
    let e = c.read.new.entry in
    let at = each_at c.args.answers.now.names c.args.journal.now.version c.args.journal.now.entries c.loop-at.at e (c.read.ensures.read c.if-read.true) are in
    c.is_written.ensures.other c.if-not-is_written.true at.0 (ap (λ v. is_of v e) c.version-then-read.ensures ∙ at.1)

pub returns-then-not-is_written-clause-unnamed : goal.returns-then-not-is_written-clause-unnamed
returns-then-not-is_written-clause-unnamed c _ two are =
    let e = c.read.new.entry in
    let named = named_at c.args.answers.now.names c.args.journal.now.entries c.loop-at.at e (c.read.ensures.read c.if-read.true) are in
    c.is_written.ensures.unnamed c.if-not-is_written.true named (ap (λ v. is_of v e) (c.version-then-read.ensures ∙ two))

pub loop-at-preserved : goal.loop-at-preserved
loop-at-preserved c =
    let names = c.args.answers.now.names in
    let v = c.args.journal.now.version in
    let es = c.args.journal.now.entries in
    let i = c.loop-at.at in
    let e = c.read.new.entry in
    elim c.if-read.branch [
      | then-read+else-not-is_written+in_ok-write_entry w ↦
          let is = c.read.ensures.read w.if-read.true in
          let fits = w.is_written.ensures.fits w.if-not-is_written.false in (
            ap (λ o. o.items) w.out-is ∙ lines_more names c.loop-at.out.items w.write_entry.new.out.items c.write_header.new.out.items es i e is c.loop-at.invariant.0 w.in_ok-write_entry.ensures,
            each_more names v es i e is c.loop-at.invariant.1 fits.0 (ap (λ u. is_of u e) (sym w.version-then-read.ensures) ∙ fits.1),
          )
      | else-read w ↦ absurd (none_past es i (c.read.ensures.none w.if-read.false) (omega (arith, c.loop-at-test.true, c.len-at-end.ensures)))
    ]
