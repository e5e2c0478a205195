use Rattle.std.proofs.Common.{sym, ◌∙◌, arith}
use Rattle.orc_journal_text.proofs.Composing.{none_past}
use Rattle.orc_journal.specs.Sizes.{brings, feeds, opens}
use Rattle.orc_scheduler.proofs.Reading.{total-more}
use Rattle.orc_scheduler.proofs.sizes.sizes_of.Goals as goal
use Rattle.orc_scheduler.proofs.sizes.sizes_of.Goals.{in-Some, in_default}

pub loop-at-preserved : goal.loop-at-preserved
loop-at-preserved c =
    let es = c.args.journal.now.entries in
    let i = c.loop-at.at in
    let so_far = c.loop-at.invariant in
    elim c.match-get.branch [
      | in-Some w ↦
          let e = w.in-Some.entry in
          let is = sym c.get.ensures ∙ w.in-Some.is in (
            (omega (arith, w.brought-is, w.brings-brought.ensures.brings, total-more brings es i e is, so_far.0.0), omega (arith, w.brought-is, w.brings-brought.ensures.one, so_far.0.1)),
            (omega (arith, w.opened-is, w.opens-opened.ensures.opens, total-more opens es i e is, so_far.1.0), omega (arith, w.opened-is, w.opens-opened.ensures.one, so_far.1.1)),
            (omega (arith, w.fed-is, w.feeds-fed.ensures.feeds, total-more feeds es i e is, so_far.2.0), omega (arith, w.fed-is, w.feeds-fed.ensures.one, so_far.2.1)),
          )
      | in_default w ↦ absurd (none_past es i (sym c.get.ensures ∙ w.in_default.is) (omega (arith, c.loop-at-test.true, c.len-at-end.ensures)))
    ]
