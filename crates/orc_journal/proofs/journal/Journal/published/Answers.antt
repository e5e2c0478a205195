use Rattle.std.proofs.Common.{◌++◌, ap, sym, ◌∙◌, append-nil}
use Rattle.std.specs.Prelude.{option_to_list}
use Rattle.orc_journal.specs.Rows.{entry_of}
use Rattle.orc_journal.proofs.Shown.{shown-more}
use Rattle.orc_journal.proofs.journal.Journal.published.Goals as goal
use Rattle.orc_journal.proofs.journal.Journal.published.Goals.{in-Some+in_ok-push, in_default}

pub loop-row-preserved : goal.loop-row-preserved
loop-row-preserved c =
    let more = shown-more (entry_of c.self.inside.tables) c.deref-row-items.result.now c.loop-row.row-index _ c.loop-row.values.items c.loop-row-test.true c.loop-row.invariant in
    elim c.match-publication.branch [
      | in-Some+in_ok-push w ↦ ap (λ v. v.items) w.values-is ∙ w.in_ok-push.ensures.items ∙ ap (λ vs. c.loop-row.values.items ++ vs) (sym (ap option_to_list w.in-Some.is) ∙ c.publication.ensures) ∙ more
      | in_default w ↦ ap (λ v. v.items) w.values-is ∙ sym (append-nil c.loop-row.values.items) ∙ ap (λ vs. c.loop-row.values.items ++ vs) (sym (ap option_to_list w.in_default.is) ∙ c.publication.ensures) ∙ more
    ]
