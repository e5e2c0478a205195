use Rattle.std.proofs.Common.{◌≡◌, ◌++◌, ◌∷◌, [], ap, ◌∙◌, subst, sym, rules}
use Rattle.orc_rules.specs.Trace.{published}
use Rattle.orc_journal.specs.Written.{Written}
use Rattle.orc_reference.specs.Stories.{Story, IsStory}
use Rattle.orc_reference.proofs.Stories.{grows}
use Rattle.orc_reference.proofs.history.History.record.Goals as goal

pub returns-clause-grows : goal.returns-clause-grows
returns-clause-grows c = λ es p told.
    let was = c.self.inside in
    let old : Story = record { marked = was.marked; published = was.published.items; journal = was.journal } in
    let new : Story = record { marked = c.step.new.self; published = c.note.new.values.items; journal = c.push.new.self } in
    let added : ◌≡◌ {A = Written} c.push.new.self (record { version = was.journal.version; entries = was.journal.entries ++ c.args.entry.now ∷ [] }) = search rules in
    grows c.args.program.now c.args.answers.now old new c.args.entry.now c.in_default.ensures.done
    (c.note.ensures ∙ ap (λ vs. vs ++ published (c.args.entry.now ∷ [])) c.try_reserve.ensures.items) added es p
    (subst (λ (s : Story). IsStory c.args.program.now c.args.answers.now s es p) (sym c.self.view_is) told)
