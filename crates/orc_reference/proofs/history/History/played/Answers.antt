use Rattle.std.proofs.Common.{◌≤◌, ◌∙◌, ap, length, subst, sym, refl}
use Rattle.orc_journal.specs.Written.{Written}
use Rattle.orc_outcome.specs.Outcome.{context}
use Rattle.orc_reference.specs.Stories.{Story, IsStory}
use Rattle.orc_reference.proofs.history.History.played.Goals as goal

-- what is kept of a run tells of the journal that leads there
pub returns-clause-played : goal.returns-clause-played
returns-clause-played c l t limit ended =
    let reached = ended.reached in
    let place = reached.place in
    let told = subst (λ (s : Story). IsStory l t s reached.journal place) (sym c.self.view_is) reached.told in
    record {
      outcome = record { journal = reached.journal; end = c.args.end; now = place.now };
      is_run = record { place = place; leads = told.leads; ends = ended.ends; paid = reached.paid; now = refl; within = subst (λ n. n ≤ limit) (sym reached.turns_are) ended.within };
      tells = record { end = refl; entries = c.len.ensures ∙ ap (λ (j : Written). length j.entries) told.entries; now = c.now.ensures (context l t) l place told.spells; published = c.len-2.ensures ∙ (c.self.inside.published.ok.0 ∙ ap length told.values) };
      shows = told.values;
      is_its = told.entries;
    }
