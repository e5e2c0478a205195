use Rattle.std.proofs.Common.{◌≡◌, refl, sym, ap, subst, ◌∙◌, length, arith}
use Rattle.orc_outcome.specs.Outcome.{context, EndsAt}
use Rattle.orc_ledger_spec.specs.Whole.{IsWhole}
use Rattle.orc_scheduler.proofs.summary.played.Goals as goal

pub returns-clause-played : goal.returns-clause-played
returns-clause-played g c =
    let l = g.P.Run.listing in
    let t = c.args.inputs.now.answers.now in
    let s = c.args.ledger in
    let whole : IsWhole l t.sites s = subst (λ z. IsWhole l z s) (sym c.args.inputs.now.its_sites) c.is_whole.ensures in
    let limit : s.limit ≡ g.P.Run.limit = c.keeps_limit.ensures in
    record {
      outcome = record { journal = s.journal; end = c.args.end; now = c.time-now.result };
      is_run = record {
        place = whole.place;
        leads = whole.leads;
        ends = subst (λ n. EndsAt (context l t) n s.journal whole.place c.args.end) limit (c.requires.ended whole.place whole.leads);
        paid = whole.paid;
        now = c.time-now.ensures ∙ sym whole.now;
        within = omega (arith, whole.entries, whole.within, limit);
      };
      tells = record { end = refl; entries = c.journal_len-entries.ensures; now = refl; published = c.len.ensures ∙ c.in_ok-published.published.ok.0 ∙ ap length c.in_ok-published.ensures.published };
      shows = c.in_ok-published.ensures.published;
      is_its = c.in_ok-published.ensures.journal;
    }
