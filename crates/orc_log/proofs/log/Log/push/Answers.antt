use Rattle.std.proofs.Common.{◌∷◌, [], refl, arith}
use Rattle.orc_log.proofs.Logs.{known-more}
use Rattle.orc_log.proofs.log.Log.push.Goals as goal

pub invariant_of-self-then-may_bear : goal.invariant_of-self-then-may_bear
invariant_of-self-then-may_bear g c =
    let old = c.self.invariant.1 in
    (c.self.invariant.0, known-more _ _ _ _ _ _ _ _ old c.if-self.false (c.args.entry.now ∷ []) _ 1 _ _ c.past_with_entry-self-inside.ensures refl refl (omega (arith, c.if-self-ge-MOST.false, old.few)) c.in_ok-add_published.ensures.added (λ yes. absurd (cc yes)))

pub invariant_of-self-else-may_bear : goal.invariant_of-self-else-may_bear
invariant_of-self-else-may_bear g c =
    let old = c.self.invariant.1 in
    (c.self.invariant.0, known-more _ _ _ _ _ _ _ _ old c.if-self.false (c.args.entry.now ∷ []) _ 1 _ _ c.past_with_entry-self-inside.ensures refl refl (omega (arith, c.if-self-ge-MOST.false, old.few)) c.in_ok-add_published.ensures.added (λ yes. (yes, (c.may_bear.ensures c.if-may_bear.false g.P.Run.sites, tt))))
