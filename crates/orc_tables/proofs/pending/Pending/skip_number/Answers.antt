use Rattle.std.proofs.Common.{◌-◌, ap, ◌∙◌, slice_get}
use Rattle.orc_tables.proofs.Placed.{more-got}
use Rattle.orc_tables.proofs.pending.Pending.skip_number.Goals as goal

pub invariant_of-self : goal.invariant_of-self
invariant_of-self c =
    let b = c.self.inside in
    (λ k d h. let w = c.self.invariant.0 k d h in (w.0, ap (λ z. slice_get z (d.number - 1)) c.push_within.ensures.items ∙ more-got b.places.items 0 (d.number - 1) k w.1), c.self.invariant.1)
