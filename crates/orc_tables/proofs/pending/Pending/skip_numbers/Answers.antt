use Rattle.std.proofs.Common.{◌≤◌, ◌-◌, arith, length}
use Rattle.std.specs.Prelude.{is_ok}
use Rattle.orc_tables.proofs.Placed.{resized-got}
use Rattle.orc_tables.proofs.pending.Pending.skip_numbers.Goals as goal

pub invariant_of-self : goal.invariant_of-self
invariant_of-self c =
    let b = c.self.inside in
    let more : length b.places.items ≤ c.in-Some.len = omega (arith, c.in-Some.ensures.1, c.len.ensures) in
    (λ k d h. let w = c.self.invariant.0 k d h in (w.0, resized-got (is_ok c.resize.result) b.places.items c.resize.new.self.items c.in-Some.len _ 0 c.resize.ensures.items more (d.number - 1) k w.1), c.self.invariant.1)
