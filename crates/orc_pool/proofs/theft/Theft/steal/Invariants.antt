use Rattle.std.proofs.Common.{◌≡◌}
use Rattle.orc_pool.specs.Words.{theft_view}
use Rattle.orc_pool.proofs.theft.Theft.steal.Given as goal

abbrev pub invariant-loop : goal.invariant-loop
invariant-loop g l = theft_view l.self ≡ theft_view l.fn.self
