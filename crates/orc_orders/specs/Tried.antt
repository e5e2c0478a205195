-- The result of a run in some order.
use Rattle.std.specs.Prelude.{◌≡◌, ℕ, MatchResult}
use Rattle.orc_scheduler.specs.Faults.{IsOwn}
use Rattle.orc_scheduler.specs.declared.fault.EngineFault.TheVariants as fault
use Rattle.orc_engine.specs.Ranges.{IsInRange}
use Rattle.orc_outcome.specs.Outcome.{IsPlayed}
use Rattle.orc_rules.specs.Nodes.{Listing, definitions, source}
use Rattle.orc_rules.specs.Program.{IsProgram}
use Rattle.orc_rules.specs.Sites.{Table}
use Rattle.orc_orders.specs.declared.exploration.Trial.{Trial}

-- a run of the program with these sites within the limit, or a fault: Range only if the limit isn't in range, and none of the engine's own for a
-- program that the scope check accepts
abbrev pub IsTried : Listing → Table → ℕ → Trial → Type 0
IsTried l t limit trial = MatchResult trial.came (λ p. IsPlayed l t limit p.summary p.published.items p.journal)
    (λ f. (f ≡ fault.Range → IsInRange 1 limit → ⊥) × (IsOwn f → IsProgram (definitions l) (source l) → ⊥))
