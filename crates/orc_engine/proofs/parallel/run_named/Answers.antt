use Rattle.std.proofs.Common.{sym, subst, IfErr}
use Rattle.orc_rules.specs.Nodes.{definitions, source}
use Rattle.orc_rules.specs.Program.{IsProgram}
use Rattle.orc_scheduler.specs.Stops.{Stops}
use Rattle.orc_scheduler.specs.Faults.{IsOwn}
use Rattle.orc_scheduler.proofs.Stopping.{weaker-fault}
use Rattle.orc_engine.proofs.parallel.run_named.Goals as goal

pub returns-clause-sound : goal.returns-clause-sound
returns-clause-sound g c =
    let l = g.P.Run.listing in
    let stop = c.play-stop.result in
    let s = c.play-stop.new.scheduler.ledger in
    subst (λ p. IfErr c.finish.result (λ f. IsOwn f → IsProgram (definitions p) (source p) → ⊥)) (sym c.requires.program)
    (weaker-fault c.finish.result (λ f. IsOwn f → Stops l s stop → IsProgram (definitions l) (source l) → ⊥) (λ f. IsOwn f → IsProgram (definitions l) (source l) → ⊥) (λ f h own is. h own c.play-stop.ensures.stops is) c.finish.ensures.sound)
