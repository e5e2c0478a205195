use Rattle.orc_search.specs.Successors.{moves}
use Rattle.orc_search.specs.States.{next_call}
use Rattle.orc_search.specs.Nodes.{smalls, small_at, Extends}
use Rattle.orc_search.specs.Programs.{small_definitions}
use Rattle.orc_search.specs.Asked.{coming_of_made}
use Rattle.orc_search.proofs.Walks.{IsAt}
use Rattle.orc_search.proofs.moves.successors.Given as goal

abbrev pub invariant-loop-step : goal.invariant-loop-step
invariant-loop-step l =
    let defs = small_definitions l.source.program.now in
    let ask = next_call (coming_of_made l.source.answers.now.sites l.made) in
    Extends (smalls l.fn.terms) (smalls l.terms) × IsAt defs ask (moves defs ask 0 (small_at (smalls l.fn.terms) l.root)) (smalls l.terms) l.walk l.spot l.found.items
