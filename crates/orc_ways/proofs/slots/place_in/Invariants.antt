use Rattle.std.proofs.Common.{◌≡◌, ◌+◌, drop}
use Rattle.std.specs.Prelude.{option_map}
use Rattle.orc_ways.specs.Claims.{place_of}
use Rattle.orc_ways.specs.Values.{tokens_of}
use Rattle.orc_ways.proofs.slots.place_in.Given as goal

abbrev pub invariant-loop-at : goal.invariant-loop-at
invariant-loop-at l = option_map (λ k. l.at + k) (place_of l.word (tokens_of (drop l.at l.line))) ≡ place_of l.word (tokens_of l.line)
