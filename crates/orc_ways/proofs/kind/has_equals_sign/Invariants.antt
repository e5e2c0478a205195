use Rattle.std.proofs.Common.{◌≡◌, drop}
use Rattle.orc_ways.specs.Lines.{has_equals}
use Rattle.orc_ways.specs.Values.{tokens_of}
use Rattle.orc_ways.proofs.kind.has_equals_sign.Given as goal

abbrev pub invariant-loop-token : goal.invariant-loop-token
invariant-loop-token l = has_equals (tokens_of (drop l.token-index l.tokens)) ≡ has_equals (tokens_of l.tokens)
