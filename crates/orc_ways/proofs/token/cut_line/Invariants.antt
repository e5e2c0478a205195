use Rattle.std.proofs.Common.{◌≡◌, ◌≤◌, ◌-◌, length}
use Rattle.orc_ways.proofs.Cutting.{with_tokens}
use Rattle.orc_ways.specs.Tokens.{cut, cut_by}
use Rattle.orc_ways.specs.Values.{tokens_of}
use Rattle.orc_ways.proofs.token.cut_line.Given as goal

abbrev pub invariant-loop : goal.invariant-loop
invariant-loop l = record {
  few : length l.tokens.items ≤ l.counter;
  so_far : with_tokens (tokens_of l.tokens.items) (cut_by (length l.line - l.counter) l.rest) ≡ cut l.line;
}
