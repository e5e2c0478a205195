use Rattle.std.proofs.Common.{◌≡◌}
use Rattle.orc_book.proofs.kept_tokens.Keeping.keep.Given as goal

abbrev pub invariant-loop-cell : goal.invariant-loop-cell
invariant-loop-cell l = l.self ≡ l.initial.self
