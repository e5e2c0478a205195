use Rattle.std.proofs.Common.{◌≡◌, ◌≤◌, ◌++◌, drop, length}
use Rattle.std.specs.Prelude.{option_map}
use Rattle.orc_rules.specs.Term.{values_of}
use Rattle.orc_search.proofs.moves.values_of.Given as goal

abbrev pub invariant-loop-param : goal.invariant-loop-param
invariant-loop-param l = (values_of l.params ≡ option_map (λ vs. l.args ++ vs) (values_of (drop l.param-index l.params))) × (length l.args ≤ l.param-index)
