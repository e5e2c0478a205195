-- Memory that was refused.
use Rattle.std.proofs.Common.{◌≡◌, ℕ, List, Result, Ok, Err, inl}
use Rattle.std.specs.Result.{IsErrAnd}
use Rattle.orc_rules.specs.Nodes.{Listing}
use Rattle.orc_syntax.specs.Tree.{Source}
use Rattle.orc_scope.specs.declared.fault.ScopeFault.{ScopeFault}
use Rattle.orc_scope.specs.declared.fault.FaultKind.TheVariants.{Memory}
use Rattle.orc_scope.specs.Checking.{Checks}

pub refused : (sites : List (List ℕ)) (s : Source) (r : Result Listing ScopeFault) → IsErrAnd r (λ f. f.kind ≡ Memory) → Checks sites s r
refused sites s (Ok l) e = elim e [ ]
refused sites s (Err f) e = inl e
