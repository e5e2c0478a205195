-- What drawing a run leaves.
use Rattle.std.proofs.Common.{ℕ, List, [], refl}
use Rattle.std.specs.declared.option.Option.{Option}
use Rattle.std.proofs.KnownBytes.{Appends-nil, Keeps-refl}
use Rattle.orc_run.specs.Drawn.{LeavesUndrawn, LeavesUndrawnRun}
use Rattle.orc_run.specs.declared.picture.Undrawn.{Undrawn}
use Rattle.orc_run.specs.declared.picture.Undrawn.TheVariants as undrawn
use Rattle.orc_run.specs.declared.faults.RunFault.TheVariants as fault

-- where nothing was written
pub undrawn_still : (old : Option (List ℕ)) (u : Undrawn) → LeavesUndrawnRun old old u
undrawn_still old (undrawn.Fault (fault.Syntax f)) = Keeps-refl old
undrawn_still old (undrawn.Fault (fault.Scope f)) = Keeps-refl old
undrawn_still old (undrawn.Fault (fault.Script f)) = Keeps-refl old
undrawn_still old (undrawn.Fault (fault.Test f)) = Keeps-refl old
undrawn_still old (undrawn.Fault (fault.Journal f)) = Keeps-refl old
undrawn_still old (undrawn.Fault (fault.Check f)) = Keeps-refl old
undrawn_still old (undrawn.Fault (fault.Engine f)) = Keeps-refl old
undrawn_still old (undrawn.Fault (fault.Write w)) = ([], ([], [], refl, Appends-nil old))
undrawn_still old undrawn.Rows = Keeps-refl old

-- where the journal of a run isn't drawn
pub undrawn_after : (source script journal : List ℕ) (old new : Option (List ℕ)) (u : Undrawn) → LeavesUndrawn source script journal old new u → LeavesUndrawnRun old new u
undrawn_after source script journal old new (undrawn.Fault (fault.Syntax f)) h = h
undrawn_after source script journal old new (undrawn.Fault (fault.Scope f)) h = h
undrawn_after source script journal old new (undrawn.Fault (fault.Script f)) h = h
undrawn_after source script journal old new (undrawn.Fault (fault.Test f)) h = h
undrawn_after source script journal old new (undrawn.Fault (fault.Journal f)) h = h
undrawn_after source script journal old new (undrawn.Fault (fault.Check f)) h = h
undrawn_after source script journal old new (undrawn.Fault (fault.Engine f)) h = h
undrawn_after source script journal old new (undrawn.Fault (fault.Write w)) h = h.1
undrawn_after source script journal old new undrawn.Rows h = h
