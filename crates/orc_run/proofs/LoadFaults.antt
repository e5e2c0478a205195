-- Faults of a source and of its script are faults of its run, of its check and of its drawing.
use Rattle.std.proofs.Common.{ℕ, List, [], refl}
use Rattle.std.specs.declared.option.Option.{Option}
use Rattle.std.proofs.KnownBytes.{Appends-nil, Keeps-refl}
use Rattle.orc_rules.specs.declared.entry.State.{State}
use Rattle.orc_journal.specs.Written.{Written}
use Rattle.orc_load.specs.Loading.{IsLoadFault}
use Rattle.orc_load.specs.declared.fault.LoadFault.{LoadFault}
use Rattle.orc_load.specs.declared.fault.LoadFault.TheVariants as load
use Rattle.orc_run.specs.Running.{of_load}
use Rattle.orc_journal_text.specs.Pieces.{MayCome}
use Rattle.orc_journal_text.proofs.Coming.{some_may_come}
use Rattle.orc_run.specs.Checked.{IsBeyond, IsCheckFault, IsJudged, IsOfRun, IsRefusal, IsUnchecked, IsUnjudged}
use Rattle.orc_run.specs.declared.judge.Unchecked.{Unchecked}
use Rattle.orc_run.specs.declared.judge.Unchecked.TheVariants.{Fault, Unread}
use Rattle.orc_run.specs.Claimed.{IsBeyondClaims, IsUnreadTest}
use Rattle.orc_run.specs.Commands.{MayBeUntaken}
use Rattle.orc_run.specs.declared.failures.Failure.TheVariants as failure
use Rattle.orc_run.specs.Drawn.{IsBeyondDrawing, IsUndrawable, LeavesUndrawn}
use Rattle.orc_run.specs.declared.picture.Undrawn.{Undrawn}
use Rattle.orc_run.specs.declared.picture.Undrawn.TheVariants as undrawn
use Rattle.orc_outcome.specs.declared.end.Summary.{Summary}
use Rattle.orc_run.specs.declared.faults.RunFault.{RunFault}
use Rattle.orc_run.specs.declared.faults.RunFault.TheVariants as fault
use Rattle.orc_run.proofs.Accepting.{names_beyond, script_beyond, syntax_beyond}

pub of_check : (source script journal : List ℕ) (f : LoadFault) → IsLoadFault source script f → IsRefusal source script journal (of_load f)
of_check source script journal (load.Syntax f) h = h
of_check source script journal (load.Script f) h = h
of_check source script journal (load.Scope f) h = h

pub refused : (source script journal : List ℕ) (f : RunFault) → IsRefusal source script journal f → IsCheckFault source script journal f
refused source script journal (fault.Syntax f) h = h
refused source script journal (fault.Scope f) h = h
refused source script journal (fault.Script f) h = h
refused source script journal (fault.Test f) h = absurd h
refused source script journal (fault.Journal f) h = h
refused source script journal (fault.Check f) h = h
refused source script journal (fault.Engine f) h = h
refused source script journal (fault.Write w) h = tt

-- ---- a journal that is read piece by piece

pub of_pieces : (source script : List ℕ) (left : Option (List ℕ)) (f : LoadFault) → IsLoadFault source script f → (text : List ℕ) × MayCome left text × IsUnjudged source script text (Fault (of_load f))
of_pieces source script left f h =
    let (bytes, may) = some_may_come left in
    (bytes, may, of_check source script bytes f h)

pub unread : (source script text : List ℕ) (f : Unchecked) → IsUnjudged source script text f → IsUnchecked source script text f
unread source script text (Fault f) h = refused source script text f h
unread source script text Unread h = h

-- a journal that the check accepts and that isn't drawn leaves the output as it was
pub undrawable_left : (source script journal : List ℕ) (out : Option (List ℕ)) (j : Written) (state : State) → IsJudged source script journal j state → (u : Undrawn) → IsUndrawable u → LeavesUndrawn source script journal out out u
undrawable_left source script journal out j state is (undrawn.Fault (fault.Write w)) h = ((j, state, is), ([], ([], [], refl, Appends-nil _)))
undrawable_left source script journal out j state is undrawn.Rows h = Keeps-refl _
undrawable_left source script journal out j state is (undrawn.Fault (fault.Syntax f)) h = absurd h
undrawable_left source script journal out j state is (undrawn.Fault (fault.Scope f)) h = absurd h
undrawable_left source script journal out j state is (undrawn.Fault (fault.Script f)) h = absurd h
undrawable_left source script journal out j state is (undrawn.Fault (fault.Test f)) h = absurd h
undrawable_left source script journal out j state is (undrawn.Fault (fault.Journal f)) h = absurd h
undrawable_left source script journal out j state is (undrawn.Fault (fault.Check f)) h = absurd h
undrawable_left source script journal out j state is (undrawn.Fault (fault.Engine f)) h = absurd h

pub beyond : (source script journal : List ℕ) (s : Summary) (f : LoadFault) → IsOfRun source script journal s → IsLoadFault source script f → IsBeyond (of_load f)
beyond source script journal s (load.Syntax f) of h =
    let (options, kept, run) = of in
    let (l, t, said, (z, spelt, checked), told) = run in
    syntax_beyond source z f spelt h
beyond source script journal s (load.Script f) of h =
    let (options, kept, run) = of in
    let (l, t, said, program, told) = run in
    script_beyond script t f said h.1
beyond source script journal s (load.Scope f) of (r, u, spells, says, blamed) = names_beyond source script journal s u r f of says spells blamed

-- and is beyond a limit, if a run wrote it
pub undrawable_beyond : (u : Undrawn) → IsUndrawable u → IsBeyondDrawing u
undrawable_beyond (undrawn.Fault (fault.Write w)) h = tt
undrawable_beyond undrawn.Rows h = tt
undrawable_beyond (undrawn.Fault (fault.Syntax f)) h = absurd h
undrawable_beyond (undrawn.Fault (fault.Scope f)) h = absurd h
undrawable_beyond (undrawn.Fault (fault.Script f)) h = absurd h
undrawable_beyond (undrawn.Fault (fault.Test f)) h = absurd h
undrawable_beyond (undrawn.Fault (fault.Journal f)) h = absurd h
undrawable_beyond (undrawn.Fault (fault.Check f)) h = absurd h
undrawable_beyond (undrawn.Fault (fault.Engine f)) h = absurd h

-- why a test isn't read
pub unread_beyond : (source text script journal : List ℕ) (s : Summary) (f : RunFault) → IsOfRun source script journal s → IsUnreadTest source text script f → IsBeyondClaims f
unread_beyond source text script journal s (fault.Syntax f) of h = beyond source script journal s (load.Syntax f) of h
unread_beyond source text script journal s (fault.Script f) of h = beyond source script journal s (load.Script f) of h
unread_beyond source text script journal s (fault.Test f) of h = tt
unread_beyond source text script journal s (fault.Scope f) of h = absurd h
unread_beyond source text script journal s (fault.Journal f) of h = absurd h
unread_beyond source text script journal s (fault.Check f) of h = absurd h
unread_beyond source text script journal s (fault.Engine f) of h = absurd h
unread_beyond source text script journal s (fault.Write w) of h = absurd h

-- why a journal isn't judged
pub refused_beyond : (f : RunFault) → IsBeyond f → IsBeyondClaims f
refused_beyond (fault.Syntax f) h = h
refused_beyond (fault.Scope f) h = h
refused_beyond (fault.Script f) h = h
refused_beyond (fault.Test f) h = tt
refused_beyond (fault.Journal f) h = h
refused_beyond (fault.Check f) h = h
refused_beyond (fault.Engine f) h = h
refused_beyond (fault.Write w) h = h

-- it may be so of a command, too
pub claims_untaken : (f : RunFault) → IsBeyondClaims f → MayBeUntaken (failure.Fault f)
claims_untaken (fault.Syntax f) h = h
claims_untaken (fault.Scope f) h = h
claims_untaken (fault.Script f) h = h
claims_untaken (fault.Test f) h = tt
claims_untaken (fault.Journal f) h = h
claims_untaken (fault.Check f) h = h
claims_untaken (fault.Engine f) h = h
claims_untaken (fault.Write w) h = h

pub drawing_untaken : (f : RunFault) → IsBeyondDrawing (undrawn.Fault f) → MayBeUntaken (failure.Fault f)
drawing_untaken f h = claims_untaken f (refused_beyond f h)
