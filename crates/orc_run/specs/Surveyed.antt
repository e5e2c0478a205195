-- What a survey of a source's program does.
use Rattle.std.specs.Prelude.{ℕ, List}
use Rattle.std.specs.declared.option.Option.{Option}
use Rattle.std.specs.Io.KnownBytes.{Appends}
use Rattle.orc_rules.specs.Sites.{Table}
use Rattle.orc_rules.specs.Nodes.{Listing}
use Rattle.orc_site.specs.Script.{Says}
use Rattle.orc_load.specs.Loading.{IsProgramOf}
use Rattle.orc_orders.specs.Lines.{lines}
use Rattle.orc_orders.specs.Survey.{IsSurvey}
use Rattle.orc_orders.specs.declared.seen.Seen.{Seen}
use Rattle.orc_output.specs.Output.{AppendsPrefix}
use Rattle.orc_run.specs.declared.faults.RunFault.{RunFault}
use Rattle.orc_run.specs.declared.faults.RunFault.TheVariants as fault
use Rattle.orc_run.specs.Running.{KeepsOr}

-- a fault that comes before anything is written
abbrev pub IsUnwritten : RunFault → Type 0
IsUnwritten (fault.Write w) = ⊥
IsUnwritten _ = Unit {0}

-- so many orders of the source's program, with the sites that the script says, came to these outcomes
abbrev pub CameTo : List ℕ → List ℕ → ℕ → ℕ → List Seen → Type 0
CameTo source script orders limit seen = (l : Listing) × (t : Table) × Says script t × IsProgramOf source t l × IsSurvey l t limit orders seen

-- what was written are their lines
abbrev pub HasSurveyed : List ℕ → List ℕ → ℕ → ℕ → Option (List ℕ) → Option (List ℕ) → Type 0
HasSurveyed source script orders limit old new = (seen : List Seen) × CameTo source script orders limit seen × Appends old new (lines orders seen)

-- at a fault nothing was written, or at a write fault a prefix of the lines
abbrev pub LeavesUnsurveyed : List ℕ → List ℕ → ℕ → ℕ → Option (List ℕ) → Option (List ℕ) → RunFault → Type 0
LeavesUnsurveyed source script orders limit old new = KeepsOr ((seen : List Seen) × CameTo source script orders limit seen × AppendsPrefix old new (lines orders seen)) old new
