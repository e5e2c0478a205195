-- The faults of trials.
use Rattle.std.specs.Prelude.{◌≡◌, ◌++◌, ◌∷◌, ℕ, List}
use Rattle.std.specs.List.{All}
use Rattle.orc_engine.specs.Ranges.{IsInRange}
use Rattle.orc_load.specs.Loading.{IsLoadFault, Loads}
use Rattle.orc_load.specs.declared.fault.LoadFault.{LoadFault}
use Rattle.orc_scheduler.specs.Faults.{IsOwn}
use Rattle.orc_scheduler.specs.declared.fault.EngineFault.TheVariants as engine
use Rattle.orc_orders.specs.Trials.{Tells}
use Rattle.orc_orders.specs.declared.trials.Trials.{Trials}
use Rattle.orc_orders.specs.declared.trials.TrialFault.{TrialFault}
use Rattle.orc_orders.specs.declared.trials.TrialFault.TheVariants as fault
use Rattle.orc_orders.specs.declared.ways.CaseTold.{CaseTold}

-- a fault of one way's trials: no program is loaded, for this reason; or a fault of the engine, which is never to blame itself
abbrev pub IsFaultOfWay : List ℕ → List ℕ → ℕ → TrialFault → Type 0
IsFaultOfWay source script limit (fault.Load f) = IsLoadFault source script f
IsFaultOfWay source script limit (fault.Engine f) = (f ≡ engine.Range → IsInRange 1 limit → ⊥) × (IsOwn f → ⊥)

-- the first of the scripts with which no program is loaded, for this fault: with each script before it one is
pub record IsFirstUnloaded (source : List ℕ) (scripts : List (List ℕ)) (f : LoadFault) : Type 0 where
  pub front : List (List ℕ)
  pub script : List ℕ
  pub back : List (List ℕ)
  pub place : scripts ≡ front ++ script ∷ back
  pub loaded : All (Loads source) front
  pub fault : IsLoadFault source script f

-- a fault of the trials of several ways, by their scripts
abbrev pub IsTrialFault : List ℕ → List (List ℕ) → TrialFault → Type 0
IsTrialFault source scripts (fault.Load f) = IsFirstUnloaded source scripts f
IsTrialFault source scripts (fault.Engine f) = IsOwn f → ⊥

-- for this fault the ways of these scripts, behind those that `old` has verdicts of, weren't all tried
abbrev pub Breaks : Trials → List (List ℕ) → CaseTold → TrialFault → Type 0
Breaks t scripts old f = (before : List (List ℕ)) → Tells t before old → IsTrialFault t.source.now (before ++ scripts) f
