-- The code of each fault of the engine, and its status.
use Rattle.std.specs.Prelude.{ℕ, List, ◌++◌, codes, decimal}
use Rattle.orc_scheduler.specs.declared.fault.EngineFault.{EngineFault}
use Rattle.orc_scheduler.specs.declared.fault.EngineFault.TheVariants as engine

abbrev pub engine_line : EngineFault → List ℕ
engine_line engine.Range = codes "E1"
engine_line engine.Memory = codes "E2"
engine_line engine.Broken = codes "E4"
engine_line (engine.Site number) = codes "E5 at call " ++ decimal number

-- 5 where memory was refused, else 7
abbrev pub engine_status : EngineFault → ℕ
engine_status engine.Memory = 5
engine_status f = 7

-- the engine is to blame itself: it found nothing to do where something was left, or took an answer that isn't the table's
abbrev pub IsOwn : EngineFault → Type 0
IsOwn engine.Broken = Unit {0}
IsOwn (engine.Site number) = Unit {0}
IsOwn f = ⊥
