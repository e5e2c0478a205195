-- What those outside see of a journal: what became of calls, and what was published, each with its time.
use Rattle.std.specs.Prelude.{ℕ, zero, suc, List, [], ◌∷◌, ◌++◌, Option, Some, None, slice_get}
use Rattle.orc_rules.specs.declared.entry.Entry.{Entry}
use Rattle.orc_rules.specs.declared.entry.Entry.TheVariants as entry
use Rattle.orc_rules.specs.declared.value.Value.{Value}
use Rattle.orc_claims.specs.declared.happening.Phase.{Phase}
use Rattle.orc_claims.specs.declared.happening.Phase.TheVariants as phase
use Rattle.orc_claims.specs.declared.happening.Occurrence.TheVariants as what
use Rattle.orc_claims.specs.declared.happening.Happening.{Happening}
use Rattle.orc_claims.specs.declared.happenings.Made.{Made}

-- What was told of a journal so far: the time, the calls that were made, and what happened. Calls are numbered from 1 in the order in which they are
-- made.
pub record Told : Type 0 where
  pub time : ℕ
  pub made : List Made
  pub happened : List Happening

-- before the first entry, at time 0
abbrev pub begin : Told
begin = record { time = 0; made = []; happened = [] }

-- the call of this number
abbrev pub made_as : ℕ → List Made → Option Made
made_as zero made = None
made_as (suc k) made = slice_get made k

-- one happening more: this became of the call; nothing changes where there is no such call
abbrev pub becomes : Told → Option Made → Phase → Told
becomes t None p = t
becomes t (Some m) p = record t { happened = t.happened ++ record { time = t.time; what = what.Call m.site m.args p } ∷ [] }

-- a call is made
abbrev pub calls : Told → ℕ → List Value → Told
calls t m args = record t { made = t.made ++ record { site = m; args = args } ∷ []; happened = t.happened ++ record { time = t.time; what = what.Call m args phase.Called } ∷ [] }

-- a value is published
abbrev pub publishes : Told → Value → Told
publishes t v = record t { happened = t.happened ++ record { time = t.time; what = what.Published v } ∷ [] }

-- one entry more
abbrev pub told : Told → Entry → Told
told t (entry.Call s k m args) = calls t m args
told t (entry.Return k a v) = becomes t (made_as k t.made) (phase.Answered v)
told t (entry.ReturnHalt k) = becomes t (made_as k t.made) phase.Halted
told t (entry.Cancel k) = becomes t (made_as k t.made) phase.Cancelled
told t (entry.Publish s v) = publishes t v
told t (entry.Tick now) = record t { time = now }
told t _ = t

-- what is told of entries behind those that were told of
abbrev pub told_all : Told → List Entry → Told
told_all t [] = t
told_all t (e ∷ es) = told_all (told t e) es

-- the happenings of a journal's entries
abbrev pub happenings : List Entry → List Happening
happenings es = (told_all begin es).happened
