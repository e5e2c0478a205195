-- The states that a program can reach, with what was seen on the way, and the ends of its runs.
use Rattle.std.specs.Prelude.{◌≡◌, ◌<◌, ◌^◌, ℕ, List, [], Some, slice_get}
use Rattle.orc_rules.specs.declared.value.Value.{Value}
use Rattle.orc_rules.specs.Nodes.{Listing, source}
use Rattle.orc_rules.specs.Sites.{Table}
use Rattle.orc_rules.specs.Timed.{IsIn}
use Rattle.orc_rules.specs.Trace.{published}
use Rattle.orc_claims.specs.declared.claim.Simple.{Simple}
use Rattle.orc_tally.specs.declared.sight.ClaimSite.{ClaimSite}
use Rattle.orc_outcome.specs.Outcome.{Outcome, IsRun}
use Rattle.orc_outcome.specs.declared.end.End.{End}
use Rattle.orc_outcome.specs.declared.end.End.TheVariants.{Halted, Quiet, Limit, Full, Memory}
use Rattle.orc_search.specs.Graphs.{Ending, halted, quiet}
use Rattle.orc_search.specs.Programs.{small}
use Rattle.orc_search.specs.States.{State}
use Rattle.orc_search.specs.Asked.{coming_of_made}
use Rattle.orc_schedules.specs.declared.ended.Ended.{Ended}
use Rattle.orc_schedules.specs.Seen.{Past, seen_of}

-- a state, and what was seen on the way to it
abbrev pub Reached : Type 0
Reached = State × Past

-- a program's state before anything has happened
abbrev pub first : Listing → Table → State
first l t = record { term = small (source l); coming = coming_of_made t.sites [] }

-- nothing can happen any more
abbrev pub HasEnded : End → Type 0
HasEnded Halted = Unit {0}
HasEnded Quiet = Unit {0}
HasEnded Limit = ⊥
HasEnded Full = ⊥
HasEnded Memory = ⊥

-- how a run ended, and what was seen of it
abbrev pub EndSeen : Type 0
EndSeen = End × Past

-- each run of the program with these sites within the limit that has ended is among them, with what of it is named, and ended before the time 2^64
abbrev pub AreAllSeen : Listing → Table → List Simple → List ClaimSite → ℕ → ℕ → List EndSeen → Type 0
AreAllSeen l t names sites latest limit os = (o : Outcome) → IsRun l t limit o → HasEnded o.end → IsIn {X = EndSeen} (o.end, seen_of names sites latest o.journal o.now) os × (o.now < 2 ^ 64)

-- a run that ended so, with these values published, is among them
abbrev pub IsAmong : List Ended → End → List Value → Type 0
IsAmong es end vs = (k : ℕ) × (e : Ended) × (slice_get es k ≡ Some e) × (e.end ≡ end) × (e.values.items ≡ vs)

-- each run of the program with these sites within the limit that has ended is among them
abbrev pub AreAll : Listing → Table → ℕ → List Ended → Type 0
AreAll l t limit es = (o : Outcome) → IsRun l t limit o → HasEnded o.end → IsAmong es o.end (published o.journal)

-- an end of a state as one of a run
abbrev pub end_of : Ending → End
end_of halted = Halted
end_of quiet = Quiet
