-- The text of what happens in a run.
use Rattle.std.specs.Prelude.{ℕ, List, [], ◌∷◌, ◌++◌, Option, Some, None, Bool, true, false, cond, ◌&&◌, codes}
use Rattle.std.specs.List.{slice_get}
use Rattle.orc_rules.specs.Text.{arguments, value, value_text}
use Rattle.orc_claims.specs.declared.happening.Happening.{Happening}
use Rattle.orc_claims.specs.declared.happening.Occurrence.{Occurrence}
use Rattle.orc_claims.specs.declared.happening.Occurrence.TheVariants as what
use Rattle.orc_claims.specs.declared.happening.Phase.{Phase}
use Rattle.orc_claims.specs.declared.happening.Phase.TheVariants as phase
use Rattle.orc_ways.specs.declared.test.SiteName.{SiteName}

-- what became of a call
abbrev pub phase_text : Phase → List ℕ
phase_text phase.Called = codes " called"
phase_text (phase.Answered v) = codes " answered " ++ value_text v
phase_text phase.Halted = codes " halted"
phase_text phase.Cancelled = codes " cancelled"

-- the name of a site
abbrev pub name_of : Option SiteName → List ℕ
name_of (Some s) = s.name.now
name_of None = []

-- what happens: `Pay(7, 100) answered 2001`
abbrev pub happening_text : List SiteName → Occurrence → List ℕ
happening_text ss (what.Published v) = codes "published " ++ value_text v
happening_text ss (what.Call m args p) = name_of (slice_get ss m) ++ (arguments args ++ phase_text p)

-- a published value behind a blank
abbrev pub publication_text : Occurrence → List ℕ
publication_text (what.Published v) = value v
publication_text (what.Call m args p) = []

abbrev pub is_call : Occurrence → Bool
is_call (what.Published v) = false
is_call (what.Call m args p) = true

-- the values that are published, each behind a blank; where there is none, also before these happenings, that there is none
abbrev pub published_from : Bool → List Happening → List ℕ
published_from is_none [] = cond is_none (codes " nothing") []
published_from is_none (h ∷ hs) = publication_text h.what ++ published_from (is_none && is_call h.what) hs
