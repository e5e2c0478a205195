-- What a search keeps of what happens.
use Rattle.std.specs.Prelude.{ℕ, ◌+◌, min, List, [], ◌∷◌, ◌++◌, length, map, Bool, true, false}
use Rattle.orc_rules.specs.declared.entry.Entry.{Entry}
use Rattle.orc_rules.specs.declared.value.Answer.{Answer}
use Rattle.orc_rules.specs.declared.value.Answer.TheVariants as answer
use Rattle.orc_rules.specs.declared.value.Value.{Value}
use Rattle.orc_claims.specs.Claims.{published as all_published}
use Rattle.orc_claims.specs.Happenings.{happenings}
use Rattle.orc_claims.specs.declared.claim.Simple.{Simple}
use Rattle.orc_claims.specs.declared.happening.Happening.{Happening as Told}
use Rattle.orc_claims.specs.declared.happening.Occurrence.{Occurrence}
use Rattle.orc_claims.specs.declared.happening.Occurrence.TheVariants as what
use Rattle.orc_claims.specs.declared.happening.Phase.{Phase}
use Rattle.orc_claims.specs.declared.happening.Phase.TheVariants as phase
use Rattle.orc_tally.specs.Sight.{number_from, renumbered}
use Rattle.orc_tally.specs.declared.sight.ClaimSite.{ClaimSite}
use Rattle.orc_search.specs.Moves.{Happening, called, answered, published, unseen}
use Rattle.orc_search.specs.States.{Sight, happens, waits}
use Rattle.orc_schedules.specs.declared.sieve.Sieve.{Sieve}
use Rattle.orc_schedules.specs.declared.sieve.Sieve.TheVariants.{Publications, Named}
use Rattle.orc_schedules.specs.Watch.{all_at, named, named_until, publications}

-- what is kept of what happens, and the latest time that is told apart
pub record Kept : Type 0 where
  pub of : Happening → List Occurrence
  pub latest : ℕ

-- what was seen on the way to a state, with its times, and the time now
pub record Past : Type 0 where
  pub happened : List Told
  pub now : ℕ

-- before anything has happened
abbrev pub nothing_yet : Past
nothing_yet = record { happened = []; now = 0 }

-- what became of a call that was answered so
abbrev pub phase_of : Answer → Phase
phase_of (answer.Value v) = phase.Answered v
phase_of answer.Halt = phase.Halted

-- this became of a call, whose site has the number that claims have for it
abbrev pub becomes : List ClaimSite → ℕ → List Value → Phase → Occurrence
becomes sites m args p = what.Call (number_from 0 sites m (length args)) args p

-- what happens, as claims see it
abbrev pub occurs : List ClaimSite → Happening → List Occurrence
occurs sites (called m args) = becomes sites m args phase.Called ∷ []
occurs sites (answered m args a) = becomes sites m args (phase_of a) ∷ []
occurs sites (published v) = what.Published v ∷ []
occurs sites unseen = []

-- what a search keeps that watches for what these name, up to this latest time
abbrev pub kept : List Simple → List ClaimSite → ℕ → Kept
kept names sites latest = record { of = λ h. named names (occurs sites h); latest = latest }

-- whether nothing is kept
abbrev pub is_nothing : List Occurrence → Bool
is_nothing [] = true
is_nothing (w ∷ ws) = false

-- whether nothing of a happening is kept
abbrev pub is_unkept : Kept → Happening → Bool
is_unkept keep h = is_nothing (keep.of h)

-- what was seen, and then this, with no time between
abbrev pub seen_now : Past → List Occurrence → Past
seen_now p ws = record { happened = p.happened ++ all_at p.now ws; now = p.now }

-- what was seen after one thing more: something happens, or time passes
abbrev pub seen_after : Kept → Past → Sight → Past
seen_after keep p (happens h) = seen_now p (keep.of h)
seen_after keep p (waits by) = record { happened = p.happened; now = min (p.now + by) keep.latest }

-- and after a whole path
abbrev pub seen_on : Kept → Past → List Sight → Past
seen_on keep p [] = p
seen_on keep p (v ∷ vs) = seen_on keep (seen_after keep p v) vs

-- what of happenings is named, by this time, with times as far as they are told apart
abbrev pub past_of : List Simple → ℕ → List Told → ℕ → Past
past_of names latest hs now = record { happened = named_until names latest hs; now = min now latest }

-- what of a journal is named, where sites have the numbers that claims have for them, and the time at its end
abbrev pub seen_of : List Simple → List ClaimSite → ℕ → List Entry → ℕ → Past
seen_of names sites latest es now = past_of names latest (happenings (map (renumbered sites) es)) now

-- what was published of it
abbrev pub values_of : Past → List Value
values_of p = all_published p.happened

-- what a sieve keeps
abbrev pub names_of : Sieve → List Simple
names_of Publications = publications
names_of (Named watch sites) = watch.now.names

-- the sites that claims name, of a sieve for a claim
abbrev pub sites_of : Sieve → List ClaimSite
sites_of Publications = []
sites_of (Named watch sites) = sites.now

-- the latest time that a sieve tells apart
abbrev pub latest_in : Sieve → ℕ
latest_in Publications = 0
latest_in (Named watch sites) = watch.now.latest

-- what a search keeps with this sieve
abbrev pub kept_by : Sieve → Kept
kept_by s = kept (names_of s) (sites_of s) (latest_in s)
