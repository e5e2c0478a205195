-- The trials of a test: its program's runs in many ways, each in many orders, and the verdicts on claims in them.
use Rattle.std.specs.Prelude.{◌≡◌, ◌≢◌, ◌-◌, ◌^◌, ◌++◌, ℕ, List, Option, Some, None, Bool, true, false, length, map}
use Rattle.std.specs.Global.{Vec}
use Rattle.std.specs.List.{All, AllZip, count_by, sum_by}
use Rattle.orc_rules.specs.Nodes.{Listing}
use Rattle.orc_rules.specs.Sites.{Table, site_named}
use Rattle.orc_rules.specs.declared.entry.State.{State}
use Rattle.orc_rules.specs.declared.entry.State.TheVariants as states
use Rattle.orc_rules.specs.declared.value.Value.{Value}
use Rattle.orc_journal.specs.Written.{Written}
use Rattle.orc_site.specs.Script.{Says}
use Rattle.orc_load.specs.Loading.{IsProgramOf}
use Rattle.orc_claims.specs.Happenings.{begin, told_all}
use Rattle.orc_claims.specs.declared.claim.Claim.{Claim}
use Rattle.orc_outcome.specs.Outcome.{IsPlayed}
use Rattle.orc_outcome.specs.declared.end.End.{End}
use Rattle.orc_outcome.specs.declared.end.End.TheVariants as ends
use Rattle.orc_outcome.specs.declared.end.Summary.{Summary}
use Rattle.orc_tally.specs.Sight.{Sight, renumbered, sight}
use Rattle.orc_tally.specs.Told.{told}
use Rattle.orc_tally.specs.declared.sight.ClaimSite.{ClaimSite}
use Rattle.orc_ways.specs.Claims.{Site}
use Rattle.orc_ways.specs.Values.{sites_of}
use Rattle.orc_orders.specs.declared.trials.Run.{Run}
use Rattle.orc_orders.specs.declared.trials.Trials.{Trials}
use Rattle.orc_orders.specs.declared.ways.CaseTold.{CaseTold}

-- the number of a site, or if there is none a number that no site has, since a table has fewer
abbrev pub number_or_none : Option ℕ → ℕ
number_or_none (Some n) = n
number_or_none None = 2 ^ 32 - 1

-- a site that claims name, by its number in the table
abbrev pub claim_site : Table → Site → ClaimSite
claim_site t s = record { site = number_or_none (site_named t.names s.name); arguments = s.arguments }

abbrev pub claim_sites : Table → List Site → List ClaimSite
claim_sites t ss = map (claim_site t) ss

-- where a run stands at its end: one that was cut still runs
abbrev pub state_at : End → State
state_at ends.Halted = states.Halted
state_at ends.Quiet = states.Quiet
state_at _ = states.Running

-- `seen` is what claims see of some run of the program with these sites, within the limit, that didn't end for refused memory
abbrev pub IsTrial : Listing → Table → List ClaimSite → ℕ → Sight → Type 0
IsTrial l t sites limit seen = (s : Summary) × (values : List Value) × (j : Written) × IsPlayed l t limit s values (Some j) × (s.end ≢ ends.Memory) × (seen ≡ sight sites j.entries (state_at s.end) s.now)

-- `seen` is what claims see of the program of this source in the way of this script: of one run in each of so many orders
pub record AreTrials (source : List ℕ) (sites : List Site) (orders limit : ℕ) (script : List ℕ) (seen : List Sight) : Type 0 where
  pub table : Table
  pub says : Says script table
  pub listing : Listing
  pub spells : IsProgramOf source table listing
  pub each : length seen ≡ orders
  pub runs : All (IsTrial listing table (claim_sites table sites) limit) seen

-- whether a run was cut
abbrev pub is_running : State → Bool
is_running states.Running = true
is_running _ = false

-- whether what claims see is of a run that was cut
abbrev pub is_cut : Sight → Bool
is_cut s = is_running s.state

-- how many runs of a way were cut
abbrev pub cut_in : List Sight → ℕ
cut_in seen = count_by is_cut seen

-- t has the verdicts on the claims in the ways of these scripts: there are trials of each way, and the verdicts are those on these trials
pub record AreTold (source : List ℕ) (sites : List Site) (claims : List Claim) (orders limit : ℕ) (scripts : List (List ℕ)) (t : CaseTold) : Type 0 where
  pub trials : List (List Sight)
  pub tried : AllZip (AreTrials source sites orders limit) scripts trials
  pub ways : t.ways ≡ length scripts
  pub told : t.told.items ≡ map (λ c. told c trials) claims
  pub cut : t.cut ≡ sum_by cut_in trials

-- the scripts as they are held
abbrev pub texts : List (Vec ℕ) → List (List ℕ)
texts scripts = map (λ s. s.items) scripts

-- c has the verdicts on the claims that these trials try, in the ways of these scripts
abbrev pub Tells : Trials → List (List ℕ) → CaseTold → Type 0
Tells t scripts c = AreTold t.source.now (sites_of t.sites.now) t.claims.now t.orders t.limit scripts c

-- if `old` has the verdicts of some ways, `new` has those of these and of the ways of these scripts
abbrev pub Adds : Trials → List (List ℕ) → CaseTold → CaseTold → Type 0
Adds t scripts old new = (before : List (List ℕ)) → Tells t before old → Tells t (before ++ scripts) new

-- ---- a run that is made again

-- the run is one of the program with these sites, within the limit, and didn't end for refused memory; its journal is kept, and its happenings name
-- sites by the numbers that claims have for them
pub record IsMade (l : Listing) (t : Table) (sites : List ClaimSite) (limit : ℕ) (r : Run) : Type 0 where
  pub journal : Written
  pub kept : r.played.journal ≡ Some journal
  pub played : IsPlayed l t limit r.played.summary r.played.published.items r.played.journal
  pub whole : r.played.summary.end ≢ ends.Memory
  pub happenings : r.happenings ≡ told_all begin (map (renumbered sites) journal.entries)

-- the run is one of the program of this source in the way of this script
pub record IsMadeAgain (source : List ℕ) (sites : List Site) (limit : ℕ) (script : List ℕ) (r : Run) : Type 0 where
  pub table : Table
  pub says : Says script table
  pub listing : Listing
  pub spells : IsProgramOf source table listing
  pub made : IsMade listing table (claim_sites table sites) limit r
