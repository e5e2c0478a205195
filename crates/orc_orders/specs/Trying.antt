-- How verdicts grow: by the trials of a way, and by the ways of a batch.
use Rattle.std.specs.Prelude.{◌≡◌, ◌<◌, ◌+◌, ℕ, List, Result, MatchResult, cond, length, map, slice_index_or}
use Rattle.std.specs.Global.{Vec}
use Rattle.std.specs.List.{All}
use Rattle.orc_rules.specs.Nodes.{Listing}
use Rattle.orc_rules.specs.Sites.{Table}
use Rattle.orc_claims.specs.declared.claim.Claim.{Claim}
use Rattle.orc_tally.specs.Sight.{Sight, said}
use Rattle.orc_tally.specs.Told.{joined_all, noted_all, told_of_way}
use Rattle.orc_tally.specs.declared.sight.ClaimSite.{ClaimSite}
use Rattle.orc_ways.specs.Claims.{Site}
use Rattle.orc_ways.specs.Values.{sites_of}
use Rattle.orc_orders.specs.TrialFaults.{IsFaultOfWay}
use Rattle.orc_orders.specs.Trials.{AreTrials, cut_in, is_cut, IsTrial}
use Rattle.orc_orders.specs.declared.trials.Trials.{Trials}
use Rattle.orc_orders.specs.declared.trials.TrialFault.{TrialFault}
use Rattle.orc_orders.specs.declared.trials.WayTold.{WayTold}
use Rattle.orc_orders.specs.declared.ways.Batch.{Batch}
use Rattle.orc_orders.specs.declared.ways.CaseTold.{CaseTold}
use Rattle.orc_orders.specs.declared.ways.Tried.{Tried}

-- ---- the runs of a way

-- v is w with the verdicts of the trial in one more order
pub record IsNoted (l : Listing) (t : Table) (sites : List ClaimSite) (claims : List Claim) (limit way order : ℕ) (w v : WayTold) : Type 0 where
  pub seen : Sight
  pub trial : IsTrial l t sites limit seen
  pub told : v.told.items ≡ noted_all way order w.told.items (map (λ c. said c seen) claims)
  pub cut : v.cut ≡ w.cut + cond (is_cut seen) 1 0

-- w has the verdicts of a way in the orders from 0 up to `order`
pub record IsSoFar (l : Listing) (t : Table) (sites : List ClaimSite) (claims : List Claim) (limit way order : ℕ) (w : WayTold) : Type 0 where
  pub seen : List Sight
  pub each : length seen ≡ order
  pub runs : All (IsTrial l t sites limit) seen
  pub told : w.told.items ≡ map (λ c. told_of_way c way seen) claims
  pub cut : w.cut ≡ cut_in seen

-- w has the verdicts of the way with this number and script
pub record IsToldOfWay (source : List ℕ) (sites : List Site) (claims : List Claim) (orders limit way : ℕ) (script : List ℕ) (w : WayTold) : Type 0 where
  pub seen : List Sight
  pub tried : AreTrials source sites orders limit script seen
  pub told : w.told.items ≡ map (λ c. told_of_way c way seen) claims
  pub cut : w.cut ≡ cut_in seen

-- ---- the ways that are added

-- `came` is the result of the way at this place among the scripts, which has this number
abbrev pub CameOf : Trials → List (Vec ℕ) → ℕ → ℕ → Result WayTold TrialFault → Type 0
CameOf t scripts at way came = (d : Vec ℕ) → MatchResult came
    (IsToldOfWay t.source.now (sites_of t.sites.now) t.claims.now t.orders t.limit way (slice_index_or scripts at d).items)
    (IsFaultOfWay t.source.now (slice_index_or scripts at d).items t.limit)

-- `place` has the result of the way at this place of a batch
abbrev pub IsTriedAt : Batch → ℕ → Tried → Type 0
IsTriedAt b at place = CameOf b.trials.now b.scripts.now at (b.first + at) place.came

-- at each place of a batch there is what came of its way
abbrev pub AreTried : Batch → List Tried → Type 0
AreTried b places = (at : ℕ) (d : Tried) → at < length places → IsTriedAt b at (slice_index_or places at d)

-- u is t with the verdicts of one more way added
pub record IsJoined (t : CaseTold) (w : WayTold) (u : CaseTold) : Type 0 where
  pub ways : u.ways ≡ t.ways + 1
  pub told : u.told.items ≡ joined_all t.told.items w.told.items
  pub cut : u.cut ≡ t.cut + w.cut
