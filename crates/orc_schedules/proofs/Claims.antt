-- What a search says of a claim.
use Rattle.std.proofs.Common.{◌≡◌, ◌<◌, ◌*◌, ◌^◌, ℕ, suc, min, List, [], ◌∷◌, length, map, Bool, true, false, refl, sym, ap, ◌∙◌}
use Rattle.orc_rules.specs.Nodes.{Listing}
use Rattle.orc_rules.specs.Sites.{Table}
use Rattle.orc_rules.specs.Timed.{IsIn}
use Rattle.orc_claims.specs.Claims.{holds}
use Rattle.orc_claims.specs.Happenings.{happenings}
use Rattle.orc_claims.specs.declared.claim.Claim.{Claim}
use Rattle.orc_claims.specs.declared.claim.Simple.{Simple}
use Rattle.orc_claims.specs.declared.happening.Happening.{Happening}
use Rattle.orc_tally.specs.Sight.{renumbered}
use Rattle.orc_tally.specs.declared.sight.ClaimSite.{ClaimSite}
use Rattle.orc_outcome.specs.Outcome.{Outcome, IsRun}
use Rattle.orc_schedules.specs.declared.claimed.ClaimSearched.{ClaimSearched}
use Rattle.orc_schedules.specs.declared.claimed.ClaimSearched.TheVariants.{Holds, Fails, TooMany, TooLong, NotWatched}
use Rattle.orc_schedules.specs.declared.claimed.Seen.{Seen}
use Rattle.orc_schedules.specs.declared.tables.Tables.{Tables}
use Rattle.orc_schedules.specs.Adding.{end_seen, holds_by}
use Rattle.orc_schedules.specs.Claimed.{HoldsInAll, FailsInOne, IsClaimSearched}
use Rattle.orc_schedules.specs.Explored.{IsExplored, IfFails, IfHolds}
use Rattle.orc_schedules.specs.Reached.{EndSeen}
use Rattle.orc_schedules.specs.Seen.{kept, past_of, seen_of}
use Rattle.orc_schedules.specs.Tables.{outcomes}
use Rattle.orc_schedules.specs.Watch.{NameSame, add_happening, is_watchable, latest_of, named_until, state_of_end, told_until, watched}
use Rattle.orc_schedules.proofs.Exact.{end_of_run}
use Rattle.orc_schedules.proofs.Found.{happened_by}
use Rattle.orc_schedules.proofs.Watching.{holds_by_watched}
use Rattle.orc_schedules.proofs.Whole.{whole}

same_until : (ss ts : List Simple) (last : ℕ) → NameSame ss ts → (hs : List Happening) → named_until ss last hs ≡ named_until ts last hs
same_until ss ts last same [] = refl
same_until ss ts last same (h ∷ hs) = λ i. add_happening (same h.what i) (told_until last h) (same_until ss ts last same hs i)

module _ (l : Listing) (t : Table) (ss : List Simple) (sites : List ClaimSite) (last : ℕ) (c : Claim) (limit : ℕ) (same : NameSame ss (watched c)) (is_last : last ≡ latest_of c) (watchable : is_watchable c ≡ true) where
  -- what a claim says of a run, by what of it is named
  by_seen : (o : Outcome) (most : ℕ) → IsRun l t most o → o.now < 2 ^ 64 → holds c (happenings (map (renumbered sites) o.journal)) (state_of_end o.end) o.now ≡ holds_by c (o.end, seen_of ss sites last o.journal o.now)
  by_seen o most run early =
      let hs = happenings (map (renumbered sites) o.journal) in
      holds_by_watched c hs (state_of_end o.end) o.now watchable (happened_by sites l t most o run) early
      ∙ ap (λ (n : ℕ). holds c (named_until (watched c) n hs) (state_of_end o.end) (min o.now n)) (sym is_last)
      ∙ ap (λ (xs : List Happening). holds c xs (state_of_end o.end) (min o.now last)) (sym (same_until ss (watched c) last same hs))

  holds_in_all : (u : Tables) (all : Bool) → IsExplored l t (kept ss sites last) u all → all ≡ true → ((o : EndSeen) → IsIn o (outcomes u) → holds_by c o ≡ true) → suc limit * u.longest < 2 ^ 64 → HoldsInAll l t sites c limit
  holds_in_all u all is every each fits o run ended =
      let there = whole l t ss sites last limit u (is.done every) is.there fits o run ended in
      by_seen o limit run there.1 ∙ each (o.end, seen_of ss sites last o.journal o.now) there.0

  fails_in_one : (u : Tables) (all : Bool) → IsExplored l t (kept ss sites last) u all → (s : Seen) → IsIn {X = EndSeen} (end_seen s) (outcomes u) → holds_by c (end_seen s) ≡ false → length u.states * u.longest < 2 ^ 64 → FailsInOne l t sites c s
  fails_in_one u all is s there fails fits =
      let r = end_of_run l t ss sites last u is.found fits (end_seen s) there in
      let o : Outcome = r.outcome in
      let hs = happenings (map (renumbered sites) o.journal) in
      record {
        limit = r.limit;
        outcome = o;
        run = r.run;
        end = r.end;
        fails = by_seen o r.limit r.run r.early ∙ (λ i. holds_by c (r.end i, r.shows i)) ∙ fails;
        seen = ap (λ (n : ℕ). past_of (watched c) n hs o.now) (sym is_last) ∙ ap (λ (xs : List Happening). record { happened = xs; now = min o.now last }) (sym (same_until ss (watched c) last same hs)) ∙ r.shows;
      }

  pub searched : (u : Tables) (all : Bool) → IsExplored l t (kept ss sites last) u all → (s : ClaimSearched) → IfFails u c s → IfHolds u all c limit s → IsClaimSearched l t sites c limit s
  searched u all is (Holds states) fails holds_so = holds_in_all u all is holds_so.0 holds_so.1 holds_so.2
  searched u all is (Fails s) fails holds_so = fails_in_one u all is s fails.0 fails.1 fails.2
  searched u all is TooMany fails holds_so = tt
  searched u all is TooLong fails holds_so = tt
  searched u all is NotWatched fails holds_so = tt
