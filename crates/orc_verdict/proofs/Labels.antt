-- Entries that are applied.
use Rattle.std.proofs.Common.{◌≡◌, ◌≤◌, ◌+◌, ℕ, List, Option, refl, subst, arith}
use Rattle.orc_rules.specs.declared.entry.Entry.{Entry}
use Rattle.orc_rules.specs.declared.entry.Label.{Label}
use Rattle.orc_rules.specs.declared.entry.RuleFault.{RuleFault}
use Rattle.orc_rules.specs.declared.limits.TheConstants.{MOST_LEVELS}
use Rattle.orc_rules.specs.Marked.{erase}
use Rattle.orc_rules.specs.Nodes.{Listing, code}
use Rattle.orc_rules.specs.Refusal.{depth}
use Rattle.orc_rules.specs.Sites.{Table}
use Rattle.orc_checker.specs.Checker.{State, Applies, context}
use Rattle.orc_checker.specs.Labelling.{Shows}
use Rattle.orc_verdict.specs.Applying.{ShowsTaken, StaysShallow}
use Rattle.orc_verdict.specs.Deepening.{deepening}
use Rattle.orc_verdict.specs.Heights.{AreHeights}
use Rattle.orc_verdict.specs.Verdicts.{Stops}
use Rattle.orc_verdict.proofs.Judging.{IsExact, takes_within, takes_exactly}

module _ (l : Listing) (t : Table) (e : Entry) (s s' : State) (label : Option Label) (shows : Shows l t e s s' label) where
  pub applies : Applies l t e s s'
  applies cancels p reached sp = (shows cancels p reached sp).1

  pub shown_within : (heights : List ℕ) → StaysShallow heights e s → AreHeights (code l) heights → ShowsTaken l t e s s' label
  shown_within heights stays are cancels p reached sp =
      let most = stays.0 in
      let levels = depth (erase p.marked) in
      let taken = takes_within l t e s s' applies heights most levels (levels + deepening most e) are stays.1 refl (stays.2 (context l t cancels) l p are sp) cancels p reached sp (omega arith) in
      ((shows cancels p reached sp).0, (taken.0, taken.1, taken.2))

  pub shown_exactly : (levels : ℕ) → IsExact l t e s s' applies levels → levels ≤ MOST_LEVELS → ShowsTaken l t e s s' label
  shown_exactly levels exact fits cancels p reached sp =
      let taken = takes_exactly l t e s s' applies (depth (erase p.marked)) levels exact fits cancels p reached sp (omega arith) in
      ((shows cancels p reached sp).0, (taken.0, taken.1, taken.2))

pub stops_same : (l : Listing) (t : Table) (e : Entry) (s s' : State) (why : RuleFault) → s ≡ s' → Stops l t e s why → Stops l t e s' why
stops_same l t e s s' why same stops = subst (λ z. Stops l t e z why) same stops

pub shows_same : (l : Listing) (t : Table) (e : Entry) (s s' after : State) (label : Option Label) → s ≡ s' → Shows l t e s after label → Shows l t e s' after label
shows_same l t e s s' after label same shows = subst (λ z. Shows l t e z after label) same shows
