-- What is said of claims grows with the ways that are searched.
use Rattle.std.proofs.Common.{◌≡◌, ◌<◌, ◌≤◌, ◌∙◌, ◌++◌, ◌∷◌, ◌⊎◌, inl, inr, ℕ, zero, suc, List, [], Bool, true, false, ◌&&◌, length, Option, Some, None, ap, arith, refl, subst, sym}
use Rattle.std.specs.List.{slice_get}
use Rattle.std.proofs.lemmas.Option.{slice_get_within}
use Rattle.orc_claims.specs.declared.claim.Claim.{Claim}
use Rattle.orc_tally.specs.Table.{are_full, is_held, is_open, section_of}
use Rattle.orc_tally.specs.declared.sight.ClaimSite.{ClaimSite}
use Rattle.orc_tally.specs.declared.table.Broken.{Broken}
use Rattle.orc_tally.specs.declared.table.CaseReport.{CaseReport}
use Rattle.orc_tally.specs.declared.table.Searched.{Searched}
use Rattle.orc_tally.specs.declared.table.Searched.TheVariants as searched
use Rattle.orc_orders.specs.Trials.{texts}
use Rattle.orc_orders.specs.declared.trials.Trials.{Trials}
use Rattle.orc_schedules.specs.Claimed.{FailsInOne, HoldsInAll, IsClaimSearched}
use Rattle.orc_schedules.specs.declared.claimed.ClaimSearched.{ClaimSearched}
use Rattle.orc_schedules.specs.declared.claimed.ClaimSearched.TheVariants as found
use Rattle.orc_run.specs.Whole.{AreAfter, AreSaid, AreSoFar, FailsThere, HoldsThere, IsAfter, IsBefore, IsBroken, IsSaid, IsScriptAt, IsSoFar, IsUnwanted, IsWay, IsWholeSoFar, said_of}
use Rattle.orc_run.specs.declared.searched.Searcher.{Searcher}
use Rattle.orc_run.specs.declared.searched.Way.{Way}
use Rattle.orc_run.specs.declared.scripts.CaseScripts.{CaseScripts}

-- ---- places of lists

abbrev or_else : {X : Type 0} → X → Option X → X
or_else x (Some y) = y
or_else x None = x

at_end : {X : Type 0} (xs : List X) (x y : X) (i : ℕ) → slice_get (xs ++ x ∷ []) i ≡ Some y → (slice_get xs i ≡ Some y) ⊎ ((i ≡ length xs) × (x ≡ y))
at_end [] x y zero h = inr (omega arith, ap (or_else x) h)
at_end [] x y (suc i) h = cc h
at_end (z ∷ xs) x y zero h = inl h
at_end (z ∷ xs) x y (suc i) h = go (at_end xs x y i h) where
  go : (slice_get xs i ≡ Some y) ⊎ ((i ≡ length xs) × (x ≡ y)) → (slice_get (z ∷ xs) (suc i) ≡ Some y) ⊎ ((suc i ≡ length (z ∷ xs)) × (x ≡ y))
  go (inl p) = inl p
  go (inr p) = inr (let e = p.0 in omega (arith, e), p.1)

same_some : {X : Type 0} (o : Option X) (x y : X) → o ≡ Some x → o ≡ Some y → x ≡ y
same_some o x y p q = ap (or_else x) (sym p ∙ q)

below_or_there : (v w : ℕ) → v < suc w → (v < w) ⊎ (v ≡ w)
below_or_there zero zero lt = inr refl
below_or_there zero (suc w) lt = inl (omega arith)
below_or_there (suc v) zero lt = absurd (omega (arith, lt))
below_or_there (suc v) (suc w) lt = go (below_or_there v w (omega (arith, lt))) where
  go : (v < w) ⊎ (v ≡ w) → (suc v < suc w) ⊎ (suc v ≡ suc w)
  go (inl p) = inl (omega (arith, p))
  go (inr p) = inr (ap suc p)

both_true : (a b : Bool) → (a && b) ≡ true → b ≡ true
both_true true b e = e
both_true false b e = absurd (cc e)

-- one script stands at a place
pub same_script : (scripts : List CaseScripts) (case way : ℕ) (a b : List ℕ) → IsScriptAt scripts case way a → IsScriptAt scripts case way b → a ≡ b
same_script scripts case way a b (s, there, at) (t, there_too, at_too) =
    let same : s ≡ t = same_some (slice_get scripts case) s t there there_too in
    same_some (slice_get (texts s.scripts.items) way) a b at (subst (λ x. slice_get (texts x.scripts.items) way ≡ Some b) (sym same) at_too)

-- ---- before the first way

pub open_is_full : (rs : List CaseReport) (section : Option ℕ) (claim : ℕ) → is_open rs section claim ≡ true → are_full section 0 rs ≡ true
open_is_full rs section claim e = both_true _ (are_full section 0 rs) e

module _ (me : Searcher) where
  none_before : (k w : ℕ) → IsBefore k w 0 0 → ⊥
  none_before k w (inl lt) = omega (arith, lt)
  none_before k w (inr (same, lt)) = omega (arith, lt)

  -- a claim that every schedule may keep
  pub kept_at_first : (section : Option ℕ) (c : Claim) (s : Searched) → (s ≡ searched.No) ⊎ ((s ≡ searched.Whole) × (are_full section 0 me.reports.now ≡ true)) → IsSoFar me section c 0 0 s
  kept_at_first section c s (inl is) = subst (IsSoFar me section c 0 0) (sym is) tt
  kept_at_first section c s (inr (is, full)) = subst (IsSoFar me section c 0 0) (sym is) (record { full = full; holds = λ k w text held before script. absurd (none_before k w before) })

  pub one_begun : (all : List Searched) (claim : ℕ) (s : Searched) → claim ≡ length all → AreSoFar me 0 0 all → (s ≡ searched.No) ⊎ ((s ≡ searched.Whole) × (are_full (section_of (slice_get me.test.now.claim_lines.items claim)) 0 me.reports.now ≡ true)) → AreSoFar me 0 0 (all ++ s ∷ [])
  one_begun all claim s at so_far word i c x here there = go (at_end all s x i there) where
    go : (slice_get all i ≡ Some x) ⊎ ((i ≡ length all) × (s ≡ x)) → IsSoFar me (section_of (slice_get me.test.now.claim_lines.items i)) c 0 0 x
    go (inl p) = so_far i c x here p
    go (inr (last, same)) = subst (IsSoFar me (section_of (slice_get me.test.now.claim_lines.items i)) c 0 0) same (kept_at_first (section_of (slice_get me.test.now.claim_lines.items i)) c s (subst (λ n. (s ≡ searched.No) ⊎ ((s ≡ searched.Whole) × (are_full (section_of (slice_get me.test.now.claim_lines.items n)) 0 me.reports.now ≡ true))) (at ∙ sym last) word))

  pub none_begun : AreSoFar me 0 0 []
  none_begun i c x here there = absurd (cc there)

-- ---- a way

-- a claim that isn't held there, or was said to be broken or not known, stays as it is
pub untouched_word : (t : Trials) (section : Option ℕ) (c : Claim) (place : Broken) (script : List ℕ) (s : Searched) → (s ≡ searched.Whole → is_held section place.case ≡ false) → IsAfter t section c place script s s
untouched_word t section c place script s unheld = record {
  kept = λ e. e;
  holds = λ e held. absurd (let no = unheld e in cc (no, held));
  fails = λ b e. inl e;
}

pub unknown_word : (t : Trials) (section : Option ℕ) (c : Claim) (place : Broken) (script : List ℕ) (before : Searched) → IsAfter t section c place script before searched.No
unknown_word t section c place script before = record { kept = λ e. absurd (cc e); holds = λ e held. absurd (cc e); fails = λ b e. absurd (cc e) }

abbrev broken_or : Broken → Searched → Broken
broken_or place (searched.Breaks b) = b
broken_or place _ = place

same_broken : (place b : Broken) → ◌≡◌ {A = Searched} (searched.Breaks place) (searched.Breaks b) → b ≡ place
same_broken place b e = sym (ap (broken_or place) e)

-- what a search says
pub found_word : (t : Trials) (section : Option ℕ) (c : Claim) (place : Broken) (w : Way) (x : ClaimSearched) → IsWay t w → is_held section place.case ≡ true
    → IsClaimSearched w.loaded.program w.loaded.answers w.sites.items c t.limit x → IsAfter t section c place w.script.now searched.Whole (said_of place x)
found_word t section c place w (found.Holds states) way held holds = record {
  kept = λ e. refl;
  holds = λ e held. record { table = w.loaded.answers; says = way.says; listing = w.loaded.program; spells = way.spells; holds = subst (λ (ss : List ClaimSite). HoldsInAll w.loaded.program w.loaded.answers ss c t.limit) way.sites holds };
  fails = λ b e. absurd (cc e);
}
found_word t section c place w (found.Fails seen) way held fails = record {
  kept = λ e. absurd (cc e);
  holds = λ e held. absurd (cc e);
  fails = λ b e. inr (same_broken place b e, held, record { table = w.loaded.answers; says = way.says; listing = w.loaded.program; spells = way.spells; seen = seen; fails = subst (λ (ss : List ClaimSite). FailsInOne w.loaded.program w.loaded.answers ss c seen) way.sites fails });
}
found_word t section c place w found.TooMany way held u = unknown_word t section c place w.script.now searched.Whole
found_word t section c place w found.TooLong way held u = unknown_word t section c place w.script.now searched.Whole
found_word t section c place w found.NotWatched way held u = unknown_word t section c place w.script.now searched.Whole

-- the same, of the claim at a place
pub word_of_search : (t : Trials) (section its : Option ℕ) (c d : Claim) (claim : ℕ) (place : Broken) (w : Way) (x : ClaimSearched) (s : Searched) → IsWay t w → its ≡ section → is_held its place.case ≡ true → slice_get t.claims.now claim ≡ Some d → slice_get t.claims.now claim ≡ Some c
    → IsClaimSearched w.loaded.program w.loaded.answers w.sites.items d t.limit x → s ≡ said_of place x → IsAfter t section c place w.script.now searched.Whole s
word_of_search t section its c d claim place w x s way is held there here so said = subst (IsAfter t section c place w.script.now searched.Whole) (sym said) (subst (λ e. IsAfter t section e place w.script.now searched.Whole (said_of place x)) (same_some (slice_get t.claims.now claim) d c there here) (found_word t section d place w x way (subst (λ o. is_held o place.case ≡ true) is held) so))

module _ (me : Searcher) (place : Broken) (script : List ℕ) where
  pub nothing_said : (before : List Searched) → AreAfter me place script before []
  nothing_said before i c s here there = absurd (cc there)

  -- of one claim more,
  pub one_said : (before after : List Searched) (claim : ℕ) (b s : Searched) → claim ≡ length after → slice_get before claim ≡ Some b → AreAfter me place script before after
      → ((c : Claim) → slice_get me.trials.now.claims.now claim ≡ Some c → IsAfter me.trials.now (section_of (slice_get me.test.now.claim_lines.items claim)) c place script b s) → AreAfter me place script before (after ++ s ∷ [])
  one_said before after claim b s at was so_far word i c x here there = go (at_end after s x i there) where
    Is : ℕ → Searched → Type 0
    Is n y = (b : Searched) × (slice_get before n ≡ Some b) × IsAfter me.trials.now (section_of (slice_get me.test.now.claim_lines.items n)) c place script b y

    go : (slice_get after i ≡ Some x) ⊎ ((i ≡ length after) × (s ≡ x)) → Is i x
    go (inl p) = so_far i c x here p
    go (inr (last, same)) =
        let there : claim ≡ i = at ∙ sym last in
        subst (Is i) same (subst (λ n. Is n s) there (b, was, word c (subst (λ n. slice_get me.trials.now.claims.now n ≡ Some c) (sym there) here)))

  -- and of all, where none is held there
  pub all_untouched : (before : List Searched) → IsUnwanted me place.case before → AreAfter me place script before before
  all_untouched before unwanted i c s here there = (s, there, untouched_word me.trials.now (section_of (slice_get me.test.now.claim_lines.items i)) c place script s (λ e. unwanted i (there ∙ ap Some e)))

-- ---- the ways one after another

module _ (me : Searcher) where
  module _ (section : Option ℕ) (c : Claim) (place : Broken) (text : List ℕ) (here : IsScriptAt me.cases.now place.case place.way text) where
    newest : (k v : ℕ) (other : List ℕ) → is_held section k ≡ true → IsWholeSoFar me section c place.case place.way → (is_held section place.case ≡ true → HoldsThere me.trials.now c text) → IsScriptAt me.cases.now k v other → IsBefore k v place.case (suc place.way) → HoldsThere me.trials.now c other
    newest k v other held so holds script (inl lt) = so.holds k v other held (inl lt) script
    newest k v other held so holds script (inr (same, lt)) = go (below_or_there v place.way lt) where
      go : (v < place.way) ⊎ (v ≡ place.way) → HoldsThere me.trials.now c other
      go (inl below) = so.holds k v other held (inr (same, below)) script
      go (inr there) =
          let mine : IsScriptAt me.cases.now place.case place.way other = subst (λ n. IsScriptAt me.cases.now n place.way other) same (subst (λ n. IsScriptAt me.cases.now k n other) there script) in
          subst (HoldsThere me.trials.now c) (same_script me.cases.now place.case place.way text other here mine) (holds (subst (λ n. is_held section n ≡ true) same held))

    next_word : (b s : Searched) → IsSoFar me section c place.case place.way b → IsAfter me.trials.now section c place text b s → IsSoFar me section c place.case (suc place.way) s
    next_word b searched.No so word = tt
    next_word b searched.Whole so word =
        let old : IsWholeSoFar me section c place.case place.way = subst (IsSoFar me section c place.case place.way) (word.kept refl) so in
        record { full = old.full; holds = λ k v other held before script. newest k v other held old (word.holds refl) script before }
    next_word b (searched.Breaks d) so word = go (word.fails d refl) where
      go : (b ≡ searched.Breaks d) ⊎ ((d ≡ place) × (is_held section place.case ≡ true) × FailsThere me.trials.now c text) → IsBroken me.trials.now section c me.cases.now d
      go (inl is) = subst (IsSoFar me section c place.case place.way) is so
      go (inr (is, held, fails)) = subst (IsBroken me.trials.now section c me.cases.now) (sym is) (record { held = held; text = text; script = here; fails = fails })

  -- with one way more,
  pub one_way_more : (place : Broken) (text : List ℕ) (before after : List Searched) → IsScriptAt me.cases.now place.case place.way text → AreSoFar me place.case place.way before → AreAfter me place text before after → AreSoFar me place.case (suc place.way) after
  one_way_more place text before after here so_far step i c s at there =
      let (b, was, word) = step i c s at there in
      next_word (section_of (slice_get me.test.now.claim_lines.items i)) c place text here b s (so_far i c b at was) word

  -- with a case more,
  pub one_case_more : (case way : ℕ) (s : CaseScripts) (ss : List Searched) → slice_get me.cases.now case ≡ Some s → length (texts s.scripts.items) ≤ way → AreSoFar me case way ss → AreSoFar me (suc case) 0 ss
  one_case_more case way its ss there all so_far i c s at here = go s (so_far i c s at here) where
    earlier : (k v : ℕ) (text : List ℕ) → IsScriptAt me.cases.now k v text → IsBefore k v (suc case) 0 → IsBefore k v case way
    earlier k v text script (inr (same, lt)) = absurd (omega (arith, lt))
    earlier k v text (t, at, is) (inl lt) = ends (below_or_there k case lt) where
      ends : (k < case) ⊎ (k ≡ case) → IsBefore k v case way
      ends (inl below) = inl below
      ends (inr same) =
          let mine : t ≡ its = same_some (slice_get me.cases.now k) t its at (ap (slice_get me.cases.now) same ∙ there) in
          let within : v < length (texts t.scripts.items) = slice_get_within (texts t.scripts.items) v text is in
          let as_long : length (texts t.scripts.items) ≡ length (texts its.scripts.items) = ap (λ x. length (texts x.scripts.items)) mine in
          inr (same, omega (arith, within, as_long, all))

    go : (s : Searched) → IsSoFar me (section_of (slice_get me.test.now.claim_lines.items i)) c case way s → IsSoFar me (section_of (slice_get me.test.now.claim_lines.items i)) c (suc case) 0 s
    go searched.No so = tt
    go searched.Whole so = record { full = so.full; holds = λ k v text held before script. so.holds k v text held (earlier k v text script before) script }
    go (searched.Breaks b) so = so

  -- and at last
  pub all_said : (case : ℕ) (ss : List Searched) → length me.cases.now ≤ case → AreSoFar me case 0 ss → AreSaid me.trials.now me.test.now.claim_lines.items me.cases.now me.reports.now ss
  all_said case ss all so_far i c s at here = go s (so_far i c s at here) where
    before_all : (k v : ℕ) (text : List ℕ) → IsScriptAt me.cases.now k v text → IsBefore k v case 0
    before_all k v text (t, there, is) = let within : k < length me.cases.now = slice_get_within me.cases.now k t there in inl (omega (arith, within, all))

    go : (s : Searched) → IsSoFar me (section_of (slice_get me.test.now.claim_lines.items i)) c case 0 s → IsSaid me.trials.now (section_of (slice_get me.test.now.claim_lines.items i)) c me.cases.now me.reports.now s
    go searched.No so = tt
    go searched.Whole so = record { full = so.full; holds = λ k v text held script. so.holds k v text held (before_all k v text script) script }
    go (searched.Breaks b) so = so
