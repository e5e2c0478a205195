-- What is told with one trial more, and with one way more.
use Rattle.std.proofs.Common.{◌≡◌, ◌≤◌, ◌+◌, ◌++◌, ◌∷◌, ◌∙◌, ℕ, zero, suc, List, [], All, arith, cond, length, map, ap, refl, subst, sym}
use Rattle.std.specs.List.{AllZip}
use Rattle.std.proofs.lemmas.List.{length_push}
use Rattle.std.proofs.lemmas.List.Elements.{All-push}
use Rattle.std.proofs.lemmas.List.Sums.{count_by-le-length, sum_by_push}
use Rattle.orc_claims.specs.Happenings.{Told}
use Rattle.orc_claims.specs.Verdicts.{judged}
use Rattle.orc_claims.specs.declared.claim.Claim.{Claim}
use Rattle.orc_rules.specs.Nodes.{Listing}
use Rattle.orc_rules.specs.Sites.{Table}
use Rattle.orc_load.specs.Loading.{Loads}
use Rattle.orc_outcome.specs.Outcome.{IsPlayed}
use Rattle.orc_tally.proofs.Counting.{each_joined}
use Rattle.orc_tally.proofs.Noting.{each_noted}
use Rattle.orc_tally.specs.Sight.{Sight, said, sight}
use Rattle.orc_tally.specs.Told.{joined_all, noted_all, nothing, told as told_of, told_of_way}
use Rattle.orc_tally.specs.declared.sight.ClaimSite.{ClaimSite}
use Rattle.orc_ways.specs.Claims.{Site}
use Rattle.orc_orders.specs.Trials.{state_at, cut_in, is_cut, is_running, AreTold, AreTrials, IsMade, IsTrial}
use Rattle.orc_orders.specs.Trying.{IsJoined, IsNoted, IsSoFar, IsToldOfWay}
use Rattle.orc_orders.specs.declared.trials.Run.{Run}
use Rattle.orc_orders.specs.declared.trials.WayTold.{WayTold}
use Rattle.orc_orders.specs.declared.ways.CaseTold.{CaseTold}

-- ---- of a way

module _ (l : Listing) (t : Table) (sites : List ClaimSite) (claims : List Claim) (limit way : ℕ) where
  pub no_order_yet : (w : WayTold) → w.told.items ≡ map (λ c. nothing) claims → w.cut ≡ 0 → IsSoFar l t sites claims limit way 0 w
  no_order_yet w told cut = record { seen = []; each = refl; runs = λ k d lt. absurd (omega arith); told = told; cut = cut }

  pub one_trial_more : (order : ℕ) (w v : WayTold) → IsSoFar l t sites claims limit way order w → IsNoted l t sites claims limit way order w v → IsSoFar l t sites claims limit way (order + 1) v
  one_trial_more order w v before more = let back : order ≡ length before.seen = sym before.each in record {
    seen = before.seen ++ more.seen ∷ [];
    each = length_push before.seen more.seen ∙ ap (λ n. n + 1) before.each;
    runs = All-push (IsTrial l t sites limit) before.seen more.seen before.runs more.trial;
    told = more.told ∙ (λ i. noted_all way (back i) (before.told i) (map (λ c. said c more.seen) claims)) ∙ each_noted claims way before.seen more.seen;
    cut = more.cut ∙ ap (λ n. n + cond (is_cut more.seen) 1 0) before.cut ∙ sym (sum_by_push (λ s. cond (is_cut s) 1 0) before.seen more.seen);
  }

  pub is_noted : (order : ℕ) (w v : WayTold) (r : Run) → IsMade l t sites limit r → v.told.items ≡ noted_all way order w.told.items (map (λ c. judged c r.happenings.happened (state_at r.played.summary.end) r.played.summary.now) claims) → v.cut ≡ w.cut + cond (is_running (state_at r.played.summary.end)) 1 0 → IsNoted l t sites claims limit way order w v
  is_noted order w v r made told cut =
      let end = state_at r.played.summary.end in
      let now = r.played.summary.now in
      record {
        seen = sight sites made.journal.entries end now;
        trial = (r.played.summary, r.played.published.items, made.journal, subst (IsPlayed l t limit r.played.summary r.played.published.items) made.kept made.played, made.whole, refl);
        told = told ∙ ap (λ (h : Told). noted_all way order w.told.items (map (λ c. judged c h.happened end now) claims)) made.happenings;
        cut = cut;
      }

  -- no more were cut than there are
  pub few : (order : ℕ) (w : WayTold) → IsSoFar l t sites claims limit way order w → w.cut ≤ order
  few order w so = omega (arith, so.cut, count_by-le-length is_cut so.seen, so.each)

-- ---- of a case

zip_push : {A B : Type 0} (R : A → B → Type 0) (xs : List A) (ys : List B) (x : A) (y : B) → AllZip R xs ys → R x y → AllZip R (xs ++ x ∷ []) (ys ++ y ∷ [])
zip_push R [] [] x y zipped is = (is, tt)
zip_push R [] (b ∷ ys) x y zipped is = absurd zipped
zip_push R (a ∷ xs) [] x y zipped is = absurd zipped
zip_push R (a ∷ xs) (b ∷ ys) x y zipped is = (zipped.0, zip_push R xs ys x y zipped.1 is)

zip_long : {A B : Type 0} (R : A → B → Type 0) (xs : List A) (ys : List B) → AllZip R xs ys → length xs ≡ length ys
zip_long R [] [] zipped = refl
zip_long R [] (b ∷ ys) zipped = absurd zipped
zip_long R (a ∷ xs) [] zipped = absurd zipped
zip_long R (a ∷ xs) (b ∷ ys) zipped = ap suc (zip_long R xs ys zipped.1)

module _ (source : List ℕ) (sites : List Site) (claims : List Claim) (orders limit : ℕ) where
  pub no_way_yet : (t : CaseTold) → t.ways ≡ 0 → t.told.items ≡ map (λ c. nothing) claims → t.cut ≡ 0 → AreTold source sites claims orders limit [] t
  no_way_yet t ways told cut = record { trials = []; tried = tt; ways = ways; told = told; cut = cut }

  pub one_way_more : (scripts : List (List ℕ)) (script : List ℕ) (way : ℕ) (t u : CaseTold) (w : WayTold) → AreTold source sites claims orders limit scripts t → IsToldOfWay source sites claims orders limit way script w → way ≡ t.ways → IsJoined t w u → AreTold source sites claims orders limit (scripts ++ script ∷ []) u
  one_way_more scripts script way t u w before more at joined =
      let number : way ≡ length before.trials = at ∙ before.ways ∙ zip_long (AreTrials source sites orders limit) scripts before.trials before.tried in
      record {
        trials = before.trials ++ more.seen ∷ [];
        tried = zip_push (AreTrials source sites orders limit) scripts before.trials script more.seen before.tried more.tried;
        ways = joined.ways ∙ ap (λ n. n + 1) before.ways ∙ sym (length_push scripts script);
        told = joined.told ∙ (λ i. joined_all (before.told i) (more.told i)) ∙ ap (λ n. joined_all (map (λ c. told_of c before.trials) claims) (map (λ c. told_of_way c n more.seen) claims)) number ∙ each_joined claims before.trials more.seen;
        cut = joined.cut ∙ (λ i. before.cut i + more.cut i) ∙ sym (sum_by_push cut_in before.trials more.seen);
      }

  loaded : (scripts : List (List ℕ)) (trials : List (List Sight)) → AllZip (AreTrials source sites orders limit) scripts trials → All (Loads source) scripts
  loaded [] trials zipped k d lt = absurd (omega (arith, lt))
  loaded (script ∷ scripts) [] zipped k d lt = absurd zipped
  loaded (script ∷ scripts) (seen ∷ trials) zipped zero d lt = (zipped.0.listing, zipped.0.table, zipped.0.says, zipped.0.spells)
  loaded (script ∷ scripts) (seen ∷ trials) zipped (suc k) d lt = loaded scripts trials zipped.1 k d (omega (arith, lt))

  -- with the scripts that were told of the source is a program
  pub are_loaded : (scripts : List (List ℕ)) (t : CaseTold) → AreTold source sites claims orders limit scripts t → All (Loads source) scripts
  are_loaded scripts t told = loaded scripts told.trials told.tried
