-- Lists by their numbers.
use Rattle.std.proofs.Common.{◌≡◌, ◌<◌, ◌≤◌, ◌+◌, ◌-◌, ℕ, zero, suc, List, [], ◌∷◌, ◌++◌, length, Option, Some, None, ◌⊎◌, refl, sym, ap, ◌∙◌, inl, inr, arith, subst, length-append}
use Rattle.std.proofs.lemmas.List.{get_or_append_left, append_assoc, reverse-append}
use Rattle.std.proofs.Math.Seq.{get_or-append_seam}
use Rattle.std.specs.Prelude.{slice_get, slice_index_or, reverse, IfSome, IfNone}
use Rattle.orc_claims.specs.Claims.{published as all_published, published_by}
use Rattle.orc_claims.specs.declared.happening.Happening.{Happening}
use Rattle.orc_claims.specs.declared.happening.Occurrence.{Occurrence}
use Rattle.orc_claims.specs.declared.happening.Occurrence.TheVariants as occurrence
use Rattle.orc_rules.specs.declared.value.Value.{Value}
use Rattle.orc_rules.specs.declared.value.Value.TheVariants.{Signal}
use Rattle.orc_search.proofs.Nodes.{at_end, none_term, within}
use Rattle.orc_schedules.specs.declared.lists.Longer.{Longer}
use Rattle.orc_schedules.specs.Growing.{Grows}
use Rattle.orc_schedules.specs.declared.lists.What.{What}
use Rattle.orc_schedules.specs.declared.lists.What.TheVariants.{Published, Call, Nothing}
use Rattle.orc_schedules.specs.Lists.{Linked, what_of, list_at, list_of, lists_from, lists, AreBehind, IsMade, AreMade}
use Rattle.orc_schedules.specs.Seen.{Past, nothing_yet, values_of}
use Rattle.orc_schedules.specs.Watch.{all_at}
use Rattle.orc_schedules.proofs.Growing.{or_else, get_there, get_or_is, grows_or}

published_both : (xs ys : List Happening) → all_published (xs ++ ys) ≡ all_published xs ++ all_published ys
published_both [] ys = refl
published_both (h ∷ xs) ys = ap (λ (l : List Value). published_by h.what ++ l) (published_both xs ys) ∙ sym (append_assoc (published_by h.what) (all_published xs) (all_published ys))

-- one thing at most is the same the other way round
few : (now : ℕ) (calls : List Occurrence) (w : What) → all_at now (what_of calls w) ≡ reverse (all_at now (what_of calls w))
few now calls (Published v) = refl
few now calls (Call n) = refl
few now calls Nothing = refl

few_values : (now : ℕ) (calls : List Occurrence) (w : What) → all_published (all_at now (what_of calls w)) ≡ reverse (all_published (all_at now (what_of calls w)))
few_values now calls (Published v) = refl
few_values now calls (Call n) = one (slice_index_or calls n (occurrence.Published Signal)) where
  one : (w : Occurrence) → all_published (all_at now (w ∷ [])) ≡ reverse (all_published (all_at now (w ∷ [])))
  one (occurrence.Published v) = refl
  one (occurrence.Call m args p) = refl
few_values now calls Nothing = refl

module _ (calls : List Occurrence) where
  abbrev linked : List Longer → Linked
  linked xs = record { calls = calls; longer = xs }

  -- a list that is longer than this one
  abbrev further_on : Past → Longer → Past
  further_on p x = record { happened = p.happened ++ all_at x.now (what_of calls x.what); now = x.now }

  -- one more list
  lists_last : (ls : List Past) (xs : List Longer) (x : Longer) → lists_from calls ls (xs ++ x ∷ []) ≡ lists_from calls ls xs ++ list_of calls (lists_from calls ls xs) x ∷ []
  lists_last ls [] x = refl
  lists_last ls (y ∷ xs) x = lists_last (ls ++ list_of calls ls y ∷ []) xs x

  as_many : (ls : List Past) (xs : List Longer) → length (lists_from calls ls xs) ≡ length ls + length xs
  as_many ls [] = omega arith
  as_many ls (x ∷ xs) = let e = as_many (ls ++ list_of calls ls x ∷ []) xs in omega (arith, e, length-append ls (list_of calls ls x ∷ []))

  pub lists_len : (xs : List Longer) → length (lists (linked xs)) ≡ suc (length xs)
  lists_len xs = let e = as_many (nothing_yet ∷ []) xs in omega (arith, e)

  kept : (ls : List Past) (xs : List Longer) (i : ℕ) → i < length ls → list_at (lists_from calls ls xs) i ≡ list_at ls i
  kept ls [] i lt = refl
  kept ls (x ∷ xs) i lt = kept (ls ++ list_of calls ls x ∷ []) xs i (omega (arith, lt, length-append ls (list_of calls ls x ∷ []))) ∙ get_or_append_left ls (list_of calls ls x ∷ []) nothing_yet i lt

  made : (ls : List Past) (xs : List Longer) (j k : ℕ) (x : Longer) → k ≡ length ls + j → slice_get xs j ≡ Some x → x.before < k → list_at (lists_from calls ls xs) k ≡ list_of calls (lists_from calls ls xs) x
  made ls [] j k x e h before = cc h
  made ls (y ∷ xs) zero k x e h before =
      let is : k ≡ length ls = omega (arith, e) in
      let same : y ≡ x = ap (or_else y) h in
      ap (list_at (lists_from calls ls (y ∷ xs))) is ∙
      (kept (ls ++ list_of calls ls y ∷ []) xs (length ls) (omega (arith, length-append ls (list_of calls ls y ∷ []))) ∙
      (get_or-append_seam ls (list_of calls ls y) [] nothing_yet ∙
      (ap (list_of calls ls) same ∙ λ i. further_on (sym (kept ls (y ∷ xs) x.before (omega (arith, before, is))) i) x)))
  made ls (y ∷ xs) (suc j) k x e h before = made (ls ++ list_of calls ls y ∷ []) xs j k x (omega (arith, e, length-append ls (list_of calls ls y ∷ []))) h before

  -- the list of a number is what it is made of
  pub is_made : (xs : List Longer) (i : ℕ) (x : Longer) → AreBehind xs → slice_get xs i ≡ Some x → (x.before < suc i) × (list_at (lists (linked xs)) (suc i) ≡ list_of calls (lists (linked xs)) x)
  is_made xs i x behind h =
      let le = behind i x h in
      (omega (arith, le), made (nothing_yet ∷ []) xs i (suc i) x (omega arith) h (omega (arith, le)))

  pub none_made : (xs : List Longer) (i : ℕ) → slice_get xs i ≡ None → list_at (lists (linked xs)) (suc i) ≡ nothing_yet
  none_made xs i h = let le = none_term xs i h in past (lists (linked xs)) (suc i) (let e = lists_len xs in omega (arith, le, e)) where
    past : (ls : List Past) (k : ℕ) → length ls ≤ k → list_at ls k ≡ nothing_yet
    past [] k le = refl
    past (l ∷ ls) zero le = absurd (omega (arith, le))
    past (l ∷ ls) (suc k) le = past ls k (omega (arith, le))

  pub empty_made : (xs : List Longer) → list_at (lists (linked xs)) 0 ≡ nothing_yet
  empty_made xs = kept (nothing_yet ∷ []) xs 0 (omega arith)

  pub behind_last : (xs : List Longer) (x : Longer) → AreBehind xs → x.before < length (lists (linked xs)) → AreBehind (xs ++ x ∷ [])
  behind_last xs x behind lt i y h = go (at_end xs x y i h) where
    go : (slice_get xs i ≡ Some y) ⊎ ((i ≡ length xs) × (x ≡ y)) → y.before ≤ i
    go (inl p) = behind i y p
    go (inr p) = let e = lists_len xs in let is = p.0 in let same : x.before ≡ y.before = ap Longer.before p.1 in omega (arith, e, lt, is, same)

  pub lists_grow : (xs : List Longer) (x : Longer) → Grows (lists (linked xs)) (lists (linked (xs ++ x ∷ [])))
  lists_grow xs x = (list_of calls (lists (linked xs)) x ∷ [], lists_last (nothing_yet ∷ []) xs x)

  pub last_list : (xs : List Longer) (x : Longer) → slice_get (lists (linked (xs ++ x ∷ []))) (length (lists (linked xs))) ≡ Some (list_of calls (lists (linked xs)) x)
  last_list xs x = ap (λ (ls : List Past). slice_get ls (length (lists (linked xs)))) (lists_last (nothing_yet ∷ []) xs x) ∙ seam (lists (linked xs)) (list_of calls (lists (linked xs)) x)
    where
      seam : (ls : List Past) (l : Past) → slice_get (ls ++ l ∷ []) (length ls) ≡ Some l
      seam [] l = refl
      seam (m ∷ ls) l = seam ls l

  -- of a number that isn't 0
  pub made_there : (xs : List Longer) (at : ℕ) (x : Longer) → AreBehind xs → (at ≡ 0 → ⊥) → slice_get xs (at - 1) ≡ Some x → (x.before < at) × (slice_get (lists (linked xs)) at ≡ Some (list_of calls (lists (linked xs)) x))
  made_there xs zero x behind some h = absurd (some refl)
  made_there xs (suc i) x behind some h =
      let e : suc i - 1 ≡ i = omega arith in
      let g : slice_get xs i ≡ Some x = ap (slice_get xs) (sym e) ∙ h in
      let m = is_made xs i x behind g in
      let lt = within xs i x g in
      let len = lists_len xs in
      (m.0, get_there (lists (linked xs)) (suc i) nothing_yet (omega (arith, lt, len)) ∙ ap Some m.1)

  pub none_there : (xs : List Longer) (at : ℕ) → (at ≡ 0 → ⊥) → slice_get xs (at - 1) ≡ None → list_at (lists (linked xs)) at ≡ nothing_yet
  none_there xs zero some h = absurd (some refl)
  none_there xs (suc i) some h =
      let e : suc i - 1 ≡ i = omega arith in
      none_made xs i (ap (slice_get xs) (sym e) ∙ h)

  -- one thing further on
  pub further : (ls : List Past) (at rest : ℕ) (x : Longer) (vs : List Happening) → Past.happened (list_at ls at) ≡ Past.happened (list_at ls rest) ++ reverse vs → slice_get ls rest ≡ Some (list_of calls ls x)
      → Past.happened (list_at ls at) ≡ Past.happened (list_at ls x.before) ++ reverse (vs ++ all_at x.now (what_of calls x.what))
  further ls at rest x vs so is =
      let ws : List Happening = all_at x.now (what_of calls x.what) in
      so ∙ ap (λ (p : Past). p.happened ++ reverse vs) (get_or_is ls rest (list_of calls ls x) nothing_yet is)
      ∙ append_assoc (Past.happened (list_at ls x.before)) ws (reverse vs)
      ∙ ap (λ (l : List Happening). Past.happened (list_at ls x.before) ++ l) (ap (λ (l : List Happening). l ++ reverse vs) (few x.now calls x.what) ∙ sym (reverse-append vs ws))

  pub some_made : (xs : List Longer) (at : ℕ) (o : Option Longer) → AreBehind xs → (at ≡ 0 → ⊥) → o ≡ slice_get xs (at - 1) → IfSome o (λ x. (x.before < at) × (slice_get (lists (linked xs)) at ≡ Some (list_of calls (lists (linked xs)) x)))
  some_made xs at None behind some e = tt
  some_made xs at (Some x) behind some e = made_there xs at x behind some (sym e)

  pub else_made : (xs : List Longer) (at : ℕ) (o : Option Longer) → (at ≡ 0 → ⊥) → o ≡ slice_get xs (at - 1) → IfNone o (list_at (lists (linked xs)) at ≡ nothing_yet)
  else_made xs at None some e = none_there xs at some (sym e)
  else_made xs at (Some x) some e = tt

  -- what was published of one thing further on
  pub further_value : (ls : List Past) (at rest : ℕ) (x : Longer) (vs : List Value) → values_of (list_at ls at) ≡ values_of (list_at ls rest) ++ reverse vs → slice_get ls rest ≡ Some (list_of calls ls x)
      → values_of (list_at ls at) ≡ values_of (list_at ls x.before) ++ reverse (vs ++ all_published (all_at x.now (what_of calls x.what)))
  further_value ls at rest x vs so is =
      let ws : List Value = all_published (all_at x.now (what_of calls x.what)) in
      so ∙ ap (λ (p : Past). values_of p ++ reverse vs) (get_or_is ls rest (list_of calls ls x) nothing_yet is)
      ∙ ap (λ (l : List Value). l ++ reverse vs) (published_both (Past.happened (list_at ls x.before)) (all_at x.now (what_of calls x.what)))
      ∙ append_assoc (values_of (list_at ls x.before)) ws (reverse vs)
      ∙ ap (λ (l : List Value). values_of (list_at ls x.before) ++ l) (ap (λ (l : List Value). l ++ reverse vs) (few_values x.now calls x.what) ∙ sym (reverse-append vs ws))

  pub made_last : (xs : List Longer) (x : Longer) → AreMade calls xs → IsMade (length calls) x.what → AreMade calls (xs ++ x ∷ [])
  made_last xs x all here i y h = go (at_end xs x y i h) where
    go : (slice_get xs i ≡ Some y) ⊎ ((i ≡ length xs) × (x ≡ y)) → IsMade (length calls) y.what
    go (inl p) = all i y p
    go (inr p) = subst (λ (z : Longer). IsMade (length calls) z.what) p.1 here

-- with more calls
what_stays : (calls more : List Occurrence) (w : What) → Grows calls more → IsMade (length calls) w → what_of more w ≡ what_of calls w
what_stays calls more (Published v) grows is = refl
what_stays calls more (Call n) grows is = ap (λ (o : Occurrence). o ∷ []) (grows_or calls more n (occurrence.Published Signal) grows is)
what_stays calls more Nothing grows is = refl

pub lists_stay : (calls more : List Occurrence) → Grows calls more → (ls : List Past) (xs : List Longer) → AreMade calls xs → lists_from more ls xs ≡ lists_from calls ls xs
lists_stay calls more grows ls [] all = refl
lists_stay calls more grows ls (x ∷ xs) all =
    ap (λ (ws : List Occurrence). lists_from more (ls ++ record { happened = (list_at ls x.before).happened ++ all_at x.now ws; now = x.now } ∷ []) xs) (what_stays calls more x.what grows (all 0 x refl))
    ∙ lists_stay calls more grows (ls ++ list_of calls ls x ∷ []) xs (λ i y h. all (suc i) y h)
