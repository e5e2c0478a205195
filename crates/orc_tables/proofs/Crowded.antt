-- Members of groups that are listed by their places: as many as there are, so all.
use Rattle.std.proofs.Common.{◌≡◌, ◌≤◌, ◌<◌, ◌+◌, ◌-◌, ◌++◌, ◌⊎◌, inl, inr, ⊎_elim, ℕ, zero, suc, List, [], ◌∷◌, refl, sym, ap, ◌∙◌, subst, arith, map, length, take, get_or, append-nil, Bool, true, false, cond, nat_eq, eq-eqb, Option, Some, None as Nothing}
use Rattle.std.proofs.lemmas.Bool.{eqb-true, lt-ltb}
use Rattle.std.proofs.Math.Numerals.{add-one}
use Rattle.std.proofs.Math.Seq.{take-suc}
use Rattle.std.proofs.Math.Decide.{ℕ_discrete}
use Rattle.std.proofs.lemmas.List.Sorted.{sum_by-IsPermutation}
use Rattle.std.specs.List.Sorted.{IsPermutation}
use Rattle.std.specs.Prelude.{slice_get, slice_set, ◌&&◌, ◌||◌}
use Rattle.orc_rules.specs.Timed.{IsIn}
use Rattle.orc_indexes.specs.Same.{weight, only, is_this}
use Rattle.orc_tables.specs.Steps.{group_at}
use Rattle.orc_tables.specs.Tokens.{live, is_live}
use Rattle.orc_tables.specs.OpenGroups.{tokens_in, calls_in, groups_in}
use Rattle.orc_tables.specs.Crowd.{is_listed, IsTokenAt, IsCallAt, IsGroupAt, Adds, HasAll, Gathers, IsCrowd}
use Rattle.orc_tables.specs.declared.records.Token.{Token}
use Rattle.orc_tables.specs.declared.records.Call.{Call}
use Rattle.orc_tables.specs.declared.records.Step.{Step}
use Rattle.orc_tables.specs.declared.records.Group.{Group}
use Rattle.orc_tables.specs.declared.records.Side.TheVariants.{Right}
use Rattle.orc_indexes.proofs.Weight.{weight-map, weight-same, weight-in, weight-sum_by, some-in, this_one, this_is}
use Rattle.orc_indexes.proofs.Lists.{weight-set, set-elsewhere}
use Rattle.orc_tables.proofs.Slots.{weight-live}

-- ---- lists

pub in-append : {X : Type 0} (xs ys : List X) (x : X) → IsIn x (xs ++ ys) → IsIn x xs ⊎ IsIn x ys
in-append [] ys x i = inr i
in-append (z ∷ xs) ys x (inl e) = inl (inl e)
in-append (z ∷ xs) ys x (inr i) = ⊎_elim (λ a. inl (inr a)) (λ b. inr b) (in-append xs ys x i)

pub in-first : {X : Type 0} (xs ys : List X) (x : X) → IsIn x xs → IsIn x (xs ++ ys)
in-first [] ys x i = elim i [ ]
in-first (z ∷ xs) ys x (inl e) = inl e
in-first (z ∷ xs) ys x (inr i) = inr (in-first xs ys x i)

pub in-second : {X : Type 0} (xs ys : List X) (x : X) → IsIn x ys → IsIn x (xs ++ ys)
in-second [] ys x i = i
in-second (z ∷ xs) ys x i = inr (in-second xs ys x i)

pub in-place : {X : Type 0} (xs : List X) (x : X) → IsIn x xs → (k : ℕ) × (slice_get xs k ≡ Some x)
in-place [] x i = elim i [ ]
in-place (y ∷ xs) x (inl e) = (0, ap Some (sym e))
in-place (y ∷ xs) x (inr i) = let d = in-place xs x i in (suc d.0, d.1)

pub place-in : {X : Type 0} (xs : List X) (k : ℕ) (x : X) → slice_get xs k ≡ Some x → IsIn x xs
place-in [] k x h = cc h
place-in (y ∷ xs) zero x h = inl (cc h)
place-in (y ∷ xs) (suc k) x h = inr (place-in xs k x h)

pub place-within : {X : Type 0} (xs : List X) (k : ℕ) (x : X) → slice_get xs k ≡ Some x → k < length xs
place-within [] k x h = cc h
place-within (y ∷ xs) zero x h = omega arith
place-within (y ∷ xs) (suc k) x h = omega (arith, place-within xs k x h)

place-first : {X : Type 0} (xs ys : List X) (k : ℕ) (x : X) → k < length xs → slice_get (xs ++ ys) k ≡ Some x → slice_get xs k ≡ Some x
place-first [] ys k x lt h = absurd (omega (arith, lt))
place-first (y ∷ xs) ys zero x lt h = h
place-first (y ∷ xs) ys (suc k) x lt h = place-first xs ys k x (omega (arith, lt)) h

get-map : {X : Type 0} (xs : List X) (k : ℕ) (x : X) → slice_get xs k ≡ Some x → slice_get (map Some xs) k ≡ Some (Some x)
get-map [] k x h = cc h
get-map (y ∷ xs) zero x h = ap Some h
get-map (y ∷ xs) (suc k) x h = get-map xs k x h

-- ---- numbers in a list

or_second : (a b : Bool) → b ≡ true → (a || b) ≡ true
or_second true b h = refl
or_second false b h = h

or_first : (a b : Bool) → a ≡ true → (a || b) ≡ true
or_first true b h = refl
or_first false b h = cc h

pub listed-in : (ns : List ℕ) (n : ℕ) → is_listed ns n ≡ true → IsIn n ns
listed-in [] n h = cc h
listed-in (m ∷ ms) n h = go (nat_eq m n) refl h (λ k. listed-in ms n k)
  where
    go : (b : Bool) → nat_eq m n ≡ b → (b || is_listed ms n) ≡ true → (is_listed ms n ≡ true → IsIn n ms) → IsIn n (m ∷ ms)
    go true e h rest = inl (sym (eqb-true m n e))
    go false e h rest = inr (rest h)

pub in-listed : (ns : List ℕ) (n : ℕ) → IsIn n ns → is_listed ns n ≡ true
in-listed [] n i = elim i [ ]
in-listed (m ∷ ms) n (inl e) = or_first (nat_eq m n) (is_listed ms n) (eq-eqb m n (sym e))
in-listed (m ∷ ms) n (inr i) = or_second (nat_eq m n) (is_listed ms n) (in-listed ms n i)

-- ---- places that differ, of things that pass a test

abbrev AreOnce : List ℕ → Type 0
AreOnce ks = (k : ℕ) → weight (is_this k) ks ≤ 1

module _ {X : Type 0} (P : X → Bool) where
  abbrev of_option : Option X → ℕ
  of_option (Some x) = cond (P x) 1 0
  of_option Nothing = 0

  few_left : (os : List (Option X)) (ks : List ℕ) → AreOnce ks → ((k : ℕ) → IsIn k ks → (x : X) × (slice_get os k ≡ Some (Some x)) × (P x ≡ true)) → length ks ≤ weight of_option os
  few_left os [] once h = omega arith
  few_left os (k ∷ ks) once h =
      let x = h k (inl refl) in
      let one : of_option (Some x.0) ≡ 1 = ap (λ b. cond {A = ℕ} b 1 0) x.2 in
      let apart : (j : ℕ) → IsIn j ks → j ≡ k → ⊥ = λ j i e. omega (arith, once k, this_is k k refl, weight-in (is_this k) ks j i, this_is k j (sym e)) in
      let rest = few_left (slice_set os k Nothing) ks (λ j. omega (arith, once j)) (λ j i. let y = h j (inr i) in (y.0, set-elsewhere os k j Nothing (apart j i) ∙ y.1, y.2)) in
      omega (arith, rest, weight-set of_option os k (Some x.0) Nothing x.1, one)

  pub pick-few : (xs : List X) (ks : List ℕ) → AreOnce ks → ((k : ℕ) → IsIn k ks → (x : X) × (slice_get xs k ≡ Some x) × (P x ≡ true)) → length ks ≤ weight (only P (λ x. 1)) xs
  pick-few xs ks once h = omega (arith, few_left (map Some xs) ks once (λ k i. let x = h k i in (x.0, get-map xs k x.0 x.1, x.2)), weight-map of_option Some xs)

  -- as many as there are: all
  pub pick-all : (xs : List X) (ks : List ℕ) → AreOnce ks → ((k : ℕ) → IsIn k ks → (x : X) × (slice_get xs k ≡ Some x) × (P x ≡ true)) → weight (only P (λ x. 1)) xs ≤ length ks → (k : ℕ) (x : X) → slice_get xs k ≡ Some x → P x ≡ true → IsIn k ks
  pick-all xs ks once h all k x got yes_ = by_weight (weight (is_this k) ks) refl
    where
      by_weight : (n : ℕ) → weight (is_this k) ks ≡ n → IsIn k ks
      by_weight (suc n) e = let d = some-in (is_this k) ks (omega (arith, e)) in subst (λ z. IsIn z ks) (sym (this_one k d.0 d.2)) d.1
      by_weight zero e = absurd (omega (arith, all, pick-few xs (k ∷ ks) once' h'))
        where
          once_by : (j n : ℕ) → is_this j k ≡ n → is_this j k + weight (is_this j) ks ≤ 1
          once_by j zero f = omega (arith, f, once j)
          once_by j (suc n) f = let same : j ≡ k = this_one j k (omega (arith, f)) in omega (arith, e, ap (λ z. weight (is_this z) ks) same, most j)
            where
              most : (j : ℕ) → is_this j k ≤ 1
              most j = go (nat_eq j k)
                where
                  go : (b : Bool) → cond {A = ℕ} b 1 0 ≤ 1
                  go true = omega arith
                  go false = omega arith

          once' : AreOnce (k ∷ ks)
          once' j = once_by j (is_this j k) refl

          h' : (j : ℕ) → IsIn j (k ∷ ks) → (y : X) × (slice_get xs j ≡ Some y) × (P y ≡ true)
          h' j (inl e) = (x, ap (slice_get xs) e ∙ got, yes_)
          h' j (inr i) = h j i

-- ---- places that are gone through

pub adds-none : (Q : ℕ → ℕ → Type 0) (places old : List ℕ) → Adds Q (take 0 places) old old
adds-none Q places old = record { each = λ k i. elim (none places k i) [ ]; more = ([], sym (append-nil old), λ m i. elim i [ ]) }
  where
    none : (xs : List ℕ) (k : ℕ) → IsIn k (take 0 xs) → ⊥
    none [] k i = i
    none (x ∷ xs) k i = i

append-assoc : (xs ys zs : List ℕ) → (xs ++ ys) ++ zs ≡ xs ++ (ys ++ zs)
append-assoc [] ys zs = refl
append-assoc (x ∷ xs) ys zs = ap (λ z. x ∷ z) (append-assoc xs ys zs)

pub adds-more : (Q : ℕ → ℕ → Type 0) (places old now next : List ℕ) (i d m : ℕ) → Adds Q (take i places) old now → i < length places → Q (get_or places i d) m → next ≡ now ++ m ∷ [] → Adds Q (take (i + 1) places) old next
adds-more Q places old now next i d m A lt q pushed =
    let k = get_or places i d in
    let more : take (i + 1) places ≡ take i places ++ k ∷ [] = ap (λ n. take n places) (add-one i) ∙ take-suc places i d lt in
    subst (λ z. Adds Q z old next) (sym more) (record {
      each = λ j at. ⊎_elim (λ a. let e = A.each j a in (e.0, e.1, subst (λ z. IsIn e.0 z) (sym pushed) (in-first now (m ∷ []) e.0 e.2))) (λ b. (m, subst (λ z. Q z m) (sym (one j b)) q, subst (λ z. IsIn m z) (sym pushed) (in-second now (m ∷ []) m (inl refl)))) (in-append (take i places) (k ∷ []) j at);
      more = (A.more.0 ++ m ∷ [], pushed ∙ ap (λ z. z ++ m ∷ []) A.more.1 ∙ append-assoc old A.more.0 (m ∷ []), λ n at. ⊎_elim (λ a. A.more.2 n a) (λ b. (k, subst (λ z. Q k z) (sym (one_m n b)) q)) (in-append A.more.0 (m ∷ []) n at));
    })
  where
    one : (j : ℕ) → IsIn j (get_or places i d ∷ []) → j ≡ get_or places i d
    one j (inl e) = e
    one j (inr e) = elim e [ ]

    one_m : (n : ℕ) → IsIn n (m ∷ []) → n ≡ m
    one_m n (inl e) = e
    one_m n (inr e) = elim e [ ]

take-all : (xs : List ℕ) (k : ℕ) → length xs ≤ k → take k xs ≡ xs
take-all [] zero le = refl
take-all [] (suc k) le = refl
take-all (x ∷ xs) zero le = absurd (omega (arith, le))
take-all (x ∷ xs) (suc k) le = ap (λ z. x ∷ z) (take-all xs k (omega (arith, le)))

pub adds-all : (Q : ℕ → ℕ → Type 0) (places old new : List ℕ) (i : ℕ) → Adds Q (take i places) old new → length places ≤ i → Adds Q places old new
adds-all Q places old new i A le = subst (λ z. Adds Q z old new) (take-all places i le) A

-- ---- the members of a group

module _ (ss : List Step) (slots : List Token) (cs : List Call) (gs : List Group) (n : ℕ) where
  abbrev token_is : Token → Bool
  token_is t = is_live t && nat_eq n (group_at ss t.step)

  abbrev call_is : Call → Bool
  call_is c = nat_eq n (group_at ss c.step)

  abbrev group_is : Group → Bool
  group_is g = nat_eq n (group_at ss g.outer)

  both : (a b : Bool) → a ≡ true → b ≡ true → (a && b) ≡ true
  both true b e f = f
  both false b e f = cc e

  token_yes : (k m : ℕ) (h : IsTokenAt ss slots n k m) → token_is h.0 ≡ true
  token_yes k m (t, held, same, at) = both (is_live t) (nat_eq n (group_at ss t.step)) (lt-ltb 0 t.serial held.1) (eq-eqb n (group_at ss t.step) (sym at))

  tokens_weigh : tokens_in ss (live slots) n ≡ weight (only token_is (λ t. 1)) slots
  tokens_weigh = weight-live (λ (t : Token). is_this n (group_at ss t.step)) slots ∙ weight-same (only is_live (λ (t : Token). is_this n (group_at ss t.step))) (only token_is (λ t. 1)) slots (λ t. by_both (is_live t) (nat_eq n (group_at ss t.step)))
    where
      by_both : (a b : Bool) → cond {A = ℕ} a (cond b 1 0) 0 ≡ cond (a && b) 1 0
      by_both true b = refl
      by_both false b = refl

  some_token : (t u : Token) → Some t ≡ Some u → t ≡ u
  some_token t u e = cc e

  some_call : (t u : Call) → Some t ≡ Some u → t ≡ u
  some_call t u e = cc e

  some_group : (t u : Group) → Some t ≡ Some u → t ≡ u
  some_group t u e = cc e

  -- as many as the group has members: all
  pub gathered : (ns ts ks ns' ts' ks' p q r : List ℕ) → AreOnce p → AreOnce q → AreOnce r
      → Adds (IsTokenAt ss slots n) p ts ts' → Adds (IsCallAt ss cs n) q ks ks' → Adds (IsGroupAt ss gs n) r ns ns'
      → tokens_in ss (live slots) n + calls_in ss cs n + groups_in ss gs n ≤ length p + length q + length r
      → Gathers ss slots cs gs n ns ts ks ns' ts' ks'
  gathered ns ts ks ns' ts' ks' p q r op oq or A B C le =
      record {
        all = record {
          tokens = λ k m h. let e = A.each k (all_p k h.0 h.1.0 (token_yes k m h)) in subst (λ z. IsIn z ts') (sym (token_at e.1) ∙ h.2) e.2;
          calls = λ k m h. let e = B.each k (all_q k h.0 h.1 (eq-eqb n (group_at ss (Call.step h.0)) (sym h.3))) in subst (λ z. IsIn z ks') (sym e.1.2 ∙ ap (λ (z : Call). z.number) (some_call e.1.0 h.0 (sym e.1.1 ∙ h.1)) ∙ h.2) e.2;
          groups = λ k m h. let e = C.each k (all_r k h.0 h.1 (eq-eqb n (group_at ss (Group.outer h.0)) (sym h.3))) in subst (λ z. IsIn z ns') (sym e.1.2 ∙ ap (λ (z : Group). z.number) (some_group e.1.0 h.0 (sym e.1.1 ∙ h.1)) ∙ h.2) e.2;
        };
        groups = C.more;
        tokens = A.more;
        calls = B.more;
      }
    where
      at_p : (k : ℕ) → IsIn k p → (x : Token) × (slice_get slots k ≡ Some x) × (token_is x ≡ true)
      at_p k i = let e = A.each k i in (e.1.0, e.1.1.0, token_yes k e.0 e.1)

      at_q : (k : ℕ) → IsIn k q → (x : Call) × (slice_get cs k ≡ Some x) × (call_is x ≡ true)
      at_q k i = let e = B.each k i in (e.1.0, e.1.1, eq-eqb n (group_at ss (Call.step e.1.0)) (sym e.1.3))

      at_r : (k : ℕ) → IsIn k r → (x : Group) × (slice_get gs k ≡ Some x) × (group_is x ≡ true)
      at_r k i = let e = C.each k i in (e.1.0, e.1.1, eq-eqb n (group_at ss (Group.outer e.1.0)) (sym e.1.3))

      few_p : length p ≤ weight (only token_is (λ t. 1)) slots
      few_p = pick-few token_is slots p op at_p

      few_q : length q ≤ weight (only call_is (λ t. 1)) cs
      few_q = pick-few call_is cs q oq at_q

      few_r : length r ≤ weight (only group_is (λ t. 1)) gs
      few_r = pick-few group_is gs r or at_r

      all_p : (k : ℕ) (x : Token) → slice_get slots k ≡ Some x → token_is x ≡ true → IsIn k p
      all_p = pick-all token_is slots p op at_p (omega (arith, le, tokens_weigh, few_q, few_r))

      all_q : (k : ℕ) (x : Call) → slice_get cs k ≡ Some x → call_is x ≡ true → IsIn k q
      all_q = pick-all call_is cs q oq at_q (omega (arith, le, tokens_weigh, few_p, few_r))

      all_r : (k : ℕ) (x : Group) → slice_get gs k ≡ Some x → group_is x ≡ true → IsIn k r
      all_r = pick-all group_is gs r or at_r (omega (arith, le, tokens_weigh, few_p, few_q))

      token_at : {k m : ℕ} → IsTokenAt ss slots n k m → k ≡ m
      token_at h = h.2

-- ---- from place to place

pub adds-next : (Q : ℕ → ℕ → Type 0) (cs places old now held next : List ℕ) (i d m : ℕ) → cs ≡ places → Adds Q (take i places) old now → i < length cs → Q (get_or cs i d) m → held ≡ now → next ≡ held ++ m ∷ [] → Adds Q (take (i + 1) places) old next
adds-next Q cs places old now held next i d m same A lt q kept pushed =
    adds-more Q places old now next i d m A (subst (λ z. i < length z) same lt) (subst (λ z. Q (get_or z i d) m) same q) (pushed ∙ ap (λ z. z ++ m ∷ []) kept)

pub adds-end : (Q : ℕ → ℕ → Type 0) (cs places old new : List ℕ) (i : ℕ) → cs ≡ places → Adds Q (take i places) old new → length cs ≤ i → Adds Q places old new
adds-end Q cs places old new i same A le = adds-all Q places old new i A (subst (λ z. length z ≤ i) same le)

-- ---- from group to group

module _ (ss : List Step) (slots : List Token) (cs : List Call) (gs : List Group) (c : ℕ) where
  -- the members of the first so many groups are listed
  pub record IsCrowdTo (ns ts ks : List ℕ) (at : ℕ) : Type 0 where
    pub own : (g : Group) × IsIn g gs × (g.side ≡ Right c) × IsIn g.number ns
    pub groups : (m : ℕ) → IsIn m ns → ((g : Group) × IsIn g gs × (g.side ≡ Right c) × (g.number ≡ m)) ⊎ ((n : ℕ) × (k : ℕ) × IsIn n ns × IsGroupAt ss gs n k m)
    pub tokens : (m : ℕ) → IsIn m ts → (n : ℕ) × (k : ℕ) × IsIn n ns × IsTokenAt ss slots n k m
    pub calls : (m : ℕ) → IsIn m ks → (n : ℕ) × (k : ℕ) × IsIn n ns × IsCallAt ss cs n k m
    pub all : (i n : ℕ) → i < at → slice_get ns i ≡ Some n → HasAll ss slots cs gs n ns ts ks

  grown-in : (old zs new : List ℕ) (m : ℕ) → new ≡ old ++ zs → IsIn m old → IsIn m new
  grown-in old zs new m is i = subst (λ z. IsIn m z) (sym is) (in-first old zs m i)

  pub crowd-more : (ns ts ks ns' ts' ks' : List ℕ) (at n : ℕ) → IsCrowdTo ns ts ks at → slice_get ns at ≡ Some n → Gathers ss slots cs gs n ns ts ks ns' ts' ks' → IsCrowdTo ns' ts' ks' (at + 1)
  crowd-more ns ts ks ns' ts' ks' at n C got W =
      let here : IsIn n ns' = stay n (place-in ns at n got) in
      record {
        own = let o = C.own in (o.0, o.1, o.2, stay (Group.number o.0) o.3);
        groups = λ m i. ⊎_elim (λ a. ⊎_elim (λ x. inl x) (λ x. inr (x.0, x.1, stay x.0 x.2, x.3)) (C.groups m a)) (λ b. let w = W.groups.2 m b in inr (n, w.0, here, w.1)) (in-append ns W.groups.0 m (subst (λ z. IsIn m z) W.groups.1 i));
        tokens = λ m i. ⊎_elim (λ a. let x = C.tokens m a in (x.0, x.1, stay x.0 x.2, x.3)) (λ b. let w = W.tokens.2 m b in (n, w.0, here, w.1)) (in-append ts W.tokens.0 m (subst (λ z. IsIn m z) W.tokens.1 i));
        calls = λ m i. ⊎_elim (λ a. let x = C.calls m a in (x.0, x.1, stay x.0 x.2, x.3)) (λ b. let w = W.calls.2 m b in (n, w.0, here, w.1)) (in-append ks W.calls.0 m (subst (λ z. IsIn m z) W.calls.1 i));
        all = λ i n' lt got'. by_place i n' (first i n' lt got') (ℕ_discrete i at) lt;
      }
    where
      stay : (m : ℕ) → IsIn m ns → IsIn m ns'
      stay m i = grown-in ns W.groups.0 ns' m W.groups.1 i

      fits : at < length ns
      fits = place-within ns at n got

      first : (i n' : ℕ) → i < at + 1 → slice_get ns' i ≡ Some n' → slice_get ns i ≡ Some n'
      first i n' lt h = place-first ns W.groups.0 i n' (omega (arith, lt, fits)) (subst (λ z. slice_get z i ≡ Some n') W.groups.1 h)

      some_n : (a b : ℕ) → Some a ≡ Some b → a ≡ b
      some_n a b e = cc e

      grown : (n' : ℕ) → HasAll ss slots cs gs n' ns ts ks → HasAll ss slots cs gs n' ns' ts' ks'
      grown n' H = record {
        tokens = λ k m h. grown-in ts W.tokens.0 ts' m W.tokens.1 (H.tokens k m h);
        calls = λ k m h. grown-in ks W.calls.0 ks' m W.calls.1 (H.calls k m h);
        groups = λ k m h. stay m (H.groups k m h);
      }

      by_place : (i n' : ℕ) → slice_get ns i ≡ Some n' → Dec (i ≡ at) → i < at + 1 → HasAll ss slots cs gs n' ns' ts' ks'
      by_place i n' h (yes e) lt = subst (λ z. HasAll ss slots cs gs z ns' ts' ks') (some_n n n' (sym got ∙ ap (slice_get ns) (sym e) ∙ h)) W.all
      by_place i n' h (no off) lt = grown n' (C.all i n' (less i off lt) h)
        where
          less : (i : ℕ) → (i ≡ at → ⊥) → i < at + 1 → i < at
          less i off lt = by_least (at - i) refl
            where
              by_least : (d : ℕ) → at - i ≡ d → i < at
              by_least zero f = absurd (off (omega (arith, f, lt)))
              by_least (suc d) f = omega (arith, f)

  none-from : (ns : List ℕ) (at k n : ℕ) → slice_get ns at ≡ Nothing → slice_get ns k ≡ Some n → k < at
  none-from [] at k n none got = cc got
  none-from (m ∷ ns) zero k n none got = cc none
  none-from (m ∷ ns) (suc at) zero n none got = omega arith
  none-from (m ∷ ns) (suc at) (suc k) n none got = omega (arith, none-from ns at k n none got)

  pub crowd-done : (ns ts ks : List ℕ) (at : ℕ) → IsCrowdTo ns ts ks at → slice_get ns at ≡ Nothing → IsCrowd ss slots cs gs c ns ts ks
  crowd-done ns ts ks at C none =
      record {
        own = C.own;
        groups = C.groups;
        tokens = C.tokens;
        calls = C.calls;
        all = λ n i. let d = in-place ns n i in C.all d.0 n (none-from ns at d.0 n none d.1) d.1;
      }

  -- the numbers of the calls, sorted
  pub crowd-sorted : (ns ts ks ks' : List ℕ) → IsCrowd ss slots cs gs c ns ts ks → IsPermutation ks ks' → IsCrowd ss slots cs gs c ns ts ks'
  crowd-sorted ns ts ks ks' C moved =
      record {
        own = C.own;
        groups = C.groups;
        tokens = C.tokens;
        calls = λ m i. C.calls m (by_weight ks ks' m (same m) i);
        all = λ n i. let H = C.all n i in record { tokens = H.tokens; calls = λ k m h. by_weight ks' ks m (sym (same m)) (H.calls k m h); groups = H.groups };
      }
    where
      same : (m : ℕ) → weight (is_this m) ks' ≡ weight (is_this m) ks
      same m = weight-sum_by (is_this m) ks' ∙ sum_by-IsPermutation (is_this m) ks ks' moved ∙ sym (weight-sum_by (is_this m) ks)

      by_weight : (xs ys : List ℕ) (m : ℕ) → weight (is_this m) ys ≡ weight (is_this m) xs → IsIn m ys → IsIn m xs
      by_weight xs ys m e i = let d = some-in (is_this m) xs (omega (arith, e, weight-in (is_this m) ys m i, this_is m m refl)) in subst (λ z. IsIn z xs) (sym (this_one m d.0 d.2)) d.1
