-- Each step keeps the whole rule: what the seats stand for, and the balance of the words with what the seats have done for good.
use Rattle.std.proofs.Common.{◌≡◌, ◌≢◌, ℕ, zero, suc, ◌+◌, ◌%◌, ◌<◌, ◌≤◌, Bool, true, false, cond, eqb, List, [], ◌∷◌, ◌++◌, map, length, get_or, set, sum_by, refl, sym, ap, ◌∙◌, subst, ⊎_elim, arith, bit_or, eq-eqb, ne_eqb, replicate, get_or-set_same, get_or-set_other}
use Rattle.std.proofs.lemmas.List.Sums.{sum_by-cons, sum_by_push, sum_by-append}
use mathlib.Core.Logic.{dite}
use mathlib.Core.Option.{none, some, some-injective, some-ne-none}
use native.Mathlib.Decide.{ℕ_discrete}
use prog.Atomic.{either}
use lib.ListN.{get_elem?}
use lib.Seq.{map-set}
use Rattle.std.proofs.lemmas.Nat.Bits.{bit_at_or}
use Rattle.atomic_table.specs.Table.{State, step, Allows, Splits, Joins}
use Rattle.atomic_table.proofs.Lists.{at_map, at_set, at_snoc}
use Rattle.orc_word.specs.declared.bits.Bit.{Bit}
use Rattle.orc_word.specs.declared.bits.Bit.TheVariants.{Published, Killed}
use Rattle.orc_word.specs.declared.bits.Bits.{Bits}
use Rattle.orc_word.specs.declared.view.View.{View}
use Rattle.orc_word.specs.declared.view.Stance.{Stance}
use Rattle.orc_word.specs.declared.view.Stance.TheVariants.{Supplies, Parting, Idle, Names, Spent}
use Rattle.orc_word.specs.declared.view.Deed.{Deed}
use Rattle.orc_word.specs.declared.view.Deed.TheVariants.{Opened, Found, Ended, Won}
use Rattle.orc_word.specs.declared.view.Plan.{Plan}
use Rattle.orc_word.specs.Words.{count_of, bit_of, flag, has, worth, names, Rule, Held, IsIdle}
use Rattle.orc_word.specs.Views.{view_of, stance_of, begins, ends, same, wins, clears, over, some_of, Balanced, Bare, Kept, kept_deeds, given_deeds}
use Rattle.orc_word.specs.Steps.{Sat, Seated, stood, doing, seeing, if_opened, if_found, if_ended, if_won, peeked, bounded, set_aside, opened, entered, left, bits_of, marked, looked, one_less, one_more, all_kept, all_given}
use Rattle.orc_word.proofs.Numbers.{more_count, more_bit, less_count, less_bit, bit_small, mask_of, set_count, set_bit}
use Rattle.orc_word.proofs.Lists.{sum-change, item-le}
use Rattle.orc_word.proofs.Keeps as held

abbrev St : Type 0
St = State (Unit {0}) View

-- the deeds are of other groups than g
record Quiet (g : ℕ) (ds : List Deed) : Type 0 where
  pub begun : sum_by (begins g) ds ≡ 0
  pub ended : sum_by (ends g) ds ≡ 0
  pub won : (b : Bit) → sum_by (wins b g) ds ≡ 0
  pub cleared : (b : Bit) → sum_by (clears b g) ds ≡ 0

-- the word i goes from n to m, and these deeds say so
record Weighs (i n m : ℕ) (ds : List Deed) : Type 0 where
  pub begun : sum_by (begins i) ds + some_of n ≡ sum_by (ends i) ds + some_of m
  pub won : (b : Bit) → sum_by (wins b i) ds + bit_of b n ≡ sum_by (clears b i) ds + bit_of b m
  pub others : (g : ℕ) → g ≢ i → Quiet g ds

balanced_moved : (views : List View) (id : ℕ) (v : View) (w : Stance) (ds : List Deed) (g n m : ℕ) → get_elem? views id ≡ some v → Balanced views g n
    → sum_by (begins g) ds + some_of n ≡ sum_by (ends g) ds + some_of m
    → ((b : Bit) → sum_by (wins b g) ds + bit_of b n ≡ sum_by (clears b g) ds + bit_of b m)
    → Balanced (set views id (view_of w (v.deeds ++ ds))) g m
balanced_moved views id v w ds g n m at balanced begun won = record {
  begun = omega (arith, balanced.begun, begun, change (begins g), change (ends g));
  won = λ b. omega (arith, balanced.won b, won b, change (wins b g), change (clears b g));
}
  where
    change : (f : Deed → ℕ) → sum_by (over f) (set views id (view_of w (v.deeds ++ ds))) ≡ sum_by (over f) views + sum_by f ds
    change f =
        let longer : over f (view_of w (v.deeds ++ ds)) ≡ over f v + sum_by f ds = sum_by-append f v.deeds ds in
        omega (arith, longer, sum-change (over f) views id v (view_of w (v.deeds ++ ds)) at)

-- a step on what the seat stands for is one on its view
lifted : (plan : Plan) (slots id : ℕ) (me : Seated) (i : ℕ) (f : ℕ → ℕ) (then : ℕ → Sat → Type 0) (told : ℕ → Seated → Type 0) (deeds : ℕ → List Deed) → i < plan.groups
    → Allows (Held plan) slots id (stood me) i f then
    → ((s : State (Unit {0}) Stance) → Held plan s → get_elem? s.views id ≡ some me.0.stance → Weighs i (get_or s.words i 0) (f (get_or s.words i 0)) (deeds (get_or s.words i 0)))
    → (worth me.0.stance ≡ 0 → (n : ℕ) → deeds n ≡ [])
    → ((n : ℕ) (w : Stance) (c : List (ℕ × Unit {0})) → then n (w, c) → told n (view_of w (me.0.deeds ++ deeds n), c))
    → Allows (Kept plan) slots id me i f told
lifted plan slots id me i f then told deeds within allows weighs nothing tells s h homes at small =
    let flat : State (Unit {0}) Stance = record { words = s.words; homes = s.homes; views = map stance_of s.views } in
    let there : get_elem? flat.views id ≡ some me.0.stance = at_map stance_of s.views id me.0 at in
    let n : ℕ = get_or s.words i 0 in
    let m : ℕ = f n in
    let got = allows flat h.0 homes there small in
    let w : Stance = got.0 in
    let v : View = view_of w (me.0.deeds ++ deeds n) in
    let weight = weighs flat h.0 there in
    let long : i < length s.words = omega (arith, h.0.wide, within) in
    let after : Rule plan (set s.words i m) (set (map stance_of s.views) id w) = got.3 in
    let worths : worth w ≡ worth me.0.stance = omega (arith, h.0.whole, after.whole, sum-change worth (map stance_of s.views) id me.0.stance w there) in
    let here : Balanced (set s.views id v) i m = balanced_moved s.views id me.0 w (deeds n) i n m at (h.1 i within) weight.begun weight.won in (
      v,
      got.1,
      got.2,
      (
        subst (Rule plan (set s.words i m)) (sym (map-set stance_of s.views id v)) got.3,
        λ g lt. dite (ℕ_discrete g i)
            (λ e. subst (λ (x : ℕ × ℕ). Balanced (set s.views id v) x.0 x.1) (λ k. (sym e k, (sym (ap (λ (j : ℕ). get_or (set s.words i m) j 0) e ∙ get_or-set_same s.words i m 0 long)) k)) here)
            (λ ne. let quiet = weight.others g ne in subst (Balanced (set s.views id v) g) (sym (get_or-set_other s.words i g m 0 ne))
            (balanced_moved s.views id me.0 w (deeds n) g (get_or s.words g 0) (get_or s.words g 0) at (h.1 g lt) (omega (arith, quiet.begun, quiet.ended)) (λ b. omega (arith, quiet.won b, quiet.cleared b)))),
        λ p u e z. ⊎_elim
            (λ (x : (p ≡ id) × (v ≡ u)). let none_left : worth me.0.stance ≡ 0 = sym worths ∙ ap (λ (y : View). worth y.stance) x.1 ∙ z in
            ap (λ (y : View). y.deeds) (sym x.1) ∙ (λ k. h.2 id me.0 at none_left k ++ nothing none_left n k))
            (λ (x : (p ≢ id) × (get_elem? s.views p ≡ some u)). h.2 p u x.1 z)
            (at_set s.views id p v u e),
      ),
      tells n w _ got.4,
    )

-- nothing done
no_more : (ds : List Deed) → ds ++ [] ≡ ds
no_more [] = refl
no_more (d ∷ ds) = ap (λ (l : List Deed). d ∷ l) (no_more ds)

weighs_none : (i n : ℕ) → Weighs i n n []
weighs_none i n = record { begun = refl; won = λ b. refl; others = λ g ne. record { begun = refl; ended = refl; won = λ b. refl; cleared = λ b. refl } }

-- whether a word counts somebody
some_zero : (n : ℕ) → count_of n ≡ 0 → some_of n ≡ 0
some_zero n e = ap (λ b. cond b 0 1) (eq-eqb (count_of n) 0 e)

some_more : (n : ℕ) → 0 < count_of n → some_of n ≡ 1
some_more n counted = ap (λ b. cond b 0 1) (ne_eqb (count_of n) 0 (λ e. omega arith))

-- what one deed weighs for its own group, and for others
own_one : (i k : ℕ) → cond (eqb i i) k 0 ≡ k
own_one i k = ap (λ b. cond b k 0) (eq-eqb i i refl)

other_none : (g i k : ℕ) → g ≢ i → cond (eqb i g) k 0 ≡ 0
other_none g i k ne = ap (λ b. cond b k 0) (ne_eqb i g (λ e. ne (sym e)))

one : (f : Deed → ℕ) (d : Deed) → sum_by f (d ∷ []) ≡ f d
one f d = omega (arith, sum_by-cons f d [])

quiet_opened : (g i : ℕ) (found : Bits) → g ≢ i → Quiet g (Opened i found ∷ [])
quiet_opened g i found ne = record {
  begun = one (begins g) (Opened i found) ∙ other_none g i 1 ne;
  ended = one (ends g) (Opened i found);
  won = λ b. one (wins b g) (Opened i found);
  cleared = λ b. one (clears b g) (Opened i found) ∙ other_none g i (flag (has b found)) ne;
}

quiet_found : (g i : ℕ) → g ≢ i → Quiet g (Found i ∷ [])
quiet_found g i ne = record {
  begun = one (begins g) (Found i) ∙ other_none g i 1 ne;
  ended = one (ends g) (Found i);
  won = λ b. one (wins b g) (Found i);
  cleared = λ b. one (clears b g) (Found i);
}

quiet_ended : (g i : ℕ) → g ≢ i → Quiet g (Ended i ∷ [])
quiet_ended g i ne = record {
  begun = one (begins g) (Ended i);
  ended = one (ends g) (Ended i) ∙ other_none g i 1 ne;
  won = λ b. one (wins b g) (Ended i);
  cleared = λ b. one (clears b g) (Ended i);
}

quiet_won : (g i : ℕ) (c : Bit) → g ≢ i → Quiet g (Won i c ∷ [])
quiet_won g i c ne = record {
  begun = one (begins g) (Won i c);
  ended = one (ends g) (Won i c);
  won = λ b. one (wins b g) (Won i c) ∙ other_none g i (same b c) ne;
  cleared = λ b. one (clears b g) (Won i c);
}

quiet_none : (g : ℕ) → Quiet g []
quiet_none g = record { begun = refl; ended = refl; won = λ b. refl; cleared = λ b. refl }

-- one pass more
weighs_more : (i n m : ℕ) → count_of m ≡ count_of n + 1 → ((b : Bit) → bit_of b m ≡ bit_of b n) → Weighs i n m (cond (eqb (count_of n) 0) (Found i ∷ []) [])
weighs_more i n m more bits = dite (ℕ_discrete (count_of n) 0)
    (λ e. subst (λ t. Weighs i n m (cond t (Found i ∷ []) [])) (sym (eq-eqb (count_of n) 0 e)) record {
      begun = omega (arith, one (begins i) (Found i), own_one i 1, one (ends i) (Found i), some_zero n e, now);
      won = λ b. omega (arith, one (wins b i) (Found i), one (clears b i) (Found i), bits b);
      others = λ g ne. quiet_found g i ne;
    })
    (λ ne. subst (λ t. Weighs i n m (cond t (Found i ∷ []) [])) (sym (ne_eqb (count_of n) 0 ne)) record {
      begun = omega (arith, some_more n (omega (arith, ne)), now);
      won = λ b. omega (arith, bits b);
      others = λ g _. quiet_none g;
    })
  where
    now : some_of m ≡ 1
    now = some_more m (omega (arith, more))

-- one pass less
weighs_less : (i n m : ℕ) → count_of m + 1 ≡ count_of n → ((b : Bit) → bit_of b m ≡ bit_of b n) → Weighs i n m (cond (eqb (count_of n) 1) (Ended i ∷ []) [])
weighs_less i n m less bits = dite (ℕ_discrete (count_of n) 1)
    (λ e. subst (λ t. Weighs i n m (cond t (Ended i ∷ []) [])) (sym (eq-eqb (count_of n) 1 e)) record {
      begun = omega (arith, one (begins i) (Ended i), own_one i 1, one (ends i) (Ended i), was, some_zero m (omega (arith, less, e)));
      won = λ b. omega (arith, one (wins b i) (Ended i), one (clears b i) (Ended i), bits b);
      others = λ g ne. quiet_ended g i ne;
    })
    (λ ne. subst (λ t. Weighs i n m (cond t (Ended i ∷ []) [])) (sym (ne_eqb (count_of n) 1 ne)) record {
      begun = omega (arith, was, some_more m (omega (arith, less, ne)));
      won = λ b. omega (arith, bits b);
      others = λ g _. quiet_none g;
    })
  where
    was : some_of n ≡ 1
    was = some_more n (omega (arith, less))

-- a mark sets its bit and leaves the other as it was
marked_bit : (b c : Bit) (n : ℕ) → bit_of b n ≡ 0 → same c b + bit_of c n ≡ bit_of c (bit_or n (mask_of b))
marked_bit Published Published n clear = omega (arith, set_bit Published n, clear)
marked_bit Published Killed n clear = omega (arith, bit_at_or n 4294967296 33)
marked_bit Killed Published n clear = omega (arith, bit_at_or n 8589934592 32)
marked_bit Killed Killed n clear = omega (arith, set_bit Killed n, clear)

kept_bit : (b c : Bit) (n : ℕ) → bit_of b n ≢ 0 → bit_of c n ≡ bit_of c (bit_or n (mask_of b))
kept_bit Published Published n is = omega (arith, set_bit Published n, bit_small Published n, is)
kept_bit Published Killed n is = omega (arith, bit_at_or n 4294967296 33)
kept_bit Killed Published n is = omega (arith, bit_at_or n 8589934592 32)
kept_bit Killed Killed n is = omega (arith, set_bit Killed n, bit_small Killed n, is)

weighs_marked : (b : Bit) (i n : ℕ) → Weighs i n (bit_or n (mask_of b)) (cond (eqb (bit_of b n) 0) (Won i b ∷ []) [])
weighs_marked b i n = dite (ℕ_discrete (bit_of b n) 0)
    (λ e. subst (λ t. Weighs i n (bit_or n (mask_of b)) (cond t (Won i b ∷ []) [])) (sym (eq-eqb (bit_of b n) 0 e)) record {
      begun = omega (arith, one (begins i) (Won i b), one (ends i) (Won i b), counted);
      won = λ c. omega (arith, one (wins c i) (Won i b), own_one i (same c b), one (clears c i) (Won i b), marked_bit b c n e);
      others = λ g ne. quiet_won g i b ne;
    })
    (λ ne. subst (λ t. Weighs i n (bit_or n (mask_of b)) (cond t (Won i b ∷ []) [])) (sym (ne_eqb (bit_of b n) 0 ne)) record {
      begun = omega (arith, counted);
      won = λ c. omega (arith, kept_bit b c n ne);
      others = λ g _. quiet_none g;
    })
  where
    counted : some_of n ≡ some_of (bit_or n (mask_of b))
    counted = ap (λ k. cond (eqb k 0) 0 1) (sym (set_count b n))

weighs_opened : (i n : ℕ) → count_of n ≡ 0 → Weighs i n 1 (Opened i (bits_of n) ∷ [])
weighs_opened i n empty = record {
  begun = omega (arith, one (begins i) (Opened i (bits_of n)), own_one i 1, one (ends i) (Opened i (bits_of n)), some_zero n empty);
  won = λ b. omega (arith, one (wins b i) (Opened i (bits_of n)), one (clears b i) (Opened i (bits_of n)), own_one i (flag (has b (bits_of n))), held.shown b n, clear b);
  others = λ g ne. quiet_opened g i (bits_of n) ne;
}
  where
    clear : (b : Bit) → bit_of b 1 ≡ 0
    clear Published = refl
    clear Killed = refl

pub enters : (plan : Plan) (slots id : ℕ) (me : Seated) (i : ℕ) → IsIdle me.0.stance → i < plan.groups
    → Allows (Kept plan) slots id me i (λ n. (n + 1) % 18446744073709551616) (doing if_found entered (step slots i 1 0 none) me)
enters plan slots id me i idle within =
    lifted plan slots id me i (λ n. (n + 1) % 18446744073709551616) (entered (step slots i 1 0 none) (stood me)) (doing if_found entered (step slots i 1 0 none) me) (if_found (step slots i 1 0 none)) within (held.enters plan slots id (stood me) i idle within)
    (λ s h at. let n : ℕ = get_or s.words i 0 in let narrow = (h.each i within).narrow in let some_room = held.room plan s h id i within in
    weighs_more i n ((n + 1) % 18446744073709551616) (more_count n narrow some_room) (λ b. more_bit b n narrow some_room))
    (λ z n. absurd (omega (arith, z, held.idle_worth me.0.stance idle)))
    (λ n w c t. (t, refl))

pub leaves : (plan : Plan) (slots id : ℕ) (me : Seated) (i : ℕ) (seen won : Bits) → me.0.stance ≡ Names i seen won → i < plan.groups
    → Allows (Kept plan) slots id me i (λ n. (n + 18446744073709551615) % 18446744073709551616) (doing if_ended left (step slots i 1 0 none) me)
leaves plan slots id me i seen won is within =
    lifted plan slots id me i (λ n. (n + 18446744073709551615) % 18446744073709551616) (left (step slots i 1 0 none) (stood me)) (doing if_ended left (step slots i 1 0 none) me) (if_ended (step slots i 1 0 none)) within (held.leaves plan slots id (stood me) i seen won is within)
    (λ s h at. let n : ℕ = get_or s.words i 0 in let fits = h.each i within in
    let counted : 0 < count_of n = omega (arith, fits.counted, item-le (names i) s.views id (Names i seen won) (at ∙ ap some is), held.names_own i seen won) in
    weighs_less i n ((n + 18446744073709551615) % 18446744073709551616) (less_count n fits.narrow counted) (λ b. less_bit b n fits.narrow counted))
    (λ z n. let full : worth me.0.stance ≡ 1 = ap worth is in absurd (omega (arith, z, full)))
    (λ n w c t. (t, refl))

pub marks : (b : Bit) (plan : Plan) (slots id : ℕ) (me : Seated) (i : ℕ) (seen won : Bits) → me.0.stance ≡ Names i seen won → i < plan.groups
    → Allows (Kept plan) slots id me i (λ n. bit_or n (mask_of b)) (doing (if_won b) (marked b) (step slots i (mask_of b) 0 none) me)
marks b plan slots id me i seen won is within =
    lifted plan slots id me i (λ n. bit_or n (mask_of b)) (marked b (step slots i (mask_of b) 0 none) (stood me)) (doing (if_won b) (marked b) (step slots i (mask_of b) 0 none) me) (if_won b (step slots i (mask_of b) 0 none)) within (held.marks b plan slots id (stood me) i seen won is within)
    (λ s h at. weighs_marked b i (get_or s.words i 0))
    (λ z n. let full : worth me.0.stance ≡ 1 = ap worth is in absurd (omega (arith, z, full)))
    (λ n w c t. (t, refl))

pub looks : (plan : Plan) (slots id : ℕ) (me : Seated) (i : ℕ) (seen won : Bits) → me.0.stance ≡ Names i seen won → i < plan.groups
    → Allows (Kept plan) slots id me i (λ n. n) (seeing looked (step slots i 0 0 none) me)
looks plan slots id me i seen won is within =
    lifted plan slots id me i (λ n. n) (looked (step slots i 0 0 none) (stood me)) (seeing looked (step slots i 0 0 none) me) (λ n. []) within (held.looks plan slots id (stood me) i seen won is within)
    (λ s h at. weighs_none i (get_or s.words i 0))
    (λ z n. refl)
    (λ n w c t. (t, no_more me.0.deeds))

pub opens : (plan : Plan) (slots id : ℕ) (me : Seated) (i old : ℕ) → IsIdle me.0.stance → i < plan.groups → count_of old ≡ 0
    → Allows (Kept plan) slots id me i (λ n. either (eqb n old) 1 n) (doing if_opened opened (step slots i old 1 none) me)
opens plan slots id me i old idle within empty =
    lifted plan slots id me i (λ n. either (eqb n old) 1 n) (opened (step slots i old 1 none) (stood me)) (doing if_opened opened (step slots i old 1 none) me) (if_opened (step slots i old 1 none)) within (held.opens plan slots id (stood me) i old idle within empty)
    (λ s h at. weight (get_or s.words i 0))
    (λ z n. absurd (omega (arith, z, held.idle_worth me.0.stance idle)))
    (λ n w c t. (t, refl))
  where
    weight : (n : ℕ) → Weighs i n (either (eqb n old) 1 n) (cond (eqb n old) (Opened i (bits_of n) ∷ []) [])
    weight n = dite (ℕ_discrete n old)
        (λ hit. subst (λ t. Weighs i n (either t 1 n) (cond t (Opened i (bits_of n) ∷ []) [])) (sym (eq-eqb n old hit)) (weighs_opened i n (ap count_of hit ∙ empty)))
        (λ miss. subst (λ t. Weighs i n (either t 1 n) (cond t (Opened i (bits_of n) ∷ []) [])) (sym (ne_eqb n old miss)) (weighs_none i n))

pub peeks_idle : (plan : Plan) (slots id : ℕ) (me : Seated) (i : ℕ) → IsIdle me.0.stance → i < plan.groups
    → Allows (Kept plan) slots id me i (λ n. n) (seeing peeked (step slots i 0 0 none) me)
peeks_idle plan slots id me i idle within =
    lifted plan slots id me i (λ n. n) (peeked (step slots i 0 0 none) (stood me)) (seeing peeked (step slots i 0 0 none) me) (λ n. []) within (held.peeks_idle plan slots id (stood me) i idle within)
    (λ s h at. weighs_none i (get_or s.words i 0))
    (λ z n. refl)
    (λ n w c t. (t, no_more me.0.deeds))

pub bounds : (plan : Plan) (slots id : ℕ) (me : Seated) (i k : ℕ) → me.0.stance ≡ Supplies k → i < plan.groups
    → Allows (Kept plan) slots id me i (λ n. n) (seeing bounded (step slots i 0 0 none) me)
bounds plan slots id me i k is within =
    lifted plan slots id me i (λ n. n) (bounded (step slots i 0 0 none) (stood me)) (seeing bounded (step slots i 0 0 none) me) (λ n. []) within (held.bounds plan slots id (stood me) i k is within)
    (λ s h at. weighs_none i (get_or s.words i 0))
    (λ z n. refl)
    (λ n w c t. (t, no_more me.0.deeds))

pub sets_aside : (plan : Plan) (slots id : ℕ) (me : Seated) (i k j : ℕ) → me.0.stance ≡ Supplies k → j ≤ k → i < plan.groups
    → Allows (Kept plan) slots id me i (λ n. either (eqb n j) j n) (seeing set_aside (step slots i j j none) me)
sets_aside plan slots id me i k j is le within =
    lifted plan slots id me i (λ n. either (eqb n j) j n) (set_aside (step slots i j j none) (stood me)) (seeing set_aside (step slots i j j none) me) (λ n. []) within (held.sets_aside plan slots id (stood me) i k j is le within)
    (λ s h at. weight (get_or s.words i 0))
    (λ z n. refl)
    (λ n w c t. (t, no_more me.0.deeds))
  where
    weight : (n : ℕ) → Weighs i n (either (eqb n j) j n) []
    weight n = dite (ℕ_discrete n j)
        (λ hit. subst (λ t. Weighs i n (either t j n) []) (sym (eq-eqb n j hit)) (subst (λ x. Weighs i n x []) hit (weighs_none i n)))
        (λ miss. subst (λ t. Weighs i n (either t j n) []) (sym (ne_eqb n j miss)) (weighs_none i n))

map_snoc : (views : List View) (u : View) → map stance_of (views ++ u ∷ []) ≡ map stance_of views ++ stance_of u ∷ []
map_snoc [] u = refl
map_snoc (v ∷ vs) u = ap (λ (l : List Stance). v.stance ∷ l) (map_snoc vs u)

-- the deeds of a split seat are all in one of the two
shared_out : (f : Deed → ℕ) (b : Bool) (ds : List Deed) → sum_by f (cond b [] ds) + sum_by f (cond b ds []) ≡ sum_by f ds
shared_out f true ds = omega arith
shared_out f false ds = omega arith

-- a split of what a seat stands for is one of its view
split : (plan : Plan) (id : ℕ) (v : View) (l r : Stance) → Splits (Held plan) id v.stance l r → Splits (Kept plan) id v (view_of l (kept_deeds l v.deeds)) (view_of r (given_deeds l v.deeds))
split plan id v l r splits s h at =
    let first : View = view_of l (kept_deeds l v.deeds) in
    let second : View = view_of r (given_deeds l v.deeds) in
    let flat : State (Unit {0}) Stance = record { words = s.words; homes = s.homes; views = map stance_of s.views } in
    let there : get_elem? flat.views id ≡ some v.stance = at_map stance_of s.views id v at in
    let got : Rule plan s.words (set (map stance_of s.views) id l ++ r ∷ []) = splits flat h.0 there in
    let worths : worth l + worth r ≡ worth v.stance = omega (arith, h.0.whole, got.whole, sum_by_push worth (set (map stance_of s.views) id l) r, sum-change worth (map stance_of s.views) id v.stance l there) in
    let stances : map stance_of (set s.views id first ++ second ∷ []) ≡ set (map stance_of s.views) id l ++ r ∷ [] =
    map_snoc (set s.views id first) second ∙ ap (λ (x : List Stance). x ++ r ∷ []) (map-set stance_of s.views id first) in
    let change : (f : Deed → ℕ) → sum_by (over f) (set s.views id first ++ second ∷ []) ≡ sum_by (over f) s.views =
    λ f. let out : over f first + over f second ≡ over f v = shared_out f (eqb (worth l) 0) v.deeds in
    omega (arith, out, sum_by_push (over f) (set s.views id first) second, sum-change (over f) s.views id v first at) in
    let bare_first : worth l ≡ 0 → first.deeds ≡ [] = λ z. ap (λ b. cond b [] v.deeds) (eq-eqb (worth l) 0 z) in
    let bare_second : worth r ≡ 0 → second.deeds ≡ [] = λ z. dite (ℕ_discrete (worth l) 0)
    (λ e. ap (λ b. cond b v.deeds []) (eq-eqb (worth l) 0 e) ∙ h.2 id v at (omega (arith, worths, z, e)))
    (λ ne. ap (λ b. cond b v.deeds []) (ne_eqb (worth l) 0 ne)) in (
      subst (Rule plan s.words) (sym stances) got,
      λ g lt. let balanced = h.1 g lt in record {
        begun = omega (arith, balanced.begun, change (begins g), change (ends g));
        won = λ b. omega (arith, balanced.won b, change (wins b g), change (clears b g));
      },
      λ p u e z. ⊎_elim
          (λ (old : get_elem? (set s.views id first) p ≡ some u). ⊎_elim
          (λ (x : (p ≡ id) × (first ≡ u)). subst (λ (y : View). worth y.stance ≡ 0 → y.deeds ≡ []) x.1 bare_first z)
          (λ (x : (p ≢ id) × (get_elem? s.views p ≡ some u)). h.2 p u x.1 z)
          (at_set s.views id p first u old))
          (λ (new : second ≡ u). subst (λ (y : View). worth y.stance ≡ 0 → y.deeds ≡ []) new bare_second z)
          (at_snoc (set s.views id first) second u p e),
    )

pub takes : (plan : Plan) (id : ℕ) (v : View) (k : ℕ) → v.stance ≡ Supplies k → 0 < k
    → Splits (Kept plan) id v (view_of (one_less v.stance) (kept_deeds (one_less v.stance) v.deeds)) (view_of Idle (given_deeds (one_less v.stance) v.deeds))
takes plan id v k is some_left = split plan id v (one_less v.stance) Idle (held.takes plan id v.stance k is some_left)

pub parts : (plan : Plan) (id : ℕ) (v : View) (k j : ℕ) → v.stance ≡ Parting k j
    → Splits (Kept plan) id v (view_of (all_kept v.stance) (kept_deeds (all_kept v.stance) v.deeds)) (view_of (all_given v.stance) (given_deeds (all_kept v.stance) v.deeds))
parts plan id v k j is = split plan id v (all_kept v.stance) (all_given v.stance) (held.parts plan id v.stance k j is)

-- a supply takes in what the pass has done
pub gives : (plan : Plan) (id : ℕ) (v : View) (k other : ℕ) (u : View) → v.stance ≡ Supplies k → IsIdle u.stance → Joins (Kept plan) id v other u (view_of (one_more v.stance) (v.deeds ++ u.deeds)) (view_of Spent [])
gives plan id v k other u is idle s h at apart there =
    let both : View = view_of (one_more v.stance) (v.deeds ++ u.deeds) in
    let spent : View = view_of Spent [] in
    let flat : State (Unit {0}) Stance = record { words = s.words; homes = s.homes; views = map stance_of s.views } in
    let there' : get_elem? (set (map stance_of s.views) id (one_more v.stance)) other ≡ some u.stance =
    subst (λ (l : List Stance). get_elem? l other ≡ some u.stance) (map-set stance_of s.views id both) (at_map stance_of (set s.views id both) other u there) in
    let got = held.gives plan id v.stance k other u.stance is idle flat h.0 (at_map stance_of s.views id v at) apart there' in
    let stances : map stance_of (set (set s.views id both) other spent) ≡ set (set (map stance_of s.views) id (one_more v.stance)) other Spent =
    map-set stance_of (set s.views id both) other spent ∙ ap (λ (l : List Stance). set l other Spent) (map-set stance_of s.views id both) in
    let change : (f : Deed → ℕ) → sum_by (over f) (set (set s.views id both) other spent) ≡ sum_by (over f) s.views =
    λ f. let together : over f both ≡ over f v + over f u = sum_by-append f v.deeds u.deeds in
    omega (arith, together, sum-change (over f) (set s.views id both) other u spent there, sum-change (over f) s.views id v both at) in (
      subst (Rule plan s.words) (sym stances) got,
      λ g lt. let balanced = h.1 g lt in record {
        begun = omega (arith, balanced.begun, change (begins g), change (ends g));
        won = λ b. omega (arith, balanced.won b, change (wins b g), change (clears b g));
      },
      λ p x e z. ⊎_elim
          (λ (y : (p ≡ other) × (spent ≡ x)). ap (λ (t : View). t.deeds) (sym y.1))
          (λ (y : (p ≢ other) × (get_elem? (set s.views id both) p ≡ some x)). ⊎_elim
          (λ (t : (p ≡ id) × (both ≡ x)). let full : worth (one_more v.stance) ≡ k + 1 = ap (λ (q : Stance). worth (one_more q)) is in
          let zero_there' : worth (one_more v.stance) ≡ 0 = ap (λ (q : View). worth q.stance) t.1 ∙ z in absurd (omega (arith, full, zero_there')))
          (λ (t : (p ≢ id) × (get_elem? s.views p ≡ some x)). h.2 p x t.1 z)
          (at_set s.views id p both x y.1))
          (at_set (set s.views id both) other p spent x e),
    )

-- the start: nothing done, all words 0
pub begins_zeros : (groups passes : ℕ) (words : List ℕ) → passes < 2147483648 → words ≡ replicate groups 0
    → Kept record { groups = groups; passes = passes } record { words = words; homes = []; views = view_of (Supplies passes) [] ∷ [] }
begins_zeros groups passes words few zeros = (
  held.begins_zeros groups passes words few zeros,
  λ g lt. subst (Balanced (view_of (Supplies passes) [] ∷ []) g) (sym (ap (λ (l : List ℕ). get_or l g 0) zeros ∙ held.zero_there groups g)) record {
    begun = refl;
    won = λ b. omega (arith, clear b);
  },
  bare,
)
  where
    first : View
    first = view_of (Supplies passes) []

    bare : Bare (first ∷ [])
    bare zero v e z = ap (λ (t : View). t.deeds) (sym (some-injective first v e))
    bare (suc p) v e z = absurd (some-ne-none v (sym e))

    clear : (b : Bit) → 0 ≡ bit_of b 0
    clear Published = refl
    clear Killed = refl
