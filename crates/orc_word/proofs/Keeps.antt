-- Each step keeps the rule over what the seats stand for.
use Rattle.std.proofs.Common.{◌≡◌, ◌≢◌, ℕ, zero, suc, ◌+◌, ◌-◌, ◌%◌, ◌<◌, ◌≤◌, Bool, true, false, cond, eqb, Option, Some, None, List, [], ◌∷◌, ◌++◌, length, get_or, set, refl, sym, ap, ◌∙◌, subst, ⊎_elim, arith, bit_or, eq-eqb, ne_eqb, length-set, replicate, get_or-set_same, get_or-set_other}
use Rattle.std.proofs.lemmas.List.{length-replicate}
use Rattle.std.proofs.lemmas.List.Sums.{sum_by-cons, sum_by_push}
use mathlib.Core.Logic.{dite}
use mathlib.Core.Option.{none, some, some-injective, some-ne-none}
use native.Mathlib.Decide.{ℕ_discrete}
use prog.Atomic.{either}
use lib.ListN.{get_elem?}
use Rattle.atomic_table.specs.Table.{State, step, keeps, stepped, Allows, Splits, Joins}
use Rattle.atomic_table.proofs.Lists.{at_set, at_snoc, exchanged}
use Rattle.orc_word.specs.declared.bits.Bit.{Bit}
use Rattle.orc_word.specs.declared.bits.Bit.TheVariants.{Published, Killed}
use Rattle.orc_word.specs.declared.bits.Bits.{Bits}
use Rattle.orc_word.specs.declared.view.Stance.{Stance}
use Rattle.orc_word.specs.declared.view.Stance.TheVariants.{Supplies, Parting, Idle, Names, Spent}
use Rattle.orc_word.specs.declared.view.Plan.{Plan}
use Rattle.orc_word.specs.Words.{count_of, bit_of, flag, has, no_bits, with_bit, Covers, worth, names, has_seen, has_won, Fits, Held, IsIdle, IsPass, group_in}
use Rattle.orc_word.specs.Steps.{Sat, peeked, bounded, set_aside, opened, entered, left, bits_of, marked, looked, one_less, one_more, all_kept, all_given}
use Rattle.orc_word.proofs.Numbers.{more_count, more_bit, more_narrow, less_count, less_bit, less_narrow, bit_small, mask_of, set_count, set_narrow, set_bit, set_keeps}
use Rattle.orc_word.proofs.Lists.{sum-change, item-le, sum-le}

abbrev St : Type 0
St = State (Unit {0}) Stance

-- the view says nothing of word g
pub record Silent (g : ℕ) (v : Stance) : Type 0 where
  pub names_not : names g v ≡ 0
  pub seen_not : (b : Bit) → has_seen b g v ≡ 0
  pub won_not : (b : Bit) → has_won b g v ≡ 0

silent_supply : (g k : ℕ) → Silent g (Supplies k)
silent_supply g k = record { names_not = refl; seen_not = λ b. refl; won_not = λ b. refl }

silent_parting : (g k j : ℕ) → Silent g (Parting k j)
silent_parting g k j = record { names_not = refl; seen_not = λ b. refl; won_not = λ b. refl }

silent_idle : (g : ℕ) → Silent g Idle
silent_idle g = record { names_not = refl; seen_not = λ b. refl; won_not = λ b. refl }

-- an idle pass says nothing of any word
idle_silent : (v : Stance) → IsIdle v → (g : ℕ) → Silent g v
idle_silent (Supplies k) i g = absurd i
idle_silent (Parting k j) i g = absurd i
idle_silent Idle i g = silent_idle g
idle_silent (Names h seen won) i g = absurd i
idle_silent Spent i g = absurd i

pub idle_worth : (v : Stance) → IsIdle v → worth v ≡ 1
idle_worth (Supplies k) i = absurd i
idle_worth (Parting k j) i = absurd i
idle_worth Idle i = refl
idle_worth (Names h seen won) i = absurd i
idle_worth Spent i = absurd i

silent_spent : (g : ℕ) → Silent g Spent
silent_spent g = record { names_not = refl; seen_not = λ b. refl; won_not = λ b. refl }

silent_other : (g i : ℕ) (seen won : Bits) → g ≢ i → Silent g (Names i seen won)
silent_other g i seen won apart =
    let off : eqb i g ≡ false = ne_eqb i g (λ e. apart (sym e)) in
    record { names_not = ap (λ b. cond b 1 0) off; seen_not = λ b. ap (λ c. cond c (flag (has b seen)) 0) off; won_not = λ b. ap (λ c. cond c (flag (has b won)) 0) off }

-- what a view says of the group that it names
pub names_own : (i : ℕ) (seen won : Bits) → names i (Names i seen won) ≡ 1
names_own i seen won = ap (λ b. cond b 1 0) (eq-eqb i i refl)

seen_own : (b : Bit) (i : ℕ) (seen won : Bits) → has_seen b i (Names i seen won) ≡ flag (has b seen)
seen_own b i seen won = ap (λ c. cond c (flag (has b seen)) 0) (eq-eqb i i refl)

won_own : (b : Bit) (i : ℕ) (seen won : Bits) → has_won b i (Names i seen won) ≡ flag (has b won)
won_own b i seen won = ap (λ c. cond c (flag (has b won)) 0) (eq-eqb i i refl)

flag-le : (b : Bool) → flag b ≤ 1
flag-le true = omega arith
flag-le false = omega arith

cond-le : (c b : Bool) → cond c (flag b) 0 ≤ cond c 1 0
cond-le true b = flag-le b
cond-le false b = omega arith

-- who does not name a group has neither seen nor won its bits
seen-le : (b : Bit) (g : ℕ) (v : Stance) → has_seen b g v ≤ names g v
seen-le b g (Supplies k) = omega arith
seen-le b g (Parting k j) = omega arith
seen-le b g Idle = omega arith
seen-le b g (Names h seen won) = cond-le (eqb h g) (has b seen)
seen-le b g Spent = omega arith

won-le : (b : Bit) (g : ℕ) (v : Stance) → has_won b g v ≤ names g v
won-le b g (Supplies k) = omega arith
won-le b g (Parting k j) = omega arith
won-le b g Idle = omega arith
won-le b g (Names h seen won) = cond-le (eqb h g) (has b won)
won-le b g Spent = omega arith

names-le : (g : ℕ) (v : Stance) → names g v ≤ worth v
names-le g (Supplies k) = omega arith
names-le g (Parting k j) = omega arith
names-le g Idle = omega arith
names-le g (Names h seen won) = flag-le (eqb h g)
names-le g Spent = omega arith

-- a view changes, and the word with it
fits_moved : (views : List Stance) (id i n m : ℕ) (v w : Stance) → get_elem? views id ≡ some v → Fits views i n
    → count_of m + names i v ≡ count_of n + names i w
    → ((b : Bit) → bit_of b n ≤ bit_of b m)
    → ((b : Bit) → has_seen b i w ≤ bit_of b m)
    → ((b : Bit) → bit_of b n + has_won b i w ≤ bit_of b m + has_won b i v)
    → m < 17179869184
    → Fits (set views id w) i m
fits_moved views id i n m v w at fits counted grows seen won narrow = record {
  counted = omega (arith, fits.counted, sum-change (names i) views id v w at);
  seen = λ b by u e. ⊎_elim
      (λ (t : (by ≡ id) × (w ≡ u)). subst (λ x. has_seen b i x ≤ bit_of b m) t.1 (seen b))
      (λ (t : (by ≢ id) × (get_elem? views by ≡ some u)). omega (arith, fits.seen b by u t.1, grows b))
      (at_set views id by w u e);
  won = λ b. omega (arith, fits.won b, sum-change (has_won b i) views id v w at, won b);
  narrow = narrow;
}

-- a view that says nothing of the word changes to another such
fits_silent : (views : List Stance) (id g n : ℕ) (v w : Stance) → get_elem? views id ≡ some v → Fits views g n → Silent g v → Silent g w → Fits (set views id w) g n
fits_silent views id g n v w at fits was is =
    fits_moved views id g n n v w at fits (omega (arith, was.names_not, is.names_not)) (λ b. omega arith) (λ b. omega (arith, is.seen_not b)) (λ b. omega (arith, was.won_not b, is.won_not b)) fits.narrow

-- the seat id steps on the word i
moved : (plan : Plan) (s : St) (h : Held plan s) (id i m : ℕ) (c : List (ℕ × Unit {0})) (v w : Stance) → get_elem? s.views id ≡ some v → i < plan.groups
    → worth w ≡ worth v
    → ((g : ℕ) → g ≢ i → Silent g v × Silent g w)
    → Fits (set s.views id w) i m
    → Held plan (stepped s i m id c w keeps)
moved plan s h id i m c v w at within same silent here = record {
  few = h.few;
  wide = length-set s.words i m ∙ h.wide;
  whole = omega (arith, h.whole, sum-change worth s.views id v w at, same);
  each = λ g lt. dite (ℕ_discrete g i)
      (λ e. let long : i < length s.words = omega (arith, h.wide) in
      subst (λ (x : ℕ × ℕ). Fits (set s.views id w) x.0 x.1) (λ k. (sym e k, (sym (ap (λ (j : ℕ). get_or (set s.words i m) j 0) e ∙ get_or-set_same s.words i m 0 long)) k)) here)
      (λ ne. subst (Fits (set s.views id w) g) (sym (get_or-set_other s.words i g m 0 ne)) (fits_silent s.views id g (get_or s.words g 0) v w at (h.each g lt) (silent g ne).0 (silent g ne).1));
}

-- a word counts fewer than all passes, which are fewer than 2 ^ 31
pub room : (plan : Plan) (s : St) (h : Held plan s) (id g : ℕ) → g < plan.groups → count_of (get_or s.words g 0) + 1 < 4294967296
room plan s h id g lt = omega (arith, (h.each g lt).counted, sum-le (names g) worth (names-le g) s.views, h.whole, h.few)

pub enters : (plan : Plan) (slots id : ℕ) (me : Sat) (i : ℕ) → IsIdle me.0 → i < plan.groups
    → Allows (Held plan) slots id me i (λ n. (n + 1) % 18446744073709551616) (entered (step slots i 1 0 none) me)
enters plan slots id me i idle within s h _ at small =
    let n : ℕ = get_or s.words i 0 in
    let w : Stance = Names i no_bits no_bits in
    let fits = h.each i within in
    let some_room = room plan s h id i within in
    let silent = idle_silent me.0 idle in (
      w,
      keeps,
      tt,
      moved plan s h id i ((n + 1) % 18446744073709551616) me.1 me.0 w at within (sym (idle_worth me.0 idle)) (λ g ne. (silent g, silent_other g i no_bits no_bits ne))
          (fits_moved s.views id i n ((n + 1) % 18446744073709551616) me.0 w at fits
          (omega (arith, more_count n fits.narrow some_room, names_own i no_bits no_bits, (silent i).names_not))
          (λ b. omega (arith, more_bit b n fits.narrow some_room))
          (λ b. omega (arith, seen_own b i no_bits no_bits, none_there b))
          (λ b. omega (arith, won_own b i no_bits no_bits, none_there b, more_bit b n fits.narrow some_room))
          (more_narrow n fits.narrow some_room)),
      refl,
    )
  where
    none_there : (b : Bit) → flag (has b no_bits) ≡ 0
    none_there Published = refl
    none_there Killed = refl

pub leaves : (plan : Plan) (slots id : ℕ) (me : Sat) (i : ℕ) (seen won : Bits) → me.0 ≡ Names i seen won → i < plan.groups
    → Allows (Held plan) slots id me i (λ n. (n + 18446744073709551615) % 18446744073709551616) (left (step slots i 1 0 none) me)
leaves plan slots id me i seen won is within s h _ at small =
    let n : ℕ = get_or s.words i 0 in
    let v : Stance = Names i seen won in
    let w : Stance = Idle in
    let silent = silent_idle in
    let fits = h.each i within in
    let at' : get_elem? s.views id ≡ some v = at ∙ ap some is in
    let counted : 0 < count_of n = omega (arith, fits.counted, item-le (names i) s.views id v at', names_own i seen won) in (
      w,
      keeps,
      tt,
      moved plan s h id i ((n + 18446744073709551615) % 18446744073709551616) me.1 v w at' within refl (λ g ne. (silent_other g i seen won ne, silent g))
          (fits_moved s.views id i n ((n + 18446744073709551615) % 18446744073709551616) v w at' fits
          (omega (arith, less_count n fits.narrow counted, names_own i seen won, (silent i).names_not))
          (λ b. omega (arith, less_bit b n fits.narrow counted))
          (λ b. omega (arith, (silent i).seen_not b))
          (λ b. omega (arith, less_bit b n fits.narrow counted, (silent i).won_not b))
          (less_narrow n fits.narrow counted)),
      refl,
    )

-- the bits after a mark
seen_after : (b c : Bit) (seen : Bits) (n m : ℕ) → flag (has c seen) ≤ bit_of c n → bit_of c n ≤ bit_of c m → bit_of b m ≡ 1 → flag (has c (with_bit b seen)) ≤ bit_of c m
seen_after Published Published seen n m le grows set = omega arith
seen_after Published Killed seen n m le grows set = omega arith
seen_after Killed Published seen n m le grows set = omega arith
seen_after Killed Killed seen n m le grows set = omega arith

won_after : (b c : Bit) (won : Bits) (n m : ℕ) → bit_of c n ≤ bit_of c m → bit_of b m ≡ 1 → Dec (bit_of b n ≡ 0)
    → bit_of c n + flag (has c (cond (eqb (bit_of b n) 0) (with_bit b won) won)) ≤ bit_of c m + flag (has c won)
won_after b c won n m grows set (no not) = subst (λ t. bit_of c n + flag (has c (cond t (with_bit b won) won)) ≤ bit_of c m + flag (has c won)) (sym (ne_eqb (bit_of b n) 0 not)) (omega arith)
won_after b c won n m grows set (yes clear) = subst (λ t. bit_of c n + flag (has c (cond t (with_bit b won) won)) ≤ bit_of c m + flag (has c won)) (sym (eq-eqb (bit_of b n) 0 clear)) (one b c clear grows set)
  where
    one : (b c : Bit) → bit_of b n ≡ 0 → bit_of c n ≤ bit_of c m → bit_of b m ≡ 1 → bit_of c n + flag (has c (with_bit b won)) ≤ bit_of c m + flag (has c won)
    one Published Published clear grows set = omega arith
    one Published Killed clear grows set = omega arith
    one Killed Published clear grows set = omega arith
    one Killed Killed clear grows set = omega arith

abbrev after_mark : Bit → ℕ → Sat → ℕ → Bits → Bits → Sat
after_mark b i me n seen won = (Names i (with_bit b seen) (cond (eqb (bit_of b n) 0) (with_bit b won) won), me.1)

pub marks : (b : Bit) (plan : Plan) (slots id : ℕ) (me : Sat) (i : ℕ) (seen won : Bits) → me.0 ≡ Names i seen won → i < plan.groups
    → Allows (Held plan) slots id me i (λ n. bit_or n (mask_of b)) (marked b (step slots i (mask_of b) 0 none) me)
marks b plan slots id me i seen won is within s h _ at small =
    let n : ℕ = get_or s.words i 0 in
    let m : ℕ = bit_or n (mask_of b) in
    let v : Stance = Names i seen won in
    let seen' : Bits = with_bit b seen in
    let won' : Bits = cond (eqb (bit_of b n) 0) (with_bit b won) won in
    let w : Stance = Names i seen' won' in
    let fits = h.each i within in
    let at' : get_elem? s.views id ≡ some v = at ∙ ap some is in (
      w,
      keeps,
      tt,
      moved plan s h id i m me.1 v w at' within refl (λ g ne. (silent_other g i seen won ne, silent_other g i seen' won' ne))
          (fits_moved s.views id i n m v w at' fits
          (omega (arith, set_count b n, names_own i seen won, names_own i seen' won'))
          (λ c. set_keeps b c n)
          (λ c. let le : flag (has c seen) ≤ bit_of c n = subst (λ x. x ≤ bit_of c n) (seen_own c i seen won) (fits.seen c id v at') in
          subst (λ x. x ≤ bit_of c m) (sym (seen_own c i seen' won')) (seen_after b c seen n m le (set_keeps b c n) (set_bit b n)))
          (λ c. omega (arith, won_own c i seen won, won_own c i seen' won', won_after b c won n m (set_keeps b c n) (set_bit b n) (ℕ_discrete (bit_of b n) 0)))
          (set_narrow b n fits.narrow)),
      λ seen₁ won₁ is₁. same seen₁ won₁ n is₁ (subst (λ x. x ≤ bit_of b n) (seen_own b i seen won) (fits.seen b id v at')),
    )
  where
    same : (seen₁ won₁ : Bits) (n : ℕ) → me.0 ≡ Names i seen₁ won₁ → flag (has b seen) ≤ bit_of b n → (after_mark b i me n seen won ≡ after_mark b i me n seen₁ won₁) × (flag (has b seen₁) ≤ bit_of b n)
    same seen₁ won₁ n is₁ le =
        let e : Names i seen won ≡ Names i seen₁ won₁ = sym is ∙ is₁ in
        let p : seen ≡ seen₁ = cc in
        let q : won ≡ won₁ = cc in
        ((λ k. after_mark b i me n (p k) (q k)), subst (λ x. flag (has b x) ≤ bit_of b n) p le)

-- the bits of a word are those that it shows
flag_bit : (x : ℕ) → x < 2 → flag (eqb x 1) ≡ x
flag_bit x small = dite (ℕ_discrete x 1) (λ e. ap flag (eq-eqb x 1 e) ∙ sym e) (λ ne. let z : x ≡ 0 = omega arith in ap flag (ne_eqb x 1 ne) ∙ sym z)

pub shown : (b : Bit) (n : ℕ) → flag (has b (bits_of n)) ≡ bit_of b n
shown Published n = flag_bit _ (bit_small Published n)
shown Killed n = flag_bit _ (bit_small Killed n)

abbrev after_look : ℕ → Sat → ℕ → Bits → Sat
after_look i me n won = (Names i (bits_of n) won, me.1)

pub looks : (plan : Plan) (slots id : ℕ) (me : Sat) (i : ℕ) (seen won : Bits) → me.0 ≡ Names i seen won → i < plan.groups
    → Allows (Held plan) slots id me i (λ n. n) (looked (step slots i 0 0 none) me)
looks plan slots id me i seen won is within s h _ at small =
    let n : ℕ = get_or s.words i 0 in
    let v : Stance = Names i seen won in
    let w : Stance = Names i (bits_of n) won in
    let fits = h.each i within in
    let at' : get_elem? s.views id ≡ some v = at ∙ ap some is in
    let seen_le : (b : Bit) → flag (has b seen) ≤ bit_of b n = λ b. subst (λ x. x ≤ bit_of b n) (seen_own b i seen won) (fits.seen b id v at') in (
      w,
      keeps,
      tt,
      moved plan s h id i n me.1 v w at' within refl (λ g ne. (silent_other g i seen won ne, silent_other g i (bits_of n) won ne))
          (fits_moved s.views id i n n v w at' fits
          (omega (arith, names_own i seen won, names_own i (bits_of n) won))
          (λ b. omega arith)
          (λ b. omega (arith, seen_own b i (bits_of n) won, shown b n))
          (λ b. omega (arith, won_own b i seen won, won_own b i (bits_of n) won))
          fits.narrow),
      λ seen₁ won₁ is₁. told seen₁ won₁ n is₁ seen_le,
    )
  where
    told : (seen₁ won₁ : Bits) (n : ℕ) → me.0 ≡ Names i seen₁ won₁ → ((b : Bit) → flag (has b seen) ≤ bit_of b n) → (after_look i me n won ≡ after_look i me n won₁) × Covers seen₁ (bits_of n)
    told seen₁ won₁ n is₁ le =
        let e : Names i seen won ≡ Names i seen₁ won₁ = sym is ∙ is₁ in
        let p : seen ≡ seen₁ = cc in
        let q : won ≡ won₁ = cc in
        (ap (after_look i me n) q, λ b. subst (λ x. flag (has b x) ≤ flag (has b (bits_of n))) p (omega (arith, le b, shown b n)))

-- a step that changes no word and whose seat says nothing of any
kept_aside : (plan : Plan) (s : St) (h : Held plan s) (id i : ℕ) (c : List (ℕ × Unit {0})) (v w : Stance) → get_elem? s.views id ≡ some v → i < plan.groups
    → worth w ≡ worth v → ((g : ℕ) → Silent g v) → ((g : ℕ) → Silent g w)
    → Held plan (stepped s i (get_or s.words i 0) id c w keeps)
kept_aside plan s h id i c v w at within same was is =
    moved plan s h id i (get_or s.words i 0) c v w at within same (λ g _. (was g, is g)) (fits_silent s.views id i (get_or s.words i 0) v w at (h.each i within) (was i) (is i))

-- a load of any seat that tells nothing
pub peeks : (plan : Plan) (slots id : ℕ) (me : Sat) (i : ℕ) → ((g : ℕ) → Silent g me.0) → i < plan.groups
    → Allows (Held plan) slots id me i (λ n. n) (peeked (step slots i 0 0 none) me)
peeks plan slots id me i silent within s h _ at small = (me.0, keeps, tt, kept_aside plan s h id i me.1 me.0 me.0 at within refl silent silent, refl)

pub peeks_idle : (plan : Plan) (slots id : ℕ) (me : Sat) (i : ℕ) → IsIdle me.0 → i < plan.groups
    → Allows (Held plan) slots id me i (λ n. n) (peeked (step slots i 0 0 none) me)
peeks_idle plan slots id me i idle within = peeks plan slots id me i (idle_silent me.0 idle) within

pub bounds : (plan : Plan) (slots id : ℕ) (me : Sat) (i k : ℕ) → me.0 ≡ Supplies k → i < plan.groups
    → Allows (Held plan) slots id me i (λ n. n) (bounded (step slots i 0 0 none) me)
bounds plan slots id me i k is within s h _ at small = (
  me.0,
  keeps,
  tt,
  kept_aside plan s h id i me.1 me.0 me.0 at within refl silent silent,
  (refl, λ k₁ is₁. omega (arith, ap worth is₁, item-le worth s.views id me.0 at, h.whole, h.few)),
)
  where
    silent : (g : ℕ) → Silent g me.0
    silent g = subst (Silent g) (sym is) (silent_supply g k)

abbrev after_aside : Sat → ℕ → ℕ → Sat
after_aside me j k = (Parting (k - j) j, me.1)

-- the exchange of a number for itself, which changes no word, sets passes aside
pub sets_aside : (plan : Plan) (slots id : ℕ) (me : Sat) (i k j : ℕ) → me.0 ≡ Supplies k → j ≤ k → i < plan.groups
    → Allows (Held plan) slots id me i (λ n. either (eqb n j) j n) (set_aside (step slots i j j none) me)
sets_aside plan slots id me i k j is le within s h _ at small =
    let n : ℕ = get_or s.words i 0 in
    let w : Stance = Parting (k - j) j in
    let at' : get_elem? s.views id ≡ some (Supplies k) = at ∙ ap some is in (
      w,
      keeps,
      tt,
      exchanged n j j (λ m. Held plan (stepped s i m id me.1 w keeps)) (λ e. subst (λ m. Held plan (stepped s i m id me.1 w keeps)) e (same at')) (λ _. same at'),
      λ k₁ is₁. told k₁ is₁,
    )
  where
    same : get_elem? s.views id ≡ some (Supplies k) → Held plan (stepped s i (get_or s.words i 0) id me.1 (Parting (k - j) j) keeps)
    same at' = kept_aside plan s h id i me.1 (Supplies k) (Parting (k - j) j) at' within (omega arith) (λ g. silent_supply g k) (λ g. silent_parting g (k - j) j)

    told : (k₁ : ℕ) → me.0 ≡ Supplies k₁ → after_aside me j k ≡ after_aside me j k₁
    told k₁ is₁ = let e : k ≡ k₁ = omega (arith, ap worth is, ap worth is₁) in ap (after_aside me j) e

-- a new seat that says nothing of any word
snoc_kept : (plan : Plan) (s : St) (h : Held plan s) (id : ℕ) (v w u : Stance) → get_elem? s.views id ≡ some v
    → worth w + worth u ≡ worth v → ((g : ℕ) → Silent g v) → ((g : ℕ) → Silent g w) → ((g : ℕ) → Silent g u)
    → Held plan record { words = s.words; homes = s.homes; views = set s.views id w ++ u ∷ [] }
snoc_kept plan s h id v w u at same was is new = record {
  few = h.few;
  wide = h.wide;
  whole = omega (arith, sum_by_push worth (set s.views id w) u, sum-change worth s.views id v w at, h.whole);
  each = λ g lt. let fits = fits_silent s.views id g (get_or s.words g 0) v w at (h.each g lt) (was g) (is g) in record {
    counted = omega (arith, fits.counted, sum_by_push (names g) (set s.views id w) u, (new g).names_not);
    seen = λ b by x e. ⊎_elim
        (λ (t : get_elem? (set s.views id w) by ≡ some x). fits.seen b by x t)
        (λ (t : u ≡ x). subst (λ y. has_seen b g y ≤ bit_of b (get_or s.words g 0)) t (omega (arith, (new g).seen_not b)))
        (at_snoc (set s.views id w) u x by e);
    won = λ b. omega (arith, fits.won b, sum_by_push (has_won b g) (set s.views id w) u, (new g).won_not b);
    narrow = fits.narrow;
  };
}

pub takes : (plan : Plan) (id : ℕ) (v : Stance) (k : ℕ) → v ≡ Supplies k → 0 < k → Splits (Held plan) id v (one_less v) Idle
takes plan id v k is some_left s h at =
    let at' : get_elem? s.views id ≡ some (Supplies k) = at ∙ ap some is in
    subst (λ x. Held plan record { words = s.words; homes = s.homes; views = set s.views id (one_less x) ++ Idle ∷ [] }) (sym is)
    (snoc_kept plan s h id (Supplies k) (Supplies (k - 1)) Idle at' (omega arith) (λ g. silent_supply g k) (λ g. silent_supply g (k - 1)) (λ g. silent_idle g))

pub parts : (plan : Plan) (id : ℕ) (v : Stance) (k j : ℕ) → v ≡ Parting k j → Splits (Held plan) id v (all_kept v) (all_given v)
parts plan id v k j is s h at =
    let at' : get_elem? s.views id ≡ some (Parting k j) = at ∙ ap some is in
    subst (λ x. Held plan record { words = s.words; homes = s.homes; views = set s.views id (all_kept x) ++ all_given x ∷ [] }) (sym is)
    (snoc_kept plan s h id (Parting k j) (Supplies k) (Supplies j) at' refl (λ g. silent_parting g k j) (λ g. silent_supply g k) (λ g. silent_supply g j))

pub gives : (plan : Plan) (id : ℕ) (v : Stance) (k other : ℕ) (u : Stance) → v ≡ Supplies k → IsIdle u → Joins (Held plan) id v other u (one_more v) Spent
gives plan id v k other u is idle s h at apart there =
    let at' : get_elem? s.views id ≡ some (Supplies k) = at ∙ ap some is in
    subst (λ x. Held plan record { words = s.words; homes = s.homes; views = set (set s.views id (one_more x)) other Spent }) (sym is) (both at' there')
  where
    there' : get_elem? (set s.views id (Supplies (k + 1))) other ≡ some u
    there' = subst (λ x. get_elem? (set s.views id (one_more x)) other ≡ some u) is there

    both : get_elem? s.views id ≡ some (Supplies k) → get_elem? (set s.views id (Supplies (k + 1))) other ≡ some u → Held plan record { words = s.words; homes = s.homes; views = set (set s.views id (Supplies (k + 1))) other Spent }
    both at' th = record {
      few = h.few;
      wide = h.wide;
      whole = omega (arith, sum-change worth (set s.views id (Supplies (k + 1))) other u Spent th, sum-change worth s.views id (Supplies k) (Supplies (k + 1)) at', h.whole, idle_worth u idle);
      each = λ g lt. fits_silent (set s.views id (Supplies (k + 1))) other g (get_or s.words g 0) u Spent th
          (fits_silent s.views id g (get_or s.words g 0) (Supplies k) (Supplies (k + 1)) at' (h.each g lt) (silent_supply g k) (silent_supply g (k + 1))) (idle_silent u idle g) (silent_spent g);
    }

-- a word that counts nobody is opened anew, bits clear
fits_opened : (views : List Stance) (id i n : ℕ) (v : Stance) → IsIdle v → get_elem? views id ≡ some v → Fits views i n → count_of n ≡ 0 → Fits (set views id (Names i no_bits no_bits)) i 1
fits_opened views id i n v idle at fits none_left =
    let silent = idle_silent v idle i in
    let w : Stance = Names i no_bits no_bits in record {
      counted = omega (arith, fits.counted, sum-change (names i) views id v w at, names_own i no_bits no_bits, silent.names_not);
      seen = λ b by u e. ⊎_elim
          (λ (t : (by ≡ id) × (w ≡ u)). subst (λ x. has_seen b i x ≤ bit_of b 1) t.1 (omega (arith, seen_own b i no_bits no_bits, none_there b)))
          (λ (t : (by ≢ id) × (get_elem? views by ≡ some u)). omega (arith, seen-le b i u, item-le (names i) views by u t.1, fits.counted))
          (at_set views id by w u e);
      won = λ b. omega (arith, sum-le (has_won b i) (names i) (won-le b i) views, fits.counted, sum-change (has_won b i) views id v w at, won_own b i no_bits no_bits, none_there b);
      narrow = omega arith;
    }
  where
    none_there : (b : Bit) → flag (has b no_bits) ≡ 0
    none_there Published = refl
    none_there Killed = refl

pub opens : (plan : Plan) (slots id : ℕ) (me : Sat) (i old : ℕ) → IsIdle me.0 → i < plan.groups → count_of old ≡ 0
    → Allows (Held plan) slots id me i (λ n. either (eqb n old) 1 n) (opened (step slots i old 1 none) me)
opens plan slots id me i old idle within empty s h _ at small =
    let n : ℕ = get_or s.words i 0 in
    let w : Stance = Names i no_bits no_bits in
    let silent = idle_silent me.0 idle in dite (ℕ_discrete n old)
    (λ hit. (
      w,
      keeps,
      tt,
      subst (λ b. Held plan (stepped s i (either b 1 n) id me.1 w keeps)) (sym (eq-eqb n old hit))
          (moved plan s h id i 1 me.1 me.0 w at within (sym (idle_worth me.0 idle)) (λ g ne. (silent g, silent_other g i no_bits no_bits ne)) (fits_opened s.views id i n me.0 idle at (h.each i within) (ap count_of hit ∙ empty))),
      ((λ _. refl), λ not. absurd (not hit)),
    ))
    (λ miss. (
      me.0,
      keeps,
      tt,
      subst (λ b. Held plan (stepped s i (either b 1 n) id me.1 me.0 keeps)) (sym (ne_eqb n old miss))
          (kept_aside plan s h id i me.1 me.0 me.0 at within refl silent silent),
      ((λ hit. absurd (miss hit)), λ _. refl),
    ))

-- the start: all words 0, all passes in one supply
pub begins : (plan : Plan) (words : List ℕ) → plan.passes < 2147483648 → length words ≡ plan.groups → ((g : ℕ) → get_or words g 0 ≡ 0)
    → Held plan record { words = words; homes = []; views = Supplies plan.passes ∷ [] }
begins plan words few wide zeros = record {
  few = few;
  wide = wide;
  whole = omega (arith, sum_by-cons worth (Supplies plan.passes) []);
  each = λ g lt. record {
    counted = omega (arith, zeros g);
    seen = λ b by v e. one b by v e g (get_or words g 0);
    won = λ b. omega arith;
    narrow = omega (arith, zeros g);
  };
}
  where
    one : (b : Bit) (by : ℕ) (v : Stance) → get_elem? (Supplies plan.passes ∷ []) by ≡ some v → (g n : ℕ) → has_seen b g v ≤ bit_of b n
    one b zero v e g n = subst (λ x. has_seen b g x ≤ bit_of b n) (some-injective (Supplies plan.passes) v e) (omega arith)
    one b (suc by) v e g n = absurd (some-ne-none v (sym e))

-- a pass that has a group names it
pub pass_names : (n : ℕ) (o : Option ℕ) (v : Stance) (g : ℕ) → IsPass n o v → o ≡ Some g → IsPass n (Some g) v
pass_names n o v g is e = subst (λ x. IsPass n x v) e is

abbrev pub zeros_of : ℕ → List ℕ
zeros_of n = replicate n 0

pub zero_there : (n g : ℕ) → get_or (zeros_of n) g zero ≡ zero
zero_there zero g = refl
zero_there (suc n) zero = refl
zero_there (suc n) (suc g) = zero_there n g

pub begins_zeros : (groups passes : ℕ) (words : List ℕ) → passes < 2147483648 → words ≡ zeros_of groups
    → Held record { groups = groups; passes = passes } record { words = words; homes = []; views = Supplies passes ∷ [] }
begins_zeros groups passes words few zeros =
    let plan : Plan = record { groups = groups; passes = passes } in
    begins plan words few (ap (λ (l : List ℕ). length l) zeros ∙ length-replicate groups 0) (λ g. ap (λ (l : List ℕ). get_or l g 0) zeros ∙ zero_there groups g)

-- a pass without a group is idle
pub pass_idle : (n : ℕ) (o : Option ℕ) (v : Stance) → IsPass n o v → group_in v ≡ None → IsIdle v
pass_idle n None v is e = is
pass_idle n (Some g) v is e = absurd (differ g (sym e ∙ ap group_in is.1.2))
  where
    differ : (x : ℕ) → None ≡ Some x → ⊥
    differ x d = cc

-- a mark that was seen is not won
pub not_again : (b : Bit) (seen : Bits) (n : ℕ) → flag (has b seen) ≤ bit_of b n → has b seen ≡ true → eqb (bit_of b n) 0 ≡ false
not_again b seen n le had = let one : flag (has b seen) ≡ 1 = ap flag had in ne_eqb (bit_of b n) 0 (λ z. omega arith)
