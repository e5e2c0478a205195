-- Each step on the words is its event.
use Rattle.std.proofs.Common.{◌≡◌, ℕ, zero, suc, ◌+◌, ◌%◌, ◌-◌, ◌<◌, Bool, false, not, List, [], ◌∷◌, ◌++◌, map, length, replicate, get_or, set, None, refl, sym, ap, ◌∙◌, arith, eqb, cond, bit_or, eq-eqb, ne_eqb, get_or-set_same, get_or-set_other}
use mathlib.Core.Logic.{dite}
use mathlib.Core.Option.{some}
use native.Mathlib.Decide.{ℕ_discrete}
use lib.ListN.{get_elem?}
use lib.Seq.{map-set}
use Rattle.std.proofs.lemmas.Nat.Bits.{bit_at_or}
use Rattle.atomic_table.proofs.Lists.{at_map, set_again}
use Rattle.orc_word.specs.declared.view.Stance.{Stance}
use Rattle.orc_word.specs.declared.view.Stance.TheVariants.{Supplies, Parting, Idle, Names, Spent}
use Rattle.orc_word.specs.declared.view.Plan.{Plan}
use Rattle.orc_word.specs.declared.bits.Bits.{Bits}
use Rattle.orc_word.specs.declared.bits.Bit.{Bit}
use Rattle.orc_word.specs.declared.bits.Bit.TheVariants.{Published, Killed}
use Rattle.orc_word.specs.Words as w
use Rattle.orc_word.specs.Ties.{core_bit, word_at, as_pass, core_of, with_opening, left_last, mask_of, Steps}
use Rattle.orc_word.proofs.Numbers.{more_count, more_bit, less_count, less_bit, bit_small, set_count, set_bit}
use Rattle.orc_word.proofs.Keeps.{room, names_own}
use Rattle.orc_word.proofs.Lists.{item-le}
use Rattle.orc_word.specs.Machine as machine

idle_stance : (v : Stance) → w.IsIdle v → as_pass v ≡ machine.idle
idle_stance (Supplies k) i = absurd i
idle_stance (Parting k j) i = absurd i
idle_stance Idle i = refl
idle_stance (Names g seen won) i = absurd i
idle_stance Spent i = absurd i

-- a word that is set shows as a word that is put
put_is : (words : List ℕ) (g m : ℕ) (a : machine.Word) → g < length words → word_at m ≡ a → (h : ℕ) → word_at (get_or (set words g m) h 0) ≡ machine.at_put (λ k. word_at (get_or words k 0)) g a h
put_is words g m a long is h = dite (ℕ_discrete h g)
    (λ e. ap word_at (ap (λ (k : ℕ). get_or (set words g m) k 0) e ∙ get_or-set_same words g m 0 long) ∙ is ∙ ap (λ b. cond b a (word_at (get_or words h 0))) (sym (eq-eqb h g e)))
    (λ ne. ap word_at (get_or-set_other words g h m 0 ne) ∙ ap (λ b. cond b a (word_at (get_or words h 0))) (sym (ne_eqb h g ne)))

-- a seat that keeps its as_pass changes nothing in the core
same_stance : (views : List Stance) (p : ℕ) (v u : Stance) → get_elem? views p ≡ some v → as_pass u ≡ as_pass v → map as_pass (set views p u) ≡ map as_pass views
same_stance views p v u at is = map-set as_pass views p u ∙ ap (set (map as_pass views) p) is ∙ set_again (map as_pass views) p (as_pass v) (at_map as_pass views p v at)

map_snoc : (views : List Stance) (u : Stance) → map as_pass (views ++ u ∷ []) ≡ map as_pass views ++ as_pass u ∷ []
map_snoc [] u = refl
map_snoc (v ∷ vs) u = ap (λ (l : List machine.Pass). as_pass v ∷ l) (map_snoc vs u)

new_seat : (views : List Stance) (p : ℕ) (v u x : Stance) → get_elem? views p ≡ some v → as_pass u ≡ as_pass v → map as_pass (set views p u ++ x ∷ []) ≡ map as_pass views ++ as_pass x ∷ []
new_seat views p v u x at is = map_snoc (set views p u) x ∙ ap (λ (l : List machine.Pass). l ++ as_pass x ∷ []) (same_stance views p v u at is)

no_word : (n g : ℕ) → word_at (get_or (replicate n 0) g 0) ≡ record { count = 0; is_published = false; is_killed = false }
no_word zero g = refl
no_word (suc n) zero = refl
no_word (suc n) (suc g) = no_word n g

made_is : (n k : ℕ) → machine.Step machine.start machine.sits (core_of machine.start (replicate n 0) (Supplies k ∷ []))
made_is n k = λ i. record machine.start { words = λ g. no_word n g i; passes = machine.gone ∷ [] }

take_is : (rest : machine.State) (words : List ℕ) (views : List Stance) (p k : ℕ) → get_elem? views p ≡ some (Supplies k)
    → machine.Step (core_of rest words views) machine.make (core_of rest words (set views p (Supplies (k - 1)) ++ Idle ∷ []))
take_is rest words views p k at = λ i. record rest { words = λ g. word_at (get_or words g 0); passes = new_seat views p (Supplies k) (Supplies (k - 1)) Idle at refl i }

aside_is : (rest : machine.State) (words : List ℕ) (views : List Stance) (p k j : ℕ) → get_elem? views p ≡ some (Supplies k)
    → core_of rest words (set views p (Parting (k - j) j)) ≡ core_of rest words views
aside_is rest words views p k j at = λ i. record rest { words = λ g. word_at (get_or words g 0); passes = same_stance views p (Supplies k) (Parting (k - j) j) at refl i }

part_is : (rest : machine.State) (words : List ℕ) (views : List Stance) (p k j : ℕ) → get_elem? views p ≡ some (Parting k j)
    → machine.Step (core_of rest words views) machine.sits (core_of rest words (set views p (Supplies k) ++ Supplies j ∷ []))
part_is rest words views p k j at = λ i. record rest { words = λ g. word_at (get_or words g 0); passes = new_seat views p (Parting k j) (Supplies k) (Supplies j) at refl i }

give_is : (rest : machine.State) (words : List ℕ) (views : List Stance) (p q k : ℕ) (v : Stance) → get_elem? views p ≡ some (Supplies k) → get_elem? views q ≡ some v → w.IsIdle v
    → machine.Step (core_of rest words views) (machine.join q) (core_of rest words (set (set views p (Supplies (k + 1))) q Spent))
give_is rest words views p q k v there at idle_v =
    let passes : map as_pass (set (set views p (Supplies (k + 1))) q Spent) ≡ set (map as_pass views) q machine.gone =
    map-set as_pass (set views p (Supplies (k + 1))) q Spent ∙ ap (λ (l : List machine.Pass). set l q machine.gone) (same_stance views p (Supplies k) (Supplies (k + 1)) there refl) in (
      at_map as_pass views q v at ∙ ap some (idle_stance v idle_v),
      λ i. record rest { words = λ g. word_at (get_or words g 0); passes = passes i },
    )

open_is : (plan : Plan) (rest : machine.State) (words : List ℕ) (views : List Stance) (p g : ℕ) (v : Stance) → w.Rule plan words views → g < plan.groups
    → get_elem? views p ≡ some v → w.IsIdle v → w.count_of (get_or words g 0) ≡ 0 → rest.taken g ≡ false → rest.opening ≡ None
    → machine.Step (core_of rest words views) (machine.opens p g) (core_of (with_opening rest p g) (set words g 1) (set views p (Names g w.no_bits w.no_bits)))
open_is plan rest words views p g v rule lt at idle_v empty free closed =
    let put = put_is words g 1 (record { count = 1; is_published = false; is_killed = false }) (omega (arith, rule.wide)) refl in (
      at_map as_pass views p v at ∙ ap some (idle_stance v idle_v),
      free,
      empty,
      closed,
      λ i. record (with_opening rest p g) { words = λ h. put h i; passes = map-set as_pass views p (Names g w.no_bits w.no_bits) i },
    )

more_word : (n : ℕ) → n < 17179869184 → w.count_of n + 1 < 4294967296 → word_at ((n + 1) % 18446744073709551616) ≡ record (word_at n) { count = w.count_of n + 1 }
more_word n narrow some_room = λ i. record { count = more_count n narrow some_room i; is_published = eqb (more_bit Published n narrow some_room i) 1; is_killed = eqb (more_bit Killed n narrow some_room i) 1 }

enter_is : (plan : Plan) (rest : machine.State) (words : List ℕ) (views : List Stance) (p q g : ℕ) (seen won : Bits) (v : Stance) → w.Rule plan words views → g < plan.groups
    → get_elem? views p ≡ some (Names g seen won) → get_elem? views q ≡ some v → w.IsIdle v
    → machine.Step (core_of rest words views) (machine.enters p q g) (core_of rest (set words g ((get_or words g 0 + 1) % 18446744073709551616)) (set views q (Names g w.no_bits w.no_bits)))
enter_is plan rest words views p q g seen won v rule lt there at idle_v =
    let n : ℕ = get_or words g 0 in
    let m : ℕ = (n + 1) % 18446744073709551616 in
    let fits = rule.each g lt in
    let some_room : w.count_of n + 1 < 4294967296 = room plan record { words = words; homes = []; views = views } rule 0 g lt in
    let put = put_is words g m (record (word_at n) { count = w.count_of n + 1 }) (omega (arith, rule.wide)) (more_word n fits.narrow some_room) in (
      at_map as_pass views p (Names g seen won) there,
      at_map as_pass views q v at ∙ ap some (idle_stance v idle_v),
      λ i. record rest { words = λ h. put h i; passes = map-set as_pass views q (Names g w.no_bits w.no_bits) i },
    )

less_word : (n : ℕ) → n < 17179869184 → 0 < w.count_of n → word_at ((n + 18446744073709551615) % 18446744073709551616) ≡ record (word_at n) { count = w.count_of n - 1 }
less_word n narrow counted =
    let fewer : w.count_of ((n + 18446744073709551615) % 18446744073709551616) ≡ w.count_of n - 1 = omega (arith, less_count n narrow counted) in
    λ i. record { count = fewer i; is_published = eqb (less_bit Published n narrow counted i) 1; is_killed = eqb (less_bit Killed n narrow counted i) 1 }

leave_is : (plan : Plan) (rest : machine.State) (words : List ℕ) (views : List Stance) (p g : ℕ) (seen won : Bits) → w.Rule plan words views → g < plan.groups
    → get_elem? views p ≡ some (Names g seen won) → machine.IsFree rest p
    → machine.Step (core_of rest words views) (machine.leaves p g (eqb (w.count_of (get_or words g 0)) 1)) (core_of (left_last rest g (eqb (w.count_of (get_or words g 0)) 1)) (set words g ((get_or words g 0 + 18446744073709551615) % 18446744073709551616)) (set views p Idle))
leave_is plan rest words views p g seen won rule lt there free =
    let n : ℕ = get_or words g 0 in
    let m : ℕ = (n + 18446744073709551615) % 18446744073709551616 in
    let last : Bool = eqb (w.count_of n) 1 in
    let fits = rule.each g lt in
    let counted : 0 < w.count_of n = omega (arith, fits.counted, item-le (w.names g) views p (Names g seen won) there, names_own g seen won) in
    let put = put_is words g m (record (word_at n) { count = w.count_of n - 1 }) (omega (arith, rule.wide)) (less_word n fits.narrow counted) in (
      at_map as_pass views p (Names g seen won) there,
      free,
      refl,
      λ i. record (left_last rest g last) { words = λ h. put h i; passes = map-set as_pass views p Idle i },
    )

-- the bit that a mark finds is the core's
found_bit : (x : ℕ) → x < 2 → eqb x 0 ≡ not (eqb x 1)
found_bit x small = dite (ℕ_discrete x 0)
    (λ e. eq-eqb x 0 e ∙ ap not (sym (ne_eqb x 1 (λ d. omega arith))))
    (λ ne. ne_eqb x 0 ne ∙ ap not (sym (eq-eqb x 1 (omega arith))))

found_is : (b : Bit) (n : ℕ) → eqb (w.bit_of b n) 0 ≡ not (machine.bit_of (core_bit b) (word_at n))
found_is Published n = found_bit (w.bit_of Published n) (bit_small Published n)
found_is Killed n = found_bit (w.bit_of Killed n) (bit_small Killed n)

-- a mark leaves the other bit as it was
other_killed : (n : ℕ) → w.bit_of Killed (bit_or n 4294967296) ≡ w.bit_of Killed n
other_killed n = omega (arith, bit_at_or n 4294967296 33)

other_published : (n : ℕ) → w.bit_of Published (bit_or n 8589934592) ≡ w.bit_of Published n
other_published n = omega (arith, bit_at_or n 8589934592 32)

marked_word : (b : Bit) (n : ℕ) → word_at (bit_or n (mask_of b)) ≡ machine.with_bit (core_bit b) (word_at n)
marked_word Published n = λ i. record { count = set_count Published n i; is_published = eq-eqb (w.bit_of Published (bit_or n 4294967296)) 1 (set_bit Published n) i; is_killed = eqb (other_killed n i) 1 }
marked_word Killed n = λ i. record { count = set_count Killed n i; is_published = eqb (other_published n i) 1; is_killed = eq-eqb (w.bit_of Killed (bit_or n 8589934592)) 1 (set_bit Killed n) i }

mark_is : (plan : Plan) (rest : machine.State) (words : List ℕ) (views : List Stance) (p g : ℕ) (b : Bit) (seen won after : Bits) → w.Rule plan words views → g < plan.groups
    → get_elem? views p ≡ some (Names g seen won)
    → machine.Step (core_of rest words views) (machine.marks p g (core_bit b) (eqb (w.bit_of b (get_or words g 0)) 0)) (core_of rest (set words g (bit_or (get_or words g 0) (mask_of b))) (set views p (Names g (w.with_bit b seen) after)))
mark_is plan rest words views p g b seen won after rule lt at =
    let n : ℕ = get_or words g 0 in
    let put = put_is words g (bit_or n (mask_of b)) (machine.with_bit (core_bit b) (word_at n)) (omega (arith, rule.wide)) (marked_word b n) in (
      at_map as_pass views p (Names g seen won) at,
      found_is b n,
      λ i. record rest { words = λ h. put h i; passes = same_stance views p (Names g seen won) (Names g (w.with_bit b seen) after) at refl i },
    )

look_is : (rest : machine.State) (words : List ℕ) (views : List Stance) (p g : ℕ) (seen won after : Bits) → get_elem? views p ≡ some (Names g seen won)
    → machine.Step (core_of rest words views) (machine.looks p g (eqb (w.bit_of Published (get_or words g 0)) 1) (eqb (w.bit_of Killed (get_or words g 0)) 1)) (core_of rest words (set views p (Names g after won)))
look_is rest words views p g seen won after at = (
  at_map as_pass views p (Names g seen won) at,
  refl,
  refl,
  λ i. record rest { words = λ h. word_at (get_or words h 0); passes = same_stance views p (Names g seen won) (Names g after won) at refl i },
)

pub steps_hold : Steps
steps_hold = record { made = made_is; take = take_is; set_aside = aside_is; part = part_is; give = give_is; opens = open_is; enter = enter_is; leave = leave_is; mark = mark_is; look = look_is }
