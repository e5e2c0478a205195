-- How often a mark is won: what a word shows and what was won on the way add up.
use Rattle.std.proofs.Common.{◌≡◌, ℕ, suc, ◌+◌, ◌-◌, ◌≤◌, Bool, true, false, not, cond, true≢false, List, [], ◌∷◌, sum_by, refl, sym, ap, ◌∙◌, subst, arith, eq-eqb, ne_eqb}
use Rattle.std.proofs.lemmas.List.Sums.{sum_by-cons}
use mathlib.Core.Logic.{dite}
use native.Mathlib.Decide.{ℕ_discrete}
use Rattle.orc_word.specs.Machine.{Bit, published, killed, Word, opened, State, Event, make, sits, join, opens, enters, leaves, marks, looks, commits, at_put, same_bit, bit_of, with_bit, Step, Run, is_opening, wins}
use Rattle.orc_word.specs.Counts.{NoOpening}
use Rattle.orc_word.proofs.Invariant.{put_here, put_else}

pub first_of : (g : ℕ) (e : Event) (es : List Event) → NoOpening g (e ∷ es) → (is_opening g e ≡ false) × NoOpening g es
first_of g e es quiet = (quiet e (0, refl), λ d has. quiet d (suc has.0, has.1))

abbrev pub flag : Bool → ℕ
flag b = cond b 1 0

pub flag-le : (b : Bool) → flag b ≤ 1
flag-le true = omega arith
flag-le false = omega arith

bit_kept : (b : Bit) (w : Word) (n : ℕ) → bit_of b (record w { count = n }) ≡ bit_of b w
bit_kept published w n = refl
bit_kept killed w n = refl

put_bit : (b : Bit) (words : ℕ → Word) (h g n : ℕ) → bit_of b (at_put words h (record (words h) { count = n }) g) ≡ bit_of b (words g)
put_bit b words h g n = dite (ℕ_discrete g h)
    (λ e. ap (bit_of b) (put_here words h (record (words h) { count = n }) g e) ∙ bit_kept b (words h) n ∙ ap (λ k. bit_of b (words k)) (sym e))
    (λ ne. ap (bit_of b) (put_else words h (record (words h) { count = n }) g ne))

-- a mark adds at most what the bit gains
mark_bit : (b c : Bit) (w : Word) → flag (bit_of b w) + cond (same_bit b c) (flag (not (bit_of c w))) 0 ≤ flag (bit_of b (with_bit c w))
mark_bit published published w = half w.is_published
  where
    half : (x : Bool) → flag x + flag (not x) ≤ 1
    half true = omega arith
    half false = omega arith
mark_bit published killed w = omega arith
mark_bit killed published w = omega arith
mark_bit killed killed w = half w.is_killed
  where
    half : (x : Bool) → flag x + flag (not x) ≤ 1
    half true = omega arith
    half false = omega arith

same_flag : (b : Bit) (g : ℕ) (s t : State) → bit_of b (t.words g) ≡ bit_of b (s.words g) → flag (bit_of b (s.words g)) + 0 ≤ flag (bit_of b (t.words g))
same_flag b g s t e = let x : flag (bit_of b (t.words g)) ≡ flag (bit_of b (s.words g)) = ap flag e in omega arith

win_bit : (b : Bit) (g : ℕ) (s : State) (e : Event) (t : State) → is_opening g e ≡ false → Step s e t → flag (bit_of b (s.words g)) + wins b g e ≤ flag (bit_of b (t.words g))
win_bit b g s make t quiet st = same_flag b g s t (ap (λ (x : State). bit_of b (x.words g)) st)
win_bit b g s sits t quiet st = same_flag b g s t (ap (λ (x : State). bit_of b (x.words g)) st)
win_bit b g s (join p) t quiet st = same_flag b g s t (ap (λ (x : State). bit_of b (x.words g)) st.1)
win_bit b g s (opens p h) t quiet st = same_flag b g s t (ap (λ (x : State). bit_of b (x.words g)) st.4
    ∙ ap (bit_of b) (put_else s.words h opened g (λ e. true≢false (sym (eq-eqb h g (sym e)) ∙ quiet))))
win_bit b g s (enters p q h) t quiet st = same_flag b g s t (ap (λ (x : State). bit_of b (x.words g)) st.2 ∙ put_bit b s.words h g ((s.words h).count + 1))
win_bit b g s (leaves p h last) t quiet st = same_flag b g s t (ap (λ (x : State). bit_of b (x.words g)) st.3 ∙ put_bit b s.words h g ((s.words h).count - 1))
win_bit b g s (marks p h c won) t quiet st = subst (λ (x : State). flag (bit_of b (s.words g)) + wins b g (marks p h c won) ≤ flag (bit_of b (x.words g))) (sym st.2) (dite (ℕ_discrete h g)
    (λ e. let there : at_put s.words h (with_bit c (s.words h)) g ≡ with_bit c (s.words g) = put_here s.words h (with_bit c (s.words h)) g (sym e) ∙ ap (λ k. with_bit c (s.words k)) e in
    let won_is : won ≡ not (bit_of c (s.words g)) = st.1 ∙ ap (λ k. not (bit_of c (s.words k))) e in
    let w : wins b g (marks p h c won) ≡ cond (same_bit b c) (flag (not (bit_of c (s.words g)))) 0 = ap (λ y. cond y (cond (same_bit b c) (flag won) 0) 0) (eq-eqb h g e) ∙ ap (λ y. cond (same_bit b c) (flag y) 0) won_is in
    let f : flag (bit_of b (at_put s.words h (with_bit c (s.words h)) g)) ≡ flag (bit_of b (with_bit c (s.words g))) = ap (λ y. flag (bit_of b y)) there in
    omega (arith, mark_bit b c (s.words g), w, f))
    (λ ne. let w : wins b g (marks p h c won) ≡ 0 = ap (λ y. cond y (cond (same_bit b c) (flag won) 0) 0) (ne_eqb h g ne) in
    let f : flag (bit_of b (at_put s.words h (with_bit c (s.words h)) g)) ≡ flag (bit_of b (s.words g)) = ap (λ y. flag (bit_of b y)) (put_else s.words h (with_bit c (s.words h)) g (λ e. ne (sym e))) in
    omega (arith, w, f)))
win_bit b g s (looks p h is_published is_killed) t quiet st = same_flag b g s t (ap (λ (x : State). bit_of b (x.words g)) st.3)
win_bit b g s (commits come freed) t quiet st = same_flag b g s t (ap (bit_of b) (st.11 g))

pub win_runs : (b : Bit) (g : ℕ) (es : List Event) (s t : State) → NoOpening g es → Run s es t → flag (bit_of b (s.words g)) + sum_by (wins b g) es ≤ flag (bit_of b (t.words g))
win_runs b g [] s t quiet r = same_flag b g s t (ap (λ (x : State). bit_of b (x.words g)) (sym r))
win_runs b g (e ∷ es) s t quiet r = let f = first_of g e es quiet in omega (arith, sum_by-cons (wins b g) e es, win_bit b g s e r.0 f.0 r.1, win_runs b g es r.0 t f.1 r.2)
