-- The law of the counts, over lists of events.
use Rattle.std.proofs.Common.{◌≡◌, ℕ, suc, Bool, true, false, cond, List, [], ◌∷◌, ◌++◌, sum_by, refl, sym, ap, ◌∙◌, subst, arith}
use Rattle.std.proofs.lemmas.List.Sums.{sum_by_push}
use Rattle.orc_word.specs.Machine.{bit_of, idle, names, gone, State, Event, make, sits, join, opens, enters, leaves, marks, looks, commits, Has, Step, Run, start, naming, named, is_opening, Frees}
use Rattle.orc_word.specs.Counts.{NoOpening, NoFreeing, Counts}
use Rattle.orc_word.proofs.MachineLists.{sum-change, item-le}
use Rattle.orc_word.proofs.Invariant.{run_kept, start_kept, no_record}
use Rattle.orc_word.proofs.Marks.{first_of, flag-le, win_runs}

-- who nobody names stays so until an opening
zero_stays : (s : State) (e : Event) (t : State) (g : ℕ) → named g s ≡ 0 → is_opening g e ≡ false → Step s e t → named g t ≡ 0
zero_stays s make t g z quiet st = ap (named g) st ∙ omega (arith, sum_by_push (naming g) s.passes idle, z)
zero_stays s sits t g z quiet st = ap (named g) st ∙ omega (arith, sum_by_push (naming g) s.passes gone, z)
zero_stays s (join p) t g z quiet st = ap (named g) st.1 ∙ omega (arith, sum-change (naming g) s.passes p idle gone st.0, z)
zero_stays s (opens p h) t g z quiet st = let off : naming g (names h) ≡ 0 = ap (λ b. cond b 1 0) quiet in ap (named g) st.4 ∙ omega (arith, sum-change (naming g) s.passes p idle (names h) st.0, z, off)
zero_stays s (enters p q h) t g z quiet st =
    let off : naming g (names h) ≡ 0 = omega (arith, item-le (naming g) s.passes p (names h) st.0, z) in ap (named g) st.2 ∙ omega (arith, sum-change (naming g) s.passes q idle (names h) st.1, z, off)
zero_stays s (leaves p h last) t g z quiet st = ap (named g) st.3 ∙ omega (arith, sum-change (naming g) s.passes p (names h) idle st.0, z)
zero_stays s (marks p h b won) t g z quiet st = ap (named g) st.2 ∙ z
zero_stays s (looks p h is_published is_killed) t g z quiet st = ap (named g) st.3 ∙ z
zero_stays s (commits come freed) t g z quiet st = ap (sum_by (naming g)) st.10 ∙ z

zero_runs : (es : List Event) (s t : State) (g : ℕ) → named g s ≡ 0 → NoOpening g es → Run s es t → named g t ≡ 0
zero_runs [] s t g z quiet r = ap (named g) (sym r) ∙ z
zero_runs (e ∷ es) s t g z quiet r = let f = first_of g e es quiet in zero_runs es r.0 t g (zero_stays s e r.0 g z f.0 r.1) f.1 r.2

-- a group that was left last stays so until it is freed
last_stays : (s : State) (e : Event) (t : State) (g : ℕ) → Has s.lasts g → (Frees g e → ⊥) → Step s e t → Has t.lasts g
last_stays s make t g has quiet st = subst (λ (x : State). Has x.lasts g) (sym st) has
last_stays s sits t g has quiet st = subst (λ (x : State). Has x.lasts g) (sym st) has
last_stays s (join p) t g has quiet st = subst (λ (x : State). Has x.lasts g) (sym st.1) has
last_stays s (opens p h) t g has quiet st = subst (λ (x : State). Has x.lasts g) (sym st.4) has
last_stays s (enters p q h) t g has quiet st = subst (λ (x : State). Has x.lasts g) (sym st.2) has
last_stays s (leaves p h last) t g has quiet st = subst (λ (x : State). Has x.lasts g) (sym st.3) (longer last)
  where
    longer : (b : Bool) → Has (cond b (h ∷ s.lasts) s.lasts) g
    longer true = (suc has.0, has.1)
    longer false = has
last_stays s (marks p h b won) t g has quiet st = subst (λ (x : State). Has x.lasts g) (sym st.2) has
last_stays s (looks p h is_published is_killed) t g has quiet st = subst (λ (x : State). Has x.lasts g) (sym st.3) has
last_stays s (commits come freed) t g has quiet st = st.4 g has quiet

last_runs : (es : List Event) (s t : State) (g : ℕ) → Has s.lasts g → NoFreeing g es → Run s es t → Has t.lasts g
last_runs [] s t g has quiet r = subst (λ (x : State). Has x.lasts g) r has
last_runs (e ∷ es) s t g has quiet r = last_runs es r.0 t g (last_stays s e r.0 g has (quiet e (0, refl)) r.1) (λ d at. quiet d (suc at.0, at.1)) r.2

last_left : (s t : State) (p g : ℕ) → Step s (leaves p g true) t → Has t.lasts g
last_left s t p g st = subst (λ (x : State). Has x.lasts g) (sym st.3) (0, refl)

run_ends : (es : List Event) (e : Event) (s t : State) → Run s (es ++ e ∷ []) t → (m : State) × Step m e t
run_ends [] e s t r = (s, subst (Step s e) r.2 r.1)
run_ends (d ∷ es) e s t r = run_ends es e r.0 t r.2

pub counts_hold : Counts
counts_hold = record {
  exact = λ es t r. (run_kept es start t start_kept r).counted;
  empty = λ es more s t r m g z quiet.
      let i = run_kept es start s start_kept r in
      no_record t (run_kept more s t i m) g (zero_runs more s t g (sym (i.counted g) ∙ z) quiet m);
  once = λ es more s t r m g quiet b. omega (arith, win_runs b g more s t quiet m, flag-le (bit_of b (t.words g)));
  closed = λ es more s t p g r m quiet.
      let i = run_kept (es ++ leaves p g true ∷ []) start s start_kept r in
      let j = run_kept more s t i m in
      let e = run_ends es (leaves p g true) start s r in
      let z = (j.shut g (last_runs more s t g (last_left e.0 s p g e.1) quiet m)).0 in
      (no_record t j g z, z);
  fresh = λ es s t p g r st. sym ((run_kept es start s start_kept r).counted g) ∙ st.2;
}
