-- The invariant of the machine: each event keeps it.
use Rattle.std.proofs.Common.{◌≡◌, ◌≢◌, ℕ, zero, suc, ◌+◌, ◌-◌, ◌<◌, ◌≤◌, ◌⊎◌, Bool, true, false, cond, eqb, true≢false, List, [], ◌∷◌, ◌++◌, set, sum_by, Option, None, Some, refl, sym, ap, ◌∙◌, subst, inl, inr, ⊎_elim, arith, eq-eqb, ne_eqb}
use Rattle.std.proofs.lemmas.List.Sums.{sum_by_push}
use mathlib.Core.Logic.{dite}
use mathlib.Core.Option.{some, some-injective, some-ne-none}
use native.Mathlib.Decide.{ℕ_discrete}
use lib.ListN.{get_elem?}
use Rattle.orc_word.specs.Machine.{Bit, published, killed, Word, opened, Pass, idle, names, gone, Record, State, Event, make, sits, join, opens, enters, leaves, marks, looks, commits, at_put, with_bit, Has, moved, IsFree, Step, Run, start, naming, named, NoRecord}
use Rattle.orc_word.proofs.MachineLists.{set_here, set_else, at_longer, sum-change, item-le, items-le}

-- What holds of every state that events lead to:
--     counted     each word's count is the number of passes that name its group
--     owned       a record's own pass names its group
--     alive       a group that a pass names is taken, or its opening is still to be committed
--     at_opening  the pass of such an opening names its group
--     shut        a group that was left last is named by nobody, and is still taken
pub record Inv (s : State) : Type 0 where
  pub counted : (g : ℕ) → (s.words g).count ≡ named g s
  pub owned : (r : Record) → Has s.records r → get_elem? s.passes r.own ≡ some (names r.group)
  pub alive : (g : ℕ) → 0 < named g s → (s.taken g ≡ true) ⊎ ((p : ℕ) × (s.opening ≡ Some (p, g)))
  pub at_opening : (p g : ℕ) → s.opening ≡ Some (p, g) → get_elem? s.passes p ≡ some (names g)
  pub shut : (g : ℕ) → Has s.lasts g → (named g s ≡ 0) × (s.taken g ≡ true)

naming_own : (g : ℕ) → naming g (names g) ≡ 1
naming_own g = ap (λ b. cond b 1 0) (eq-eqb g g refl)

naming_other : (g h : ℕ) → h ≢ g → naming g (names h) ≡ 0
naming_other g h ne = ap (λ b. cond b 1 0) (ne_eqb h g ne)

pub put_here : {A : Type 0} (f : ℕ → A) (g : ℕ) (a : A) (h : ℕ) → h ≡ g → at_put f g a h ≡ a
put_here f g a h e = ap (λ b. cond b a (f h)) (eq-eqb h g e)

pub put_else : {A : Type 0} (f : ℕ → A) (g : ℕ) (a : A) (h : ℕ) → h ≢ g → at_put f g a h ≡ f h
put_else f g a h ne = ap (λ b. cond b a (f h)) (ne_eqb h g ne)

idle_names : (v : Pass) (g : ℕ) → some v ≡ some idle → some v ≡ some (names g) → ⊥
idle_names v g e d = let p : idle ≡ names g = some-injective idle (names g) (sym e ∙ d) in cc

differ : (x : ℕ × ℕ) → None ≡ Some x → ⊥
differ x e = cc

none_some : (p g : ℕ) (o : Option (ℕ × ℕ)) → o ≡ None → o ≡ Some (p, g) → ⊥
none_some p g o e d = absurd (differ (p, g) (sym e ∙ d))

-- a pass changes, and the word of g with it
recount : (s : State) → Inv s → (p : ℕ) (v w : Pass) (g : ℕ) (a : Word) → get_elem? s.passes p ≡ some v
    → ((h : ℕ) → h ≢ g → naming h v ≡ naming h w) → a.count + naming g v ≡ (s.words g).count + naming g w
    → (h : ℕ) → (at_put s.words g a h).count ≡ sum_by (naming h) (set s.passes p w)
recount s i p v w g a at others here h = dite (ℕ_discrete h g)
    (λ e. ap (λ (x : Word). x.count) (put_here s.words g a h e) ∙ subst (λ k. a.count ≡ sum_by (naming k) (set s.passes p w)) (sym e) (omega (arith, here, sum-change (naming g) s.passes p v w at, i.counted g)))
    (λ ne. ap (λ (x : Word). x.count) (put_else s.words g a h ne) ∙ omega (arith, i.counted h, sum-change (naming h) s.passes p v w at, others h ne))

-- the records keep their passes where another pass changes
still_owned : (s : State) → Inv s → (p : ℕ) (w : Pass) → ((r : Record) → Has s.records r → r.own ≢ p)
    → (r : Record) → Has s.records r → get_elem? (set s.passes p w) r.own ≡ some (names r.group)
still_owned s i p w apart r has = set_else s.passes p r.own w (apart r has) ∙ i.owned r has

-- the pass of a record or of an opening is not idle
own_not_idle : (s : State) → Inv s → (p : ℕ) → get_elem? s.passes p ≡ some idle → (r : Record) → Has s.records r → r.own ≢ p
own_not_idle s i p at r has e = let x : get_elem? s.passes p ≡ some (names r.group) = subst (λ k. get_elem? s.passes k ≡ some (names r.group)) e (i.owned r has) in
    idle_names idle r.group refl (sym at ∙ x)

opening_not_idle : (s : State) → Inv s → (p : ℕ) → get_elem? s.passes p ≡ some idle → (q g : ℕ) → s.opening ≡ Some (q, g) → q ≢ p
opening_not_idle s i p at q g o e = let x : get_elem? s.passes p ≡ some (names g) = subst (λ k. get_elem? s.passes k ≡ some (names g)) e (i.at_opening q g o) in
    idle_names idle g refl (sym at ∙ x)

-- a pass that names g counts
some_named : (s : State) (p g : ℕ) → get_elem? s.passes p ≡ some (names g) → 0 < named g s
some_named s p g at = omega (arith, item-le (naming g) s.passes p (names g) at, naming_own g)

kept_make : (s : State) → Inv s → Inv (moved s (s.passes ++ idle ∷ []) s.words)
kept_make s i = record {
  counted = λ g. i.counted g ∙ same g;
  owned = λ r has. at_longer s.passes (idle ∷ []) r.own (names r.group) (i.owned r has);
  alive = λ g some_left. i.alive g (omega (arith, same g));
  at_opening = λ p g o. at_longer s.passes (idle ∷ []) p (names g) (i.at_opening p g o);
  shut = λ g has. (omega (arith, same g, (i.shut g has).0), (i.shut g has).1);
}
  where
    same : (g : ℕ) → named g s ≡ sum_by (naming g) (s.passes ++ idle ∷ [])
    same g = omega (arith, sum_by_push (naming g) s.passes idle)

kept_sits : (s : State) → Inv s → Inv (moved s (s.passes ++ gone ∷ []) s.words)
kept_sits s i = record {
  counted = λ g. i.counted g ∙ same g;
  owned = λ r has. at_longer s.passes (gone ∷ []) r.own (names r.group) (i.owned r has);
  alive = λ g some_left. i.alive g (omega (arith, same g));
  at_opening = λ p g o. at_longer s.passes (gone ∷ []) p (names g) (i.at_opening p g o);
  shut = λ g has. (omega (arith, same g, (i.shut g has).0), (i.shut g has).1);
}
  where
    same : (g : ℕ) → named g s ≡ sum_by (naming g) (s.passes ++ gone ∷ [])
    same g = omega (arith, sum_by_push (naming g) s.passes gone)

kept_join : (s : State) → Inv s → (p : ℕ) → get_elem? s.passes p ≡ some idle → Inv (moved s (set s.passes p gone) s.words)
kept_join s i p at = record {
  counted = λ g. i.counted g ∙ same g;
  owned = still_owned s i p gone (own_not_idle s i p at);
  alive = λ g some_left. i.alive g (omega (arith, same g));
  at_opening = λ q g o. set_else s.passes p q gone (opening_not_idle s i p at q g o) ∙ i.at_opening q g o;
  shut = λ g has. (omega (arith, same g, (i.shut g has).0), (i.shut g has).1);
}
  where
    same : (g : ℕ) → named g s ≡ sum_by (naming g) (set s.passes p gone)
    same g = omega (arith, sum-change (naming g) s.passes p idle gone at)

kept_open : (s : State) → Inv s → (p g : ℕ) → get_elem? s.passes p ≡ some idle → s.taken g ≡ false → (s.words g).count ≡ 0 → s.opening ≡ None
    → Inv (record s { passes = set s.passes p (names g); words = at_put s.words g opened; opening = Some (p, g) })
kept_open s i p g at free empty closed = record {
  counted = recount s i p idle (names g) g opened at (λ h ne. sym (naming_other h g (λ e. ne (sym e)))) (omega (arith, naming_own g));
  owned = still_owned s i p (names g) (own_not_idle s i p at);
  alive = λ h some_left. dite (ℕ_discrete h g)
      (λ e. inr (p, ap (λ k. Some (p, k)) (sym e)))
      (λ ne. ⊎_elim (λ t. inl t) (λ (o : (q : ℕ) × (s.opening ≡ Some (q, h))). absurd (none_some o.0 h s.opening closed o.1)) (i.alive h (omega (arith, others h ne))));
  at_opening = λ q h o. let same : (p, g) ≡ (q, h) = cc in subst (λ (x : ℕ × ℕ). get_elem? (set s.passes p (names g)) x.0 ≡ some (names x.1)) same (set_here s.passes p idle (names g) at);
  shut = λ h has. let ne : h ≢ g = λ e. true≢false (sym (i.shut h has).1 ∙ (ap s.taken e ∙ free)) in (omega (arith, others h ne, (i.shut h has).0), (i.shut h has).1);
}
  where
    others : (h : ℕ) → h ≢ g → named h s ≡ sum_by (naming h) (set s.passes p (names g))
    others h ne = omega (arith, sum-change (naming h) s.passes p idle (names g) at, naming_other h g (λ e. ne (sym e)))

kept_enter : (s : State) → Inv s → (p q g : ℕ) → get_elem? s.passes p ≡ some (names g) → get_elem? s.passes q ≡ some idle
    → Inv (moved s (set s.passes q (names g)) (at_put s.words g (record (s.words g) { count = (s.words g).count + 1 })))
kept_enter s i p q g there at = record {
  counted = recount s i q idle (names g) g (record (s.words g) { count = (s.words g).count + 1 }) at (λ h ne. sym (naming_other h g (λ e. ne (sym e)))) (omega (arith, naming_own g));
  owned = still_owned s i q (names g) (own_not_idle s i q at);
  alive = λ h some_left. dite (ℕ_discrete h g)
      (λ e. subst (λ k. (s.taken k ≡ true) ⊎ ((x : ℕ) × (s.opening ≡ Some (x, k)))) (sym e) (i.alive g (some_named s p g there)))
      (λ ne. i.alive h (omega (arith, others h ne)));
  at_opening = λ x h o. set_else s.passes q x (names g) (opening_not_idle s i q at x h o) ∙ i.at_opening x h o;
  shut = λ h has. let ne : h ≢ g = λ e. let z : named g s ≡ 0 = subst (λ k. named k s ≡ 0) e (i.shut h has).0 in omega (arith, some_named s p g there) in (omega (arith, others h ne, (i.shut h has).0), (i.shut h has).1);
}
  where
    others : (h : ℕ) → h ≢ g → named h s ≡ sum_by (naming h) (set s.passes q (names g))
    others h ne = omega (arith, sum-change (naming h) s.passes q idle (names g) at, naming_other h g (λ e. ne (sym e)))

-- a group that is left last was taken
last_taken : (s : State) → Inv s → (p g : ℕ) → get_elem? s.passes p ≡ some (names g) → IsFree s p → (s.words g).count ≡ 1 → s.taken g ≡ true
last_taken s i p g at free one_left = ⊎_elim
    (λ (t : s.taken g ≡ true). t)
    (λ (o : (q : ℕ) × (s.opening ≡ Some (q, g))).
    let apart : o.0 ≢ p = λ e. free.1 g (o.1 ∙ ap (λ k. Some (k, g)) e) in
    absurd (omega (arith, items-le (naming g) s.passes o.0 p (names g) (names g) apart (i.at_opening o.0 g o.1) at, naming_own g, i.counted g, one_left)))
    (i.alive g (some_named s p g at))

kept_leave : (s : State) → Inv s → (p g : ℕ) (last : Bool) → get_elem? s.passes p ≡ some (names g) → IsFree s p → last ≡ eqb (s.words g).count 1
    → Inv (record s { passes = set s.passes p idle; words = at_put s.words g (record (s.words g) { count = (s.words g).count - 1 }); lasts = cond last (g ∷ s.lasts) s.lasts })
kept_leave s i p g last at free is = record {
  counted = recount s i p (names g) idle g (record (s.words g) { count = (s.words g).count - 1 }) at (λ h ne. naming_other h g (λ e. ne (sym e))) (omega (arith, naming_own g, i.counted g, some_named s p g at));
  owned = still_owned s i p idle free.0;
  alive = λ h some_left. i.alive h (omega (arith, fewer h));
  at_opening = λ q h o. set_else s.passes p q idle (λ e. free.1 h (o ∙ ap (λ k. Some (k, h)) e)) ∙ i.at_opening q h o;
  shut = shut_now last is;
}
  where
    fewer : (h : ℕ) → sum_by (naming h) (set s.passes p idle) ≤ named h s
    fewer h = omega (arith, sum-change (naming h) s.passes p (names g) idle at)

    shut_now : (b : Bool) → b ≡ eqb (s.words g).count 1 → (h : ℕ) → Has (cond b (g ∷ s.lasts) s.lasts) h → (sum_by (naming h) (set s.passes p idle) ≡ 0) × (s.taken h ≡ true)
    shut_now false e h has = (omega (arith, fewer h, (i.shut h has).0), (i.shut h has).1)
    shut_now true e h (zero, is) =
        let one_left : (s.words g).count ≡ 1 = dite (ℕ_discrete (s.words g).count 1) (λ y. y) (λ n. absurd (true≢false (e ∙ ne_eqb (s.words g).count 1 n))) in
        let same : g ≡ h = some-injective g h is in
        subst (λ k. (sum_by (naming k) (set s.passes p idle) ≡ 0) × (s.taken k ≡ true)) same
        (omega (arith, sum-change (naming g) s.passes p (names g) idle at, naming_own g, i.counted g, one_left), last_taken s i p g at free one_left)
    shut_now true e h (suc k, is) = (omega (arith, fewer h, (i.shut h (k, is)).0), (i.shut h (k, is)).1)

kept_mark : (s : State) → Inv s → (g : ℕ) (b : Bit) → Inv (moved s s.passes (at_put s.words g (with_bit b (s.words g))))
kept_mark s i g b = record {
  counted = λ h. dite (ℕ_discrete h g)
      (λ e. ap (λ (x : Word). x.count) (put_here s.words g (with_bit b (s.words g)) h e) ∙ same b ∙ ap (λ k. (s.words k).count) (sym e) ∙ i.counted h)
      (λ ne. ap (λ (x : Word). x.count) (put_else s.words g (with_bit b (s.words g)) h ne) ∙ i.counted h);
  owned = i.owned;
  alive = i.alive;
  at_opening = i.at_opening;
  shut = i.shut;
}
  where
    same : (c : Bit) → (with_bit c (s.words g)).count ≡ (s.words g).count
    same published = refl
    same killed = refl

-- each event keeps the invariant
kept : (s : State) (e : Event) (t : State) → Inv s → Step s e t → Inv t
kept s make t i st = subst Inv (sym st) (kept_make s i)
kept s sits t i st = subst Inv (sym st) (kept_sits s i)
kept s (join p) t i st = subst Inv (sym st.1) (kept_join s i p st.0)
kept s (opens p g) t i st = subst Inv (sym st.4) (kept_open s i p g st.0 st.1 st.2 st.3)
kept s (enters p q g) t i st = subst Inv (sym st.2) (kept_enter s i p q g st.0 st.1)
kept s (leaves p g last) t i st = subst Inv (sym st.3) (kept_leave s i p g last st.0 st.1 st.2)
kept s (marks p g b won) t i st = subst Inv (sym st.2) (kept_mark s i g b)
kept s (looks p g is_published is_killed) t i st = subst Inv (sym st.3) i
kept s (commits come freed) t i st = record {
  counted = λ g. ap (λ (x : Word). x.count) (words g) ∙ i.counted g ∙ sym (same g);
  owned = λ r has. subst (λ ps. get_elem? ps r.own ≡ some (names r.group)) (sym passes)
      (⊎_elim (λ (old : Has s.records r). i.owned r old) (λ (new : Has come r × (get_elem? s.passes r.own ≡ some (names r.group))). new.1) (st.0 r has));
  alive = λ g some_left.
      let was : 0 < named g s = omega (arith, same g) in
      inl (⊎_elim
      (λ (taken : s.taken g ≡ true). st.6 g taken (λ freed. let z = (i.shut g (st.2 g freed)).0 in omega arith))
      (λ (o : (p : ℕ) × (s.opening ≡ Some (p, g))). st.8 o.0 g o.1)
      (i.alive g was));
  at_opening = λ p g o. absurd (none_some p g t.opening st.9 o);
  shut = λ g has. let old = st.3 g has in (omega (arith, same g, (i.shut g old.0).0), st.6 g (i.shut g old.0).1 old.1);
}
  where
    passes : t.passes ≡ s.passes
    passes = st.10

    words : (g : ℕ) → t.words g ≡ s.words g
    words = st.11

    same : (g : ℕ) → named g t ≡ named g s
    same g = ap (sum_by (naming g)) passes

pub run_kept : (es : List Event) (s t : State) → Inv s → Run s es t → Inv t
run_kept [] s t i r = subst Inv r i
run_kept (e ∷ es) s t i r = run_kept es r.0 t (kept s e r.0 i r.1) r.2

pub start_kept : Inv start
start_kept = record {
  counted = λ g. refl;
  owned = λ r has. absurd (some-ne-none r (sym has.1));
  alive = λ g some_left. absurd (omega arith);
  at_opening = λ p g o. absurd (none_some p g None refl o);
  shut = λ g has. absurd (some-ne-none g (sym has.1));
}

pub no_record : (s : State) → Inv s → (g : ℕ) → named g s ≡ 0 → NoRecord g s
no_record s i g none_left r has e = let at : get_elem? s.passes r.own ≡ some (names g) = subst (λ k. get_elem? s.passes r.own ≡ some (names k)) e (i.owned r has) in
    omega (arith, some_named s r.own g at)

-- who nobody names stays so until an opening
