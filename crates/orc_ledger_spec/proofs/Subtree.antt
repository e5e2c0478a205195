-- Who is listed from group to group is who stands inside the right side of the cell.
use Rattle.std.proofs.Common.{◌≡◌, ◌≤◌, ◌⊎◌, inl, inr, ⊎_elim, ℕ, suc, List, refl, sym, ap, ◌∙◌, subst, arith, length, Bool, true, false, cond, nat_eq, eq-eqb, Some}
use Rattle.std.proofs.lemmas.Bool.{eqb-true}
use Rattle.std.proofs.Math.Decide.{ℕ_discrete}
use Rattle.std.specs.List.Sorted.{IsPermutation, IsSorted}
use Rattle.std.specs.Ordering.{nat_cmp}
use Rattle.std.specs.Prelude.{slice_get, ◌||◌}
use Rattle.orc_rules.specs.Nodes.{Listing, code}
use Rattle.orc_rules.specs.Sites.{Site}
use Rattle.orc_rules.specs.Timed.{IsIn, IsRising}
use Rattle.orc_indexes.specs.Same.{only}
use Rattle.orc_frames.specs.Spelling.{inside}
use Rattle.orc_ledger_spec.specs.Records.{Records, Lawful, its_env, raw_path}
use Rattle.orc_tables.specs.Steps.{group_at}
use Rattle.orc_ledger_spec.specs.Calls.{AreCancelled, call_goes}
use Rattle.orc_tables.specs.PendingCalls.{has_number}
use Rattle.orc_tables.specs.Crowd.{is_listed, IsCrowd, HasAll}
use Rattle.orc_ledger_spec.specs.Homes.{home, Nest, IsSubtree}
use Rattle.orc_tables.specs.Inside.{aids, stands_inside, side_inside, numbers_inside}
use Rattle.orc_ledger_spec.specs.Next.{AreGrouped, numbers_of, IsSide}
use Rattle.orc_tables.specs.Tokens.{live, IsHeld}
use Rattle.orc_tables.specs.declared.records.Token.{Token}
use Rattle.orc_tables.specs.declared.records.Call.{Call}
use Rattle.orc_tables.specs.declared.records.Frame.{Frame}
use Rattle.orc_tables.specs.declared.records.Frame.TheVariants.{SeqLeft, PruneRight, OtherwiseLeft}
use Rattle.orc_tables.specs.declared.records.Step.{Step}
use Rattle.orc_tables.specs.declared.records.Side.{Side}
use Rattle.orc_tables.specs.declared.records.Side.TheVariants.{Right, Left}
use Rattle.orc_tables.specs.declared.records.Group.{Group}
use Rattle.orc_indexes.proofs.Weight.{weight-in, some-in}
use Rattle.orc_tables.proofs.Slots.{live-in}
use Rattle.orc_ledger_spec.proofs.Homes.{record-inside, set-inside, inn-step}
use Rattle.orc_ledger_spec.proofs.Someone.{some_same, token_within, call_within, get-within}
use Rattle.orc_ledger_spec.proofs.Emptied.{right-one, two-in}
use Rattle.orc_ledger_spec.proofs.Dropped.{among-inside, one_number, cancelled}
use Rattle.orc_tables.proofs.Crowded.{in-place, place-in, listed-in, in-listed}

or_second : (a b : Bool) → b ≡ true → (a || b) ≡ true
or_second true b h = refl
or_second false b h = h

or_first : (a b : Bool) → a ≡ true → (a || b) ≡ true
or_first true b h = refl
or_first false b h = cc h

or_cases : (a b : Bool) → (a || b) ≡ true → (a ≡ true) ⊎ (b ≡ true)
or_cases true b h = inl refl
or_cases false b h = inr h

same_bool : (a b : Bool) → (a ≡ true → b ≡ true) → (b ≡ true → a ≡ true) → a ≡ b
same_bool true true f g = refl
same_bool true false f g = sym (f refl)
same_bool false true f g = g refl
same_bool false false f g = refl

some_step : (p q : Step) → Some p ≡ Some q → p ≡ q
some_step p q e = cc e

-- a step enters the right side of the cell exactly where its side is that
aids_side : (c : ℕ) (e : Frame) (k : Side) → IsSide e k → aids c e ≡ true → k ≡ Right c
aids_side c (PruneRight d) (Right f) fit h = ap Right (sym (eqb-true c d h ∙ fit))
aids_side c (PruneRight d) (Left n g scope) fit h = elim fit [ ]
aids_side c (SeqLeft x g scope) k fit h = cc h
aids_side c (OtherwiseLeft n) k fit h = cc h

side_aids : (c : ℕ) (e : Frame) (k : Side) → IsSide e k → k ≡ Right c → aids c e ≡ true
side_aids c (PruneRight d) (Right f) fit is = eq-eqb c d (sym (fit ∙ right_is f c is))
  where
    right_is : (f c : ℕ) → Right f ≡ Right c → f ≡ c
    right_is f c e = cc e
side_aids c (PruneRight d) (Left n g scope) fit is = elim fit [ ]
side_aids c (SeqLeft x g scope) (Right f) fit is = elim fit [ ]
side_aids c (SeqLeft x g scope) (Left n f scope') fit is = elim fit [ ]
side_aids c (OtherwiseLeft m) (Right f) fit is = elim fit [ ]
side_aids c (OtherwiseLeft m) (Left n g scope) fit is = cc is

module _ (l : Listing) (sites : List Site) (s : Records) (L : Lawful l sites s) (G : AreGrouped (numbers_of s) s) (c : ℕ) (ns ts ks : List ℕ) (C : IsCrowd s.steps s.slots s.calls s.groups c ns ts ks) where
  abbrev set : ℕ → Bool
  set n = is_listed ns n

  same_step : (k j : ℕ) (p q : Step) (v w : Nest) → v ≡ w → v.step ≡ suc k → w.step ≡ suc j → slice_get s.steps k ≡ Some p → slice_get s.steps j ≡ Some q → p ≡ q
  same_step k j p q v w same vk wj pk qj =
      let e : k ≡ j = omega (arith, vk, wj, ap (λ (z : Nest). z.step) same) in
      some_step p q (sym pk ∙ ap (slice_get s.steps) e ∙ qj)

  not_root : (h : Group) → IsIn h s.groups → (w : Nest) → G.groups h.number ≡ Some w → w.step ≡ 0 → ⊥
  not_root h i w is e = let d = G.sides h i in omega (arith, d.5, e, ap (λ (z : Nest). z.step) (some_same d.0 w (sym d.3 ∙ is)))

  root_out : (g : ℕ) (w : Nest) → G.groups g ≡ Some w → w.step ≡ 0 → IsIn g ns → ⊥
  root_out g w is e i =
      ⊎_elim (λ a. not_root a.0 a.1 w (ap G.groups a.3 ∙ is) e) (λ b. let h = b.3 in not_root h.0 (place-in s.groups b.1 h.0 h.1) w (ap G.groups h.2 ∙ is) e) (C.groups g i)

  forth : (g : ℕ) (w : Nest) (k : ℕ) (p : Step) → G.groups g ≡ Some w → w.step ≡ suc k → slice_get s.steps k ≡ Some p → IsIn g ns → (aids c p.entered || set w.parent) ≡ true
  forth g w k p is e got i =
      ⊎_elim
      (λ a.
      let d = G.sides a.0 a.1 in
      let same : d.0 ≡ w = some_same d.0 w (sym d.3 ∙ ap G.groups a.3 ∙ is) in
      let step : d.2 ≡ p = same_step d.1 k d.2 p d.0 w same d.5 e d.6 got in
      or_first (aids c p.entered) (set w.parent) (ap (λ (z : Step). aids c z.entered) (sym step) ∙ side_aids c (Step.entered d.2) (Group.side a.0) d.8 a.2))
      (λ b.
      let h = b.3 in
      let d = G.sides h.0 (place-in s.groups b.1 h.0 h.1) in
      let same : d.0 ≡ w = some_same d.0 w (sym d.3 ∙ ap G.groups h.2 ∙ is) in
      let parent : b.0 ≡ w.parent = sym h.3 ∙ sym d.4 ∙ ap (λ (z : Nest). z.parent) same in
      or_second (aids c p.entered) (set w.parent) (in-listed ns w.parent (subst (λ z. IsIn z ns) parent b.2)))
      (C.groups g i)

  back : (g : ℕ) (w : Nest) (k : ℕ) (p : Step) → G.groups g ≡ Some w → w.step ≡ suc k → slice_get s.steps k ≡ Some p → (aids c p.entered ≡ true) ⊎ (set w.parent ≡ true) → IsIn g ns
  back g w k p is e got either =
      let h = G.listed g w k is e in
      let d = G.sides h.0 h.1 in
      let same : d.0 ≡ w = some_same d.0 w (sym d.3 ∙ ap G.groups h.2 ∙ is) in
      let step : d.2 ≡ p = same_step d.1 k d.2 p d.0 w same d.5 e d.6 got in
      ⊎_elim
      (λ (x : aids c p.entered ≡ true).
      let side : Group.side h.0 ≡ Right c = aids_side c (Step.entered d.2) (Group.side h.0) d.8 (ap (λ (z : Step). aids c z.entered) step ∙ x) in
      let one = right-one l sites s L (numbers_of s) G C.own.0 C.own.1 c C.own.2 h.0 h.1 side in
      subst (λ z. IsIn z ns) (sym one ∙ h.2) C.own.3)
      (λ (x : set w.parent ≡ true).
      let q = in-place s.groups h.0 h.1 in
      let parent : group_at s.steps (Group.outer h.0) ≡ w.parent = sym d.4 ∙ ap (λ (z : Nest). z.parent) same in
      subst (λ z. IsIn z ns) h.2 (HasAll.groups (C.all w.parent (listed-in ns w.parent x)) q.0 (Group.number h.0) (h.0, q.1, refl, parent)))
      either

  false_by : (b : Bool) → (b ≡ true → ⊥) → b ≡ false
  false_by true h = absurd (h refl)
  false_by false h = refl

  subtree : IsSubtree c s.steps G.groups set
  subtree =
      record {
        root = λ g w is e. false_by (set g) (λ h. root_out g w is e (listed-in ns g h));
        others = λ g w k p is e got. same_bool (set g) (aids c p.entered || set w.parent) (λ h. forth g w k p is e got (listed-in ns g h)) (λ h. in-listed ns g (back g w k p is e got (or_cases (aids c p.entered) (set w.parent) h)));
      }

  inside_at : (i g : ℕ) (w : Nest) → i ≤ length s.steps → G.groups g ≡ Some w → w.step ≡ home G.homes i → set g ≡ inside c (raw_path (code l) s i)
  inside_at i g w fits is e = record-inside (code l) (its_env (code l) s) s.steps G.homes L.sound.outwards G.are_homes c G.groups G.nests set subtree i g w fits is e

  stands_at : (i : ℕ) → i ≤ length s.steps → stands_inside c s.steps i ≡ inside c (raw_path (code l) s i)
  stands_at i le = among-inside (code l) (its_env (code l) s) c s.steps L.sound.outwards i i (omega arith) le

  token_set : (t : Token) → IsIn t s.tokens → set (group_at s.steps t.step) ≡ stands_inside c s.steps t.step
  token_set t i = let d = G.tokens t i in let le = token_within s L.sound t i in inside_at t.step (group_at s.steps t.step) d.0 le d.1 d.2 ∙ sym (stands_at t.step le)

  call_set : (k : Call) → IsIn k s.calls → set (group_at s.steps k.step) ≡ stands_inside c s.steps k.step
  call_set k i = let d = G.calls k i in let le = call_within s L.sound k i in inside_at k.step (group_at s.steps k.step) d.0 le d.1 d.2 ∙ sym (stands_at k.step le)

  -- the slots are those of the tokens inside
  pub slots-listed : s.tokens ≡ live s.slots → (k : ℕ) (t : Token) → IsHeld s.slots k t → is_listed ts k ≡ stands_inside c s.steps t.step
  slots-listed same k t held =
      let i : IsIn t s.tokens = subst (λ z. IsIn t z) (sym same) (live-in s.slots k t held) in
      same_bool (is_listed ts k) (stands_inside c s.steps t.step)
      (λ h. let d = C.tokens k (listed-in ts k h) in let e = d.3 in let u : e.0 ≡ t = held_same e.0 t (sym e.1.0 ∙ ap (slice_get s.slots) e.2 ∙ held.0) in sym (token_set t i) ∙ in-listed ns (group_at s.steps t.step) (subst (λ z. IsIn z ns) (sym e.3 ∙ ap (λ (z : Token). group_at s.steps z.step) u) d.2))
      (λ h. in-listed ts k (HasAll.tokens (C.all (group_at s.steps t.step) (listed-in ns (group_at s.steps t.step) (token_set t i ∙ h))) k k (t, held, refl, refl)))
    where
      held_same : (t u : Token) → Some t ≡ Some u → t ≡ u
      held_same t u e = cc e

  has_it : (m : ℕ) (k : Call) → k.number ≡ m → has_number m k ≡ 1
  has_it m k e = ap (λ b. cond {A = ℕ} b 1 0) (eq-eqb m k.number (sym e))

  it_has : (m : ℕ) (k : Call) → 1 ≤ has_number m k → k.number ≡ m
  it_has m k h = go (nat_eq m k.number) refl h
    where
      go : (b : Bool) → nat_eq m k.number ≡ b → 1 ≤ cond {A = ℕ} b 1 0 → k.number ≡ m
      go true e h = sym (eqb-true m k.number e)
      go false e h = absurd (omega (arith, h))

  -- two calls with one number stand at one step
  one_call : (j k : Call) → IsIn j s.calls → IsIn k s.calls → j.number ≡ k.number → j.step ≡ k.step
  one_call j k at_j at_k e = go (ℕ_discrete j.step k.step)
    where
      go : Dec (j.step ≡ k.step) → j.step ≡ k.step
      go (yes same) = same
      go (no off) = absurd (omega (arith, one_number l sites s L c k.number, two-in (has_number k.number) (λ (z : Call). z.step) s.calls j k at_j at_k off, has_it k.number j e, has_it k.number k refl))

  -- the numbers are those of the calls inside
  pub numbers-listed : (k : Call) → IsIn k s.calls → is_listed ks k.number ≡ stands_inside c s.steps k.step
  numbers-listed k i =
      same_bool (is_listed ks k.number) (stands_inside c s.steps k.step)
      (λ h. let d = C.calls k.number (listed-in ks k.number h) in let e = d.3 in let at = one_call e.0 k (place-in s.calls d.1 e.0 e.1) i e.2 in sym (call_set k i) ∙ in-listed ns (group_at s.steps k.step) (subst (λ z. IsIn z ns) (sym e.3 ∙ ap (group_at s.steps) at) d.2))
      (λ h. let q = in-place s.calls k i in in-listed ks k.number (HasAll.calls (C.all (group_at s.steps k.step) (listed-in ns (group_at s.steps k.step) (call_set k i ∙ h))) q.0 k.number (k, q.1, refl, refl)))

  goes : (k : Call) → IsIn k s.calls → call_goes (code l) c s k ≡ stands_inside c s.steps k.step
  goes k i = sym (stands_at k.step (call_within s L.sound k i))

  only_so : (b : Bool) (n : ℕ) → 1 ≤ cond b n 0 → (b ≡ true) × (1 ≤ n)
  only_so true n h = (refl, h)
  only_so false n h = absurd (omega (arith, h))

  pub crowd-cancelled : IsRising ks → AreCancelled (code l) c s ks
  crowd-cancelled rise =
      record {
        rising = rise;
        each = λ m. (
          λ i.
              let d = C.calls m i in
              let e = d.3 in
              let at = place-in s.calls d.1 e.0 e.1 in
              let inn : call_goes (code l) c s e.0 ≡ true = goes e.0 at ∙ sym (call_set e.0 at) ∙ in-listed ns (group_at s.steps (Call.step e.0)) (subst (λ z. IsIn z ns) (sym e.3) d.2) in
              omega (arith, weight-in (only (call_goes (code l) c s) (has_number m)) s.calls e.0 at, ap {B = ℕ} (λ b. cond b (has_number m e.0) 0) inn, has_it m e.0 e.2),
          λ some.
              let d = some-in (only (call_goes (code l) c s) (has_number m)) s.calls some in
              let b = only_so (call_goes (code l) c s d.0) (has_number m d.0) d.2 in
              subst (λ z. IsIn z ks) (it_has m d.0 b.1) (listed-in ks (Call.number d.0) (numbers-listed d.0 d.1 ∙ sym (goes d.0 d.1) ∙ b.0)),
        );
      }

  or_is : (c d : ℕ) (e : Frame) (a b : Bool) → IsSide e (Right d) → a ≡ b → (aids c e || a) ≡ (nat_eq c d || b)
  or_is c d (PruneRight f) a b fit same = (λ i. nat_eq c (fit i) || same i)
  or_is c d (SeqLeft x g scope) a b fit same = elim fit [ ]
  or_is c d (OtherwiseLeft n) a b fit same = elim fit [ ]

  left_is : (m g scope : ℕ) (e : Frame) (a b : Bool) → IsSide e (Left m g scope) → a ≡ b → (aids c e || a) ≡ b
  left_is m g scope (OtherwiseLeft n) a b fit same = same
  left_is m g scope (SeqLeft x f scope') a b fit same = elim fit [ ]
  left_is m g scope (PruneRight f) a b fit same = elim fit [ ]

  by_side : (e : Frame) (k : Side) (i : ℕ) → IsSide e k → i ≤ length s.steps → (aids c e || inside c (raw_path (code l) s i)) ≡ side_inside c s.steps i k
  by_side e (Right d) i fit le = or_is c d e (inside c (raw_path (code l) s i)) (stands_inside c s.steps i) fit (sym (stands_at i le))
  by_side e (Left m g scope) i fit le = left_is m g scope e (inside c (raw_path (code l) s i)) (stands_inside c s.steps i) fit (sym (stands_at i le))

  -- the groups are those inside, the side's own too
  pub groups-listed : (g : Group) → IsIn g s.groups → is_listed ns g.number ≡ side_inside c s.steps g.outer g.side
  groups-listed g i =
      let d = G.sides g i in
      let le = get-within s.steps d.1 d.2 d.6 in
      let out : g.outer ≤ length s.steps = omega (arith, L.sound.outwards d.1 d.2 d.6, d.7, le) in
      set-inside (code l) (its_env (code l) s) s.steps G.homes L.sound.outwards G.are_homes c G.groups G.nests set subtree (suc d.1) g.number (suc d.1) d.0 d.3 d.5 (omega arith)
      ∙ inn-step (code l) (its_env (code l) s) s.steps G.homes L.sound.outwards G.are_homes c d.1 d.2 d.6
      ∙ ap (λ z. aids c (Step.entered d.2) || inside c (raw_path (code l) s z)) d.7
      ∙ by_side (Step.entered d.2) g.side g.outer d.8 out

-- ---- however they were found

module _ (l : Listing) (sites : List Site) (s : Records) (L : Lawful l sites s) (G : AreGrouped (numbers_of s) s) (c : ℕ) (ns ts ks : List ℕ) where
  pub side-cancelled : (known : Bool) → (known ≡ true → IsRising ks × IsCrowd s.steps s.slots s.calls s.groups c ns ts ks) → (known ≡ false → (found : List ℕ) × (found ≡ numbers_inside c s.steps s.calls) × IsPermutation found ks × IsSorted nat_cmp ks) → AreCancelled (code l) c s ks
  side-cancelled true h k = let d = h refl in crowd-cancelled l sites s L G c ns ts ks d.1 d.0
  side-cancelled false h k = let d = k refl in cancelled l sites s L c d.0 ks d.1 d.2 d.3
