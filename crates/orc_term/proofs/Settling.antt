-- Flags go up from a part that halts.
use Rattle.std.proofs.Common.{◌≡◌, ◌≤◌, ◌<◌, ◌+◌, ℕ, zero, suc, List, [], ◌∷◌, get_or, Option, Some, None, refl, sym, ap, ◌∙◌, subst, inl, inr, ◌⊎◌, arith, Bool, true, false}
use Rattle.std.specs.Prelude.{slice_get, slice_set, ◌&&◌}
use Rattle.orc_term.specs.declared.arena.Node.{Node}
use Rattle.orc_term.specs.declared.arena.Kind.{Kind}
use Rattle.orc_term.specs.declared.arena.Kind.TheVariants.{One, Two}
use Rattle.orc_term.specs.declared.arena.Single.{Single}
use Rattle.orc_term.specs.declared.arena.Single.TheVariants.{Feeds, Entered, Passed}
use Rattle.orc_term.specs.declared.arena.Tip.TheVariants.{Gone, Ended, Token, Bears, Waits}
use Rattle.orc_term.specs.declared.arena.Double.TheVariants.{Both, Side}
use Rattle.orc_rules.specs.declared.param.Param.{Param}
use Rattle.orc_rules.specs.Term.{Term, stop, param, site, call, par, seq, prune, other, pending, opened, put}
use Rattle.orc_rules.specs.Marked.{erase}
use Rattle.orc_rules.specs.Idle.{has_halted}
use Rattle.orc_term.specs.Arena.{Tree, leaf, one, two, place, count, at, Holds, StandOnce, spelled, Frame, on_one, on_left, on_right, plug}
use Rattle.orc_env.specs.Scopes.{Env, given, close}
use Rattle.orc_term.specs.Halting.{AreHalts}
use Rattle.orc_term.specs.Around.{above, around}
use Rattle.orc_term.specs.Rising.{Stands, nowhere}
use Rattle.orc_term.specs.Settling.{flag, one_flag, inner_flag, Flagged, FlaggedAround, Settles, parent_at, kind_at, HaltsNext, EndsAt}
use Rattle.orc_term.proofs.Trees.{hit, count-plug, holds-out, living-most}
use Rattle.orc_term.proofs.Rising.{itself}

-- lists of flags
pub flag-set_same : (flags : List Bool) (i : ℕ) → flag (slice_set flags i true) i ≡ true
flag-set_same [] i = refl
flag-set_same (b ∷ flags) zero = refl
flag-set_same (b ∷ flags) (suc i) = flag-set_same flags i

pub flag-set_other : (flags : List Bool) (i u : ℕ) (b : Bool) → (u ≡ i → ⊥) → flag (slice_set flags i b) u ≡ flag flags u
flag-set_other [] i u b off = refl
flag-set_other (c ∷ flags) zero zero b off = absurd (off refl)
flag-set_other (c ∷ flags) zero (suc u) b off = refl
flag-set_other (c ∷ flags) (suc i) zero b off = refl
flag-set_other (c ∷ flags) (suc i) (suc u) b off = flag-set_other flags i u b (λ e. off (ap suc e))

pub set_false : (flags : List Bool) (i : ℕ) → flag flags i ≡ false → slice_set flags i false ≡ flags
set_false [] i h = refl
set_false (b ∷ flags) zero h = λ j. sym h j ∷ flags
set_false (b ∷ flags) (suc i) h = ap (λ z. b ∷ z) (set_false flags i h)

-- how many flags are false
abbrev pub unflagged : List Bool → ℕ
unflagged [] = 0
unflagged (true ∷ flags) = unflagged flags
unflagged (false ∷ flags) = suc (unflagged flags)

pub fewer : (flags : List Bool) (i : ℕ) → flag flags i ≡ false → unflagged (slice_set flags i true) < unflagged flags
fewer [] i h = absurd (cc h)
fewer (true ∷ flags) zero h = absurd (cc h)
fewer (false ∷ flags) zero h = omega arith
fewer (true ∷ flags) (suc i) h = fewer flags i h
fewer (false ∷ flags) (suc i) h = omega (arith, fewer flags i h)

module _ (halts : List Bool) where
  -- flags that stay where a tree stands
  pub flagged_kept : (flags flags' : List Bool) (t : Tree) → ((u : ℕ) → 1 ≤ count u t → flag flags' u ≡ flag flags u) → Flagged halts flags t → Flagged halts flags' t
  flagged_kept flags flags' (leaf i k) same h = same i (omega (arith, hit i)) ∙ h
  flagged_kept flags flags' (one i k t) same h =
      (same i (omega (arith, hit i)) ∙ h.0 ∙ ap (one_flag k) (sym (same (place t) (omega (arith, itself t)))), flagged_kept flags flags' t (λ u a. same u (omega (arith, a))) h.1)
  flagged_kept flags flags' (two i d t v) same h = (
    same i (omega (arith, hit i)) ∙ h.0 ∙ (λ j. sym (same (place t) (omega (arith, itself t))) j && sym (same (place v) (omega (arith, itself v))) j),
    flagged_kept flags flags' t (λ u a. same u (omega (arith, a))) h.1,
    flagged_kept flags flags' v (λ u a. same u (omega (arith, a))) h.2,
  )

  pub around_flags_kept : (flags flags' : List Bool) (k : List Frame) (b : Bool) → ((u : ℕ) → 1 ≤ around u k → flag flags' u ≡ flag flags u) → FlaggedAround halts flags k b → FlaggedAround halts flags' k b
  around_flags_kept flags flags' [] b same h = tt
  around_flags_kept flags flags' (on_one i s ∷ k) b same h =
      let e = same i (omega (arith, hit i)) in
      (e ∙ h.0, subst (FlaggedAround halts flags' k) (sym e) (around_flags_kept flags flags' k (flag flags i) (λ u a. same u (omega (arith, a))) h.1))
  around_flags_kept flags flags' (on_left i d v ∷ k) b same h =
      let e = same i (omega (arith, hit i)) in (
        e ∙ h.0 ∙ ap (λ z. b && z) (sym (same (place v) (omega (arith, itself v)))),
        flagged_kept flags flags' v (λ u a. same u (omega (arith, a))) h.1,
        subst (FlaggedAround halts flags' k) (sym e) (around_flags_kept flags flags' k (flag flags i) (λ u a. same u (omega (arith, a))) h.2),
      )
  around_flags_kept flags flags' (on_right i d v ∷ k) b same h =
      let e = same i (omega (arith, hit i)) in (
        e ∙ h.0 ∙ ap (λ z. z && b) (sym (same (place v) (omega (arith, itself v)))),
        flagged_kept flags flags' v (λ u a. same u (omega (arith, a))) h.1,
        subst (FlaggedAround halts flags' k) (sym e) (around_flags_kept flags flags' k (flag flags i) (λ u a. same u (omega (arith, a))) h.2),
      )

  -- a part and what is around it
  pub flagged-out : (flags : List Bool) (k : List Frame) (t : Tree) → Flagged halts flags (plug k t) → FlaggedAround halts flags k (flag flags (place t)) × Flagged halts flags t
  flagged-out flags [] t h = (tt, h)
  flagged-out flags (on_one i s ∷ k) t h = let o = flagged-out flags k (one i s t) h in ((o.1.0, o.0), o.1.1)
  flagged-out flags (on_left i d v ∷ k) t h = let o = flagged-out flags k (two i d t v) h in ((o.1.0, o.1.2, o.0), o.1.1)
  flagged-out flags (on_right i d v ∷ k) t h = let o = flagged-out flags k (two i d v t) h in ((o.1.0, o.1.1, o.0), o.1.2)

  pub flagged-in : (flags : List Bool) (k : List Frame) (t : Tree) → FlaggedAround halts flags k (flag flags (place t)) → Flagged halts flags t → Flagged halts flags (plug k t)
  flagged-in flags [] t a h = h
  flagged-in flags (on_one i s ∷ k) t a h = flagged-in flags k (one i s t) a.1 (a.0, h)
  flagged-in flags (on_left i d v ∷ k) t a h = flagged-in flags k (two i d t v) a.2 (a.0, h, a.1)
  flagged-in flags (on_right i d v ∷ k) t a h = flagged-in flags k (two i d v t) a.2 (a.0, a.1, h)

one_false : (s : Single) → one_flag s false ≡ false
one_false (Feeds x g e) = refl
one_false (Entered m g e) = refl
one_false Passed = refl

and_false : (b : Bool) → (b && false) ≡ false
and_false true = refl
and_false false = refl

found_at : {X : Type 0} (xs : List X) (i : ℕ) (d x : X) → slice_get xs i ≡ Some x → get_or xs i d ≡ x
found_at [] i d x h = cc h
found_at (y ∷ xs) zero d x h = ap (or_else d) h
  where
    or_else : {X : Type 0} → X → Option X → X
    or_else d (Some z) = z
    or_else d None = d
found_at (y ∷ xs) (suc i) d x h = found_at xs i d x h

-- what stands at the node above a part
module _ (nodes : List Node) (n i : ℕ) where
  slot : (p : ℕ) (t : Tree) → Holds nodes n p t → (k : Kind) × (slice_get nodes (place t) ≡ Some (record { kind = k; parent = p }))
  slot p (leaf i k) h = (_, h.0)
  slot p (one i k t) h = (_, h.0)
  slot p (two i k t u) h = (_, h.0)

  parent_is : (p : ℕ) (t : Tree) → Holds nodes n p t → place t ≡ i → parent_at nodes i ≡ p
  parent_is p t h e = let w = slot p t h in ap Node.parent (found_at nodes i nowhere _ (ap (slice_get nodes) (sym e) ∙ w.1))

  kind_is : (j : ℕ) (k : Kind) (p : ℕ) → at nodes p j k → parent_at nodes i ≡ j → kind_at nodes (parent_at nodes i) ≡ k
  kind_is j k p a e = ap (kind_at nodes) e ∙ ap Node.kind (found_at nodes j nowhere _ a)

-- what is known of a part that has halted, and the flags around it as if it hadn't
pub record Halting (halts : List Bool) (nodes : List Node) (n : ℕ) (flags : List Bool) (i : ℕ) (o : List Frame) (u : Tree) : Type 0 where
  pub stands : Stands nodes n i o u
  pub outside : FlaggedAround halts flags o false
  pub inside : Flagged halts flags u
  pub flagged : flag flags i ≡ true

module _ (halts : List Bool) (nodes : List Node) (n : ℕ) (flags : List Bool) where
  -- the next part on the way up
  abbrev pub Next : ℕ → Tree → Type 0
  Next p whole = (o : List Frame) × (u : Tree) × Halting halts nodes n (slice_set flags p true) p o u × (plug o u ≡ whole)

  -- the node of a part isn't around it, nor in a part of it
  apart : (i : ℕ) (k : List Frame) (t : Tree) → StandOnce nodes (plug k t) → place t ≡ i → (u : ℕ) → 1 ≤ around u k → u ≡ i → ⊥
  apart i k t once e u a same = omega (arith, a, itself t, ap (λ z. count z t) (e ∙ sym same), count-plug u k t, once u, living-most (slice_get nodes u))

  pub onward : (i p : ℕ) (o : List Frame) (u : Tree) → Halting halts nodes n flags i o u → HaltsNext nodes flags i p → Next p (plug o u)
  onward i p [] u h x =
      let q : parent_at nodes i ≡ 0 = parent_is nodes n i 0 u h.stands.holds h.stands.there in
      let z : i ≡ 0 = sym h.stands.there ∙ h.stands.root in
      absurd (cc (sym h.flagged ∙ ap (flag flags) (z ∙ sym q ∙ sym x.0) ∙ x.1))
  onward i p (on_one j s ∷ o) u h x =
      let w = holds-out nodes n 0 (on_one j s ∷ o) u h.stands.holds in
      let q : parent_at nodes i ≡ j = parent_is nodes n i j u w.1 h.stands.there in
      let e : p ≡ j = x.0 ∙ q in
      let flags' = slice_set flags p true in
      let off : flag flags j ≡ false = ap (flag flags) (sym e) ∙ x.1 in
      let in_part : (v : ℕ) → 1 ≤ count v u → flag flags' v ≡ flag flags v =
      λ v a. flag-set_other flags p v true (λ same. omega (arith, a, hit j, ap (λ z. count z u) (same ∙ e), ap (λ z. count z u) same, count-plug j (on_one j s ∷ o) u, h.stands.once j, living-most (slice_get nodes j))) in
      let kept = in_part (place u) (omega (arith, itself u)) in
      let its : one_flag s (flag flags (place u)) ≡ true = ap (inner_flag flags) (sym (ap (kind_at nodes) x.0 ∙ kind_is nodes n i j (One s (place u)) (above 0 o) w.0.0 q)) ∙ x.2 in (
        o,
        one j s u,
        record {
          stands = record { holds = h.stands.holds; once = h.stands.once; there = sym e; root = h.stands.root };
          outside =
              around_flags_kept halts flags flags' o false
              (λ v a. flag-set_other flags p v true (λ same. apart p o (one j s u) h.stands.once (sym e) v a same))
              (subst (FlaggedAround halts flags o) off h.outside.1);
          inside = (
            ap (flag flags') (sym e) ∙ flag-set_same flags p ∙ sym (ap (one_flag s) kept ∙ its),
            flagged_kept halts flags flags' u in_part h.inside,
          );
          flagged = flag-set_same flags p;
        },
        refl,
      )
  onward i p (on_left j d v ∷ o) u h x =
      let w = holds-out nodes n 0 (on_left j d v ∷ o) u h.stands.holds in
      let q : parent_at nodes i ≡ j = parent_is nodes n i j u w.1 h.stands.there in
      let e : p ≡ j = x.0 ∙ q in
      let flags' = slice_set flags p true in
      let off : flag flags j ≡ false = ap (flag flags) (sym e) ∙ x.1 in
      let in_part : (y : ℕ) → 1 ≤ count y u + count y v → flag flags' y ≡ flag flags y =
      λ y a. flag-set_other flags p y true (λ same. omega (arith, a, hit j, ap (λ z. count z u + count z v) (same ∙ e), count-plug j (on_left j d v ∷ o) u, h.stands.once j, living-most (slice_get nodes j))) in
      let kept_u = in_part (place u) (omega (arith, itself u)) in
      let kept_v = in_part (place v) (omega (arith, itself v)) in
      let its : (flag flags (place u) && flag flags (place v)) ≡ true = ap (inner_flag flags) (sym (ap (kind_at nodes) x.0 ∙ kind_is nodes n i j (Two d (place u) (place v)) (above 0 o) w.0.0 q)) ∙ x.2 in (
        o,
        two j d u v,
        record {
          stands = record { holds = h.stands.holds; once = h.stands.once; there = sym e; root = h.stands.root };
          outside =
              around_flags_kept halts flags flags' o false
              (λ y a. flag-set_other flags p y true (λ same. apart p o (two j d u v) h.stands.once (sym e) y a same))
              (subst (FlaggedAround halts flags o) off h.outside.2);
          inside = (
            ap (flag flags') (sym e) ∙ flag-set_same flags p ∙ sym ((λ y. kept_u y && kept_v y) ∙ its),
            flagged_kept halts flags flags' u (λ y a. in_part y (omega (arith, a))) h.inside,
            flagged_kept halts flags flags' v (λ y a. in_part y (omega (arith, a))) h.outside.1,
          );
          flagged = flag-set_same flags p;
        },
        refl,
      )
  onward i p (on_right j d v ∷ o) u h x =
      let w = holds-out nodes n 0 (on_right j d v ∷ o) u h.stands.holds in
      let q : parent_at nodes i ≡ j = parent_is nodes n i j u w.1 h.stands.there in
      let e : p ≡ j = x.0 ∙ q in
      let flags' = slice_set flags p true in
      let off : flag flags j ≡ false = ap (flag flags) (sym e) ∙ x.1 in
      let in_part : (y : ℕ) → 1 ≤ count y u + count y v → flag flags' y ≡ flag flags y =
      λ y a. flag-set_other flags p y true (λ same. omega (arith, a, hit j, ap (λ z. count z u + count z v) (same ∙ e), count-plug j (on_right j d v ∷ o) u, h.stands.once j, living-most (slice_get nodes j))) in
      let kept_u = in_part (place u) (omega (arith, itself u)) in
      let kept_v = in_part (place v) (omega (arith, itself v)) in
      let its : (flag flags (place v) && flag flags (place u)) ≡ true = ap (inner_flag flags) (sym (ap (kind_at nodes) x.0 ∙ kind_is nodes n i j (Two d (place v) (place u)) (above 0 o) w.0.0 q)) ∙ x.2 in (
        o,
        two j d v u,
        record {
          stands = record { holds = h.stands.holds; once = h.stands.once; there = sym e; root = h.stands.root };
          outside =
              around_flags_kept halts flags flags' o false
              (λ y a. flag-set_other flags p y true (λ same. apart p o (two j d v u) h.stands.once (sym e) y a same))
              (subst (FlaggedAround halts flags o) off h.outside.2);
          inside = (
            ap (flag flags') (sym e) ∙ flag-set_same flags p ∙ sym ((λ y. kept_v y && kept_u y) ∙ its),
            flagged_kept halts flags flags' v (λ y a. in_part y (omega (arith, a))) h.outside.1,
            flagged_kept halts flags flags' u (λ y a. in_part y (omega (arith, a))) h.inside,
          );
          flagged = flag-set_same flags p;
        },
        refl,
      )

  -- where the node above doesn't halt with its parts, all flags are right
  pub outermost : (i : ℕ) (o : List Frame) (u : Tree) → Halting halts nodes n flags i o u → EndsAt nodes flags i → FlaggedAround halts flags o true
  outermost i [] u h x = tt
  outermost i (on_one j s ∷ o) u h x =
      let w = holds-out nodes n 0 (on_one j s ∷ o) u h.stands.holds in
      let q : parent_at nodes i ≡ j = parent_is nodes n i j u w.1 h.stands.there in
      let off : flag flags j ≡ false = h.outside.0 ∙ one_false s in
      let on : flag flags (place u) ≡ true = ap (flag flags) h.stands.there ∙ h.flagged in
      let k = kind_is nodes n i j (One s (place u)) (above 0 o) w.0.0 q in (
        off ∙ sym (last x (λ a. absurd (cc (sym off ∙ ap (flag flags) (sym q) ∙ a))) (λ a. sym (ap (one_flag s) on) ∙ sym (ap (inner_flag flags) k) ∙ a)),
        h.outside.1,
      )
    where
      last : {A B C : Type 0} → A ⊎ B → (A → C) → (B → C) → C
      last (inl a) f g = f a
      last (inr b) f g = g b
  outermost i (on_left j d v ∷ o) u h x =
      let w = holds-out nodes n 0 (on_left j d v ∷ o) u h.stands.holds in
      let q : parent_at nodes i ≡ j = parent_is nodes n i j u w.1 h.stands.there in
      let off : flag flags j ≡ false = h.outside.0 in
      let on : flag flags (place u) ≡ true = ap (flag flags) h.stands.there ∙ h.flagged in
      let k = kind_is nodes n i j (Two d (place u) (place v)) (above 0 o) w.0.0 q in (
        off ∙ sym (last x (λ a. absurd (cc (sym off ∙ ap (flag flags) (sym q) ∙ a))) (λ a. sym (ap (λ z. z && flag flags (place v)) on) ∙ sym (ap (inner_flag flags) k) ∙ a)),
        h.outside.1,
        h.outside.2,
      )
    where
      last : {A B C : Type 0} → A ⊎ B → (A → C) → (B → C) → C
      last (inl a) f g = f a
      last (inr b) f g = g b
  outermost i (on_right j d v ∷ o) u h x =
      let w = holds-out nodes n 0 (on_right j d v ∷ o) u h.stands.holds in
      let q : parent_at nodes i ≡ j = parent_is nodes n i j u w.1 h.stands.there in
      let off : flag flags j ≡ false = h.outside.0 ∙ and_false (flag flags (place v)) in
      let on : flag flags (place u) ≡ true = ap (flag flags) h.stands.there ∙ h.flagged in
      let k = kind_is nodes n i j (Two d (place v) (place u)) (above 0 o) w.0.0 q in (
        off ∙ sym (last x (λ a. absurd (cc (sym off ∙ ap (flag flags) (sym q) ∙ a))) (λ a. sym (ap (λ z. flag flags (place v) && z) on) ∙ sym (ap (inner_flag flags) k) ∙ a)),
        h.outside.1,
        h.outside.2,
      )
    where
      last : {A B C : Type 0} → A ⊎ B → (A → C) → (B → C) → C
      last (inl a) f g = f a
      last (inr b) f g = g b

-- how far the flags have come
abbrev pub Settled : List Node → List Bool → ℕ → List Bool → ℕ → Type 0
Settled nodes flags from flags' i = (halts : List Bool) (n : ℕ) (k : List Frame) (t : Tree) → Stands nodes n from k t → FlaggedAround halts flags k false → Flagged halts (slice_set flags from true) t → flag flags from ≡ false → (o : List Frame) × (u : Tree) × Halting halts nodes n flags' i o u × (plug o u ≡ plug k t)

pub settled_none : (nodes : List Node) (flags : List Bool) (i : ℕ) → Settled nodes flags i (slice_set flags i true) i
settled_none nodes flags i halts n k t s a f off = (
  k,
  t,
  record {
    stands = s;
    outside = around_flags_kept halts flags (slice_set flags i true) k false (λ v b. flag-set_other flags i v true (λ same. apart halts nodes n flags i k t s.once s.there v b same)) a;
    inside = f;
    flagged = flag-set_same flags i;
  },
  refl,
)

pub settled_on : (nodes : List Node) (flags : List Bool) (from : ℕ) (flags' : List Bool) (i p : ℕ) → Settled nodes flags from flags' i → HaltsNext nodes flags' i p → Settled nodes flags from (slice_set flags' p true) p
settled_on nodes flags from flags' i p f x halts n k t s a g off =
    let c = f halts n k t s a g off in
    let w = onward halts nodes n flags' i p c.0 c.1 c.2 x in
    (w.0, w.1, w.2, w.3 ∙ c.3)

pub settled_all : (nodes : List Node) (flags : List Bool) (from : ℕ) (flags' : List Bool) (i : ℕ) → Settled nodes flags from flags' i → EndsAt nodes flags' i → Settles nodes flags from true flags'
settled_all nodes flags from flags' i f x halts n k t s a g off =
    let c = f halts n k t s a g off in
    let h = c.2 in
    let w = outermost halts nodes n flags' i c.0 c.1 h x in
    subst (Flagged halts flags') c.3 (flagged-in halts flags' c.0 c.1 (subst (FlaggedAround halts flags' c.0) (sym (ap (flag flags') h.stands.there ∙ h.flagged)) w) h.inside)

pub settled_not : (nodes : List Node) (flags : List Bool) (from : ℕ) → Settles nodes flags from false flags
settled_not nodes flags from halts n k t s a g off =
    flagged-in halts flags k t (subst (FlaggedAround halts flags k) (sym (ap (flag flags) s.there ∙ off)) a) (subst (λ z. Flagged halts z t) (set_false flags from off) g)

-- what is put in leaves a term as halted as it was
pub put_halted : (q : Param) (x : ℕ) (f : Term) → has_halted (put q x f) ≡ has_halted f
put_halted q x stop = refl
put_halted q x (param p) = refl
put_halted q x (site m ps) = refl
put_halted q x (call e ps) = refl
put_halted q x (par f g) = λ i. put_halted q x f i && put_halted q x g i
put_halted q x (seq f y g) = put_halted q x f
put_halted q x (prune f y g) = refl
put_halted q x (other f g) = refl
put_halted q x (pending k) = refl
put_halted q x (opened f c g) = λ i. put_halted q x f i && put_halted q x g i

pub close_halted : (e : Env) (f : Term) → has_halted (close e f) ≡ has_halted f
close_halted [] f = refl
close_halted (b ∷ e) f = close_halted e (put (given b.1) b.0 f) ∙ put_halted (given b.1) b.0 f

-- a part's flag says whether what it spells has halted
module _ (code : ℕ → Term) (env : ℕ → Env) (halts : List Bool) (are : AreHalts code halts) where
  pub flag_says : (flags : List Bool) (t : Tree) → Flagged halts flags t → flag flags (place t) ≡ has_halted (erase (spelled code env t))
  flag_says flags (leaf i Gone) h = h
  flag_says flags (leaf i Ended) h = h
  flag_says flags (leaf i (Token s f e)) h = h ∙ are f ∙ sym (close_halted (env e) (code f))
  flag_says flags (leaf i (Bears s v)) h = h
  flag_says flags (leaf i (Waits k)) h = h
  flag_says flags (one i (Feeds x g e) t) h = h.0 ∙ flag_says flags t h.1
  flag_says flags (one i (Entered m g e) t) h = h.0
  flag_says flags (one i Passed t) h = h.0 ∙ flag_says flags t h.1
  flag_says flags (two i Both t u) h = h.0 ∙ (λ j. flag_says flags t h.1 j && flag_says flags u h.2 j)
  flag_says flags (two i (Side c) t u) h = h.0 ∙ (λ j. flag_says flags t h.1 j && flag_says flags u h.2 j)
