-- Each move is in the list, and time passes as `wait` says.
use Rattle.std.proofs.Common.{◌≡◌, ◌<◌, ◌≤◌, ℕ, zero, suc, min, List, [], ◌∷◌, ◌++◌, map, Bool, true, false, Option, Some, None, ◌⊎◌, refl, sym, ap, ◌∙◌, subst, inl, inr, arith}
use Rattle.std.specs.Prelude.{cond, ◌&&◌, nat_lt}
use Rattle.std.proofs.lemmas.Bool.{ltb-true, ltb-false}
use Rattle.orc_rules.specs.declared.value.Value.{Value}
use Rattle.orc_rules.specs.declared.value.Answer.{Answer}
use Rattle.orc_rules.specs.declared.value.Found.{Found}
use Rattle.orc_rules.specs.declared.value.Found.TheVariants.{After, Never}
use Rattle.orc_rules.specs.declared.param.Param.{Param}
use Rattle.orc_rules.specs.declared.param.Param.TheVariants.{Name, Is, Cell, Void}
use Rattle.orc_rules.specs.Term.{values_of, HasVoid}
use Rattle.orc_rules.specs.Idle.{has_void}
use Rattle.orc_rules.specs.Timed.{IsIn}
use Rattle.orc_search.specs.Small.{Out, Small, nothing, gives, asks, enters, both, feeds, prunes, instead, awaits, needs, set_all, settle, IsOver, left_by}
use Rattle.orc_search.specs.Moves.{Happening, called, answered, published, unseen, IsPassed, SmallDefinition, Moves, value, void_value, asked, void_call, returned, entered, on_left, on_right, feeding, fed, opens, on_main, on_side, binds, loses, first, passes, falls}
use Rattle.orc_search.specs.Ticks.{IsOut, is_over}
use Rattle.orc_search.specs.Successors as list
use Rattle.orc_search.specs.Successors.{Successor, in_left, in_right, in_feeds, in_main, in_side, in_first, silently, moves, MovesAreListed, sooner, time_left, least_left, some_time, wait, PassesByWait}

module _ {X : Type 0} where
  front : (x : X) (xs ys : List X) → IsIn x xs → IsIn x (xs ++ ys)
  front x [] ys is = elim is [ ]
  front x (y ∷ xs) ys (inl same) = inl same
  front x (y ∷ xs) ys (inr later) = inr (front x xs ys later)

  back : (x : X) (xs ys : List X) → IsIn x ys → IsIn x (xs ++ ys)
  back x [] ys is = is
  back x (y ∷ xs) ys is = inr (back x xs ys is)

  mapped : {Y : Type 0} (f : X → Y) (x : X) (xs : List X) → IsIn x xs → IsIn (f x) (map f xs)
  mapped f x [] is = elim is [ ]
  mapped f x (y ∷ xs) (inl same) = inl (ap f same)
  mapped f x (y ∷ xs) (inr later) = inr (mapped f x xs later)

to : (s t : Successor) (ss : List Successor) → s ≡ t → IsIn s ss → IsIn t ss
to s t ss e is = subst (λ (u : Successor). IsIn u ss) e is

pub feeds_on : (x : ℕ) (g f : Small) (h : Happening) → IsPassed h → in_feeds x g (h, f) ≡ (h, feeds f x g)
feeds_on x g f (called m args) p = refl
feeds_on x g f (answered m args a) p = refl
feeds_on x g f (published v) p = elim p [ ]
feeds_on x g f unseen p = refl

pub side_on : (n : ℕ) (f g : Small) (h : Happening) → IsPassed h → in_side n f (h, g) ≡ (h, needs f g)
side_on n f g (called m args) p = refl
side_on n f g (answered m args a) p = refl
side_on n f g (published v) p = elim p [ ]
side_on n f g unseen p = refl

pub first_on : (g f : Small) (h : Happening) → IsPassed h → in_first g (h, f) ≡ (h, instead f g)
first_on g f (called m args) p = refl
first_on g f (answered m args a) p = refl
first_on g f (published v) p = elim p [ ]
first_on g f unseen p = refl

both_true : (a b : Bool) → a ≡ true → b ≡ true → (a && b) ≡ true
both_true true true p q = refl
both_true true false p q = q
both_true false b p q = p

pub over_true : (f : Small) → IsOver f → is_over f ≡ true
over_true nothing o = refl
over_true (both f g) o = both_true (is_over f) (is_over g) (over_true f o.0) (over_true g o.1)
over_true (needs f g) o = both_true (is_over f) (is_over g) (over_true f o.0) (over_true g o.1)
over_true (feeds f x g) o = over_true f o
over_true (gives p) o = elim o [ ]
over_true (asks m ps) o = elim o [ ]
over_true (enters e ps) o = elim o [ ]
over_true (prunes f x g) o = elim o [ ]
over_true (instead f g) o = elim o [ ]
over_true (awaits o') o = elim o [ ]

pub void_true : (ps : List Param) → HasVoid ps → has_void ps ≡ true
void_true [] h = elim h [ ]
void_true (Void ∷ ps) h = refl
void_true (Name y ∷ ps) (inl same) = cc same
void_true (Name y ∷ ps) (inr later) = void_true ps later
void_true (Is v ∷ ps) (inl same) = cc same
void_true (Is v ∷ ps) (inr later) = void_true ps later
void_true (Cell c ∷ ps) (inl same) = cc same
void_true (Cell c ∷ ps) (inr later) = void_true ps later

silent : (b : Bool) (f : Small) → b ≡ true → IsIn (unseen, f) (silently b f)
silent true f e = inl refl
silent false f e = cc e

module _ (defs : List SmallDefinition) (ask : ℕ → List Value → Out) where
  listed : {n : ℕ} {f g : Small} {h : Happening} → Moves defs ask n f h g → IsIn (h, g) (moves defs ask n f)
  listed value = inl refl
  listed void_value = inl refl
  listed (asked {m = m} {ps = ps} {args = args} is) =
      front (called m args, awaits (ask m args)) (list.asked ask m (values_of ps)) (silently (has_void ps) nothing)
      (subst (λ (o : Option (List Value)). IsIn (called m args, awaits (ask m args)) (list.asked ask m o)) (sym is) (inl refl))
  listed (void_call {m = m} {ps = ps} has) = back (unseen, nothing) (list.asked ask m (values_of ps)) (silently (has_void ps) nothing) (silent (has_void ps) nothing (void_true ps has))
  listed (returned {o = o} {a = a} is) = subst (λ (r : Found). IsIn (answered o.site o.args a, left_by a) (list.returned o r)) (sym is) (inl refl)
  listed (entered {ps = ps} {d = d} is) = subst (λ (o : Option SmallDefinition). IsIn (unseen, set_all d.params ps d.body) (list.entered o ps)) (sym is) (inl refl)
  listed (on_left {n = n} {f = f} {g = g} {f' = f'} {h = h} m) = front (h, both f' g) (map (in_left g) (moves defs ask n f)) (map (in_right f) (moves defs ask n g)) (mapped (in_left g) (h, f') (moves defs ask n f) (listed m))
  listed (on_right {n = n} {f = f} {g = g} {g' = g'} {h = h} m) = back (h, both f g') (map (in_left g) (moves defs ask n f)) (map (in_right f) (moves defs ask n g)) (mapped (in_right f) (h, g') (moves defs ask n g) (listed m))
  listed (feeding {n = n} {x = x} {f = f} {g = g} {f' = f'} {h = h} p m) = to _ _ _ (feeds_on x g f' h p) (mapped (in_feeds x g) (h, f') (moves defs ask n f) (listed m))
  listed (fed {n = n} {x = x} {f = f} {g = g} {f' = f'} {v = v} m) = mapped (in_feeds x g) (published v, f') (moves defs ask n f) (listed m)
  listed opens = inl refl
  listed (on_main {n = n} {f = f} {g = g} {f' = f'} {h = h} m) =
      let left : List Successor = map (in_main g) (moves defs ask (suc n) f) in
      let right : List Successor = map (in_side n f) (moves defs ask n g) in
      back (h, needs f' g) (silently (is_over g) (settle Void n f)) (left ++ right) (front (h, needs f' g) left right (mapped (in_main g) (h, f') (moves defs ask (suc n) f) (listed m)))
  listed (on_side {n = n} {f = f} {g = g} {g' = g'} {h = h} p m) =
      let left : List Successor = map (in_main g) (moves defs ask (suc n) f) in
      let right : List Successor = map (in_side n f) (moves defs ask n g) in
      back (h, needs f g') (silently (is_over g) (settle Void n f)) (left ++ right) (back (h, needs f g') left right (to _ _ _ (side_on n f g' h p) (mapped (in_side n f) (h, g') (moves defs ask n g) (listed m))))
  listed (binds {n = n} {f = f} {g = g} {g' = g'} {v = v} m) =
      let left : List Successor = map (in_main g) (moves defs ask (suc n) f) in
      let right : List Successor = map (in_side n f) (moves defs ask n g) in
      back (unseen, settle (Is v) n f) (silently (is_over g) (settle Void n f)) (left ++ right) (back (unseen, settle (Is v) n f) left right (mapped (in_side n f) (published v, g') (moves defs ask n g) (listed m)))
  listed (loses {n = n} {f = f} {g = g} over) = front (unseen, settle Void n f) (silently (is_over g) (settle Void n f)) _ (silent (is_over g) (settle Void n f) (over_true g over))
  listed (first {n = n} {f = f} {g = g} {f' = f'} {h = h} p m) = back (h, instead f' g) (silently (is_over f) g) _ (to _ _ _ (first_on g f' h p) (mapped (in_first g) (h, f') (moves defs ask n f) (listed m)))
  listed (passes {n = n} {f = f} {g = g} {f' = f'} {v = v} m) = back (published v, f') (silently (is_over f) g) _ (mapped (in_first g) (published v, f') (moves defs ask n f) (listed m))
  listed (falls {f = f} {g = g} over) = front (unseen, g) (silently (is_over f) g) _ (silent (is_over f) g (over_true f over))

pub moves_are_listed : MovesAreListed
moves_are_listed defs ask n f g h m = listed defs ask m

-- the least time left
pub record AtMost (o : Option ℕ) (most : ℕ) : Type 0 where
  pub time : ℕ
  pub is : o ≡ Some time
  pub within : time ≤ most

sooner_left : (a b : Option ℕ) (most : ℕ) → AtMost a most → AtMost (sooner a b) most
sooner_left None b most m = let e = m.is in cc e
sooner_left (Some a) None most m = record { time = a; is = refl; within = let e : a ≡ m.time = cc (m.is) in omega (arith, e, m.within) }
sooner_left (Some a) (Some b) most m = record { time = min a b; is = refl; within = let e : a ≡ m.time = cc (m.is) in omega (arith, e, m.within) }

sooner_right : (a b : Option ℕ) (most : ℕ) → AtMost b most → AtMost (sooner a b) most
sooner_right None b most m = m
sooner_right (Some a) None most m = let e = m.is in cc e
sooner_right (Some a) (Some b) most m = record { time = min a b; is = refl; within = let e : b ≡ m.time = cc (m.is) in omega (arith, e, m.within) }

pub at_most : (f : Small) (o : Out) (a : Answer) (delay : ℕ) → IsOut o f → o.rest ≡ After a delay → AtMost (least_left f) delay
at_most nothing o a d out is = elim out [ ]
at_most (gives p) o a d out is = elim out [ ]
at_most (asks m ps) o a d out is = elim out [ ]
at_most (enters e ps) o a d out is = elim out [ ]
at_most (both f g) o a d (inl out) is = sooner_left (least_left f) (least_left g) d (at_most f o a d out is)
at_most (both f g) o a d (inr out) is = sooner_right (least_left f) (least_left g) d (at_most g o a d out is)
at_most (feeds f x g) o a d out is = at_most f o a d out is
at_most (prunes f x g) o a d out is = elim out [ ]
at_most (instead f g) o a d out is = at_most f o a d out is
at_most (awaits p) o a d out is = record { time = d; is = ap time_left (sym (ap Out.rest out) ∙ is); within = omega arith }
at_most (needs f g) o a d (inl out) is = sooner_left (least_left f) (least_left g) d (at_most f o a d out is)
at_most (needs f g) o a d (inr out) is = sooner_right (least_left f) (least_left g) d (at_most g o a d out is)

pub record Waits (f : Small) (time : ℕ) : Type 0 where
  pub call : Out
  pub answer : Answer
  pub out : IsOut call f
  pub rest : call.rest ≡ After answer time

either : (a b : Option ℕ) (time : ℕ) → sooner a b ≡ Some time → (a ≡ Some time) ⊎ (b ≡ Some time)
either None b time e = inr e
either (Some a) None time e = inl e
either (Some a) (Some b) time e = let m : min a b ≡ time = cc e in go m (nat_lt a b) refl where
  go : min a b ≡ time → (c : Bool) → nat_lt a b ≡ c → (Some a ≡ Some time) ⊎ (Some b ≡ Some time)
  go m true p = inl (ap Some (omega (arith, m, ltb-true a b p)))
  go m false p = inr (ap Some (omega (arith, m, ltb-false a b p)))

pub waits : (f : Small) (time : ℕ) → least_left f ≡ Some time → Waits f time
waits nothing time e = cc e
waits (gives p) time e = cc e
waits (asks m ps) time e = cc e
waits (enters d ps) time e = cc e
waits (both f g) time e = go (either (least_left f) (least_left g) time e) (waits f time) (waits g time) where
  go : (least_left f ≡ Some time) ⊎ (least_left g ≡ Some time) → (least_left f ≡ Some time → Waits f time) → (least_left g ≡ Some time → Waits g time) → Waits (both f g) time
  go (inl p) a b = let w = a p in record { call = w.call; answer = w.answer; out = inl w.out; rest = w.rest }
  go (inr p) a b = let w = b p in record { call = w.call; answer = w.answer; out = inr w.out; rest = w.rest }
waits (feeds f x g) time e = let w = waits f time e in record { call = w.call; answer = w.answer; out = w.out; rest = w.rest }
waits (prunes f x g) time e = cc e
waits (instead f g) time e = let w = waits f time e in record { call = w.call; answer = w.answer; out = w.out; rest = w.rest }
waits (awaits o) time e = go o.rest refl where
  go : (r : Found) → o.rest ≡ r → Waits (awaits o) time
  go (After a delay) p = let q : delay ≡ time = let s : Some delay ≡ Some time = ap time_left (sym p) ∙ e in cc s in record { call = o; answer = a; out = refl; rest = p ∙ ap (After a) q }
  go Never p = let s : None ≡ Some time = ap time_left (sym p) ∙ e in cc s
waits (needs f g) time e = go (either (least_left f) (least_left g) time e) (waits f time) (waits g time) where
  go : (least_left f ≡ Some time) ⊎ (least_left g ≡ Some time) → (least_left f ≡ Some time → Waits f time) → (least_left g ≡ Some time → Waits g time) → Waits (needs f g) time
  go (inl p) a b = let w = a p in record { call = w.call; answer = w.answer; out = inl w.out; rest = w.rest }
  go (inr p) a b = let w = b p in record { call = w.call; answer = w.answer; out = inr w.out; rest = w.rest }

pub passes_by_wait : PassesByWait
passes_by_wait defs f g by p =
    let r = p.reached in
    let m = at_most f r.0 r.1 by r.2 r.3 in
    let w = waits f m.time m.is in
    let same : m.time ≡ by = omega (arith, m.within, p.least w.call w.answer m.time w.out w.rest) in
    (ap (λ b. cond b None (some_time (least_left f))) p.still ∙ ap some_time (m.is ∙ ap Some same) ∙ positive by p.some, p.after)
  where
    positive : (n : ℕ) → 0 < n → some_time (Some n) ≡ Some n
    positive zero l = absurd (omega (arith, l))
    positive (suc n) l = refl
