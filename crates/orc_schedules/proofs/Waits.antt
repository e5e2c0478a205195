-- A wait is looked for only where nothing can move.
use Rattle.std.proofs.Common.{◌≡◌, ℕ, zero, suc, min, List, [], ◌∷◌, ◌++◌, map, Bool, true, false, Option, Some, None, refl, ap, arith}
use Rattle.std.specs.Prelude.{cond, ◌||◌, is_some, slice_get}
use Rattle.orc_rules.specs.declared.value.Value.{Value}
use Rattle.orc_rules.specs.declared.value.Found.{Found}
use Rattle.orc_rules.specs.declared.value.Found.TheVariants.{After, Never}
use Rattle.orc_rules.specs.declared.param.Param.{Param}
use Rattle.orc_rules.specs.declared.param.Param.TheVariants.{Name, Is, Cell, Void}
use Rattle.orc_rules.specs.Term.{values_of}
use Rattle.orc_rules.specs.Idle.{is_ready, has_void}
use Rattle.orc_search.specs.Small.{Out, Small, nothing, gives, asks, enters, both, feeds, prunes, instead, awaits, needs, settle}
use Rattle.orc_search.specs.Moves.{SmallDefinition}
use Rattle.orc_search.specs.Ticks.{is_over, moves_now}
use Rattle.orc_search.specs.Graphs.{Ending, halted, quiet_if, ending}
use Rattle.orc_search.specs.Successors.{Successor, in_left, in_right, in_feeds, in_main, in_side, in_first, given, asked, entered, returned, silently, moves, sooner, time_left, least_left, some_time, wait}
use Rattle.orc_schedules.specs.Tables.{ending_if}

append_none : (xs ys : List Successor) → xs ++ ys ≡ [] → (xs ≡ []) × (ys ≡ [])
append_none [] ys h = (refl, h)
append_none (x ∷ xs) ys h = cc h

map_none : (f : Successor → Successor) (xs : List Successor) → map f xs ≡ [] → xs ≡ []
map_none f [] h = refl
map_none f (x ∷ xs) h = cc h

or_false : (a b : Bool) → a ≡ false → b ≡ false → (a || b) ≡ false
or_false true b p q = p
or_false false b p q = q

false_or : (a b : Bool) → (a || b) ≡ false → (a ≡ false) × (b ≡ false)
false_or true b h = cc h
false_or false b h = (refl, h)

given_none : (p : Param) → given p ≡ [] → is_ready p ≡ false
given_none (Name y) h = refl
given_none (Is v) h = cc h
given_none (Cell n) h = refl
given_none Void h = cc h

asked_none : (ask : ℕ → List Value → Out) (m : ℕ) (o : Option (List Value)) → asked ask m o ≡ [] → is_some o ≡ false
asked_none ask m None h = refl
asked_none ask m (Some args) h = cc h

entered_none : (o : Option SmallDefinition) (ps : List Param) → entered o ps ≡ [] → is_some o ≡ false
entered_none None ps h = refl
entered_none (Some d) ps h = cc h

silently_none : (b : Bool) (f : Small) → silently b f ≡ [] → b ≡ false
silently_none true f h = cc h
silently_none false f h = refl

none_given : (p : Param) → is_ready p ≡ false → given p ≡ []
none_given (Name y) h = refl
none_given (Is v) h = cc h
none_given (Cell n) h = refl
none_given Void h = cc h

none_asked : (ask : ℕ → List Value → Out) (m : ℕ) (o : Option (List Value)) → is_some o ≡ false → asked ask m o ≡ []
none_asked ask m None h = refl
none_asked ask m (Some args) h = cc h

none_entered : (o : Option SmallDefinition) (ps : List Param) → is_some o ≡ false → entered o ps ≡ []
none_entered None ps h = refl
none_entered (Some d) ps h = cc h

none_silently : (b : Bool) (f : Small) → b ≡ false → silently b f ≡ []
none_silently true f h = cc h
none_silently false f h = refl

none_returned : (o : Out) (r : Found) → (time_left r ≡ Some 0 → ⊥) → returned o r ≡ []
none_returned o (After a zero) h = absurd (h refl)
none_returned o (After a (suc delay)) h = refl
none_returned o Never h = refl

sooner_first : (a b : Option ℕ) → a ≡ Some 0 → sooner a b ≡ Some 0
sooner_first None b h = cc h
sooner_first (Some a) None h = h
sooner_first (Some zero) (Some b) h = let e : min 0 b ≡ 0 = omega arith in ap Some e
sooner_first (Some (suc a)) (Some b) h = cc h

sooner_second : (a b : Option ℕ) → b ≡ Some 0 → sooner a b ≡ Some 0
sooner_second None b h = h
sooner_second (Some a) None h = cc h
sooner_second (Some a) (Some zero) h = let e : min a 0 ≡ 0 = omega arith in ap Some e
sooner_second (Some a) (Some (suc b)) h = cc h

both_none : (xs ys : List Successor) → xs ≡ [] → ys ≡ [] → xs ++ ys ≡ []
both_none xs ys p q = λ i. p i ++ q i

module _ (defs : List SmallDefinition) (ask : ℕ → List Value → Out) where
  -- where no move is listed none is there
  pub none_moves : (n : ℕ) (f : Small) → moves defs ask n f ≡ [] → moves_now defs f ≡ false
  none_moves n nothing h = refl
  none_moves n (gives p) h = given_none p h
  none_moves n (asks m ps) h =
      let parts = append_none (asked ask m (values_of ps)) (silently (has_void ps) nothing) h in
      or_false (is_some (values_of ps)) (has_void ps) (asked_none ask m (values_of ps) parts.0) (silently_none (has_void ps) nothing parts.1)
  none_moves n (enters e ps) h = entered_none (slice_get defs e) ps h
  none_moves n (both f g) h =
      let parts = append_none (map (in_left g) (moves defs ask n f)) (map (in_right f) (moves defs ask n g)) h in
      or_false (moves_now defs f) (moves_now defs g) (none_moves n f (map_none (in_left g) (moves defs ask n f) parts.0)) (none_moves n g (map_none (in_right f) (moves defs ask n g) parts.1))
  none_moves n (feeds f x g) h = none_moves n f (map_none (in_feeds x g) (moves defs ask n f) h)
  none_moves n (prunes f x g) h = cc h
  none_moves n (instead f g) h =
      let parts = append_none (silently (is_over f) g) (map (in_first g) (moves defs ask n f)) h in
      or_false (moves_now defs f) (is_over f) (none_moves n f (map_none (in_first g) (moves defs ask n f) parts.1)) (silently_none (is_over f) g parts.0)
  none_moves n (awaits o) h = refl
  none_moves n (needs f g) h =
      let parts = append_none (silently (is_over g) (settle Void n f)) (map (in_main g) (moves defs ask (suc n) f) ++ map (in_side n f) (moves defs ask n g)) h in
      let sides = append_none (map (in_main g) (moves defs ask (suc n) f)) (map (in_side n f) (moves defs ask n g)) parts.1 in
      or_false (moves_now defs f) (moves_now defs g || is_over g) (none_moves (suc n) f (map_none (in_main g) (moves defs ask (suc n) f) sides.0))
      (or_false (moves_now defs g) (is_over g) (none_moves n g (map_none (in_side n f) (moves defs ask n g) sides.1)) (silently_none (is_over g) (settle Void n f) parts.0))

  -- and none is listed where nothing can move now and no answer is due now
  pub moves_none : (n : ℕ) (f : Small) → moves_now defs f ≡ false → (least_left f ≡ Some 0 → ⊥) → moves defs ask n f ≡ []
  moves_none n nothing now due = refl
  moves_none n (gives p) now due = none_given p now
  moves_none n (asks m ps) now due =
      let parts = false_or (is_some (values_of ps)) (has_void ps) now in
      both_none (asked ask m (values_of ps)) (silently (has_void ps) nothing) (none_asked ask m (values_of ps) parts.0) (none_silently (has_void ps) nothing parts.1)
  moves_none n (enters e ps) now due = none_entered (slice_get defs e) ps now
  moves_none n (both f g) now due =
      let parts = false_or (moves_now defs f) (moves_now defs g) now in
      both_none (map (in_left g) (moves defs ask n f)) (map (in_right f) (moves defs ask n g))
      (ap (map (in_left g)) (moves_none n f parts.0 (λ e. due (sooner_first (least_left f) (least_left g) e))))
      (ap (map (in_right f)) (moves_none n g parts.1 (λ e. due (sooner_second (least_left f) (least_left g) e))))
  moves_none n (feeds f x g) now due = ap (map (in_feeds x g)) (moves_none n f now due)
  moves_none n (prunes f x g) now due = cc now
  moves_none n (instead f g) now due =
      let parts = false_or (moves_now defs f) (is_over f) now in
      both_none (silently (is_over f) g) (map (in_first g) (moves defs ask n f)) (none_silently (is_over f) g parts.1) (ap (map (in_first g)) (moves_none n f parts.0 due))
  moves_none n (awaits o) now due = none_returned o o.rest due
  moves_none n (needs f g) now due =
      let parts = false_or (moves_now defs f) (moves_now defs g || is_over g) now in
      let sides = false_or (moves_now defs g) (is_over g) parts.1 in
      both_none (silently (is_over g) (settle Void n f)) (map (in_main g) (moves defs ask (suc n) f) ++ map (in_side n f) (moves defs ask n g)) (none_silently (is_over g) (settle Void n f) sides.1)
      (both_none (map (in_main g) (moves defs ask (suc n) f)) (map (in_side n f) (moves defs ask n g))
      (ap (map (in_main g)) (moves_none (suc n) f parts.0 (λ e. due (sooner_first (least_left f) (least_left g) e))))
      (ap (map (in_side n f)) (moves_none n g sides.0 (λ e. due (sooner_second (least_left f) (least_left g) e)))))

  -- so a term that moves doesn't wait
  pub moving_waits : (n : ℕ) (f : Small) (by : ℕ) → (moves defs ask n f ≡ [] → ⊥) → wait defs f ≡ Some by → ⊥
  moving_waits n f by some h = go (moves_now defs f) refl h where
    zero_none : (o : Option ℕ) → some_time o ≡ Some by → o ≡ Some 0 → ⊥
    zero_none None p q = cc q
    zero_none (Some zero) p q = cc p
    zero_none (Some (suc k)) p q = cc q

    go : (b : Bool) → moves_now defs f ≡ b → cond b None (some_time (least_left f)) ≡ Some by → ⊥
    go true now e = cc e
    go false now e = some (moves_none n f now (zero_none (least_left f) e))

  -- and isn't quiet
  pub moving_ends : (n : ℕ) (f : Small) (e : Ending) → (moves defs ask n f ≡ [] → ⊥) → ending defs f ≡ Some e → ending_if false f ≡ Some e
  moving_ends n f e some h = go (is_over f) (moves_now defs f) (least_left f) refl refl h where
    go : (over now : Bool) (o : Option ℕ) → moves_now defs f ≡ now → least_left f ≡ o → cond over (Some halted) (quiet_if now o) ≡ Some e → cond over (Some halted) (quiet_if true o) ≡ Some e
    go true now o is left p = p
    go false true o is left p = p
    go false false (Some k) is left p = cc p
    go false false None is left p = absurd (some (moves_none n f is (λ q. cc (left, q))))

  pub still_waits : (n : ℕ) (f : Small) → moves defs ask n f ≡ [] → wait defs f ≡ some_time (least_left f)
  still_waits n f none = ap (λ (b : Bool). cond b None (some_time (least_left f))) (none_moves n f none)

  pub still_ends : (n : ℕ) (f : Small) → moves defs ask n f ≡ [] → ending defs f ≡ ending_if true f
  still_ends n f none = ap (λ (b : Bool). cond (is_over f) (Some halted) (quiet_if b (least_left f))) (none_moves n f none)
