-- What is in the list of moves is one.
use Rattle.std.proofs.Common.{◌≡◌, ℕ, zero, suc, List, [], ◌∷◌, ◌++◌, map, Bool, true, false, Option, Some, None, ◌⊎◌, refl, sym, subst, inl, inr}
use Rattle.std.specs.Prelude.{◌&&◌, slice_get}
use Rattle.orc_rules.specs.declared.value.Value.{Value}
use Rattle.orc_rules.specs.declared.value.Found.{Found}
use Rattle.orc_rules.specs.declared.value.Found.TheVariants.{After, Never}
use Rattle.orc_rules.specs.declared.param.Param.{Param}
use Rattle.orc_rules.specs.declared.param.Param.TheVariants.{Name, Is, Cell, Void}
use Rattle.orc_rules.specs.Term.{values_of, HasVoid}
use Rattle.orc_rules.specs.Idle.{has_void}
use Rattle.orc_rules.specs.Timed.{IsIn}
use Rattle.orc_search.specs.Small.{Out, Small, nothing, gives, asks, enters, both, feeds, prunes, instead, awaits, needs, settle, IsOver}
use Rattle.orc_search.specs.Moves.{Happening, called, answered, published, unseen, SmallDefinition, Moves, value, void_value, asked, void_call, returned, entered, on_left, on_right, feeding, fed, opens, on_main, on_side, binds, loses, first, passes, falls}
use Rattle.orc_search.specs.Ticks.{is_over}
use Rattle.orc_search.specs.Successors as list
use Rattle.orc_search.specs.Successors.{Successor, in_left, in_right, in_feeds, in_main, in_side, in_first, silently, moves, ListedAreMoves}

pub split : {X : Type 0} (x : X) (xs ys : List X) → IsIn x (xs ++ ys) → IsIn x xs ⊎ IsIn x ys
split x [] ys is = inr is
split x (y ∷ xs) ys (inl same) = inl (inl same)
split x (y ∷ xs) ys (inr later) = go (split x xs ys later) where
  go : IsIn x xs ⊎ IsIn x ys → IsIn x (y ∷ xs) ⊎ IsIn x ys
  go (inl l) = inl (inr l)
  go (inr r) = inr r

record From (f : Successor → Successor) (y : Successor) (xs : List Successor) : Type 0 where
  by : Successor
  listed : IsIn by xs
  is : y ≡ f by

unmap : (f : Successor → Successor) (y : Successor) (xs : List Successor) → IsIn y (map f xs) → From f y xs
unmap f y [] is = elim is [ ]
unmap f y (x ∷ xs) (inl same) = record { by = x; listed = inl refl; is = same }
unmap f y (x ∷ xs) (inr later) = let u = unmap f y xs later in record { by = u.by; listed = inr u.listed; is = u.is }

both_are : (a b : Bool) → (a && b) ≡ true → (a ≡ true) × (b ≡ true)
both_are true b e = (refl, e)
both_are false b e = cc e

pub true_over : (f : Small) → is_over f ≡ true → IsOver f
true_over nothing e = tt
true_over (both f g) e = let p = both_are (is_over f) (is_over g) e in (true_over f p.0, true_over g p.1)
true_over (needs f g) e = let p = both_are (is_over f) (is_over g) e in (true_over f p.0, true_over g p.1)
true_over (feeds f x g) e = true_over f e
true_over (gives p) e = cc e
true_over (asks m ps) e = cc e
true_over (enters d ps) e = cc e
true_over (prunes f x g) e = cc e
true_over (instead f g) e = cc e
true_over (awaits o) e = cc e

pub true_void : (ps : List Param) → has_void ps ≡ true → HasVoid ps
true_void [] e = cc e
true_void (Void ∷ ps) e = inl refl
true_void (Name y ∷ ps) e = inr (true_void ps e)
true_void (Is v ∷ ps) e = inr (true_void ps e)
true_void (Cell c ∷ ps) e = inr (true_void ps e)

module _ (defs : List SmallDefinition) (ask : ℕ → List Value → Out) where
  -- one use of a rule, as the list has it
  abbrev IsMove : ℕ → Small → Successor → Type 0
  IsMove n f s = Moves defs ask n f s.0 s.1

  moved : (n : ℕ) (f : Small) (s t : Successor) → s ≡ t → IsMove n f t → IsMove n f s
  moved n f s t e m = subst (λ (u : Successor). IsMove n f u) (sym e) m

  on_feeds : (n x : ℕ) (f g f' : Small) (h : Happening) → Moves defs ask n f h f' → IsMove n (feeds f x g) (in_feeds x g (h, f'))
  on_feeds n x f g f' (called m args) m' = feeding tt m'
  on_feeds n x f g f' (answered m args a) m' = feeding tt m'
  on_feeds n x f g f' (published v) m' = fed m'
  on_feeds n x f g f' unseen m' = feeding tt m'

  on_sides : (n : ℕ) (f g g' : Small) (h : Happening) → Moves defs ask n g h g' → IsMove n (needs f g) (in_side n f (h, g'))
  on_sides n f g g' (called m args) m' = on_side tt m'
  on_sides n f g g' (answered m args a) m' = on_side tt m'
  on_sides n f g g' (published v) m' = binds m'
  on_sides n f g g' unseen m' = on_side tt m'

  on_first : (n : ℕ) (f g f' : Small) (h : Happening) → Moves defs ask n f h f' → IsMove n (instead f g) (in_first g (h, f'))
  on_first n f g f' (called m args) m' = first tt m'
  on_first n f g f' (answered m args a) m' = first tt m'
  on_first n f g f' (published v) m' = passes m'
  on_first n f g f' unseen m' = first tt m'

  silent_move : (n : ℕ) (f g : Small) (b : Bool) (s : Successor) → (b ≡ true → Moves defs ask n f unseen g) → IsIn s (silently b g) → IsMove n f s
  silent_move n f g true s may (inl same) = moved n f s (unseen, g) same (may refl)
  silent_move n f g true s may (inr never) = elim never [ ]
  silent_move n f g false s may is = elim is [ ]

  in_needs : (n : ℕ) (f g : Small) (s : Successor) → ((t : Successor) → IsIn t (moves defs ask (suc n) f) → IsMove (suc n) f t) → ((t : Successor) → IsIn t (moves defs ask n g) → IsMove n g t) → IsIn s (moves defs ask n (needs f g)) → IsMove n (needs f g) s
  in_needs n f g s a b is = go (split s (silently (is_over g) (settle Void n f)) (map (in_main g) (moves defs ask (suc n) f) ++ map (in_side n f) (moves defs ask n g)) is) where
    side : IsIn s (map (in_main g) (moves defs ask (suc n) f)) ⊎ IsIn s (map (in_side n f) (moves defs ask n g)) → IsMove n (needs f g) s
    side (inl l) = let u = unmap (in_main g) s (moves defs ask (suc n) f) l in moved n (needs f g) s (in_main g u.by) u.is (on_main (a u.by u.listed))
    side (inr r) = let u = unmap (in_side n f) s (moves defs ask n g) r in moved n (needs f g) s (in_side n f u.by) u.is (on_sides n f g u.by.1 u.by.0 (b u.by u.listed))

    go : IsIn s (silently (is_over g) (settle Void n f)) ⊎ IsIn s (map (in_main g) (moves defs ask (suc n) f) ++ map (in_side n f) (moves defs ask n g)) → IsMove n (needs f g) s
    go (inl l) = silent_move n (needs f g) (settle Void n f) (is_over g) s (λ e. loses (true_over g e)) l
    go (inr r) = side (split s (map (in_main g) (moves defs ask (suc n) f)) (map (in_side n f) (moves defs ask n g)) r)

  is_move : (n : ℕ) (f : Small) (s : Successor) → IsIn s (moves defs ask n f) → IsMove n f s
  is_move n nothing s is = elim is [ ]
  is_move n (gives (Is v)) s (inl same) = moved n (gives (Is v)) s (published v, nothing) same value
  is_move n (gives (Is v)) s (inr never) = elim never [ ]
  is_move n (gives Void) s (inl same) = moved n (gives Void) s (unseen, nothing) same void_value
  is_move n (gives Void) s (inr never) = elim never [ ]
  is_move n (gives (Name y)) s is = elim is [ ]
  is_move n (gives (Cell c)) s is = elim is [ ]
  is_move n (asks m ps) s is = go (split s (list.asked ask m (values_of ps)) (silently (has_void ps) nothing) is) where
    call : (o : Option (List Value)) → values_of ps ≡ o → IsIn s (list.asked ask m o) → IsMove n (asks m ps) s
    call (Some args) e (inl same) = moved n (asks m ps) s (called m args, awaits (ask m args)) same (asked e)
    call (Some args) e (inr never) = elim never [ ]
    call None e never = elim never [ ]

    go : IsIn s (list.asked ask m (values_of ps)) ⊎ IsIn s (silently (has_void ps) nothing) → IsMove n (asks m ps) s
    go (inl l) = call (values_of ps) refl l
    go (inr r) = silent_move n (asks m ps) nothing (has_void ps) s (λ e. void_call (true_void ps e)) r
  is_move n (enters e ps) s is = go (slice_get defs e) refl is where
    go : (o : Option SmallDefinition) → slice_get defs e ≡ o → IsIn s (list.entered o ps) → IsMove n (enters e ps) s
    go (Some d) there (inl same) = moved n (enters e ps) s _ same (entered there)
    go (Some d) there (inr never) = elim never [ ]
    go None there never = elim never [ ]
  is_move n (both f g) s is = go (split s (map (in_left g) (moves defs ask n f)) (map (in_right f) (moves defs ask n g)) is) (is_move n f) (is_move n g) where
    go : IsIn s (map (in_left g) (moves defs ask n f)) ⊎ IsIn s (map (in_right f) (moves defs ask n g)) → ((t : Successor) → IsIn t (moves defs ask n f) → IsMove n f t) → ((t : Successor) → IsIn t (moves defs ask n g) → IsMove n g t) → IsMove n (both f g) s
    go (inl l) a b = let u = unmap (in_left g) s (moves defs ask n f) l in moved n (both f g) s (in_left g u.by) u.is (on_left (a u.by u.listed))
    go (inr r) a b = let u = unmap (in_right f) s (moves defs ask n g) r in moved n (both f g) s (in_right f u.by) u.is (on_right (b u.by u.listed))
  is_move n (feeds f x g) s is = let u = unmap (in_feeds x g) s (moves defs ask n f) is in moved n (feeds f x g) s (in_feeds x g u.by) u.is (on_feeds n x f g u.by.1 u.by.0 (is_move n f u.by u.listed))
  is_move n (prunes f x g) s (inl same) = moved n (prunes f x g) s _ same opens
  is_move n (prunes f x g) s (inr never) = elim never [ ]
  is_move n (instead f g) s is = go (split s (silently (is_over f) g) (map (in_first g) (moves defs ask n f)) is) (is_move n f) where
    go : IsIn s (silently (is_over f) g) ⊎ IsIn s (map (in_first g) (moves defs ask n f)) → ((t : Successor) → IsIn t (moves defs ask n f) → IsMove n f t) → IsMove n (instead f g) s
    go (inl l) a = silent_move n (instead f g) g (is_over f) s (λ e. falls (true_over f e)) l
    go (inr r) a = let u = unmap (in_first g) s (moves defs ask n f) r in moved n (instead f g) s (in_first g u.by) u.is (on_first n f g u.by.1 u.by.0 (a u.by u.listed))
  is_move n (awaits o) s is = go o.rest refl is where
    go : (r : Found) → o.rest ≡ r → IsIn s (list.returned o r) → IsMove n (awaits o) s
    go (After a zero) e (inl same) = moved n (awaits o) s _ same (returned e)
    go (After a zero) e (inr never) = elim never [ ]
    go (After a (suc d)) e never = elim never [ ]
    go Never e never = elim never [ ]
  is_move n (needs f g) s is = in_needs n f g s (is_move (suc n) f) (is_move n g) is

pub listed_are_moves : ListedAreMoves
listed_are_moves defs ask n f g h is = is_move defs ask n f (h, g) is
