-- Outcomes are found by a hash: two that are equal are the same.
use Rattle.std.proofs.Common.{◌≡◌, ◌≤◌, ◌<◌, ◌+◌, ◌++◌, ◌∷◌, ◌∙◌, ℕ, zero, suc, Bool, true, false, cond, List, [], Option, Some, None, All, arith, get_or, length, map, nat_lt, refl, sym, ap, subst}
use Rattle.std.specs.Prelude.{◌&&◌, ◌||◌, slice_get, slice_index_or, slice_set}
use Rattle.std.specs.Bool.{Decides}
use Rattle.std.specs.List.{list_any, position, position_or_len}
use Rattle.std.specs.Cmp.Lexicographic.{pointwise, pointwise_decides}
use Rattle.std.proofs.lemmas.Bool.{and_parts}
use Rattle.std.proofs.lemmas.Bool.Decides.{Decides-int_eq, nat_tests}
use Rattle.std.proofs.lemmas.List.{get_or-map, length-map, map-append}
use Rattle.std.proofs.lemmas.List.Sums.{fails_before_first}
use Rattle.std.proofs.lemmas.List.Quantifiers.{position-Some}
use Rattle.orc_rules.specs.declared.value.Value.{Value}
use Rattle.orc_rules.specs.declared.value.Value.TheVariants.{Number, Truth, Signal}
use Rattle.orc_rules.specs.contracts.value.ValuePartialEq.TheImpl as values
use Rattle.orc_outcome.specs.declared.end.End.{End}
use Rattle.orc_outcome.specs.declared.end.End.TheVariants as ends
use Rattle.orc_outcome.specs.contracts.end.EndPartialEq.TheImpl as ending
use Rattle.orc_orders.specs.contracts.seen.OutcomePartialEq.TheImpl as outcomes
use Rattle.orc_orders.specs.declared.seen.Outcome.{Outcome}
use Rattle.orc_orders.specs.declared.seen.Seen.{Seen}
use Rattle.orc_orders.specs.Found.{AreKnown, IsOnceMore, came_of, came_to}
use Rattle.orc_orders.specs.Survey.{again, Counts, IsOf}
use Rattle.std.proofs.lemmas.Option.{get_or_from_slice_get, slice_get-get_or}

value_decides : (v w : Value) → Decides (values.ghosts.eq v w) (v ≡ w)
value_decides (Number a) (Number b) = let d = Decides-int_eq a b in (λ h. ap Number (d.0 h), λ e. d.1 (cc e))
value_decides (Number a) (Truth b) = (λ h. absurd (cc h), λ e. absurd (cc e))
value_decides (Number a) Signal = (λ h. absurd (cc h), λ e. absurd (cc e))
value_decides (Truth a) (Number b) = (λ h. absurd (cc h), λ e. absurd (cc e))
value_decides (Truth true) (Truth true) = (λ h. refl, λ e. refl)
value_decides (Truth true) (Truth false) = (λ h. absurd (cc h), λ e. absurd (cc e))
value_decides (Truth false) (Truth true) = (λ h. absurd (cc h), λ e. absurd (cc e))
value_decides (Truth false) (Truth false) = (λ h. refl, λ e. refl)
value_decides (Truth a) Signal = (λ h. absurd (cc h), λ e. absurd (cc e))
value_decides Signal (Number b) = (λ h. absurd (cc h), λ e. absurd (cc e))
value_decides Signal (Truth b) = (λ h. absurd (cc h), λ e. absurd (cc e))
value_decides Signal Signal = (λ h. refl, λ e. refl)

end_decides : (a b : End) → Decides (ending.ghosts.eq a b) (a ≡ b)
end_decides ends.Halted ends.Halted = (λ h. refl, λ e. refl)
end_decides ends.Halted ends.Quiet = (λ h. absurd (cc h), λ e. absurd (cc e))
end_decides ends.Halted ends.Limit = (λ h. absurd (cc h), λ e. absurd (cc e))
end_decides ends.Halted ends.Full = (λ h. absurd (cc h), λ e. absurd (cc e))
end_decides ends.Halted ends.Memory = (λ h. absurd (cc h), λ e. absurd (cc e))
end_decides ends.Quiet ends.Halted = (λ h. absurd (cc h), λ e. absurd (cc e))
end_decides ends.Quiet ends.Quiet = (λ h. refl, λ e. refl)
end_decides ends.Quiet ends.Limit = (λ h. absurd (cc h), λ e. absurd (cc e))
end_decides ends.Quiet ends.Full = (λ h. absurd (cc h), λ e. absurd (cc e))
end_decides ends.Quiet ends.Memory = (λ h. absurd (cc h), λ e. absurd (cc e))
end_decides ends.Limit ends.Halted = (λ h. absurd (cc h), λ e. absurd (cc e))
end_decides ends.Limit ends.Quiet = (λ h. absurd (cc h), λ e. absurd (cc e))
end_decides ends.Limit ends.Limit = (λ h. refl, λ e. refl)
end_decides ends.Limit ends.Full = (λ h. absurd (cc h), λ e. absurd (cc e))
end_decides ends.Limit ends.Memory = (λ h. absurd (cc h), λ e. absurd (cc e))
end_decides ends.Full ends.Halted = (λ h. absurd (cc h), λ e. absurd (cc e))
end_decides ends.Full ends.Quiet = (λ h. absurd (cc h), λ e. absurd (cc e))
end_decides ends.Full ends.Limit = (λ h. absurd (cc h), λ e. absurd (cc e))
end_decides ends.Full ends.Full = (λ h. refl, λ e. refl)
end_decides ends.Full ends.Memory = (λ h. absurd (cc h), λ e. absurd (cc e))
end_decides ends.Memory ends.Halted = (λ h. absurd (cc h), λ e. absurd (cc e))
end_decides ends.Memory ends.Quiet = (λ h. absurd (cc h), λ e. absurd (cc e))
end_decides ends.Memory ends.Limit = (λ h. absurd (cc h), λ e. absurd (cc e))
end_decides ends.Memory ends.Full = (λ h. absurd (cc h), λ e. absurd (cc e))
end_decides ends.Memory ends.Memory = (λ h. refl, λ e. refl)

is_same : (x y : Outcome) → outcomes.ghosts.eq x y ≡ true → came_of x ≡ came_of y
is_same x y h =
    let both = and_parts (ending.ghosts.eq x.end y.end) (pointwise values.ghosts.eq x.values.items y.values.items) h in
    λ i. record { end = (end_decides x.end y.end).0 both.0 i; values = (pointwise_decides value_decides x.values.items y.values.items).0 both.1 i }

is_equal : (x y : Outcome) → came_of x ≡ came_of y → outcomes.ghosts.eq x y ≡ true
is_equal x y e = λ i. (end_decides x.end y.end).1 (ap (λ c. c.end) e) i && (pointwise_decides value_decides x.values.items y.values.items).1 (ap (λ c. c.values) e) i

module _ (os : List Outcome) (xs : List Seen) (known : AreKnown os xs) where
  as_long : length os ≡ length xs
  as_long = sym (length-map os came_of) ∙ ap length known ∙ length-map xs came_to

  same_at : (at : ℕ) (o : Outcome) (x : Seen) → at < length os → came_of (get_or os at o) ≡ came_to (get_or xs at x)
  same_at at o x lt = sym (get_or-map came_of os at o (came_of o) lt) ∙ ap (λ cs. get_or cs at (came_of o)) known ∙ get_or-map came_to xs at x (came_of o) (omega (arith, lt, as_long))

  -- the place where it is found
  pub found_at : (o : Outcome) (at : ℕ) → position (outcomes.ghosts.eq o) os ≡ Some at → (at < length xs) × ((d : Seen) → IsOf (came_of o) (slice_index_or xs at d))
  found_at o at e =
      let (within, passes, _) = position-Some (outcomes.ghosts.eq o) os at o e in (
        omega (arith, within, as_long),
        λ d.
            let same : came_to (get_or xs at d) ≡ came_of o = sym (same_at at o d within) ∙ sym (is_same o (get_or os at o) passes) in
            (ap (λ c. c.end) same, ap (λ c. c.values) same),
      )

  fails : (o : Outcome) → position (outcomes.ghosts.eq o) os ≡ None → (k : ℕ) (d : Outcome) → k < length os → outcomes.ghosts.eq o (get_or os k d) ≡ false
  fails o e k d lt = fails_before_first (outcomes.ghosts.eq o) os k d (omega (arith, lt, past (nat_lt (position_or_len (outcomes.ghosts.eq o) os) (length os)) refl e))
    where
      past : (b : Bool) → nat_lt (position_or_len (outcomes.ghosts.eq o) os) (length os) ≡ b → ◌≡◌ {A = Option ℕ} (cond b (Some (position_or_len (outcomes.ghosts.eq o) os)) None) None → length os ≤ position_or_len (outcomes.ghosts.eq o) os
      past true is h = absurd (cc h)
      past false is h = grind (arith, nat_tests)

  apart : (o : Outcome) (b : Bool) (k : ℕ) (x : Seen) → k < length os → outcomes.ghosts.eq o (get_or os k o) ≡ b → IsOf (came_of o) (slice_index_or xs k x) → b ≡ true
  apart o b k x lt is h =
      let same : came_of o ≡ came_of (get_or os k o) = (λ i. record { end = sym h.0 i; values = sym h.1 i }) ∙ sym (same_at k o x lt) in
      sym is ∙ is_equal o (get_or os k o) same

  -- it isn't found
  pub not_found : (o : Outcome) → position (outcomes.ghosts.eq o) os ≡ None → All (λ y. IsOf (came_of o) y → ⊥) xs
  not_found o e = λ k d lt h. let at : k < length os = omega (arith, lt, as_long) in absurd (cc (sym (apart o false k d at (fails o e k o at) h)))

  none_passes : (p : Outcome → Bool) (zs : List Outcome) → ((k : ℕ) (d : Outcome) → k < length zs → p (get_or zs k d) ≡ false) → list_any p zs ≡ false
  none_passes p [] h = refl
  none_passes p (z ∷ zs) h = λ i. h 0 z (omega arith) i || none_passes p zs (λ k d lt. h (suc k) d (omega (arith, lt))) i

  -- one that wasn't seen is known from now on
  pub known_too : (o : Outcome) (x : Seen) → All (λ y. IsOf (came_of o) y → ⊥) xs → came_to x ≡ came_of o → AreKnown (cond (list_any (outcomes.ghosts.eq o) os) os (os ++ o ∷ [])) (xs ++ x ∷ [])
  known_too o x unseen same =
      let fails_at : (k : ℕ) (d : Outcome) → k < length os → outcomes.ghosts.eq o (get_or os k d) ≡ false = λ k d lt. differs k d lt (outcomes.ghosts.eq o (get_or os k d)) refl in
      let new : list_any (outcomes.ghosts.eq o) os ≡ false = none_passes (outcomes.ghosts.eq o) os fails_at in
      ap (λ b. map came_of (cond b os (os ++ o ∷ []))) new
      ∙ map-append came_of os (o ∷ [])
      ∙ (λ i. known i ++ sym same i ∷ [])
      ∙ sym (map-append came_to xs (x ∷ []))
    where
      differs : (k : ℕ) (d : Outcome) → k < length os → (b : Bool) → outcomes.ghosts.eq o (get_or os k d) ≡ b → b ≡ false
      differs k d lt false is = refl
      differs k d lt true is =
          let equal : came_to (get_or xs k x) ≡ came_of o = sym (same_at k d x lt) ∙ sym (is_same o (get_or os k d) is) in
          absurd (unseen k x (omega (arith, lt, as_long)) (ap (λ c. c.end) equal, ap (λ c. c.values) equal))

-- ---- one order more

stays : (xs : List Seen) (at : ℕ) (x y : Seen) → slice_get xs at ≡ Some x → came_to y ≡ came_to x → map came_to (slice_set xs at y) ≡ map came_to xs
stays [] at x y h e = absurd (cc h)
stays (z ∷ zs) zero x y h e =
    let same : x ≡ z = cc (sym h) in
    λ i. (e ∙ ap came_to same) i ∷ map came_to zs
stays (z ∷ zs) (suc k) x y h e = ap (λ cs. came_to z ∷ cs) (stays zs k x y h e)

pub once_more : (at : ℕ) (xs ys : List Seen) (x y : Seen) → at < length xs → x ≡ slice_index_or xs at x → y ≡ record x { times = x.times + 1 } → ys ≡ slice_set xs at y → IsOnceMore at xs ys
once_more at xs ys x y here same raised e = record { outcome = x; there = slice_get-get_or xs at x here ∙ ap Some (sym same); more = e ∙ ap (slice_set xs at) raised }

-- an outcome is known still when one order more came to it
pub known_still : (os : List Outcome) (xs ys : List Seen) (at : ℕ) → AreKnown os xs → IsOnceMore at xs ys → AreKnown os ys
known_still os xs ys at known m = known ∙ sym (ap (map came_to) m.more ∙ stays xs at m.outcome (record m.outcome { times = m.outcome.times + 1 }) m.there refl)

pub counted_as : (order : ℕ) (end : End) (ws vs : List Value) (xs ys : List Seen) → ws ≡ vs → Counts order (record { end = end; values = ws }) xs ys → Counts order (record { end = end; values = vs }) xs ys
counted_as order end ws vs xs ys same counts = subst (λ z. Counts order (record { end = end; values = z }) xs ys) same counts

pub counted_at : (order : ℕ) (end : End) (ws vs : List Value) (xs ys : List Seen) (at : ℕ) → ws ≡ vs → ((d : Seen) → IsOf (record { end = end; values = ws }) (slice_index_or xs at d)) → IsOnceMore at xs ys → Counts order (record { end = end; values = vs }) xs ys
counted_at order end ws vs xs ys at same is m = counted_as order end ws vs xs ys same (subst (Counts order (record { end = end; values = ws }) xs) (sym m.more) (again xs at m.outcome m.there (subst (IsOf (record { end = end; values = ws })) (get_or_from_slice_get xs at m.outcome m.outcome m.there) (is m.outcome))))
