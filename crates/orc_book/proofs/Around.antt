-- A publication into a `>x>`: where the right side stands in another group, the book holds a pass to that group.
use Rattle.std.proofs.Common.{◌≡◌, ◌≤◌, ℕ, zero, suc, List, refl, sym, ap, ◌∙◌, subst, arith, Bool, true, false, Option, Some, None as Nothing}
use Rattle.std.proofs.Math.Decide.{ℕ_discrete}
use Rattle.std.specs.Prelude.{slice_get}
use Rattle.orc_rules.specs.Nodes.{Listing}
use Rattle.orc_rules.specs.Sites.{Site}
use Rattle.orc_rules.specs.Timed.{IsIn}
use Rattle.orc_frames.specs.Taking.{outer_of, outer_at, reach}
use Rattle.orc_ledger_spec.specs.Records.{Records, Lawful}
use Rattle.orc_ledger_spec.specs.Homes.{home_by, Nest}
use Rattle.orc_ledger_spec.specs.Next.{AreGrouped, numbers_of, opens}
use Rattle.orc_tables.specs.Steps.{group_at, group_of}
use Rattle.orc_tables.specs.declared.records.Frame.{Frame}
use Rattle.orc_tables.specs.declared.records.Frame.TheVariants.{SeqLeft, PruneRight, OtherwiseLeft}
use Rattle.orc_tables.specs.declared.records.Token.{Token}
use Rattle.orc_tables.specs.declared.records.Step.{Step}
use Rattle.orc_tables.specs.declared.records.Group.{Group}
use Rattle.orc_ledger_spec.proofs.Someone.{some_same}
use Rattle.orc_ledger_spec.proofs.Places.{IsPlaced}
use Rattle.orc_ledger_spec.proofs.Grouped.{placed-token, placed-reach}
use Rattle.orc_book.specs.Held.{Hold, AreHeld, held_at}
use Rattle.orc_book.proofs.Ones.{group-pass}

module _ (l : Listing) (sites : List Site) (s : Records) (L : Lawful l sites s) (G : AreGrouped (numbers_of s) s) where
  -- some group stands in the group with this number
  abbrev Contains : ℕ → Type 0
  Contains n = (g : Group) × IsIn g s.groups × (group_at s.steps g.outer ≡ n)

  same_step : (a b : Step) → Some a ≡ Some b → a ≡ b
  same_step a b e = cc e

  -- one step outwards is in the same group, or a group stands in the group there
  outwards : (i : ℕ) → IsPlaced G.homes G.groups s.steps i → Dec (group_at s.steps (outer_at s.steps i) ≡ group_at s.steps i) → (group_at s.steps (outer_at s.steps i) ≡ group_at s.steps i → ⊥) → Contains (group_at s.steps (outer_at s.steps i))
  outwards i p (yes e) off = absurd (off e)
  outwards zero p (no n) off = absurd (off refl)
  outwards (suc k) p (no n) off = by_step (slice_get s.steps k) refl
    where
      by_step : (o : Option Step) → slice_get s.steps k ≡ o → Contains (group_at s.steps (outer_at s.steps (suc k)))
      by_step Nothing there = absurd (off (ap (λ z. group_at s.steps (outer_of z)) there ∙ sym (ap group_of there)))
      by_step (Some q) there = by_kind (opens q.entered) refl
        where
          is_group : group_at s.steps (suc k) ≡ q.group
          is_group = ap group_of there

          own_home : (e : Frame) → opens e ≡ true → home_by G.homes (suc k) q e ≡ suc k
          own_home (SeqLeft x g scope) h = cc h
          own_home (PruneRight c) h = refl
          own_home (OtherwiseLeft n) h = refl

          by_kind : (b : Bool) → opens q.entered ≡ b → Contains (group_at s.steps (outer_at s.steps (suc k)))
          by_kind false feeds = absurd (off (ap (λ z. group_at s.steps (outer_of z)) there ∙ sym (G.feeds k q there feeds) ∙ sym is_group))
          by_kind true own =
              let at : p.nest.step ≡ suc k = p.step ∙ G.are_homes k q there ∙ own_home q.entered own in
              let i = group_at s.steps (suc k) in
              let g = G.listed i p.nest k p.found at in
              let d = G.sides g.0 g.1 in
              let same : d.0 ≡ p.nest = some_same d.0 p.nest (sym d.3 ∙ ap G.groups g.2 ∙ p.found) in
              let before : d.1 ≡ k = omega (arith, d.5, at, ap (λ (z : Nest). z.step) same) in
              let step : d.2 ≡ q = same_step d.2 q (sym d.6 ∙ ap (slice_get s.steps) before ∙ there) in
              (g.0, g.1, ap (group_at s.steps) (sym d.7 ∙ ap (λ (z : Step). z.outer) step ∙ sym (ap outer_of there)))

  onward : (n i : ℕ) → IsPlaced G.homes G.groups s.steps i → (group_at s.steps (reach s.steps (suc n) i) ≡ group_at s.steps i → ⊥) → ((group_at s.steps (reach s.steps n i) ≡ group_at s.steps i → ⊥) → Contains (group_at s.steps (reach s.steps n i)))
      → Dec (group_at s.steps (outer_at s.steps (reach s.steps n i)) ≡ group_at s.steps (reach s.steps n i)) → Contains (group_at s.steps (outer_at s.steps (reach s.steps n i)))
  onward n i p off before (yes e) = subst Contains (sym e) (before (λ z. off (e ∙ z)))
  onward n i p off before (no m) = outwards (reach s.steps n i) (placed-reach l sites s L G n i p) (no m) m

  -- any steps outwards
  reaches : (n i : ℕ) → IsPlaced G.homes G.groups s.steps i → (group_at s.steps (reach s.steps n i) ≡ group_at s.steps i → ⊥) → Contains (group_at s.steps (reach s.steps n i))
  reaches zero i p off = absurd (off refl)
  reaches (suc n) i p off = onward n i p off (reaches n i p) (ℕ_discrete (group_at s.steps (outer_at s.steps (reach s.steps n i))) (group_at s.steps (reach s.steps n i)))

  pub round-pass : (t : Token) → IsIn t s.tokens → (n outer : ℕ) → reach s.steps n t.step ≡ outer → (group_at s.steps outer ≡ group_at s.steps t.step → ⊥) → (ps : List Hold) → AreHeld ps s → 1 ≤ held_at ps (group_at s.steps outer)
  round-pass t i n outer way off ps H =
      let c : Contains (group_at s.steps outer) = subst (λ z. Contains (group_at s.steps z)) way (reaches n t.step (placed-token l sites s L G t i) (λ e. off (ap (group_at s.steps) (sym way) ∙ e))) in
      subst (λ z. 1 ≤ held_at ps z) c.2 (group-pass ps s c.0 H c.1)
