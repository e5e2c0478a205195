-- The least due time, by the notes.
use Rattle.std.proofs.Common.{◌≡◌, ◌<◌, ◌+◌, ℕ, zero, suc, List, [], ◌∷◌, ◌++◌, length, Option, Some, None, refl, sym, ap, ◌∙◌, subst, inl, inr, ◌⊎◌, ⊎_elim, arith, length-append, false}
use Rattle.std.specs.Prelude.{slice_get, slice_set, IfSome}
use Rattle.std.specs.Bool.{Decides}
use Rattle.orc_rules.specs.Timed.{IsIn}
use Rattle.orc_term.specs.declared.arena.Node.{Node}
use Rattle.orc_term.specs.declared.arena.Kind.TheVariants.{Leaf}
use Rattle.orc_term.specs.declared.arena.Tip.TheVariants.{Waits}
use Rattle.orc_checker.specs.declared.rest.Called.{Called}
use Rattle.orc_term.specs.Settling.{kind_at}
use Rattle.orc_checker.specs.DueTimes.{IsNoted, IsFirst}
use Rattle.orc_checker.specs.NextDue.{IsTime, IsDueOf, IsDueAt, IsNext, AreNoted}
use Rattle.orc_calls.specs.Due.{due_by}
use Rattle.orc_calls.proofs.Times.{is_due as is_due_by}
use Rattle.orc_term.proofs.Hints.{some_in}
use Rattle.orc_term.proofs.Lists.{get-more}

same_some : {X : Type 0} (x y : X) → Some x ≡ Some y → x ≡ y
same_some x y e = cc e

-- a node's call that is never due
module _ (nodes : List Node) (calls : List Called) (i k t : ℕ) (is : kind_at nodes i ≡ Leaf (Waits k)) where
  its_call : IsDueAt nodes calls i t → IsDueOf calls k t
  its_call d = let s : d.0 ≡ k = cc (sym d.1 ∙ is) in subst (λ z. IsDueOf calls z t) s d.2

  pub waits_never : ((u : ℕ) → IsDueOf calls k u → ⊥) → Decides false (IsDueAt nodes calls i t)
  waits_never never = (λ e. absurd (cc e), λ d. absurd (never t (its_call d)))

abbrev IsNotedAt : ℕ → ℕ → List (ℕ × ℕ) → Type 0
IsNotedAt t i due = IsNoted due t i

-- the first note of a node that is due then says the least time
pub next_first : (nodes : List Node) (calls : List Called) (due : List (ℕ × ℕ)) (t i : ℕ) → AreNoted nodes calls due → IsFirst due (t, i) → IsDueAt nodes calls i t → IsNext nodes calls (Some t)
next_first nodes calls due t i h first d = ((i, d), λ j u e. first.1 u j (h.noted j u e))

pub next_none : (nodes : List Node) (calls : List Called) (due : List (ℕ × ℕ)) → AreNoted nodes calls due → due ≡ [] → IsNext nodes calls None
next_none nodes calls due h is i t d = let z : IsIn {X = ℕ × ℕ} (t, i) [] = subst (IsNotedAt t i) is (h.noted i t d) in elim z [ ]

-- the note of a node that isn't due then goes
pub noted_less : (nodes : List Node) (calls : List Called) (due later : List (ℕ × ℕ)) (t i : ℕ) → AreNoted nodes calls due → due ≡ (t, i) ∷ later → (IsDueAt nodes calls i t → ⊥) → AreNoted nodes calls later
noted_less nodes calls due later t i h is over = record { made = h.made; noted = λ j u d. go j u d (subst (IsNotedAt u j) is (h.noted j u d)) }
  where
    go : (j u : ℕ) → IsDueAt nodes calls j u → IsNoted ((t, i) ∷ later) u j → IsNoted later u j
    go j u d (inl e) = absurd (over (subst (λ (z : ℕ × ℕ). IsDueAt nodes calls z.1 z.0) e d))
    go j u d (inr a) = a

-- more is noted
pub noted_more : (nodes : List Node) (calls : List Called) (due due' : List (ℕ × ℕ)) → ((t i : ℕ) → IsNoted due t i → IsNoted due' t i) → AreNoted nodes calls due → AreNoted nodes calls due'
noted_more nodes calls due due' kept h = record { made = h.made; noted = λ i t d. kept t i (h.noted i t d) }

-- a node that is written, or one that was there
set_kind : (nodes : List Node) (i j : ℕ) (y : Node) → ((j ≡ i) × (kind_at (slice_set nodes i y) j ≡ y.kind)) ⊎ (kind_at (slice_set nodes i y) j ≡ kind_at nodes j)
set_kind [] i j y = inr refl
set_kind (x ∷ nodes) zero zero y = inl (refl, refl)
set_kind (x ∷ nodes) zero (suc j) y = inr refl
set_kind (x ∷ nodes) (suc i) zero y = inr refl
set_kind (x ∷ nodes) (suc i) (suc j) y = ⊎_elim (λ w. inl (ap suc w.0, w.1)) (λ e. inr e) (set_kind nodes i j y)

-- a node waits for a new call, and is noted
module _ (nodes nodes' : List Node) (calls calls' : List Called) (due due' : List (ℕ × ℕ)) (i q k : ℕ) (c : Called) (o : Option ℕ) (h : AreNoted nodes calls due) (new : k ≡ suc (length calls)) (written : nodes' ≡ slice_set nodes i (record { kind = Leaf (Waits k); parent = q })) (added : calls' ≡ calls ++ c ∷ [])
    (is_due : o ≡ due_by c.at c.found) (noted : IfSome o (λ t. IsNoted due' t i)) (kept : (t j : ℕ) → IsNoted due t j → IsNoted due' t j) where
  longer : length calls' ≡ length calls + 1
  longer = ap length added ∙ length-append calls (c ∷ [])

  its : (t : ℕ) (o : Option ℕ) → o ≡ due_by c.at c.found → IfSome o (λ u. IsNoted due' u i) → IsTime c t → IsNoted due' t i
  its t None e n d = absurd (cc (e ∙ is_due_by c.at c.found d.0 t d.1))
  its t (Some u) e n d = let same : u ≡ t = cc (e ∙ is_due_by c.at c.found d.0 t d.1) in subst (λ z. IsNoted due' z i) same n

  kinds : (j : ℕ) → ((j ≡ i) × (kind_at nodes' j ≡ Leaf (Waits k))) ⊎ (kind_at nodes' j ≡ kind_at nodes j)
  kinds j = subst (λ z. ((j ≡ i) × (kind_at z j ≡ Leaf (Waits k))) ⊎ (kind_at z j ≡ kind_at nodes j)) (sym written) (set_kind nodes i j (record { kind = Leaf (Waits k); parent = q }))

  due_new : (t : ℕ) → IsDueOf calls' k t → IsTime c t
  due_new t d =
      ⊎_elim
      (λ e. absurd (omega (arith, new, d.is_k, some_in calls d.index d.by e)))
      (λ e. subst (λ z. IsTime z t) (sym e.1) d.time)
      (get-more calls c d.index d.by (subst (λ z. slice_get z d.index ≡ Some d.by) added d.there))

  due_old : (j t : ℕ) → j < length calls + 1 → IsDueOf calls' j t → IsDueOf calls j t
  due_old j t lt d =
      record {
        index = d.index;
        is_k = d.is_k;
        by = d.by;
        there = ⊎_elim (λ e. e) (λ e. absurd (omega (arith, lt, d.is_k, e.0))) (get-more calls c d.index d.by (subst (λ z. slice_get z d.index ≡ Some d.by) added d.there));
        time = d.time;
      }

  pub noted_call : AreNoted nodes' calls' due'
  noted_call =
      record {
        made = λ j m e. ⊎_elim (λ w. let s : m ≡ k = cc (sym e ∙ w.1) in omega (arith, s, new, longer)) (λ w. omega (arith, h.made j m (sym w ∙ e), longer)) (kinds j);
        noted = λ j t d.
            ⊎_elim
            (λ w. let s : d.0 ≡ k = cc (sym d.1 ∙ w.1) in subst (IsNoted due' t) (sym w.0) (its t o is_due noted (due_new t (subst (λ z. IsDueOf calls' z t) s d.2))))
            (λ w. let e = sym w ∙ d.1 in kept t j (h.noted j t (d.0, e, due_old d.0 t (omega (arith, h.made j d.0 e)) d.2)))
            (kinds j);
      }
