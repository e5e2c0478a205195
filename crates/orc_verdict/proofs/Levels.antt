-- The heights of a program's terms, one node after another.
use Rattle.std.proofs.Common.{◌≡◌, ◌<◌, ◌≤◌, ◌+◌, ◌^◌, ℕ, zero, suc, max, List, [], ◌∷◌, ◌++◌, length, refl, sym, ap, ◌∙◌, arith, inl, inr, ◌⊎◌, ⊎_elim, get_or}
use Rattle.orc_rules.specs.declared.program.TermNode.{TermNode}
use Rattle.orc_rules.specs.declared.program.TermNode.TheVariants.{Stop, Operand as On, Site, Call, Par, Seq, Prune, Other}
use Rattle.orc_rules.specs.declared.param.Operand.{Operand}
use Rattle.orc_rules.specs.Term.{Term}
use Rattle.orc_rules.specs.Nodes.{HasParts, unfold_node, node_of}
use Rattle.orc_rules.specs.Refusal.{depth}
use Rattle.orc_verdict.specs.Heights.{height, node_height, AreLow, AreHeights}

-- the heights of the nodes before n are right, and none is more than the nodes that there are
pub record AreHeightsBelow (code : ℕ → Term) (n : ℕ) (levels : List ℕ) : Type 0 where
  pub len : length levels ≡ n
  pub each : (i : ℕ) → i < n → height levels i ≡ depth (code i)
  pub low : (i : ℕ) → i < n → height levels i ≤ suc i

pub none_yet : (code : ℕ → Term) → AreHeightsBelow code 0 []
none_yet code = record { len = refl; each = λ i lt. absurd (omega (arith, lt)); low = λ i lt. absurd (omega (arith, lt)) }

at_end : (xs : List ℕ) (b i : ℕ) → i ≡ length xs → get_or (xs ++ b ∷ []) i 1 ≡ b
at_end [] b zero e = refl
at_end [] b (suc i) e = absurd (omega (arith, e))
at_end (x ∷ xs) b zero e = absurd (omega (arith, e))
at_end (x ∷ xs) b (suc i) e = at_end xs b i (omega (arith, e))

before_end : (xs : List ℕ) (b i : ℕ) → i < length xs → get_or (xs ++ b ∷ []) i 1 ≡ get_or xs i 1
before_end [] b i e = absurd (omega (arith, e))
before_end (x ∷ xs) b zero e = refl
before_end (x ∷ xs) b (suc i) e = before_end xs b i (omega (arith, e))

one_more : (xs : List ℕ) (b : ℕ) → length (xs ++ b ∷ []) ≡ suc (length xs)
one_more [] b = refl
one_more (x ∷ xs) b = ap suc (one_more xs b)

split : (i n : ℕ) → i < suc n → (i < n) ⊎ (i ≡ n)
split zero zero lt = inr refl
split zero (suc n) lt = inl (omega arith)
split (suc i) zero lt = absurd (omega (arith, lt))
split (suc i) (suc n) lt = ⊎_elim (λ (a : i < n). inl (omega (arith, a))) (λ e. inr (ap suc e)) (split i n (omega (arith, lt)))

pub below_or : (i n : ℕ) → i < n + 1 → (i < n) ⊎ (i ≡ n)
below_or i n lt = split i n (omega (arith, lt))

pub next_right : (code : ℕ → Term) (levels : List ℕ) (n b : ℕ) → AreHeightsBelow code n levels → b ≡ depth (code n) → b ≤ suc n → AreHeightsBelow code (suc n) (levels ++ b ∷ [])
next_right code levels n b h is low =
    record {
      len = one_more levels b ∙ ap suc h.len;
      each = λ i lt.
          ⊎_elim
          (λ (before : i < n). before_end levels b i (omega (arith, before, h.len)) ∙ h.each i before)
          (λ (e : i ≡ n). at_end levels b i (omega (arith, e, h.len)) ∙ is ∙ ap (λ z. depth (code z)) (sym e))
          (split i n lt);
      low = λ i lt.
          ⊎_elim
          (λ (before : i < n). omega (arith, before_end levels b i (omega (arith, before, h.len)), h.low i before))
          (λ (e : i ≡ n). omega (arith, at_end levels b i (omega (arith, e, h.len)), low, e))
          (split i n lt);
    }

module _ (code : ℕ → Term) (lists : List (List Operand)) (levels : List ℕ) (n : ℕ) (h : AreHeightsBelow code n levels) where
  pub low_parts : (t : TermNode) → n + 1 < 2 ^ 64 → HasParts n t → AreLow levels t
  low_parts Stop fits p = tt
  low_parts (On q) fits p = tt
  low_parts (Site m l) fits p = tt
  low_parts (Call e l) fits p = tt
  low_parts (Par f g) fits p = (omega (arith, h.low f p.0, p.0, fits), omega (arith, h.low g p.1, p.1, fits))
  low_parts (Seq f x g) fits p = (omega (arith, h.low f p.0, p.0, fits), omega (arith, h.low g p.1, p.1, fits))
  low_parts (Prune f x g) fits p = (omega (arith, h.low f p.0, p.0, fits), omega (arith, h.low g p.1, p.1, fits))
  low_parts (Other f g) fits p = (omega (arith, h.low f p.0, p.0, fits), omega (arith, h.low g p.1, p.1, fits))

  both : (f g : ℕ) → f < n → g < n → suc (max (height levels f) (height levels g)) ≡ suc (max (depth (code f)) (depth (code g)))
  both f g a b = λ j. suc (max (h.each f a j) (h.each g b j))

  pub height_right : (t : TermNode) → HasParts n t → node_height levels t ≡ depth (unfold_node code lists t)
  height_right Stop p = refl
  height_right (On q) p = refl
  height_right (Site m l) p = refl
  height_right (Call e l) p = refl
  height_right (Par f g) p = both f g p.0 p.1
  height_right (Seq f x g) p = both f g p.0 p.1
  height_right (Prune f x g) p = both f g p.0 p.1
  height_right (Other f g) p = both f g p.0 p.1

  most_both : (f g : ℕ) → f < n → g < n → suc (max (height levels f) (height levels g)) ≤ suc n
  most_both f g a b = omega (arith, h.low f a, h.low g b, a, b)

  pub height_low : (t : TermNode) → HasParts n t → node_height levels t ≤ suc n
  height_low Stop p = omega arith
  height_low (On q) p = omega arith
  height_low (Site m l) p = omega arith
  height_low (Call e l) p = omega arith
  height_low (Par f g) p = most_both f g p.0 p.1
  height_low (Seq f x g) p = most_both f g p.0 p.1
  height_low (Prune f x g) p = most_both f g p.0 p.1
  height_low (Other f g) p = most_both f g p.0 p.1

past : {X : Type 0} (xs : List X) (d : X) (i : ℕ) → length xs ≤ i → get_or xs i d ≡ d
past [] d i le = refl
past (x ∷ xs) d zero le = absurd (omega (arith, le))
past (x ∷ xs) d (suc i) le = past xs d i (omega (arith, le))

either : (i n : ℕ) → (i < n) ⊎ (n ≤ i)
either i zero = inr (omega arith)
either zero (suc n) = inl (omega arith)
either (suc i) (suc n) = ⊎_elim (λ (a : i < n). inl (omega (arith, a))) (λ (a : n ≤ i). inr (omega (arith, a))) (either i n)

pub all_right : (code : ℕ → Term) (lists : List (List Operand)) (nodes : List TermNode) (levels : List ℕ) → ((i : ℕ) → code i ≡ unfold_node code lists (node_of nodes i)) → AreHeightsBelow code (length nodes) levels → AreHeights code levels
all_right code lists nodes levels unfolds h i =
    ⊎_elim
    (λ (lt : i < length nodes). h.each i lt)
    (λ (le : length nodes ≤ i). past levels 1 i (omega (arith, le, h.len)) ∙ sym (ap depth (unfolds i ∙ ap (unfold_node code lists) (past nodes Stop i le))))
    (either i (length nodes))
