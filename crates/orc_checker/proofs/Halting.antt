-- The flags of a program's nodes.
use Rattle.std.proofs.Common.{◌≡◌, ◌<◌, ◌≤◌, ℕ, zero, suc, List, [], ◌∷◌, ◌++◌, length, Some, refl, sym, ap, ◌∙◌, arith, ⊎_elim, inl, inr, ◌⊎◌, Bool, true, get_or}
use Rattle.std.specs.Prelude.{slice_get, ◌&&◌}
use Rattle.orc_rules.specs.declared.program.TermNode.{TermNode}
use Rattle.orc_rules.specs.declared.program.TermNode.TheVariants.{Stop, Operand as On, Site, Call, Par, Seq, Prune, Other}
use Rattle.orc_rules.specs.declared.param.Operand.{Operand}
use Rattle.orc_rules.specs.Term.{Term}
use Rattle.orc_rules.specs.Idle.{has_halted}
use Rattle.orc_rules.specs.Nodes.{HasParts, ArePartsFirst, unfold_node, node_of}
use Rattle.orc_term.specs.Halting.{halt_flag, node_flag, AreHalts}

-- the flags of the nodes before n are right
pub record AreHaltsBelow (code : ℕ → Term) (n : ℕ) (flags : List Bool) : Type 0 where
  pub len : length flags ≡ n
  pub each : (i : ℕ) → i < n → halt_flag flags i ≡ has_halted (code i)

pub none_yet : (code : ℕ → Term) → AreHaltsBelow code 0 []
none_yet code = record { len = refl; each = λ i lt. absurd (omega arith) }

-- a node's flag, from the flags of its parts
module _ (code : ℕ → Term) (lists : List (List Operand)) where
  pub flag_right : (flags : List Bool) (n : ℕ) (t : TermNode) → AreHaltsBelow code n flags → HasParts n t → node_flag flags t ≡ has_halted (unfold_node code lists t)
  flag_right flags n Stop h p = refl
  flag_right flags n (On q) h p = refl
  flag_right flags n (Site m l) h p = refl
  flag_right flags n (Call e l) h p = refl
  flag_right flags n (Par f g) h p = λ j. h.each f p.0 j && h.each g p.1 j
  flag_right flags n (Seq f x g) h p = h.each f p.0
  flag_right flags n (Prune f x g) h p = refl
  flag_right flags n (Other f g) h p = refl

at_end : (flags : List Bool) (b : Bool) (i : ℕ) → i ≡ length flags → get_or (flags ++ b ∷ []) i true ≡ b
at_end [] b zero e = refl
at_end [] b (suc i) e = absurd (omega (arith, e))
at_end (x ∷ xs) b zero e = absurd (omega (arith, e))
at_end (x ∷ xs) b (suc i) e = at_end xs b i (omega (arith, e))

before_end : (flags : List Bool) (b : Bool) (i : ℕ) → i < length flags → get_or (flags ++ b ∷ []) i true ≡ get_or flags i true
before_end [] b i e = absurd (omega (arith, e))
before_end (x ∷ xs) b zero e = refl
before_end (x ∷ xs) b (suc i) e = before_end xs b i (omega (arith, e))

one_more : (flags : List Bool) (b : Bool) → length (flags ++ b ∷ []) ≡ suc (length flags)
one_more [] b = refl
one_more (x ∷ xs) b = ap suc (one_more xs b)

pub next_right : (code : ℕ → Term) (flags : List Bool) (n : ℕ) (b : Bool) → AreHaltsBelow code n flags → b ≡ has_halted (code n) → AreHaltsBelow code (suc n) (flags ++ b ∷ [])
next_right code flags n b h is =
    record {
      len = one_more flags b ∙ ap suc h.len;
      each = λ i lt.
          ⊎_elim
          (λ (before : i < n). before_end flags b i (omega (arith, before, h.len)) ∙ h.each i before)
          (λ (e : i ≡ n). at_end flags b i (omega (arith, e, h.len)) ∙ is ∙ ap (λ z. has_halted (code z)) (sym e))
          (split i n lt);
    }
  where
    split : (i n : ℕ) → i < suc n → (i < n) ⊎ (i ≡ n)
    split zero zero lt = inr refl
    split zero (suc n) lt = inl (omega arith)
    split (suc i) zero lt = absurd (omega (arith, lt))
    split (suc i) (suc n) lt = ⊎_elim (λ (a : i < n). inl (omega (arith, a))) (λ e. inr (ap suc e)) (split i n (omega (arith, lt)))

past : {X : Type 0} (xs : List X) (d : X) (i : ℕ) → length xs ≤ i → get_or xs i d ≡ d
past [] d i le = refl
past (x ∷ xs) d zero le = absurd (omega (arith, le))
past (x ∷ xs) d (suc i) le = past xs d i (omega (arith, le))

pub all_right : (code : ℕ → Term) (lists : List (List Operand)) (nodes : List TermNode) (flags : List Bool) → ((i : ℕ) → code i ≡ unfold_node code lists (node_of nodes i)) → AreHaltsBelow code (length nodes) flags → AreHalts code flags
all_right code lists nodes flags unfolds h i =
    ⊎_elim
    (λ (lt : i < length nodes). h.each i lt)
    (λ (le : length nodes ≤ i). past flags true i (omega (arith, le, h.len)) ∙ sym (ap has_halted (unfolds i ∙ ap (unfold_node code lists) (past nodes Stop i le))))
    (either i (length nodes))
  where
    either : (i n : ℕ) → (i < n) ⊎ (n ≤ i)
    either i zero = inr (omega arith)
    either zero (suc n) = inl (omega arith)
    either (suc i) (suc n) = ⊎_elim (λ (a : i < n). inl (omega (arith, a))) (λ (a : n ≤ i). inr (omega (arith, a))) (either i n)

pub parts_in : (nodes : List TermNode) (i : ℕ) → ArePartsFirst nodes → i < length nodes → HasParts i (node_of nodes i)
parts_in nodes i first lt = go nodes i lt (λ n e. first i n e)
  where
    go : (xs : List TermNode) (j : ℕ) → j < length xs → ((n : TermNode) → slice_get xs j ≡ Some n → HasParts i n) → HasParts i (node_of xs j)
    go [] j lt f = absurd (omega (arith, lt))
    go (x ∷ xs) zero lt f = f x refl
    go (x ∷ xs) (suc j) lt f = go xs j (omega (arith, lt)) f
