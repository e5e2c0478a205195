-- The arguments of a call, one after another.
use Rattle.std.proofs.Common.{◌≡◌, ℕ, zero, suc, ◌+◌, ◌-◌, ◌<◌, ◌≤◌, List, [], ◌∷◌, ◌++◌, map, drop, take, reverse, length, get_or, inl, inr, refl, sym, ap, subst, ◌∙◌, arith, Option, Some, None}
use Rattle.std.proofs.lemmas.Bool.Decides.{leb_tells}
use Rattle.std.proofs.Math.Seq.{take-append_seam, drop-append_seam}
use Rattle.orc_scope.specs.declared.nodes.Piece.TheVariants as pieces
use Rattle.orc_scope.specs.Scope.{Meaning, IsVariable, IsDefinition, IsSite, IsNothing}
use Rattle.std.proofs.lemmas.List.{append_assoc, take_all, drop_all, drop_more, drop-map, take-map, length-map, length-drop, length-reverse, reverse-append, reverse-reverse, take-append-drop}
use Rattle.orc_scope.specs.declared.nodes.Piece.{Piece}
use Rattle.orc_rules.specs.declared.param.Param.{Param}
use Rattle.orc_rules.specs.Term.{Term}
use Rattle.orc_scope.specs.Written.{as_param, called, param_or, pruned, params, prunings}
use Rattle.orc_scope.specs.Listed.{term_at}
use Rattle.orc_scope.specs.Pieces.{piece_term, IsFine, AreFine, Keeps}
use Rattle.orc_scope.proofs.Pieces.{are_back, are_front, are_push, keeps_push, keeps_trans, pieces_more, parts_keep, parts_push, ready_keep, at_new}

pub fine_at : (fs : List Term) (ps : List Piece) (i : ℕ) (d : Piece) → i < length ps → AreFine fs ps → IsFine fs (get_or ps i d)
fine_at fs (p ∷ ps) zero d h fine = fine.0
fine_at fs (p ∷ ps) (suc i) d h fine = fine_at fs ps i d (omega (arith, h)) fine.1
fine_at fs [] i d h fine = absurd (omega (arith, h))

next_at : (n base at : ℕ) → base ≤ at → suc (n + (at - base)) ≡ n + (at + 1 - base)
next_at n base at h = omega (arith, h)

pub params_step : (fs : List Term) (ps : List Piece) (n at base : ℕ) (d : Piece) (out more : List Param) (p : Param) (total : List Param) → at < length ps → base ≤ at
    → p ≡ param_or (n + (at - base)) (as_param (piece_term fs (get_or ps at d))) → more ≡ out ++ p ∷ []
    → out ++ params (n + (at - base)) (map (piece_term fs) (drop at ps)) ≡ total
    → more ++ params (n + (at + 1 - base)) (map (piece_term fs) (drop (at + 1) ps)) ≡ total
params_step fs ps n at base d out more p total h low e m is =
    let rest = map (piece_term fs) (drop (at + 1) ps) in
    ap (λ (l : List Param). l ++ params (n + (at + 1 - base)) rest) m
    ∙ append_assoc out (p ∷ []) (params (n + (at + 1 - base)) rest)
    ∙ ap (λ (q : Param). out ++ q ∷ params (n + (at + 1 - base)) rest) e
    ∙ ap (λ (k : ℕ). out ++ param_or (n + (at - base)) (as_param (piece_term fs (get_or ps at d))) ∷ params k rest) (sym (next_at n base at low))
    ∙ ap (λ (l : List Piece). out ++ params (n + (at - base)) (map (piece_term fs) l)) (sym (drop_more ps at d h))
    ∙ is

pub prunings_step : (fs : List Term) (ps : List Piece) (n at base : ℕ) (d : Piece) (f g total : Term) → at < length ps → base ≤ at
    → g ≡ pruned f (n + (at - base)) (piece_term fs (get_or ps at d)) (as_param (piece_term fs (get_or ps at d)))
    → prunings (n + (at - base)) f (map (piece_term fs) (drop at ps)) ≡ total
    → prunings (n + (at + 1 - base)) g (map (piece_term fs) (drop (at + 1) ps)) ≡ total
prunings_step fs ps n at base d f g total h low e is =
    let rest = map (piece_term fs) (drop (at + 1) ps) in
    ap (λ (u : Term). prunings (n + (at + 1 - base)) u rest) e
    ∙ ap (λ (k : ℕ). prunings k (pruned f (n + (at - base)) (piece_term fs (get_or ps at d)) (as_param (piece_term fs (get_or ps at d)))) rest) (sym (next_at n base at low))
    ∙ ap (λ (l : List Piece). prunings (n + (at - base)) f (map (piece_term fs) l)) (sym (drop_more ps at d h))
    ∙ is

-- the last ones of a list, read from behind
pub last_ones : {A : Type 0} → (n k : ℕ) (xs : List A) → k ≡ length xs - n → n ≤ length xs → (reverse (take n (reverse xs)) ≡ drop k xs) × (drop n (reverse xs) ≡ reverse (take k xs))
last_ones n k xs e h =
    let front = take k xs in
    let back = drop k xs in
    let whole : reverse xs ≡ reverse back ++ reverse front = ap (λ (l : List _). reverse l) (sym (take-append-drop k xs)) ∙ reverse-append front back in
    let len : n ≡ length (reverse back) = sym (length-reverse back ∙ length-drop k xs ∙ omega (arith, e, h)) in (
      ap (λ (l : List _). reverse (take n l)) whole ∙ ap (λ (m : ℕ). reverse (take m (reverse back ++ reverse front))) len ∙ ap (λ (l : List _). reverse l) (take-append_seam (reverse back) (reverse front)) ∙ reverse-reverse back,
      ap (λ (l : List _). drop n l) whole ∙ ap (λ (m : ℕ). drop m (reverse back ++ reverse front)) len ∙ drop-append_seam (reverse back) (reverse front),
    )

pub all_ones : {A : Type 0} → (n : ℕ) (xs : List A) → length xs ≤ n → (reverse (take n (reverse xs)) ≡ xs) × (drop n (reverse xs) ≡ [])
all_ones n xs h =
    let le : length (reverse xs) ≤ n = rw (length-reverse xs) h in
    (ap (λ (l : List _). reverse l) (take_all n (reverse xs) le) ∙ reverse-reverse xs, drop_all n (reverse xs) le)

pub ones : {A : Type 0} → (n k : ℕ) (xs : List A) → k ≡ length xs - n → (reverse (take n (reverse xs)) ≡ drop k xs) × (drop n (reverse xs) ≡ reverse (take k xs))
ones n k xs e = elim (leb_tells n (length xs)) [ inl met ↦ last_ones n k xs e met.1 | inr unmet ↦ by_none (omega (arith, e, unmet.1)) (omega (arith, unmet.1)) ]
  where
    by_none : k ≡ 0 → length xs ≤ n → (reverse (take n (reverse xs)) ≡ drop k xs) × (drop n (reverse xs) ≡ reverse (take k xs))
    by_none z le = subst (λ (m : ℕ). (reverse (take n (reverse xs)) ≡ drop m xs) × (drop n (reverse xs) ≡ reverse (take m xs))) (sym z) (all_ones n xs le)

pruned_none : (f g : Term) (n : ℕ) (o : Option Param) → as_param f ≡ None → as_param (pruned f n g o) ≡ None
pruned_none f g n (Some p) e = e
pruned_none f g n None e = refl

-- a call in its prunings is no parameter
pub prunings_none : (f : Term) (n : ℕ) (gs : List Term) → as_param f ≡ None → as_param (prunings n f gs) ≡ None
prunings_none f n [] e = e
prunings_none f n (g ∷ gs) e = prunings_none (pruned f n g (as_param g)) (suc n) gs (pruned_none f g n (as_param g) e)

pub called_none : (m : Meaning) (ps : List Param) → as_param (called m ps) ≡ None
called_none IsVariable ps = refl
called_none (IsDefinition e) ps = refl
called_none (IsSite m) ps = refl
called_none IsNothing ps = refl

-- the pieces after a call
pub call_parts : (fs gs hs : List Term) (old new : List Piece) (n count base at root : ℕ) (m : Meaning) (ps : List Param) (node : Term) → AreFine fs old → base ≡ length old - count
    → ps ≡ params n (map (piece_term fs) (drop base old)) → node ≡ called m ps → gs ≡ fs ++ node ∷ [] → at ≡ length fs
    → term_at hs root ≡ prunings n (term_at gs at) (map (piece_term gs) (drop base old)) → root < length hs → Keeps gs hs → new ≡ take base old ++ pieces.Node root ∷ []
    → (reverse (map (piece_term hs) new) ≡ prunings n (called m (params n (reverse (take count (reverse (map (piece_term fs) old)))))) (reverse (take count (reverse (map (piece_term fs) old)))) ∷ drop count (reverse (map (piece_term fs) old)))
    × AreFine hs new
call_parts fs gs hs old new n count base at root m ps node fine b p nd g a t within k is =
    let xs = map (piece_term fs) old in
    let fine_back : AreFine fs (drop base old) = are_back fs (take base old) (drop base old) (subst (λ (l : List Piece). AreFine fs l) (sym (take-append-drop base old)) fine) in
    let fine_front : AreFine fs (take base old) = are_front fs (take base old) (drop base old) (subst (λ (l : List Piece). AreFine fs l) (sym (take-append-drop base old)) fine) in
    let both = ones count base xs (b ∙ ap (λ (i : ℕ). i - count) (sym (length-map old (piece_term fs)))) in
    let kg = keeps_push fs gs node g in
    let kh = keeps_trans fs gs hs kg k in
    let args : map (piece_term fs) (drop base old) ≡ reverse (take count (reverse xs)) = sym (drop-map (piece_term fs) base old) ∙ sym both.0 in
    let same : map (piece_term gs) (drop base old) ≡ map (piece_term fs) (drop base old) = ap (λ (us : List Term). map (piece_term us) (drop base old)) kg.1 ∙ pieces_more fs kg.0 (drop base old) fine_back in
    let node_is : node ≡ called m (params n (reverse (take count (reverse xs)))) = nd ∙ ap (λ (l : List Param). called m l) p ∙ ap (λ (l : List Term). called m (params n l)) args in
    let term : term_at hs root ≡ prunings n (called m (params n (reverse (take count (reverse xs))))) (reverse (take count (reverse xs))) =
    t ∙ ap (λ (f : Term). prunings n f (map (piece_term gs) (drop base old))) (at_new fs gs node at g a ∙ node_is) ∙ ap (λ (l : List Term). prunings n (called m (params n (reverse (take count (reverse xs))))) l) (same ∙ args) in
    let front : reverse (map (piece_term hs) (take base old)) ≡ drop count (reverse xs) = parts_keep fs hs (take base old) kh fine_front ∙ ap (λ (l : List Term). reverse l) (sym (take-map (piece_term fs) base old)) ∙ sym both.1 in (
      ap (λ (l : List Piece). reverse (map (piece_term hs) l)) is ∙ parts_push hs (take base old) (pieces.Node root) ∙ ap (λ (f : Term). f ∷ reverse (map (piece_term hs) (take base old))) term ∙ ap (λ (l : List Term). prunings n (called m (params n (reverse (take count (reverse xs))))) (reverse (take count (reverse xs))) ∷ l) front,
      subst (λ (l : List Piece). AreFine hs l) (sym is) (are_push hs (take base old) (pieces.Node root) (ready_keep fs hs (take base old) kh fine_front) (within, ap as_param term ∙ prunings_none (called m (params n (reverse (take count (reverse xs))))) n (reverse (take count (reverse xs))) (called_none m (params n (reverse (take count (reverse xs))))))),
    )
