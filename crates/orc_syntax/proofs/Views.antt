-- What the reader's lists stand for.
use Rattle.std.proofs.Common.{◌≡◌, ℕ, ◌+◌, ◌-◌, ◌<◌, ◌≤◌, leb, false, List, [], ◌∷◌, ◌++◌, map, length, take, get_or, inl, inr, refl, sym, ap, ◌∙◌, arith}
use Rattle.std.proofs.lemmas.Bool.{le-leb}
use Rattle.std.proofs.lemmas.Bool.Decides.{leb_tells}
use Rattle.std.proofs.lemmas.List.{map_push, take_more, length-map}
use Rattle.std.proofs.Math.Seq.{take-length}
use Rattle.orc_syntax.specs.declared.reader.Joining.{Joining}
use Rattle.orc_syntax.specs.declared.reader.Frame.TheVariants as code
use Rattle.orc_syntax.specs.Tree as trees
use Rattle.orc_syntax.specs.declared.tree.Node.{Node}
use Rattle.orc_syntax.specs.declared.tree.Name.{Name}
use Rattle.orc_syntax.specs.declared.tree.Definition.{Definition}
use Rattle.orc_syntax.specs.declared.reader.Frame.{Frame}
use Rattle.orc_syntax.specs.Tree.{Item, Label}
use Rattle.orc_syntax.specs.Ast.{label, item}
use Rattle.orc_syntax.specs.Machine as machine
use Rattle.orc_syntax.specs.View.{frame, over, definition, last_first}

pub over_push : (k : List machine.Frame) (fs : List Frame) (f : Frame) → over k (fs ++ f ∷ []) ≡ frame f ∷ over k fs
over_push k [] f = refl
over_push k (g ∷ fs) f = over_push (frame g ∷ k) fs f

pub node_push : (ns : List Node) (n : Node) → map item (ns ++ n ∷ []) ≡ map item ns ++ item n ∷ []
node_push ns n = map_push item ns n

pub name_push : (ns : List Name) (n : Name) → map label (ns ++ n ∷ []) ≡ map label ns ++ label n ∷ []
name_push ns n = map_push label ns n

pub definition_push : (ns : List Definition) (n : Definition) → map definition (ns ++ n ∷ []) ≡ map definition ns ++ definition n ∷ []
definition_push ns n = map_push definition ns n

pub ruleset stacks = (over_push, node_push, name_push, definition_push)

-- what popping gives back
pub over_pop : (fs gs : List Frame) (f : Frame) → fs ≡ gs ++ f ∷ [] → over [] fs ≡ frame f ∷ over [] gs
over_pop fs gs f e = ap (over []) e ∙ over_push [] gs f

-- the frame at the end of a front of the frames
pub over_at : (fs : List Frame) (n : ℕ) (f : Frame) → 0 < n → n ≤ length fs → f ≡ get_or fs (n - 1) f → over [] (take n fs) ≡ frame f ∷ over [] (take (n - 1) fs)
over_at fs n f pos le is =
    let k : n ≡ n - 1 + 1 = omega arith in
    let e : take n fs ≡ take (n - 1) fs ++ f ∷ [] = ap (λ (i : ℕ). take i fs) k ∙ take_more fs (n - 1) f (omega arith) ∙ ap (λ (g : Frame). take (n - 1) fs ++ g ∷ []) (sym is) in
    over_pop (take n fs) (take (n - 1) fs) f e

-- the last frame
pub over_last : (fs : List Frame) (f : Frame) → 0 < length fs → f ≡ get_or fs (length fs - 1) f → over [] fs ≡ frame f ∷ over [] (take (length fs - 1) fs)
over_last fs f pos is = ap (over []) (sym (take-length fs)) ∙ over_at fs (length fs) f pos (omega arith) is

lt-leb : (a b : ℕ) → a < b → leb b a ≡ false
lt-leb a b h = elim (leb_tells b a) [ inl met ↦ absurd (omega arith) | inr unmet ↦ unmet.0 ]

pub reduce_stops : (m : ℕ) (o : machine.Operand) (ns : List Item) (j : machine.Joining) (start : ℕ) (k : List machine.Frame) → machine.level_of j < m → machine.reduce m o ns (machine.Before j start ∷ k) ≡ machine.reduced o ns (machine.Before j start ∷ k)
reduce_stops m o ns j start k h = rw (lt-leb (machine.level_of j) m h) refl

pub reduce_goes : (m : ℕ) (o : machine.Operand) (ns : List Item) (j : machine.Joining) (start : ℕ) (k : List machine.Frame) → m ≤ machine.level_of j
    → machine.reduce m o ns (machine.Before j start ∷ k) ≡ machine.reduce m (machine.operand start o.end) (ns ++ trees.item (machine.sort_by j) (record { start = start; end = o.end }) ∷ []) k
reduce_goes m o ns j start k h = rw (le-leb m (machine.level_of j) h) refl

pub other_stops : (m : ℕ) (o : machine.Operand) (ns : List Item) (f : Frame) (k : List machine.Frame) → ((j : Joining) (start : ℕ) → f ≡ code.Before j start → ⊥) → machine.reduce m o ns (frame f ∷ k) ≡ machine.reduced o ns (frame f ∷ k)
other_stops m o ns (code.Before j start) k h = absurd (h j start refl)
other_stops m o ns (code.Bracket start) k h = refl
other_stops m o ns (code.Arguments x n) k h = refl
other_stops m o ns (code.Bound x start) k h = refl
other_stops m o ns (code.Body f) k h = refl

-- what a new node makes of the rest
pub node_reduced : (m : ℕ) (o : machine.Operand) (ns : List Item) (fs : List machine.Frame) (start end : ℕ) (ms : List Item) (s : trees.Sort) (k : List machine.Frame) (j : machine.Joining)
    → o ≡ machine.operand start end → ns ≡ ms ++ trees.item s (record { start = start; end = end }) ∷ [] → fs ≡ k → s ≡ machine.sort_by j
    → machine.reduce m o ns fs ≡ machine.reduce m (machine.operand start end) (ms ++ trees.item (machine.sort_by j) (record { start = start; end = end }) ∷ []) k
node_reduced m o ns fs start end ms s k j a b c d =
    ap (λ (p : machine.Operand). machine.reduce m p ns fs) a ∙ ap (λ (q : List Item). machine.reduce m (machine.operand start end) q fs) b ∙ ap (λ (q : List machine.Frame). machine.reduce m (machine.operand start end) (ms ++ trees.item s (record { start = start; end = end }) ∷ []) q) c
    ∙ ap (λ (q : trees.Sort). machine.reduce m (machine.operand start end) (ms ++ trees.item q (record { start = start; end = end }) ∷ []) k) d

pub last_first-push : (k xs : List ℕ) (x : ℕ) → last_first k (xs ++ x ∷ []) ≡ x ∷ last_first k xs
last_first-push k [] x = refl
last_first-push k (y ∷ xs) x = last_first-push (y ∷ k) xs x

pub ruleset counts = (last_first-push)

pub defined_all : (ds : List Definition) → length (map definition ds) ≡ length ds
defined_all ds = length-map ds definition
