-- Nodes and parts, as nodes come.
use Rattle.std.proofs.Common.{◌≡◌, ℕ, ◌<◌, List, [], ◌∷◌, ◌++◌, reverse, map, length, refl, sym, ap, subst, ◌∙◌, arith, None}
use Rattle.std.proofs.lemmas.List.{append_assoc, append-nil, length-append, map-append, reverse-append, get_or_append_left}
use Rattle.orc_scope.specs.declared.nodes.Piece.{Piece}
use Rattle.orc_scope.specs.declared.nodes.Piece.TheVariants as pieces
use Rattle.orc_rules.specs.Term.{Term, stop}
use Rattle.orc_scope.specs.Written.{as_param}
use Rattle.orc_scope.specs.Listed.{term_at}
use Rattle.orc_scope.specs.Pieces.{piece_term, IsFine, AreFine, Keeps}

pub at_more : (fs more : List Term) (i : ℕ) → i < length fs → term_at (fs ++ more) i ≡ term_at fs i
at_more fs more i h = get_or_append_left fs more stop i h

pub at_last : (fs : List Term) (f : Term) → term_at (fs ++ f ∷ []) (length fs) ≡ f
at_last [] f = refl
at_last (g ∷ fs) f = at_last fs f

pub piece_more : (fs more : List Term) (p : Piece) → IsFine fs p → piece_term (fs ++ more) p ≡ piece_term fs p
piece_more fs more (pieces.Operand p) fine = refl
piece_more fs more (pieces.Node i) fine = at_more fs more i fine.0

pub fine_more : (fs more : List Term) (p : Piece) → IsFine fs p → IsFine (fs ++ more) p
fine_more fs more (pieces.Operand p) fine = tt
fine_more fs more (pieces.Node i) fine = (rw (length-append fs more) (omega (arith, fine.0)), ap as_param (at_more fs more i fine.0) ∙ fine.1)

pub pieces_more : (fs more : List Term) (ps : List Piece) → AreFine fs ps → map (piece_term (fs ++ more)) ps ≡ map (piece_term fs) ps
pieces_more fs more [] fine = refl
pieces_more fs more (p ∷ ps) fine = rw (piece_more fs more p fine.0, pieces_more fs more ps fine.1) refl

pub are_more : (fs more : List Term) (ps : List Piece) → AreFine fs ps → AreFine (fs ++ more) ps
are_more fs more [] fine = tt
are_more fs more (p ∷ ps) fine = (fine_more fs more p fine.0, are_more fs more ps fine.1)

pub are_push : (fs : List Term) (ps : List Piece) (p : Piece) → AreFine fs ps → IsFine fs p → AreFine fs (ps ++ p ∷ [])
are_push fs [] p a b = (b, tt)
are_push fs (q ∷ ps) p a b = (a.0, are_push fs ps p a.1 b)

pub are_front : (fs : List Term) (ps qs : List Piece) → AreFine fs (ps ++ qs) → AreFine fs ps
are_front fs [] qs a = tt
are_front fs (q ∷ ps) qs a = (a.0, are_front fs ps qs a.1)

pub are_back : (fs : List Term) (ps qs : List Piece) → AreFine fs (ps ++ qs) → AreFine fs qs
are_back fs [] qs a = a
are_back fs (q ∷ ps) qs a = are_back fs ps qs a.1

pub parts_push : (fs : List Term) (ps : List Piece) (p : Piece) → reverse (map (piece_term fs) (ps ++ p ∷ [])) ≡ piece_term fs p ∷ reverse (map (piece_term fs) ps)
parts_push fs ps p = ap (λ (l : List Term). reverse l) (map-append (piece_term fs) ps (p ∷ [])) ∙ reverse-append (map (piece_term fs) ps) (piece_term fs p ∷ [])

-- The parts as nodes come: the pieces stay, and with them their terms.
pub parts_keep : (fs gs : List Term) (ps : List Piece) → Keeps fs gs → AreFine fs ps → reverse (map (piece_term gs) ps) ≡ reverse (map (piece_term fs) ps)
parts_keep fs gs ps k fine = ap (λ (hs : List Term). reverse (map (piece_term hs) ps)) k.1 ∙ ap (λ (l : List Term). reverse l) (pieces_more fs k.0 ps fine)

pub ready_keep : (fs gs : List Term) (ps : List Piece) → Keeps fs gs → AreFine fs ps → AreFine gs ps
ready_keep fs gs ps k fine = subst (λ (hs : List Term). AreFine hs ps) (sym k.1) (are_more fs k.0 ps fine)

pub fine_keep : (fs gs : List Term) (p : Piece) → Keeps fs gs → IsFine fs p → IsFine gs p
fine_keep fs gs p k fine = subst (λ (hs : List Term). IsFine hs p) (sym k.1) (fine_more fs k.0 p fine)

pub piece_keep : (fs gs : List Term) (p : Piece) → Keeps fs gs → IsFine fs p → piece_term gs p ≡ piece_term fs p
piece_keep fs gs p k fine = ap (λ (hs : List Term). piece_term hs p) k.1 ∙ piece_more fs k.0 p fine

pub at_keep : (fs gs : List Term) (i : ℕ) → Keeps fs gs → i < length fs → term_at gs i ≡ term_at fs i
at_keep fs gs i k h = ap (λ (hs : List Term). term_at hs i) k.1 ∙ at_more fs k.0 i h

pub within_keep : (fs gs : List Term) (i : ℕ) → Keeps fs gs → i < length fs → i < length gs
within_keep fs gs i k h = subst (λ (hs : List Term). i < length hs) (sym k.1) (rw (length-append fs k.0) (omega (arith, h)))

pub keeps_push : (fs gs : List Term) (f : Term) → gs ≡ fs ++ f ∷ [] → Keeps fs gs
keeps_push fs gs f e = (f ∷ [], e)

-- a node that has come
pub at_new : (fs gs : List Term) (f : Term) (i : ℕ) → gs ≡ fs ++ f ∷ [] → i ≡ length fs → term_at gs i ≡ f
at_new fs gs f i e is = ap (λ (hs : List Term). term_at hs i) e ∙ ap (λ (j : ℕ). term_at (fs ++ f ∷ []) j) is ∙ at_last fs f

pub within_new : (fs gs : List Term) (f : Term) (i : ℕ) → gs ≡ fs ++ f ∷ [] → i ≡ length fs → i < length gs
within_new fs gs f i e is = subst (λ (hs : List Term). i < length hs) (sym e) (rw (length-append fs (f ∷ [])) (omega (arith, is)))

-- a node becomes a part
pub join_parts : (fs gs : List Term) (ps qs : List Piece) (f : Term) (i : ℕ) → gs ≡ fs ++ f ∷ [] → i ≡ length fs → qs ≡ ps ++ pieces.Node i ∷ [] → AreFine fs ps
    → reverse (map (piece_term gs) qs) ≡ f ∷ reverse (map (piece_term fs) ps)
join_parts fs gs ps qs f i e is p fine =
    ap (λ (l : List Piece). reverse (map (piece_term gs) l)) p
    ∙ parts_push gs ps (pieces.Node i)
    ∙ ap (λ (g : Term). g ∷ reverse (map (piece_term gs) ps)) (at_new fs gs f i e is)
    ∙ ap (λ (l : List Term). f ∷ l) (parts_keep fs gs ps (keeps_push fs gs f e) fine)

pub join_ready : (fs gs : List Term) (ps qs : List Piece) (f : Term) (i : ℕ) → gs ≡ fs ++ f ∷ [] → i ≡ length fs → qs ≡ ps ++ pieces.Node i ∷ [] → as_param f ≡ None → AreFine fs ps → AreFine gs qs
join_ready fs gs ps qs f i e is p none fine =
    subst (λ (l : List Piece). AreFine gs l) (sym p) (are_push gs ps (pieces.Node i) (ready_keep fs gs ps (keeps_push fs gs f e) fine) (within_new fs gs f i e is, ap as_param (at_new fs gs f i e is) ∙ none))

-- the last piece
pub fine_last : (fs : List Term) (old new : List Piece) (p : Piece) → old ≡ new ++ p ∷ [] → AreFine fs old → IsFine fs p
fine_last fs old new p e fine = (are_back fs new (p ∷ []) (subst (λ (l : List Piece). AreFine fs l) e fine)).0

pub fine_rest : (fs : List Term) (old new : List Piece) (p : Piece) → old ≡ new ++ p ∷ [] → AreFine fs old → AreFine fs new
fine_rest fs old new p e fine = are_front fs new (p ∷ []) (subst (λ (l : List Piece). AreFine fs l) e fine)

pub parts_last : (fs : List Term) (old new : List Piece) (p : Piece) → old ≡ new ++ p ∷ [] → reverse (map (piece_term fs) old) ≡ piece_term fs p ∷ reverse (map (piece_term fs) new)
parts_last fs old new p e = ap (λ (l : List Piece). reverse (map (piece_term fs) l)) e ∙ parts_push fs new p

pub sides_parts : (fs g h : List Term) (old mid new : List Piece) (l r : Piece) (i j : ℕ) → old ≡ mid ++ r ∷ [] → mid ≡ new ++ l ∷ [] → AreFine fs old → Keeps fs g → Keeps g h
    → term_at g i ≡ piece_term fs l → i < length g → term_at h j ≡ piece_term g r → reverse (map (piece_term fs) old) ≡ term_at h j ∷ term_at h i ∷ reverse (map (piece_term h) new)
sides_parts fs g h old mid new l r i j e m fine k k2 ti wi tj =
    let fine_mid = fine_rest fs old mid r e fine in
    let fine_new = fine_rest fs mid new l m fine_mid in
    let fine_g = ready_keep fs g new k fine_new in
    let a : term_at h j ≡ piece_term fs r = tj ∙ piece_keep fs g r k (fine_last fs old mid r e fine) in
    let b : term_at h i ≡ piece_term fs l = at_keep g h i k2 wi ∙ ti in
    let d : reverse (map (piece_term h) new) ≡ reverse (map (piece_term fs) new) = parts_keep g h new k2 fine_g ∙ parts_keep fs g new k fine_new in
    parts_last fs old mid r e
    ∙ ap (λ (z : List Term). piece_term fs r ∷ z) (parts_last fs mid new l m)
    ∙ sym (ap (λ (z : Term). z ∷ term_at h i ∷ reverse (map (piece_term h) new)) a ∙ ap (λ (z : Term). piece_term fs r ∷ z ∷ reverse (map (piece_term h) new)) b ∙ ap (λ (z : List Term). piece_term fs r ∷ piece_term fs l ∷ z) d)

pub sides_ready : (fs g h : List Term) (old mid new : List Piece) (l r : Piece) → old ≡ mid ++ r ∷ [] → mid ≡ new ++ l ∷ [] → AreFine fs old → Keeps fs g → Keeps g h → AreFine h new
sides_ready fs g h old mid new l r e m fine k k2 = ready_keep g h new k2 (ready_keep fs g new k (fine_rest fs mid new l m (fine_rest fs old mid r e fine)))

pub keeps_trans : (f g h : List Term) → Keeps f g → Keeps g h → Keeps f h
keeps_trans f g h k l = (k.0 ++ l.0, l.1 ∙ ap (λ (x : List Term). x ++ l.0) k.1 ∙ append_assoc f k.0 l.0)

pub keeps_none : (f : List Term) → Keeps f f
keeps_none f = ([], sym (append-nil f))
