-- A token that is known to wait does so until one of its cells is bound or lost, whatever others do.
use Rattle.std.proofs.Common.{◌≡◌, ℕ, suc, List, [], ◌∷◌, refl, sym, ap, ◌∙◌, subst, arith, inl, inr, Bool, true, false, cond, nat_eq, length, Some}
use Rattle.std.proofs.lemmas.Bool.{eqb-true, ltb-true}
use Rattle.std.specs.Prelude.{◌||◌, slice_get}
use Rattle.orc_rules.specs.declared.value.Value.{Value}
use Rattle.orc_rules.specs.declared.entry.Entry.{Entry}
use Rattle.orc_rules.specs.declared.param.Param.{Param}
use Rattle.orc_rules.specs.declared.param.Param.TheVariants as is
use Rattle.orc_rules.specs.Term.{Term, stop, param, site, call, par, seq, prune, other, pending, opened, Definition, fill}
use Rattle.orc_rules.specs.Nodes.{Listing, code, definitions}
use Rattle.orc_rules.specs.Sites.{Site}
use Rattle.orc_rules.specs.Timed.{IsIn}
use Rattle.orc_env.specs.declared.names.Bound.{Bound}
use Rattle.orc_env.specs.declared.names.Bound.TheVariants as bound
use Rattle.orc_env.specs.declared.names.Scope.{Scope}
use Rattle.orc_env.specs.Scopes.{current, env_of, given}
use Rattle.orc_indexes.specs.Same.{weight}
use Rattle.orc_frames.specs.Spelling.{Path, whole, feeding, aiding, trying, Row, stands, pends}
use Rattle.orc_ledger_spec.specs.Records.{Records, Sound, Lawful, token_row, token_out, its_env, its_path, is_settled}
use Rattle.orc_frames.specs.Paths.{has_published, standing}
use Rattle.orc_ledger_spec.specs.Calls.{Turns, Crosses, Drops}
use Rattle.orc_frames.specs.Doing.{taken, what_by, is_wait}
use Rattle.orc_ledger_spec.specs.Doing.{term_of}
use Rattle.orc_frames.specs.Awaiting.{cells_among, cells_of}
use Rattle.orc_ledger_spec.specs.Next.{ready, ready_one}
use Rattle.orc_indexes.specs.Parking.{Parked, is_set, IsNoted}
use Rattle.orc_tables.specs.Tokens.{Slots, live, is_live, IsHeld, IsParked, StayParked, StayBut, StayWith}
use Rattle.orc_ledger_spec.specs.AtRest.{waits, IsAtRest, AreAtRest}
use Rattle.orc_tables.specs.declared.records.Token.{Token}
use Rattle.orc_tables.specs.declared.records.Step.{Step}
use Rattle.orc_tables.specs.declared.records.Side.TheVariants.{Right}
use Rattle.orc_tables.specs.declared.records.Group.{Group}
use Rattle.orc_indexes.proofs.Weight.{none-in}
use Rattle.orc_ledger_spec.proofs.Cells.{own_cell}
use Rattle.orc_frames.proofs.Crossing.{cross_row, cross_rows}
use Rattle.orc_ledger_spec.proofs.Turning.{row_same}
use Rattle.orc_ledger_spec.proofs.Publishing.{row_crossed}
use Rattle.orc_ledger_spec.proofs.Dropping.{filled_so, stay}
use Rattle.orc_ledger_spec.proofs.Filled.{standing-fill}
use Rattle.orc_frames.proofs.Settling.{has_arg, names_cell, args_stay, any_stays}

-- ---- terms

no-wait : (v : Value) (p : Path) → is_wait (taken v p) ≡ false
no-wait v whole = refl
no-wait v (feeding x g p) = refl
no-wait v (aiding d p) = refl
no-wait v (trying n p) = no-wait v p

-- whether a token waits doesn't depend on what stands round it
pub waits-any : (defs : List Definition) (p : Path) (u : Term) → is_wait (what_by defs p u) ≡ waits defs u
waits-any defs p stop = refl
waits-any defs p (param (is.Is v)) = no-wait v p
waits-any defs p (param is.Void) = refl
waits-any defs p (param (is.Name x)) = refl
waits-any defs p (param (is.Cell d)) = refl
waits-any defs p (site m ps) = refl
waits-any defs p (call e ps) = refl
waits-any defs p (par g h) = refl
waits-any defs p (seq g x h) = refl
waits-any defs p (prune g x h) = refl
waits-any defs p (other g h) = refl
waits-any defs p (pending k) = refl
waits-any defs p (opened g d h) = refl

not_among : (c : ℕ) (ps : List Param) → (IsIn c (cells_among ps) → ⊥) → has_arg c ps ≡ false
not_among c [] off = refl
not_among c (is.Name x ∷ ps) off = not_among c ps off
not_among c (is.Is v ∷ ps) off = not_among c ps off
not_among c (is.Void ∷ ps) off = not_among c ps off
not_among c (is.Cell d ∷ ps) off = go (nat_eq c d) refl (not_among c ps (λ i. off (inr i)))
  where
    go : (b : Bool) → nat_eq c d ≡ b → has_arg c ps ≡ false → (b || has_arg c ps) ≡ false
    go true e rest = absurd (off (inl (eqb-true c d e)))
    go false e rest = rest

names_none : (c : ℕ) (u : Term) → (IsIn c (cells_of u) → ⊥) → names_cell c u ≡ false
names_none c stop off = refl
names_none c (param p) off = not_among c (p ∷ []) off
names_none c (site m ps) off = not_among c ps off
names_none c (call e ps) off = refl
names_none c (par g h) off = refl
names_none c (seq g x h) off = refl
names_none c (prune g x h) off = refl
names_none c (other g h) off = refl
names_none c (pending k) off = refl
names_none c (opened g d h) off = refl

cells_stay : (w : Param) (c : ℕ) (u : Term) → names_cell c u ≡ false → cells_of (fill w c u) ≡ cells_of u
cells_stay w c stop h = refl
cells_stay w c (param p) h = ap cells_among (args_stay w c (p ∷ []) h)
cells_stay w c (site m ps) h = ap cells_among (args_stay w c ps h)
cells_stay w c (call e ps) h = refl
cells_stay w c (par f g) h = refl
cells_stay w c (seq f x g) h = refl
cells_stay w c (prune f x g) h = refl
cells_stay w c (other f g) h = refl
cells_stay w c (pending k) h = refl
cells_stay w c (opened f d g) h = refl

-- a term that doesn't wait for a cell waits as before once that cell has become something
module _ (w : Param) (c : ℕ) (defs : List Definition) (u : Term) (off : IsIn c (cells_of u) → ⊥) where
  pub waits-filled : waits defs (fill w c u) ≡ waits defs u
  waits-filled = ap is_wait (any_stays w c defs whole u (names_none c u off))

  pub cells-filled : cells_of (fill w c u) ≡ cells_of u
  cells-filled = cells_stay w c u (names_none c u off)

-- ---- the terms of tokens, in the records

abbrev term_in : Row → Term
term_in (stands n u p) = u
term_in (pends k p) = stop

rows_term : (ns : List ℕ) (r : Row) → term_in (cross_rows ns r) ≡ term_in r
rows_term [] r = refl
rows_term (n ∷ ns) r = rows_term ns (cross_row n r) ∙ row_term n r
  where
    row_term : (n : ℕ) (r : Row) → term_in (cross_row n r) ≡ term_in r
    row_term n (stands m u p) = refl
    row_term n (pends k p) = refl

-- tokens keep their terms
abbrev pub SameTerms : (ℕ → Term) → Records → Records → Type 0
SameTerms cd s s' = (u : Token) → IsIn u s.tokens → term_of cd s' u ≡ term_of cd s u

module _ (l : Listing) (sites : List Site) (s : Records) (L : Lawful l sites s) (s' : Records) where
  in_range : (u : Token) → IsIn u s.tokens → token_out (length s.scopes) (length s.steps) u ≡ false
  in_range u at = none-in (token_out (length s.scopes) (length s.steps)) s.tokens u L.sound.tokens at

  pub turns-terms : (t : Token) (i : IsIn t s.tokens) (births : List Token) (ss : List Scope) (ps : List Step) (gs : List Group) (cs : List Bound) (e : Entry) → Turns s s' t births ss ps gs cs e
      → ((n : ℕ) → has_published ps n ≡ false) → ((b : Bound) → current s'.cells b ≡ current s.cells b) → SameTerms (code l) s s'
  turns-terms t i births ss ps gs cs e T fresh plain u at = ap term_in (row_same l sites s L t i s' births ss ps gs cs e T fresh plain u (in_range u at))

  pub crosses-terms : (t : Token) (i : IsIn t s.tokens) (births : List Token) (ss : List Scope) (ns : List ℕ) (e : Entry) → Crosses s s' t births ss ns e → SameTerms (code l) s s'
  crosses-terms t i births ss ns e T u at = ap term_in (row_crossed l sites s L t i s' births ss ns e T u (in_range u at)) ∙ rows_term ns (token_row (code l) s u)

-- where no scope and no cell comes
pub same-terms : (cd : ℕ → Term) (s s' : Records) → s'.scopes ≡ s.scopes → s'.cells ≡ s.cells → SameTerms cd s s'
same-terms cd s s' scopes cells u at = λ i. standing cd (env_of (cells i) (scopes i)) u.standing

-- ---- tokens at rest

module _ (cd : ℕ → Term) (defs : List Definition) (s s' : Records) (x x' : Slots) (slots : x.items ≡ s.slots) (slots' : x'.items ≡ s'.slots) (R : AreAtRest cd defs s x.parked) where
  at_rest : (k : ℕ) (t : Token) → IsParked x.items x.parked k t → IsAtRest cd defs s x.parked k t
  at_rest k t h = R k t ((ap (λ z. slice_get z k) (sym slots) ∙ h.0.0, h.0.1), h.1)

  parked' : (k : ℕ) (t : Token) → IsParked s'.slots x'.parked k t → IsParked x'.items x'.parked k t
  parked' k t h = ((ap (λ z. slice_get z k) slots' ∙ h.0.0, h.0.1), h.1)

  -- what others do
  pub rest-kept : ((k : ℕ) (t : Token) → IsHeld x.items k t → IsIn t s.tokens) → StayParked x x' → SameTerms cd s s' → AreAtRest cd defs s' x'.parked
  rest-kept live-at stays same k t h =
      let w = stays k t (parked' k t h) in
      let r = at_rest k t w.0 in
      let e = same t (live-at k t w.0.0) in
      (ap (waits defs) e ∙ r.0, λ c i. w.1 c (r.1 c (subst (λ z. IsIn c z) (ap cells_of e) i)))

  -- a token parks
  pub rest-parked : SameTerms cd s s' → (slot : ℕ) (u : Token) (cells : List ℕ) → IsHeld x'.items slot u → ((k : ℕ) (t : Token) → IsHeld x.items k t → IsIn t s.tokens)
      → StayWith slot u.serial cells x x' → waits defs (term_of cd s u) ≡ true → cells ≡ cells_of (term_of cd s u) → IsIn u s.tokens → AreAtRest cd defs s' x'.parked
  rest-parked same slot u cells held live-at stays waiting its at k t h = elim (stays.0 k t (parked' k t h)) [
    | inl w ↦
        let r = at_rest k t w in
        let e = same t (live-at k t w.0) in
        (ap (waits defs) e ∙ r.0, λ c i. stays.1 c k t.serial (r.1 c (subst (λ z. IsIn c z) (ap cells_of e) i)))
    | inr w ↦
        let is : u ≡ t = some_same u t (sym held.0 ∙ ap (slice_get x'.items) (sym w.0) ∙ (parked' k t h).0.0) in
        let e = same u at in
        subst (λ (z : Token). IsAtRest cd defs s' x'.parked k z) is (ap (waits defs) e ∙ waiting, λ c i. subst (λ j. IsNoted x'.parked c j u.serial) (sym w.0) (w.1 c (subst (λ z. IsIn c z) (ap cells_of e ∙ sym its) i)))
  ]
    where
      some_same : (a b : Token) → Some a ≡ Some b → a ≡ b
      some_same a b e = cc e

-- a cell is bound or lost
module _ (l : Listing) (s s' : Records) (S : Sound s) (c : ℕ) (u : Bound) (D : Drops (code l) c u s s') (unbound : slice_get s.cells c ≡ Some (bound.Cell c)) (x x' : Slots) (slots : x.items ≡ s.slots) (slots' : x'.items ≡ s'.slots) (R : AreAtRest (code l) (definitions l) s x.parked) where
  pub rest-dropped : StayBut c x x' → AreAtRest (code l) (definitions l) s' x'.parked
  rest-dropped stays k t h =
      let w = stays k t (parked' (code l) (definitions l) s s' x x' slots slots' R k t h) in
      let r = at_rest (code l) (definitions l) s s' x x' slots slots' R k t w.0 in
      let off : IsIn c (cells_of (term_of (code l) s t)) → ⊥ = λ i. w.1 (r.1 c i) in
      let e : term_of (code l) s' t ≡ fill (given u) c (term_of (code l) s t) = standing-fill (code l) c u (stay l s s' S c u D unbound) (its_env (code l) s) (its_env (code l) s') (filled_so l s s' S c u D unbound) t.standing in
      let same = ap cells_of e ∙ cells-filled (given u) c (definitions l) (term_of (code l) s t) off in (
        ap (waits (definitions l)) e ∙ waits-filled (given u) c (definitions l) (term_of (code l) s t) off ∙ r.0,
        λ d i.
            let j : IsIn d (cells_of (term_of (code l) s t)) = subst (λ z. IsIn d z) same i in
            w.2 d (λ is. off (subst (λ z. IsIn z (cells_of (term_of (code l) s t))) is j)) (r.1 d j),
      )

-- the cell of an open side isn't bound
pub side-unbound : (s : Records) (S : Sound s) (g : Group) → IsIn g s.groups → (c : ℕ) → g.side ≡ Right c → slice_get s.cells c ≡ Some (bound.Cell c)
side-unbound s S g i c side = own_cell c (slice_get s.cells c) (ap (is_settled s.cells) (sym side) ∙ none-in (λ (h : Group). is_settled s.cells h.side) s.groups g S.cells i)

-- ---- where all wait, none moves

none_live : (w : Token → ℕ) (ts : List Token) → ((k : ℕ) (t : Token) → IsHeld ts k t → w t ≡ 0) → weight w (live ts) ≡ 0
none_live w [] h = refl
none_live w (t ∷ ts) h = go (is_live t) refl (none_live w ts (λ k u i. h (suc k) u i))
  where
    go : (b : Bool) → is_live t ≡ b → weight w (live ts) ≡ 0 → weight w (cond b (t ∷ live ts) (live ts)) ≡ 0
    go true e ih = omega (arith, h 0 t (refl, omega (arith, ltb-true 0 t.serial e)), ih)
    go false e ih = ih

pub none-ready : (cd : ℕ → Term) (defs : List Definition) (s : Records) (q : Parked) → AreAtRest cd defs s q → s.tokens ≡ live s.slots → ((k : ℕ) (t : Token) → IsHeld s.slots k t → is_set q.flags k ≡ true) → ready cd defs s ≡ 0
none-ready cd defs s q R same all =
    ap (weight (ready_one cd defs s)) same
    ∙ none_live (ready_one cd defs s) s.slots (λ k t h. ap {B = ℕ} (λ b. cond b 0 1) (waits-any defs (its_path cd s t.step) (term_of cd s t) ∙ (R k t (h, all k t h)).0))

-- the same records
pub rest-same : (cd : ℕ → Term) (defs : List Definition) (s s' : Records) (q q' : Parked) → s ≡ s' → q' ≡ q → AreAtRest cd defs s q → AreAtRest cd defs s' q'
rest-same cd defs s s' q q' same parked R = subst (λ z. AreAtRest cd defs s' z) (sym parked) (subst (λ z. AreAtRest cd defs z q) same R)
