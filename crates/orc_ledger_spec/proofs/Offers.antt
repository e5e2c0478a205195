-- An entry fits the place for a token's mark exactly where it is the one that the token's word names.
use Rattle.std.proofs.Common.{◌≡◌, ℕ, List, [], ◌∷◌, ◌++◌, refl, sym, ap, ◌∙◌, subst, inl, inr, ◌⊎◌, ⊎_elim, not, Option, Some, None}
use Rattle.std.specs.Prelude.{◌↔◌, ◌||◌}
use Rattle.orc_rules.specs.declared.value.Value.{Value}
use Rattle.orc_rules.specs.declared.param.Param.TheVariants.{Is}
use Rattle.orc_rules.specs.declared.entry.Entry.{Entry}
use Rattle.orc_rules.specs.declared.entry.Entry.TheVariants as entry
use Rattle.orc_rules.specs.Term.{Term, stop, param, site, call, par, seq, prune, other}
use Rattle.orc_rules.specs.Nodes.{Listing, code, definitions}
use Rattle.orc_rules.specs.Sites.{Site}
use Rattle.orc_rules.specs.Step.{Act, publishes, silent, binds}
use Rattle.orc_rules.specs.Idle.{can_move}
use Rattle.orc_rules.specs.Marked.{Marked, ended, token, in_call, in_par, in_seq, in_opened, in_other, Replaces, here, Emits, emits, on_left, on_right, is_fed, on_main, is_bound, passes}
use Rattle.orc_rules.specs.Timed.{IsIn}
use Rattle.orc_rules.specs.Journal.{IsVoid}
use Rattle.orc_rules.specs.Lost.{IsSource, HoldsSource}
use Rattle.orc_rules.specs.Numbered.{mark}
use Rattle.orc_rules.specs.Refusal.{Stands, Fits}
use Rattle.orc_frames.specs.Spelling.{Path, whole, feeding, aiding, trying, Row, stands, marks}
use Rattle.orc_ledger_spec.specs.Records.{Records, Lawful, context, its_path, token_row}
use Rattle.orc_frames.specs.Doing.{taken, is_wait, moves_marks, Allows, names, Asks}
use Rattle.orc_ledger_spec.specs.Doing.{term_of, what_of}
use Rattle.orc_tables.specs.declared.records.Token.{Token}
use Rattle.orc_frames.specs.declared.action.Action.{Action}
use Rattle.orc_frames.specs.declared.action.Action.TheVariants.{Halt, Fork, Seq, Prune, Other, Def, Void, Publish, Send, Bind, Call}
use Rattle.orc_frames.proofs.Around.{Around, hole, before, behind, feeds, main_of, side_of, enters, plug, path_of, cells_of, replaced}
use Rattle.orc_ledger_spec.proofs.Lists.{numbered, holds_source, token_found}
use Rattle.orc_frames.proofs.Kept.{emits_in}
use Rattle.orc_frames.proofs.Crossing.{silent_in}
use Rattle.orc_frames.proofs.Finding.{in_front, in_back, stands_row, acted, emits_row, one_row}
use Rattle.orc_frames.proofs.Meaning.{means, says, waits}

in_append : {X : Type 0} (x : X) (us vs : List X) → IsIn x (us ++ vs) → IsIn x us ⊎ IsIn x vs
in_append x [] vs h = inr h
in_append x (w ∷ us) vs (inl e) = inl (inl e)
in_append x (w ∷ us) vs (inr h) = ⊎_elim (λ a. inl (inr a)) (λ b. inr b) (in_append x us vs h)

abbrev HasSource : Row → Type 0
HasSource (stands s u p) = IsSource u
HasSource _ = Unit {0}

-- what stands in a row is a source's
pub source_row : (r : Row) (p : Path) (m : Marked) → HoldsSource m → IsIn r (marks p m) → HasSource r
source_row r p ended src i = elim i [ ]
source_row r p (token s u) src (inl e) = subst HasSource (sym e) src
source_row r p (token s u) src (inr i) = elim i [ ]
source_row r p (in_call k) src (inl e) = subst HasSource (sym e) tt
source_row r p (in_call k) src (inr i) = elim i [ ]
source_row r p (in_par f g) src i = ⊎_elim (λ a. source_row r p f src.0 a) (λ b. source_row r p g src.1 b) (in_append r (marks p f) (marks p g) i)
source_row r p (in_seq f x g) src i = source_row r (feeding x g p) f src.0 i
source_row r p (in_opened f c g) src i = ⊎_elim (λ a. source_row r p f src.0 a) (λ b. source_row r (aiding c p) g src.1 b) (in_append r (marks p f) (marks (aiding c p) g) i)
source_row r p (in_other n f g) src i = source_row r (trying n p) f src.0 i

pub in_plug : (r : Row) (k : Around) (m : Marked) → IsIn r (marks (path_of k) m) → IsIn r (marks whole (plug k m))
in_plug r hole m i = i
in_plug r (before b k) m i = in_plug r k (in_par m b) (in_front r (marks (path_of k) m) (marks (path_of k) b) i)
in_plug r (behind a k) m i = in_plug r k (in_par a m) (in_back r (marks (path_of k) a) (marks (path_of k) m) i)
in_plug r (feeds x g k) m i = in_plug r k (in_seq m x g) i
in_plug r (main_of c b k) m i = in_plug r k (in_opened m c b) (in_front r (marks (path_of k) m) (marks (aiding c (path_of k)) b) i)
in_plug r (side_of c a k) m i = in_plug r k (in_opened a c m) (in_back r (marks (path_of k) a) (marks (aiding c (path_of k)) m) i)
in_plug r (enters n g k) m i = in_plug r k (in_other n m g) i

-- the act of a word
abbrev act_as : Action → Act
act_as (Publish v) = publishes v
act_as (Bind c v) = binds c v
act_as _ = silent

-- a publication goes to what the path says
module _ (s a : ℕ) (v : Value) where
  pub goes_to : (k : Around) (m m' : Marked) → Emits s a v m (publishes v) m' → (m'' : Marked) × Emits s a v (plug k m) (act_as (taken v (path_of k))) m''
  goes_to hole m m' e = (m', e)
  goes_to (before b k) m m' e = goes_to k (in_par m b) (in_par m' b) (on_left e)
  goes_to (behind b k) m m' e = goes_to k (in_par b m) (in_par b m') (on_right e)
  goes_to (feeds x g k) m m' e = (_, silent_in k (is_fed e))
  goes_to (main_of c b k) m m' e = goes_to k (in_opened m c b) (in_opened m' c b) (on_main e)
  goes_to (side_of c b k) m m' e = (_, emits_in k (is_bound e))
  goes_to (enters n g k) m m' e = goes_to k (in_other n m g) m' (passes e)

pub some_0 : (o p : ℕ × Action) → Some o ≡ Some p → o.0 ≡ p.0
some_0 o p e = ap (λ (z : Option (ℕ × Action)). elim z as (λ y. ℕ) [ Some y ↦ y.0 | None ↦ o.0 ]) e

some_1 : (o p : ℕ × Action) → Some o ≡ Some p → o.1 ≡ p.1
some_1 o p e = ap (λ (z : Option (ℕ × Action)). elim z as (λ y. Action) [ Some y ↦ y.1 | None ↦ o.1 ]) e

module _ (l : Listing) (sites : List Site) (s : Records) (L : Lawful l sites s) (t : Token) (i : IsIn t s.tokens) where
  abbrev its_term : Term
  its_term = term_of (code l) s t

  abbrev path : Path
  path = its_path (code l) s t.step

  -- the token's row is in the marked term
  pub row_there : IsIn (token_row (code l) s t) (marks whole L.place.marked)
  row_there =
      let f = token_found l sites s L t i in
      subst (λ m. IsIn (token_row (code l) s t) (marks whole m)) f.is (in_plug (token_row (code l) s t) f.around (token t.serial its_term) (inl (ap (λ p. stands t.serial its_term p) (sym f.path))))

  pub its_source : IsSource its_term
  its_source = source_row (token_row (code l) s t) whole L.place.marked (holds_source l sites s L) row_there

  -- and is the only one with its mark
  pub same_row_as : (u : Term) (q : Path) → IsIn (stands t.serial u q) (marks whole L.place.marked) → stands t.serial u q ≡ stands t.serial its_term path
  same_row_as u q j = one_row t.serial u its_term q path L.place.marked ((numbered l sites s L).single (mark t.serial)) j row_there

  found_term : (n : ℕ) (u : Term) → n ≡ t.serial → Stands (token n u) L.place.marked → its_term ≡ u
  found_term n u e st =
      let d = stands_row st.1 whole in
      let same = same_row_as u d.0 (subst (λ z. IsIn (stands z u d.0) (marks whole L.place.marked)) e d.1) in
      cc same

  pub stands_so : (n : ℕ) (u : Term) → n ≡ t.serial → its_term ≡ u → Stands (token n u) L.place.marked
  stands_so n u e f =
      let d = token_found l sites s L t i in
      let is : plug d.around (token n u) ≡ L.place.marked = (λ j. plug d.around (token (e j) (sym f j))) ∙ d.is in
      (cells_of d.around [], subst (λ m. Replaces (token n u) (token n u) m (cells_of d.around []) m) is (replaced d.around here))

  found_taker : (n a : ℕ) (v : Value) (b : Act) (m : Marked) → n ≡ t.serial → Emits n a v L.place.marked b m → (taken v path ≡ acted v whole b) × (its_term ≡ param (Is v))
  found_taker n a v b m e em =
      let d = emits_row em whole in
      let same = same_row_as (param (Is v)) d.0 (subst (λ z. IsIn (stands z (param (Is v)) d.0) (marks whole L.place.marked)) e d.1) in
      let p : path ≡ d.0 = cc same in
      (ap (taken v) p ∙ d.2, cc same)

  emits_so : (n a : ℕ) (v : Value) (w : Action) → n ≡ t.serial → (taken v path ≡ w) × (its_term ≡ param (Is v)) → (m : Marked) × Emits n a v L.place.marked (act_as w) m
  emits_so n a v w e (tk, f) =
      let d = token_found l sites s L t i in
      let is : plug d.around (token n (param (Is v))) ≡ L.place.marked = (λ j. plug d.around (token (e j) (sym f j))) ∙ d.is in
      let g = goes_to n a v d.around (token n (param (Is v))) ended emits in
      let act : act_as (taken v (path_of d.around)) ≡ act_as w = ap act_as (ap (taken v) d.path ∙ tk) in
      (g.0, subst (λ z. Emits n a v L.place.marked z g.0) act (subst (λ m. Emits n a v m (act_as (taken v (path_of d.around))) g.0) is g.1))

  -- the word of the token means what it says
  pub its_meaning : Allows (definitions l) (what_of (code l) (definitions l) s t) path its_term
  its_meaning = means (definitions l) path its_term its_source

  -- it waits exactly where its term is no move of marks and no rule can be used in it
  pub it_waits : is_wait (what_of (code l) (definitions l) s t) ≡ not (moves_marks its_term || can_move (definitions l) its_term)
  it_waits = waits (definitions l) path its_term its_source

  pub names_fits : (e : Entry) (w : Action) → names e ≡ Some (t.serial, w) → Fits (context l sites) L.place e → (what_of (code l) (definitions l) s t ≡ w) × Asks e its_term
  names_fits (entry.End n) w is st =
      let k = some_0 (n, Halt) (t.serial, w) is in
      (says (definitions l) path Halt its_term refl (found_term n stop k st) ∙ some_1 (n, Halt) (t.serial, w) is, tt)
  names_fits (entry.Fork n a b) w is (f, g, st) =
      let k = some_0 (n, Fork) (t.serial, w) is in
      (says (definitions l) path Fork its_term refl (f, g, found_term n (par f g) k st) ∙ some_1 (n, Fork) (t.serial, w) is, tt)
  names_fits (entry.Seq n a) w is (f, g, z, st) =
      let k = some_0 (n, Seq) (t.serial, w) is in
      (says (definitions l) path Seq its_term refl (f, z, g, found_term n (seq f z g) k st) ∙ some_1 (n, Seq) (t.serial, w) is, tt)
  names_fits (entry.Other n a) w is (f, g, st) =
      let k = some_0 (n, Other) (t.serial, w) is in
      (says (definitions l) path Other its_term refl (f, g, found_term n (other f g) k st) ∙ some_1 (n, Other) (t.serial, w) is, tt)
  names_fits (entry.Def n a) w is (e, ps, d, h, st) =
      let k = some_0 (n, Def) (t.serial, w) is in
      (says (definitions l) path Def its_term refl (e, ps, d, h, found_term n (call e ps) k st) ∙ some_1 (n, Def) (t.serial, w) is, tt)
  names_fits (entry.Void n) w is (u, void, st) =
      let k = some_0 (n, Void) (t.serial, w) is in
      (says (definitions l) path Void its_term refl (subst IsVoid (sym (found_term n u k st)) void) ∙ some_1 (n, Void) (t.serial, w) is, tt)
  names_fits (entry.Open n c a b) w is (f, g, z, st) =
      let k = some_0 (n, Prune) (t.serial, w) is in
      (says (definitions l) path Prune its_term refl (f, z, g, found_term n (prune f z g) k st) ∙ some_1 (n, Prune) (t.serial, w) is, tt)
  names_fits (entry.Send n a v) w is (m, em) =
      let k = some_0 (n, Send v) (t.serial, w) is in
      (says (definitions l) path (Send v) its_term refl (found_taker n a v silent m k em) ∙ some_1 (n, Send v) (t.serial, w) is, tt)
  names_fits (entry.Call n j m args) w is (ps, vs, st) =
      let k = some_0 (n, Call) (t.serial, w) is in
      (says (definitions l) path Call its_term refl (m, ps, args, vs, found_term n (site m ps) k st) ∙ some_1 (n, Call) (t.serial, w) is, (ps, vs, found_term n (site m ps) k st))
  names_fits (entry.Bind n c v) w is (m, em) =
      let k = some_0 (n, Bind c v) (t.serial, w) is in
      (says (definitions l) path (Bind c v) its_term refl (found_taker n L.place.mark v (binds c v) m k em) ∙ some_1 (n, Bind c v) (t.serial, w) is, tt)
  names_fits (entry.Publish n v) w is (m, em) =
      let k = some_0 (n, Publish v) (t.serial, w) is in
      (says (definitions l) path (Publish v) its_term refl (found_taker n L.place.mark v (publishes v) m k em) ∙ some_1 (n, Publish v) (t.serial, w) is, tt)
  names_fits (entry.Return k a v) w is fits = cc
  names_fits (entry.ReturnHalt k) w is fits = cc
  names_fits (entry.Lost c) w is fits = cc
  names_fits (entry.Right n a) w is fits = cc
  names_fits (entry.Tick u) w is fits = cc
  names_fits (entry.Cancel k) w is fits = cc

  pub fits_names : (e : Entry) (w : Action) → names e ≡ Some (t.serial, w) → what_of (code l) (definitions l) s t ≡ w → Asks e its_term → Fits (context l sites) L.place e
  fits_names (entry.End n) w is what asks =
      let k = some_0 (n, Halt) (t.serial, w) is in
      let m = subst (λ z. Allows (definitions l) z path its_term) (what ∙ sym (some_1 (n, Halt) (t.serial, w) is)) its_meaning in
      stands_so n stop k m
  fits_names (entry.Fork n a b) w is what asks =
      let k = some_0 (n, Fork) (t.serial, w) is in
      let m = subst (λ z. Allows (definitions l) z path its_term) (what ∙ sym (some_1 (n, Fork) (t.serial, w) is)) its_meaning in
      (m.0, m.1, stands_so n (par m.0 m.1) k m.2)
  fits_names (entry.Seq n a) w is what asks =
      let k = some_0 (n, Seq) (t.serial, w) is in
      let m = subst (λ z. Allows (definitions l) z path its_term) (what ∙ sym (some_1 (n, Seq) (t.serial, w) is)) its_meaning in
      (m.0, m.2, m.1, stands_so n (seq m.0 m.1 m.2) k m.3)
  fits_names (entry.Other n a) w is what asks =
      let k = some_0 (n, Other) (t.serial, w) is in
      let m = subst (λ z. Allows (definitions l) z path its_term) (what ∙ sym (some_1 (n, Other) (t.serial, w) is)) its_meaning in
      (m.0, m.1, stands_so n (other m.0 m.1) k m.2)
  fits_names (entry.Def n a) w is what asks =
      let k = some_0 (n, Def) (t.serial, w) is in
      let m = subst (λ z. Allows (definitions l) z path its_term) (what ∙ sym (some_1 (n, Def) (t.serial, w) is)) its_meaning in
      (m.0, m.1, m.2, m.3, stands_so n (call m.0 m.1) k m.4)
  fits_names (entry.Void n) w is what asks =
      let k = some_0 (n, Void) (t.serial, w) is in
      let m = subst (λ z. Allows (definitions l) z path its_term) (what ∙ sym (some_1 (n, Void) (t.serial, w) is)) its_meaning in
      (its_term, m, stands_so n its_term k refl)
  fits_names (entry.Open n c a b) w is what asks =
      let k = some_0 (n, Prune) (t.serial, w) is in
      let m = subst (λ z. Allows (definitions l) z path its_term) (what ∙ sym (some_1 (n, Prune) (t.serial, w) is)) its_meaning in
      (m.0, m.2, m.1, stands_so n (prune m.0 m.1 m.2) k m.3)
  fits_names (entry.Send n a v) w is what asks =
      let k = some_0 (n, Send v) (t.serial, w) is in
      let m = subst (λ z. Allows (definitions l) z path its_term) (what ∙ sym (some_1 (n, Send v) (t.serial, w) is)) its_meaning in
      emits_so n a v (Send v) k m
  fits_names (entry.Call n j m args) w is what (ps, vs, f) =
      let k = some_0 (n, Call) (t.serial, w) is in
      (ps, vs, stands_so n (site m ps) k f)
  fits_names (entry.Bind n c v) w is what asks =
      let k = some_0 (n, Bind c v) (t.serial, w) is in
      let m = subst (λ z. Allows (definitions l) z path its_term) (what ∙ sym (some_1 (n, Bind c v) (t.serial, w) is)) its_meaning in
      emits_so n L.place.mark v (Bind c v) k m
  fits_names (entry.Publish n v) w is what asks =
      let k = some_0 (n, Publish v) (t.serial, w) is in
      let m = subst (λ z. Allows (definitions l) z path its_term) (what ∙ sym (some_1 (n, Publish v) (t.serial, w) is)) its_meaning in
      emits_so n L.place.mark v (Publish v) k m
  fits_names (entry.Return k a v) w is what asks = cc
  fits_names (entry.ReturnHalt k) w is what asks = cc
  fits_names (entry.Lost c) w is what asks = cc
  fits_names (entry.Right n a) w is what asks = cc
  fits_names (entry.Tick u) w is what asks = cc
  fits_names (entry.Cancel k) w is what asks = cc

  -- the entry fits the place exactly where the token's word names it
  pub offered : (e : Entry) (w : Action) → names e ≡ Some (t.serial, w) → Fits (context l sites) L.place e ↔ ((what_of (code l) (definitions l) s t ≡ w) × Asks e its_term)
  offered e w is = (names_fits e w is, λ h. fits_names e w is h.0 h.1)
