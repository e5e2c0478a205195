-- A run that is over is a part of the run that has its call to make.
use Rattle.std.proofs.Common.{◌≡◌, ◌≤◌, ◌-◌, ℕ, List, [], ◌∷◌, refl, sym, ap, ◌∙◌, subst, arith, length, map, not, true, Option, Some, None, inl, inr}
use Rattle.std.specs.Prelude.{filter}
use Rattle.orc_rules.specs.declared.value.Value.{Value}
use Rattle.orc_rules.specs.declared.entry.Entry.{Entry}
use Rattle.orc_rules.specs.declared.entry.Entry.TheVariants.{End, Fork, Seq, Other, Def, Open, Send, Call, Return, ReturnHalt, Bind, Lost, Right, Publish, Tick, Cancel}
use Rattle.orc_rules.specs.declared.entry.Entry.TheVariants as entry
use Rattle.orc_rules.specs.declared.param.Param.{Param}
use Rattle.orc_rules.specs.declared.param.Param.TheVariants.{Is, Name, Cell, Void}
use Rattle.orc_rules.specs.declared.param.Operand.{Operand}
use Rattle.orc_rules.specs.Term.{Term, call, param, values_of}
use Rattle.orc_rules.specs.Nodes.{Listing, code, source, definitions, param_of}
use Rattle.orc_rules.specs.Sites.{Site}
use Rattle.orc_rules.specs.Timed.{Context, IsIn}
use Rattle.orc_rules.specs.Journal.{Journal, begin}
use Rattle.orc_subrun.specs.Moved.{AreLocal, AreSilent}
use Rattle.orc_env.specs.Scopes.{Env, close}
use Rattle.orc_env.proofs.Scopes.{close-call, values-more}
use Rattle.orc_frames.proofs.Meaning.{rest_some}
use Rattle.orc_indexes.specs.Same.{weight}
use Rattle.orc_indexes.proofs.Weight.{weight-length}
use Rattle.orc_tables.specs.declared.records.Token.{Token}
use Rattle.orc_frames.specs.Doing.{Allows, closed}
use Rattle.orc_frames.specs.Paths.{has_published}
use Rattle.orc_frames.specs.Spelling.{Row, stands, Numbered, whole, marks, sides, seen}
use Rattle.orc_frames.proofs.Around.{by, by-self, is_row}
use Rattle.orc_frames.proofs.Equal.{same_row}
use Rattle.orc_frames.proofs.Growth.{path-none}
use Rattle.orc_frames.specs.declared.action.Action.TheVariants as what
use Rattle.orc_ledger_spec.specs.Records.{Records, Lawful, context, its_env, its_path, token_row, call_row, group_side, is_over, counts}
use Rattle.orc_ledger_spec.specs.Doing.{term_of, what_of}
use Rattle.orc_ledger_spec.specs.Parts.{IsLeftOf, IsOver, call_of, rows_left}
use Rattle.orc_ledger_spec.specs.declared.parts.Yield.{Yield}
use Rattle.orc_ledger_spec.proofs.Lists.{rows-weigh}
use Rattle.orc_ledger_spec.proofs.Offers.{its_meaning}
use Rattle.orc_ledger_spec.proofs.Sound.{given}

nothing : {X : Type 0} (xs : List X) → weight (λ (x : X). 1) xs ≡ 0 → xs ≡ []
nothing [] h = refl
nothing (x ∷ xs) h = absurd (omega (arith, h))

empty : {X : Type 0} (xs : List X) → length xs ≡ 0 → xs ≡ []
empty [] h = refl
empty (x ∷ xs) h = absurd (omega (arith, h))

-- entries weigh one at most
few : (es : List Entry) → weight counts es ≤ length es
few [] = omega arith
few (e ∷ es) = omega (arith, few es, one e)
  where
    one : (e : Entry) → counts e ≤ 1
    one (End s) = omega arith
    one (Fork s a b) = omega arith
    one (Seq s a) = omega arith
    one (Other s a) = omega arith
    one (Def s a) = omega arith
    one (entry.Void s) = omega arith
    one (Open s c a b) = omega arith
    one (Send s a v) = omega arith
    one (Call s k m args) = omega arith
    one (Return k a v) = omega arith
    one (ReturnHalt k) = omega arith
    one (Bind s c v) = omega arith
    one (Lost c) = omega arith
    one (Right s a) = omega arith
    one (Publish s v) = omega arith
    one (Tick t) = omega arith
    one (Cancel k) = omega arith

-- a list of one element, which weighs what a row does
one_row : (rs : List Row) (r : Row) → ((w : Row → ℕ) → weight w rs ≡ w r) → rs ≡ r ∷ []
one_row [] r h = absurd (omega (arith, h (λ q. 1)))
one_row (q ∷ rs) r h =
    let none : rs ≡ [] = nothing rs (omega (arith, h (λ q. 1))) in
    let same : q ≡ r = row_is (same_row q r) (omega (arith, h (is_row r), ap (weight (is_row r)) none, by-self (same_row r r) refl)) in
    λ i. same i ∷ none i
  where
    row_is : (d : Dec (q ≡ r)) → 1 ≤ by d → q ≡ r
    row_is (yes e) h = e
    row_is (no n) h = absurd (omega (arith, h))

some_there : {X : Type 0} (x : X) (xs : List X) → IsIn x xs → 1 ≤ length xs
some_there x [] i = elim i [ ]
some_there x (z ∷ zs) i = omega arith

one_only : {X : Type 0} (x : X) (xs : List X) → length xs ≡ 1 → IsIn x xs → xs ≡ x ∷ []
one_only x [] h i = elim i [ ]
one_only x (y ∷ xs) h (inl e) = λ j. sym e j ∷ empty xs (omega (arith, h)) j
one_only x (y ∷ xs) h (inr i) = absurd (omega (arith, h, some_there x xs i))

module _ (own l : Listing) (of sites : List Site) (s : Records) (L : Lawful own of s) (e : ℕ) (args : List Value) (table : of ≡ sites) (defs : definitions own ≡ definitions l) (form : source own ≡ call_of e args) (calls : length s.calls ≡ 0) (groups : length s.groups ≡ 0) (two : 2 ≤ s.next_mark) (local : AreLocal sites s.journal) (es : List Entry) (is : es ≡ s.journal) where
  over_with : (left : Option Yield) → marks whole L.place.marked ≡ rows_left left → IsLeftOf s.journal s.next_mark left → IsOver l sites (record { definition = e; args = args; entries = es; mark = s.next_mark; calls = s.made; cells = length s.cells - 1; left = left })
  over_with left rows yields =
      record {
        place = L.place;
        leads = subst (λ fs. Journal (context l sites) (begin (call_of e args)) fs L.place) (sym is) (subst (λ z. Journal (context l sites) (begin z) s.journal L.place) form (subst (λ (x : Context). Journal x (begin (source own)) s.journal L.place) (λ i. record { definitions = defs i; sites = table i; cancels = true }) L.leads));
        local = subst (AreLocal sites) (sym is) local;
        rows = rows;
        sides_left = nothing (sides whole L.place.marked) (L.spells.sides (λ v. 1) ∙ ap (λ gs. weight (λ (v : Numbered). 1) (map (group_side (code own) s) (filter (λ g. not (is_over (code own) s g.side)) gs))) (empty s.groups groups));
        yields = subst (λ fs. IsLeftOf fs s.next_mark left) (sym is) yields;
        free = L.spells.none_due;
        mark = L.spells.mark;
        calls = L.spells.made;
        cells = omega (arith, L.spells.cells);
        begun = two;
        counted = omega (arith, L.counted, L.entries, few s.journal, ap length is);
      }

  -- nothing is left of the run
  pub over : length s.tokens ≡ 0 → IsOver l sites (record { definition = e; args = args; entries = es; mark = s.next_mark; calls = s.made; cells = length s.cells - 1; left = None })
  over tokens = over_with None (nothing (marks whole L.place.marked) (omega (arith, rows-weigh own of s L (λ r. 1), weight-length s.tokens, weight-length s.calls, tokens, calls))) tt

  -- all that is left is a token that publishes a value
  pub yielded : (t : Token) → IsIn t s.tokens → length s.tokens ≡ 1 → t.step ≡ 0 → 2 ≤ t.serial → (v : Value) → what_of (code own) (definitions own) s t ≡ what.Publish v → AreSilent s.journal
      → IsOver l sites (record { definition = e; args = args; entries = es; mark = s.next_mark; calls = s.made; cells = length s.cells - 1; left = Some (record { mark = t.serial; value = v }) })
  yielded t i one step later v word silent =
      let path : its_path (code own) s t.step ≡ whole = ap (its_path (code own) s) step ∙ ap (seen (has_published s.steps)) (path-none (code own) (its_env (code own) s) s.steps) in
      let means : Allows (definitions own) (what.Publish v) (its_path (code own) s t.step) (term_of (code own) s t) = subst (λ z. Allows (definitions own) z (its_path (code own) s t.step) (term_of (code own) s t)) word (its_meaning own of s L t i) in
      let row : token_row (code own) s t ≡ stands t.serial (param (Is v)) whole = λ j. stands t.serial (means.1 j) (path j) in
      over_with (Some (record { mark = t.serial; value = v }))
      (one_row (marks whole L.place.marked) (stands t.serial (param (Is v)) whole) (λ w. omega (
        arith,
        rows-weigh own of s L w,
        ap (weight (λ (u : Token). w (token_row (code own) s u))) (one_only t s.tokens one i),
        ap (weight (λ c. w (call_row (code own) s c))) (empty s.calls calls),
        ap w row,
      )))
      (silent, later, given own of s L t i)

-- ---- a call with values

or_none : Option (List Value) → List Value
or_none (Some vs) = vs
or_none None = []

values_are : (ps : List Param) (vs : List Value) → values_of ps ≡ Some vs → ps ≡ map Is vs
unfolding or_none
values_are [] vs h = ap (λ o. map Is (or_none o)) h
values_are (Is v ∷ ps) vs h =
    let d = rest_some v ps vs h in
    ap (λ z. Is v ∷ z) (values_are ps d.0 d.1) ∙ ap (λ o. map Is (or_none o)) (sym (values-more (Is v) ps v d.0 refl d.1) ∙ h)
values_are (Name x ∷ ps) vs h = cc h
values_are (Cell c ∷ ps) vs h = cc h
values_are (Void ∷ ps) vs h = cc h

pub called : (env : Env) (t : Term) (e : ℕ) (ops : List Operand) (vs : List Value) → t ≡ call e (map param_of ops) → values_of (closed env ops) ≡ Some vs → close env t ≡ call_of e vs
called env t e ops vs form values = ap (close env) form ∙ close-call env e (map param_of ops) ∙ ap (call e) (values_are (closed env ops) vs values)
