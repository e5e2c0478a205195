-- A publication, and a `>x>` that takes one, keep the book lawful.
use Rattle.std.proofs.Common.{◌≡◌, ◌≤◌, ◌<◌, ℕ, suc, ◌+◌, List, [], ◌∷◌, refl, sym, ap, ◌∙◌, subst, arith, length, false, inr}
use Rattle.std.specs.Prelude.{nat_lt}
use Rattle.orc_rules.specs.declared.value.Value.{Value}
use Rattle.orc_rules.specs.declared.entry.Entry.TheVariants.{Send, Publish}
use Rattle.orc_rules.specs.declared.param.Param.TheVariants as is
use Rattle.orc_rules.specs.Term.{Term, param, put}
use Rattle.orc_rules.specs.Step.{publishes, silent}
use Rattle.orc_rules.specs.Nodes.{Listing, code, source}
use Rattle.orc_rules.specs.Sites.{Site}
use Rattle.orc_rules.specs.Marked.{Marked, ended, token, Emits, emits}
use Rattle.orc_rules.specs.Timed.{IsIn}
use Rattle.orc_rules.specs.Journal.{Place, Enters, Journal, begin}
use Rattle.orc_rules.specs.Numbered.{mark}
use Rattle.orc_env.specs.declared.names.Bound.TheVariants.{Is}
use Rattle.orc_env.specs.declared.names.Scope.{Scope}
use Rattle.orc_env.specs.Scopes.{close, without, env_of}
use Rattle.orc_env.proofs.Scopes.{env-new}
use Rattle.orc_env.proofs.Closing.{close-more}
use Rattle.orc_indexes.specs.Same.{weight}
use Rattle.orc_frames.specs.Spelling.{Path, whole, feeding, Row, stands, Numbered, marks, sides}
use Rattle.orc_ledger_spec.specs.Records.{Records, Lawful, context, its_env, its_path, rows_of, sides_of, token_row, token_out, counts}
use Rattle.orc_frames.specs.Paths.{standing}
use Rattle.orc_ledger_spec.specs.Calls.{Crosses}
use Rattle.orc_tables.specs.declared.records.Standing.TheVariants.{At}
use Rattle.orc_tables.specs.declared.records.Token.{Token}
use Rattle.orc_ledger_spec.proofs.Written.{written-kept}
use Rattle.orc_indexes.proofs.Weight.{weight-append}
use Rattle.orc_frames.proofs.Around.{Around, plug, marks-plug, sides-plug}
use Rattle.orc_frames.specs.Taking.{taker, crossed}
use Rattle.orc_ledger_spec.proofs.Lists.{token_found, numbered}
use Rattle.orc_ledger_spec.proofs.Binding.{journal_more}
use Rattle.orc_frames.proofs.Growth.{both_false}
use Rattle.orc_ledger_spec.proofs.Leaves.{none_one, later_one, got_one, out_of}
use Rattle.orc_frames.proofs.Crossing.{tried, tried-least, tried-plug, Distinct, cross_rows, cross_all, leave_all, published_by, sent_by}
use Rattle.orc_ledger_spec.proofs.Publishing.{more_scopes, same_steps, path_crossed, rows_crossed, sides_crossed, sound_crossed}

module _ (l : Listing) (sites : List Site) (s : Records) (L : Lawful l sites s) (t : Token) (i : IsIn t s.tokens) (v : Value) (form : standing (code l) (its_env (code l) s) t.standing ≡ param (is.Is v)) where
  abbrev cd : ℕ → Term
  cd = code l

  abbrev here : Path
  here = its_path cd s t.step

  abbrev round : Around
  round = (token_found l sites s L t i).around

  abbrev its : Marked
  its = token t.serial (param (is.Is v))

  its_is : plug round its ≡ L.place.marked
  its_is = ap (λ z. plug round (token t.serial z)) (sym form) ∙ (token_found l sites s L t i).is

  distinct : Distinct (plug round ended)
  distinct n = omega (arith, tried-plug n round ended, tried-plug n round its, ap (tried n) its_is, tried-least n L.place.marked, (numbered l sites s L).single (mark n))

  -- what the rest weighs
  rest_rows : (w : Row → ℕ) → weight w (marks whole (plug round ended)) + w (token_row cd s t) ≡ weight w (rows_of cd s)
  rest_rows w =
      omega (
        arith,
        marks-plug w round ended,
        marks-plug w round its,
        ap (λ m. weight w (marks whole m)) its_is,
        L.spells.rows w,
        ap (λ p. w (stands t.serial (param (is.Is v)) p)) (token_found l sites s L t i).path,
        ap (λ z. w (stands t.serial z here)) form,
      )

  rest_sides : (u : Numbered → ℕ) → weight u (sides whole (plug round ended)) ≡ weight u (sides_of cd s)
  rest_sides u = omega (arith, sides-plug u round ended, sides-plug u round its, ap (λ m. weight u (sides whole m)) its_is, L.spells.sides u)

  pub publish-lawful : taker here ≡ whole → s.entries < s.limit → (s' : Records) → Crosses s s' t [] [] (crossed here) (Publish t.serial v) → Lawful l sites s'
  publish-lawful takes room s' T =
      let f = token_found l sites s L t i in
      let ns = crossed here in
      let o = published_by v t.serial L.place.mark round its ended (ap taker f.path ∙ takes) distinct emits in
      let q : Place = record L.place { marked = o.term } in
      let enters : Enters (context l sites) L.place (Publish t.serial v) q = (subst (λ m. Emits t.serial L.place.mark v m (publishes v) o.term) its_is o.does, record { to_cancel = L.spells.none_due; same = refl }) in
      record {
        place = q;
        leads = subst (λ es. Journal (context l sites) (begin (source l)) es q) (sym T.journal) (journal_more (context l sites) (begin (source l)) L.place q s.journal (Publish t.serial v ∷ []) L.leads (q, (inr L.spells.none_due, enters), refl));
        spells = record {
          rows = λ w. omega (arith, o.rows w, ap (λ p. weight (λ r. w (cross_rows (crossed p) r)) (marks whole (plug round ended))) f.path, rest_rows (λ r. w (cross_rows ns r)), rows_crossed l sites s L t i s' [] [] ns (Publish t.serial v) T w);
          sides = λ u. o.sides u ∙ ap (λ p. weight (leave_all (crossed p) u) (sides whole (plug round ended))) f.path ∙ rest_sides (leave_all ns u) ∙ sym (sides_crossed l sites s L t i s' [] [] ns (Publish t.serial v) T u);
          mark = omega (arith, L.spells.mark, T.mark);
          cells = ap length T.cells ∙ L.spells.cells;
          now = L.spells.now ∙ sym T.now;
          made = L.spells.made ∙ sym T.made;
          none_due = L.spells.none_due;
        };
        sound = sound_crossed l sites s L t i s' [] [] ns (Publish t.serial v) T refl (λ k p h. cc h) (λ m h. absurd (omega (arith, h)));
        entries = omega (arith, L.entries, T.entries, ap (weight counts) T.journal, weight-append counts s.journal (Publish t.serial v ∷ []));
        within = omega (arith, T.entries, T.limit, room);
        small = omega (arith, T.limit, L.small);
        counted = omega (arith, L.counted, T.mark, T.entries);
        written = written-kept s s' (Publish t.serial v ∷ []) T.journal (λ w. omega (arith, ap (weight w) T.calls)) L.written;
      }

  pub send-lawful : (x g scope outer : ℕ) → scope ≤ length s.scopes → outer ≤ length s.steps → taker here ≡ feeding x (close (without x (its_env cd s scope)) (cd g)) (its_path cd s outer) → s.entries < s.limit
      → (s' : Records) → Crosses s s' t (record { serial = s.next_mark; standing = At g (length s.scopes + 1); step = outer } ∷ []) (record { name = x; bound = Is v; outer = scope } ∷ []) (crossed here) (Send t.serial s.next_mark v) → Lawful l sites s'
  send-lawful x g scope outer in_scopes in_steps takes room s' T =
      let f = token_found l sites s L t i in
      let ns = crossed here in
      let n = s.next_mark in
      let copy : Token = record { serial = n; standing = At g (length s.scopes + 1); step = outer } in
      let scope' : Scope = record { name = x; bound = Is v; outer = scope } in
      let births : List Token = copy ∷ [] in
      let ss : List Scope = scope' ∷ [] in
      let E = Send t.serial n v in
      let G = close (without x (its_env cd s scope)) (cd g) in
      let p = its_path cd s outer in
      let o = sent_by v t.serial n round its ended x G p (ap taker f.path ∙ takes) distinct emits in
      let q : Place = record L.place { marked = o.term; mark = suc n } in
      let enters : Enters (context l sites) L.place E q = (sym L.spells.mark, subst (λ m. Emits t.serial n v m silent o.term) its_is o.does, record { to_cancel = L.spells.none_due; same = refl }) in
      let env : its_env cd s' (length s.scopes + 1) ≡ (x, Is v) ∷ its_env cd s scope =
      ap (λ z. env_of s'.cells z (length s.scopes + 1)) T.scopes
      ∙ env-new s'.cells s.scopes scope' (length s.scopes + 1) refl
      ∙ ap (λ z. (x, Is v) ∷ env_of z s.scopes scope) T.cells in
      let path : its_path cd s' outer ≡ p = path_crossed l sites s L t i s' births ss ns E T outer ∙ ap (λ z. cross_all (crossed z) p) (sym f.path) ∙ o.apart in
      let row : token_row cd s' copy ≡ stands n (put (is.Is v) x G) p = λ k. stands n ((ap (λ z. close z (cd g)) env ∙ sym (close-more (its_env cd s scope) x (Is v) (cd g))) k) (path k) in
      let out : token_out (length s'.scopes) (length s'.steps) copy ≡ false = both_false (nat_lt (length s'.scopes) (length s.scopes + 1)) (nat_lt (length s'.steps) outer) (out_of (length s'.scopes) (length s.scopes + 1) (omega (arith, more_scopes l sites s L t i s' births ss ns E T))) (out_of (length s'.steps) outer (omega (arith, in_steps, same_steps l sites s L t i s' births ss ns E T))) in
      record {
        place = q;
        leads = subst (λ es. Journal (context l sites) (begin (source l)) es q) (sym T.journal) (journal_more (context l sites) (begin (source l)) L.place q s.journal (E ∷ []) L.leads (q, (inr L.spells.none_due, enters), refl));
        spells = record {
          rows = λ w. omega (arith, o.rows w, ap (λ z. weight (λ r. w (cross_rows (crossed z) r)) (marks whole (plug round ended))) f.path, rest_rows (λ r. w (cross_rows ns r)), rows_crossed l sites s L t i s' births ss ns E T w, ap w row);
          sides = λ u. o.sides u ∙ ap (λ z. weight (leave_all (crossed z) u) (sides whole (plug round ended))) f.path ∙ rest_sides (leave_all ns u) ∙ sym (sides_crossed l sites s L t i s' births ss ns E T u);
          mark = omega (arith, T.mark);
          cells = ap length T.cells ∙ L.spells.cells;
          now = L.spells.now ∙ sym T.now;
          made = L.spells.made ∙ sym T.made;
          none_due = L.spells.none_due;
        };
        sound = sound_crossed l sites s L t i s' births ss ns E T (none_one (token_out (length s'.scopes) (length s'.steps)) copy out) (λ k z h. let b = got_one k scope' z h in omega (arith, in_scopes, ap (λ (y : Scope). y.outer) b.1)) (λ m h. later_one m n h);
        entries = omega (arith, L.entries, T.entries, ap (weight counts) T.journal, weight-append counts s.journal (E ∷ []));
        within = omega (arith, T.entries, T.limit, room);
        small = omega (arith, T.limit, L.small);
        counted = omega (arith, L.counted, T.mark, T.entries);
        written = written-kept s s' (E ∷ []) T.journal (λ w. omega (arith, ap (weight w) T.calls)) L.written;
      }
