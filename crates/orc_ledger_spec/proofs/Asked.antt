-- A call of a site: which tokens make one, with which values, and what a ledger keeps then.
use Rattle.std.proofs.Common.{◌≡◌, ◌<◌, ◌+◌, ℕ, List, [], ◌∷◌, length, map, Bool, true, false, Option, Some, None, refl, sym, ap, ◌∙◌, subst, arith}
use Rattle.std.specs.Prelude.{slice_get}
use Rattle.orc_rules.specs.declared.value.Value.{Value}
use Rattle.orc_rules.specs.declared.param.Operand.{Operand}
use Rattle.orc_rules.specs.declared.param.Param.{Param}
use Rattle.orc_rules.specs.declared.param.Param.TheVariants as is
use Rattle.orc_rules.specs.Term.{Term, Definition, site, values_of}
use Rattle.orc_rules.specs.Idle.{has_void}
use Rattle.orc_rules.specs.Nodes.{Listing, code, source, param_of, unfold_node}
use Rattle.orc_rules.specs.Journal.{Place, begin}
use Rattle.orc_rules.specs.Sites.{Site, find, is_scripted}
use Rattle.orc_rules.specs.Timed.{IsIn, nth_of}
use Rattle.orc_rules.specs.declared.value.Found.{Found}
use Rattle.orc_rules.specs.declared.entry.Entry.TheVariants as entry
use Rattle.orc_calls.specs.Counting.{CountsCall, NextFound, NextNth}
use Rattle.orc_env.specs.Scopes.{Env, close, close_param}
use Rattle.orc_env.proofs.Scopes.{close-site}
use Rattle.orc_graph.specs.declared.node.Node.{Node}
use Rattle.orc_graph.specs.declared.node.Node.TheVariants as node
use Rattle.orc_graph.specs.Graph.{term_node}
use Rattle.orc_frames.specs.Spelling.{Path, whole, feeding, aiding, trying}
use Rattle.orc_ledger_spec.specs.Calls.{Exchanges}
use Rattle.orc_ledger_spec.specs.Kept.{Kept}
use Rattle.orc_ledger_spec.specs.Records.{Records, Lawful, context}
use Rattle.orc_ledger_spec.specs.Requests.{IsNextCall}
use Rattle.orc_tables.specs.Steps.{group_at}
use Rattle.orc_indexes.specs.Same.{is_this}
use Rattle.orc_frames.specs.Doing.{IsCall, closed, taken, of_param, what_site, what_def, what_by}
use Rattle.orc_ledger_spec.specs.Doing.{term_of}
use Rattle.orc_frames.specs.declared.action.Action.TheVariants.{Call}
use Rattle.orc_tables.specs.declared.records.Token.{Token}
use Rattle.orc_tables.specs.declared.records.Call.{Call as Asked}
use Rattle.orc_ledger_spec.proofs.Asking.{call-lawful}
use Rattle.orc_ledger_spec.proofs.Calling.{calls-told}
use Rattle.orc_ledger_spec.proofs.Grouped.{called-grouped}
use Rattle.orc_ledger_spec.proofs.Keeping.{counted-call, journal_one}
use Rattle.orc_ledger_spec.proofs.Brought.{exchanged-brought}
use Rattle.orc_ledger_spec.proofs.Sizes.{exchanged-members}
use Rattle.orc_frames.proofs.Forms.{at-stop, at-param, at-call, at-par, at-seq, at-prune, at-other}

-- ---- no term but a call of a site with values has the word `Call`
pub taken-not : (v : Value) (p : Path) → taken v p ≡ Call → ⊥
taken-not v whole h = cc h
taken-not v (feeding x g p) h = cc h
taken-not v (aiding c p) h = cc h
taken-not v (trying n p) h = taken-not v p h

site-values : (ps : List Param) → what_site ps (has_void ps) (values_of ps) ≡ Call → (vs : List Value) × (values_of ps ≡ Some vs)
site-values ps = go (has_void ps) (values_of ps) refl
  where
    go : (b : Bool) (o : Option (List Value)) → values_of ps ≡ o → what_site ps b o ≡ Call → (vs : List Value) × (values_of ps ≡ Some vs)
    go true o e h = cc h
    go false (Some vs) e h = (vs, e)
    go false None e h = cc h

module _ (defs : List Definition) (p : Path) where
  param-not : (q : Param) → of_param p q ≡ Call → ⊥
  param-not (is.Is v) h = taken-not v p h
  param-not (is.Name x) h = cc h
  param-not (is.Cell c) h = cc h
  param-not is.Void h = cc h

  def-not : (o : Option Definition) → what_def o ≡ Call → ⊥
  def-not (Some d) h = cc h
  def-not None h = cc h

  module _ (env : Env) where
    pub site-only : (code : ℕ → Term) (lists : List (List Operand)) (n : Node) (t : Term) → t ≡ unfold_node code lists (term_node n) → what_by defs p (close env t) ≡ Call → ((m l : ℕ) → n ≡ node.Site m l → ⊥) → ⊥
    site-only code lists node.Stop t form h off = cc (at-stop defs p env t form, h)
    site-only code lists (node.Name x) t form h off = param-not (close_param env (is.Name x)) (at-param defs p env t (is.Name x) form ∙ h)
    site-only code lists (node.Is v) t form h off = param-not (close_param env (is.Is v)) (at-param defs p env t (is.Is v) form ∙ h)
    site-only code lists (node.Site m l) t form h off = off m l refl
    site-only code lists (node.Call e l) t form h off = def-not (slice_get defs e) (at-call defs p env t e _ form ∙ h)
    site-only code lists (node.Par f g) t form h off = cc (at-par defs p env t _ _ form, h)
    site-only code lists (node.Seq f x g) t form h off = cc (at-seq defs p env t _ x _ form, h)
    site-only code lists (node.Prune f x g) t form h off = cc (at-prune defs p env t _ x _ form, h)
    site-only code lists (node.Other f g) t form h off = cc (at-other defs p env t _ _ form, h)

    pub site-called : (t : Term) (m : ℕ) (ops : List Operand) → t ≡ site m (map param_of ops) → what_by defs p (close env t) ≡ Call → (vs : List Value) × (values_of (closed env ops) ≡ Some vs)
    site-called t m ops form h = site-values (closed env ops) (sym (ap (λ u. what_by defs p (close env u)) form ∙ ap (what_by defs p) (close-site env m (map param_of ops))) ∙ h)

-- ---- the call that is made next, by where the records say that the journal has led
module _ (l : Listing) (sites : List Site) (s : Records) (L : Lawful l sites s) (t : Token) (m : ℕ) (args : List Value) (c : Asked) (next : IsNextCall l sites s t m args c) where
  there : next.place ≡ L.place
  there = journal_one (context l sites) (source l) [] (begin (source l)) next.place L.place s.journal refl next.at L.leads

  pub word-there : c.found ≡ find sites m args (nth_of m args L.place.calls)
  word-there = next.found ∙ ap (λ (p : Place). find sites m args (nth_of m args p.calls)) there

  pub which-there : is_scripted sites m ≡ true → c.nth ≡ nth_of m args L.place.calls
  which-there scripted = next.nth scripted ∙ ap (λ (p : Place). nth_of m args p.calls) there

-- ---- a call that is made
module _ (l : Listing) (sites : List Site) (counts : List (List ℕ × ℕ)) (sizes : List ℕ) (s : Records) (K : Kept l sites counts sizes s) (table : List Site) (its : table ≡ sites) (m : ℕ) (args : List Value) where
  -- the table's word is that of the calls that the journal has
  found-there : (found : Found) → NextFound table counts m args found → found ≡ find sites m args (nth_of m args K.lawful.place.calls)
  found-there found next = subst (λ z. NextFound z counts m args found) its next K.lawful.place.calls K.counted

  nth-there : (n : ℕ) → NextNth table counts m args n → is_scripted sites m ≡ true → n ≡ nth_of m args K.lawful.place.calls
  nth-there n next = subst (λ z. NextNth z counts m args n) its next K.lawful.place.calls K.counted

  pub next-there : (t : Token) (c : Asked) → c.number ≡ s.made + 1 → c.step ≡ t.step → c.made_at ≡ s.now → c.row ≡ length s.journal → NextFound table counts m args c.found → NextNth table counts m args c.nth → IsNextCall l sites s t m args c
  next-there t c number step at row word which = record { number = number; step = step; made_at = at; place = K.lawful.place; at = K.lawful.leads; found = found-there c.found word; nth = nth-there c.nth which; row = row }

  pub called-kept : (t : Token) → IsIn t s.tokens → IsCall m args (term_of (code l) s t) → s.entries < s.limit → (c : Asked) → c.number ≡ s.made + 1 → c.found ≡ find sites m args (nth_of m args K.lawful.place.calls) → (is_scripted sites m ≡ true → c.nth ≡ nth_of m args K.lawful.place.calls)
      → (s' : Records) → c.step ≡ t.step → c.made_at ≡ s.now → c.row ≡ length s.journal → Exchanges s s' (t ∷ []) [] [] (c ∷ []) 1 (entry.Call t.serial c.number m args) → (counts' : List (List ℕ × ℕ)) → CountsCall table m args counts counts' → Kept l sites counts' sizes s'
  called-kept t i (ps, values, form) room c number found which s' step at row T counts' counted =
      let L' = call-lawful l sites s K.lawful t i m ps args form values room c number step row s' T in
      record {
        lawful = L';
        grouped = called-grouped l sites s K.lawful K.grouped t i c step s' (entry.Call t.serial c.number m args) T;
        told = calls-told l sites s s' K.lawful L' K.told t m args c number found which at T;
        counted = counted-call l sites s s' K.lawful L' t.serial c.number m args T.journal counts counts' (subst (λ z. CountsCall z m args counts counts') its counted) K.counted;
        -- it is in the token's group
        sized = λ j. omega (arith, exchanged-members s s' (t ∷ []) [] [] (c ∷ []) 1 (entry.Call t.serial c.number m args) T j, K.sized j, ap (λ z. is_this j (group_at s.steps z)) step);
        brought = exchanged-brought s s' K.brought (t ∷ []) [] [] (c ∷ []) 1 (entry.Call t.serial c.number m args) T (omega arith);
      }
