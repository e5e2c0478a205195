-- Each cause of work is an entry that the place allows: a token's, a lost cell or a right side where a group is empty.
use Rattle.std.proofs.Common.{◌≡◌, ℕ, suc, List, [], refl, sym, ap, ◌∙◌, subst, arith, true, false, cond, eq-eqb, Some}
use Rattle.orc_rules.specs.declared.value.Value.{Value}
use Rattle.orc_rules.specs.declared.param.Param.TheVariants.{Is}
use Rattle.orc_rules.specs.declared.entry.Entry.{Entry}
use Rattle.orc_rules.specs.declared.entry.Entry.TheVariants as entry
use Rattle.orc_rules.specs.declared.entry.RuleFault.{RuleFault}
use Rattle.orc_rules.specs.declared.entry.RuleFault.TheVariants as reason
use Rattle.orc_rules.specs.Term.{Term, param, Halted}
use Rattle.orc_rules.specs.Nodes.{Listing, code, definitions}
use Rattle.orc_rules.specs.Sites.{Site}
use Rattle.orc_rules.specs.Marked.{Marked, ended, token, in_opened, in_other, erase, Replaces, here, emits}
use Rattle.orc_rules.specs.Timed.{IsIn}
use Rattle.orc_rules.specs.Journal.{Place, next, Leads}
use Rattle.orc_rules.specs.Refusal.{Stands, HasToken, HasCell, Fits, IsThere, Meets}
use Rattle.orc_rules.proofs.Refusal.{meets_and_leads}
use Rattle.orc_env.specs.Scopes.{close}
use Rattle.orc_indexes.specs.Same.{weight}
use Rattle.orc_frames.specs.Spelling.{Path, whole, feeding, aiding, trying, marks, sides, inside, within}
use Rattle.orc_ledger_spec.specs.Records.{Records, Lawful, context, its_env, its_path, side_at, is_over}
use Rattle.orc_frames.specs.Paths.{has_published}
use Rattle.orc_frames.specs.Taking.{taker}
use Rattle.orc_frames.specs.Doing.{taken, is_wait, names, Asks, Allows}
use Rattle.orc_ledger_spec.specs.Doing.{term_of, what_of}
use Rattle.orc_ledger_spec.specs.Next.{Numbers, AreGrouped, members}
use Rattle.orc_frames.specs.declared.action.Action.{Action}
use Rattle.orc_frames.specs.declared.action.Action.TheVariants.{Halt, Fork, Seq, Prune, Other, Def, Void, Publish, Send, Bind, Call, Wait}
use Rattle.orc_tables.specs.declared.records.Token.{Token}
use Rattle.orc_tables.specs.declared.records.Side.TheVariants.{Right, Left}
use Rattle.orc_tables.specs.declared.records.Group.{Group}
use Rattle.orc_indexes.proofs.Weight.{weight-append}
use Rattle.orc_frames.proofs.Around.{plug, path_of, cells_of, replaced, Opened, marks-plug, sides-plug}
use Rattle.orc_ledger_spec.proofs.Lists.{token_found, side_found, empty-halted}
use Rattle.orc_frames.proofs.Kept as kept
use Rattle.orc_ledger_spec.proofs.Binding as aid
use Rattle.orc_ledger_spec.proofs.Resuming as try
use Rattle.orc_ledger_spec.specs.Laws.{Offer}
use Rattle.orc_ledger_spec.proofs.Offers.{its_meaning, fits_names, stands_so}
use Rattle.orc_ledger_spec.proofs.Emptied.{right-empty, left-empty}

module _ (l : Listing) (sites : List Site) (s : Records) (L : Lawful l sites s) where
  -- an entry that meets its conditions leads somewhere
  pub leads_by : (e : Entry) → Meets (context l sites) L.place e reason.Cancel → Meets (context l sites) L.place e reason.Mark → Meets (context l sites) L.place e reason.Form → Meets (context l sites) L.place e reason.Number
      → Meets (context l sites) L.place e reason.Answer → Meets (context l sites) L.place e reason.Time → Meets (context l sites) L.place e reason.Halted → (q : Place) × Leads (context l sites) L.place e q
  leads_by e c m f n a t h = (meets_and_leads (context l sites) L.place e).0 all
    where
      all : (r : RuleFault) → Meets (context l sites) L.place e r
      all reason.Cancel = c
      all reason.Mark = m
      all reason.Form = f
      all reason.Number = n
      all reason.Answer = a
      all reason.Time = t
      all reason.Halted = h
      all reason.Deep = tt
      all reason.Memory = tt

  -- ---- a group without members whose side is open
  module _ (g : Group) (i : IsIn g s.groups) where
    -- the right side of c has halted
    pub right-over : (c : ℕ) → g.side ≡ Right c → aid.IsEmpty l sites s L c → (f h : Marked) × Stands (in_opened f c h) L.place.marked × Halted (erase h)
    right-over c side E =
        let o0 = side_found l sites s L g i (ap (is_over (code l) s) side) in
        let o = subst (λ k. Opened (side_at (code l) s (its_path (code l) s g.outer) k) L.place.marked) side o0 in
        let k = o.around in
        let here_is : plug k (in_opened o.left c o.right) ≡ L.place.marked = o.is in
        let in_side : inside c (aiding c (path_of k)) ≡ true = ap (λ b. cond b true (inside c (path_of k))) (eq-eqb c c refl) in
        let none_rows : weight (λ r. 1) (marks (aiding c (path_of k)) o.right) ≡ 0 = omega (arith, aid.no-rows l sites s L c E, ap (λ m. weight (aid.row_in c) (marks whole m)) here_is, marks-plug (aid.row_in c) k (in_opened o.left c o.right), weight-append (aid.row_in c) (marks (path_of k) o.left) (marks (aiding c (path_of k)) o.right), aid.rows-in c (aiding c (path_of k)) o.right in_side) in
        let none_sides : weight (λ r. 1) (sides (aiding c (path_of k)) o.right) ≡ 0 = omega (arith, aid.no-sides l sites s L c E, ap (λ m. weight (aid.side_in c) (sides whole m)) here_is, sides-plug (aid.side_in c) k (in_opened o.left c o.right), weight-append (aid.side_in c) (sides (path_of k) o.left) (sides (aiding c (path_of k)) o.right), aid.sides-in c (aiding c (path_of k)) o.right in_side) in
        (o.left, o.right, (cells_of k [], subst (λ m. Replaces (in_opened o.left c o.right) (in_opened o.left c o.right) m (cells_of k []) m) here_is (replaced k here)), empty-halted (aiding c (path_of k)) o.right none_rows none_sides)

    -- the left side of otherwise n has halted
    pub left-over : (n f scope : ℕ) → g.side ≡ Left n f scope → has_published s.steps n ≡ false → try.IsEmpty l sites s L n → (m : Marked) × (h : Term) × Stands (in_other n m h) L.place.marked × Halted (erase m)
    left-over n f scope side live E =
        let G = close (its_env (code l) s scope) (code l f) in
        let over : is_over (code l) s g.side ≡ false = ap (is_over (code l) s) side ∙ live in
        let o = subst (λ k. Opened (side_at (code l) s (its_path (code l) s g.outer) k) L.place.marked) side (side_found l sites s L g i over) in
        let k = o.around in
        let was : plug k (in_other n o.left G) ≡ L.place.marked = o.is in
        let in_side : within n (trying n (path_of k)) ≡ true = ap (λ b. cond b true (within n (path_of k))) (eq-eqb n n refl) in
        let none_rows : weight (λ r. 1) (marks (trying n (path_of k)) o.left) ≡ 0 = omega (arith, try.no-rows l sites s L n E, ap (λ m. weight (try.row_in n) (marks whole m)) was, marks-plug (try.row_in n) k (in_other n o.left G), try.rows-in n (trying n (path_of k)) o.left in_side) in
        let none_sides : weight (λ r. 1) (sides (trying n (path_of k)) o.left) ≡ 0 = omega (arith, try.no-sides l sites s L n E, ap (λ m. weight (try.side_in n) (sides whole m)) was, sides-plug (try.side_in n) k (in_other n o.left G), try.sides-in n (trying n (path_of k)) o.left in_side) in
        (o.left, G, (cells_of k [], subst (λ m. Replaces (in_other n o.left G) (in_other n o.left G) m (cells_of k []) m) was (replaced k here)), empty-halted (trying n (path_of k)) o.left none_rows none_sides)

    module _ (n : Numbers) (G : AreGrouped n s) (empty : members n s (n.number g) ≡ 0) where
      -- so the cell can be lost
      pub lost-leads : (c : ℕ) → g.side ≡ Right c → (q : Place) × Leads (context l sites) L.place (entry.Lost c) q
      lost-leads c side =
          let o = right-over c side (right-empty l sites s L n G g i empty c side) in
          leads_by (entry.Lost c) L.spells.none_due (o.0, o.1, o.2) tt tt tt tt (o.0, o.1, o.2, o.3)

      -- or the right side of the otherwise starts
      pub right-leads : (m f scope : ℕ) → g.side ≡ Left m f scope → has_published s.steps m ≡ false → (q : Place) × Leads (context l sites) L.place (entry.Right m s.next_mark) q
      right-leads m f scope side live =
          let o = left-over m f scope side live (left-empty l sites s L n G g i empty m f scope side live) in
          leads_by (entry.Right m s.next_mark) L.spells.none_due (o.0, o.1, o.2) tt (sym L.spells.mark) tt tt (o.0, o.1, o.2, o.3)

  -- ---- a token that moves
  taken_aid : (v w : Value) (c : ℕ) (p : Path) → taken v p ≡ Bind c w → (q : Path) × (taker p ≡ aiding c q)
  taken_aid v w c whole e = cc e
  taken_aid v w c (feeding x g p) e = cc e
  taken_aid v w c (aiding d p) e = let same : d ≡ c = cc e in (p, ap (λ z. aiding z p) same)
  taken_aid v w c (trying n p) e = taken_aid v w c p e

  module _ (t : Token) (i : IsIn t s.tokens) where
    abbrev pub its_what : Action
    its_what = what_of (code l) (definitions l) s t

    has_cell : (c : ℕ) (v : Value) → Allows (definitions l) (Bind c v) (its_path (code l) s t.step) (term_of (code l) s t) → HasCell L.place c
    has_cell c v (tk, form) =
        let f = token_found l sites s L t i in
        let d = taken_aid v v c (its_path (code l) s t.step) tk in
        let is : plug f.around (token t.serial (param (Is v))) ≡ L.place.marked = ap (λ z. plug f.around (token t.serial z)) (sym form) ∙ f.is in
        let b = subst (λ m. kept.Bound c v t.serial L.place.mark m) is (kept.bound_by c v t.serial L.place.mark f.around (token t.serial (param (Is v))) ended d.0 (ap taker f.path ∙ d.1) emits) in
        (b.left, b.right, (cells_of b.around [], subst (λ m. Replaces (in_opened b.left c b.right) (in_opened b.left c b.right) m (cells_of b.around []) m) b.is (replaced b.around here)))

    has_token : HasToken L.place t.serial
    has_token = (term_of (code l) s t, stands_so l sites s L t i t.serial (term_of (code l) s t) refl refl)

    offer_by : (e : Entry) (w : Action) → names e ≡ Some (t.serial, w) → its_what ≡ w → Asks e (term_of (code l) s t) → IsThere L.place e → (Fits (context l sites) L.place e → (q : Place) × Leads (context l sites) L.place e q) → Offer l sites L.place t
    offer_by e w is same asks at by = let d = by (fits_names l sites s L t i e w is same asks) in record { entry_is = e; what = w; named = is; after = d.0; leads = d.1 }

    offer_of : (w : Action) → its_what ≡ w → is_wait w ≡ false → Allows (definitions l) w (its_path (code l) s t.step) (term_of (code l) s t) → Offer l sites L.place t
    offer_of Halt e moves m = offer_by (entry.End t.serial) Halt refl e tt has_token (λ f. leads_by (entry.End t.serial) L.spells.none_due has_token f tt tt tt tt)
    offer_of Fork e moves m = offer_by (entry.Fork t.serial L.place.mark (suc L.place.mark)) Fork refl e tt has_token (λ f. leads_by (entry.Fork t.serial L.place.mark (suc L.place.mark)) L.spells.none_due has_token f (refl, refl) tt tt tt)
    offer_of Seq e moves m = offer_by (entry.Seq t.serial L.place.mark) Seq refl e tt has_token (λ f. leads_by (entry.Seq t.serial L.place.mark) L.spells.none_due has_token f refl tt tt tt)
    offer_of Prune e moves m = offer_by (entry.Open t.serial (next L.place.cells) L.place.mark (suc L.place.mark)) Prune refl e tt has_token (λ f. leads_by (entry.Open t.serial (next L.place.cells) L.place.mark (suc L.place.mark)) L.spells.none_due has_token f (refl, refl, refl) tt tt tt)
    offer_of Other e moves m = offer_by (entry.Other t.serial L.place.mark) Other refl e tt has_token (λ f. leads_by (entry.Other t.serial L.place.mark) L.spells.none_due has_token f refl tt tt tt)
    offer_of Def e moves m = offer_by (entry.Def t.serial L.place.mark) Def refl e tt has_token (λ f. leads_by (entry.Def t.serial L.place.mark) L.spells.none_due has_token f refl tt tt tt)
    offer_of Void e moves m = offer_by (entry.Void t.serial) Void refl e tt has_token (λ f. leads_by (entry.Void t.serial) L.spells.none_due has_token f tt tt tt tt)
    offer_of (Publish v) e moves m = offer_by (entry.Publish t.serial v) (Publish v) refl e tt has_token (λ f. leads_by (entry.Publish t.serial v) L.spells.none_due has_token f tt tt tt tt)
    offer_of (Send v) e moves m = offer_by (entry.Send t.serial L.place.mark v) (Send v) refl e tt has_token (λ f. leads_by (entry.Send t.serial L.place.mark v) L.spells.none_due has_token f refl tt tt tt)
    offer_of (Bind c v) e moves m = offer_by (entry.Bind t.serial c v) (Bind c v) refl e tt (has_token, has_cell c v m) (λ f. leads_by (entry.Bind t.serial c v) L.spells.none_due (has_token, has_cell c v m) f tt tt tt tt)
    offer_of Call e moves (m, ps, args, vs, form) = offer_by (entry.Call t.serial (next L.place.calls) m args) Call refl e (ps, vs, form) has_token (λ f. leads_by (entry.Call t.serial (next L.place.calls) m args) L.spells.none_due has_token f refl tt tt tt)
    offer_of (Wait c) e moves m = cc moves

    -- where it doesn't wait, the place allows an entry of it
    pub offer : is_wait its_what ≡ false → Offer l sites L.place t
    offer moves = offer_of its_what refl moves (its_meaning l sites s L t i)
