-- What a node with a name says of the conditions of an entry.
use Rattle.std.proofs.Common.{◌≡◌, ℕ, List, Option, Some, None, length, refl, sym, ap, ◌∙◌, subst, arith, true, false}
use Rattle.std.specs.Prelude.{IfSome, IfNone}
use Rattle.std.specs.Bool.{Decides}
use Rattle.orc_rules.specs.declared.param.Param.TheVariants.{Is}
use Rattle.orc_rules.specs.declared.value.Value.{Value}
use Rattle.orc_rules.specs.declared.entry.Entry.{Entry}
use Rattle.orc_rules.specs.Term.{param}
use Rattle.orc_rules.specs.Idle.{has_halted}
use Rattle.orc_rules.specs.Step.{publishes}
use Rattle.orc_rules.specs.Marked.{Marked, ended, token, in_call, in_opened, in_other, erase, Emits, emits}
use Rattle.orc_rules.specs.Nodes.{Listing, code}
use Rattle.orc_rules.specs.Numbered.{mark, call, cell, IsNumbered}
use Rattle.orc_rules.specs.Timed.{Context}
use Rattle.orc_rules.specs.Journal.{Place}
use Rattle.orc_rules.specs.Refusal.{Stands, HasToken, HasCall, HasCell, HasOther, Fits}
use Rattle.orc_rules.proofs.Numbered.{once_same, times_part}
use Rattle.orc_rules.proofs.Idle.{halted_test, test_halted}
use Rattle.orc_rules.proofs.Standing.{cell_one, other_one, token_no_other}
use Rattle.orc_term.specs.declared.arena.Node.{Node}
use Rattle.orc_term.specs.declared.arena.Kind.{Kind}
use Rattle.orc_term.specs.declared.arena.Kind.TheVariants.{Leaf, One, Two}
use Rattle.orc_term.specs.declared.arena.Tip.{Tip}
use Rattle.orc_term.specs.declared.arena.Tip.TheVariants.{Gone, Ended, Token, Bears, Waits}
use Rattle.orc_term.specs.declared.arena.Single.TheVariants.{Feeds, Entered, Passed}
use Rattle.orc_term.specs.declared.arena.Double.TheVariants.{Both, Side}
use Rattle.orc_term.specs.declared.walk.Taker.{Taker}
use Rattle.orc_term.specs.Arena.{Frame, Tree, living_kind, of_tip, spelled}
use Rattle.orc_env.specs.Scopes.{Env, close, env_of}
use Rattle.orc_term.specs.Rising.{takes, act_of, Stands as StandsAt}
use Rattle.orc_term.specs.Settling.{flag}
use Rattle.orc_checker.specs.Checker.{State, Spells}
use Rattle.orc_verdict.specs.declared.finder.Name.{Name}
use Rattle.orc_verdict.specs.declared.finder.Name.TheVariants.{Mark, Call, Cell}
use Rattle.orc_verdict.specs.declared.finder.Part.{Part}
use Rattle.orc_verdict.specs.declared.position.Standing.{Standing}
use Rattle.orc_verdict.specs.Finding.{name_at, Has, HasNone, is_leaf, is_one}
use Rattle.orc_verdict.specs.Standing.{under, summary, mark_of, args_of, fits_as}
use Rattle.orc_verdict.specs.Reasons.{right_flag, left_flag, IsRightOver, IsLeftOver}
use Rattle.orc_checker.proofs.Shown.{Shows, Shown, shown}
use Rattle.orc_checker.proofs.Takers.{emits_up}
use Rattle.orc_verdict.proofs.Parts.{stands_nowhere}
use Rattle.orc_verdict.proofs.Fitting.{fits_token, fits_there, fits_nothing}

lives : (name : Name) (k : Kind) → name_at k ≡ Some name → living_kind k ≡ 1
lives name (Leaf Gone) h = cc h
lives name (Leaf Ended) h = refl
lives name (Leaf (Token s f e)) h = refl
lives name (Leaf (Bears s v)) h = refl
lives name (Leaf (Waits k)) h = refl
lives name (One s i) h = refl
lives name (Two d i j) h = refl

mark_is : (r s : ℕ) → Some (Mark r) ≡ Some (Mark s) → r ≡ s
mark_is r s h = cc h

call_is : (r s : ℕ) → Some (Call r) ≡ Some (Call s) → r ≡ s
call_is r s h = cc h

cell_is : (r s : ℕ) → Some (Cell r) ≡ Some (Cell s) → r ≡ s
cell_is r s h = cc h

-- what takes the publications of a node that is part of the term
pub takes_is : (nodes : List Node) (i : ℕ) (o : Option Taker) → IfSome o (λ w. (n : ℕ) (k : List Frame) (t : Tree) → StandsAt nodes n i k t → w ≡ takes k) → IfNone o ((n : ℕ) (k : List Frame) (t : Tree) → StandsAt nodes n i k t → ⊥) → (n : ℕ) (k : List Frame) (t : Tree) → StandsAt nodes n i k t → o ≡ Some (takes k)
takes_is nodes i (Some w) a b n k t st = ap Some (a n k t st)
takes_is nodes i None a b n k t st = absurd (b n k t st)

module _ (x : Context) (l : Listing) (s : State) (p : Place) (nu : IsNumbered p) (sp : Spells x (code l) s p) where
  abbrev env : ℕ → Env
  env = env_of s.cells s.scopes

  part_of : (name : Name) (f : Part) → Has s.nodes name f → Shown (code l) s p.marked f.at f.kind
  part_of name f h = shown (code l) s p.marked sp.drawn h.0.0 f.at f.kind h.0.1 (lives name f.kind h.1)

  no_token : (r : ℕ) → HasNone s.nodes (Mark r) → HasToken p r → ⊥
  no_token r none t = omega (arith, stands_nowhere (code l) s p.marked sp.drawn (Mark r) none, times_part (mark r) t.1.1, once_same (mark r) (mark r) refl)

  no_other : (r : ℕ) → HasNone s.nodes (Mark r) → HasOther p r → ⊥
  no_other r none t = omega (arith, stands_nowhere (code l) s p.marked sp.drawn (Mark r) none, times_part (mark r) t.2.1, once_same (mark r) (mark r) refl)

  no_call : (k : ℕ) → HasNone s.nodes (Call k) → HasCall p k → ⊥
  no_call k none t = omega (arith, stands_nowhere (code l) s p.marked sp.drawn (Call k) none, times_part (call k) t.1, once_same (call k) (call k) refl)

  no_cell : (c : ℕ) → HasNone s.nodes (Cell c) → HasCell p c → ⊥
  no_cell c none t = omega (arith, stands_nowhere (code l) s p.marked sp.drawn (Cell c) none, times_part (cell c) t.2.1, once_same (cell c) (cell c) refl)

  -- what a node of the mark shows
  token_part : (r : ℕ) (k : Tip) (m : Marked) → name_at (Leaf k) ≡ Some (Mark r) → m ≡ of_tip (code l) env k → m ≡ token r (under (code l) env (Leaf k))
  token_part r (Token t f e) m h is = is ∙ ap (λ z. token z (close (env e) (code l f))) (mark_is t r h)
  token_part r (Bears t v) m h is = is ∙ ap (λ z. token z (param (Is v))) (mark_is t r h)
  token_part r Gone m h is = cc h
  token_part r Ended m h is = cc h
  token_part r (Waits k) m h is = cc h

  token_shown : (r : ℕ) (k : Tip) (m : Marked) → name_at (Leaf k) ≡ Some (Mark r) → Shows (code l) s (Leaf k) m → Stands m p.marked → Stands (token r (under (code l) env (Leaf k))) p.marked
  token_shown r k m h is st = subst (λ z. Stands z p.marked) (token_part r k m h is) st

  other_shown : (r n g e i : ℕ) (m : Marked) → name_at (One (Entered n g e) i) ≡ Some (Mark r) → Shows (code l) s (One (Entered n g e) i) m → Stands m p.marked → (f : Marked) × Stands (in_other r f (close (env e) (code l g))) p.marked × (flag s.flags i ≡ has_halted (erase f))
  other_shown r n g e i m h sh st = (sh.0, subst (λ z. Stands z p.marked) (sh.1 ∙ ap (λ z. in_other z sh.0 (close (env e) (code l g))) (mark_is n r h)) st, sh.2)

  cell_shown : (r c i j : ℕ) (m : Marked) → name_at (Two (Side c) i j) ≡ Some (Cell r) → Shows (code l) s (Two (Side c) i j) m → Stands m p.marked → (f g : Marked) × Stands (in_opened f r g) p.marked × (flag s.flags j ≡ has_halted (erase g))
  cell_shown r c i j m h sh st = (sh.0, sh.1, subst (λ z. Stands z p.marked) (sh.2 ∙ ap (λ z. in_opened sh.0 z sh.1) (cell_is c r h)) st, sh.3)

  token_by : (r : ℕ) (k : Kind) (m : Marked) → name_at k ≡ Some (Mark r) → Shows (code l) s k m → Stands m p.marked → Decides (is_leaf k) (HasToken p r)
  token_by r (Leaf k) m h sh st = (λ e. (_, token_shown r k m h sh st), λ t. refl)
  token_by r (One (Entered n g e) i) m h sh st = let o = other_shown r n g e i m h sh st in (λ e. cc e, λ t. absurd (token_no_other r t.0 o.0 _ p.marked (nu.single (mark r)) t.1 o.1))
  token_by r (One (Feeds y g e) i) m h sh st = cc h
  token_by r (One Passed i) m h sh st = cc h
  token_by r (Two Both i j) m h sh st = cc h
  token_by r (Two (Side c) i j) m h sh st = cc h

  pub token_found : (r : ℕ) (f : Part) → Has s.nodes (Mark r) f → Decides (is_leaf f.kind) (HasToken p r)
  token_found r f h = let w = part_of (Mark r) f h in token_by r f.kind w.part h.1 w.shows w.stands

  pub token_none : (r : ℕ) → HasNone s.nodes (Mark r) → Decides false (HasToken p r)
  token_none r none = (λ e. cc e, λ t. absurd (no_token r none t))

  other_by : (r : ℕ) (k : Kind) (m : Marked) → name_at k ≡ Some (Mark r) → Shows (code l) s k m → Stands m p.marked → Decides (is_one k) (HasOther p r)
  other_by r (Leaf k) m h sh st = (λ e. cc e, λ t. absurd (token_no_other r _ t.0 t.1 p.marked (nu.single (mark r)) (token_shown r k m h sh st) t.2))
  other_by r (One (Entered n g e) i) m h sh st = let o = other_shown r n g e i m h sh st in (λ e. (o.0, _, o.1), λ t. refl)
  other_by r (One (Feeds y g e) i) m h sh st = cc h
  other_by r (One Passed i) m h sh st = cc h
  other_by r (Two Both i j) m h sh st = cc h
  other_by r (Two (Side c) i j) m h sh st = cc h

  pub other_found : (r : ℕ) (f : Part) → Has s.nodes (Mark r) f → Decides (is_one f.kind) (HasOther p r)
  other_found r f h = let w = part_of (Mark r) f h in other_by r f.kind w.part h.1 w.shows w.stands

  pub other_none : (r : ℕ) → HasNone s.nodes (Mark r) → Decides false (HasOther p r)
  other_none r none = (λ e. cc e, λ t. absurd (no_other r none t))

  call_by : (r : ℕ) (k : Kind) (m : Marked) → name_at k ≡ Some (Call r) → Shows (code l) s k m → Stands m p.marked → HasCall p r
  call_by r (Leaf (Waits k)) m h sh st = subst (λ z. Stands z p.marked) (sh ∙ ap in_call (call_is k r h)) st
  call_by r (Leaf Gone) m h sh st = cc h
  call_by r (Leaf Ended) m h sh st = cc h
  call_by r (Leaf (Token t f e)) m h sh st = cc h
  call_by r (Leaf (Bears t v)) m h sh st = cc h
  call_by r (One (Entered n g e) i) m h sh st = cc h
  call_by r (One (Feeds y g e) i) m h sh st = cc h
  call_by r (One Passed i) m h sh st = cc h
  call_by r (Two Both i j) m h sh st = cc h
  call_by r (Two (Side c) i j) m h sh st = cc h

  pub call_found : (r : ℕ) (f : Part) → Has s.nodes (Call r) f → Decides true (HasCall p r)
  call_found r f h = let w = part_of (Call r) f h in (λ e. call_by r f.kind w.part h.1 w.shows w.stands, λ t. refl)

  pub call_none : (r : ℕ) → HasNone s.nodes (Call r) → Decides false (HasCall p r)
  call_none r none = (λ e. cc e, λ t. absurd (no_call r none t))

  -- a node of the cell shows its pruning, and whether the right side has halted
  cell_by : (r : ℕ) (k : Kind) (m : Marked) → name_at k ≡ Some (Cell r) → Shows (code l) s k m → Stands m p.marked → (f g : Marked) × Stands (in_opened f r g) p.marked × (right_flag s.flags k ≡ has_halted (erase g))
  cell_by r (Two (Side c) i j) m h sh st = cell_shown r c i j m h sh st
  cell_by r (Two Both i j) m h sh st = cc h
  cell_by r (Leaf Gone) m h sh st = cc h
  cell_by r (Leaf Ended) m h sh st = cc h
  cell_by r (Leaf (Token t f e)) m h sh st = cc h
  cell_by r (Leaf (Bears t v)) m h sh st = cc h
  cell_by r (Leaf (Waits k)) m h sh st = cc h
  cell_by r (One (Entered n g e) i) m h sh st = cc h
  cell_by r (One (Feeds y g e) i) m h sh st = cc h
  cell_by r (One Passed i) m h sh st = cc h

  pub cell_found : (r : ℕ) (f : Part) → Has s.nodes (Cell r) f → Decides true (HasCell p r)
  cell_found r f h = let w = part_of (Cell r) f h in let o = cell_by r f.kind w.part h.1 w.shows w.stands in (λ e. (o.0, o.1, o.2), λ t. refl)

  pub cell_none : (r : ℕ) → HasNone s.nodes (Cell r) → Decides false (HasCell p r)
  cell_none r none = (λ e. cc e, λ t. absurd (no_cell r none t))

  pub right_found : (r : ℕ) (f : Part) → Has s.nodes (Cell r) f → Decides (right_flag s.flags f.kind) (IsRightOver p r)
  right_found r f h =
      let w = part_of (Cell r) f h in
      let o = cell_by r f.kind w.part h.1 w.shows w.stands in (
        λ e. (o.0, o.1, o.2, test_halted (erase o.1) (sym o.3 ∙ e)),
        λ t. let same = cell_one r t.0 t.1 o.0 o.1 p.marked (nu.single (cell r)) t.2 o.2 in o.3 ∙ ap (λ z. has_halted (erase z)) (sym same.1) ∙ halted_test (erase t.1) t.3,
      )

  pub right_none : (r : ℕ) → HasNone s.nodes (Cell r) → Decides false (IsRightOver p r)
  right_none r none = (λ e. cc e, λ t. absurd (no_cell r none (t.0, t.1, t.2)))

  left_by : (r : ℕ) (k : Kind) (m : Marked) → name_at k ≡ Some (Mark r) → Shows (code l) s k m → Stands m p.marked → Decides (left_flag s.flags k) (IsLeftOver p r)
  left_by r (Leaf k) m h sh st = (λ e. cc e, λ t. absurd (token_no_other r _ t.0 t.1 p.marked (nu.single (mark r)) (token_shown r k m h sh st) t.2))
  left_by r (One (Entered n g e) i) m h sh st =
      let o = other_shown r n g e i m h sh st in (
        λ b. (o.0, _, o.1, test_halted (erase o.0) (sym o.2 ∙ b)),
        λ t. let same = other_one r t.0 o.0 t.1 _ p.marked (nu.single (mark r)) t.2 o.1 in o.2 ∙ ap (λ z. has_halted (erase z)) (sym same.0) ∙ halted_test (erase t.0) t.3,
      )
  left_by r (One (Feeds y g e) i) m h sh st = cc h
  left_by r (One Passed i) m h sh st = cc h
  left_by r (Two Both i j) m h sh st = cc h
  left_by r (Two (Side c) i j) m h sh st = cc h

  pub left_found : (r : ℕ) (f : Part) → Has s.nodes (Mark r) f → Decides (left_flag s.flags f.kind) (IsLeftOver p r)
  left_found r f h = let w = part_of (Mark r) f h in left_by r f.kind w.part h.1 w.shows w.stands

  pub left_none : (r : ℕ) → HasNone s.nodes (Mark r) → Decides false (IsLeftOver p r)
  left_none r none = (λ e. cc e, λ t. absurd (no_other r none (t.0, t.1, t.2)))

  -- whether the entry fits the token that was found
  abbrev Takes : ℕ → Option Taker → Type 0
  Takes i o = (n : ℕ) (k : List Frame) (t : Tree) → StandsAt s.nodes n i k t → o ≡ Some (takes k)

  fits_by : (r : ℕ) (e : Entry) (i : ℕ) (k : Kind) (w : Shown (code l) s p.marked i k) (o : Option Taker) → mark_of e ≡ Some r → name_at k ≡ Some (Mark r) → Takes i o → Decides (fits_as e (summary x.definitions (args_of e) (under (code l) env k)) o) (Fits x p e)
  fits_by r e i (Leaf k) w o is h by =
      let st = token_shown r k w.part h w.shows w.stands in
      let t = under (code l) env (Leaf k) in
      let its : spelled (code l) env w.tree ≡ token r t = w.is ∙ token_part r k w.part h w.shows in
      let taker = takes w.context in
      let sends : (v : Value) (a : ℕ) → t ≡ param (Is v) → (m : Marked) × Emits r a v p.marked (act_of taker v) m =
      λ v a e. let first : Emits r a v (spelled (code l) env w.tree) (publishes v) ended = subst (λ z. Emits r a v z (publishes v) ended) (sym (its ∙ ap (token r) e)) emits in
      let up = emits_up (code l) env w.context w.tree first in
      (up.0, subst (λ z. Emits r a v z (act_of taker v) up.0) w.whole up.1) in
      subst (λ z. Decides (fits_as e (summary x.definitions (args_of e) t) z) (Fits x p e)) (sym (by (length s.scopes) w.context w.tree w.there))
      (fits_token x p r t taker (nu.single (mark r)) st sends e is)
  fits_by r e i (One (Entered n g c) j) w o is h by =
      let q = other_shown r n g c j w.part h w.shows w.stands in
      (λ b. cc (sym (fits_nothing e r o is) ∙ b), λ f. let t = fits_there x p r e is f in absurd (token_no_other r t.0 q.0 _ p.marked (nu.single (mark r)) t.1 q.1))
  fits_by r e i (One (Feeds y g c) j) w o is h by = cc h
  fits_by r e i (One Passed j) w o is h by = cc h
  fits_by r e i (Two Both j u) w o is h by = cc h
  fits_by r e i (Two (Side c) j u) w o is h by = cc h

  pub fits_found : (r : ℕ) (e : Entry) (f : Part) (k : Standing) (o : Option Taker) → mark_of e ≡ Some r → Has s.nodes (Mark r) f → Takes f.at o → k ≡ summary x.definitions (args_of e) (under (code l) env f.kind) → Decides (fits_as e k o) (Fits x p e)
  fits_found r e f k o is h by same = subst (λ z. Decides (fits_as e z o) (Fits x p e)) (sym same) (fits_by r e f.at f.kind (part_of (Mark r) f h) o is h.1 by)

  pub fits_none : (r : ℕ) (e : Entry) → mark_of e ≡ Some r → HasNone s.nodes (Mark r) → Decides false (Fits x p e)
  fits_none r e is none = (λ b. cc b, λ f. absurd (no_token r none (fits_there x p r e is f)))
