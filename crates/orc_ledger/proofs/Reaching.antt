-- A token whose term can move shows that the place isn't idle; and a term can move where its first part can.
use Rattle.std.proofs.Common.{◌≡◌, ◌≤◌, ℕ, List, refl, ap, ◌∙◌, arith, Bool, true, false, ◌||◌, Option, Some, None}
use Rattle.std.specs.Prelude.{is_some}
use Rattle.orc_rules.specs.declared.value.Value.{Value}
use Rattle.orc_rules.specs.declared.param.Param.{Param}
use Rattle.orc_rules.specs.declared.param.Param.TheVariants as is
use Rattle.orc_rules.specs.Term.{Term, stop, param, site, call, par, seq, prune, other, pending, opened, Definition, values_of}
use Rattle.orc_rules.specs.Idle.{has_halted, has_void, can_move, movable, one}
use Rattle.orc_rules.specs.Marked.{Marked, ended, token, in_call, in_par, in_seq, in_opened, in_other}
use Rattle.orc_rules.specs.Nodes.{Listing, code, definitions}
use Rattle.orc_rules.specs.Sites.{Site}
use Rattle.orc_rules.specs.Timed.{IsIn, IsIdle}
use Rattle.orc_rules.specs.Journal.{moment}
use Rattle.orc_rules.proofs.Counts.{moves_by_count}
use Rattle.orc_rules.proofs.Tests.{idle_by}
use Rattle.orc_env.specs.Scopes.{Env, close}
use Rattle.orc_env.proofs.Closing.{close-par, close-seq, close-other}
use Rattle.orc_indexes.specs.Same.{weight}
use Rattle.orc_indexes.proofs.Weight.{weight-append, weight-in}
use Rattle.orc_frames.specs.Spelling.{Path, whole, feeding, aiding, trying, Row, stands, pends, marks}
use Rattle.orc_frames.specs.Doing.{what_by, what_site, what_def}
use Rattle.orc_ledger_spec.specs.Records.{Records, Lawful, context, token_row}
use Rattle.orc_ledger_spec.specs.Doing.{term_of}
use Rattle.orc_ledger_spec.specs.Whole.{is_rule}
use Rattle.orc_ledger_spec.proofs.Lists.{rows-weigh}
use Rattle.orc_tables.specs.declared.records.Token.{Token}

-- ---- tokens that can move

abbrev row_moves : List Definition → Row → ℕ
row_moves defs (stands n u p) = one (can_move defs u)
row_moves defs (pends k p) = 0

row_of_token : (defs : List Definition) (n : ℕ) (t : Term) (p : Path) → row_moves defs (stands n t p) ≡ movable defs (token n t)
row_of_token defs n t p = refl

rows_move : (defs : List Definition) (p : Path) (m : Marked) → weight (row_moves defs) (marks p m) ≤ movable defs m
rows_move defs p ended = omega arith
rows_move defs p (token s t) = omega (arith, row_of_token defs s t p)
rows_move defs p (in_call k) = omega arith
rows_move defs p (in_par f g) = omega (arith, weight-append (row_moves defs) (marks p f) (marks p g), rows_move defs p f, rows_move defs p g)
rows_move defs p (in_seq f x g) = rows_move defs (feeding x g p) f
rows_move defs p (in_opened f c g) = omega (arith, weight-append (row_moves defs) (marks p f) (marks (aiding c p) g), rows_move defs p f, rows_move defs (aiding c p) g)
rows_move defs p (in_other n f g) = omega (arith, rows_move defs (trying n p) f)

module _ (l : Listing) (sites : List Site) (s : Records) (L : Lawful l sites s) (t : Token) (i : IsIn t s.tokens) where
  -- a token on a term that can move
  pub moves_on : can_move (definitions l) (term_of (code l) s t) ≡ true → IsIdle (context l sites) (moment L.place) → ⊥
  moves_on moves idle =
      let still = (idle_by (context l sites) (moment L.place)).0 idle in
      let none = (moves_by_count (definitions l) L.place.marked).0 still.0 in
      let here : row_moves (definitions l) (token_row (code l) s t) ≡ 1 = ap one moves in
      absurd (omega (arith, none, rows_move (definitions l) whole L.place.marked, rows-weigh l sites s L (row_moves (definitions l)), weight-in (λ (u : Token). row_moves (definitions l) (token_row (code l) s u)) s.tokens t i, here))

-- ---- terms that can move

by_site : (ps : List Param) (b : Bool) (o : Option (List Value)) → is_rule (what_site ps b o) ≡ true → (is_some o || b) ≡ true
by_site ps b (Some vs) h = refl
by_site ps true None h = refl
by_site ps false None h = cc h

by_def : (o : Option Definition) → is_rule (what_def o) ≡ true → is_some o ≡ true
by_def (Some d) h = refl
by_def None h = cc h

pub rule_moves : (defs : List Definition) (p : Path) (u : Term) → is_rule (what_by defs p u) ≡ true → can_move defs u ≡ true
rule_moves defs p stop h = cc h
rule_moves defs p (param (is.Is v)) h = refl
rule_moves defs p (param is.Void) h = refl
rule_moves defs p (param (is.Name x)) h = cc h
rule_moves defs p (param (is.Cell c)) h = cc h
rule_moves defs p (site m ps) h = by_site ps (has_void ps) (values_of ps) h
rule_moves defs p (call e ps) h = by_def _ h
rule_moves defs p (par f g) h = cc h
rule_moves defs p (seq f x g) h = cc h
rule_moves defs p (prune f x g) h = refl
rule_moves defs p (other f g) h = cc h
rule_moves defs p (pending k) h = cc h
rule_moves defs p (opened f c g) h = cc h

module _ (defs : List Definition) (e : Env) (u f : Term) (h : can_move defs (close e f) ≡ true) where
  pub par_first : (g : Term) → u ≡ par f g → can_move defs (close e u) ≡ true
  par_first g is = ap (λ z. can_move defs (close e z)) is ∙ ap (can_move defs) (close-par e f g) ∙ ap (λ b. b || can_move defs (close e g)) h

  pub seq_first : (x : ℕ) (g : Term) → u ≡ seq f x g → can_move defs (close e u) ≡ true
  seq_first x g is = ap (λ z. can_move defs (close e z)) is ∙ ap (can_move defs) (close-seq e f x g) ∙ h

  pub other_first : (g : Term) → u ≡ other f g → can_move defs (close e u) ≡ true
  other_first g is = ap (λ z. can_move defs (close e z)) is ∙ ap (can_move defs) (close-other e f g) ∙ ap (λ b. b || has_halted (close e f)) h
