-- What the lists of the records show of the marked term.
use Rattle.std.proofs.Common.{◌≡◌, ◌≤◌, ℕ, ◌+◌, List, refl, ap, ◌∙◌, subst, arith, map, Bool, true, false, cond, nat_eq, not, Some}
use Rattle.std.proofs.lemmas.Bool.{eqb-true}
use Rattle.std.specs.Prelude.{slice_get}
use Rattle.orc_rules.specs.Term.{Halted}
use Rattle.orc_rules.specs.Nodes.{Listing, code}
use Rattle.orc_rules.specs.Sites.{Site}
use Rattle.orc_rules.specs.Marked.{Marked, ended, token, in_call, in_par, in_seq, in_opened, in_other, erase}
use Rattle.orc_rules.specs.Timed.{IsIn}
use Rattle.orc_rules.specs.Lost.{HoldsSource}
use Rattle.orc_rules.specs.Numbered.{call, cell, once, times, IsNumbered}
use Rattle.orc_env.specs.declared.names.Bound.TheVariants.{Cell}
use Rattle.orc_env.proofs.Inside.{Confined}
use Rattle.orc_env.proofs.Reached.{reached_numbered, reached_source, reached_confined}
use Rattle.orc_indexes.specs.Same.{weight, only}
use Rattle.orc_frames.specs.Spelling.{Path, whole, feeding, aiding, trying, Row, stands, pends, Numbered, right_of, left_of, marks, sides}
use Rattle.orc_ledger_spec.specs.Records.{Records, Lawful, token_row, call_row, group_side, side_at, its_path, is_over, is_own, is_settled}
use Rattle.orc_tables.specs.declared.records.Token.{Token}
use Rattle.orc_tables.specs.declared.records.Call.{Call}
use Rattle.orc_tables.specs.declared.records.Side.{Side}
use Rattle.orc_tables.specs.declared.records.Side.TheVariants.{Right, Left}
use Rattle.orc_tables.specs.declared.records.Group.{Group}
use Rattle.orc_indexes.proofs.Weight.{weight-append, weight-map, weight-filter, weight-in, weight-least}
use Rattle.orc_frames.proofs.Around.{Found, found, hole, is_row, by-self, Opened, opened, is_numbered}
use Rattle.orc_frames.proofs.Equal.{same_row, same_numbered}
use Rattle.orc_ledger_spec.proofs.Cells.{own_cell}

-- how often a call and a cell stand there, by the lists
abbrev pub is_call : ℕ → Row → ℕ
is_call k (stands s t p) = 0
is_call k (pends j p) = once (call k) (call j)

pub times-calls : (k : ℕ) (p : Path) (m : Marked) → times (call k) m ≡ weight (is_call k) (marks p m)
times-calls k p ended = refl
times-calls k p (token s t) = refl
times-calls k p (in_call j) = omega arith
times-calls k p (in_par f g) = omega (arith, times-calls k p f, times-calls k p g, weight-append (is_call k) (marks p f) (marks p g))
times-calls k p (in_seq f x g) = times-calls k (feeding x g p) f
times-calls k p (in_opened f c g) = omega (arith, times-calls k p f, times-calls k (aiding c p) g, weight-append (is_call k) (marks p f) (marks (aiding c p) g))
times-calls k p (in_other n f g) = omega (arith, times-calls k (trying n p) f)

abbrev pub is_right : ℕ → Numbered → ℕ
is_right c (right_of d p) = once (cell c) (cell d)
is_right c (left_of n g p) = 0

pub times-cells : (c : ℕ) (p : Path) (m : Marked) → times (cell c) m ≡ weight (is_right c) (sides p m)
times-cells c p ended = refl
times-cells c p (token s t) = refl
times-cells c p (in_call j) = refl
times-cells c p (in_par f g) = omega (arith, times-cells c p f, times-cells c p g, weight-append (is_right c) (sides p f) (sides p g))
times-cells c p (in_seq f x g) = times-cells c (feeding x g p) f
times-cells c p (in_opened f d g) = omega (arith, times-cells c p f, times-cells c (aiding d p) g, weight-append (is_right c) (sides p f) (sides (aiding d p) g))
times-cells c p (in_other n f g) = omega (arith, times-cells c (trying n p) f)

module _ (l : Listing) (sites : List Site) (s : Records) (L : Lawful l sites s) where
  pub numbered : IsNumbered L.place
  numbered = reached_numbered l sites true s.journal L.place L.leads

  pub holds_source : HoldsSource L.place.marked
  holds_source = reached_source l sites true s.journal L.place L.leads

  pub confined : (c : ℕ) → Confined c L.place.marked
  confined c = reached_confined l sites true s.journal L.place L.leads c

  -- what the rows weigh
  pub rows-weigh : (w : Row → ℕ) → weight w (marks whole L.place.marked) ≡ weight (λ t. w (token_row (code l) s t)) s.tokens + weight (λ c. w (call_row (code l) s c)) s.calls
  rows-weigh w =
      omega (arith, L.spells.rows w, weight-append w (map (token_row (code l) s) s.tokens) (map (call_row (code l) s) s.calls), weight-map w (token_row (code l) s) s.tokens, weight-map w (call_row (code l) s) s.calls)

  pub sides-weigh : (v : Numbered → ℕ) → weight v (sides whole L.place.marked) ≡ weight (only (λ g. not (is_over (code l) s g.side)) (λ g. v (group_side (code l) s g))) s.groups
  sides-weigh v = L.spells.sides v ∙ weight-filter v (group_side (code l) s) (λ g. not (is_over (code l) s g.side)) s.groups

  -- a token is in the marked term
  pub token_found : (t : Token) → IsIn t s.tokens → Found (token_row (code l) s t) L.place.marked
  token_found t i =
      let r = token_row (code l) s t in
      found r hole L.place.marked (omega (arith, rows-weigh (is_row r), weight-in (λ u. is_row r (token_row (code l) s u)) s.tokens t i, by-self (same_row r r) refl))

  pub call_found : (c : Call) → IsIn c s.calls → Found (call_row (code l) s c) L.place.marked
  call_found c i =
      let r = call_row (code l) s c in
      found r hole L.place.marked (omega (arith, rows-weigh (is_row r), weight-in (λ u. is_row r (call_row (code l) s u)) s.calls c i, by-self (same_row r r) refl))

  -- and an open side that hasn't published
  pub side_found : (g : Group) → IsIn g s.groups → is_over (code l) s g.side ≡ false → Opened (group_side (code l) s g) L.place.marked
  side_found g i going =
      let n = group_side (code l) s g in
      let w : Group → ℕ = only (λ h. not (is_over (code l) s h.side)) (λ h. is_numbered n (group_side (code l) s h)) in
      let one : w g ≡ 1 = ap (λ b. cond (not b) (is_numbered n n) 0) going ∙ by-self (same_numbered n n) refl in
      opened n hole L.place.marked (omega (arith, sides-weigh (is_numbered n), weight-in w s.groups g i, one))

  right_least : (c d : ℕ) (b : Bool) → nat_eq c d ≡ b → not (is_own c (slice_get s.cells c)) ≡ true → cond b 1 0 ≤ cond (is_settled s.cells (Right d)) 1 0
  right_least c d true e h = let q : is_settled s.cells (Right d) ≡ true = subst (λ z. not (is_own z (slice_get s.cells z)) ≡ true) (eqb-true c d e) h in omega (arith, ap {B = ℕ} (λ b. cond b 1 0) q)
  right_least c d false e h = omega arith

  either_zero : (b : Bool) → cond b 0 0 ≤ 0
  either_zero true = omega arith
  either_zero false = omega arith

  side_least : (c : ℕ) → not (is_own c (slice_get s.cells c)) ≡ true → (i : ℕ) (k : Side) → cond (not (is_over (code l) s k)) (is_right c (side_at (code l) s (its_path (code l) s i) k)) 0 ≤ cond (is_settled s.cells k) 1 0
  side_least c h i (Right d) = right_least c d (nat_eq c d) refl h
  side_least c h i (Left n g scope) = either_zero (not (is_over (code l) s (Left n g scope)))

  -- an open pruning's cell has become nothing yet
  pub unbound : (c : ℕ) → 1 ≤ times (cell c) L.place.marked → slice_get s.cells c ≡ Some (Cell c)
  unbound c some = own_cell c (slice_get s.cells c) (go (not (is_own c (slice_get s.cells c))) refl)
    where
      go : (b : Bool) → not (is_own c (slice_get s.cells c)) ≡ b → not (is_own c (slice_get s.cells c)) ≡ false
      go false e = e
      go true e =
          absurd (omega (arith, some, times-cells c whole L.place.marked, sides-weigh (is_right c), weight-least (only (λ h. not (is_over (code l) s h.side)) (λ h. is_right c (group_side (code l) s h))) (only (λ h. is_settled s.cells h.side) (λ h. 1)) s.groups (λ g. side_least c e g.outer g.side), L.sound.cells))

-- nothing in it: it has halted
pub empty-halted : (p : Path) (m : Marked) → weight (λ r. 1) (marks p m) ≡ 0 → weight (λ r. 1) (sides p m) ≡ 0 → Halted (erase m)
empty-halted p ended h k = tt
empty-halted p (token s t) h k = absurd (omega (arith, h))
empty-halted p (in_call j) h k = absurd (omega (arith, h))
empty-halted p (in_par f g) h k = (
  empty-halted p f (omega (arith, h, weight-append (λ r. 1) (marks p f) (marks p g))) (omega (arith, k, weight-append (λ r. 1) (sides p f) (sides p g))),
  empty-halted p g (omega (arith, h, weight-append (λ r. 1) (marks p f) (marks p g))) (omega (arith, k, weight-append (λ r. 1) (sides p f) (sides p g))),
)
empty-halted p (in_seq f x g) h k = empty-halted (feeding x g p) f h k
empty-halted p (in_opened f c g) h k = absurd (omega (arith, k))
empty-halted p (in_other n f g) h k = absurd (omega (arith, k))
