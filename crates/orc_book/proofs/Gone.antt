-- What is left of a group where the right side of a cell is dropped: all of it, or nothing.
use Rattle.std.proofs.Common.{◌≡◌, ◌≤◌, ℕ, zero, suc, List, [], ◌∷◌, refl, sym, ap, ◌∙◌, arith, length, Bool, true, false, cond, nat_eq, Option, Some, None as Nothing, inl, inr}
use Rattle.std.specs.Prelude.{slice_get, ◌||◌, not}
use Rattle.std.proofs.lemmas.Bool.{eqb-true}
use Rattle.orc_rules.specs.Nodes.{Listing, code}
use Rattle.orc_rules.specs.Sites.{Site}
use Rattle.orc_rules.specs.Timed.{IsIn}
use Rattle.orc_env.specs.declared.names.Bound.{Bound}
use Rattle.orc_indexes.specs.Same.{weight, but, is_this}
use Rattle.orc_frames.specs.Spelling.{aiding, inside}
use Rattle.orc_ledger_spec.specs.Records.{Records, Lawful, its_env, raw_path}
use Rattle.orc_ledger_spec.specs.Calls.{Drops, token_goes, call_goes, group_goes, is_inside}
use Rattle.orc_ledger_spec.specs.Homes.{home, Nest}
use Rattle.orc_ledger_spec.specs.Next.{AreGrouped, numbers_of, members, IsSide}
use Rattle.orc_tables.specs.Steps.{group_at}
use Rattle.orc_tables.specs.Inside.{aids}
use Rattle.orc_tables.specs.OpenGroups.{tokens_in, calls_in, groups_in, is_named, IsOpen}
use Rattle.orc_tables.specs.declared.records.Token.{Token}
use Rattle.orc_tables.specs.declared.records.Call.{Call}
use Rattle.orc_tables.specs.declared.records.Step.{Step}
use Rattle.orc_tables.specs.declared.records.Frame.{Frame}
use Rattle.orc_tables.specs.declared.records.Frame.TheVariants.{SeqLeft, PruneRight, OtherwiseLeft}
use Rattle.orc_tables.specs.declared.records.Side.{Side}
use Rattle.orc_tables.specs.declared.records.Side.TheVariants.{Right, Left}
use Rattle.orc_tables.specs.declared.records.Group.{Group}
use Rattle.orc_indexes.proofs.Weight.{weight-in, weight-none, weight-but, none-alike, this_is, some-in, this_one}
use Rattle.orc_frames.proofs.Growth.{path-none}
use Rattle.orc_ledger_spec.proofs.Homes.{inn-home, inn-step}
use Rattle.orc_ledger_spec.proofs.Places.{IsPlaced, is_placed, placed-test, IsSided, is_sided, sided-test, not_false}
use Rattle.orc_ledger_spec.proofs.Grouped.{settled-of, placed-group}

module _ (l : Listing) (sites : List Site) (s : Records) (L : Lawful l sites s) (G : AreGrouped (numbers_of s) s) (c : ℕ) (u : Bound) (s' : Records) (D : Drops (code l) c u s s') where
  abbrev inn : ℕ → Bool
  inn i = inside c (raw_path (code l) s i)

  of_nest : Option Nest → Bool
  of_nest (Some w) = inn w.step
  of_nest Nothing = false

  -- group i goes
  pub gone : ℕ → Bool
  gone i = of_nest (G.groups i)

  gone_is : (i : ℕ) (w : Nest) → G.groups i ≡ Some w → gone i ≡ inn w.step
  unfolding of_nest gone
  gone_is i w is = ap of_nest is

  at_home : (i : ℕ) → i ≤ length s.steps → inn i ≡ inn (home G.homes i)
  at_home i le = inn-home (code l) (its_env (code l) s) s.steps G.homes L.sound.outwards G.are_homes c i i (omega arith) le

  gone_placed : (i : ℕ) → IsPlaced G.homes G.groups s.steps i → gone (group_at s.steps i) ≡ inn i
  gone_placed i p = gone_is (group_at s.steps i) p.nest p.found ∙ ap inn p.step ∙ sym (at_home i p.within)

  pub root-stays : gone 0 ≡ false
  root-stays = gone_is 0 G.root.0 G.root.1 ∙ ap inn G.root.2 ∙ ap (inside c) (path-none (code l) (its_env (code l) s) s.steps)

  -- a record of a group that stays stays
  one_stays : (i j : ℕ) (b : Bool) → gone i ≡ false → gone j ≡ b → cond b 0 (is_this i j) ≡ is_this i j
  one_stays i j false off e = refl
  one_stays i j true off e = sym (other (nat_eq i j) refl)
    where
      other : (x : Bool) → nat_eq i j ≡ x → cond {A = ℕ} x 1 0 ≡ 0
      other true h = cc (eqb-true i j h, off, e)
      other false h = refl

  pub tokens-stay : (i : ℕ) → gone i ≡ false → tokens_in s'.steps s'.tokens i ≡ tokens_in s.steps s.tokens i
  tokens-stay i off =
      ap (λ z. tokens_in z s'.tokens i) D.steps
      ∙ D.tokens (λ (t : Token). is_this i (group_at s.steps t.step))
      ∙ none-alike (λ (t : Token). not (is_placed G.homes G.groups s.steps t.step)) (but (token_goes (code l) c s) (λ (t : Token). is_this i (group_at s.steps t.step))) (λ (t : Token). is_this i (group_at s.steps t.step)) s.tokens (settled-of l sites s L G).tokens
      (λ t f. one_stays i (group_at s.steps t.step) (inn t.step) off (gone_placed t.step (placed-test G.homes G.groups s.steps t.step (not_false (is_placed G.homes G.groups s.steps t.step) f))))

  -- no group gets a member
  pub members-fewer : (i : ℕ) → members (numbers_of s') s' i ≤ members (numbers_of s) s i
  members-fewer i =
      let t : Token → ℕ = λ (t : Token). is_this i (group_at s.steps t.step) in
      let k : Call → ℕ = λ (k : Call). is_this i (group_at s.steps k.step) in
      let g : Group → ℕ = λ (g : Group). is_this i (group_at s.steps g.outer) in
      omega (
        arith,
        ap (λ z. tokens_in z s'.tokens i) D.steps,
        ap (λ z. calls_in z s'.calls i) D.steps,
        ap (λ z. groups_in z s'.groups i) D.steps,
        D.tokens t,
        D.calls k,
        D.groups g,
        weight-but (token_goes (code l) c s) t s.tokens,
        weight-but (call_goes (code l) c s) k s.calls,
        weight-but (group_goes (code l) c s) g s.groups,
      )

  or_is : (b x : Bool) → cond b true x ≡ (b || x)
  or_is true x = refl
  or_is false x = refl

  by_side : (e : Frame) (k : Side) (i : ℕ) → IsSide e k → is_inside c (raw_path (code l) s i) k ≡ (aids c e || inn i)
  by_side (SeqLeft x g scope) (Right d) i fit = elim fit [ ]
  by_side (SeqLeft x g scope) (Left n f sc) i fit = elim fit [ ]
  by_side (PruneRight d) (Right e) i fit = ap (λ z. inside c (aiding z (raw_path (code l) s i))) (sym fit) ∙ or_is (nat_eq c d) (inn i)
  by_side (PruneRight d) (Left n f sc) i fit = elim fit [ ]
  by_side (OtherwiseLeft m) (Right d) i fit = elim fit [ ]
  by_side (OtherwiseLeft m) (Left n f sc) i fit = refl

  up : (k : ℕ) (p : Step) → slice_get s.steps k ≡ Some p → inn (suc k) ≡ (aids c p.entered || inn p.outer)
  up k p h = inn-step (code l) (its_env (code l) s) s.steps G.homes L.sound.outwards G.are_homes c k p h

  goes_gone : (g : Group) → IsSided G.groups s.steps g → group_goes (code l) c s g ≡ gone g.number
  goes_gone g d = by_side d.step.entered g.side g.outer d.fits ∙ ap (λ z. aids c d.step.entered || inn z) (sym d.outer) ∙ sym (up d.before d.step d.there) ∙ ap inn (sym d.at) ∙ sym (gone_is g.number d.nest d.found)

  -- a group with a number stays exactly where the number stays
  pub named-stay : (i : ℕ) → gone i ≡ false → weight (is_named i) s'.groups ≡ weight (is_named i) s.groups
  named-stay i off =
      D.groups (is_named i)
      ∙ none-alike (λ g. not (is_sided G.groups s.steps g)) (but (group_goes (code l) c s) (is_named i)) (is_named i) s.groups (settled-of l sites s L G).nested.sides
      (λ g f. one_stays i g.number (group_goes (code l) c s g) off (sym (goes_gone g (sided-test G.groups s.steps g (not_false (is_sided G.groups s.steps g) f)))))

  -- so one that was open, and that nobody has any more, is gone
  pub missed : (i : ℕ) → IsOpen s.groups i → ((g : Group) → IsIn g s'.groups → g.number ≡ i → ⊥) → (i ≡ 0 → ⊥) → gone i ≡ true
  missed i is none not_root = by (gone i) refl
    where
      some : gone i ≡ false → IsOpen s.groups i → 1 ≤ weight (is_named i) s'.groups
      some e (inl z) = absurd (not_root z)
      some e (inr h) = omega (arith, h, named-stay i e)

      by : (b : Bool) → gone i ≡ b → b ≡ true
      by true e = refl
      by false e = let g = some-in (is_named i) s'.groups (some e is) in absurd (none g.0 g.1 (sym (this_one i (Group.number g.0) g.2)))

  -- and one that somebody has stays
  pub found : (i : ℕ) (g : Group) → IsIn g s'.groups → g.number ≡ i → gone i ≡ false
  found i g there is = by (gone i) refl
    where
      one : (h : Group) → IsSided G.groups s.steps h → (b : Bool) → gone i ≡ true → nat_eq i h.number ≡ b → cond {A = ℕ} (group_goes (code l) c s h) 0 (is_this i h.number) ≡ 0
      one h d true e same = ap {B = ℕ} (λ b. cond b 0 (is_this i h.number)) (goes_gone h d ∙ ap gone (sym (eqb-true i h.number same)) ∙ e)
      one h d false e off = ap {B = ℕ} (λ b. cond (group_goes (code l) c s h) 0 (cond b 1 0)) off ∙ none (group_goes (code l) c s h)
        where
          none : (b : Bool) → cond {A = ℕ} b 0 0 ≡ 0
          none true = refl
          none false = refl

      by : (b : Bool) → gone i ≡ b → b ≡ false
      by false e = refl
      by true e =
          let no_more : weight (is_named i) s'.groups ≡ 0 =
          D.groups (is_named i)
          ∙ none-alike (λ g. not (is_sided G.groups s.steps g)) (but (group_goes (code l) c s) (is_named i)) (λ g. 0) s.groups (settled-of l sites s L G).nested.sides
          (λ g f. one g (sided-test G.groups s.steps g (not_false (is_sided G.groups s.steps g) f)) (nat_eq i g.number) e refl)
          ∙ weight-none (λ g. 0) s.groups (λ g. refl) in
          absurd (omega (arith, no_more, weight-in (is_named i) s'.groups g there, this_is i g.number (sym is)))

-- nobody is in a number that no open group has
module _ (l : Listing) (sites : List Site) (s : Records) (L : Lawful l sites s) (G : AreGrouped (numbers_of s) s) (i : ℕ) (not_root : i ≡ 0 → ⊥) (none : (g : Group) → IsIn g s.groups → g.number ≡ i → ⊥) where
  elsewhere : (j : ℕ) → IsPlaced G.homes G.groups s.steps j → (b : Bool) → nat_eq i (group_at s.steps j) ≡ b → is_this i (group_at s.steps j) ≡ 0
  elsewhere j p false e = ap {B = ℕ} (λ b. cond b 1 0) e
  elsewhere j p true e = by p.nest.step refl
    where
      same : i ≡ group_at s.steps j
      same = eqb-true i (group_at s.steps j) e

      by : (k : ℕ) → p.nest.step ≡ k → is_this i (group_at s.steps j) ≡ 0
      by zero z = absurd (not_root (same ∙ G.nests.root (group_at s.steps j) p.nest p.found z))
      by (suc k) z = let g = G.listed (group_at s.steps j) p.nest k p.found z in absurd (none g.0 g.1 (g.2 ∙ sym same))

  pub nobody : members (numbers_of s) s i ≡ 0
  nobody =
      let S = settled-of l sites s L G in
      let tokens : tokens_in s.steps s.tokens i ≡ 0 =
      none-alike (λ (t : Token). not (is_placed G.homes G.groups s.steps t.step)) (λ (t : Token). is_this i (group_at s.steps t.step)) (λ t. 0) s.tokens S.tokens
      (λ t f. elsewhere t.step (placed-test G.homes G.groups s.steps t.step (not_false (is_placed G.homes G.groups s.steps t.step) f)) (nat_eq i (group_at s.steps t.step)) refl)
      ∙ weight-none (λ t. 0) s.tokens (λ t. refl) in
      let calls : calls_in s.steps s.calls i ≡ 0 =
      none-alike (λ (t : Call). not (is_placed G.homes G.groups s.steps t.step)) (λ (t : Call). is_this i (group_at s.steps t.step)) (λ t. 0) s.calls S.calls
      (λ t f. elsewhere t.step (placed-test G.homes G.groups s.steps t.step (not_false (is_placed G.homes G.groups s.steps t.step) f)) (nat_eq i (group_at s.steps t.step)) refl)
      ∙ weight-none (λ t. 0) s.calls (λ t. refl) in
      let groups : groups_in s.steps s.groups i ≡ 0 = in_none s.groups (λ g x. placed-group l sites s L G g x) in
      omega (arith, tokens, calls, groups)
    where
      in_none : (gs : List Group) → ((g : Group) → IsIn g gs → IsPlaced G.homes G.groups s.steps g.outer) → groups_in s.steps gs i ≡ 0
      in_none [] h = refl
      in_none (g ∷ gs) h = omega (arith, elsewhere g.outer (h g (inl refl)) (nat_eq i (group_at s.steps g.outer)) refl, in_none gs (λ x y. h x (inr y)))
