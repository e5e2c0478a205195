-- A group without members: nothing is inside its side.
use Rattle.std.proofs.Common.{◌≡◌, ◌≤◌, ◌<◌, ℕ, zero, suc, ◌+◌, List, [], ◌∷◌, refl, sym, ap, ◌∙◌, arith, inl, inr, ◌⊎◌, ⊎_elim, Bool, true, false, cond, nat_eq, eq-eqb, not, Some}
use Rattle.std.proofs.lemmas.Bool.{eqb-true}
use Rattle.std.proofs.Math.Decide.{ℕ_discrete}
use Rattle.std.specs.Prelude.{◌||◌}
use Rattle.orc_rules.specs.Term.{Term}
use Rattle.orc_rules.specs.Nodes.{Listing, code}
use Rattle.orc_rules.specs.Sites.{Site}
use Rattle.orc_rules.specs.Timed.{IsIn}
use Rattle.orc_rules.specs.Numbered.{Name, mark, cell, once}
use Rattle.orc_indexes.specs.Same.{weight, only, but, None, is_this}
use Rattle.orc_frames.specs.Spelling.{Path, whole, inside, within}
use Rattle.orc_ledger_spec.specs.Records.{Records, Sound, Lawful, its_env, raw_path, its_path, group_side, side_at, is_over}
use Rattle.orc_frames.specs.Paths.{has_published, enters_left_of}
use Rattle.orc_ledger_spec.specs.Calls.{is_inside, group_goes}
use Rattle.orc_tables.specs.Inside.{aids}
use Rattle.orc_ledger_spec.specs.Homes.{Nest}
use Rattle.orc_ledger_spec.specs.Next.{Numbers, AreGrouped, members, IsSide}
use Rattle.orc_tables.specs.declared.records.Token.{Token}
use Rattle.orc_tables.specs.declared.records.Call.{Call}
use Rattle.orc_tables.specs.declared.records.Frame.{Frame}
use Rattle.orc_tables.specs.declared.records.Frame.TheVariants.{SeqLeft, PruneRight, OtherwiseLeft}
use Rattle.orc_tables.specs.declared.records.Step.{Step}
use Rattle.orc_tables.specs.declared.records.Side.{Side}
use Rattle.orc_tables.specs.declared.records.Side.TheVariants.{Right, Left}
use Rattle.orc_tables.specs.declared.records.Group.{Group}
use Rattle.orc_indexes.proofs.Weight.{weight-in, weight-least, none-alike, this_is}
use Rattle.orc_frames.proofs.Growth.{path-none}
use Rattle.orc_ledger_spec.proofs.Homes.{home-least}
use Rattle.orc_ledger_spec.proofs.Lists.{sides-weigh}
use Rattle.orc_frames.proofs.Still.{is_side}
use Rattle.orc_ledger_spec.proofs.Someone.{IsTest, inn, inn-step, inn-home, some_same, token_within, call_within, get-within}
use Rattle.orc_ledger_spec.proofs.Resting.{aid_test, try_test, side_once}
use Rattle.orc_ledger_spec.proofs.Binding.{IsEmpty}
use Rattle.orc_ledger_spec.proofs.Resuming.{IsEmpty as IsEmptied}

pub none-of : {X : Type 0} (bad : X → Bool) (xs : List X) → ((x : X) → IsIn x xs → bad x ≡ false) → None bad xs
none-of bad [] h = refl
none-of bad (x ∷ xs) h = omega (arith, ap {B = ℕ} (λ b. cond b 1 0) (h x (inl refl)), none-of bad xs (λ y i. h y (inr i)))

-- two different ones weigh no more than all
pub two-in : {X : Type 0} (w f : X → ℕ) (xs : List X) (x y : X) → IsIn x xs → IsIn y xs → (f x ≡ f y → ⊥) → w x + w y ≤ weight w xs
two-in w f [] x y i j off = elim i [ ]
two-in w f (z ∷ xs) x y (inl e) (inl g) off = absurd (off (ap f e ∙ sym (ap f g)))
two-in w f (z ∷ xs) x y (inl e) (inr j) off = omega (arith, ap w e, weight-in w xs y j)
two-in w f (z ∷ xs) x y (inr i) (inl g) off = omega (arith, ap w g, weight-in w xs x i)
two-in w f (z ∷ xs) x y (inr i) (inr j) off = omega (arith, two-in w f xs x y i j off)

-- where one goes and no more than one, the others weigh what all do without it
one-goes : {X : Type 0} (goes : X → Bool) (w : X → ℕ) (xs : List X) (x : X) → IsIn x xs → goes x ≡ true → weight (only goes (λ y. 1)) xs ≤ 1 → weight (but goes w) xs + w x ≡ weight w xs
one-goes goes w [] x i mine few = elim i [ ]
one-goes goes w (z ∷ xs) x (inl e) mine few =
    let first : goes z ≡ true = ap goes (sym e) ∙ mine in
    let none : None goes xs = omega (arith, few, ap {B = ℕ} (λ b. cond b 1 0) first) in
    omega (arith, ap {B = ℕ} (λ b. cond b 0 (w z)) first, ap w e, none-alike goes (but goes w) w xs none (λ y h. ap (λ b. cond b 0 (w y)) h))
one-goes goes w (z ∷ xs) x (inr i) mine few = go (goes z) few (one-goes goes w xs x i mine (omega (arith, few)))
  where
    go : (b : Bool) → cond b 1 0 + weight (only goes (λ y. 1)) xs ≤ 1 → weight (but goes w) xs + w x ≡ weight w xs → cond b 0 (w z) + weight (but goes w) xs + w x ≡ w z + weight w xs
    go true h ih = absurd (omega (arith, h, weight-in (only goes (λ y. 1)) xs x i, ap {B = ℕ} (λ b. cond b 1 0) mine))
    go false h ih = omega (arith, ih)

or_cases : (a b : Bool) → (a || b) ≡ true → (a ≡ true) ⊎ (b ≡ true)
or_cases true b h = inl refl
or_cases false b h = inr h

not_true : (b : Bool) → (b ≡ true → ⊥) → b ≡ false
not_true true h = absurd (h refl)
not_true false h = refl

module _ (code : ℕ → Term) (s : Records) (S : Sound s) (n : Numbers) (G : AreGrouped n s) (test : Path → Bool) (at : Frame → Bool) (T : IsTest code s test at) (outside : test whole ≡ false) (g : Group) (i : IsIn g s.groups)
    (unique : (h : Group) (p : Step) → IsIn h s.groups → IsSide p.entered h.side → at p.entered ≡ true → n.number h ≡ n.number g) where
  abbrev mine : ℕ
  mine = n.number g

  a_child : (h : Group) → IsIn h s.groups → n.parent h ≡ mine → 1 ≤ members n s mine
  a_child h j e = omega (arith, weight-in (λ (k : Group). is_this mine (n.parent k)) s.groups h j, this_is mine (n.parent h) (sym e))

  at_root : (w : Nest) → w.step ≡ 0 → inn code s S n G test at T w.step ≡ true → ⊥
  at_root w e holds = let none : inn code s S n G test at T 0 ≡ false = ap test (path-none code (its_env code s) s.steps) ∙ outside in cc (ap (inn code s S n G test at T) e, holds, none)

  -- a group inside is the group itself, or the group has a member
  Mine : ℕ → Type 0
  Mine j = (j ≡ mine) ⊎ (1 ≤ members n s mine)

  inside_one : (j : ℕ) (w : Nest) → G.groups j ≡ Some w → (h : Group) → IsIn h s.groups → n.number h ≡ j → inn code s S n G test at T w.step ≡ true
      → ((v : ℕ) (m : Nest) → G.groups v ≡ Some m → m.step < w.step → inn code s S n G test at T m.step ≡ true → Mine v) → Mine j
  unfolding Mine
  inside_one j w is h at_h e holds above =
      let d = G.sides h at_h in
      let v = d.0 in
      let k = d.1 in
      let p = d.2 in
      let same : v ≡ w = some_same v w (sym d.3 ∙ ap G.groups e ∙ is) in
      let at_v : inn code s S n G test at T (suc k) ≡ true = ap (inn code s S n G test at T) (sym d.5 ∙ ap (λ (z : Nest). z.step) same) ∙ holds in
      let out = S.outwards k p d.6 in
      let within_steps = get-within s.steps k p d.6 in
      let a = G.nests.above (n.number h) v k p d.3 d.5 d.6 in
      let least = home-least code (its_env code s) s.steps G.homes S.outwards G.are_homes 0 p.outer p.outer (omega arith) (omega (arith, out, within_steps)) in
      ⊎_elim
      (λ (x : at p.entered ≡ true). inl (sym e ∙ unique h p at_h d.8 x))
      (λ (x : inn code s S n G test at T p.outer ≡ true).
      let up : inn code s S n G test at T a.0.step ≡ true = ap (inn code s S n G test at T) a.2 ∙ sym (inn-home code s S n G test at T p.outer p.outer (omega arith) (omega (arith, out, within_steps))) ∙ x in
      ⊎_elim (λ (y : v.parent ≡ mine). inr (a_child h at_h (sym d.4 ∙ y))) (λ y. inr y)
      (above v.parent a.0 a.1 (omega (arith, a.2, least, out, d.5, ap (λ (z : Nest). z.step) same)) up))
      (or_cases (at p.entered) (inn code s S n G test at T p.outer) (sym (inn-step code s S n G test at T k p d.6) ∙ at_v))

  by_step : (f j : ℕ) (w : Nest) → G.groups j ≡ Some w → w.step ≤ suc f → (st : ℕ) → w.step ≡ st → inn code s S n G test at T w.step ≡ true → ((v : ℕ) (m : Nest) → G.groups v ≡ Some m → m.step ≤ f → inn code s S n G test at T m.step ≡ true → Mine v) → Mine j
  by_step f j w is le zero e holds ih = absurd (at_root w e holds)
  by_step f j w is le (suc k) e holds ih = let h = G.listed j w k is e in inside_one j w is h.0 h.1 h.2 holds (λ v m js less up. ih v m js (omega (arith, less, le)) up)

  only_mine : (f j : ℕ) (w : Nest) → G.groups j ≡ Some w → w.step ≤ f → inn code s S n G test at T w.step ≡ true → Mine j
  only_mine zero j w is le holds = absurd (at_root w (omega (arith, le)) holds)
  only_mine (suc f) j w is le holds = by_step f j w is le w.step refl holds (λ v m js less up. only_mine f v m js less up)

  -- nothing of an empty group
  module _ (empty : members n s mine ≡ 0) where
    group_out : (j : ℕ) (w : Nest) → G.groups j ≡ Some w → inn code s S n G test at T w.step ≡ true → j ≡ mine
    unfolding Mine
    group_out j w is holds = ⊎_elim (λ x. x) (λ x. absurd (omega (arith, x, empty))) (only_mine w.step j w is (omega arith) holds)

    pub no_token : (t : Token) → IsIn t s.tokens → inn code s S n G test at T t.step ≡ false
    no_token t j =
        let d = G.tokens t j in
        not_true (inn code s S n G test at T t.step) (λ x.
        let e = group_out (n.token t) d.0 d.1 (ap (inn code s S n G test at T) d.2 ∙ sym (inn-home code s S n G test at T t.step t.step (omega arith) (token_within s S t j)) ∙ x) in
        omega (arith, empty, weight-in (λ (u : Token). is_this mine (n.token u)) s.tokens t j, this_is mine (n.token t) (sym e)))

    pub no_call : (c : Call) → IsIn c s.calls → inn code s S n G test at T c.step ≡ false
    no_call c j =
        let d = G.calls c j in
        not_true (inn code s S n G test at T c.step) (λ x.
        let e = group_out (n.call c) d.0 d.1 (ap (inn code s S n G test at T) d.2 ∙ sym (inn-home code s S n G test at T c.step c.step (omega arith) (call_within s S c j)) ∙ x) in
        omega (arith, empty, weight-in (λ (u : Call). is_this mine (n.call u)) s.calls c j, this_is mine (n.call c) (sym e)))

    pub no_group : (h : Group) → IsIn h s.groups → inn code s S n G test at T h.outer ≡ false
    no_group h j =
        let d = G.sides h j in
        let p = d.2 in
        let out = S.outwards d.1 p d.6 in
        let within_steps = get-within s.steps d.1 p d.6 in
        let a = G.nests.above (n.number h) d.0 d.1 p d.3 d.5 d.6 in
        not_true (inn code s S n G test at T h.outer) (λ x.
        let up : inn code s S n G test at T p.outer ≡ true = ap (inn code s S n G test at T) d.7 ∙ x in
        let e = group_out (d.0.parent) a.0 a.1 (ap (inn code s S n G test at T) a.2 ∙ sym (inn-home code s S n G test at T p.outer p.outer (omega arith) (omega (arith, out, within_steps))) ∙ up) in
        omega (arith, empty, a_child h j (sym d.4 ∙ e)))

-- ---- the two kinds of sides
module _ (l : Listing) (sites : List Site) (s : Records) (L : Lawful l sites s) (n : Numbers) (G : AreGrouped n s) (g : Group) (i : IsIn g s.groups) where
  -- an open side's group is the only one
  one_group : (nm : Name) (h : Group) → IsIn h s.groups → only (λ (k : Group). not (is_over (code l) s k.side)) (λ k. is_side nm (group_side (code l) s k)) g ≡ 1
      → only (λ (k : Group). not (is_over (code l) s k.side)) (λ k. is_side nm (group_side (code l) s k)) h ≡ 1 → n.number h ≡ n.number g
  one_group nm h j eg eh =
      let w : Group → ℕ = only (λ (k : Group). not (is_over (code l) s k.side)) (λ k. is_side nm (group_side (code l) s k)) in
      go (ℕ_discrete (n.number h) (n.number g))
    where
      go : Dec (n.number h ≡ n.number g) → n.number h ≡ n.number g
      go (yes e) = e
      go (no off) = absurd (omega (arith, two-in (only (λ (k : Group). not (is_over (code l) s k.side)) (λ k. is_side nm (group_side (code l) s k))) n.number s.groups h g j i off, eg, eh, sides-weigh l sites s L (is_side nm), side_once l sites s L nm))

  side_one : (nm : Name) (k : Group) (e : Side) → k.side ≡ e → is_over (code l) s e ≡ false → is_side nm (side_at (code l) s (its_path (code l) s k.outer) e) ≡ 1 → only (λ (k : Group). not (is_over (code l) s k.side)) (λ k. is_side nm (group_side (code l) s k)) k ≡ 1
  side_one nm k e is live one = ap (λ z. cond (not (is_over (code l) s z)) (is_side nm (side_at (code l) s (its_path (code l) s k.outer) z)) 0) is ∙ ap (λ b. cond (not b) (is_side nm (side_at (code l) s (its_path (code l) s k.outer) e)) 0) live ∙ one

  -- no other group is the same cell's
  pub right-one : (c : ℕ) → g.side ≡ Right c → (h : Group) → IsIn h s.groups → h.side ≡ Right c → n.number h ≡ n.number g
  right-one c side h j is = one_group (cell c) h j (side_one (cell c) g (Right c) side refl (itself c)) (side_one (cell c) h (Right c) is refl (itself c))
    where
      itself : (d : ℕ) → once (cell d) (cell d) ≡ 1
      itself d = ap (λ b. cond {A = ℕ} b 1 0) (eq-eqb d d refl)

  module _ (empty : members n s (n.number g) ≡ 0) where
    pub right-empty : (c : ℕ) → g.side ≡ Right c → IsEmpty l sites s L c
    right-empty c side =
        record {
          tokens = none-of (λ (t : Token). inside c (raw_path (code l) s t.step)) s.tokens (no_token (code l) s L.sound n G (inside c) (aids c) (aid_test (code l) s c) refl g i unique empty);
          calls = none-of (λ (t : Call). inside c (raw_path (code l) s t.step)) s.calls (no_call (code l) s L.sound n G (inside c) (aids c) (aid_test (code l) s c) refl g i unique empty);
          groups = none-of (λ (t : Group). inside c (raw_path (code l) s t.outer)) s.groups (no_group (code l) s L.sound n G (inside c) (aids c) (aid_test (code l) s c) refl g i unique empty);
        }
      where
        once_is : (d : ℕ) → c ≡ d → once (cell c) (cell d) ≡ 1
        once_is d e = ap (λ b. cond {A = ℕ} b 1 0) (eq-eqb c d e)

        by_side : (h : Group) (en : Frame) (k : Side) → IsIn h s.groups → h.side ≡ k → IsSide en k → aids c en ≡ true → n.number h ≡ n.number g
        by_side h (PruneRight d) (Right e) j is fit yes_ = one_group (cell c) h j (side_one (cell c) g (Right c) side refl (once_is c refl)) (side_one (cell c) h (Right e) is refl (once_is e (eqb-true c d yes_ ∙ fit)))
        by_side h (PruneRight d) (Left m f scope) j is fit yes_ = elim fit [ ]
        by_side h (SeqLeft x f scope) k j is fit yes_ = cc yes_
        by_side h (OtherwiseLeft m) k j is fit yes_ = cc yes_

        unique : (h : Group) (p : Step) → IsIn h s.groups → IsSide p.entered h.side → aids c p.entered ≡ true → n.number h ≡ n.number g
        unique h p j fit yes_ = by_side h p.entered h.side j refl fit yes_

    -- so of all groups its own alone goes
    pub right-alone : (c : ℕ) → g.side ≡ Right c → (w : Group → ℕ) → weight (but (group_goes (code l) c s) w) s.groups + w g ≡ weight w s.groups
    right-alone c side w = one-goes (group_goes (code l) c s) w s.groups g i mine (omega (arith, none-alike within_goes (only (group_goes (code l) c s) (λ h. 1)) of_cell s.groups (right-empty c side).groups (λ h out. by_side h.outer h.side out), weight-least of_cell open_cell s.groups (λ h. open_least h.outer h.side), sides-weigh l sites s L (is_side (cell c)), side_once l sites s L (cell c)))
      where
        within_goes : Group → Bool
        within_goes h = inside c (raw_path (code l) s h.outer)

        of_side : Side → ℕ
        of_side (Right d) = once (cell c) (cell d)
        of_side (Left m f scope) = 0

        of_cell : Group → ℕ
        of_cell h = of_side h.side

        open_cell : Group → ℕ
        open_cell = only (λ (h : Group). not (is_over (code l) s h.side)) (λ h. is_side (cell c) (group_side (code l) s h))

        mine : group_goes (code l) c s g ≡ true
        mine = ap (is_inside c (raw_path (code l) s g.outer)) side ∙ ap (λ b. cond b true (inside c (raw_path (code l) s g.outer))) (eq-eqb c c refl)

        by_cell : (d : ℕ) (b : Bool) → b ≡ false → cond {A = ℕ} (cond (nat_eq c d) true b) 1 0 ≡ once (cell c) (cell d)
        by_cell d b out = go (nat_eq c d) b out
          where
            go : (q b : Bool) → b ≡ false → cond {A = ℕ} (cond q true b) 1 0 ≡ cond q 1 0
            go true b out = refl
            go false b out = ap (λ z. cond {A = ℕ} z 1 0) out

        by_side : (j : ℕ) (k : Side) → inside c (raw_path (code l) s j) ≡ false → cond {A = ℕ} (is_inside c (raw_path (code l) s j) k) 1 0 ≡ of_side k
        by_side j (Right d) out = by_cell d (inside c (raw_path (code l) s j)) out
        by_side j (Left m f scope) out = ap (λ z. cond {A = ℕ} z 1 0) out

        open_least : (j : ℕ) (k : Side) → of_side k ≤ cond (not (is_over (code l) s k)) (is_side (cell c) (side_at (code l) s (its_path (code l) s j) k)) 0
        open_least j (Right d) = omega arith
        open_least j (Left m f scope) = omega arith

    pub left-empty : (m f scope : ℕ) → g.side ≡ Left m f scope → has_published s.steps m ≡ false → IsEmptied l sites s L m
    left-empty m f scope side live =
        record {
          tokens = none-of (λ (t : Token). within m (raw_path (code l) s t.step)) s.tokens (no_token (code l) s L.sound n G (within m) (enters_left_of m) (try_test (code l) s m) refl g i unique empty);
          calls = none-of (λ (t : Call). within m (raw_path (code l) s t.step)) s.calls (no_call (code l) s L.sound n G (within m) (enters_left_of m) (try_test (code l) s m) refl g i unique empty);
          groups = none-of (λ (t : Group). within m (raw_path (code l) s t.outer)) s.groups (no_group (code l) s L.sound n G (within m) (enters_left_of m) (try_test (code l) s m) refl g i unique empty);
        }
      where
        once_is : (d : ℕ) → m ≡ d → once (mark m) (mark d) ≡ 1
        once_is d e = ap (λ b. cond {A = ℕ} b 1 0) (eq-eqb m d e)

        by_side : (h : Group) (en : Frame) (k : Side) → IsIn h s.groups → h.side ≡ k → IsSide en k → enters_left_of m en ≡ true → n.number h ≡ n.number g
        by_side h (OtherwiseLeft d) (Left e f' scope') j is fit yes_ =
            let same : m ≡ e = eqb-true m d yes_ ∙ fit in
            one_group (mark m) h j (side_one (mark m) g (Left m f scope) side live (once_is m refl)) (side_one (mark m) h (Left e f' scope') is (ap (has_published s.steps) (sym same) ∙ live) (once_is e same))
        by_side h (OtherwiseLeft d) (Right e) j is fit yes_ = elim fit [ ]
        by_side h (SeqLeft x f' scope') k j is fit yes_ = cc yes_
        by_side h (PruneRight d) k j is fit yes_ = cc yes_

        unique : (h : Group) (p : Step) → IsIn h s.groups → IsSide p.entered h.side → enters_left_of m p.entered ≡ true → n.number h ≡ n.number g
        unique h p j fit yes_ = by_side h p.entered h.side j refl fit yes_
