-- A record is inside the right side of a cell exactly where its group is in that side's subtree of groups.
use Rattle.std.proofs.Common.{◌≡◌, ◌≤◌, ◌<◌, ℕ, zero, suc, List, [], ◌∷◌, refl, sym, ap, ◌∙◌, arith, Bool, true, false, cond, nat_eq, Option, Some, length, get_or}
use Rattle.std.specs.Prelude.{slice_get, ◌||◌}
use Rattle.orc_rules.specs.Term.{Term}
use Rattle.orc_env.specs.Scopes.{Env}
use Rattle.orc_frames.specs.Spelling.{Path, inside}
use Rattle.orc_frames.specs.Paths.{path, inwards}
use Rattle.orc_tables.specs.Steps.{AreOutwards}
use Rattle.orc_ledger_spec.specs.Homes.{home, home_by, AreHomes, Nest, AreNests, IsSubtree}
use Rattle.orc_tables.specs.Inside.{aids}
use Rattle.orc_tables.specs.declared.records.Frame.{Frame}
use Rattle.orc_tables.specs.declared.records.Frame.TheVariants.{SeqLeft, PruneRight, OtherwiseLeft}
use Rattle.orc_tables.specs.declared.records.Step.{Step}
use Rattle.orc_tables.proofs.Placed.{there}
use Rattle.orc_frames.proofs.Growth.{path-unfold, path-none}

abbrev unread : Step
unread = record { entered = OtherwiseLeft 0; outer = 0; group = 0; depth = 0; published = false }

got : (xs : List Step) (j : ℕ) → j < length xs → slice_get xs j ≡ Some (get_or xs j unread)
got xs j lt = there xs j unread lt

get-in : (xs : List Step) (j : ℕ) (x : Step) → slice_get xs j ≡ Some x → j < length xs
get-in [] j x h = cc h
get-in (y ∷ xs) zero x h = omega arith
get-in (y ∷ xs) (suc j) x h = omega (arith, get-in xs j x h)

module _ (code : ℕ → Term) (env : ℕ → Env) (ss : List Step) (hs : List ℕ) (outwards : AreOutwards ss) (homes : AreHomes hs ss) (c : ℕ) where
  abbrev inn : ℕ → Bool
  inn i = inside c (path code env ss i)

  by_entered : (p : Path) (e : Frame) → inside c (inwards code env e p) ≡ (aids c e || inside c p)
  by_entered p (SeqLeft x g scope) = refl
  by_entered p (PruneRight d) = go (nat_eq c d)
    where
      go : (b : Bool) → cond b true (inside c p) ≡ (b || inside c p)
      go true = refl
      go false = refl
  by_entered p (OtherwiseLeft n) = refl

  pub inn-step : (k : ℕ) (p : Step) → slice_get ss k ≡ Some p → inn (suc k) ≡ (aids c p.entered || inn p.outer)
  inn-step k p h = ap (inside c) (path-unfold code env ss (suc k) k p (omega arith) h (outwards k p h)) ∙ by_entered (path code env ss p.outer) p.entered

  inn-none : inn 0 ≡ false
  inn-none = ap (inside c) (path-none code env ss)

  at_home : (k : ℕ) (p : Step) (e : Frame) → p.entered ≡ e → slice_get ss k ≡ Some p → (inn p.outer ≡ inn (home hs p.outer)) → inn (suc k) ≡ inn (home_by hs (suc k) p e)
  at_home k p (SeqLeft x g scope) e h ih = inn-step k p h ∙ ap (λ z. aids c z || inn p.outer) e ∙ ih
  at_home k p (PruneRight d) e h ih = refl
  at_home k p (OtherwiseLeft n) e h ih = refl

  -- what a step is inside is what its home is inside
  pub inn-home : (n i : ℕ) → i ≤ n → i ≤ length ss → inn i ≡ inn (home hs i)
  inn-home n zero le there = refl
  inn-home zero (suc k) le there = absurd (omega (arith, le))
  inn-home (suc n) (suc k) le there =
      let p = get_or ss k unread in
      let h = got ss k (omega (arith, there)) in
      at_home k p p.entered refl h (inn-home n p.outer (omega (arith, outwards k p h, le)) (omega (arith, outwards k p h, there))) ∙ sym (ap inn (homes k p h))

  least_by : (k : ℕ) (p : Step) (e : Frame) → p.entered ≡ e → p.outer ≤ k → home hs p.outer ≤ p.outer → home_by hs (suc k) p e ≤ suc k
  least_by k p (SeqLeft x g scope) e out ih = omega (arith, out, ih)
  least_by k p (PruneRight d) e out ih = omega arith
  least_by k p (OtherwiseLeft n) e out ih = omega arith

  pub home-least : (n i : ℕ) → i ≤ n → i ≤ length ss → home hs i ≤ i
  home-least n zero le there = omega arith
  home-least zero (suc k) le there = absurd (omega (arith, le))
  home-least (suc n) (suc k) le there =
      let p = get_or ss k unread in
      let h = got ss k (omega (arith, there)) in
      omega (arith, homes k p h, least_by k p p.entered refl (outwards k p h) (home-least n p.outer (omega (arith, outwards k p h, le)) (omega (arith, outwards k p h, there))))

  module _ (groups : ℕ → Option Nest) (nests : AreNests hs ss groups) (set : ℕ → Bool) (subtree : IsSubtree c ss groups set) where
    -- a group is in the subtree exactly where its side's step is inside
    pub set-inside : (n g i : ℕ) (w : Nest) → groups g ≡ Some w → w.step ≡ i → i ≤ n → set g ≡ inn i
    set-inside n g zero w is e le = subtree.root g w is e ∙ sym inn-none
    set-inside zero g (suc k) w is e le = absurd (omega (arith, le))
    set-inside (suc n) g (suc k) w is e le =
        let t = nests.there g w k is e in
        let a = nests.above g w k t.0 is e t.1 in
        let out = outwards k t.0 t.1 in
        let fits : t.0.outer ≤ length ss = omega (arith, out, get-in ss k t.0 t.1) in
        let home_le = home-least t.0.outer t.0.outer (omega arith) fits in
        subtree.others g w k t.0 is e t.1
        ∙ ap (λ z. aids c t.0.entered || z) (set-inside n w.parent a.0.step a.0 a.1 refl (omega (arith, a.2, home_le, out, le)) ∙ ap inn a.2 ∙ sym (inn-home t.0.outer t.0.outer (omega arith) fits))
        ∙ sym (inn-step k t.0 t.1)

    -- so a record with this step, whose group is its home's, is inside exactly where its group is in the subtree
    pub record-inside : (i g : ℕ) (w : Nest) → i ≤ length ss → groups g ≡ Some w → w.step ≡ home hs i → set g ≡ inn i
    record-inside i g w fits is e = set-inside (home hs i) g (home hs i) w is e (omega arith) ∙ sym (inn-home i i (omega arith) fits)
