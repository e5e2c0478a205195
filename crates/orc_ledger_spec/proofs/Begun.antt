-- A new book is lawful, and what its tables note is so: the definitions ask nothing that can't be.
use Rattle.std.proofs.Common.{◌≡◌, ◌≤◌, ℕ, zero, suc, List, [], ◌∷◌, ◌+◌, refl, sym, ap, subst, arith, inl, inr, Option, Some, None, Bool, true, false, cond, nat_eq}
use Rattle.orc_rules.specs.declared.limits.TheConstants.{MOST_ENTRIES}
use Rattle.std.specs.Prelude.{slice_get}
use Rattle.orc_rules.specs.Nodes.{Listing, source}
use Rattle.orc_rules.specs.Sites.{Site}
use Rattle.orc_rules.specs.Journal.{begin}
use Rattle.orc_rules.specs.Timed.{IsIn}
use Rattle.orc_env.specs.declared.names.Bound.TheVariants as bound
use Rattle.orc_ledger_spec.specs.Records.{Records, Lawful}
use Rattle.orc_tables.specs.Steps.{group_at}
use Rattle.orc_ledger_spec.specs.Homes.{home, home_by, Nest, AreNests}
use Rattle.orc_ledger_spec.specs.Next.{AreGrouped, IsSide, opens, numbers_of}
use Rattle.orc_ledger_spec.specs.Begun.{begun}
use Rattle.orc_tables.specs.declared.records.Standing.TheVariants.{At}
use Rattle.orc_tables.specs.declared.records.Token.{Token}
use Rattle.orc_tables.specs.declared.records.Frame.TheVariants.{PruneRight}
use Rattle.orc_tables.specs.declared.records.Step.{Step}
use Rattle.orc_tables.specs.declared.records.Side.TheVariants.{Right}
use Rattle.orc_tables.specs.declared.records.Group.{Group}

-- the root's group alone
abbrev pub the_root : ℕ → Option Nest
the_root zero = Some (record { step = 0; parent = 0 })
the_root (suc k) = None

no_own : (c d : ℕ) → slice_get (bound.Void ∷ []) c ≡ Some (bound.Cell d) → c ≡ d
no_own zero d h = cc h
no_own (suc c) d h = cc h

pub begun-lawful : (l : Listing) (sites : List Site) (limit : ℕ) → limit ≤ MOST_ENTRIES → Lawful l sites (begun limit l.root)
begun-lawful l sites limit small =
    record {
      place = begin (source l);
      leads = refl;
      spells = record { rows = λ w. refl; sides = λ w. refl; mark = refl; cells = refl; now = refl; made = refl; none_due = refl };
      sound = record { tokens = refl; calls = refl; groups = refl; steps = refl; outwards = λ k p h. cc h; scopes = λ k p h. cc h; own = no_own; cells = refl; apart = λ m h. refl; once = λ m. omega arith };
      entries = refl;
      within = omega arith;
      small = small;
      counted = omega arith;
      written = refl;
    }

one_root : (g : ℕ) (n : Nest) → the_root g ≡ Some n → n.step ≡ 0
one_root zero n h = let k : record { step = 0; parent = 0 } ≡ n = cc h in ap (λ (z : Nest). z.step) (sym k)
one_root (suc k) n h = cc h

is_root : (g : ℕ) (n : Nest) → the_root g ≡ Some n → g ≡ 0
is_root zero n h = refl
is_root (suc k) n h = cc h

pub begun-grouped : (limit root : ℕ) → AreGrouped (numbers_of (begun limit root)) (begun limit root)
begun-grouped limit root =
    record {
      homes = [];
      are_homes = λ k p h. cc h;
      groups = the_root;
      nests = record { root = λ g n h e. is_root g n h; above = λ g n k p h e i. cc i; there = λ g n k h e. absurd (omega (arith, one_root g n h, e)) };
      root = (record { step = 0; parent = 0 }, refl, refl);
      tokens = λ t i. (record { step = 0; parent = 0 }, group_is t i, home_is t i);
      calls = λ c i. elim i [ ];
      sides = λ g i. elim i [ ];
      listed = λ i w k h e. absurd (omega (arith, one_root i w h, e));
      once = λ i. omega arith;
      feeds = λ k p h. cc h;
    }
  where
    first : Token
    first = record { serial = 1; standing = At root 0; step = 0 }

    group_is : (t : Token) → IsIn t (Records.tokens (begun limit root)) → the_root (group_at [] t.step) ≡ Some (record { step = 0; parent = 0 })
    group_is t (inl e) = ap (λ (z : Token). the_root (group_at [] z.step)) e
    group_is t (inr i) = elim i [ ]

    home_is : (t : Token) → IsIn t (Records.tokens (begun limit root)) → 0 ≡ home [] t.step
    home_is t (inl e) = ap (λ (z : Token). home [] z.step) (sym e)
    home_is t (inr i) = elim i [ ]

-- ---- and with a side open: one token in the root, one in the right side of cell 1, which is group 1
abbrev aid_step : Step
aid_step = record { entered = PruneRight 1; outer = 0; group = 1; depth = 0; published = false }

abbrev aid_group : Group
aid_group = record { side = Right 1; outer = 0; number = 1 }

abbrev pub with_side : Records → Records
with_side s =
    record s {
      tokens = record { serial = 2; standing = At 0 0; step = 0 } ∷ record { serial = 3; standing = At 0 0; step = 1 } ∷ [];
      steps = aid_step ∷ [];
      groups = aid_group ∷ [];
    }

abbrev two_groups : ℕ → Option Nest
two_groups zero = Some (record { step = 0; parent = 0 })
two_groups (suc zero) = Some (record { step = 1; parent = 0 })
two_groups (suc (suc k)) = None

abbrev nest_is : ℕ → ℕ → Nest
nest_is a b = record { step = a; parent = b }

some_nest : (a b : Nest) → Some a ≡ Some b → a ≡ b
some_nest a b h = cc h

step_is : (a b : Nest) → Some a ≡ Some b → a.step ≡ b.step
step_is a b h = ap (λ (z : Nest). z.step) (some_nest a b h)

parent_is : (a b : Nest) → Some a ≡ Some b → a.parent ≡ b.parent
parent_is a b h = ap (λ (z : Nest). z.parent) (some_nest a b h)

one_step : (k : ℕ) (p : Step) → slice_get (aid_step ∷ []) k ≡ Some p → (k ≡ 0) × (p ≡ aid_step)
one_step zero p h = (refl, cc h)
one_step (suc k) p h = cc h

side_nests : AreNests (1 ∷ []) (aid_step ∷ []) two_groups
side_nests = record { root = root; above = above; there = there }
  where
    root : (g : ℕ) (n : Nest) → two_groups g ≡ Some n → n.step ≡ 0 → g ≡ 0
    root zero n h e = refl
    root (suc zero) n h e = absurd (omega (arith, step_is (nest_is 1 0) n h, e))
    root (suc (suc g)) n h e = cc h

    above : (g : ℕ) (n : Nest) (k : ℕ) (p : Step) → two_groups g ≡ Some n → n.step ≡ suc k → slice_get (aid_step ∷ []) k ≡ Some p → (m : Nest) × (two_groups n.parent ≡ Some m) × (m.step ≡ home (1 ∷ []) p.outer)
    above zero n k p h e i = absurd (omega (arith, step_is (nest_is 0 0) n h, e))
    above (suc (suc g)) n k p h e i = cc h
    above (suc zero) n k p h e i = (nest_is 0 0, ap two_groups (sym (parent_is (nest_is 1 0) n h)), ap (λ (z : Step). home (1 ∷ []) z.outer) (sym (one_step k p i).1))

    there : (g : ℕ) (n : Nest) (k : ℕ) → two_groups g ≡ Some n → n.step ≡ suc k → (p : Step) × (slice_get (aid_step ∷ []) k ≡ Some p)
    there zero n k h e = absurd (omega (arith, step_is (nest_is 0 0) n h, e))
    there (suc (suc g)) n k h e = cc h
    there (suc zero) n k h e = let z : k ≡ 0 = omega (arith, step_is (nest_is 1 0) n h, e) in (aid_step, ap (slice_get (aid_step ∷ [])) z)

side_homes : (k : ℕ) (p : Step) → slice_get (aid_step ∷ []) k ≡ Some p → home (1 ∷ []) (suc k) ≡ home_by (1 ∷ []) (suc k) p p.entered
side_homes zero p h = ap (λ (z : Step). home_by (1 ∷ []) 1 z z.entered) (sym (one_step 0 p h).1)
side_homes (suc k) p h = cc h

pub side-grouped : (limit root : ℕ) → AreGrouped (numbers_of (with_side (begun limit root))) (with_side (begun limit root))
side-grouped limit root =
    record {
      homes = 1 ∷ [];
      are_homes = side_homes;
      groups = two_groups;
      nests = side_nests;
      root = (nest_is 0 0, refl, refl);
      tokens = in_groups;
      calls = λ c i. elim i [ ];
      sides = of_side;
      listed = listed;
      once = λ i. once i (nat_eq i 1);
      feeds = feeds;
    }
  where
    in_groups : (t : Token) → IsIn t (Records.tokens (with_side (begun limit root))) → (w : Nest) × (two_groups (group_at (aid_step ∷ []) t.step) ≡ Some w) × (w.step ≡ home (1 ∷ []) t.step)
    in_groups t (inl e) = (nest_is 0 0, ap (λ (z : Token). two_groups (group_at (aid_step ∷ []) z.step)) e, ap (λ (z : Token). home (1 ∷ []) z.step) (sym e))
    in_groups t (inr (inl e)) = (nest_is 1 0, ap (λ (z : Token). two_groups (group_at (aid_step ∷ []) z.step)) e, ap (λ (z : Token). home (1 ∷ []) z.step) (sym e))
    in_groups t (inr (inr i)) = elim i [ ]

    of_side : (g : Group) → IsIn g (aid_group ∷ []) → (w : Nest) × (k : ℕ) × (p : Step) × (two_groups g.number ≡ Some w) × (w.parent ≡ group_at (aid_step ∷ []) g.outer) × (w.step ≡ suc k) × (slice_get (aid_step ∷ []) k ≡ Some p) × (p.outer ≡ g.outer) × IsSide p.entered g.side
    of_side g (inl e) = (nest_is 1 0, 0, aid_step, ap (λ (z : Group). two_groups z.number) e, ap (λ (z : Group). group_at (aid_step ∷ []) z.outer) (sym e), refl, refl, ap (λ (z : Group). z.outer) (sym e), subst (λ (z : Group). IsSide (PruneRight 1) z.side) (sym e) refl)
    of_side g (inr i) = elim i [ ]

    once : (i : ℕ) (b : Bool) → cond {A = ℕ} b 1 0 + 0 ≤ 1
    once i true = omega arith
    once i false = omega arith

    feeds : (k : ℕ) (p : Step) → slice_get (aid_step ∷ []) k ≡ Some p → opens p.entered ≡ false → p.group ≡ group_at (aid_step ∷ []) p.outer
    feeds k p h off = cc (ap (λ (z : Step). opens z.entered) (one_step k p h).1, off)

    listed : (i : ℕ) (w : Nest) (k : ℕ) → two_groups i ≡ Some w → w.step ≡ suc k → (g : Group) × IsIn g (aid_group ∷ []) × (g.number ≡ i)
    listed zero w k h e = absurd (omega (arith, step_is (nest_is 0 0) w h, e))
    listed (suc zero) w k h e = (aid_group, inl refl, refl)
    listed (suc (suc i)) w k h e = cc h
