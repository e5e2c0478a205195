-- Without a last step at which nobody stands a ledger keeps all that it kept.
use Rattle.std.proofs.Common.{◌≡◌, ◌≤◌, ℕ, zero, suc, List, [], ◌∷◌, ◌++◌, refl, sym, ap, ◌∙◌, subst, arith, ⊎_elim, Bool, true, false, cond, nat_eq, eq-eqb, not, Option, Some, None as Nothing, length, length-append, map}
use Rattle.std.specs.Prelude.{slice_get, nat_lt, ◌&&◌, ◌||◌}
use Rattle.std.proofs.lemmas.Bool.{ltb-false, le-ltb}
use Rattle.orc_rules.specs.Term.{Term}
use Rattle.orc_rules.specs.Timed.{IsIn}
use Rattle.orc_rules.specs.Nodes.{Listing, code}
use Rattle.orc_rules.specs.Sites.{Site}
use Rattle.orc_env.specs.Scopes.{close}
use Rattle.orc_indexes.specs.Same.{weight, only}
use Rattle.orc_tables.specs.Steps.{step_at, depth_at, depth_of}
use Rattle.orc_tables.specs.declared.records.Frame.{Frame}
use Rattle.orc_tables.specs.declared.records.Frame.TheVariants.{SeqLeft, PruneRight, OtherwiseLeft}
use Rattle.orc_tables.specs.declared.records.Token.{Token}
use Rattle.orc_tables.specs.declared.records.Call.{Call}
use Rattle.orc_tables.specs.declared.records.Step.{Step}
use Rattle.orc_tables.specs.declared.records.Side.{Side}
use Rattle.orc_tables.specs.declared.records.Side.TheVariants.{Right, Left}
use Rattle.orc_tables.specs.declared.records.Group.{Group}
use Rattle.orc_tables.proofs.Placed.{same_some, got-within, got-more, more-got, end-got}
use Rattle.orc_indexes.proofs.Weight.{weight-append, weight-map, weight-filter, none-alike, none-in}
use Rattle.orc_frames.specs.Paths.{has_published, enters_left_of, is_out, step_out, standing, tries}
use Rattle.orc_frames.specs.Spelling.{Row, stands, pends, Numbered, right_of, left_of, seen}
use Rattle.orc_frames.proofs.Growth.{or_false, both_false, left-more, path-kept, seen-same}
use Rattle.orc_ledger_spec.specs.Brought.{AreBrought}
use Rattle.orc_ledger_spec.specs.Homes.{Nest}
use Rattle.orc_ledger_spec.specs.Kept.{Kept}
use Rattle.orc_ledger_spec.specs.Next.{AreGrouped, numbers_of, opens, IsSide}
use Rattle.orc_ledger_spec.specs.Records.{Records, Sound, Lawful, its_env, raw_path, its_path, token_row, call_row, rows_of, sides_of, side_at, group_side, is_over, token_out, call_out, group_out, side_out}
use Rattle.orc_ledger_spec.specs.Vacant.{IsVacant}
use Rattle.orc_ledger_spec.proofs.Emptied.{none-of}
use Rattle.orc_ledger_spec.proofs.Nests.{group-kept}
use Rattle.orc_ledger_spec.proofs.Sizes.{members-kept}
use Rattle.orc_ledger_spec.proofs.Someone.{some_same}

feed_number : (n : ℕ) (e : Frame) → opens e ≡ false → enters_left_of n e ≡ false
feed_number n (SeqLeft x g scope) h = refl
feed_number n (PruneRight c) h = refl
feed_number n (OtherwiseLeft m) h = cc h

no_side : (e : Frame) (k : Side) → opens e ≡ false → IsSide e k → ⊥
no_side (SeqLeft x g scope) (Right d) off h = h
no_side (SeqLeft x g scope) (Left n f sc) off h = h
no_side (PruneRight c) k off h = cc off
no_side (OtherwiseLeft m) k off h = cc off

pub some_last : (ss : List Step) (p : Step) → step_at ss (length ss) ≡ Some p → 1 ≤ length ss
some_last [] p h = cc h
some_last (q ∷ ss) p h = omega arith

-- the records with one more step
abbrev pub longer : Records → Step → Records
longer s p = record s { steps = s.steps ++ p ∷ [] }

module _ (s : Records) (p : Step) (V : IsVacant (longer s p)) where
  abbrev all : List Step
  all = s.steps ++ p ∷ []

  count : length all ≡ suc (length s.steps)
  count = omega (arith, length-append s.steps (p ∷ []))

  feeds : opens p.entered ≡ false
  feeds = ap (λ (z : Step). opens z.entered) (same_some p V.step (sym (end-got s.steps p) ∙ sym (ap (step_at all) count) ∙ V.last)) ∙ V.feeds

  -- who names no later step and isn't at the last one names one before it
  low : (n : ℕ) → nat_lt (length all) n ≡ false → nat_eq (length all) n ≡ false → n ≤ length s.steps
  low n h k =
      let off : length all ≡ n → ⊥ = λ e. cc (sym (eq-eqb (length all) n e) ∙ k) in
      omega (arith, ltb-false (length all) n h, off, count)

  left_same : (n : ℕ) → has_published all n ≡ has_published s.steps n
  left_same n = left-more n s.steps (p ∷ []) (ap (λ b. (p.published && b) || false) (feed_number n p.entered feeds) ∙ go p.published)
    where
      go : (b : Bool) → ((b && false) || false) ≡ false
      go true = refl
      go false = refl

  module _ (S : Sound (longer s p)) where
    token_low : (t : Token) → IsIn t s.tokens → t.step ≤ length s.steps
    token_low t i =
        low t.step (or_false (is_out (length s.scopes) t.standing) (nat_lt (length all) t.step) (none-in (token_out (length s.scopes) (length all)) s.tokens t S.tokens i)).1
        (none-in (λ (u : Token). nat_eq (length all) u.step) s.tokens t V.tokens i)

    call_low : (c : Call) → IsIn c s.calls → c.step ≤ length s.steps
    call_low c i = low c.step (none-in (call_out (length all)) s.calls c S.calls i) (none-in (λ (u : Call). nat_eq (length all) u.step) s.calls c V.calls i)

    group_low : (g : Group) → IsIn g s.groups → g.outer ≤ length s.steps
    group_low g i =
        low g.outer (or_false (side_out (length s.scopes) g.side) (nat_lt (length all) g.outer) (none-in (group_out (length s.scopes) (length all)) s.groups g S.groups i)).1
        (none-in (λ (u : Group). nat_eq (length all) u.outer) s.groups g V.groups i)

    pub vacant-sound : Sound s
    vacant-sound = record {
      tokens = none-of (token_out (length s.scopes) (length s.steps)) s.tokens (λ t i.
          both_false (is_out (length s.scopes) t.standing) (nat_lt (length s.steps) t.step)
          (or_false (is_out (length s.scopes) t.standing) (nat_lt (length all) t.step) (none-in (token_out (length s.scopes) (length all)) s.tokens t S.tokens i)).0
          (le-ltb (length s.steps) t.step (token_low t i)));
      calls = none-of (call_out (length s.steps)) s.calls (λ c i. le-ltb (length s.steps) c.step (call_low c i));
      groups = none-of (group_out (length s.scopes) (length s.steps)) s.groups (λ g i.
          both_false (side_out (length s.scopes) g.side) (nat_lt (length s.steps) g.outer)
          (or_false (side_out (length s.scopes) g.side) (nat_lt (length all) g.outer) (none-in (group_out (length s.scopes) (length all)) s.groups g S.groups i)).0
          (le-ltb (length s.steps) g.outer (group_low g i)));
      steps = omega (arith, S.steps, weight-append (only (step_out (length s.scopes) s.next_mark) (λ z. 1)) s.steps (p ∷ []));
      outwards = λ k q h. S.outwards k q (more-got s.steps p k q h);
      scopes = S.scopes;
      own = S.own;
      cells = S.cells;
      apart = λ m h. omega (arith, S.apart m h, weight-append (tries m) s.steps (p ∷ []));
      once = λ m. omega (arith, S.once m, weight-append (tries m) s.steps (p ∷ []));
    }

    -- ---- what the records spell

    module _ (cd : ℕ → Term) where
      path_same : (j : ℕ) → j ≤ length s.steps → its_path cd (longer s p) j ≡ its_path cd s j
      path_same j le = seen-same (has_published s.steps) (has_published all) left_same (raw_path cd (longer s p) j) ∙ ap (seen (has_published s.steps)) (path-kept cd (its_env cd s) s.steps (p ∷ []) j le)

      token_same : (t : Token) → token_out (length s.scopes) (length s.steps) t ≡ false → token_row cd (longer s p) t ≡ token_row cd s t
      token_same t h =
          ap (stands t.serial (standing cd (its_env cd s) t.standing)) (path_same t.step (ltb-false (length s.steps) t.step (or_false (is_out (length s.scopes) t.standing) (nat_lt (length s.steps) t.step) h).1))

      rows_same : (w : Row → ℕ) → weight w (rows_of cd (longer s p)) ≡ weight w (rows_of cd s)
      rows_same w =
          omega (
            arith,
            weight-append w (map (token_row cd (longer s p)) s.tokens) (map (call_row cd (longer s p)) s.calls),
            weight-append w (map (token_row cd s) s.tokens) (map (call_row cd s) s.calls),
            weight-map w (token_row cd (longer s p)) s.tokens,
            weight-map w (token_row cd s) s.tokens,
            weight-map w (call_row cd (longer s p)) s.calls,
            weight-map w (call_row cd s) s.calls,
            none-alike (token_out (length s.scopes) (length s.steps)) (λ t. w (token_row cd (longer s p) t)) (λ t. w (token_row cd s t)) s.tokens vacant-sound.tokens (λ t h. ap w (token_same t h)),
            none-alike (call_out (length s.steps)) (λ c. w (call_row cd (longer s p) c)) (λ c. w (call_row cd s c)) s.calls vacant-sound.calls (λ c h. ap (λ z. w (pends c.number z)) (path_same c.step (ltb-false (length s.steps) c.step h))),
          )

      over_same : (k : Side) → is_over cd (longer s p) k ≡ is_over cd s k
      over_same (Right d) = refl
      over_same (Left n g scope) = left_same n

      side_same : (v : Numbered → ℕ) (j : ℕ) (k : Side) → j ≤ length s.steps → v (side_at cd (longer s p) (its_path cd (longer s p) j) k) ≡ v (side_at cd s (its_path cd s j) k)
      side_same v j (Right d) le = ap (λ z. v (right_of d z)) (path_same j le)
      side_same v j (Left n g scope) le = ap (λ z. v (left_of n (close (its_env cd s scope) (cd g)) z)) (path_same j le)

      sides_same : (v : Numbered → ℕ) → weight v (sides_of cd (longer s p)) ≡ weight v (sides_of cd s)
      sides_same v =
          omega (
            arith,
            weight-filter v (group_side cd (longer s p)) (λ g. not (is_over cd (longer s p) g.side)) s.groups,
            weight-filter v (group_side cd s) (λ g. not (is_over cd s g.side)) s.groups,
            none-alike (group_out (length s.scopes) (length s.steps)) (only (λ g. not (is_over cd (longer s p) g.side)) (λ g. v (group_side cd (longer s p) g))) (only (λ g. not (is_over cd s g.side)) (λ g. v (group_side cd s g))) s.groups vacant-sound.groups (λ g h.
                let le = ltb-false (length s.steps) g.outer (or_false (side_out (length s.scopes) g.side) (nat_lt (length s.steps) g.outer) h).1 in
                λ j. cond (not (over_same g.side j)) (side_same v g.outer g.side le j) 0),
          )

    -- ---- the groups

    module _ (G : AreGrouped (numbers_of (longer s p)) (longer s p)) where
      -- a step that opens a side isn't the last one
      side_there : (k : ℕ) (q : Step) (side : Side) → slice_get all k ≡ Some q → IsSide q.entered side → slice_get s.steps k ≡ Some q
      side_there k q side h fits = ⊎_elim (λ a. a) (λ b. absurd (no_side p.entered side feeds (subst (λ (z : Step). IsSide z.entered side) b.1 fits))) (got-more s.steps p k q h)

      nest_there : (i : ℕ) (w : Nest) (k : ℕ) → G.groups i ≡ Some w → w.step ≡ suc k → (q : Step) × (slice_get s.steps k ≡ Some q)
      nest_there i w k is at =
          let g = G.listed i w k is at in
          let d = G.sides g.0 g.1 in
          let same : d.0 ≡ w = some_same d.0 w (sym d.3 ∙ ap G.groups g.2 ∙ is) in
          let here : d.1 ≡ k = omega (arith, at, d.5, ap (λ (z : Nest). z.step) same) in
          (d.2, ap (slice_get s.steps) (sym here) ∙ side_there d.1 d.2 (Group.side g.0) d.6 d.8)

      pub vacant-grouped : AreGrouped (numbers_of s) s
      vacant-grouped = record {
        homes = G.homes;
        are_homes = λ k q h. G.are_homes k q (more-got s.steps p k q h);
        groups = G.groups;
        nests = record { root = G.nests.root; above = λ i w k q is at h. G.nests.above i w k q is at (more-got s.steps p k q h); there = nest_there };
        root = G.root;
        tokens = λ t i. let d = G.tokens t i in (d.0, ap G.groups (sym (group-kept s.steps (p ∷ []) t.step (token_low t i))) ∙ d.1, d.2);
        calls = λ c i. let d = G.calls c i in (d.0, ap G.groups (sym (group-kept s.steps (p ∷ []) c.step (call_low c i))) ∙ d.1, d.2);
        sides = λ g i. let d = G.sides g i in (d.0, d.1, d.2, d.3, d.4 ∙ group-kept s.steps (p ∷ []) g.outer (group_low g i), d.5, side_there d.1 d.2 g.side d.6 d.8, d.7, d.8);
        listed = G.listed;
        once = G.once;
        feeds = λ k q h off. G.feeds k q (more-got s.steps p k q h) off ∙ group-kept s.steps (p ∷ []) q.outer (omega (arith, vacant-sound.outwards k q h, got-within s.steps k q h));
      }

  pub vacant-lawful : (l : Listing) (sites : List Site) → Lawful l sites (longer s p) → Lawful l sites s
  vacant-lawful l sites L = record {
    place = L.place;
    leads = L.leads;
    spells = record {
      rows = λ w. L.spells.rows w ∙ rows_same L.sound (code l) w;
      sides = λ v. L.spells.sides v ∙ sides_same L.sound (code l) v;
      mark = L.spells.mark;
      cells = L.spells.cells;
      now = L.spells.now;
      made = L.spells.made;
      none_due = L.spells.none_due;
    };
    sound = vacant-sound L.sound;
    written = L.written;
    entries = L.entries;
    within = L.within;
    small = L.small;
    counted = L.counted;
  }

  depth_kept : (m : ℕ) → ((i : ℕ) → depth_at all i ≤ m) → (i : ℕ) → depth_at s.steps i ≤ m
  depth_kept m h zero = omega arith
  depth_kept m h (suc k) = go (slice_get s.steps k) refl
    where
      go : (o : Option Step) → slice_get s.steps k ≡ o → depth_of o ≤ m
      go Nothing e = omega arith
      go (Some q) e = omega (arith, h (suc k), ap depth_of (more-got s.steps p k q e))

  vacant-brought : AreBrought (longer s p) → AreBrought s
  vacant-brought B = record { tokens = B.tokens; groups = B.groups; depth = depth_kept _ B.depth }

  pub vacant-kept : (l : Listing) (sites : List Site) (counts : List (List ℕ × ℕ)) (sizes : List ℕ) → Kept l sites counts sizes (longer s p) → Kept l sites counts sizes s
  unfolding vacant-lawful
  vacant-kept l sites counts sizes K = record {
    lawful = vacant-lawful l sites K.lawful;
    grouped = vacant-grouped K.lawful.sound K.grouped;
    told = K.told;
    counted = K.counted;
    sized = λ i. K.sized i ∙ members-kept s (vacant-sound K.lawful.sound) (p ∷ []) i;
    brought = vacant-brought K.brought;
  }
