-- A group that a publication has left goes: nothing that the records spell changes.
use Rattle.std.proofs.Common.{◌≡◌, ◌≤◌, ℕ, zero, suc, List, [], ◌∷◌, inl, Some, refl, sym, ap, ◌∙◌, subst, arith, length, map, Bool, true, false, cond, not}
use Rattle.std.specs.Prelude.{slice_get, nat_lt}
use Rattle.std.proofs.lemmas.Bool.{ltb-true}
use Rattle.orc_rules.specs.Timed.{IsIn}
use Rattle.orc_rules.specs.Nodes.{Listing, code, source}
use Rattle.orc_rules.specs.Sites.{Site}
use Rattle.orc_rules.specs.Journal.{Journal, begin}
use Rattle.orc_env.specs.Scopes.{close, env_of}
use Rattle.orc_indexes.specs.Same.{weight, only, None}
use Rattle.orc_frames.specs.Spelling.{Row, stands, pends, Numbered, right_of, left_of, seen}
use Rattle.orc_ledger_spec.specs.Records.{Records, Lawful, context, its_path, rows_of, sides_of, token_row, call_row, side_at, group_side, is_over, is_settled, group_out, has_serial, counts}
use Rattle.orc_frames.specs.Paths.{path, has_published, standing, step_out, entered_out}
use Rattle.orc_ledger_spec.specs.Calls.{Closes}
use Rattle.orc_ledger_spec.specs.Next.{AreGrouped, numbers_of, IsSide}
use Rattle.orc_tables.specs.declared.records.Frame.{Frame}
use Rattle.orc_tables.specs.declared.records.Frame.TheVariants.{SeqLeft, PruneRight, OtherwiseLeft}
use Rattle.orc_tables.specs.declared.records.Step.{Step}
use Rattle.orc_tables.specs.declared.records.Token.{Token}
use Rattle.orc_tables.specs.declared.records.Side.{Side}
use Rattle.orc_tables.specs.declared.records.Side.TheVariants.{Right, Left}
use Rattle.orc_tables.specs.declared.records.Group.{Group}
use Rattle.orc_indexes.proofs.Weight.{weight-append, weight-map, weight-filter, weight-same, none-in}

module _ (l : Listing) (sites : List Site) (s : Records) (L : Lawful l sites s) (g : Group) (over : is_over (code l) s g.side ≡ true) (s' : Records) (T : Closes s s' g) where
  path_same : (j : ℕ) → its_path (code l) s' j ≡ its_path (code l) s j
  path_same j = λ i. seen (has_published (T.steps i)) (path (code l) (env_of (T.cells i) (T.scopes i)) (T.steps i) j)

  row_same : (u : Token) → token_row (code l) s' u ≡ token_row (code l) s u
  row_same u = λ i. stands u.serial (standing (code l) (env_of (T.cells i) (T.scopes i)) u.standing) (path_same u.step i)

  rows_closed : (w : Row → ℕ) → weight w (rows_of (code l) s') ≡ weight w (rows_of (code l) s)
  rows_closed w =
      omega (
        arith,
        weight-append w (map (token_row (code l) s') s'.tokens) (map (call_row (code l) s') s'.calls),
        weight-append w (map (token_row (code l) s) s.tokens) (map (call_row (code l) s) s.calls),
        weight-map w (token_row (code l) s') s'.tokens,
        weight-map w (token_row (code l) s) s.tokens,
        weight-map w (call_row (code l) s') s'.calls,
        weight-map w (call_row (code l) s) s.calls,
        ap (weight (λ c. w (call_row (code l) s' c))) T.calls,
        weight-same (λ c. w (call_row (code l) s' c)) (λ c. w (call_row (code l) s c)) s.calls (λ c. ap (λ p. w (pends c.number p)) (path_same c.step)),
        ap (weight (λ u. w (token_row (code l) s' u))) T.tokens,
        weight-same (λ u. w (token_row (code l) s' u)) (λ u. w (token_row (code l) s u)) s.tokens (λ u. ap w (row_same u)),
      )

  over_same : (k : Side) → is_over (code l) s' k ≡ is_over (code l) s k
  over_same (Right d) = refl
  over_same (Left m f sc) = ap (λ z. has_published z m) T.steps

  side_same : (v : Numbered → ℕ) (j : ℕ) (k : Side) → v (side_at (code l) s' (its_path (code l) s' j) k) ≡ v (side_at (code l) s (its_path (code l) s j) k)
  side_same v j (Right d) = ap (λ p. v (right_of d p)) (path_same j)
  side_same v j (Left m f sc) = λ i. v (left_of m (close (env_of (T.cells i) (T.scopes i) sc) (code l f)) (path_same j i))

  sides_closed : (v : Numbered → ℕ) → weight v (sides_of (code l) s') ≡ weight v (sides_of (code l) s)
  sides_closed v =
      omega (
        arith,
        weight-filter v (group_side (code l) s') (λ h. not (is_over (code l) s' h.side)) s'.groups,
        weight-filter v (group_side (code l) s) (λ h. not (is_over (code l) s h.side)) s.groups,
        weight-same (only (λ h. not (is_over (code l) s' h.side)) (λ h. v (group_side (code l) s' h))) (only (λ h. not (is_over (code l) s h.side)) (λ h. v (group_side (code l) s h))) s'.groups (λ h i. cond (not (over_same h.side i)) (side_same v h.outer h.side i) 0),
        T.groups (only (λ h. not (is_over (code l) s h.side)) (λ h. v (group_side (code l) s h))),
        ap {B = ℕ} (λ b. cond (not b) (v (group_side (code l) s g)) 0) over,
      )

  pub closed-lawful : Lawful l sites s'
  closed-lawful =
      record {
        place = L.place;
        leads = subst (λ es. Journal (context l sites) (begin (source l)) es L.place) (sym T.journal) L.leads;
        spells = record {
          rows = λ w. L.spells.rows w ∙ sym (rows_closed w);
          sides = λ v. L.spells.sides v ∙ sym (sides_closed v);
          mark = L.spells.mark ∙ sym T.mark;
          cells = ap length T.cells ∙ L.spells.cells;
          now = L.spells.now ∙ sym T.now;
          made = L.spells.made ∙ sym T.made;
          none_due = L.spells.none_due;
        };
        sound = record {
          tokens = rw (T.tokens, T.scopes, T.steps) L.sound.tokens;
          calls = rw (T.calls, T.steps) L.sound.calls;
          groups = rw (T.scopes, T.steps) (omega (arith, T.groups (only (group_out (length s.scopes) (length s.steps)) (λ t. 1)), L.sound.groups));
          steps = rw (T.scopes, T.steps, T.mark) L.sound.steps;
          outwards = rw T.steps L.sound.outwards;
          scopes = rw T.scopes L.sound.scopes;
          own = rw T.cells L.sound.own;
          cells = rw T.cells (omega (arith, T.groups (only (λ h. is_settled s.cells h.side) (λ h. 1)), L.sound.cells));
          apart = λ m h. rw T.steps (L.sound.apart m (omega (arith, h, ap (weight (has_serial m)) T.tokens)));
          once = rw T.steps L.sound.once;
        };
        entries = T.entries ∙ L.entries ∙ sym (ap (weight counts) T.journal);
        within = omega (arith, T.entries, T.limit, L.within);
        small = omega (arith, T.limit, L.small);
        counted = omega (arith, L.counted, T.mark, T.entries);
        written = rw (T.calls, T.journal) L.written;
      }

-- a step that is there is none of the bad ones
pub none-got : {X : Type 0} (bad : X → Bool) (xs : List X) (k : ℕ) (x : X) → None bad xs → slice_get xs k ≡ Some x → bad x ≡ false
none-got bad [] k x h got = cc got
none-got bad (y ∷ xs) zero x h got = ap bad (sym (same y x got)) ∙ none-in bad (y ∷ xs) y h (inl refl)
  where
    same : {X : Type 0} (a b : X) → Some a ≡ Some b → a ≡ b
    same a b e = cc e
none-got bad (y ∷ xs) (suc k) x h got = none-got bad xs k x (omega (arith, h)) got

-- where an otherwise is open, marks were given out
pub mark-later : (l : Listing) (sites : List Site) (s : Records) (L : Lawful l sites s) (G : AreGrouped (numbers_of s) s) (g : Group) → IsIn g s.groups → (n f scope : ℕ) → g.side ≡ Left n f scope → 1 ≤ s.next_mark
mark-later l sites s L G g i n f scope side =
    let d = G.sides g i in
    by_entered (Step.entered d.2) g.side refl side d.8 (none-got (step_out (length s.scopes) s.next_mark) s.steps d.1 d.2 L.sound.steps d.6)
  where
    later : (m : ℕ) (b : Bool) → nat_lt m s.next_mark ≡ b → not b ≡ false → 1 ≤ s.next_mark
    later m true e h = omega (arith, ltb-true m s.next_mark e)
    later m false e h = cc h

    by_entered : (e : Frame) (k : Side) → g.side ≡ k → k ≡ Left n f scope → IsSide e k → entered_out (length s.scopes) s.next_mark e ≡ false → 1 ≤ s.next_mark
    by_entered (OtherwiseLeft m) (Left a h sc) is at fit out = later m (nat_lt m s.next_mark) refl out
    by_entered (OtherwiseLeft m) (Right c) is at fit out = elim fit [ ]
    by_entered (PruneRight c) (Right d) is at fit out = cc at
    by_entered (PruneRight c) (Left a h sc) is at fit out = elim fit [ ]
    by_entered (SeqLeft x h sc) (Right d) is at fit out = elim fit [ ]
    by_entered (SeqLeft x h sc) (Left a j d) is at fit out = elim fit [ ]
