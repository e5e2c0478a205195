-- A part's journal is one of the whole.
use Rattle.std.proofs.Common.{◌≡◌, ◌<◌, ◌≤◌, ℕ, suc, ◌+◌, ◌-◌, ◌^◌, List, [], ◌∷◌, ◌++◌, length, map, refl, sym, ap, ◌∙◌, subst, inl, inr, arith}
use Rattle.std.specs.Prelude.{◌⊎◌}
use Rattle.std.specs.List.{AllByRecursion}
use Rattle.std.proofs.lemmas.List.{length-append, length-map}
use Rattle.orc_rules.specs.declared.entry.Entry.{Entry}
use Rattle.orc_rules.specs.declared.entry.Entry.TheVariants.{End, Fork, Seq, Other, Def, Open, Send, Call, Return, ReturnHalt, Bind, Lost, Right, Publish, Tick, Cancel}
use Rattle.orc_rules.specs.declared.entry.Entry.TheVariants as entry
use Rattle.orc_rules.specs.declared.param.Param.TheVariants.{Cell, Void}
use Rattle.orc_rules.specs.declared.value.Answer.TheVariants.{Value as Gives, Halt}
use Rattle.orc_rules.specs.Term.{Term, call, prune, put_all}
use Rattle.orc_rules.specs.Sites.{Site}
use Rattle.orc_rules.specs.Step.{Act, binds, publishes}
use Rattle.orc_rules.specs.Marked.{Marked, token, in_opened, erase, Replaces, Emits}
use Rattle.orc_rules.specs.Timed.{Context, CallMade, CancelsAfter, calls_after}
use Rattle.orc_rules.specs.Journal.{Place, moment, Moves, Acts, Enters, IsCancel, Journal, begin}
use Rattle.orc_subrun.specs.declared.numbers.Numbering.{Numbering}
use Rattle.orc_subrun.specs.Moved.{mark_in, cell_in, moved, moved_param, moved_term, moved_marked, IsStill, AreStill, IsLocal, AreLocal, IsSilent, AreSilent}
use Rattle.orc_subrun.specs.Grafts.{Follows, Grafts, PartIsGrafted}
use Rattle.orc_subrun.proofs.Calls.{IsOwnCall, new_calls, as_many, are_new, due_in}
use Rattle.orc_subrun.proofs.Cancels.{cancels_none}
use Rattle.orc_subrun.proofs.Holes.{Hole, plug, IsOpen, open_hole, hole_of, plug_replaces, plug_sends, plug_binds, plug_publishes}
use Rattle.orc_subrun.proofs.Marks.{later_mark}
use Rattle.orc_subrun.proofs.Shapes.{halted_moved, moved_replaces, moved_emits, put_moved, put_all_moved, fill_moved, values_moved, void_moved}

-- what every place of the part's own run keeps
pub record IsOwn (sites : List Site) (u : Place) : Type 0 where
  pub mark : 2 ≤ u.mark
  pub now : u.now ≡ 0
  pub calls : AllByRecursion (IsOwnCall sites) u.calls

pub begin_own : (sites : List Site) (t : Term) → IsOwn sites (begin t)
begin_own sites t = record { mark = omega arith; now = refl; calls = tt }

own_later : (sites : List Site) (u v : Place) → IsOwn sites u → u.mark ≤ v.mark → v.now ≡ u.now → AllByRecursion (IsOwnCall sites) v.calls → IsOwn sites v
own_later sites u v own le now calls = record { mark = omega (arith, le, own.mark); now = now ∙ own.now; calls = calls }

-- the whole's place, where p is the one before the part's first entry
abbrev pub whole : Numbering → Hole → Place → Place → Place
whole n h p u = record { marked = plug h (moved_marked n u.marked); mark = n.mark + u.mark - 2; now = p.now; calls = new_calls n p.now p.calls u.calls ++ p.calls; cells = map (cell_in n) u.cells ++ p.cells; to_cancel = [] }

abbrev mark_of : Place → ℕ
mark_of r = r.mark

abbrev made_by : Place → List CallMade
made_by r = r.calls

abbrev opened_by : Place → List ℕ
opened_by r = r.cells

module _ (n : Numbering) (h : Hole) (p : Place) where
  same_place : (v : Place) (k new : ℕ) (calls : List CallMade) (cells : List ℕ) → v.mark ≡ k → n.mark + k - 2 ≡ new → v.calls ≡ calls → v.cells ≡ cells
      → whole n h p v ≡ record { marked = plug h (moved_marked n v.marked); mark = new; now = p.now; calls = new_calls n p.now p.calls calls ++ p.calls; cells = map (cell_in n) cells ++ p.cells; to_cancel = [] }
  same_place v k new calls cells ek en ec es = λ i. record { marked = plug h (moved_marked n v.marked); mark = (ap (λ j. n.mark + j - 2) ek ∙ en) i; now = p.now; calls = new_calls n p.now p.calls (ec i) ++ p.calls; cells = map (cell_in n) (es i) ++ p.cells; to_cancel = [] }

  moved_moves : (u v : Place) (x y : Marked) (k new : ℕ) → n.mark + k - 2 ≡ new → Moves u x y k v → Moves (whole n h p u) (moved_marked n x) (moved_marked n y) new (whole n h p v)
  moved_moves u v x y k new en m = record { inside = _; part = plug_replaces h (moved_replaces n m.part); same = same_place v k new u.calls u.cells (ap mark_of m.same) en (ap made_by m.same) (ap opened_by m.same) }

own_moves : (sites : List Site) (u v : Place) (x y : Marked) (k : ℕ) → u.mark ≤ k → Moves u x y k v → IsOwn sites u → IsOwn sites v
own_moves sites u v x y k le m own =
    own_later sites u v own (omega (arith, le, ap mark_of m.same)) (ap (λ (r : Place). r.now) m.same)
    (subst (AllByRecursion (IsOwnCall sites)) (sym (ap made_by m.same)) own.calls)

own_acts : (x : Context) (u v : Place) (b : Act) (k : ℕ) → u.mark ≤ k → Acts x u b k v → AllByRecursion (IsOwnCall x.sites) (calls_after (moment u) b) → IsOwn x.sites u → IsOwn x.sites v
own_acts x u v b k le m calls own =
    own_later x.sites u v own (omega (arith, le, ap mark_of m.same)) (ap (λ (r : Place). r.now) m.same) (subst (AllByRecursion (IsOwnCall x.sites)) (sym (ap made_by m.same)) calls)

-- an entry keeps it
own_entered : (x : Context) (u v : Place) (e : Entry) → IsLocal x.sites e → Enters x u e v → IsOwn x.sites u → IsOwn x.sites v
own_entered x u v (End s) l m own = own_moves x.sites u v _ _ _ (omega arith) m own
own_entered x u v (Fork s a b) l (f, g, ea, eb, m) own = own_moves x.sites u v _ _ _ (omega (arith, ea, eb)) m own
own_entered x u v (Seq s a) l (f, g, z, ea, m) own = own_moves x.sites u v _ _ _ (omega (arith, ea)) m own
own_entered x u v (Other s a) l (f, g, ea, m) own = own_moves x.sites u v _ _ _ (omega (arith, ea)) m own
own_entered x u v (Def s a) l (e, ps, d, cs, ea, is, r, m) own = own_acts x u v _ _ (omega (arith, ea)) m own.calls own
own_entered x u v (entry.Void s) l (t, cs, is, r, m) own = own_acts x u v _ _ (omega arith) m own.calls own
own_entered x u v (Open s c a b) l (f, g, z, cs, ec, ea, eb, r, m) own = own_acts x u v _ _ (omega (arith, ea, eb)) m own.calls own
own_entered x u v (Send s a w) l (ea, r, m) own = own_acts x u v _ _ (omega (arith, ea)) m own.calls own
own_entered x u v (Call s k j args) l (ps, cs, ek, is, r, m) own = own_acts x u v _ _ (omega arith) m ((omega (arith, ek), own.now, l), own.calls) own
own_entered x u v (Return k a w) l (cs, ea, due, r, m) own = own_acts x u v _ _ (omega (arith, ea)) m own.calls own
own_entered x u v (ReturnHalt k) l (cs, due, r, m) own = own_acts x u v _ _ (omega arith) m own.calls own
own_entered x u v (Bind s c w) l (r, m) own = own_acts x u v _ _ (omega arith) m own.calls own
own_entered x u v (Lost c) l (f, g, cs, halted, r, m) own = own_acts x u v _ _ (omega arith) m own.calls own
own_entered x u v (Right s a) l (f, g, cs, ea, halted, r, m) own = own_acts x u v _ _ (omega (arith, ea)) m own.calls own
own_entered x u v (Publish s w) l (r, m) own = own_acts x u v _ _ (omega arith) m own.calls own
own_entered x u v (Tick t) l m own = elim l [ ]
own_entered x u v (Cancel k) l m own = elim l [ ]

-- where local entries go on, and at the end no cancel is due, none is due before
no_cancel : (sites : List Site) (e : Entry) → IsLocal sites e → IsCancel e → ⊥
no_cancel sites (Cancel k) l c = l
no_cancel sites (End s) l c = c
no_cancel sites (Fork s a b) l c = c
no_cancel sites (Seq s a) l c = c
no_cancel sites (Other s a) l c = c
no_cancel sites (Def s a) l c = c
no_cancel sites (entry.Void s) l c = c
no_cancel sites (Open s d a b) l c = c
no_cancel sites (Send s a v) l c = c
no_cancel sites (Call s k m args) l c = c
no_cancel sites (Return k a v) l c = c
no_cancel sites (ReturnHalt k) l c = c
no_cancel sites (Bind s d v) l c = c
no_cancel sites (Lost d) l c = c
no_cancel sites (Right s a) l c = c
no_cancel sites (Publish s v) l c = c
no_cancel sites (Tick t) l c = c

free_before : (x : Context) (u q : Place) (es : List Entry) → AreLocal x.sites es → Journal x u es q → q.to_cancel ≡ [] → u.to_cancel ≡ []
free_before x u q [] l j free = ap (λ (r : Place). r.to_cancel) j ∙ free
free_before x u q (e ∷ es) l (mid, lead, j) free = elim lead.0 [ inl c ↦ absurd (no_cancel x.sites e l.0 c) | inr none ↦ none ]

module _ (x : Context) (n : Numbering) (h : Hole) (p : Place) (still : AreStill x.definitions) (made : n.calls ≡ length p.calls) (opened : n.cells ≡ length p.cells) (fits : p.now < 2 ^ 64) where
  -- an entry of the part is one of the whole
  entered_whole : (u v : Place) (e : Entry) → IsLocal x.sites e → (IsOpen h ⊎ IsSilent e) → IsOwn x.sites u → v.to_cancel ≡ [] → Enters x u e v → Enters x (whole n h p u) (moved n e) (whole n h p v)
  entered_whole u v e l may own free = by_entry e l may
    where
      -- the mark that comes next, in the whole
      first : (a : ℕ) → a ≡ u.mark → mark_in n a ≡ n.mark + u.mark - 2
      first a ea = later_mark n a (omega (arith, ea, own.mark)) ∙ ap (λ j. n.mark + j - 2) ea

      after : (a k : ℕ) → 2 ≤ a → k ≡ suc a → n.mark + k - 2 ≡ suc (mark_in n a)
      after a k le ek = omega (arith, ek, le, later_mark n a le)

      least : (a : ℕ) → a ≡ u.mark → 2 ≤ a
      least a ea = omega (arith, ea, own.mark)

      second : (a b : ℕ) → a ≡ u.mark → b ≡ suc a → mark_in n b ≡ suc (mark_in n a)
      second a b ea eb = later_mark n b (omega (arith, eb, least a ea)) ∙ after a b (least a ea) eb

      third : (a b : ℕ) → a ≡ u.mark → b ≡ suc a → n.mark + suc b - 2 ≡ suc (mark_in n b)
      third a b ea eb = after b (suc b) (omega (arith, eb, least a ea)) refl

      next_one : (a : ℕ) → a ≡ u.mark → n.mark + suc a - 2 ≡ suc (mark_in n a)
      next_one a ea = after a (suc a) (least a ea) refl

      same : (k new : ℕ) (calls : List CallMade) (cells : List ℕ) → v.mark ≡ k → n.mark + k - 2 ≡ new → v.calls ≡ calls → v.cells ≡ cells
          → whole n h p v ≡ record { marked = plug h (moved_marked n v.marked); mark = new; now = p.now; calls = new_calls n p.now p.calls calls ++ p.calls; cells = map (cell_in n) cells ++ p.cells; to_cancel = [] }
      same = same_place n h p v

      by_entry : (e : Entry) → IsLocal x.sites e → (IsOpen h ⊎ IsSilent e) → Enters x u e v → Enters x (whole n h p u) (moved n e) (whole n h p v)
      by_entry (End s) l may m = moved_moves n h p u v _ _ _ _ refl m
      by_entry (Fork s a b) l may (f, g, ea, eb, m) = (moved_term n f, moved_term n g, first a ea, second a b ea eb, moved_moves n h p u v _ _ _ _ (third a b ea eb) m)
      by_entry (Seq s a) l may (f, g, z, ea, m) = (moved_term n f, moved_term n g, z, first a ea, moved_moves n h p u v _ _ _ _ (next_one a ea) m)
      by_entry (Other s a) l may (f, g, ea, m) = (moved_term n f, moved_term n g, first a ea, moved_moves n h p u v _ _ _ _ (next_one a ea) m)
      by_entry (Def s a) l may (e, ps, d, cs, ea, is, r, m) =
          let body : moved_term n (put_all d.params ps d.body) ≡ put_all d.params (map (moved_param n) ps) d.body = put_all_moved n d.params ps d.body ∙ ap (put_all d.params (map (moved_param n) ps)) (still e d is n) in (
            e,
            map (moved_param n) ps,
            d,
            _,
            first a ea,
            is,
            plug_replaces h (subst (λ z. Replaces (token (mark_in n s) (call e (map (moved_param n) ps))) (token (mark_in n a) z) (moved_marked n u.marked) (map (cell_in n) cs) (moved_marked n v.marked)) body (moved_replaces n r)),
            record { to_cancel = refl; same = same _ _ _ _ (ap mark_of m.same) (next_one a ea) (ap made_by m.same) (ap opened_by m.same) },
          )
      by_entry (entry.Void s) l may (t, cs, is, r, m) =
          (moved_term n t, _, void_moved n t is, plug_replaces h (moved_replaces n r), record { to_cancel = refl; same = same _ _ _ _ (ap mark_of m.same) refl (ap made_by m.same) (ap opened_by m.same) })
      by_entry (Open s c a b) l may (f, g, z, cs, ec, ea, eb, r, m) =
          let all : length (map (cell_in n) u.cells ++ p.cells) ≡ length u.cells + length p.cells = length-append (map (cell_in n) u.cells) p.cells ∙ ap (λ i. i + length p.cells) (length-map u.cells (cell_in n)) in (
            moved_term n f,
            moved_term n g,
            z,
            _,
            omega (arith, ec, all, opened),
            first a ea,
            second a b ea eb,
            plug_replaces h
                (subst (λ y. Replaces (token (mark_in n s) (prune (moved_term n f) z (moved_term n g))) (in_opened (token (mark_in n a) y) (cell_in n c) (token (mark_in n b) (moved_term n g))) (moved_marked n u.marked) (map (cell_in n) cs) (moved_marked n v.marked))
                (put_moved n (Cell c) z f) (moved_replaces n r)),
            record { to_cancel = refl; same = same _ _ _ _ (ap mark_of m.same) (third a b ea eb) (ap made_by m.same) (ap opened_by m.same) },
          )
      by_entry (Send s a w) l may (ea, r, m) = (first a ea, plug_sends h (moved_emits n r), record { to_cancel = refl; same = same _ _ _ _ (ap mark_of m.same) (next_one a ea) (ap made_by m.same) (ap opened_by m.same) })
      by_entry (Call s k j args) l may (ps, cs, ek, is, r, m) =
          let all : length (new_calls n p.now p.calls u.calls ++ p.calls) ≡ length u.calls + length p.calls = length-append (new_calls n p.now p.calls u.calls) p.calls ∙ ap (λ i. i + length p.calls) (as_many n p.now p.calls u.calls) in (
            map (moved_param n) ps,
            _,
            omega (arith, ek, all, made),
            values_moved n ps ∙ is,
            plug_replaces h (moved_replaces n r),
            record {
              to_cancel = refl;
              same = λ i. record { marked = plug h (moved_marked n v.marked); mark = n.mark + ap mark_of m.same i - 2; now = p.now; calls = new_calls n p.now p.calls (ap made_by m.same i) ++ p.calls; cells = map (cell_in n) (ap opened_by m.same i) ++ p.cells; to_cancel = [] };
            },
          )
      by_entry (Return k a w) l may (cs, ea, due, r, m) = (
        _,
        first a ea,
        due_in x.sites n p.now p.calls u.calls k (Gives w) u.now own.calls own.now fits due,
        plug_replaces h (moved_replaces n r),
        record { to_cancel = refl; same = same _ _ _ _ (ap mark_of m.same) (next_one a ea) (ap made_by m.same) (ap opened_by m.same) },
      )
      by_entry (ReturnHalt k) l may (cs, due, r, m) = (
        _,
        due_in x.sites n p.now p.calls u.calls k Halt u.now own.calls own.now fits due,
        plug_replaces h (moved_replaces n r),
        record { to_cancel = refl; same = same _ _ _ _ (ap mark_of m.same) refl (ap made_by m.same) (ap opened_by m.same) },
      )
      by_entry (Bind s c w) l may (r, m) = (
        subst (λ a. Emits (mark_in n s) a w (plug h (moved_marked n u.marked)) (binds (cell_in n c) w) (plug h (moved_marked n v.marked))) (first u.mark refl) (plug_binds h (moved_emits n r)),
        record {
          to_cancel = cancels_none x n h u.marked v.marked c w (subst (CancelsAfter x (binds c w) (erase u.marked) (erase v.marked)) free m.to_cancel);
          same = same _ _ _ _ (ap mark_of m.same) refl (ap made_by m.same) (ap opened_by m.same);
        },
      )
      by_entry (Lost c) l may (f, g, cs, halted, r, m) = (
        moved_marked n f,
        moved_marked n g,
        _,
        halted_moved n g halted,
        plug_replaces h (subst (λ y. Replaces (in_opened (moved_marked n f) (cell_in n c) (moved_marked n g)) y (moved_marked n u.marked) (map (cell_in n) cs) (moved_marked n v.marked)) (fill_moved n Void c f) (moved_replaces n r)),
        record { to_cancel = refl; same = same _ _ _ _ (ap mark_of m.same) refl (ap made_by m.same) (ap opened_by m.same) },
      )
      by_entry (Right s a) l may (f, g, cs, ea, halted, r, m) = (
        moved_marked n f,
        moved_term n g,
        _,
        first a ea,
        halted_moved n f halted,
        plug_replaces h (moved_replaces n r),
        record { to_cancel = refl; same = same _ _ _ _ (ap mark_of m.same) (next_one a ea) (ap made_by m.same) (ap opened_by m.same) },
      )
      by_entry (Publish s w) l (inl is) (r, m) = (
        subst (λ a. Emits (mark_in n s) a w (plug h (moved_marked n u.marked)) (publishes w) (plug h (moved_marked n v.marked))) (first u.mark refl) (plug_publishes h is (moved_emits n r)),
        record { to_cancel = refl; same = same _ _ _ _ (ap mark_of m.same) refl (ap made_by m.same) (ap opened_by m.same) },
      )
      by_entry (Publish s w) l (inr silent) m = elim silent [ ]
      by_entry (Tick t) l may m = elim l [ ]
      by_entry (Cancel k) l may m = elim l [ ]

  journal_whole : (u q : Place) (es : List Entry) → AreLocal x.sites es → (IsOpen h ⊎ AreSilent es) → IsOwn x.sites u → q.to_cancel ≡ [] → Journal x u es q → Journal x (whole n h p u) (map (moved n) es) (whole n h p q) × IsOwn x.sites q
  journal_whole u q [] l may own free j = (ap (whole n h p) j, subst (IsOwn x.sites) j own)
  journal_whole u q (e ∷ es) l may own free (mid, lead, j) =
      let rest = journal_whole mid q es l.1 (elim may [ inl o ↦ inl o | inr s ↦ inr s.1 ]) (own_entered x u mid e l.0 lead.1 own) free j in
      ((whole n h p mid, (inr refl, entered_whole u mid e l.0 (elim may [ inl o ↦ inl o | inr s ↦ inr s.0 ]) own (free_before x mid q es l.1 j free) lead.1), rest.0), rest.1)

-- the part's first place is the whole's
begin_whole : (n : Numbering) (h : Hole) (p : Place) (t : Term) → IsStill t → n.mark ≡ p.mark → p.to_cancel ≡ [] → p.marked ≡ plug h (token n.token t) → whole n h p (begin t) ≡ p
begin_whole n h p t still em free es =
    let mark : n.mark + 2 - 2 ≡ p.mark = omega (arith, em) in
    let marked : plug h (token n.token (moved_term n t)) ≡ p.marked = ap (λ z. plug h (token n.token z)) (still n) ∙ sym es in
    λ i. record { marked = marked i; mark = mark i; now = p.now; calls = p.calls; cells = p.cells; to_cancel = sym free i }

-- where the part stands
at_hole : (x : Context) (n : Numbering) (h : Hole) (t : Term) (es : List Entry) (q p : Place) (m : Marked) → AreStill x.definitions → IsStill t → Journal x (begin t) es q → AreLocal x.sites es → q.to_cancel ≡ [] → Follows n p
    → p.now < 2 ^ 64 → p.to_cancel ≡ [] → (IsOpen h ⊎ AreSilent es) → p.marked ≡ plug h (token n.token t) → m ≡ plug h (moved_marked n q.marked) → (r : Place) × (r.marked ≡ m) × Grafts x n es q p r
at_hole x n h t es q p m still sober j local done follows fits free may at to =
    let g = journal_whole x n h p still follows.calls follows.cells fits (begin t) q es local may (begin_own x.sites t) done j in
    let le : 2 ≤ q.mark = g.1.mark in (
      whole n h p q,
      sym to,
      record {
        leads = subst (λ w. Journal x w (map (moved n) es) (whole n h p q)) (begin_whole n h p t sober follows.mark free at) g.0;
        mark = omega (arith, follows.mark, le);
        now = refl;
        to_cancel = refl;
        calls = new_calls n p.now p.calls q.calls;
        made = refl;
        as_many = as_many n p.now p.calls q.calls;
        new = are_new x.sites n p.now p.calls q.calls follows.calls g.1.calls;
        opened = omega (arith, length-append (map (cell_in n) q.cells) p.cells, length-map q.cells (cell_in n));
      },
    )

pub part_is_grafted : PartIsGrafted
part_is_grafted x n t es q p m still sober j local done follows fits free (inl b) =
    let at = open_hole b in
    at_hole x n at.0 t es q p m still sober j local done follows fits free (inl at.3) at.1 at.2
part_is_grafted x n t es q p m still sober j local done follows fits free (inr (silent, cs, r)) =
    let at = hole_of r in
    at_hole x n at.0 t es q p m still sober j local done follows fits free (inr silent) at.1 at.2
