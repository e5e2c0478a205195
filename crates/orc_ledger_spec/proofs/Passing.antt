-- A tick, and a void token, keep the book lawful.
use Rattle.std.proofs.Common.{◌≡◌, ◌<◌, ℕ, ◌+◌, List, [], ◌∷◌, ◌++◌, refl, sym, ap, ◌∙◌, subst, arith, inr, length, append-nil}
use Rattle.std.specs.Prelude.{slice_get}
use Rattle.orc_rules.specs.declared.entry.Entry.TheVariants as entry
use Rattle.orc_rules.specs.Nodes.{Listing, code, source}
use Rattle.orc_rules.specs.Sites.{Site}
use Rattle.orc_rules.specs.Marked.{ended, token, Replaces, here}
use Rattle.orc_rules.specs.Timed.{IsIn, IsTick}
use Rattle.orc_rules.specs.Journal.{Place, moment, IsVoid, Leads, begin}
use Rattle.orc_env.specs.declared.names.Bound.{Bound}
use Rattle.orc_env.specs.Scopes.{current}
use Rattle.orc_indexes.specs.Same.{weight, only}
use Rattle.orc_ledger_spec.specs.Records.{Records, Lawful, context, its_env, is_settled, counts}
use Rattle.orc_frames.specs.Paths.{standing}
use Rattle.orc_ledger_spec.specs.Calls.{Turns}
use Rattle.orc_tables.specs.declared.records.Token.{Token}
use Rattle.orc_tables.specs.declared.records.Group.{Group}
use Rattle.orc_ledger_spec.proofs.Written.{written-kept}
use Rattle.orc_indexes.proofs.Weight.{weight-append}
use Rattle.orc_frames.proofs.Around.{plug, cells_of, replaced}
use Rattle.orc_ledger_spec.proofs.Lists.{token_found}
use Rattle.orc_ledger_spec.proofs.Binding.{journal_more}
use Rattle.orc_ledger_spec.proofs.Turning.{turned}
use Rattle.orc_ledger_spec.proofs.Sound.{sound_turned}

module _ (l : Listing) (sites : List Site) (s : Records) (L : Lawful l sites s) where
  -- the records with another time, and the entry
  abbrev pub ticked : ℕ → Records
  ticked t = record s { journal = s.journal ++ entry.Tick t ∷ []; entries = s.entries + 1; now = t }

  pub tick-lawful : (t : ℕ) → IsTick (context l sites) (moment L.place) t → s.entries < s.limit → Lawful l sites (ticked t)
  tick-lawful t tick room =
      let x = context l sites in
      let q : Place = record L.place { now = t } in
      record {
        place = q;
        leads = journal_more x (begin (source l)) L.place q s.journal (entry.Tick t ∷ []) L.leads (q, (inr L.spells.none_due, (tick, refl)), refl);
        spells = record { rows = L.spells.rows; sides = L.spells.sides; mark = L.spells.mark; cells = L.spells.cells; now = refl; made = L.spells.made; none_due = L.spells.none_due };
        sound = record { tokens = L.sound.tokens; calls = L.sound.calls; groups = L.sound.groups; steps = L.sound.steps; outwards = L.sound.outwards; scopes = L.sound.scopes; own = L.sound.own; cells = L.sound.cells; apart = L.sound.apart; once = L.sound.once };
        entries = omega (arith, L.entries, weight-append counts s.journal (entry.Tick t ∷ []));
        within = omega (arith, room);
        small = L.small;
        counted = omega (arith, L.counted);
        written = written-kept s (ticked t) (entry.Tick t ∷ []) refl (λ w. omega arith) L.written;
      }

  pub void-lawful : (t : Token) → IsIn t s.tokens → IsVoid (standing (code l) (its_env (code l) s) t.standing) → s.entries < s.limit → (s' : Records) → Turns s s' t [] [] [] [] [] (entry.Void t.serial) → Lawful l sites s'
  void-lawful t i void room s' T =
      let f = token_found l sites s L t i in
      let cells : s'.cells ≡ s.cells = T.cells ∙ append-nil s.cells in
      let plain : (b : Bound) → current s'.cells b ≡ current s.cells b = λ b. ap (λ z. current z b) cells in
      let term = standing (code l) (its_env (code l) s) t.standing in
      let q : Place = record L.place { marked = plug f.around ended } in
      let part : Replaces (token t.serial term) ended L.place.marked (cells_of f.around []) (plug f.around ended) = subst (λ m. Replaces (token t.serial term) ended m (cells_of f.around []) (plug f.around ended)) f.is (replaced f.around here) in
      let leads : Leads (context l sites) L.place (entry.Void t.serial) q = (inr L.spells.none_due, (term, cells_of f.around [], void, part, record { to_cancel = L.spells.none_due; same = refl })) in
      turned l sites s L t i s' [] [] [] [] [] (entry.Void t.serial) T (λ n. refl) plain q ended refl leads (λ w. refl) (λ v. refl)
      (omega (arith, L.spells.mark, T.mark)) (ap length cells ∙ L.spells.cells) (L.spells.now ∙ sym T.now) (L.spells.made ∙ sym T.made) L.spells.none_due (omega arith) refl room
      (sound_turned l sites s L t i s' [] [] [] [] [] (entry.Void t.serial) T (λ n. refl) plain refl refl refl (λ k p h. cc h) (λ k p h. cc h)
      (λ c d h. L.sound.own c d (ap (λ z. slice_get z c) (sym cells) ∙ h))
      (omega (arith, T.groups (only (λ g. is_settled s'.cells g.side) (λ g. 1)), ap (λ z. weight (only (λ (g : Group). is_settled z g.side) (λ g. 1)) s.groups) cells, L.sound.cells))
      (λ m h. absurd (omega (arith, h))) (λ m. omega arith))
