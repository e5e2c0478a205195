-- Each entry with which the journal of a ledger may go on is offered by its calls.
use Rattle.std.proofs.Common.{◌≡◌, ℕ, List, refl, sym, ap, ◌∙◌, subst, arith, inl, inr, ◌⊎◌, ⊎_elim, true, cond, eq-eqb}
use Rattle.orc_rules.specs.declared.value.Answer.{Answer}
use Rattle.orc_rules.specs.declared.value.Answer.TheVariants as answer
use Rattle.orc_rules.specs.declared.entry.Entry.{Entry}
use Rattle.orc_rules.specs.declared.entry.Entry.TheVariants as entry
use Rattle.orc_rules.specs.declared.entry.RuleFault.TheVariants as reason
use Rattle.orc_rules.specs.Term.{Term, stop, param, site, call, par, seq, prune, other, pending, opened}
use Rattle.orc_rules.specs.Idle.{has_halted}
use Rattle.orc_rules.specs.Nodes.{Listing, code, definitions}
use Rattle.orc_rules.specs.Sites.{Site}
use Rattle.orc_rules.specs.Lost.{IsSource, IsMove}
use Rattle.orc_rules.specs.Marked.{Marked, in_call, Replaces, here, in_left, in_right, in_feeding, in_main, in_side, in_entered}
use Rattle.orc_rules.specs.Numbered.{cell, mark}
use Rattle.orc_rules.specs.Timed.{IsIn, IsDue, IsQuiet}
use Rattle.orc_rules.specs.Journal.{Place, Leads, moment}
use Rattle.orc_rules.specs.Refusal.{HasCall, IsCounted, IsOver}
use Rattle.orc_rules.proofs.Refusal.{meets_and_leads}
use Rattle.orc_frames.specs.Spelling.{Path, whole, feeding, aiding, trying, pends, marks}
use Rattle.orc_ledger_spec.specs.Records.{Records, context, its_path, raw_path}
use Rattle.orc_frames.specs.Paths.{has_published}
use Rattle.orc_tables.specs.PendingCalls.{has_number}
use Rattle.orc_ledger_spec.specs.Doing.{term_of, what_of}
use Rattle.orc_frames.specs.Doing.{what_by}
use Rattle.orc_ledger_spec.specs.Kept.{Kept}
use Rattle.orc_ledger_spec.specs.Next.{Next, ticks, quiet, next_of, numbers_of}
use Rattle.orc_ledger_spec.specs.Laws.{IsDelayed}
use Rattle.orc_ledger_spec.specs.Offered.{is_move, HasNext, IsAnswerable, IsLosing, IsStarting, IsWithheld, ComesNext, IsOffered, NothingIsLost}
use Rattle.orc_tables.specs.declared.records.Token.{Token}
use Rattle.orc_tables.specs.declared.records.Call.{Call}
use Rattle.orc_frames.specs.declared.action.Action.TheVariants as what
use Rattle.orc_indexes.proofs.Weight.{weight-in}
use Rattle.orc_frames.proofs.Finding.{in_front, in_back}
use Rattle.orc_ledger_spec.proofs.Filled.{inside-seen}
use Rattle.orc_ledger_spec.proofs.Offers.{its_source}
use Rattle.orc_ledger_spec.proofs.Resting.{row_of, within-seen}
use Rattle.orc_ledger_spec.proofs.Words.{none-lost}
use Rattle.orc_ledger_spec.proofs.Withheld.{tick-next, quiet-next}
use Rattle.orc_ledger_spec.proofs.Answered.{one-place}
use Rattle.orc_ledger_spec.proofs.Over.{right-dead, left-dead, right-some, left-some, no-call, token-done, right-group, left-group}

-- a call that pends has a row
pends_row : {k : ℕ} {y m m' : Marked} {cs : List ℕ} → Replaces (in_call k) y m cs m' → (p : Path) → (q : Path) × IsIn (pends k q) (marks p m)
pends_row here p = (p, inl refl)
pends_row (in_left {f = f} {g = g} r) p = let d = pends_row r p in (d.0, in_front _ (marks p f) (marks p g) d.1)
pends_row (in_right {f = f} {g = g} r) p = let d = pends_row r p in (d.0, in_back _ (marks p f) (marks p g) d.1)
pends_row (in_feeding {z = z} {g = g} r) p = pends_row r (feeding z g p)
pends_row (in_main {f = f} {g = g} {c = c} r) p = let d = pends_row r p in (d.0, in_front _ (marks p f) (marks (aiding c p) g) d.1)
pends_row (in_side {f = f} {g = g} {c = c} r) p = let d = pends_row r (aiding c p) in (d.0, in_back _ (marks p f) (marks (aiding c p) g) d.1)
pends_row (in_entered {n = n} r) p = pends_row r (trying n p)

module _ (l : Listing) (sites : List Site) (counts : List (List ℕ × ℕ)) (sizes : List ℕ) (s : Records) (K : Kept l sites counts sizes s) where
  abbrev at : Place
  at = K.lawful.place

  -- the next numbers are the ledger's
  next_numbers : (e : Entry) → IsCounted at e → HasNext s e
  next_numbers (entry.End t) h = tt
  next_numbers (entry.Fork t a b) h = (h.0 ∙ K.lawful.spells.mark, omega (arith, h.0, h.1, K.lawful.spells.mark))
  next_numbers (entry.Seq t a) h = h ∙ K.lawful.spells.mark
  next_numbers (entry.Other t a) h = h ∙ K.lawful.spells.mark
  next_numbers (entry.Def t a) h = h ∙ K.lawful.spells.mark
  next_numbers (entry.Void t) h = tt
  next_numbers (entry.Open t c a b) h = (h.0 ∙ sym K.lawful.spells.cells, h.1 ∙ K.lawful.spells.mark, omega (arith, h.1, h.2, K.lawful.spells.mark))
  next_numbers (entry.Send t a v) h = h ∙ K.lawful.spells.mark
  next_numbers (entry.Call t k m args) h = omega (arith, h, K.lawful.spells.made)
  next_numbers (entry.Return k a v) h = h ∙ K.lawful.spells.mark
  next_numbers (entry.ReturnHalt k) h = tt
  next_numbers (entry.Bind t c v) h = tt
  next_numbers (entry.Lost c) h = tt
  next_numbers (entry.Right n a) h = h ∙ K.lawful.spells.mark
  next_numbers (entry.Publish t v) h = tt
  next_numbers (entry.Tick t) h = tt
  next_numbers (entry.Cancel k) h = tt

  -- a pending call is one of the records
  call_with : (k : ℕ) → HasCall at k → (c : Call) × IsIn c s.calls × (c.number ≡ k)
  call_with k h =
      let d = pends_row h.1 whole in
      ⊎_elim
      (λ a. let e = a.2 in cc e)
      (λ b. let c : Call = b.0 in let e = b.2 in let same : c.number ≡ k = cc e in (b.0, b.1, same))
      (row_of l sites s K.lawful (pends k d.0) d.1)

  answerable : (k : ℕ) (a : Answer) → HasCall at k → IsDue sites at.calls k a at.now → IsAnswerable l sites s k a
  answerable k a there due =
      let c = call_with k there in
      record {
        call = (c.0, (c.1, c.2));
        found = λ none. omega (arith, none, weight-in (has_number k) s.calls c.0 c.1, ap (λ b. cond {A = ℕ} b 1 0) (eq-eqb k (Call.number c.0) (sym c.2)));
        right = λ wrong. wrong.1 (at, K.lawful.leads, due);
      }

  -- what has halted and is a source's is a move of marks
  moves_word : (p : Path) (u : Term) → IsSource u → has_halted u ≡ true → is_move (what_by (definitions l) p u) ≡ true
  moves_word p stop src h = refl
  moves_word p (par f g) src h = refl
  moves_word p (seq f x g) src h = refl
  moves_word p (param q) src h = cc h
  moves_word p (site m ps) src h = cc h
  moves_word p (call e ps) src h = cc h
  moves_word p (prune f x g) src h = cc h
  moves_word p (other f g) src h = cc h
  moves_word p (pending k) src h = elim src [ ]
  moves_word p (opened f c g) src h = elim src [ ]

  losing : (c : ℕ) → IsOver at (entry.Lost c) → IsLosing l sites s c
  losing c (f, g, (cs, r), halted) =
      let L = K.lawful in
      let dead = right-dead l sites s L c f g _ _ cs r halted in
      let grp = right-group l sites s L c (right-some l sites s L c f g _ _ cs r halted) in
      let seen_in = λ (i : ℕ). inside-seen c (has_published s.steps) (raw_path (code l) s i) in
      record {
        group = grp.0;
        is_open = grp.1;
        side = grp.2;
        done = record {
          calls = λ k i. sym (seen_in k.step) ∙ no-call l sites s L (cell c) dead k i;
          tokens = λ t i inn. moves_word (its_path (code l) s t.step) (term_of (code l) s t) (its_source l sites s L t i) (token-done l sites s L (cell c) dead t i (seen_in t.step ∙ inn));
        };
      }

  starting : (n a : ℕ) → IsOver at (entry.Right n a) → IsStarting l sites s n
  starting n a (f, g, (cs, r), halted) =
      let L = K.lawful in
      let dead = left-dead l sites s L n f g _ _ cs r halted in
      let grp = left-group l sites s L n (left-some l sites s L n f g _ _ cs r halted) in
      let seen_in = λ (i : ℕ). within-seen n (has_published s.steps) (raw_path (code l) s i) grp.5 in
      record {
        group = grp.0;
        is_open = grp.1;
        node = grp.2;
        scope = grp.3;
        side = grp.4;
        stays = grp.5;
        done = record {
          calls = λ k i. sym (seen_in k.step) ∙ no-call l sites s L (mark n) dead k i;
          tokens = λ t i inn. moves_word (its_path (code l) s t.step) (term_of (code l) s t) (its_source l sites s L t i) (token-done l sites s L (mark n) dead t i (seen_in t.step ∙ inn));
        };
      }

  -- an entry that is a move of marks is a token's word
  by_move : (e : Entry) (q : Place) → Leads (context l sites) at e q → IsMove e → (t : Token) × IsIn t s.tokens × (is_move (what_of (code l) (definitions l) s t) ≡ true)
  by_move (entry.End r) q h m = let d = none-lost l sites s K.lawful (entry.End r) q r what.Halt h refl in (d.0, d.1, ap is_move d.3)
  by_move (entry.Fork r a b) q h m = let d = none-lost l sites s K.lawful (entry.Fork r a b) q r what.Fork h refl in (d.0, d.1, ap is_move d.3)
  by_move (entry.Seq r a) q h m = let d = none-lost l sites s K.lawful (entry.Seq r a) q r what.Seq h refl in (d.0, d.1, ap is_move d.3)
  by_move (entry.Other r a) q h m = let d = none-lost l sites s K.lawful (entry.Other r a) q r what.Other h refl in (d.0, d.1, ap is_move d.3)
  by_move (entry.Def r a) q h m = absurd m
  by_move (entry.Void r) q h m = absurd m
  by_move (entry.Open r c a b) q h m = absurd m
  by_move (entry.Send r a v) q h m = absurd m
  by_move (entry.Call r k n args) q h m = absurd m
  by_move (entry.Bind r c v) q h m = absurd m
  by_move (entry.Publish r v) q h m = absurd m
  by_move (entry.Return k a v) q h m = absurd m
  by_move (entry.ReturnHalt k) q h m = absurd m
  by_move (entry.Lost c) q h m = absurd m
  by_move (entry.Right r a) q h m = absurd m
  by_move (entry.Tick t) q h m = absurd m
  by_move (entry.Cancel k) q h m = absurd m

  withheld : IsDelayed l (numbers_of s) s sites at → IsWithheld l sites s
  withheld h = ⊎_elim (λ a. inl (by_move a.0.entry_is a.0.after a.0.leads a.1)) (λ b. inr b) h

  comes : (n : Next) → (next_of (code l) (definitions l) (numbers_of s) s ≡ n) ⊎ IsDelayed l (numbers_of s) s sites at → ComesNext l sites s n
  comes n h = ⊎_elim (λ a. inl a) (λ b. inr (withheld b)) h

  offered_at : (q : Place) (e : Entry) → Leads (context l sites) at e q → IsOffered l sites s e
  offered_at q (entry.End t) h = none-lost l sites s K.lawful (entry.End t) q t what.Halt h refl
  offered_at q (entry.Fork t a b) h = none-lost l sites s K.lawful (entry.Fork t a b) q t what.Fork h refl
  offered_at q (entry.Seq t a) h = none-lost l sites s K.lawful (entry.Seq t a) q t what.Seq h refl
  offered_at q (entry.Other t a) h = none-lost l sites s K.lawful (entry.Other t a) q t what.Other h refl
  offered_at q (entry.Def t a) h = none-lost l sites s K.lawful (entry.Def t a) q t what.Def h refl
  offered_at q (entry.Void t) h = none-lost l sites s K.lawful (entry.Void t) q t what.Void h refl
  offered_at q (entry.Open t c a b) h = none-lost l sites s K.lawful (entry.Open t c a b) q t what.Prune h refl
  offered_at q (entry.Send t a v) h = none-lost l sites s K.lawful (entry.Send t a v) q t (what.Send v) h refl
  offered_at q (entry.Call t k m args) h = none-lost l sites s K.lawful (entry.Call t k m args) q t what.Call h refl
  offered_at q (entry.Bind t c v) h = none-lost l sites s K.lawful (entry.Bind t c v) q t (what.Bind c v) h refl
  offered_at q (entry.Publish t v) h = none-lost l sites s K.lawful (entry.Publish t v) q t (what.Publish v) h refl
  offered_at q (entry.Return k a v) h = let m = (meets_and_leads (context l sites) at (entry.Return k a v)).1 q h in answerable k (answer.Value v) (m reason.Mark) (m reason.Time)
  offered_at q (entry.ReturnHalt k) h = let m = (meets_and_leads (context l sites) at (entry.ReturnHalt k)).1 q h in answerable k answer.Halt (m reason.Mark) (m reason.Time)
  offered_at q (entry.Lost c) h = losing c ((meets_and_leads (context l sites) at (entry.Lost c)).1 q h reason.Halted)
  offered_at q (entry.Right n a) h = starting n a ((meets_and_leads (context l sites) at (entry.Right n a)).1 q h reason.Halted)
  offered_at q (entry.Tick t) h = ((at, K.lawful.leads, h.1.0), comes (ticks t) (tick-next l sites s K.lawful K.told (numbers_of s) K.grouped t h.1.0))
  offered_at q (entry.Cancel k) h = cc (h.1.0, K.lawful.spells.none_due)

  pub nothing-lost : NothingIsLost l sites s
  nothing-lost =
      record {
        entries = λ p q e is h.
            let lead = subst (λ z. Leads (context l sites) z e q) (one-place l sites counts sizes s K p is) h in
            (next_numbers e ((meets_and_leads (context l sites) at e).1 q lead reason.Number), offered_at q e lead);
        rests = λ p is still. comes quiet (quiet-next l sites s K.lawful K.told (numbers_of s) K.grouped (subst (λ z. IsQuiet (context l sites) (moment z)) (one-place l sites counts sizes s K p is) still));
      }
