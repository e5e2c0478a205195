use Rattle.std.proofs.Common.{◌≡◌, ◌<◌, ◌++◌, ℕ, ◌+◌, [], ◌∷◌, sym, refl, ap, ◌∙◌, arith, append-nil}
use Rattle.orc_rules.specs.declared.entry.Entry.TheVariants.{End}
use Rattle.orc_rules.specs.Timed.{IsIn}
use Rattle.orc_rules.specs.Nodes.{code, definitions}
use Rattle.orc_indexes.specs.Same.{weight}
use Rattle.orc_ledger_spec.specs.Records.{Records}
use Rattle.orc_tables.specs.Tokens.{live, IsHeld}
use Rattle.orc_ledger_spec.specs.Calls.{IsEnded}
use Rattle.orc_tables.specs.declared.records.Token.{Token}
use Rattle.orc_ledger_spec.proofs.AtRest.{rest-kept, same-terms}
use Rattle.orc_tables.proofs.Slots.{live-in, removed}
use Rattle.orc_ledger_spec.proofs.Calling.{turns-told}
use Rattle.orc_ledger_spec.proofs.Keeping.{counted-kept}
use Rattle.orc_ledger_spec.proofs.Made.{turns}
use Rattle.orc_ledger_spec.proofs.Leaves.{end-lawful}
use Rattle.orc_ledger_spec.proofs.Grouped.{ended-grouped}
use Rattle.orc_indexes.specs.Same.{is_this}
use Rattle.orc_ledger_spec.proofs.Sizes.{turned-members}
use Rattle.orc_ledger_spec.proofs.Brought.{turned-flat}
use Rattle.orc_ledger.proofs.Others.{set-others}
use Rattle.orc_ledger.proofs.ledger.Ledger.end.Goals as goal

pub invariant_of-self-2 : goal.invariant_of-self-2
invariant_of-self-2 g c =
    let b = c.self.inside in
    let a = c.args in
    let l = g.P.Run.listing in
    let sites = g.P.Run.sites in
    let cd = code l in
    let s : Records = record { limit = b.limit; journal = b.journal.entries; entries = b.entries; next_mark = b.next_mark; now = b.time; made = b.calls.made; tokens = live b.tokens.items; slots = b.tokens.items; calls = b.calls.items; scopes = b.scopes.items; steps = b.steps.items; groups = b.groups.items; cells = b.cells.items } in
    let L = c.self.invariant.kept.lawful in
    let G = c.self.invariant.kept.grouped in
    let held : IsHeld s.slots a.slot a.token = rw (← c.self.view_is) at c.requires.held in
    let i : IsIn a.token s.tokens = live-in s.slots a.slot a.token held in
    let room : s.entries < s.limit = rw (← c.self.view_is) at c.in_ok-within.ensures.room in
    let s' : Records = record { limit = b.limit; journal = c.write.new.journal.entries; entries = b.entries + 1; next_mark = b.next_mark; now = b.time; made = b.calls.made; tokens = live c.remove.new.self.items; slots = c.remove.new.self.items; calls = b.calls.items; scopes = b.scopes.items; steps = b.steps.items; groups = c.leave.new.self.items; cells = b.cells.items } in
    let journal : s'.journal ≡ s.journal ++ End a.token.serial ∷ [] = ap (λ j. j.entries) c.in_ok-write.ensures.added in
    let tokens : (w : Token → ℕ) → weight w s'.tokens + w a.token ≡ weight w s.tokens + 0 = λ w. omega (arith, ap (λ z. weight w (live z)) c.remove.ensures.items.2, removed w s.slots a.slot a.token c.remove.ensures.items.0 held c.remove.ensures.items.1) in
    let T : IsEnded s a.token s' = turns s s' a.token [] [] [] [] [] (End a.token.serial) refl journal refl (omega arith) refl refl tokens refl (sym (append-nil s.scopes)) (sym (append-nil s.steps)) (c.leave.ensures.items ∙ sym (append-nil s.groups)) (sym (append-nil s.cells)) in
    let L' = end-lawful l sites s L a.token i c.requires.at.0 c.requires.at.1 c.requires.at.2 c.requires.at.3 s' room T in
    record {
      kept = record {
        lawful = L';
        grouped = ended-grouped l sites s L G a.token i s' T;
        told = turns-told l sites s s' L L' c.self.invariant.kept.told a.token [] [] [] [] [] (End a.token.serial) tt T;
        counted = counted-kept l sites s s' L L' (End a.token.serial ∷ []) journal (tt, tt) b.counts c.self.invariant.kept.counted;
        sized = λ j. omega (arith, c.leave.ensures.sizes j, turned-members s s' L.sound a.token i [] [] [] [] [] _ T j, c.self.invariant.kept.sized j, ap (is_this j) c.group_at-group.ensures);
        brought = turned-flat s s' c.self.invariant.kept.brought a.token [] [] [] _ T (omega arith);
      };
      rest = rest-kept (code l) (definitions l) s s' b.tokens c.remove.new.self refl refl c.self.invariant.rest (live-in b.tokens.items) (c.remove.ensures.parked) (same-terms (code l) s s' refl refl);
      version = ap (λ j. j.version) c.in_ok-write.ensures.added ∙ c.self.invariant.version;
      limited = c.self.invariant.limited;
    }

pub returns-clause-done : goal.returns-clause-done
returns-clause-done g c =
    let b = c.self.inside in
    let a = c.args in
    let l = g.P.Run.listing in
    let sites = g.P.Run.sites in
    let cd = code l in
    let s : Records = record { limit = b.limit; journal = b.journal.entries; entries = b.entries; next_mark = b.next_mark; now = b.time; made = b.calls.made; tokens = live b.tokens.items; slots = b.tokens.items; calls = b.calls.items; scopes = b.scopes.items; steps = b.steps.items; groups = b.groups.items; cells = b.cells.items } in
    let L = c.self.invariant.kept.lawful in
    let G = c.self.invariant.kept.grouped in
    let held : IsHeld s.slots a.slot a.token = rw (← c.self.view_is) at c.requires.held in
    let i : IsIn a.token s.tokens = live-in s.slots a.slot a.token held in
    let room : s.entries < s.limit = rw (← c.self.view_is) at c.in_ok-within.ensures.room in
    let s' : Records = record { limit = b.limit; journal = c.write.new.journal.entries; entries = b.entries + 1; next_mark = b.next_mark; now = b.time; made = b.calls.made; tokens = live c.remove.new.self.items; slots = c.remove.new.self.items; calls = b.calls.items; scopes = b.scopes.items; steps = b.steps.items; groups = c.leave.new.self.items; cells = b.cells.items } in
    let journal : s'.journal ≡ s.journal ++ End a.token.serial ∷ [] = ap (λ j. j.entries) c.in_ok-write.ensures.added in
    let tokens : (w : Token → ℕ) → weight w s'.tokens + w a.token ≡ weight w s.tokens + 0 = λ w. omega (arith, ap (λ z. weight w (live z)) c.remove.ensures.items.2, removed w s.slots a.slot a.token c.remove.ensures.items.0 held c.remove.ensures.items.1) in
    let T : IsEnded s a.token s' = turns s s' a.token [] [] [] [] [] (End a.token.serial) refl journal refl (omega arith) refl refl tokens refl (sym (append-nil s.scopes)) (sym (append-nil s.steps)) (c.leave.ensures.items ∙ sym (append-nil s.groups)) (sym (append-nil s.cells)) in
    rw (← c.self.view_is) T

pub returns-clause-others : goal.returns-clause-others
returns-clause-others g c =
    let b = c.self.inside in
    let a = c.args in
    rw (← c.self.view_is) (set-others b.tokens.items c.remove.new.self.items a.slot c.remove.ensures.items.0 c.remove.ensures.items.2)
