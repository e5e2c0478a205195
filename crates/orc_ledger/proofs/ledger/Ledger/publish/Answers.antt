use Rattle.std.proofs.Common.{◌≡◌, ◌<◌, ◌++◌, ℕ, ◌+◌, [], ◌∷◌, sym, refl, ap, arith, append-nil, ◌∙◌}
use Rattle.orc_rules.specs.declared.entry.Entry.TheVariants.{Publish}
use Rattle.orc_rules.specs.Timed.{IsIn}
use Rattle.orc_rules.specs.Nodes.{code, definitions}
use Rattle.orc_rules.specs.Term.{param}
use Rattle.orc_rules.specs.declared.param.Param.TheVariants as is_
use Rattle.orc_indexes.specs.Same.{weight}
use Rattle.orc_frames.specs.Spelling.{whole}
use Rattle.orc_frames.specs.Taking.{taker, crossed}
use Rattle.orc_ledger_spec.specs.Records.{Records, its_env, its_path}
use Rattle.orc_frames.specs.Paths.{standing}
use Rattle.orc_tables.specs.Tokens.{live, IsHeld}
use Rattle.orc_ledger_spec.specs.Calls.{Crosses}
use Rattle.orc_frames.specs.Taking.{Publishes}
use Rattle.orc_tables.specs.declared.records.Token.{Token}
use Rattle.orc_ledger_spec.proofs.AtRest.{rest-kept, same-terms}
use Rattle.orc_tables.proofs.Slots.{live-in, removed}
use Rattle.orc_ledger_spec.proofs.Calling.{crosses-told}
use Rattle.orc_ledger_spec.proofs.Keeping.{counted-kept}
use Rattle.orc_ledger_spec.proofs.Made.{crosses, step_in}
use Rattle.orc_ledger_spec.proofs.Sending.{publish-lawful}
use Rattle.orc_ledger_spec.proofs.Grouped.{published-grouped}
use Rattle.orc_indexes.specs.Same.{is_this}
use Rattle.orc_ledger_spec.proofs.Sizes.{crossed-members}
use Rattle.orc_ledger_spec.proofs.Brought.{crossed-brought}
use Rattle.orc_ledger.proofs.Others.{set-others}
use Rattle.orc_ledger.proofs.ledger.Ledger.publish.Goals as goal

pub leave_others-requires-clause-within : goal.leave_others-requires-clause-within
leave_others-requires-clause-within g c =
    let b = c.self.inside in
    let a = c.args in
    let l = g.P.Run.listing in
    let sites = g.P.Run.sites in
    let cd = code l in
    let s : Records = record { limit = b.limit; journal = b.journal.entries; entries = b.entries; next_mark = b.next_mark; now = b.time; made = b.calls.made; tokens = live b.tokens.items; slots = b.tokens.items; calls = b.calls.items; scopes = b.scopes.items; steps = b.steps.items; groups = b.groups.items; cells = b.cells.items } in
    let L = c.self.invariant.kept.lawful in
    let G = c.self.invariant.kept.grouped in
    let held : IsHeld s.slots a.slot a.token = rw (← c.self.view_is) at c.requires.held in
    let i : IsIn a.token s.tokens = live-in s.slots a.slot a.token held in
    step_in l sites s L a.token i

pub invariant_of-self-2 : goal.invariant_of-self-2
invariant_of-self-2 g c =
    let b = c.self.inside in
    let a = c.args in
    let l = g.P.Run.listing in
    let sites = g.P.Run.sites in
    let cd = code l in
    let s : Records = record { limit = b.limit; journal = b.journal.entries; entries = b.entries; next_mark = b.next_mark; now = b.time; made = b.calls.made; tokens = live b.tokens.items; slots = b.tokens.items; calls = b.calls.items; scopes = b.scopes.items; steps = b.steps.items; groups = b.groups.items; cells = b.cells.items } in
    let L = c.self.invariant.kept.lawful in
    let G = c.self.invariant.kept.grouped in
    let held : IsHeld s.slots a.slot a.token = rw (← c.self.view_is) at c.requires.held in
    let i : IsIn a.token s.tokens = live-in s.slots a.slot a.token held in
    let form : standing cd (its_env cd s) a.token.standing ≡ param (is_.Is a.value) = rw (← c.self.view_is) at c.requires.form in
    let ns = crossed (its_path cd s a.token.step) in
    let room : s.entries < s.limit = rw (← c.self.view_is) at c.in_ok-within.ensures.room in
    let s' : Records = record { limit = b.limit; journal = c.write.new.journal.entries; entries = b.entries + 1; next_mark = b.next_mark; now = b.time; made = b.calls.made; tokens = live c.remove.new.self.items; slots = c.remove.new.self.items; calls = b.calls.items; scopes = b.scopes.items; steps = c.leave_others.new.steps.items; groups = c.leave.new.self.items; cells = b.cells.items } in
    let journal : s'.journal ≡ s.journal ++ Publish a.token.serial a.value ∷ [] = ap (λ j. j.entries) c.in_ok-write.ensures.added in
    let marks : Publishes ns s.steps s'.steps = c.leave_others.ensures cd (its_env cd s) in
    let takes : taker (its_path cd s a.token.step) ≡ whole = rw (← c.self.view_is) at c.requires.takes in
    let tokens : (w : Token → ℕ) → weight w s'.tokens + w a.token ≡ weight w s.tokens + 0 = λ w. omega (arith, ap (λ z. weight w (live z)) c.remove.ensures.items.2, removed w s.slots a.slot a.token c.remove.ensures.items.0 held c.remove.ensures.items.1) in
    let T : Crosses s s' a.token [] [] ns (Publish a.token.serial a.value) = crosses s s' a.token [] [] ns (Publish a.token.serial a.value) refl journal refl (omega arith) refl refl tokens refl (sym (append-nil s.scopes)) marks c.leave.ensures.items refl in
    let L' = publish-lawful l sites s L a.token i a.value form takes room s' T in
    record {
      kept = record {
        lawful = L';
        grouped = published-grouped l sites s L G a.token s' ns (Publish a.token.serial a.value) T;
        told = crosses-told l sites s s' L L' c.self.invariant.kept.told a.token [] [] ns (Publish a.token.serial a.value) tt T;
        counted = counted-kept l sites s s' L L' (Publish a.token.serial a.value ∷ []) journal (tt, tt) b.counts c.self.invariant.kept.counted;
        sized = λ j. omega (arith, c.leave.ensures.sizes j, crossed-members s s' a.token [] [] ns (Publish a.token.serial a.value) T j, c.self.invariant.kept.sized j, ap (is_this j) c.group_at-group.ensures);
        brought = crossed-brought s s' c.self.invariant.kept.brought a.token [] [] ns (Publish a.token.serial a.value) T (omega arith);
      };
      rest = rest-kept (code l) (definitions l) s s' b.tokens c.remove.new.self refl refl c.self.invariant.rest (live-in b.tokens.items) (c.remove.ensures.parked) (same-terms (code l) s s' refl refl);
      version = ap (λ j. j.version) c.in_ok-write.ensures.added ∙ c.self.invariant.version;
      limited = c.self.invariant.limited;
    }

pub returns-clause-done : goal.returns-clause-done
returns-clause-done g c =
    let b = c.self.inside in
    let a = c.args in
    let l = g.P.Run.listing in
    let sites = g.P.Run.sites in
    let cd = code l in
    let s : Records = record { limit = b.limit; journal = b.journal.entries; entries = b.entries; next_mark = b.next_mark; now = b.time; made = b.calls.made; tokens = live b.tokens.items; slots = b.tokens.items; calls = b.calls.items; scopes = b.scopes.items; steps = b.steps.items; groups = b.groups.items; cells = b.cells.items } in
    let L = c.self.invariant.kept.lawful in
    let G = c.self.invariant.kept.grouped in
    let held : IsHeld s.slots a.slot a.token = rw (← c.self.view_is) at c.requires.held in
    let i : IsIn a.token s.tokens = live-in s.slots a.slot a.token held in
    let form : standing cd (its_env cd s) a.token.standing ≡ param (is_.Is a.value) = rw (← c.self.view_is) at c.requires.form in
    let ns = crossed (its_path cd s a.token.step) in
    let room : s.entries < s.limit = rw (← c.self.view_is) at c.in_ok-within.ensures.room in
    let s' : Records = record { limit = b.limit; journal = c.write.new.journal.entries; entries = b.entries + 1; next_mark = b.next_mark; now = b.time; made = b.calls.made; tokens = live c.remove.new.self.items; slots = c.remove.new.self.items; calls = b.calls.items; scopes = b.scopes.items; steps = c.leave_others.new.steps.items; groups = c.leave.new.self.items; cells = b.cells.items } in
    let journal : s'.journal ≡ s.journal ++ Publish a.token.serial a.value ∷ [] = ap (λ j. j.entries) c.in_ok-write.ensures.added in
    let marks : Publishes ns s.steps s'.steps = c.leave_others.ensures cd (its_env cd s) in
    let takes : taker (its_path cd s a.token.step) ≡ whole = rw (← c.self.view_is) at c.requires.takes in
    let tokens : (w : Token → ℕ) → weight w s'.tokens + w a.token ≡ weight w s.tokens + 0 = λ w. omega (arith, ap (λ z. weight w (live z)) c.remove.ensures.items.2, removed w s.slots a.slot a.token c.remove.ensures.items.0 held c.remove.ensures.items.1) in
    let T : Crosses s s' a.token [] [] ns (Publish a.token.serial a.value) = crosses s s' a.token [] [] ns (Publish a.token.serial a.value) refl journal refl (omega arith) refl refl tokens refl (sym (append-nil s.scopes)) marks c.leave.ensures.items refl in
    rw (← c.self.view_is) T

pub returns-clause-others : goal.returns-clause-others
returns-clause-others g c =
    let b = c.self.inside in
    let a = c.args in
    rw (← c.self.view_is) (set-others b.tokens.items c.remove.new.self.items a.slot c.remove.ensures.items.0 c.remove.ensures.items.2)
