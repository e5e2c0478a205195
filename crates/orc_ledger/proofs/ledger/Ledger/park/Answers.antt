use Rattle.std.proofs.Common.{◌≡◌, refl, sym, ap, ◌∙◌, true}
use Rattle.std.specs.Prelude.{slice_get}
use Rattle.orc_rules.specs.Nodes.{code, definitions}
use Rattle.orc_ledger_spec.specs.AtRest.{waits}
use Rattle.orc_frames.specs.Awaiting.{cells_of}
use Rattle.orc_frames.specs.Doing.{is_wait}
use Rattle.orc_ledger_spec.specs.Doing.{what_of, term_of}
use Rattle.orc_ledger_spec.specs.Records.{Records, its_path}
use Rattle.orc_tables.specs.Tokens.{live, IsHeld}
use Rattle.orc_ledger_spec.proofs.AtRest.{waits-any, same-terms, rest-parked}
use Rattle.orc_ledger_spec.proofs.Sizes.{kept-still}
use Rattle.orc_tables.proofs.Slots.{live-in}
use Rattle.orc_ledger.proofs.ledger.Ledger.park.Goals as goal

pub invariant_of-self : goal.invariant_of-self
invariant_of-self g c =
    let b = c.self.inside in
    let a = c.args in
    let l = g.P.Run.listing in
    let sites = g.P.Run.sites in
    let s : Records = record { limit = b.limit; journal = b.journal.entries; entries = b.entries; next_mark = b.next_mark; now = b.time; made = b.calls.made; tokens = live b.tokens.items; slots = b.tokens.items; calls = b.calls.items; scopes = b.scopes.items; steps = b.steps.items; groups = b.groups.items; cells = b.cells.items } in
    let s' : Records = record { limit = b.limit; journal = b.journal.entries; entries = b.entries; next_mark = b.next_mark; now = b.time; made = b.calls.made; tokens = live c.park.new.self.items; slots = c.park.new.self.items; calls = b.calls.items; scopes = b.scopes.items; steps = b.steps.items; groups = b.groups.items; cells = b.cells.items } in
    let held : IsHeld s.slots a.slot a.token = rw (← c.self.view_is) at c.requires.held in
    let word : c.what.result ≡ what_of (code l) (definitions l) s a.token = rw (← c.self.view_is) at c.what.ensures in
    let its : c.awaited.new.listed.items ≡ cells_of (term_of (code l) s a.token) = rw (← c.self.view_is) at c.in_ok-awaited.ensures.listed in
    let waiting : waits (definitions l) (term_of (code l) s a.token) ≡ true = sym (waits-any (definitions l) (its_path (code l) s a.token.step) (term_of (code l) s a.token)) ∙ ap is_wait (sym word ∙ c.in-Wait.is) in
    record {
      kept = kept-still l sites b.counts b.groups.sizes b.groups.sizes s s' c.self.invariant.kept (λ k. record { limit = b.limit; journal = b.journal.entries; entries = b.entries; next_mark = b.next_mark; now = b.time; made = b.calls.made; tokens = live (sym c.park.ensures.items k); slots = sym c.park.ensures.items k; calls = b.calls.items; scopes = b.scopes.items; steps = b.steps.items; groups = b.groups.items; cells = b.cells.items }) (λ i. refl);
      rest = rest-parked (code l) (definitions l) s s' b.tokens c.park.new.self refl refl c.self.invariant.rest (same-terms (code l) s s' refl refl) a.slot a.token c.awaited.new.listed.items (ap (λ z. slice_get z a.slot) c.park.ensures.items ∙ held.0, held.1) (live-in b.tokens.items) c.park.ensures.parked waiting its (live-in b.tokens.items a.slot a.token held);
      version = c.self.invariant.version;
      limited = c.self.invariant.limited;
    }

-- the same where the token is parked
pub invariant_of-self-in-Wait : goal.invariant_of-self-in-Wait
invariant_of-self-in-Wait g c =
    let b = c.self.inside in
    let a = c.args in
    let l = g.P.Run.listing in
    let sites = g.P.Run.sites in
    let s : Records = record { limit = b.limit; journal = b.journal.entries; entries = b.entries; next_mark = b.next_mark; now = b.time; made = b.calls.made; tokens = live b.tokens.items; slots = b.tokens.items; calls = b.calls.items; scopes = b.scopes.items; steps = b.steps.items; groups = b.groups.items; cells = b.cells.items } in
    let s' : Records = record { limit = b.limit; journal = b.journal.entries; entries = b.entries; next_mark = b.next_mark; now = b.time; made = b.calls.made; tokens = live c.park.new.self.items; slots = c.park.new.self.items; calls = b.calls.items; scopes = b.scopes.items; steps = b.steps.items; groups = b.groups.items; cells = b.cells.items } in
    let held : IsHeld s.slots a.slot a.token = rw (← c.self.view_is) at c.requires.held in
    let word : c.what.result ≡ what_of (code l) (definitions l) s a.token = rw (← c.self.view_is) at c.what.ensures in
    let its : c.awaited.new.listed.items ≡ cells_of (term_of (code l) s a.token) = rw (← c.self.view_is) at c.in_ok-awaited.ensures.listed in
    let waiting : waits (definitions l) (term_of (code l) s a.token) ≡ true = sym (waits-any (definitions l) (its_path (code l) s a.token.step) (term_of (code l) s a.token)) ∙ ap is_wait (sym word ∙ c.in-Wait.is) in
    record {
      kept = kept-still l sites b.counts b.groups.sizes b.groups.sizes s s' c.self.invariant.kept (λ k. record { limit = b.limit; journal = b.journal.entries; entries = b.entries; next_mark = b.next_mark; now = b.time; made = b.calls.made; tokens = live (sym c.park.ensures.items k); slots = sym c.park.ensures.items k; calls = b.calls.items; scopes = b.scopes.items; steps = b.steps.items; groups = b.groups.items; cells = b.cells.items }) (λ i. refl);
      rest = rest-parked (code l) (definitions l) s s' b.tokens c.park.new.self refl refl c.self.invariant.rest (same-terms (code l) s s' refl refl) a.slot a.token c.awaited.new.listed.items (ap (λ z. slice_get z a.slot) c.park.ensures.items ∙ held.0, held.1) (live-in b.tokens.items) c.park.ensures.parked waiting its (live-in b.tokens.items a.slot a.token held);
      version = c.self.invariant.version;
      limited = c.self.invariant.limited;
    }
