use Rattle.std.proofs.Common.{◌≡◌, refl, sym, arith, true, [], append-nil}
use Rattle.orc_rules.specs.Nodes.{code}
use Rattle.orc_rules.specs.Timed.{IsIn}
use Rattle.orc_tables.specs.Tokens.{live}
use Rattle.orc_ledger_spec.specs.Records.{Records, is_over}
use Rattle.orc_ledger_spec.specs.Calls.{Closes}
use Rattle.orc_ledger_spec.specs.Next.{members, numbers_of}
use Rattle.orc_ledger_spec.proofs.Closed.{closed-lawful}
use Rattle.orc_ledger_spec.proofs.Keeping.{told-kept, counted-kept}
use Rattle.orc_ledger_spec.proofs.Grouped.{closed-grouped}
use Rattle.orc_ledger_spec.proofs.Sizes.{closed-members}
use Rattle.orc_ledger_spec.proofs.Brought.{closed-brought}
use Rattle.orc_ledger.proofs.ledger.Ledger.close.Goals as goal

pub invariant_of-self : goal.invariant_of-self
invariant_of-self g c =
    let b = c.self.inside in
    let a = c.args in
    let l = g.P.Run.listing in
    let sites = g.P.Run.sites in
    let L = c.self.invariant.kept.lawful in
    let G = c.self.invariant.kept.grouped in
    let s : Records = record { limit = b.limit; journal = b.journal.entries; entries = b.entries; next_mark = b.next_mark; now = b.time; made = b.calls.made; tokens = live b.tokens.items; slots = b.tokens.items; calls = b.calls.items; scopes = b.scopes.items; steps = b.steps.items; groups = b.groups.items; cells = b.cells.items } in
    let i : IsIn a.group s.groups = rw (← c.self.view_is) at c.requires.there in
    let s' : Records = record { limit = b.limit; journal = b.journal.entries; entries = b.entries; next_mark = b.next_mark; now = b.time; made = b.calls.made; tokens = live b.tokens.items; slots = b.tokens.items; calls = b.calls.items; scopes = b.scopes.items; steps = b.steps.items; groups = c.take_out.new.groups.items; cells = b.cells.items } in
    let T : Closes s s' a.group = record { limit = refl; journal = refl; entries = refl; mark = refl; now = refl; made = refl; tokens = refl; calls = refl; groups = c.take_out.ensures.rest; scopes = refl; steps = refl; cells = refl } in
    let empty : members (numbers_of s) s a.group.number ≡ 0 = rw (← c.self.view_is) at c.requires.empty in
    let over : is_over (code l) s a.group.side ≡ true = rw (← c.self.view_is) at c.requires.over in
    let L' = closed-lawful l sites s L a.group over s' T in
    record {
      kept = record {
        lawful = L';
        grouped = closed-grouped l sites s L G a.group i empty s' T;
        told = told-kept l sites s s' L L' [] (sym (append-nil s.journal)) tt (λ w. omega arith) c.self.invariant.kept.told;
        counted = counted-kept l sites s s' L L' [] (sym (append-nil s.journal)) tt b.counts c.self.invariant.kept.counted;
        sized = λ j. omega (arith, c.take_out.ensures.sizes j, closed-members s s' a.group T j, c.self.invariant.kept.sized j);
        brought = closed-brought s s' c.self.invariant.kept.brought a.group T;
      };
      rest = c.self.invariant.rest;
      version = c.self.invariant.version;
      limited = c.self.invariant.limited;
    }

pub returns-clause-done : goal.returns-clause-done
returns-clause-done g c =
    let b = c.self.inside in
    let a = c.args in
    let l = g.P.Run.listing in
    let sites = g.P.Run.sites in
    let L = c.self.invariant.kept.lawful in
    let G = c.self.invariant.kept.grouped in
    let s : Records = record { limit = b.limit; journal = b.journal.entries; entries = b.entries; next_mark = b.next_mark; now = b.time; made = b.calls.made; tokens = live b.tokens.items; slots = b.tokens.items; calls = b.calls.items; scopes = b.scopes.items; steps = b.steps.items; groups = b.groups.items; cells = b.cells.items } in
    let i : IsIn a.group s.groups = rw (← c.self.view_is) at c.requires.there in
    let s' : Records = record { limit = b.limit; journal = b.journal.entries; entries = b.entries; next_mark = b.next_mark; now = b.time; made = b.calls.made; tokens = live b.tokens.items; slots = b.tokens.items; calls = b.calls.items; scopes = b.scopes.items; steps = b.steps.items; groups = c.take_out.new.groups.items; cells = b.cells.items } in
    let T : Closes s s' a.group = record { limit = refl; journal = refl; entries = refl; mark = refl; now = refl; made = refl; tokens = refl; calls = refl; groups = c.take_out.ensures.rest; scopes = refl; steps = refl; cells = refl } in
    rw (← c.self.view_is) T
