use Rattle.std.proofs.Common.{sym, ◌∙◌}
use Rattle.orc_ledger_spec.specs.Records.{Records}
use Rattle.orc_tables.specs.Tokens.{live}
use Rattle.orc_ledger_spec.specs.Whole.{IsWhole}
use Rattle.orc_ledger_spec.proofs.Using.{counted-so}
use Rattle.orc_ledger.proofs.ledger.Ledger.is_whole.Goals as goal

pub returns : goal.returns
returns g c =
    let b = c.self.inside in
    let s : Records = record { limit = b.limit; journal = b.journal.entries; entries = b.entries; next_mark = b.next_mark; now = b.time; made = b.calls.made; tokens = live b.tokens.items; slots = b.tokens.items; calls = b.calls.items; scopes = b.scopes.items; steps = b.steps.items; groups = b.groups.items; cells = b.cells.items } in
    let L = c.self.invariant.kept.lawful in
    let whole : IsWhole g.P.Run.listing g.P.Run.sites s = record { place = L.place; leads = L.leads; paid = L.spells.none_due; now = L.spells.now; entries = sym (counted-so s.journal) ∙ sym L.entries; within = L.within } in
    rw (← c.self.view_is) whole
