use Rattle.std.proofs.Common.{refl}
use Rattle.orc_ledger_spec.specs.Records.{Records}
use Rattle.orc_ledger_spec.specs.Requests.{IsNextCall}
use Rattle.orc_tables.specs.Tokens.{live}
use Rattle.orc_tables.specs.declared.records.Call.{Call}
use Rattle.orc_ledger_spec.proofs.Asked.{next-there}
use Rattle.orc_ledger.proofs.ledger.Ledger.next_call.Goals as goal

pub returns : goal.returns
returns g c =
    let b = c.self.inside in
    let a = c.args in
    let l = g.P.Run.listing in
    let sites = g.P.Run.sites in
    let K = c.self.invariant.kept in
    let s : Records = record { limit = b.limit; journal = b.journal.entries; entries = b.entries; next_mark = b.next_mark; now = b.time; made = b.calls.made; tokens = live b.tokens.items; slots = b.tokens.items; calls = b.calls.items; scopes = b.scopes.items; steps = b.steps.items; groups = b.groups.items; cells = b.cells.items } in
    let made : Call = record { number = c.next_number.result; found = c.next_call-next.result.found; made_at = b.time; step = a.token.step; row = c.len.result; nth = c.next_call-next.result.nth } in
    let next : IsNextCall l sites s a.token a.site a.args.now made = next-there l sites b.counts b.groups.sizes s K a.inputs.now.answers.now.sites c.args.inputs.now.its_sites a.site a.args.now a.token made c.next_number.ensures refl refl c.len.ensures.entries c.next_call-next.ensures.found c.next_call-next.ensures.nth in
    rw (← c.self.view_is) next
