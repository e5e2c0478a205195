use Rattle.std.proofs.Common.{◌≡◌, ◌≤◌, ◌<◌, rules}
use Rattle.orc_rules.specs.Timed.{IsIn}
use Rattle.orc_calls.specs.Due.{DueNow}
use Rattle.orc_ledger_spec.specs.Records.{Records}
use Rattle.orc_tables.specs.Tokens.{live}
use Rattle.orc_ledger_spec.proofs.Answered.{not-due, due-now, now-due}
use Rattle.orc_ledger.proofs.ledger.Ledger.returned.Goals as goal

pub returns-in-Err-clause-why : goal.returns-in-Err-clause-why
returns-in-Err-clause-why g c =
    let b = c.self.inside in
    let a = c.args in
    let l = g.P.Run.listing in
    let sites = g.P.Run.sites in
    let s : Records = record { limit = b.limit; journal = b.journal.entries; entries = b.entries; next_mark = b.next_mark; now = b.time; made = b.calls.made; tokens = live b.tokens.items; slots = b.tokens.items; calls = b.calls.items; scopes = b.scopes.items; steps = b.steps.items; groups = b.groups.items; cells = b.cells.items } in
    let K = c.self.invariant.kept in
    let call = c.in-Some.call in
    let pends : IsIn call s.calls = c.in-Some.ensures.0 in
    let number : call.number ≡ a.number = c.in-Some.ensures.1 in
    rw (← c.self.view_is) ((call, (pends, number)), λ due. not-due call.made_at call.found a.answer b.time c.in-Err.field-0 c.in-Err.ensures.not_due (now-due l sites b.counts b.groups.sizes s K call pends a.answer a.number number due))

pub returns-then-self-clause-why : goal.returns-then-self-clause-why
returns-then-self-clause-why g c =
    let b = c.self.inside in
    let a = c.args in
    let l = g.P.Run.listing in
    let sites = g.P.Run.sites in
    let s : Records = record { limit = b.limit; journal = b.journal.entries; entries = b.entries; next_mark = b.next_mark; now = b.time; made = b.calls.made; tokens = live b.tokens.items; slots = b.tokens.items; calls = b.calls.items; scopes = b.scopes.items; steps = b.steps.items; groups = b.groups.items; cells = b.cells.items } in
    let K = c.self.invariant.kept in
    let call = c.in-Some.call in
    let pends : IsIn call s.calls = c.in-Some.ensures.0 in
    let number : call.number ≡ a.number = c.in-Some.ensures.1 in
    let due : DueNow call.made_at call.found a.answer s.now = search rules in
    let why : s.limit ≤ s.entries = c.if-self.true in
    rw (← c.self.view_is) ((call, (pends, number)), due-now l sites b.counts b.groups.sizes s K call pends a.answer a.number number due, why)

pub returns-in-Err-give-clause-why : goal.returns-in-Err-give-clause-why
returns-in-Err-give-clause-why g c =
    let b = c.self.inside in
    let a = c.args in
    let l = g.P.Run.listing in
    let sites = g.P.Run.sites in
    let s : Records = record { limit = b.limit; journal = b.journal.entries; entries = b.entries; next_mark = b.next_mark; now = b.time; made = b.calls.made; tokens = live b.tokens.items; slots = b.tokens.items; calls = b.calls.items; scopes = b.scopes.items; steps = b.steps.items; groups = b.groups.items; cells = b.cells.items } in
    let K = c.self.invariant.kept in
    let call = c.in-Some.call in
    let pends : IsIn call s.calls = c.in-Some.ensures.0 in
    let number : call.number ≡ a.number = c.in-Some.ensures.1 in
    let due : DueNow call.made_at call.found a.answer s.now = search rules in
    let why : s.entries < s.limit = c.if-self.false in
    rw (← c.self.view_is) ((call, (pends, number)), due-now l sites b.counts b.groups.sizes s K call pends a.answer a.number number due, why)

pub returns-in-Err-give_up-clause-why : goal.returns-in-Err-give_up-clause-why
returns-in-Err-give_up-clause-why g c =
    let b = c.self.inside in
    let a = c.args in
    let l = g.P.Run.listing in
    let sites = g.P.Run.sites in
    let s : Records = record { limit = b.limit; journal = b.journal.entries; entries = b.entries; next_mark = b.next_mark; now = b.time; made = b.calls.made; tokens = live b.tokens.items; slots = b.tokens.items; calls = b.calls.items; scopes = b.scopes.items; steps = b.steps.items; groups = b.groups.items; cells = b.cells.items } in
    let K = c.self.invariant.kept in
    let call = c.in-Some.call in
    let pends : IsIn call s.calls = c.in-Some.ensures.0 in
    let number : call.number ≡ a.number = c.in-Some.ensures.1 in
    let due : DueNow call.made_at call.found a.answer s.now = search rules in
    let why : s.entries < s.limit = c.if-self.false in
    rw (← c.self.view_is) ((call, (pends, number)), due-now l sites b.counts b.groups.sizes s K call pends a.answer a.number number due, why)
