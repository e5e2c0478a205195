use Rattle.std.proofs.Common.{arith}
use Rattle.orc_rules.specs.Nodes.{code}
use Rattle.orc_ledger_spec.specs.Records.{Records, its_env}
use Rattle.orc_frames.specs.Paths.{has_published}
use Rattle.orc_tables.specs.Tokens.{live, IsHeld}
use Rattle.orc_frames.specs.Taking.{Takes, IsOnWay, IsEntered}
use Rattle.orc_tables.proofs.Slots.{live-in}
use Rattle.orc_ledger_spec.proofs.Advancing.{step-within, is-there}
use Rattle.orc_ledger.proofs.ledger.Ledger.taker_of.Goals as goal

pub find_taker-requires-clause-within : goal.find_taker-requires-clause-within
find_taker-requires-clause-within g c =
    let b = c.self.inside in
    let a = c.args in
    let l = g.P.Run.listing in
    let cd = code l in
    let s : Records = record { limit = b.limit; journal = b.journal.entries; entries = b.entries; next_mark = b.next_mark; now = b.time; made = b.calls.made; tokens = live b.tokens.items; slots = b.tokens.items; calls = b.calls.items; scopes = b.scopes.items; steps = b.steps.items; groups = b.groups.items; cells = b.cells.items } in
    let held : IsHeld s.slots c.requires.0 a.token = rw (← c.self.view_is) at c.requires.1 in
    omega (arith, step-within s c.self.invariant.kept.lawful.sound a.token (live-in s.slots c.requires.0 a.token held))

pub returns-clause-takes : goal.returns-clause-takes
returns-clause-takes g c =
    let b = c.self.inside in
    let a = c.args in
    let l = g.P.Run.listing in
    let cd = code l in
    let s : Records = record { limit = b.limit; journal = b.journal.entries; entries = b.entries; next_mark = b.next_mark; now = b.time; made = b.calls.made; tokens = live b.tokens.items; slots = b.tokens.items; calls = b.calls.items; scopes = b.scopes.items; steps = b.steps.items; groups = b.groups.items; cells = b.cells.items } in
    let went : Takes cd (its_env cd s) (has_published s.steps) s.steps a.token.step c.find_taker.result = c.find_taker.ensures.takes cd (its_env cd s) (has_published s.steps) in
    rw (← c.self.view_is) went

pub returns-clause-way : goal.returns-clause-way
returns-clause-way g c =
    let b = c.self.inside in
    let a = c.args in
    let l = g.P.Run.listing in
    let cd = code l in
    let s : Records = record { limit = b.limit; journal = b.journal.entries; entries = b.entries; next_mark = b.next_mark; now = b.time; made = b.calls.made; tokens = live b.tokens.items; slots = b.tokens.items; calls = b.calls.items; scopes = b.scopes.items; steps = b.steps.items; groups = b.groups.items; cells = b.cells.items } in
    let went : IsOnWay s.steps a.token.step c.find_taker.result = c.find_taker.ensures.way in
    rw (← c.self.view_is) went

pub returns-clause-there : goal.returns-clause-there
returns-clause-there g c =
    let b = c.self.inside in
    let a = c.args in
    let l = g.P.Run.listing in
    let cd = code l in
    let s : Records = record { limit = b.limit; journal = b.journal.entries; entries = b.entries; next_mark = b.next_mark; now = b.time; made = b.calls.made; tokens = live b.tokens.items; slots = b.tokens.items; calls = b.calls.items; scopes = b.scopes.items; steps = b.steps.items; groups = b.groups.items; cells = b.cells.items } in
    let entered : IsEntered s.steps c.find_taker.result = c.find_taker.ensures.entered in
    rw (← c.self.view_is) (is-there s c.self.invariant.kept.lawful.sound c.find_taker.result entered)
