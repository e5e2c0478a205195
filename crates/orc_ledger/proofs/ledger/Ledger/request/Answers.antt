use Rattle.std.proofs.Common.{◌≡◌, ◌∙◌, Some, ap, sym}
use Rattle.std.specs.Prelude.{slice_get}
use Rattle.std.proofs.lemmas.Option.{slice_get_past}
use Rattle.orc_rules.specs.declared.entry.Entry.TheVariants.{Call as Calls}
use Rattle.orc_rules.specs.Timed.{IsIn}
use Rattle.orc_ledger_spec.specs.Records.{Records, is_call}
use Rattle.orc_tables.specs.Tokens.{live}
use Rattle.orc_ledger_spec.proofs.Recorded.{some-only, call-only, entry-there, asked-there}
use Rattle.orc_ledger.proofs.ledger.Ledger.request.Goals as goal

pub unreachable-requires : goal.unreachable-requires
unreachable-requires g c =
    let b = c.self.inside in
    let l = g.P.Run.listing in
    let sites = g.P.Run.sites in
    let s : Records = record { limit = b.limit; journal = b.journal.entries; entries = b.entries; next_mark = b.next_mark; now = b.time; made = b.calls.made; tokens = live b.tokens.items; slots = b.tokens.items; calls = b.calls.items; scopes = b.scopes.items; steps = b.steps.items; groups = b.groups.items; cells = b.cells.items } in
    let call = c.in-Some.call in
    let i : IsIn call s.calls = c.in-Some.ensures.0 in
    call-only call.number c.in-Some-get.entry (ap (is_call call.number) (sym c.in-Some-get.ensures.held) ∙ entry-there l sites b.counts b.groups.sizes s c.self.invariant.kept call i) c.in_default-entry.not-Call

pub returns : goal.returns
returns g c =
    let b = c.self.inside in
    let l = g.P.Run.listing in
    let sites = g.P.Run.sites in
    let s : Records = record { limit = b.limit; journal = b.journal.entries; entries = b.entries; next_mark = b.next_mark; now = b.time; made = b.calls.made; tokens = live b.tokens.items; slots = b.tokens.items; calls = b.calls.items; scopes = b.scopes.items; steps = b.steps.items; groups = b.groups.items; cells = b.cells.items } in
    let call = c.in-Some.call in
    let i : IsIn call s.calls = c.in-Some.ensures.0 in
    let there : slice_get s.journal call.row ≡ Some (Calls c.in-Call.field-0 c.in-Call.field-1 c.in-Call.site c.in-Call.args) = c.in-Some-get.ensures.held ∙ ap Some c.in-Call.is in
    rw (← c.self.view_is) (asked-there l sites b.counts b.groups.sizes s c.self.invariant.kept call i c.args.number c.in-Call.field-0 c.in-Call.field-1 c.in-Call.site c.in-Call.args c.in-Some.ensures.1 there)

pub returns-in_default-get : goal.returns-in_default-get
returns-in_default-get g c = λ kept.
    let b = c.self.inside in
    let l = g.P.Run.listing in
    let sites = g.P.Run.sites in
    let s : Records = record { limit = b.limit; journal = b.journal.entries; entries = b.entries; next_mark = b.next_mark; now = b.time; made = b.calls.made; tokens = live b.tokens.items; slots = b.tokens.items; calls = b.calls.items; scopes = b.scopes.items; steps = b.steps.items; groups = b.groups.items; cells = b.cells.items } in
    let call = c.in-Some.call in
    absurd (some-only call.number (slice_get s.journal call.row) (entry-there l sites b.counts b.groups.sizes s c.self.invariant.kept call c.in-Some.ensures.0) (slice_get_past s.journal call.row (c.in_default-get.ensures.none kept)))
