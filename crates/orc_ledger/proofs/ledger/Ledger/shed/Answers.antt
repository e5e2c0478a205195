use Rattle.std.proofs.Common.{◌≡◌, ◌≤◌, List, length, ap, sym, subst}
use Rattle.orc_tables.specs.Tokens.{live}
use Rattle.orc_tables.specs.declared.records.Step.{Step}
use Rattle.orc_ledger_spec.specs.Records.{Records}
use Rattle.orc_ledger_spec.specs.Kept.{Kept}
use Rattle.orc_ledger_spec.specs.Vacant.{IsVacant, Sheds}
use Rattle.orc_ledger_spec.proofs.Vacant.{longer, some_last, vacant-kept}
use Rattle.orc_ledger.proofs.ledger.Ledger.shed.Goals as goal

pub drop_last-requires : goal.drop_last-requires
drop_last-requires g c = subst (λ (z : Records). 1 ≤ length z.steps) (sym c.self.view_is) (some_last c.args.self.now.steps c.requires.step c.requires.last)

pub invariant_of-self : goal.invariant_of-self
invariant_of-self g c =
    let b = c.self.inside in
    let l = g.P.Run.listing in
    let sites = g.P.Run.sites in
    let s : Records = record { limit = b.limit; journal = b.journal.entries; entries = b.entries; next_mark = b.next_mark; now = b.time; made = b.calls.made; tokens = live b.tokens.items; slots = b.tokens.items; calls = b.calls.items; scopes = b.scopes.items; steps = b.steps.items; groups = b.groups.items; cells = b.cells.items } in
    let gone = c.drop_last.ensures.items in
    let s' : Records = record s { steps = c.drop_last.new.self.items } in
    let same : s ≡ longer s' gone.0 = ap (λ (z : List Step). record s { steps = z }) gone.1 in
    let vacant : IsVacant s = rw (← c.self.view_is) at c.requires in
    record {
      kept = vacant-kept s' gone.0 (subst IsVacant same vacant) l sites b.counts b.groups.sizes (subst (Kept l sites b.counts b.groups.sizes) same c.self.invariant.kept);
      rest = c.self.invariant.rest;
      version = c.self.invariant.version;
      limited = c.self.invariant.limited;
    }

pub returns : goal.returns
returns g c =
    let b = c.self.inside in
    let s : Records = record { limit = b.limit; journal = b.journal.entries; entries = b.entries; next_mark = b.next_mark; now = b.time; made = b.calls.made; tokens = live b.tokens.items; slots = b.tokens.items; calls = b.calls.items; scopes = b.scopes.items; steps = b.steps.items; groups = b.groups.items; cells = b.cells.items } in
    let gone = c.drop_last.ensures.items in
    let vacant : IsVacant s = rw (← c.self.view_is) at c.requires in
    let sheds : Sheds s (record s { steps = c.drop_last.new.self.items }) = record { vacant = vacant; gone = gone.0; rest = ap (λ (z : List Step). record s { steps = z }) gone.1 } in
    rw (← c.self.view_is) sheds
