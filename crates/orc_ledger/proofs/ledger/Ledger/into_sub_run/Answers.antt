use Rattle.std.proofs.Common.{◌≡◌, ◌≤◌, ◌-◌, ℕ, Some, subst, refl, arith, length}
use Rattle.orc_rules.specs.Nodes.{code, definitions}
use Rattle.orc_frames.specs.declared.action.Action.TheVariants.{Publish}
use Rattle.orc_subrun.specs.Moved.{AreLocal, AreSilent}
use Rattle.orc_tables.specs.Tokens.{live, IsHeld}
use Rattle.orc_tables.specs.declared.records.Token.{Token}
use Rattle.orc_tables.proofs.Slots.{live-in}
use Rattle.orc_ledger_spec.specs.Records.{Records}
use Rattle.orc_ledger_spec.specs.Parts.{IsOver}
use Rattle.orc_ledger_spec.specs.Doing.{what_of}
use Rattle.orc_ledger_spec.proofs.Apart.{over, yielded}
use Rattle.orc_ledger.proofs.ledger.Ledger.into_sub_run.Goals as goal

pub part_of-requires-clause-over : goal.part_of-requires-clause-over
part_of-requires-clause-over g c =
    let b = c.self.inside in
    let task = c.args.task in
    let s : Records = record { limit = b.limit; journal = b.journal.entries; entries = b.entries; next_mark = b.next_mark; now = b.time; made = b.calls.made; tokens = live b.tokens.items; slots = b.tokens.items; calls = b.calls.items; scopes = b.scopes.items; steps = b.steps.items; groups = b.groups.items; cells = b.cells.items } in
    let left : (length s.tokens ≡ 0) × (length s.calls ≡ 0) × (length s.groups ≡ 0) × (2 ≤ s.next_mark) = rw (← c.self.view_is) at c.is_over.ensures c.if-is_over.true in
    let local : AreLocal g.W.Run.sites s.journal = subst (λ z. AreLocal z s.journal) c.requires.sites (c.are_local.ensures c.if-not-are_local.false) in
    rw (← c.self.view_is)
    (over g.P.Run.listing g.W.Run.listing g.P.Run.sites g.W.Run.sites s c.self.invariant.kept.lawful task.definition task.args c.requires.sites c.requires.definitions c.requires.call left.1 left.2 left.3 local s.journal refl left.0)

pub part_of-requires-2-clause-over : goal.part_of-requires-2-clause-over
part_of-requires-2-clause-over g c =
    let b = c.self.inside in
    let task = c.args.task in
    let y = c.in_ok-last-2.last in
    let s : Records = record { limit = b.limit; journal = b.journal.entries; entries = b.entries; next_mark = b.next_mark; now = b.time; made = b.calls.made; tokens = live b.tokens.items; slots = b.tokens.items; calls = b.calls.items; scopes = b.scopes.items; steps = b.steps.items; groups = b.groups.items; cells = b.cells.items } in
    let alone : (length s.tokens ≡ 1) × (length s.calls ≡ 0) × (length s.groups ≡ 0) × (2 ≤ s.next_mark) = rw (← c.self.view_is) at c.in_ok-last-2.ensures.alone in
    let last : (t : Token) × IsHeld s.slots _ t × (t.step ≡ 0) × (t.serial ≡ y.mark) × (2 ≤ y.mark) × (what_of (code g.P.Run.listing) (definitions g.P.Run.listing) s t ≡ Publish y.value) = rw (← c.self.view_is) at c.in_ok-last-2.ensures.token in
    let t : Token = last.0 in
    let local : AreLocal g.W.Run.sites s.journal = subst (λ z. AreLocal z s.journal) c.requires.sites (c.are_local.ensures c.if-not-are_local.false) in
    let silent : AreSilent s.journal = c.is_silent-is_silent.ensures c.if-not-is_silent.false in
    rw (← c.self.view_is)
    (subst (λ (k : ℕ). IsOver g.W.Run.listing g.W.Run.sites (record { definition = task.definition; args = task.args; entries = s.journal; mark = s.next_mark; calls = s.made; cells = length s.cells - 1; left = Some (record { mark = k; value = y.value }) })) last.3
    (yielded g.P.Run.listing g.W.Run.listing g.P.Run.sites g.W.Run.sites s c.self.invariant.kept.lawful task.definition task.args c.requires.sites c.requires.definitions c.requires.call alone.1 alone.2 alone.3 local s.journal refl
    t (live-in s.slots _ t last.1) alone.0 last.2 (omega (arith, last.3, last.4)) y.value last.5 silent))
