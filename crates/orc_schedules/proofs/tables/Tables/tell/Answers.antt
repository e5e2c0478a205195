use Rattle.std.proofs.Common.{refl, ◌<◌, length}
use Rattle.orc_outcome.specs.declared.end.End.TheVariants.{Halted, Quiet}
use Rattle.orc_search.specs.Graphs.{halted, quiet}
use Rattle.orc_search.specs.Nodes.{small_at, smalls}
use Rattle.orc_schedules.specs.declared.told.Told.{Told}
use Rattle.orc_schedules.specs.Lists.{lists}
use Rattle.orc_schedules.specs.Reached.{end_of}
use Rattle.orc_schedules.specs.Tables.{ending_if}
use Rattle.orc_schedules.proofs.Adding.{added_end, said_halted, said_quiet}
use Rattle.orc_schedules.proofs.Growing.{each_added}
use Rattle.orc_schedules.proofs.Keeping.{told_in, halted_told, quiet_told}
use Rattle.orc_schedules.proofs.tables.Tables.tell.Goals as goal

pub returns-then-summary-clause-told : goal.returns-then-summary-clause-told
returns-then-summary-clause-told c = λ e h.
    let f = small_at (smalls c.args.self.now.terms) c.args.from.term in
    told_in c.args.self.now c.add.new.self Halted c.args.from.seen (end_of e) c.in_ok-add.ensures.there (halted_told c.args.still f c.summary-summary.result e c.summary-summary.ensures c.if-summary.true h)

pub returns-in_ok-add-2-clause-all : goal.returns-in_ok-add-2-clause-all
returns-in_ok-add-2-clause-all c =
    let told : Told = record { end = Quiet; seen = c.args.from.seen } in
    (c.requires.all.0, each_added (λ (e : Told). e.seen < length (lists c.args.self.now.lists)) c.args.self.now.ends c.add-in-None.new.self told c.in_ok-add-2.ensures.kept c.requires.all.1 c.requires.from.2)

pub returns-in_ok-add-2-clause-told : goal.returns-in_ok-add-2-clause-told
returns-in_ok-add-2-clause-told c = λ e h.
    let f = small_at (smalls c.args.self.now.terms) c.args.from.term in
    told_in c.args.self.now c.add-in-None.new.self Quiet c.args.from.seen (end_of e) c.in_ok-add-2.ensures.there
    (quiet_told c.args.still f c.summary-summary.result e c.summary-summary.ensures c.if-summary.false c.if-not-still.false c.in-None.is h)

pub returns-then-summary-clause-added : goal.returns-then-summary-clause-added
returns-then-summary-clause-added c =
    let f = small_at (smalls c.args.self.now.terms) c.args.from.term in
    let told : Told = record { end = Halted; seen = c.args.from.seen } in
    added_end c.args.self.now c.add.new.self told (ending_if c.args.still f) halted c.in_ok-add.ensures.kept (said_halted c.args.still f c.summary-summary.result c.summary-summary.ensures c.if-summary.true) refl

pub returns-in_ok-add-2-clause-added : goal.returns-in_ok-add-2-clause-added
returns-in_ok-add-2-clause-added c =
    let f = small_at (smalls c.args.self.now.terms) c.args.from.term in
    let told : Told = record { end = Quiet; seen = c.args.from.seen } in
    added_end c.args.self.now c.add-in-None.new.self told (ending_if c.args.still f) quiet c.in_ok-add-2.ensures.kept
    (said_quiet c.args.still f c.summary-summary.result c.summary-summary.ensures c.if-summary.false c.if-not-still.false c.in-None.is) refl
