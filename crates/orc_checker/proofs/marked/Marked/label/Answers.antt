use Rattle.std.proofs.Common.{refl, ap, Some}
use Rattle.orc_checker.proofs.Labelling.{label_so}
use Rattle.orc_rules.specs.Step.{calls}
use Rattle.orc_rules.specs.Timed.{does}
use Rattle.orc_checker.proofs.marked.Marked.label.Goals as goal

pub returns-in-End : goal.returns-in-End
returns-in-End c x l p sp = label_so p _ _ _ c.in-End.is refl

pub returns-in-Fork : goal.returns-in-Fork
returns-in-Fork c x l p sp = label_so p _ _ _ c.in-Fork.is refl

pub returns-in-Seq : goal.returns-in-Seq
returns-in-Seq c x l p sp = label_so p _ _ _ c.in-Seq.is refl

pub returns-in-Other : goal.returns-in-Other
returns-in-Other c x l p sp = label_so p _ _ _ c.in-Other.is refl

pub returns-in-Tick : goal.returns-in-Tick
returns-in-Tick c x l p sp = label_so p _ _ _ c.in-Tick.is refl

pub returns-in-Def : goal.returns-in-Def
returns-in-Def c x l p sp = label_so p _ _ _ c.in-Def.is refl

pub returns-in-Void : goal.returns-in-Void
returns-in-Void c x l p sp = label_so p _ _ _ c.in-Void.is refl

pub returns-in-Open : goal.returns-in-Open
returns-in-Open c x l p sp = label_so p _ _ _ c.in-Open.is refl

pub returns-in-Send : goal.returns-in-Send
returns-in-Send c x l p sp = label_so p _ _ _ c.in-Send.is refl

pub returns-in-Right : goal.returns-in-Right
returns-in-Right c x l p sp = label_so p _ _ _ c.in-Right.is refl

pub returns-in-Return : goal.returns-in-Return
returns-in-Return c x l p sp = label_so p _ _ _ c.in-Return.is refl

pub returns-in-ReturnHalt : goal.returns-in-ReturnHalt
returns-in-ReturnHalt c x l p sp = label_so p _ _ _ c.in-ReturnHalt.is refl

pub returns-in-Bind : goal.returns-in-Bind
returns-in-Bind c x l p sp = label_so p _ _ _ c.in-Bind.is refl

pub returns-in-Lost : goal.returns-in-Lost
returns-in-Lost c x l p sp = label_so p _ _ _ c.in-Lost.is refl

pub returns-in-Publish : goal.returns-in-Publish
returns-in-Publish c x l p sp = label_so p _ _ _ c.in-Publish.is refl

pub returns-in-Cancel : goal.returns-in-Cancel
returns-in-Cancel c x l p sp = label_so p _ _ _ c.in-Cancel.is refl

pub returns-in_ok-cells-in-Call : goal.returns-in_ok-cells-in-Call
returns-in_ok-cells-in-Call c x l p sp =
    let cells = c.in_ok-cells-in-Call.cells.items in
    label_so p _ _ _ c.in-Call.is (cells, c.in_ok-cells-in-Call.ensures x l p sp, ap (λ z. Some (does (calls c.in-Call.k c.in-Call.site z cells))) c.copied.ensures)
