use Rattle.std.proofs.Common.{◌<◌, refl, arith, length}
use Rattle.orc_indexes.proofs.Flags.{notes-set, notes-elsewhere, notes-got, popped}
use Rattle.orc_indexes.proofs.wait_index.take_note.Goals as goal

pub returns-in-Some-clause-note : goal.returns-in-Some-clause-note
returns-in-Some-clause-note c =
    let xs = c.args.notes.now.items in
    let list = c.in-Some.list.now in
    let lt : c.args.cell < length xs = omega (arith, c.in-Some.ensures.variant.0 refl, c.args.notes.now.ok.0) in
    popped c.pop.result list.items c.pop.new.self.items _ _ list.len _ _ list.ok.0 c.pop.ensures.items c.pop.ensures.cases (notes-got xs c.args.cell list lt c.in-Some.ensures.value) (notes-set xs c.args.cell c.pop.new.self lt)

pub returns-in-Some-clause-others : goal.returns-in-Some-clause-others
returns-in-Some-clause-others c = λ d off. notes-elsewhere c.args.notes.now.items c.args.cell d c.pop.new.self off
