use Rattle.std.proofs.Common.{◌<◌, ◌∷◌, [], ◌∙◌, sym, subst, arith, length, List}
use Rattle.orc_rules.specs.Timed.{IsIn}
use Rattle.orc_indexes.specs.declared.wait_index.Note.{Note}
use Rattle.orc_indexes.proofs.Flags.{notes-set, notes-grown, notes-got, in-front, in-end}
use Rattle.orc_indexes.proofs.wait_index.write_note.Goals as goal

pub returns-in-Ok-clause-noted : goal.returns-in-Ok-clause-noted
returns-in-Ok-clause-noted c =
    let xs = c.args.notes.now.items in
    let lt : c.args.cell < length xs = omega (arith, c.requires.there, c.args.notes.now.ok.0) in
    subst (λ (z : List Note). IsIn c.args.note z) (sym (notes-set xs c.args.cell c.push.new.self lt ∙ c.in-Ok.ensures.items)) (in-end c.index_mut-list.result.now.items c.args.note)

pub returns-in-Ok-clause-kept : goal.returns-in-Ok-clause-kept
returns-in-Ok-clause-kept c =
    let xs = c.args.notes.now.items in
    let list = c.index_mut-list.result.now in
    let lt : c.args.cell < length xs = omega (arith, c.requires.there, c.args.notes.now.ok.0) in
    notes-grown xs c.args.cell c.push.new.self lt (λ n i. subst (λ (z : List Note). IsIn n z) (sym c.in-Ok.ensures.items) (in-front list.items (c.args.note ∷ []) n (subst (λ (z : List Note). IsIn n z) (notes-got xs c.args.cell list lt c.index_mut-list.ensures.value) i)))

pub returns-in-Err-clause-kept : goal.returns-in-Err-clause-kept
returns-in-Err-clause-kept c =
    let xs = c.args.notes.now.items in
    let list = c.index_mut-list.result.now in
    let lt : c.args.cell < length xs = omega (arith, c.requires.there, c.args.notes.now.ok.0) in
    notes-grown xs c.args.cell c.push.new.self lt (λ n i. subst (λ (z : List Note). IsIn n z) (sym c.in-Err.ensures.items) (subst (λ (z : List Note). IsIn n z) (notes-got xs c.args.cell list lt c.index_mut-list.ensures.value) i))
