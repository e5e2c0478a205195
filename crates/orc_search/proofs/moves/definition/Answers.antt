use Rattle.std.proofs.Common.{ap, sym, ◌∙◌, Some, arith}
use Rattle.std.proofs.lemmas.Option.{slice_get-get_or, slice_get_past}
use Rattle.orc_search.proofs.Own.{is_defined, is_undefined}
use Rattle.orc_search.proofs.moves.definition.Goals as goal

pub returns-in-Some-clause-there : goal.returns-in-Some-clause-there
returns-in-Some-clause-there c =
    let ds = c.definitions.result.now in
    let d = c.in-Some.called.now in
    let found = c.in-Some.ensures.lookup in
    is_defined c.args.program.now ds c.args.number c.definitions.ensures d (slice_get-get_or ds c.args.number d (omega arith) ∙ ap Some (sym found.1))

pub returns-in-None-clause-none : goal.returns-in-None-clause-none
returns-in-None-clause-none c = is_undefined c.args.program.now c.definitions.result.now c.args.number c.definitions.ensures (slice_get_past c.definitions.result.now c.args.number (omega (arith, c.in-None.ensures.lookup)))
