use Rattle.std.proofs.Common.{◌≡◌, Option, Some, refl, arith, sym, subst, ◌∙◌}
use Rattle.std.specs.Prelude.{slice_get}
use Rattle.orc_rules.specs.Nodes.{code, definition_of}
use Rattle.orc_rules.specs.Programs.{routine_of}
use Rattle.orc_search.specs.Small.{set_all}
use Rattle.orc_search.specs.Moves.{SmallDefinition}
use Rattle.orc_search.specs.Successors.{entered}
use Rattle.orc_search.specs.Nodes.{smalls, small_at}
use Rattle.orc_search.specs.Programs.{small, small_definition, small_definitions}
use Rattle.orc_search.specs.Own.{Turns}
use Rattle.orc_search.proofs.Nodes.{same_len, within, term_at}
use Rattle.orc_search.proofs.moves.entered.Goals as goal

pub filled-requires : goal.filled-requires
filled-requires c = omega (arith, same_len c.number_of_node.new.terms, within (smalls c.number_of_node.new.terms) c.in_ok-body.body _ c.in_ok-body.ensures.number)

pub returns-clause-entered : goal.returns-clause-entered
returns-clause-entered c =
    let program = c.args.source.now.program.now in
    let old = smalls c.number_of_node.new.terms in
    let new = smalls c.filled.new.terms in
    let called = c.in-Some.called.now in
    let ps = c.args.params.now in
    let is : slice_get (small_definitions program) c.args.number ≡ Some (small_definition (definition_of program (routine_of called))) = c.in-Some.ensures.there in
    let body : small_at old c.in_ok-body.body ≡ small (code program called.body) = term_at old c.in_ok-body.body (small (code program called.body)) c.in_ok-body.ensures.number in
    let names : c.deref.result.now ≡ called.params.items = c.deref.ensures.value in
    let to : slice_get new c.in_ok-to.to ≡ Some (set_all called.params.items ps (small (code program called.body))) = c.in_ok-to.ensures.number ∙ (λ i. Some (set_all (names i) ps (body i))) in
    subst (λ (o : Option SmallDefinition). Turns new (Some c.in_ok-to.to) (entered o ps)) (sym is) ((refl, to), tt)
