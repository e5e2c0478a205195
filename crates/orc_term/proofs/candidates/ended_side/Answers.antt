use Rattle.std.proofs.Common.{◌∙◌, sym}
use Rattle.orc_term.proofs.KeptSides.{known_less, none_left}
use Rattle.orc_term.proofs.candidates.ended_side.Goals as goal

pub loop-place-preserved : goal.loop-place-preserved
loop-place-preserved c = (
  known_less c.args.nodes.now.items c.args.flags.now.items c.loop-place.candidates c.drop_first.new.self c.in-Some.place c.loop-place.invariant.0 c.drop_first.ensures.all (c.drop_first.ensures.rest c.in-Some.place (sym c.first.ensures ∙ c.in-Some.is)) (sym c.has_ended.ensures ∙ c.if-has_ended.false),
  c.drop_first.ensures.all ∙ c.loop-place.invariant.1,
)

pub returns-clause-ends : goal.returns-clause-ends
returns-clause-ends c = none_left c.args.nodes.now.items c.args.flags.now.items c.loop-place.candidates c.loop-place.invariant.0 c.loop-place.invariant.1 (sym c.first.ensures ∙ c.in_default.is)
