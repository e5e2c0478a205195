use Rattle.std.proofs.Common.{◌∙◌, refl, subst, sym}
use Rattle.orc_rules.specs.Nodes.{code}
use Rattle.orc_rules.specs.Marked.{erase}
use Rattle.orc_rules.proofs.Idle.{test_halted}
use Rattle.orc_checker.specs.Checker.{Spells}
use Rattle.orc_outcome.specs.Outcome.{context}
use Rattle.orc_outcome.specs.declared.end.End.TheVariants as ends
use Rattle.orc_reference.proofs.Stories.{same_end}
use Rattle.orc_reference.proofs.reference.rest.Goals as goal

-- Halted is answered where the checker's test says so,
pub returns-then-has_halted : goal.returns-then-has_halted
returns-then-has_halted c t turns limit within reached =
    let l = c.args.program.now in
    let place = reached.place in
    let spells = subst (λ m. Spells (context l t) (code l) m place) (sym c.marked.ensures) reached.told.spells in
    record { turns = turns; reached = reached; within = within; ends = test_halted (erase place.marked) (sym (c.has_halted.ensures (context l t) l place spells) ∙ c.if-has_halted.true) }

-- and Quiet where its test does.
pub returns-then-is_quiet : goal.returns-then-is_quiet
returns-then-is_quiet c t turns limit within reached =
    let l = c.args.program.now in
    same_end l t limit c.args.history.now c.is_quiet.new.self ends.Quiet c.is_quiet.ensures.same
    (record { turns = turns; reached = reached; within = within; ends = (c.is_quiet.ensures.quiet (context l t) reached.place refl reached.told.spells).0 c.if-is_quiet.true })
