use Rattle.std.proofs.Common.{◌≡◌, ◌∙◌, refl, sym, true, false, arith}
use Rattle.orc_rules.specs.Timed.{IsQuiet}
use Rattle.orc_rules.specs.Journal.{moment}
use Rattle.orc_outcome.specs.Outcome.{context}
use Rattle.orc_outcome.specs.declared.end.End.TheVariants as ends
use Rattle.orc_reference.proofs.Stories.{same_end}
use Rattle.orc_reference.proofs.reference.cut.Goals as goal

pub returns-then-not-is_quiet : goal.returns-then-not-is_quiet
returns-then-not-is_quiet c t reached =
    let l = c.args.program.now in
    let not : IsQuiet (context l t) (moment reached.place) → false ≡ true = λ q. sym c.if-not-is_quiet.true ∙ (c.is_quiet.ensures.quiet (context l t) reached.place refl reached.told.spells).1 q in
    same_end l t c.args.limit c.args.history.now c.is_quiet.new.self ends.Limit c.is_quiet.ensures.same
    (record { turns = c.args.limit; reached = reached; within = omega arith; ends = (reached.turns_are, λ q. cc (not q)) })

pub returns : goal.returns
returns c t reached =
    let l = c.args.program.now in
    same_end l t c.args.limit c.args.history.now c.is_quiet.new.self ends.Quiet c.is_quiet.ensures.same
    (record { turns = c.args.limit; reached = reached; within = omega arith; ends = (c.is_quiet.ensures.quiet (context l t) reached.place refl reached.told.spells).0 c.if-not-is_quiet.false })
