use Rattle.std.proofs.Common.{◌≡◌, ◌+◌, subst, arith}
use Rattle.orc_outcome.specs.declared.end.End.TheVariants as ends
use Rattle.orc_reference.specs.Stories.{IsReached}
use Rattle.orc_reference.proofs.Stories.{same_end, same_story, turn}
use Rattle.orc_reference.proofs.reference.proceed.Goals as goal

pub returns-in-Ok-Nothing : goal.returns-in-Ok-Nothing
returns-in-Ok-Nothing g c begun = c.rest.ensures _ _ _ (omega (arith, c.loop-turn-test.true)) (same_story c.halted_side-side.ensures (c.loop-turn.invariant begun))

pub returns-in-Err : goal.returns-in-Err
returns-in-Err g c begun = record { turns = c.loop-turn._turn; reached = same_story c.halted_side-side.ensures (c.loop-turn.invariant begun); within = omega (arith, c.loop-turn-test.true); ends = tt }

-- a refused entry has changed nothing
pub returns-in-Err-Memory : goal.returns-in-Err-Memory
returns-in-Err-Memory g c begun =
    same_end c.args.program.now c.args.answers.now c.args.limit c.halted_side-side.new.self c.record.new.self ends.Memory c.in-Err-Memory.ensures.refused
    (record { turns = c.loop-turn._turn; reached = same_story c.halted_side-side.ensures (c.loop-turn.invariant begun); within = omega (arith, c.loop-turn-test.true); ends = tt })

pub loop-turn-preserved : goal.loop-turn-preserved
loop-turn-preserved g c begun =
    turn c.args.program.now c.args.answers.now c.loop-turn._turn c.halted_side-side.new.self c.record.new.self c.settle.new.history c.in-Ok-Entry.entry
    c.in-Ok.ensures.grows c.in_ok-settle.ensures (same_story c.halted_side-side.ensures (c.loop-turn.invariant begun))

-- an entry was added, and memory for what comes of it was refused
pub returns-then-is_err : goal.returns-then-is_err
returns-then-is_err g c begun = record {
  turns = c.loop-turn._turn + 1;
  reached =
      turn c.args.program.now c.args.answers.now c.loop-turn._turn c.halted_side-side.new.self c.record.new.self c.settle.new.history c.in-Ok-Entry.entry
      c.in-Ok.ensures.grows c.in_ok-settle.ensures (same_story c.halted_side-side.ensures (c.loop-turn.invariant begun));
  within = omega (arith, c.loop-turn-test.true);
  ends = tt;
}

-- each turn has added an entry that counts, and there were `limit` of them
pub returns-in-Ok-Entry-choose : goal.returns-in-Ok-Entry-choose
returns-in-Ok-Entry-choose g c begun =
    let all : c.loop-turn._turn ≡ c.args.limit = omega (arith, c.loop-turn-test.false, c.loop-turn.auto._turn-end) in
    c.cut.ensures _ (subst (λ n. IsReached c.args.program.now c.args.answers.now n c.halted_side-side-2.new.self) all (same_story c.halted_side-side-2.ensures (c.loop-turn.invariant begun)))

pub returns-in-Ok-Nothing-choose : goal.returns-in-Ok-Nothing-choose
returns-in-Ok-Nothing-choose g c begun = c.rest-in-Ok-Nothing-choose.ensures _ _ _ (omega (arith, c.loop-turn.auto._turn-end)) (same_story c.halted_side-side-2.ensures (c.loop-turn.invariant begun))

pub returns-in-Err-choose : goal.returns-in-Err-choose
returns-in-Err-choose g c begun = record { turns = c.loop-turn._turn; reached = same_story c.halted_side-side-2.ensures (c.loop-turn.invariant begun); within = omega (arith, c.loop-turn.auto._turn-end); ends = tt }
