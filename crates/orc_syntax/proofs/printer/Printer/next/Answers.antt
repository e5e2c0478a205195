use Rattle.orc_syntax.specs.Backward.{waiting}
use Rattle.orc_syntax.proofs.Backward.{say_turn}
use Rattle.orc_syntax.proofs.printer.Printer.next.Goals as goal

pub loop-task-preserved : goal.loop-task-preserved
loop-task-preserved c =
    let s = c.loop-task.self in
    say_turn s.tasks.items c.pop.new.self.items c.in-Some.task c.in-Say.piece s.pieces.items c.push.new.self.items (waiting c.args.self.now.tasks.items) _ c.in-Some.ensures.items c.in-Say.is c.in_ok-push-in-Say.ensures.items c.loop-task.invariant
