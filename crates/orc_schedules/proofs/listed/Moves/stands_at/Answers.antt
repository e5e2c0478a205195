use Rattle.std.proofs.lemmas.Bool.{eqb-true}
use Rattle.orc_schedules.proofs.listed.Moves.stands_at.Goals as goal

pub returns-then-listed-from : goal.returns-then-listed-from
returns-then-listed-from c = λ same.
    let l = c.in-Some.listed.now in
    (l, c.in-Some.ensures, c.if-listed-from.true, eqb-true l.made c.args.from.made same)
