use Rattle.std.proofs.Common.{◌++◌, sym, subst}
use Rattle.orc_verdict.specs.Lines.{IsTextFault}
use Rattle.orc_verdict.proofs.Reading.{read_fault}
use Rattle.orc_verdict.proofs.lines.refused.Goals as goal

pub returns-in-Err : goal.returns-in-Err
returns-in-Err g c = λ l text es read refused.
    let (piece, may, is) = read_fault l c.args.answers.now c.args.lines.now.coming.left text c.in-Err.fault (c.in-Err.ensures.fault text es read) in
    (piece, may, subst (IsTextFault l c.args.answers.now (text ++ piece)) (sym c.from.ensures) is)
