use Rattle.std.proofs.Common.{sym}
use Rattle.std.proofs.lemmas.List.{take_rest}
use Rattle.orc_lex.proofs.Lines.{line_there, line_last}
use Rattle.orc_lex.proofs.lexer.line_end.Goals as goal

pub returns-in-Some : goal.returns-in-Some
returns-in-Some c = line_there c.args.src.now _ c.args.from c.in-Some.count (sym (take_rest c.args.src.now c.args.from)) c.requires c.in-Some.ensures.0 c.in-Some.ensures.1

pub returns-in-None : goal.returns-in-None
returns-in-None c = line_last c.args.src.now _ c.args.from (sym (take_rest c.args.src.now c.args.from)) c.requires c.in-None.ensures
