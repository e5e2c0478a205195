use Rattle.std.proofs.Common.{Err, sym, subst, arith}
use Rattle.orc_lex.specs.Tokens.{lexeme}
use Rattle.orc_lex.specs.Lexing.{Gap, Item}
use Rattle.orc_lex.proofs.Unique.{piece_on}
use Rattle.orc_lex.proofs.Within.{piece_in}
use Rattle.orc_syntax.specs.declared.fault.SyntaxFault.{SyntaxFault}
use Rattle.orc_syntax.specs.Machine as machine
use Rattle.orc_syntax.specs.Text.{IfFault}
use Rattle.orc_syntax.specs.View.{mode, context, nodes, stack, count_of}
use Rattle.orc_syntax.proofs.Progress.{begun, over_gap, taken, token_refused, unread_refused, at_end, ended_found, refused_at_end, Refuses}
use Rattle.orc_syntax.proofs.source.read_text.Goals as goal

pub loop-at-init : goal.loop-at-init
loop-at-init c = record {
  high = omega arith;
  so_far = begun c.args.src.now (context c.new-reader.result) (nodes c.new-reader.result) (stack c.new-reader.result) (count_of c.new-depth.result) c.new-reader.ensures.context c.new-reader.ensures.nodes c.new-reader.ensures.stack c.new-depth.ensures;
}

pub loop-at-smaller-in-Gap : goal.loop-at-smaller-in-Gap
loop-at-smaller-in-Gap c = omega (arith, c.loop-at-test.true, piece_on c.args.src.now c.loop-at.at (Gap c.in-Gap.end) c.in-Gap.ensures)

pub loop-at-preserved-in-Gap : goal.loop-at-preserved-in-Gap
loop-at-preserved-in-Gap c = record {
  high = piece_in c.args.src.now c.loop-at.at (Gap c.in-Gap.end) c.in-Gap.ensures;
  so_far = over_gap c.args.src.now c.loop-at.at c.in-Gap.end _ _ c.loop-at.invariant.so_far c.in-Gap.ensures;
}

pub returns-in-Err-clause-fault : goal.returns-in-Err-clause-fault
returns-in-Err-clause-fault c =
    subst (λ (f : SyntaxFault). IfFault (Err f) (Refuses c.args.src.now)) (sym c.refused.ensures)
    (token_refused c.args.src.now c.loop-at.at c.loop-at.mode c.loop-at.reader (count_of c.loop-at.depth) (lexeme c.in-Token.token) c.in-Err.error c.take.new.reader (count_of c.take.new.depth) c.loop-at.invariant.so_far c.in-Token.ensures c.in-Err.ensures)

pub loop-at-smaller : goal.loop-at-smaller
loop-at-smaller c = omega (arith, c.loop-at-test.true, piece_on c.args.src.now c.loop-at.at (Item (lexeme c.in-Token.token)) c.in-Token.ensures)

pub loop-at-preserved : goal.loop-at-preserved
loop-at-preserved c = record {
  high = piece_in c.args.src.now c.loop-at.at (Item (lexeme c.in-Token.token)) c.in-Token.ensures;
  so_far = taken c.args.src.now c.loop-at.at c.loop-at.mode c.loop-at.reader (count_of c.loop-at.depth) (lexeme c.in-Token.token) c.in-Ok.next c.take.new.reader (count_of c.take.new.depth) c.loop-at.invariant.so_far c.in-Token.ensures c.in-Ok.ensures;
}

pub returns-in-Unread-clause-fault : goal.returns-in-Unread-clause-fault
returns-in-Unread-clause-fault c =
    subst (λ (f : SyntaxFault). IfFault (Err f) (Refuses c.args.src.now)) (sym c.unread_fault.ensures)
    (unread_refused c.args.src.now c.loop-at.at _ _ c.in-Unread.why c.loop-at.invariant.so_far c.in-Unread.ensures)

pub returns-in-Ok-finish-clause-found : goal.returns-in-Ok-finish-clause-found
returns-in-Ok-finish-clause-found c =
    ended_found c.args.src.now (machine.state (mode c.loop-at.mode) (context c.loop-at.reader) (nodes c.loop-at.reader) (stack c.loop-at.reader)) (count_of c.loop-at.depth) c.in-Ok-finish.ast
    (at_end c.args.src.now c.loop-at.at _ _ c.loop-at.invariant.high c.loop-at-test.false c.loop-at.invariant.so_far) c.in-Ok-finish.ensures

pub returns-clause-fault : goal.returns-clause-fault
returns-clause-fault c =
    subst (λ (f : SyntaxFault). IfFault (Err f) (Refuses c.args.src.now)) (sym c.refused-in-Err-finish.ensures)
    (refused_at_end c.args.src.now c.loop-at.at (machine.state (mode c.loop-at.mode) (context c.loop-at.reader) (nodes c.loop-at.reader) (stack c.loop-at.reader)) (count_of c.loop-at.depth) c.in-Err-finish.error c.loop-at.invariant.high c.loop-at-test.false c.loop-at.invariant.so_far c.in-Err-finish.ensures)
