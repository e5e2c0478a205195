use Rattle.std.proofs.Common.{arith, ◌≡◌, suc, length}
use Rattle.std.proofs.lemmas.Bool.Decides.{Decides-at}
use Rattle.orc_rules.specs.Nodes.{code}
use Rattle.orc_checker.specs.Checker.{context}
use Rattle.orc_verdict.specs.Reasons.{counted_as}
use Rattle.orc_verdict.proofs.Counting.{counted_there}
use Rattle.orc_verdict.proofs.reasons.is_counted.Goals as goal

pub returns : goal.returns
returns c cancels p r sp =
    let s = c.args.marked.now in
    let call : c.new_call.result ≡ suc (length s.rest.calls) = omega (arith, c.new_call.ensures) in
    Decides-at c.are_next.result (counted_as c.args.entry.now c.new_mark.result c.new_call.result c.new_cell.result) c.are_next.ensures
    (counted_there (context c.args.program.now c.args.answers.now cancels) (code c.args.program.now) s p c.args.entry.now c.new_mark.result c.new_call.result c.new_cell.result sp c.new_mark.ensures call c.new_cell.ensures)
