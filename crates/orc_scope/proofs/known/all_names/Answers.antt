use Rattle.std.proofs.Common.{rules, ◌^◌, ◌∙◌}
use Rattle.orc_syntax.specs.Ast.{text_of}
use Rattle.orc_scope.proofs.Cuts.{cut_all}
use Rattle.orc_scope.proofs.known.all_names.Goals as goal

pub returns : goal.returns
returns c = c.loop-text.invariant ∙ cut_all text_of c.min-count.result (2 ^ 32) c.loop-text.text-index c.args.texts.now (search rules) (search rules)
