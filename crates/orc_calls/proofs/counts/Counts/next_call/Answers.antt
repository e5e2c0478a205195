use Rattle.std.proofs.Common.{rules, ◌∙◌, sym, ap}
use Rattle.orc_rules.specs.Sites.{find}
use Rattle.orc_calls.proofs.counts.Counts.next_call.Goals as goal
use Rattle.orc_calls.proofs.counts.Counts.next_call.Goals.{then-is_scripted, else-is_scripted}

pub returns-clause-nth : goal.returns-clause-nth
returns-clause-nth c calls are scripted = elim c.if-is_scripted.branch [
  | then-is_scripted w ↦ w.nth-is ∙ w.nth-nth.ensures.nth ∙ are c.args.site c.args.args.now scripted
  | else-is_scripted w ↦ cc (sym scripted ∙ sym c.is_scripted.ensures ∙ w.if-is_scripted.false)
]

pub returns-clause-found : goal.returns-clause-found
returns-clause-found c calls are = elim c.if-is_scripted.branch [
  | then-is_scripted w ↦ c.find.ensures ∙ ap (find c.args.answers.now.sites c.args.site c.args.args.now) (w.nth-is ∙ w.nth-nth.ensures.nth ∙ are c.args.site c.args.args.now (sym c.is_scripted.ensures ∙ w.if-is_scripted.true))
  | else-is_scripted w ↦ search rules
]
