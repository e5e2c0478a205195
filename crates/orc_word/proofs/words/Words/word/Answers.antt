use Rattle.std.proofs.Common.{ℕ, List, get_or, ap, ◌∙◌}
use Rattle.std.specs.Slots.{slots_items}
use Rattle.orc_word.proofs.Lists.{index-at}
use Rattle.orc_word.proofs.words.Words.word.Goals as goal

pub returns : goal.returns
returns c = index-at (slots_items c.self.inside.closed.words) c.args.group c.word.result c.word.ensures ∙ ap (λ (l : List ℕ). get_or l c.args.group 0) c.self.view_is
