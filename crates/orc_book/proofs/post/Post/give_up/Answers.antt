use Rattle.std.proofs.Common.{rules, ◌≡◌, Some}
use Rattle.orc_word.specs.declared.view.View.{View}
use Rattle.orc_word.specs.Views.{group_of}
use Rattle.orc_book.proofs.Given.{all-front, given-on, given-one, taken-last}
use Rattle.orc_book.proofs.post.Post.give_up.Goals as goal

pub loop-self-preserved : goal.loop-self-preserved
loop-self-preserved g c = (
  search rules,
  search rules,
  search rules,
  all-front (λ (v : View). group_of v ≡ Some c.loop-self.self-inside.word) _ _ c.in-Some.pass c.in-Some.ensures.items c.loop-self.invariant.3,
  search rules,
  search rules,
  search rules,
  given-on _ _ _ _ _ _ c.loop-self.invariant.7 (given-one _ _ c.in-Some.pass _ _ c.push_reserved.ensures.items (taken-last _ _ c.in-Some.pass c.in-Some.ensures.items)),
)
