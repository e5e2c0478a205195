use Rattle.std.proofs.Common.{◌≡◌, ◌<◌, ◌++◌, ◌∷◌, [], Some, sym, ap, ◌∙◌, arith}
use Rattle.std.specs.Prelude.{slice_get}
use Rattle.orc_indexes.specs.Same.{weight}
use Rattle.orc_indexes.specs.Same.{is_this}
use Rattle.orc_indexes.proofs.Chained.{once-more, later-more}
use Rattle.orc_indexes.proofs.chains.Chains.list.Goals as goal

pub loop-link-preserved : goal.loop-link-preserved
loop-link-preserved c =
    let ls = c.args.self.now.links.items in
    let xs = c.loop-link.places.items in
    let at = c.loop-link.at in
    let l = c.in-Some-find_link.link in
    let is : slice_get ls at ≡ Some l = sym c.in-Some-find_link.ensures in
    let less : l.rank < c.loop-link.rank = omega (arith, c.if-link-rank.false) in
    let new : c.push_within.new.items.items ≡ xs ++ at ∷ [] = c.push_within.ensures.items ∙ ap (λ z. z ++ at ∷ []) c.reserve.ensures.items in
    record {
      once = λ k. omega (arith, ap (weight (is_this k)) new, once-more ls xs c.loop-link.rank at l is less c.loop-link.invariant.once c.loop-link.invariant.later k);
      later = λ k h. later-more ls xs c.loop-link.rank at l is less c.loop-link.invariant.once c.loop-link.invariant.later k (omega (arith, h, ap (weight (is_this k)) new));
    }
