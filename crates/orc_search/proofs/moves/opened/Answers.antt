use Rattle.std.proofs.Common.{◌≡◌, ◌<◌, Some, length, arith, ap, ◌∙◌}
use Rattle.orc_rules.specs.declared.param.Param.TheVariants.{Cell}
use Rattle.orc_search.specs.Small.{Small, needs, set}
use Rattle.orc_search.specs.Nodes.{smalls, small_at}
use Rattle.orc_search.proofs.Nodes.{same_len, within, term_at}
use Rattle.orc_search.proofs.Changes.{kept_len, kept_at}
use Rattle.orc_search.proofs.moves.opened.Goals as goal

pub number_of-requires : goal.number_of-requires
number_of-requires c =
    let new = smalls c.changed.new.terms in
    let more = kept_len (smalls c.args.terms.now) new c.in_ok-left.ensures.kept in
    let len = same_len c.changed.new.terms in
    let left = within new c.in_ok-left.left _ c.in_ok-left.ensures.image in
    (omega (arith, left, len), omega (arith, more, len, same_len c.args.terms.now, c.requires.right))

pub returns-clause-number : goal.returns-clause-number
returns-clause-number c =
    let first = smalls c.args.terms.now in
    let new = smalls c.changed.new.terms in
    let f : Small = small_at first c.args.f in
    let there : c.args.g < length first = omega (arith, same_len c.args.terms.now, c.requires.right) in
    let left : small_at new c.in_ok-left.left ≡ set (Cell c.args.depth) c.args.x f = term_at new c.in_ok-left.left (set (Cell c.args.depth) c.args.x f) c.in_ok-left.ensures.image in
    let right : small_at new c.args.g ≡ small_at first c.args.g = kept_at first new c.args.g c.in_ok-left.ensures.kept there in
    c.in_ok-to.ensures.number ∙ ap Some (λ i. needs (left i) (right i))
