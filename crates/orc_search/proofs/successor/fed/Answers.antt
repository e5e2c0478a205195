use Rattle.std.proofs.Common.{◌≡◌, ◌<◌, ℕ, Some, length, arith, ap, ◌∙◌}
use Rattle.orc_rules.specs.declared.param.Param.TheVariants.{Is}
use Rattle.orc_search.specs.Small.{Small, both, feeds, set}
use Rattle.orc_search.specs.Nodes.{smalls, small_at}
use Rattle.orc_search.proofs.Nodes.{same_len, within, term_at}
use Rattle.orc_search.proofs.Changes.{kept_len, kept_get, kept_at}
use Rattle.orc_search.proofs.successor.fed.Goals as goal

pub changed-requires : goal.changed-requires
changed-requires c =
    let more = kept_len (smalls c.args.terms.now) (smalls c.number_of.new.self) c.in_ok-rest.ensures.kept in
    omega (arith, more, same_len c.args.terms.now, same_len c.number_of.new.self, c.requires.right)

pub number_of-requires-2 : goal.number_of-requires-2
number_of-requires-2 c =
    let old = smalls c.number_of.new.self in
    let new = smalls c.changed.new.terms in
    let len = same_len c.changed.new.terms in
    let rest = within new c.in_ok-rest.rest _ (kept_get old new c.in_ok-rest.rest _ c.in_ok-copy.ensures.kept c.in_ok-rest.ensures.number) in
    let copy = within new c.in_ok-copy.copy _ c.in_ok-copy.ensures.image in
    (omega (arith, rest, len), omega (arith, copy, len))

pub returns-clause-number : goal.returns-clause-number
returns-clause-number c =
    let first = smalls c.args.terms.now in
    let old = smalls c.number_of.new.self in
    let new = smalls c.changed.new.terms in
    let x : ℕ = c.args.x in
    let f : Small = small_at first c.args.f in
    let g : Small = small_at first c.args.g in
    let there : c.args.g < length first = omega (arith, same_len c.args.terms.now, c.requires.right) in
    let rest : small_at new c.in_ok-rest.rest ≡ feeds f x g = term_at new c.in_ok-rest.rest (feeds f x g) (kept_get old new c.in_ok-rest.rest (feeds f x g) c.in_ok-copy.ensures.kept c.in_ok-rest.ensures.number) in
    let copy : small_at new c.in_ok-copy.copy ≡ set (Is c.args.value) x g
    = term_at new c.in_ok-copy.copy (set (Is c.args.value) x (small_at old c.args.g)) c.in_ok-copy.ensures.image ∙ ap (set (Is c.args.value) x) (kept_at first old c.args.g c.in_ok-rest.ensures.kept there) in
    c.in_ok-to.ensures.number ∙ ap Some (λ i. both (rest i) (copy i))
