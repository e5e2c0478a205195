use Rattle.std.proofs.Common.{◌≡◌, ◌<◌, ℕ, Option, Some, length, arith, ap, subst, ◌∙◌}
use Rattle.std.specs.Prelude.{IfSome}
use Rattle.orc_search.specs.declared.change.Progress.TheVariants.{Is}
use Rattle.orc_search.specs.Small.{Small}
use Rattle.orc_search.specs.Nodes.{smalls, small_at}
use Rattle.orc_search.specs.Changes.{changed, ProgressIs}
use Rattle.orc_search.proofs.Nodes.{same_len}
use Rattle.orc_search.proofs.Changes.{kept_at}
use Rattle.orc_search.proofs.change.changed.Goals as goal

pub returns-in-Some-known-clause-image : goal.returns-in-Some-known-clause-image
returns-in-Some-known-clause-image c =
    let first = smalls c.args.terms.now in
    let old = smalls c.loop-step.terms in
    let new = smalls c.advance.new.terms in
    let change = c.args.change in
    let at : ℕ = c.in-Some-pop.at in
    let root : ℕ = c.args.root in
    let progress : ProgressIs old new change at (Is c.in-Some-known.to) = subst (λ (o : Option ℕ). IfSome o (λ to. ProgressIs old new change at (Is to))) c.in-Some-known.is c.in_ok-known.ensures.is in
    let len = same_len c.args.terms.now in
    let within : root < length first = omega (arith, len, c.requires) in
    let same : small_at old at ≡ small_at first root = ap (small_at old) c.if-at-root.true ∙ kept_at first old root c.loop-step.invariant within in
    progress.1 ∙ ap (λ (f : Small). Some (changed change f)) same
