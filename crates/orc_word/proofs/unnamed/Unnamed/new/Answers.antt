use Rattle.std.proofs.Common.{◌≡◌, replicate, ap, ◌∙◌, arith}
use Rattle.orc_word.proofs.Deeds.{begins_zeros}
use Rattle.orc_word.proofs.unnamed.Unnamed.new.Goals as goal

pub of_words-requires : goal.of_words-requires
of_words-requires c =
    let done : c.loop.counter ≡ c.args.groups = omega (arith, c.loop-test.false, c.loop.auto.counter-end) in
    let zeros = c.as_slice.ensures.value ∙ c.loop.invariant ∙ ap (λ n. replicate n 0) done in
    begins_zeros c.args.groups c.args.passes c.as_slice.result.now (omega (arith, c.requires.passes)) zeros
