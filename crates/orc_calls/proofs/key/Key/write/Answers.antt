use Rattle.std.proofs.Common.{◌≡◌, ◌∷◌, ◌++◌, ◌∙◌, ◌+◌, [], sym, ap, suc, take, arith, append_assoc, length, length-append}
use Rattle.std.proofs.Math.Seq.{take-suc}
use Rattle.std.specs.Prelude.{pos, get_or}
use Rattle.orc_rules.specs.declared.value.Value.TheVariants.{Number}
use Rattle.orc_calls.specs.Counting.{words_of, key}
use Rattle.orc_calls.proofs.Keys.{words-more}
use Rattle.orc_calls.proofs.key.Key.write.Goals as goal

pub loop-value-preserved : goal.loop-value-preserved
loop-value-preserved c =
    let m = c.args.site in
    let i = c.loop-value.value-index in
    let values = c.as_slice-value-items.result.now in
    let more = take-suc values i (Number (pos 0)) c.loop-value-test.true in
    let next : suc i ≡ i + 1 = omega arith in
    let words = ap words_of more ∙ words-more (take i values) (get_or values i (Number (pos 0))) in (
      c.push-in-loop-value-2.ensures ∙ (λ j. (c.push-in-loop-value.ensures ∙ (λ j. c.loop-value.invariant.0 j ++ c.kind_of.ensures j ∷ [])) j ++ c.amount_of.ensures j ∷ []) ∙ append_assoc (key m (take i values)) _ _ ∙ sym (ap (λ z. m ∷ z) words) ∙ ap (λ n. key m (take n values)) next,
      omega (arith, c.loop-value.invariant.1, ap length c.push-in-loop-value-2.ensures, length-append c.push-in-loop-value.new.self (c.amount_of.result ∷ []), ap length c.push-in-loop-value.ensures, length-append c.loop-value.self (c.kind_of.result ∷ [])),
    )
