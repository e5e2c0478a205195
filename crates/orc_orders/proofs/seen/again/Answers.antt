use Rattle.std.proofs.Common.{◌≡◌, ◌+◌, ◌∙◌, Some, arith, ap, refl, slice_get, sym}
use Rattle.std.proofs.lemmas.Option.{slice_get-get_or}
use Rattle.orc_orders.proofs.Known.{once_more}
use Rattle.orc_orders.proofs.seen.again.Goals as goal

pub returns-clause-more : goal.returns-clause-more
returns-clause-more c =
    let xs = c.args.seen.now.items in
    let x = c.index_mut.result.now in
    let read = c.index.result.now in
    let here : slice_get xs c.args.at ≡ Some x = slice_get-get_or xs c.args.at x c.requires ∙ ap Some (sym c.index_mut.ensures.value) in
    let there : slice_get xs c.args.at ≡ Some read = slice_get-get_or xs c.args.at read c.requires ∙ ap Some (sym c.index.ensures) in
    let same : read ≡ x = cc (sym there ∙ here) in
    let times : read.times ≡ x.times = ap (λ y. y.times) same in
    let more : c.in-Some.times ≡ x.times + 1 = omega (arith, c.in-Some.ensures, times) in
    once_more c.args.at xs _ x (record x { times = c.in-Some.times }) c.requires c.index_mut.ensures.value (ap (λ t. record x { times = t }) more) refl
