use Rattle.std.proofs.Common.{◌≡◌, ◌++◌, ◌∙◌, [], map, sym, ap, subst, suc, arith}
use Rattle.orc_calls.specs.Counting.{bare_entries, entry_of, nth_in, CountsOne}
use Rattle.orc_calls.proofs.BareCalls.{adds_bare}
use Rattle.orc_calls.proofs.counts.Counts.add_bare.Goals as goal

pub returns-clause-added : goal.returns-clause-added
returns-clause-added c =
    let site = c.args.site in
    let bare = c.self.inside.bare in
    let others = map entry_of c.self.inside.next.entries in
    let here = c.nth_bare.ensures.nth ∙ ap (λ z. nth_in z site []) (sym c.self.view_is) in
    let next : c.in-Some.more ≡ suc (nth_in (bare_entries 0 bare ++ others) site []) = omega (arith, c.in-Some.ensures, here) in
    subst (λ z. CountsOne site [] z (bare_entries 0 c.set.new.self ++ others)) c.self.view_is (adds_bare bare c.set.new.self others site c.in-Some.more c.self.invariant.1 next c.in_ok-set.ensures.set)
