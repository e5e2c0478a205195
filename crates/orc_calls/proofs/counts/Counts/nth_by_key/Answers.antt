use Rattle.std.proofs.Common.{◌≤◌, None, Some, ◌∙◌, map, sym, ap, subst}
use Rattle.std.specs.Option.{option_copied}
use Rattle.orc_calls.specs.Counting.{entry_of, key, nth_in}
use Rattle.orc_calls.proofs.BareCalls.{nth_by_key}
use Rattle.orc_calls.proofs.Keys.{nth_seen}
use Rattle.orc_calls.proofs.counts.Counts.nth_by_key.Goals as goal

pub returns-in-Some-clause-nth : goal.returns-in-Some-clause-nth
returns-in-Some-clause-nth c =
    let site = c.args.site in
    let args = c.args.args.now in
    let inside = c.self.inside in
    nth_seen c.as_slice.result.now inside.next.entries (Some c.in-Some.next.now) site args (ap option_copied (sym c.in-Some.is) ∙ c.get.ensures.value) (c.as_slice.ensures ∙ c.write.ensures)
    ∙ nth_by_key inside.bare (map entry_of inside.next.entries) site args c.requires
    ∙ ap (λ z. nth_in z site args) c.self.view_is

pub returns-in-Some-clause-from_1 : goal.returns-in-Some-clause-from_1
returns-in-Some-clause-from_1 c =
    let site = c.args.site in
    let args = c.args.args.now in
    let next = nth_seen c.as_slice.result.now c.self.inside.next.entries (Some c.in-Some.next.now) site args (ap option_copied (sym c.in-Some.is) ∙ c.get.ensures.value) (c.as_slice.ensures ∙ c.write.ensures) in
    subst (λ n. 1 ≤ n) (sym next) (c.self.invariant.0 (key site args))

pub returns-in-None-clause-nth : goal.returns-in-None-clause-nth
returns-in-None-clause-nth c =
    let site = c.args.site in
    let args = c.args.args.now in
    let inside = c.self.inside in
    nth_seen c.as_slice.result.now inside.next.entries None site args (ap option_copied (sym c.in-None.is) ∙ c.get.ensures.value) (c.as_slice.ensures ∙ c.write.ensures)
    ∙ nth_by_key inside.bare (map entry_of inside.next.entries) site args c.requires
    ∙ ap (λ z. nth_in z site args) c.self.view_is
