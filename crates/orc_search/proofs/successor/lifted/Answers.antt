use Rattle.std.proofs.Common.{◌≡◌, ℕ, Some, arith, ap, sym, ◌∙◌}
use Rattle.orc_search.specs.declared.successor.Lift.{Lift}
use Rattle.orc_search.specs.declared.successor.Lift.TheVariants.{Passed}
use Rattle.orc_search.specs.Successors.{Successor}
use Rattle.orc_search.specs.Nodes.{smalls, small_at}
use Rattle.orc_search.specs.Moving.{happening_of, in_frame, lift_of}
use Rattle.orc_search.proofs.Nodes.{same_len, there}
use Rattle.orc_search.proofs.Moving.{by_lift, lift_is}
use Rattle.orc_search.proofs.successor.lifted.Goals as goal

pub returns-in-Passed-clause-lifted : goal.returns-in-Passed-clause-lifted
returns-in-Passed-clause-lifted c =
    let ts = smalls c.args.terms.now in
    let h = happening_of c.args.successor.happening in
    let to : ℕ = c.args.successor.to in
    let way : lift_of c.args.frame h ≡ Passed = sym c.lift_of.ensures ∙ c.in-Passed.is in
    let is : in_frame ts c.args.frame (h, small_at ts to) ≡ (h, small_at ts to) = lift_is ts c.args.frame h to ∙ ap (λ (l : Lift). by_lift ts l c.args.frame h to) way in
    (sym (ap (λ (s : Successor). s.0) is), there ts to (omega (arith, same_len c.args.terms.now, c.requires.part)) ∙ ap (λ (s : Successor). Some s.1) (sym is))
