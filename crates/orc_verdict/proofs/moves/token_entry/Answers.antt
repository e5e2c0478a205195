use Rattle.std.proofs.Common.{subst}
use Rattle.orc_checker.specs.Offers.{Offers}
use Rattle.orc_checker.specs.declared.next.Next.TheVariants as next
use Rattle.orc_verdict.proofs.moves.token_entry.Goals as goal

-- the form doesn't depend on the new numbers
pub returns-in-Fork-clause-fits : goal.returns-in-Fork-clause-fits
returns-in-Fork-clause-fits c = λ x p offers.
    let so : Offers x p c.args.token next.Fork = subst (Offers x p c.args.token) c.in-Fork.is offers in
    so 0 0

pub returns-in-Seq-clause-fits : goal.returns-in-Seq-clause-fits
returns-in-Seq-clause-fits c = λ x p offers.
    let so : Offers x p c.args.token next.Seq = subst (Offers x p c.args.token) c.in-Seq.is offers in
    so 0

pub returns-in-Other-clause-fits : goal.returns-in-Other-clause-fits
returns-in-Other-clause-fits c = λ x p offers.
    let so : Offers x p c.args.token next.Other = subst (Offers x p c.args.token) c.in-Other.is offers in
    so 0

pub returns-in-Def-clause-fits : goal.returns-in-Def-clause-fits
returns-in-Def-clause-fits c = λ x p offers.
    let so : Offers x p c.args.token next.Def = subst (Offers x p c.args.token) c.in-Def.is offers in
    so 0

pub returns-in-Open-clause-fits : goal.returns-in-Open-clause-fits
returns-in-Open-clause-fits c = λ x p offers.
    let so : Offers x p c.args.token next.Open = subst (Offers x p c.args.token) c.in-Open.is offers in
    so 0 0 0

pub returns-in-Call-clause-fits : goal.returns-in-Call-clause-fits
returns-in-Call-clause-fits c = λ x p offers.
    let so : Offers x p c.args.token (next.Call c.in-Call.site c.in-Call.args) = subst (Offers x p c.args.token) c.in-Call.is offers in
    so 0
