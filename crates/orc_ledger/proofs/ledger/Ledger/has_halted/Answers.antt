use Rattle.std.proofs.Common.{[], subst, refl}
use Rattle.orc_rules.specs.Nodes.{source}
use Rattle.orc_rules.specs.Term.{Halted}
use Rattle.orc_rules.specs.Marked.{erase}
use Rattle.orc_rules.specs.Journal.{Place, begin}
use Rattle.orc_ledger_spec.specs.Records.{Records, context}
use Rattle.orc_ledger_spec.specs.Kept.{Kept}
use Rattle.orc_ledger_spec.specs.Next.{numbers_of}
use Rattle.orc_ledger_spec.proofs.Keeping.{journal_one}
use Rattle.orc_ledger_spec.proofs.Ended.{root-halted}
use Rattle.orc_ledger.proofs.ledger.Ledger.has_halted.Goals as goal

pub returns-clause-halted : goal.returns-clause-halted
returns-clause-halted g c e p at =
    let l = g.P.Run.listing in
    let sites = g.P.Run.sites in
    let s : Records = c.args.self.now in
    let K = subst (λ (z : Records). Kept l sites c.self.inside.counts c.self.inside.groups.sizes z) c.self.view_is c.self.invariant.kept in
    let L = K.lawful in
    subst (λ q. Halted (erase (Place.marked q))) (journal_one (context l sites) (source l) [] (begin (source l)) L.place p s.journal refl L.leads at)
    (root-halted l sites s L (numbers_of s) K.grouped (c.is_empty.ensures.0 e))
