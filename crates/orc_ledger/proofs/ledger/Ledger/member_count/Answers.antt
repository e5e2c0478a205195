use Rattle.std.proofs.Common.{ap, ◌∙◌}
use Rattle.orc_ledger_spec.specs.Records.{Records}
use Rattle.orc_ledger_spec.specs.Next.{members, numbers_of}
use Rattle.orc_ledger.proofs.ledger.Ledger.member_count.Goals as goal

pub returns : goal.returns
returns g c = c.size.ensures ∙ c.self.invariant.kept.sized c.args.number ∙ ap (λ (s : Records). members (numbers_of s) s c.args.number) c.self.view_is
