use Rattle.orc_tables.proofs.Slots.{live-in}
use Rattle.orc_ledger.proofs.ledger.Ledger.token.Goals as goal

pub returns-in-Some-clause-held : goal.returns-in-Some-clause-held
returns-in-Some-clause-held g c = rw (← c.self.view_is) (c.in-Some.ensures.held.0, c.in-Some.ensures.held.1, live-in c.self.inside.tokens.items c.args.slot c.in-Some.token c.in-Some.ensures.held.0)
