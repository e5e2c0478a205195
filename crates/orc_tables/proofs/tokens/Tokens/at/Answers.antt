use Rattle.std.proofs.Common.{◌<◌, ◌∙◌, ap, sym, length, Some}
use Rattle.orc_tables.proofs.Placed.{there}
use Rattle.orc_tables.proofs.tokens.Tokens.at.Goals as goal

pub returns : goal.returns
returns c =
    let slots = c.self.inside.slots.items in
    let lt : c.args.slot < length slots = rw (← c.self.view_is) at c.requires in
    rw (← c.self.view_is) (there slots c.args.slot c.index.result.now lt ∙ ap Some (sym c.index.ensures))
