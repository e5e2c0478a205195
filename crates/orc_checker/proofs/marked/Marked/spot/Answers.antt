use Rattle.orc_checker.proofs.Lookups.{bears_there}
use Rattle.orc_checker.proofs.marked.Marked.spot.Goals as goal

pub returns-in_default : goal.returns-in_default
returns-in_default c =
    let t = c.in_ok-holder.holder in
    record { free = tt; there = tt; refused = bears_there c.args.self.now.nodes t.parent t.at t.tip c.args.s c.in_ok-holder.ensures.there c.in_ok-holder.ensures.carries c.in_default.not-Token }
