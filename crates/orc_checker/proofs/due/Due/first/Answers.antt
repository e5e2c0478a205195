use Rattle.std.proofs.Common.{subst}
use Rattle.orc_checker.specs.DueTimes.{IsFirst}
use Rattle.orc_calls.proofs.Notes.{none_earlier}
use Rattle.orc_checker.proofs.DueCalls.{head_of}
use Rattle.orc_checker.proofs.due.Due.first.Goals as goal

pub returns-in-Some : goal.returns-in-Some
returns-in-Some c =
    let keys = c.self.inside.nodes.keys in
    let a = c.in-Some.first.now in
    subst (λ z. IsFirst z a) c.self.view_is (head_of keys a c.in-Some.ensures.first, none_earlier a keys c.in-Some.ensures.least)
