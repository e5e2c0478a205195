use Rattle.std.proofs.Common.{◌≡◌, ◌++◌, ◌∷◌, [], ap, ◌∙◌, rules}
use Rattle.orc_schedules.specs.Watch.{all_seen, is_named}
use Rattle.orc_schedules.proofs.WatchingNames.{same_last, seen_last}
use Rattle.orc_schedules.proofs.watch.Watch.add.Goals as goal

pub returns-clause-names : goal.returns-clause-names
returns-clause-names c =
    let items : c.push.new.self.items ≡ c.args.self.now.names ++ c.outline.result ∷ [] = search rules in
    λ w. ap (λ ss. is_named ss w) items ∙ same_last c.args.self.now.names c.outline.result c.args.name.now c.outline.ensures.names w

pub returns-clause-seen : goal.returns-clause-seen
returns-clause-seen c =
    let items : c.push.new.self.items ≡ c.args.self.now.names ++ c.outline.result ∷ [] = search rules in
    ap all_seen items ∙ seen_last c.args.self.now.names c.outline.result c.args.name.now c.outline.ensures.seen
