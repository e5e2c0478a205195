use Rattle.std.proofs.Common.{◌≡◌, ◌++◌, ◌∷◌, [], ◌+◌, ℕ, min, append-nil, arith, ◌∙◌}
use Rattle.orc_schedules.specs.declared.lists.Longer.{Longer}
use Rattle.orc_schedules.specs.declared.lists.What.TheVariants.{Nothing}
use Rattle.orc_schedules.specs.Lists.{list_at, list_of, lists}
use Rattle.orc_schedules.specs.Seen.{Past, latest_in, nothing_yet}
use Rattle.orc_schedules.proofs.Growing.{get_or_is}
use Rattle.orc_schedules.proofs.lists.Lists.wait.Goals as goal

pub returns-clause-list : goal.returns-clause-list
returns-clause-list c =
    let l = c.args.self.now in
    let p : Past = list_at (lists l) c.args.at in
    let x : Longer = record { before = c.args.at; now = c.min-now.result; what = Nothing } in
    let before = c.now-before.ensures in
    let sum = c.saturating_add.ensures in
    let least = c.min-now.ensures in
    let latest = c.latest.ensures in
    let fits = c.latest.type_inv in
    let now : c.min-now.result ≡ min (p.now + c.args.by) (latest_in c.args.sieve.now) = omega (arith, before, sum, least, latest, fits) in
    get_or_is (lists c.find.new.self) c.in_ok-to.to (list_of l.calls (lists l) x) nothing_yet c.in_ok-to.ensures.number
    ∙ λ i. record { happened = append-nil p.happened i; now = now i }
