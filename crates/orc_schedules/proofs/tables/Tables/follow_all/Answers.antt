use Rattle.std.proofs.Common.{◌≡◌, ◌<◌, ℕ, length, Some, sym, ap, ◌∙◌, arith}
use Rattle.std.specs.Prelude.{slice_get}
use Rattle.orc_search.specs.declared.successor.Successor.{Successor}
use Rattle.orc_search.proofs.Nodes.{within}
use Rattle.orc_schedules.specs.Seen.{kept_by}
use Rattle.orc_schedules.proofs.Adding.{added_next}
use Rattle.orc_schedules.proofs.Growing.{get_there}
use Rattle.orc_schedules.proofs.Keeping.{keeps_both, followed_next}
use Rattle.orc_schedules.proofs.tables.Tables.follow_all.Goals as goal

pub loop-successor-preserved : goal.loop-successor-preserved
loop-successor-preserved c =
    let t = c.args.self.now in
    let u = c.loop-successor.self in
    let v = c.follow.new.self in
    let next = c.args.successors.now in
    let at : ℕ = c.loop-successor.successor-index in
    let s : Successor = c.successor-item.result in
    let kept = c.loop-successor.invariant.1 in
    let lt : at < length next = omega arith in
    let here : slice_get next at ≡ Some s = get_there next at s lt ∙ ap Some (sym c.successor-item.is) in (
      c.in_ok-follow.ensures.all,
      keeps_both t u v kept c.in_ok-follow.ensures.kept,
      followed_next (kept_by c.args.sieve.now) c.args.answers.now.sites t u v c.args.from next at s kept c.in_ok-follow.ensures.kept c.loop-successor.invariant.0 c.requires.from c.requires.to here c.loop-successor.invariant.2 c.in_ok-follow.ensures.followed,
      added_next (kept_by c.args.sieve.now) c.args.answers.now.sites t u v c.args.from next at s kept c.in_ok-follow.ensures.kept c.loop-successor.invariant.0 c.requires.from (c.requires.to at s here) here c.loop-successor.invariant.3 c.in_ok-follow.ensures.added,
      c.in_ok-follow.ensures.ends ∙ c.loop-successor.invariant.4,
    )

pub returns-clause-followed : goal.returns-clause-followed
returns-clause-followed c = λ i s h. let lt = within c.args.successors.now i s h in c.loop-successor.invariant.2 i s (omega (arith, lt)) h
