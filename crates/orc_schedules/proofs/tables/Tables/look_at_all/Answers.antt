use Rattle.std.proofs.Common.{ℕ, sym, subst}
use Rattle.orc_search.specs.Nodes.{smalls}
use Rattle.orc_search.specs.Programs.{small_definitions}
use Rattle.orc_schedules.specs.Reached.{Reached}
use Rattle.orc_schedules.specs.Seen.{kept_by}
use Rattle.orc_schedules.specs.Tables.{IsLookedAt, reached, reached_at, outcomes}
use Rattle.orc_schedules.proofs.Growing.{get_in}
use Rattle.orc_schedules.proofs.Keeping.{keeps_both, reached_kept}
use Rattle.orc_schedules.proofs.Starting.{ready_kept}
use Rattle.orc_schedules.proofs.Whole.{done_next}
use Rattle.orc_schedules.proofs.tables.Tables.look_at_all.Goals as goal

pub look_at-requires-clause-ready : goal.look_at-requires-clause-ready
look_at-requires-clause-ready c =
    let kept = c.loop-at.invariant.2 in
    ready_kept (smalls c.args.self.now.terms) (smalls c.loop-at.self.terms) c.args.source.now kept.terms c.requires.ready

pub loop-at-preserved : goal.loop-at-preserved
loop-at-preserved c =
    let t = c.loop-at.self in
    let u = c.look_at.new.self in
    let defs = small_definitions c.args.source.now.program.now in
    let keep = kept_by c.args.sieve.now in
    let sites = c.args.source.now.answers.now.sites in
    let k = c.in-Some.key in
    let at : ℕ = c.loop-at.at in
    let kept = c.in_ok-look_at.ensures.kept in
    let known = c.loop-at.invariant.1 in
    let there = sym c.in-Some.ensures in
    let here : IsLookedAt defs keep (reached sites u) u.longest (outcomes u) (reached_at sites u k) =
    subst (λ (r : Reached). IsLookedAt defs keep (reached sites u) u.longest (outcomes u) r) (sym (reached_kept keep sites t u k kept (known.0 at k there))) c.in_ok-look_at.ensures.done in
    (c.in_ok-look_at.ensures.listed, c.in_ok-look_at.ensures.all, keeps_both c.args.self.now t u c.loop-at.invariant.2 kept, done_next defs keep sites t u at k kept known there c.loop-at.invariant.3 here, λ begin found. c.in_ok-look_at.ensures.found begin (get_in t.states at k there) (c.loop-at.invariant.4 begin found))

pub returns-then-len-most-clause-found : goal.returns-then-len-most-clause-found
returns-then-len-most-clause-found c = λ begin found.
    let there = sym c.in-Some.ensures in
    c.in_ok-look_at.ensures.found begin (get_in c.loop-at.self.states c.loop-at.at c.in-Some.key there) (c.loop-at.invariant.4 begin found)
