use Rattle.std.proofs.Common.{sym, subst}
use Rattle.orc_rules.specs.Timed.{IsIn}
use Rattle.orc_search.specs.Nodes.{smalls}
use Rattle.orc_search.specs.Programs.{small_definitions}
use Rattle.orc_schedules.specs.Seen.{kept_by}
use Rattle.orc_schedules.proofs.Adding.{found_kept_all}
use Rattle.orc_schedules.proofs.Keeping.{keeps_both, known_kept}
use Rattle.orc_schedules.proofs.Leading.{looked_at}
use Rattle.orc_schedules.proofs.Listing.{all_kept}
use Rattle.orc_schedules.proofs.Starting.{ready_kept}
use Rattle.orc_schedules.proofs.tables.Tables.look_at.Goals as goal

pub expand-requires-clause-from : goal.expand-requires-clause-from
expand-requires-clause-from c = let known = known_kept c.args.self.now c.ahead_of.new.self c.args.from c.in_ok-term.ensures.kept c.requires.from in (c.in_ok-term.ensures.there, known.1, known.2)

pub expand-requires-clause-ready : goal.expand-requires-clause-ready
expand-requires-clause-ready c = ready_kept (smalls c.args.self.now.terms) (smalls c.ahead_of.new.self.terms) c.args.source.now c.in_ok-term.ensures.kept.terms c.requires.ready

pub expand-requires-clause-listed : goal.expand-requires-clause-listed
expand-requires-clause-listed c =
    let t = c.args.self.now in
    let u = c.ahead_of.new.self in
    let kept = c.in_ok-term.ensures.kept in
    all_kept (small_definitions c.args.source.now.program.now) c.args.source.now.answers.now.sites (smalls t.terms) (smalls u.terms) t.counts u.counts c.args.moves.now kept.terms kept.counts c.requires.listed

pub returns-clause-kept : goal.returns-clause-kept
returns-clause-kept c = keeps_both c.args.self.now c.ahead_of.new.self c.expand.new.self c.in_ok-term.ensures.kept c.in_ok-expand.ensures.kept

pub returns-clause-done : goal.returns-clause-done
returns-clause-done c =
    looked_at (kept_by c.args.sieve.now) c.args.source.now.answers.now.sites (small_definitions c.args.source.now.program.now) c.args.self.now c.ahead_of.new.self c.expand.new.self c.args.from c.in_ok-term.term
    c.in_ok-term.ensures.kept c.requires.from c.in_ok-term.ensures.leads c.in_ok-expand.ensures.done

pub returns-clause-found : goal.returns-clause-found
returns-clause-found c = λ begin is found.
    let t = c.args.self.now in
    let u = c.ahead_of.new.self in
    let there : IsIn c.args.from u.states = subst (λ ks. IsIn c.args.from ks) (sym c.in_ok-term.ensures.states) is in
    c.in_ok-expand.ensures.found begin c.args.from.term there c.in_ok-term.ensures.leads
    (found_kept_all (small_definitions c.args.source.now.program.now) (kept_by c.args.sieve.now) c.args.source.now.answers.now.sites begin t u c.requires.all c.in_ok-term.ensures.kept c.in_ok-term.ensures.states c.in_ok-term.ensures.ends c.args.from is found)
