use Rattle.std.proofs.Common.{◌<◌, ℕ, Option, length, refl, subst, ◌∙◌}
use Rattle.std.specs.Prelude.{IfSome}
use Rattle.orc_search.specs.Early.{stays}
use Rattle.orc_search.specs.Nodes.{smalls}
use Rattle.orc_search.specs.Programs.{small_definitions}
use Rattle.orc_schedules.specs.declared.states.Key.{Key}
use Rattle.orc_schedules.specs.declared.tables.Tables.{Tables}
use Rattle.orc_schedules.specs.Seen.{kept_by}
use Rattle.orc_schedules.specs.Tables.{LeadsTo}
use Rattle.orc_schedules.proofs.Keeping.{keeps_self, keeps_both, known_kept}
use Rattle.orc_schedules.proofs.Leading.{leads_next}
use Rattle.orc_schedules.proofs.Starting.{ready_kept}
use Rattle.orc_schedules.proofs.tables.Tables.ahead_of.Goals as goal

pub loop-early-init : goal.loop-early-init
loop-early-init c = (c.requires.all, keeps_self c.args.self.now, refl, refl, c.requires.from.0, stays)

pub early_term-requires-clause-from : goal.early_term-requires-clause-from
early_term-requires-clause-from c =
    let known = known_kept c.args.self.now c.loop-early.self c.args.from c.loop-early.invariant.1 c.requires.from in
    (c.loop-early.invariant.4, known.1, known.2)

pub early_term-requires-clause-ready : goal.early_term-requires-clause-ready
early_term-requires-clause-ready c = ready_kept (smalls c.args.self.now.terms) (smalls c.loop-early.self.terms) c.args.source.now c.loop-early.invariant.1.terms c.requires.ready

pub loop-early-preserved : goal.loop-early-preserved
loop-early-preserved c =
    let t : Tables = c.loop-early.self in
    let u : Tables = c.early_term.new.self in
    let defs = small_definitions c.args.source.now.program.now in
    let keep = kept_by c.args.sieve.now in
    let sites = c.args.source.now.answers.now.sites in
    let k = c.args.from in
    let at : Key = record { term = c.loop-early.ahead; made = k.made; seen = k.seen } in
    let there : c.in-Some.term < length (smalls u.terms) = subst (λ (o : Option ℕ). IfSome o (λ n. n < length (smalls u.terms))) c.in-Some.is c.in_ok-term.ensures.there in
    let leads : LeadsTo defs keep sites u at c.in-Some.term = subst (λ (o : Option ℕ). IfSome o (λ n. LeadsTo defs keep sites u at n)) c.in-Some.is c.in_ok-term.ensures.leads in
    let known = known_kept c.args.self.now t k c.loop-early.invariant.1 c.requires.from in (
      c.in_ok-term.ensures.all,
      keeps_both c.args.self.now t u c.loop-early.invariant.1 c.in_ok-term.ensures.kept,
      c.in_ok-term.ensures.states ∙ c.loop-early.invariant.2,
      c.in_ok-term.ensures.ends ∙ c.loop-early.invariant.3,
      there,
      leads_next keep sites defs t u k c.loop-early.ahead c.in-Some.term c.in_ok-term.ensures.kept known c.loop-early.invariant.4 c.loop-early.invariant.5 leads,
    )
