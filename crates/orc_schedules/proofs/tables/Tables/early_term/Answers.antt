use Rattle.std.proofs.Common.{◌≡◌, ◌<◌, ℕ, List, Option, length, refl, arith, sym, subst, ◌∙◌}
use Rattle.std.specs.Prelude.{IfSome}
use Rattle.orc_search.specs.declared.made.Made.{Made}
use Rattle.orc_search.specs.declared.node.Node.{Node}
use Rattle.orc_search.specs.declared.successor.Successor.{Successor as Numbered}
use Rattle.orc_search.specs.Asked.{coming_of_made}
use Rattle.orc_search.specs.Nodes.{smalls}
use Rattle.orc_search.specs.Parts.{AreParts, IsEarly}
use Rattle.orc_search.specs.Programs.{small_definitions}
use Rattle.orc_search.specs.States.{next_call}
use Rattle.orc_search.proofs.Parts.{first_part}
use Rattle.orc_schedules.specs.declared.tables.Tables.{Tables}
use Rattle.orc_schedules.specs.Seen.{kept_by}
use Rattle.orc_schedules.specs.Tables.{coming_at}
use Rattle.orc_schedules.proofs.Keeping.{keeps_self, keeps_both, known_kept, terms_keep}
use Rattle.orc_schedules.proofs.Leading.{known_all, leads_one}
use Rattle.orc_schedules.proofs.Starting.{ready_kept}
use Rattle.orc_schedules.proofs.tables.Tables.early_term.Goals as goal

pub loop-early-init : goal.loop-early-init
loop-early-init c =
    let t = c.args.self.now in
    let parts = c.in_ok-parts.parts in
    let root : parts.root ≡ c.args.from.term = c.in_ok-parts.ensures.root in
    let there : parts.root < length (smalls t.terms) = let known = c.requires.from.0 in omega (arith, known, root) in
    let are : AreParts (smalls t.terms) c.args.from.term parts.list.items = first_part (smalls t.terms) c.args.from.term parts.list.items c.requires.from.0 c.in_ok-parts.ensures.parts in
    (c.requires.all, keeps_self t, refl, refl, subst (λ (r : ℕ). AreParts (smalls t.terms) r parts.list.items) (sym root) are, root)

pub next_early-requires-clause-ready : goal.next_early-requires-clause-ready
next_early-requires-clause-ready c = ready_kept (smalls c.args.self.now.terms) (smalls c.loop-early.self.terms) c.args.source.now c.loop-early.invariant.1.terms c.requires.ready

pub next_early-requires-clause-root : goal.next_early-requires-clause-root
next_early-requires-clause-root c =
    let known = known_kept c.args.self.now c.loop-early.self c.args.from c.loop-early.invariant.1 c.requires.from in
    let root = c.loop-early.invariant.5 in
    let lt = known.0 in
    omega (arith, lt, root)

pub is_unseen-requires-clause-all : goal.is_unseen-requires-clause-all
is_unseen-requires-clause-all c =
    let t : Tables = c.loop-early.self in
    let u : Tables = record { terms = c.next_early.new.terms; counts = t.counts; lists = t.lists; states = t.states; ends = t.ends; longest = t.longest } in
    known_all t u (terms_keep t c.next_early.new.terms c.in_ok-step.ensures.kept) refl refl c.loop-early.invariant.0

pub is_unseen-requires-clause-from : goal.is_unseen-requires-clause-from
is_unseen-requires-clause-from c =
    let t : Tables = c.loop-early.self in
    let u : Tables = record { terms = c.next_early.new.terms; counts = t.counts; lists = t.lists; states = t.states; ends = t.ends; longest = t.longest } in
    known_kept c.args.self.now u c.args.from (keeps_both c.args.self.now t u c.loop-early.invariant.1 (terms_keep t c.next_early.new.terms c.in_ok-step.ensures.kept)) c.requires.from

pub returns-then-unseen-clause-leads : goal.returns-then-unseen-clause-leads
returns-then-unseen-clause-leads c =
    let t : Tables = c.loop-early.self in
    let m : Tables = record { terms = c.next_early.new.terms; counts = t.counts; lists = t.lists; states = t.states; ends = t.ends; longest = t.longest } in
    let u : Tables = c.is_unseen.new.self in
    let defs = small_definitions c.args.source.now.program.now in
    let keep = kept_by c.args.sieve.now in
    let sites = c.args.source.now.answers.now.sites in
    let k = c.args.from in
    let ts = smalls c.next_early.new.terms in
    let known = known_kept c.args.self.now m k (keeps_both c.args.self.now t m c.loop-early.invariant.1 (terms_keep t c.next_early.new.terms c.in_ok-step.ensures.kept)) c.requires.from in
    let found : IsEarly defs (next_call (coming_of_made sites c.made-made.result.now)) ts c.loop-early.parts.root c.in-Some.step
    = subst (λ (o : Option Numbered). IfSome o (λ s. IsEarly defs (next_call (coming_of_made sites c.made-made.result.now)) ts c.loop-early.parts.root s)) c.in-Some.is c.in_ok-step.ensures.early in
    let asked : IsEarly defs (next_call (coming_at sites m k.made)) ts c.loop-early.parts.root c.in-Some.step
    = subst (λ (made : List Made). IsEarly defs (next_call (coming_of_made sites made)) ts c.loop-early.parts.root c.in-Some.step) c.made-made.ensures found in
    let is : IsEarly defs (next_call (coming_at sites m k.made)) ts k.term c.in-Some.step
    = subst (λ (r : ℕ). IsEarly defs (next_call (coming_at sites m k.made)) ts r c.in-Some.step) c.loop-early.invariant.5 asked in
    leads_one keep sites defs m u k c.in-Some.step c.in_ok-unseen.ensures.kept known is (c.in_ok-unseen.ensures.hidden c.if-unseen.true)

pub loop-early-preserved : goal.loop-early-preserved
loop-early-preserved c =
    let t : Tables = c.loop-early.self in
    let m : Tables = record { terms = c.next_early.new.terms; counts = t.counts; lists = t.lists; states = t.states; ends = t.ends; longest = t.longest } in
    let u : Tables = c.is_unseen.new.self in
    let parts = c.next_early.new.self in
    let on = keeps_both t m u (terms_keep t c.next_early.new.terms c.in_ok-step.ensures.kept) c.in_ok-unseen.ensures.kept in (
      c.in_ok-unseen.ensures.all,
      keeps_both c.args.self.now t u c.loop-early.invariant.1 on,
      c.is_unseen.ensures.states ∙ c.loop-early.invariant.2,
      c.is_unseen.ensures.ends ∙ c.loop-early.invariant.3,
      subst (λ (ns : List Node). AreParts (smalls ns) parts.root parts.list.items) (sym c.is_unseen.ensures.terms) c.in_ok-step.ensures.parts,
      c.next_early.ensures.root ∙ c.loop-early.invariant.5,
    )
