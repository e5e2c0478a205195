use Rattle.std.proofs.Common.{◌≡◌, List, [], ◌∷◌, Some, refl, sym, subst, inl, inr}
use Rattle.std.specs.Prelude.{slice_get}
use Rattle.orc_rules.specs.Nodes.{source}
use Rattle.orc_rules.specs.Timed.{IsIn}
use Rattle.orc_search.specs.declared.made.Made.{Made}
use Rattle.orc_search.specs.declared.node.Node.{Node}
use Rattle.orc_search.specs.Nodes.{smalls}
use Rattle.orc_search.specs.Programs.{small, small_definitions}
use Rattle.orc_search.specs.Ready.{IsReady}
use Rattle.orc_schedules.specs.declared.states.Key.{Key}
use Rattle.orc_schedules.specs.Explored.{answers_of, program_of}
use Rattle.orc_schedules.specs.Growing.{Grows}
use Rattle.orc_schedules.specs.Listed.{AreListed}
use Rattle.orc_schedules.specs.Reached.{first}
use Rattle.orc_schedules.specs.Seen.{kept_by}
use Rattle.orc_schedules.proofs.Exact.{first_found}
use Rattle.orc_schedules.proofs.Growing.{grows_both, grows_get}
use Rattle.orc_schedules.proofs.Starting.{ready_kept}
use Rattle.orc_schedules.proofs.Whole.{first_known, first_there}
use Rattle.orc_schedules.proofs.exploration.Explorer.explore.Goals as goal

pub look_at_all-requires-clause-all : goal.look_at_all-requires-clause-all
look_at_all-requires-clause-all c =
    let e = c.args.self.now in
    let t = c.begin.new.self in
    let b = c.in_ok-begin.ensures in
    let f = small (source (program_of e)) in
    let number = subst (λ (ns : List Node). slice_get (smalls ns) e.term ≡ Some f) (sym b.terms) c.requires.term in
    first_known t [] e.term f (subst (λ (cs : List (List Made)). Grows ([] ∷ []) cs) (sym b.counts) c.requires.counts) b.ends refl (inr b.states) number

pub look_at_all-requires-clause-ready : goal.look_at_all-requires-clause-ready
look_at_all-requires-clause-ready c = subst (λ (ns : List Node). IsReady (smalls ns) c.args.self.now.source) (sym c.in_ok-begin.ensures.terms) c.requires.ready

pub look_at_all-requires-clause-listed : goal.look_at_all-requires-clause-listed
look_at_all-requires-clause-listed c =
    let e = c.args.self.now in
    let b = c.in_ok-begin.ensures in
    let defs = small_definitions (program_of e) in
    let sites = (answers_of e).sites in
    subst (λ (cs : List (List Made)). AreListed defs sites (smalls c.begin.new.self.terms) cs e.moves) (sym b.counts) (subst (λ (ns : List Node). AreListed defs sites (smalls ns) e.tables.counts e.moves) (sym b.terms) c.requires.listed)

pub returns : goal.returns
returns c =
    let e = c.args.self.now in
    let l = program_of e in
    let a = answers_of e in
    let keep = kept_by c.args.sieve.now in
    let t = c.begin.new.self in
    let u = c.look_at_all.new.self in
    let b = c.in_ok-begin.ensures in
    let kept = c.in_ok-all.ensures.kept in
    let f = small (source l) in
    let number = subst (λ (ns : List Node). slice_get (smalls ns) e.term ≡ Some f) (sym b.terms) c.requires.term in
    let ready = subst (λ (ns : List Node). IsReady (smalls ns) e.source) (sym b.terms) c.requires.ready in
    let counts = subst (λ (cs : List (List Made)). Grows ([] ∷ []) cs) (sym b.counts) c.requires.counts in
    let known = first_known t [] e.term f counts b.ends refl (inr b.states) number in
    record {
      ready = record {
        ready = ready_kept (smalls t.terms) (smalls u.terms) e.source kept.terms ready;
        term = grows_get (smalls t.terms) (smalls u.terms) e.term f kept.terms number;
        counts = grows_both ([] ∷ []) t.counts u.counts counts kept.counts;
        listed = c.in_ok-all.ensures.listed;
      };
      source = refl;
      explored = record {
        there = first_there keep l a t u e.term counts b.lists number (subst (λ (ks : List Key). IsIn (record { term = e.term; made = 0; seen = 0 }) ks) (sym b.states) (inl refl)) kept known;
        found = c.in_ok-all.ensures.found (first l a) (first_found (small_definitions l) keep l a t [] e.term counts b.lists b.ends refl (inr b.states) number);
        done = c.in_ok-all.ensures.done;
      };
    }
