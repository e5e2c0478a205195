use Rattle.std.proofs.Common.{◌≡◌, ◌≤◌, ◌<◌, ℕ, List, None, Some, Option, map, reverse, length, refl, arith, sym, subst, ◌∙◌}
use Rattle.std.specs.Prelude.{IfSome}
use Rattle.std.specs.List.{AllZip}
use Rattle.orc_rules.specs.declared.value.Value.{Value}
use Rattle.orc_search.specs.declared.successor.Frame.{Frame}
use Rattle.orc_search.specs.declared.successor.Successor.{Successor as Numbered}
use Rattle.orc_search.specs.declared.walk.Spot.{Spot}
use Rattle.orc_search.specs.Small.{Out}
use Rattle.orc_search.specs.Successors.{moves}
use Rattle.orc_search.specs.States.{next_call}
use Rattle.orc_search.specs.Nodes.{smalls, small_at}
use Rattle.orc_search.specs.Programs.{small_definitions}
use Rattle.orc_search.specs.Moving.{successor_of, IsSuccessor}
use Rattle.orc_search.specs.Asked.{coming_of_made}
use Rattle.orc_search.specs.Own.{list_of}
use Rattle.orc_search.specs.Walks.{through, AreAround, GoesOn}
use Rattle.orc_search.proofs.Nodes.{extends_self, same_len}
use Rattle.orc_search.proofs.Changes.{extends_both, kept_len}
use Rattle.orc_search.proofs.Ready.{ready_kept}
use Rattle.orc_search.proofs.Walks.{HasRest, IsAt, begins, visited, goes_on, has_all, around_within, mine_there}
use Rattle.orc_search.proofs.moves.successors.Goals as goal

pub loop-step-init : goal.loop-step-init
loop-step-init c =
    let ts = smalls c.args.terms.now in
    let defs = small_definitions c.args.source.now.program.now in
    let ask : ℕ → List Value → Out = next_call (coming_of_made c.args.source.now.answers.now.sites c.args.made.now) in
    let all = moves defs ask 0 (small_at ts c.args.root) in
    let spot : Spot = record { at = c.args.root; depth = 0 } in
    let lt : c.args.root < length ts = omega (arith, same_len c.args.terms.now, c.requires.there) in (
      extends_self ts,
      subst (λ (found : List Numbered). IsAt defs ask all ts c.new-walk.result spot found) (sym c.new-found.ensures.items) (begins defs ask all ts c.new-walk.result spot refl c.new-walk.ensures.path c.new-walk.ensures.todo lt),
    )

pub step-requires-clause-ready : goal.step-requires-clause-ready
step-requires-clause-ready c = ready_kept (smalls c.args.terms.now) (smalls c.loop-step.terms) c.args.source.now c.loop-step.invariant.0 c.requires.ready

pub step-requires-clause-there : goal.step-requires-clause-there
step-requires-clause-there c = let lt = c.loop-step.invariant.1.there in omega (arith, lt, same_len c.loop-step.terms)

pub whole_of-requires-clause-around : goal.whole_of-requires-clause-around
whole_of-requires-clause-around c =
    let more = kept_len (smalls c.loop-step.terms) (smalls c.step.new.terms) c.in_ok-own.ensures.kept in
    let le : length (smalls c.loop-step.terms) ≤ length c.step.new.terms = omega (arith, more, same_len c.step.new.terms) in
    let path : c.deref.result.now ≡ c.loop-step.walk.path.items = c.deref.ensures.value ∙ c.in_ok-own.ensures.planned.path in
    subst (λ (p : List Frame). AreAround (length c.step.new.terms) (reverse p)) (sym path) (around_within (length (smalls c.loop-step.terms)) (length c.step.new.terms) (reverse c.loop-step.walk.path.items) le c.loop-step.invariant.1.within.0)

pub whole_of-requires-clause-part : goal.whole_of-requires-clause-part
whole_of-requires-clause-part c =
    subst (λ (n : ℕ). IfSome c.in_ok-own.own (λ s. s.to < n)) (same_len c.step.new.terms) (mine_there (smalls c.step.new.terms) c.in_ok-own.own _ c.in_ok-own.ensures.own)

pub returns-in_default-clause-all : goal.returns-in_default-clause-all
returns-in_default-clause-all c =
    let defs = small_definitions c.args.source.now.program.now in
    let ask : ℕ → List Value → Out = next_call (coming_of_made c.args.source.now.answers.now.sites c.args.made.now) in
    let all = moves defs ask 0 (small_at (smalls c.args.terms.now) c.args.root) in
    let old = smalls c.loop-step.terms in
    let mid = smalls c.step.new.terms in
    let new = smalls c.whole_of.new.terms in
    let w = c.step.new.walk in
    let own = list_of c.in_ok-own.own in
    let whole = list_of c.in_ok-whole.whole in
    let lifted : AllZip (IsSuccessor new) whole (map (λ m. through mid (reverse w.path.items) (successor_of mid m)) own)
    = subst (λ (p : List Frame). AllZip (IsSuccessor new) whole (map (λ m. through mid (reverse p) (successor_of mid m)) own)) c.deref.ensures.value c.in_ok-whole.ensures.lifted in
    let rest : HasRest defs ask all new w c.add.new.found.items
    = visited defs ask all old mid new c.loop-step.walk w c.loop-step.spot c.loop-step.found.items c.add.new.found.items own whole c.loop-step.invariant.1 c.in_ok-own.ensures.planned c.in_ok-own.ensures.kept c.in_ok-whole.ensures.kept c.in_ok-own.ensures.own lifted c.in_ok-add.ensures in
    let goes : GoesOn w None c.next.new.self = subst (λ (o : Option Spot). GoesOn w o c.next.new.self) c.in_default.is c.in_ok-next.ensures in
    has_all defs ask all new w c.next.new.self c.add.new.found.items rest goes

pub loop-step-preserved : goal.loop-step-preserved
loop-step-preserved c =
    let defs = small_definitions c.args.source.now.program.now in
    let ask : ℕ → List Value → Out = next_call (coming_of_made c.args.source.now.answers.now.sites c.args.made.now) in
    let all = moves defs ask 0 (small_at (smalls c.args.terms.now) c.args.root) in
    let old = smalls c.loop-step.terms in
    let mid = smalls c.step.new.terms in
    let new = smalls c.whole_of.new.terms in
    let w = c.step.new.walk in
    let own = list_of c.in_ok-own.own in
    let whole = list_of c.in_ok-whole.whole in
    let lifted : AllZip (IsSuccessor new) whole (map (λ m. through mid (reverse w.path.items) (successor_of mid m)) own)
    = subst (λ (p : List Frame). AllZip (IsSuccessor new) whole (map (λ m. through mid (reverse p) (successor_of mid m)) own)) c.deref.ensures.value c.in_ok-whole.ensures.lifted in
    let rest : HasRest defs ask all new w c.add.new.found.items
    = visited defs ask all old mid new c.loop-step.walk w c.loop-step.spot c.loop-step.found.items c.add.new.found.items own whole c.loop-step.invariant.1 c.in_ok-own.ensures.planned c.in_ok-own.ensures.kept c.in_ok-whole.ensures.kept c.in_ok-own.ensures.own lifted c.in_ok-add.ensures in
    let goes : GoesOn w (Some c.in-Some.next) c.next.new.self = subst (λ (o : Option Spot). GoesOn w o c.next.new.self) c.in-Some.is c.in_ok-next.ensures in (
      extends_both (smalls c.args.terms.now) mid new (extends_both (smalls c.args.terms.now) old mid c.loop-step.invariant.0 c.in_ok-own.ensures.kept) c.in_ok-whole.ensures.kept,
      goes_on defs ask all new w c.next.new.self c.in-Some.next c.add.new.found.items rest goes,
    )
