use Rattle.std.proofs.Common.{◌≡◌, ℕ, List, Option, arith, sym, subst, ◌∙◌}
use Rattle.std.specs.List.{AllZip}
use Rattle.std.specs.Prelude.{IfSome}
use Rattle.orc_rules.specs.declared.value.Value.{Value}
use Rattle.orc_search.specs.declared.successor.Successor.{Successor as Numbered}
use Rattle.orc_search.specs.Asked.{coming_of_made}
use Rattle.orc_search.specs.Moves.{SmallDefinition}
use Rattle.orc_search.specs.Moving.{IsSuccessor}
use Rattle.orc_search.specs.Nodes.{small_at, smalls}
use Rattle.orc_search.specs.Own.{list_of, own}
use Rattle.orc_search.specs.Parts.{AreParts, IsEarly, IsPart}
use Rattle.orc_search.specs.Programs.{small_definitions}
use Rattle.orc_search.specs.Small.{Out, Small}
use Rattle.orc_search.specs.States.{next_call}
use Rattle.orc_search.proofs.Changes.{extends_both, kept_at}
use Rattle.orc_search.proofs.Nodes.{same_len}
use Rattle.orc_search.proofs.Parts.{part_kept, parts_kept}
use Rattle.orc_search.proofs.Ready.{ready_kept}
use Rattle.orc_search.proofs.Walks.{mine_there}
use Rattle.orc_search.proofs.early.Parts.next_early.Goals as goal

pub own_step-requires-clause-ready : goal.own_step-requires-clause-ready
own_step-requires-clause-ready c = ready_kept (smalls c.args.terms.now) (smalls c.loop-part.terms) c.args.source.now c.loop-part.invariant.0 c.requires.ready

pub own_step-requires-clause-there : goal.own_step-requires-clause-there
own_step-requires-clause-there c = let lt = c.in_ok-enter.ensures.part.0 in omega (arith, lt, same_len c.loop-part.terms)

pub early_of-requires-clause-parts : goal.early_of-requires-clause-parts
early_of-requires-clause-parts c =
    let ts = smalls c.loop-part.terms in
    let list = c.enter.new.self.list.items in
    parts_kept ts (smalls c.own_step.new.terms) c.enter.new.self.root c.in_ok-own.ensures.kept list (subst (λ (r : ℕ). AreParts ts r list) (sym c.in_ok-enter.ensures.root) c.in_ok-enter.ensures.parts)

pub early_of-requires-clause-part : goal.early_of-requires-clause-part
early_of-requires-clause-part c =
    let ts = smalls c.loop-part.terms in
    let list = c.enter.new.self.list.items in
    part_kept ts (smalls c.own_step.new.terms) c.enter.new.self.root c.in_ok-own.ensures.kept list (subst (λ (r : ℕ). AreParts ts r list) (sym c.in_ok-enter.ensures.root) c.in_ok-enter.ensures.parts)
    c.in-Some.part (subst (λ (r : ℕ). IsPart ts r list c.in-Some.part) (sym c.in_ok-enter.ensures.root) c.in_ok-enter.ensures.part)

pub early_of-requires-clause-there : goal.early_of-requires-clause-there
early_of-requires-clause-there c = mine_there (smalls c.own_step.new.terms) c.in_ok-own.own _ c.in_ok-own.ensures.own

pub returns-in-Some-2-clause-early : goal.returns-in-Some-2-clause-early
returns-in-Some-2-clause-early c =
    let defs = small_definitions c.args.source.now.program.now in
    let ask : ℕ → List Value → Out = next_call (coming_of_made c.args.source.now.answers.now.sites c.args.made.now) in
    let ts = smalls c.loop-part.terms in
    let mid = smalls c.own_step.new.terms in
    let us = smalls c.early_of.new.terms in
    let spot = c.in-Some.part.spot in
    let root : c.enter.new.self.root ≡ c.args.self.now.root = c.in_ok-enter.ensures.root ∙ c.loop-part.invariant.2 in
    let zip : AllZip (IsSuccessor mid) (list_of c.in_ok-own.own) (own defs ask spot.depth (small_at mid spot.at))
    = subst (λ (f : Small). AllZip (IsSuccessor mid) (list_of c.in_ok-own.own) (own defs ask spot.depth f)) (sym (kept_at ts mid spot.at c.in_ok-own.ensures.kept c.in_ok-enter.ensures.part.0)) c.in_ok-own.ensures.own in
    let found : (ds : List SmallDefinition) (answers : ℕ → List Value → Out) → AllZip (IsSuccessor mid) (list_of c.in_ok-own.own) (own ds answers spot.depth (small_at mid spot.at)) → IsEarly ds answers us c.enter.new.self.root c.in-Some-2.early
    = subst (λ (o : Option Numbered). IfSome o (λ s. (ds : List SmallDefinition) (answers : ℕ → List Value → Out) → AllZip (IsSuccessor mid) (list_of c.in_ok-own.own) (own ds answers spot.depth (small_at mid spot.at)) → IsEarly ds answers us c.enter.new.self.root s)) c.in-Some-2.is c.in_ok-early.ensures.early in
    subst (λ (r : ℕ). IsEarly defs ask us r c.in-Some-2.early) root (found defs ask zip)

pub returns-in-Some-2-clause-parts : goal.returns-in-Some-2-clause-parts
returns-in-Some-2-clause-parts c =
    let ts = smalls c.loop-part.terms in
    let mid = smalls c.own_step.new.terms in
    let list = c.enter.new.self.list.items in
    parts_kept ts (smalls c.early_of.new.terms) c.enter.new.self.root (extends_both ts mid (smalls c.early_of.new.terms) c.in_ok-own.ensures.kept c.in_ok-early.ensures.kept) list
    (subst (λ (r : ℕ). AreParts ts r list) (sym c.in_ok-enter.ensures.root) c.in_ok-enter.ensures.parts)

pub loop-part-preserved : goal.loop-part-preserved
loop-part-preserved c =
    let first = smalls c.args.terms.now in
    let ts = smalls c.loop-part.terms in
    let mid = smalls c.own_step.new.terms in
    let us = smalls c.early_of.new.terms in
    let list = c.enter.new.self.list.items in
    let on = extends_both ts mid us c.in_ok-own.ensures.kept c.in_ok-early.ensures.kept in (
      extends_both first ts us c.loop-part.invariant.0 on,
      parts_kept ts us c.enter.new.self.root on list (subst (λ (r : ℕ). AreParts ts r list) (sym c.in_ok-enter.ensures.root) c.in_ok-enter.ensures.parts),
      c.in_ok-enter.ensures.root ∙ c.loop-part.invariant.2,
    )
