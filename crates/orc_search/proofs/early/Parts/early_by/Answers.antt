use Rattle.std.proofs.Common.{◌≡◌, ◌≤◌, Option, Some, length, arith, sym, subst, ◌∙◌}
use Rattle.std.specs.Prelude.{slice_get}
use Rattle.orc_search.specs.declared.early.Inside.{Inside}
use Rattle.orc_search.specs.declared.early.Part.{Part}
use Rattle.orc_search.specs.Nodes.{smalls}
use Rattle.orc_search.specs.Parts.{Fits, IsInside}
use Rattle.orc_search.proofs.Nodes.{same_len, within}
use Rattle.orc_search.proofs.Parts.{early_found, fits_there, part_kept, parts_kept, same_part, taken_found}
use Rattle.orc_search.proofs.Walks.{frame_more}
use Rattle.orc_search.proofs.early.Parts.early_by.Goals as goal

pub returns-then-is_passed-clause-early : goal.returns-then-is_passed-clause-early
returns-then-is_passed-clause-early c = λ defs ask zip.
    early_found (smalls c.args.terms.now) (smalls c.lift.new.terms) c.args.self.now.root c.args.part.spot c.args.step c.in_ok-lifted.lifted defs ask c.in_ok-lifted.ensures.kept c.requires.root
    (sym c.is_passed.ensures ∙ c.if-is_passed.true) c.in_ok-lifted.ensures.lifts zip

pub lifted-requires-clause-other : goal.lifted-requires-clause-other
lifted-requires-clause-other c =
    let ts = smalls c.args.terms.now in
    let spot = c.args.part.spot in
    let list = c.args.self.now.list.items in
    let frame = c.in-Some.inside.frame in
    let inside : IsInside ts c.args.self.now.root list spot (Some c.in-Some.inside) = subst (λ (o : Option Inside). IsInside ts c.args.self.now.root list spot o) c.in-Some.is c.requires.part.1 in
    let at = (c.requires.parts c.in-Some.inside.outer inside.0 inside.1).0 in
    let le : length ts ≤ length c.args.terms.now = omega (arith, same_len c.args.terms.now) in
    frame_more (length ts) (length c.args.terms.now) frame le (fits_there ts frame inside.0.spot spot inside.2 at).0

pub lifted-requires-clause-part : goal.lifted-requires-clause-part
lifted-requires-clause-part c = let lt = c.requires.there in omega (arith, lt, same_len c.args.terms.now)

pub lift-requires-2-clause-parts : goal.lift-requires-2-clause-parts
lift-requires-2-clause-parts c = parts_kept (smalls c.args.terms.now) (smalls c.lifted.new.terms) c.args.self.now.root c.in_ok-taken.ensures.kept c.args.self.now.list.items c.requires.parts

pub lift-requires-2-clause-part : goal.lift-requires-2-clause-part
lift-requires-2-clause-part c =
    let outer = c.in-Some-part_at.outer in
    part_kept (smalls c.args.terms.now) (smalls c.lifted.new.terms) c.args.self.now.root c.in_ok-taken.ensures.kept c.args.self.now.list.items c.requires.parts outer
    (c.requires.parts c.in-Some.inside.outer outer (sym c.in-Some-part_at.ensures))

pub lift-requires-2-clause-there : goal.lift-requires-2-clause-there
lift-requires-2-clause-there c = within (smalls c.lifted.new.terms) c.in_ok-taken.taken.to _ c.in_ok-taken.ensures.lifted.1

pub returns-clause-early : goal.returns-clause-early
returns-clause-early c = λ defs ask zip.
    let ts = smalls c.args.terms.now in
    let mid = smalls c.lifted.new.terms in
    let us = smalls c.lift-2.new.terms in
    let list = c.args.self.now.list.items in
    let spot = c.args.part.spot in
    let outer = c.in-Some-part_at.outer in
    let frame = c.in-Some.inside.frame in
    let inside : IsInside ts c.args.self.now.root list spot (Some c.in-Some.inside) = subst (λ (o : Option Inside). IsInside ts c.args.self.now.root list spot o) c.in-Some.is c.requires.part.1 in
    let there : slice_get list c.in-Some.inside.outer ≡ Some outer = sym c.in-Some-part_at.ensures in
    let same : inside.0 ≡ outer = same_part inside.0 outer (sym inside.1 ∙ there) in
    let fits : Fits ts frame outer.spot spot = subst (λ (q : Part). Fits ts frame q.spot spot) same inside.2 in
    let at = (c.requires.parts c.in-Some.inside.outer outer there).0 in
    taken_found ts mid us c.args.self.now.root spot outer.spot frame c.args.step c.in_ok-taken.taken c.in_ok-lifted-2.lifted defs ask c.in_ok-taken.ensures.kept c.in_ok-lifted-2.ensures.kept c.requires.root
    (sym c.takes_values.ensures ∙ c.if-not-takes_values.false) (sym c.is_passed.ensures ∙ c.if-is_passed.false) fits at c.in_ok-taken.ensures.lifted c.in_ok-lifted-2.ensures.lifts zip
