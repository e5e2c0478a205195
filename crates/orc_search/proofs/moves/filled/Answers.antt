use Rattle.std.proofs.Common.{◌≡◌, ◌+◌, ◌∷◌, [], ℕ, List, Some, drop, refl, arith, ap, sym, ◌∙◌}
use Rattle.std.proofs.lemmas.List.{drop_more}
use Rattle.orc_rules.specs.declared.param.Param.{Param}
use Rattle.orc_search.specs.Small.{Small, set_all}
use Rattle.orc_search.specs.Nodes.{smalls, small_at}
use Rattle.orc_search.proofs.Nodes.{extends_self, same_len, there, within, term_at}
use Rattle.orc_search.proofs.Changes.{extends_both}
use Rattle.orc_search.proofs.Own.{past, all_set}
use Rattle.orc_search.proofs.moves.filled.Goals as goal

pub loop-i-init : goal.loop-i-init
loop-i-init c = (extends_self (smalls c.args.terms.now), omega (arith, same_len c.args.terms.now, c.requires), refl)

pub returns-in_default-clause-number : goal.returns-in_default-clause-number
returns-in_default-clause-number c =
    let ts = smalls c.loop-i.terms in
    let f : Small = small_at ts c.loop-i.filled in
    let none : drop c.loop-i.i c.args.params.now ≡ [] = past c.args.params.now c.loop-i.i (omega (arith, c.in_default.ensures.lookup)) in
    let rest = ap (λ (ps : List Param). set_all (drop c.loop-i.i c.args.names.now) ps f) none ∙ all_set (drop c.loop-i.i c.args.names.now) f in
    there ts c.loop-i.filled c.loop-i.invariant.1 ∙ ap Some (sym (c.loop-i.invariant.2 ∙ rest))

pub changed-requires : goal.changed-requires
changed-requires c = let lt = c.loop-i.invariant.1 in omega (arith, same_len c.loop-i.terms, lt)

pub loop-i-preserved : goal.loop-i-preserved
loop-i-preserved c =
    let old = smalls c.loop-i.terms in
    let new = smalls c.changed.new.terms in
    let i : ℕ = c.loop-i.i in
    let f : Small = small_at old c.loop-i.filled in
    let p : Param = c.in-Some.param.now in
    let found = c.in-Some.ensures.lookup in
    let names = drop_more c.args.names.now i 0 (omega arith) in
    let params : drop i c.args.params.now ≡ p ∷ drop (i + 1) c.args.params.now = drop_more c.args.params.now i p (omega arith) ∙ (λ j. sym found.1 j ∷ drop (i + 1) c.args.params.now) in
    let term = term_at new c.in_ok-filled.filled _ c.in_ok-filled.ensures.image in (
      extends_both (smalls c.args.terms.now) old new c.loop-i.invariant.0 c.in_ok-filled.ensures.kept,
      within new c.in_ok-filled.filled _ c.in_ok-filled.ensures.image,
      c.loop-i.invariant.2 ∙ (λ j. set_all (names j) (params j) f) ∙ ap (set_all (drop (i + 1) c.args.names.now) (drop (i + 1) c.args.params.now)) (sym term),
    )

pub returns-clause-number : goal.returns-clause-number
returns-clause-number c =
    let ts = smalls c.loop-i.terms in
    let f : Small = small_at ts c.loop-i.filled in
    let none : drop c.loop-i.i c.args.names.now ≡ [] = past c.args.names.now c.loop-i.i (omega arith) in
    let rest = ap (λ (xs : List ℕ). set_all xs (drop c.loop-i.i c.args.params.now) f) none in
    there ts c.loop-i.filled c.loop-i.invariant.1 ∙ ap Some (sym (c.loop-i.invariant.2 ∙ rest))
