use Rattle.std.proofs.Common.{◌≡◌, ◌+◌, ◌∷◌, ◌++◌, [], Bool, true, false, append-nil, length, map, refl, sym, ap, subst, ◌∙◌, arith}
use Rattle.std.specs.Prelude.{◌&&◌, ◌==◌}
use Rattle.std.proofs.lemmas.List.{length-map, nil_from_length}
use Rattle.std.proofs.lemmas.Bool.Decides.{nat_tests}
use Rattle.orc_rules.specs.declared.entry.Entry.TheVariants.{Bind, Cancel}
use Rattle.orc_rules.specs.Trace.{published}
use Rattle.orc_subrun.specs.Moved.{AreLocal}
use Rattle.orc_log.proofs.Logs.{known-more, cancels-publish-none}
use Rattle.orc_log.proofs.log.Log.push_bind.Goals as goal

both : (a b : Bool) → (a && b) ≡ true → (a ≡ true) × (b ≡ true)
both true b e = (refl, e)
both false b e = absurd cc

pub invariant_of-self-2 : goal.invariant_of-self-2
invariant_of-self-2 g c =
    let a = c.args in
    let ks = a.cancelled.now in
    let b = c.self.inside in
    let bind = Bind a.token a.cell a.value in
    let len : length (bind ∷ map Cancel ks) ≡ length ks + 1 = omega (arith, length-map ks Cancel) in
    let none : b.published.items ≡ b.published.items ++ published (map Cancel ks) = sym (append-nil b.published.items) ∙ ap (λ vs. b.published.items ++ vs) (sym (cancels-publish-none ks)) in
    let nobody : c.is_empty.result ≡ true → ks ≡ [] = λ is. let e : (length ks == 0) ≡ true = sym c.is_empty.ensures ∙ is in nil_from_length ks (grind (arith, nat_tests)) in
    let local : (b.is_local && c.is_empty.result) ≡ true → (b.is_local ≡ true) × AreLocal g.P.Run.sites (bind ∷ map Cancel ks) =
    λ yes. let and = both b.is_local c.is_empty.result yes in (and.0, subst (λ zs. AreLocal g.P.Run.sites (bind ∷ map Cancel zs)) (sym (nobody and.1)) (tt, tt)) in
    (c.self.invariant.0, known-more _ _ _ _ _ _ _ _ c.self.invariant.1 c.if-self.false (bind ∷ map Cancel ks) _ (length ks + 1) _ _ c.past_with_bind-self-inside.ensures len (omega (arith, c.in_ok-count_more.ensures.counted, c.saturating_add-more.ensures, c.type_inv.cancelled)) c.in_ok-count_more.ensures.few none local)
