use Rattle.std.proofs.Common.{◌≡◌, ◌∷◌, [], append-nil, false, sym, ap, ◌∙◌, refl}
use Rattle.orc_rules.specs.Sites.{is_scripted}
use Rattle.orc_rules.specs.declared.entry.Entry.TheVariants.{Call}
use Rattle.orc_log.proofs.Logs.{known-more}
use Rattle.orc_log.proofs.log.Log.push_call.Goals as goal

pub invariant_of-self-then-is_scripted : goal.invariant_of-self-then-is_scripted
invariant_of-self-then-is_scripted g c =
    let a = c.args in
    (c.self.invariant.0, known-more _ _ _ _ _ _ _ _ c.self.invariant.1 c.if-self.false (Call a.token a.call a.site a.args.now ∷ []) _ 1 _ _ c.past_with_call-self-inside.ensures refl c.in_ok-count_more.ensures.counted c.in_ok-count_more.ensures.few (sym (append-nil _)) (λ yes. absurd (cc yes)))

pub invariant_of-self-else-is_scripted : goal.invariant_of-self-else-is_scripted
invariant_of-self-else-is_scripted g c =
    let a = c.args in
    let free : is_scripted g.P.Run.sites a.site ≡ false = ap (λ sites. is_scripted sites a.site) (sym c.requires.answers) ∙ sym c.is_scripted.ensures ∙ c.if-is_scripted.false in
    (c.self.invariant.0, known-more _ _ _ _ _ _ _ _ c.self.invariant.1 c.if-self.false (Call a.token a.call a.site a.args.now ∷ []) _ 1 _ _ c.past_with_call-self-inside.ensures refl c.in_ok-count_more.ensures.counted c.in_ok-count_more.ensures.few (sym (append-nil _)) (λ yes. (yes, (free, tt))))
