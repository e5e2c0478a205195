use Rattle.std.proofs.Common.{◌≡◌, ◌++◌, [], append-nil, length, map, sym, ap, ◌∙◌}
use Rattle.std.proofs.lemmas.List.{length-map, nil_from_length}
use Rattle.orc_rules.specs.Trace.{published}
use Rattle.orc_subrun.specs.Moved.{moved}
use Rattle.orc_log.proofs.Logs.{known-more, published-moved}
use Rattle.orc_log.proofs.log.Log.append_known.Goals as goal

pub invariant_of-self-2 : goal.invariant_of-self-2
invariant_of-self-2 g c =
    let b = c.self.inside in
    let p = c.part.inside in
    let n = c.args.numbering in
    let theirs = c.args.part.now.entries in
    let nil : p.held.entries ≡ [] = nil_from_length p.held.entries (c.part.invariant.1.none (c.part.invariant.0 ∙ c.requires)) in
    let are : theirs ≡ p.past.items = ap (λ part. part.entries) (sym c.part.view_is) ∙ ap (λ zs. p.past.items ++ zs) nil ∙ append-nil p.past.items in
    let len : length (map (moved n) theirs) ≡ p.passed = length-map theirs (moved n) ∙ ap length are ∙ c.part.invariant.1.count in
    let shown : c.extend_from_slice.new.self.items ≡ b.published.items ++ published (map (moved n) theirs) =
    c.in-Ok.ensures.items ∙ ap (λ vs. b.published.items ++ vs) (c.deref.ensures.value ∙ sym (published-moved n theirs ∙ ap published are ∙ c.part.invariant.1.publishes)) in
    (c.self.invariant.0, known-more _ _ _ _ _ _ _ _ c.self.invariant.1 (c.self.invariant.0 ∙ c.requires) (map (moved n) theirs) _ p.passed _ _ c.past_with_part-self-inside.ensures len c.in_ok-count_more.ensures.counted c.in_ok-count_more.ensures.few shown (λ yes. absurd (cc yes)))
