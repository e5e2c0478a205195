-- One entry more is told.
use Rattle.std.proofs.Common.{◌≡◌, ◌∷◌, ◌∙◌, ◌+◌, ℕ, List, Some, drop, map, slice_get, ap, sym}
use Rattle.std.proofs.lemmas.List.{at_drop_more}
use Rattle.std.proofs.lemmas.Option.{get_or_from_slice_get, slice_get_within}
use Rattle.orc_claims.specs.Happenings.{begin, told, told_all, Told}
use Rattle.orc_rules.specs.declared.entry.Entry.{Entry}
use Rattle.orc_tally.specs.Sight.{renumbered}
use Rattle.orc_tally.specs.declared.sight.ClaimSite.{ClaimSite}

pub one_told : (ss : List ClaimSite) (es : List Entry) (at : ℕ) (e : Entry) (h h' : Told) → slice_get es at ≡ Some e → h' ≡ told h (renumbered ss e) → told_all h (map (renumbered ss) (drop at es)) ≡ told_all begin (map (renumbered ss) es) → told_all h' (map (renumbered ss) (drop (at + 1) es)) ≡ told_all begin (map (renumbered ss) es)
one_told ss es at e h h' here is before =
    let rest = map (renumbered ss) (drop (at + 1) es) in
    let next = at_drop_more (λ xs. told_all h (map (renumbered ss) xs)) es at e (slice_get_within es at e here) ∙ ap (λ x. told_all h (map (renumbered ss) (x ∷ drop (at + 1) es))) (get_or_from_slice_get es at e e here) in
    ap (λ t. told_all t rest) is ∙ sym next ∙ before
