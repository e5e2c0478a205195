use Rattle.std.proofs.Common.{◌≡◌, ◌≤◌, ◌+◌, ◌++◌, ◌∷◌, [], List, length, map, ◌∙◌, arith, length-append}
use Rattle.orc_rules.specs.declared.limits.TheConstants.{MOST_ARGUMENTS}
use Rattle.std.proofs.lemmas.List.{map-append}
use Rattle.orc_rules.specs.declared.param.Operand.{Operand}
use Rattle.orc_graph.specs.declared.numbers.Range.{Range}
use Rattle.orc_graph.specs.Ranges.{cut, AreWithin}
use Rattle.orc_graph.proofs.Runs.{cut-last, cuts-append, within_more, within_push}
use Rattle.orc_graph.proofs.lists.Lists.push.Goals as goal

more : (xs ys : List Operand) (rs : List Range) → AreWithin (length xs) rs → AreWithin (length (xs ++ ys)) rs
more xs ys rs h = within_more (length xs) (length (xs ++ ys)) rs (omega (arith, length-append xs ys)) h

added : (xs ys : List Operand) (rs : List Range) (r : Range) → AreWithin (length xs) rs → r.start ≡ length xs → r.end ≡ length xs + length ys → length ys ≤ MOST_ARGUMENTS → AreWithin (length (xs ++ ys)) (rs ++ r ∷ [])
added xs ys rs r h s e few = within_push (length (xs ++ ys)) rs r (more xs ys rs h) (omega (arith, s, e)) (omega (arith, e, length-append xs ys)) (omega (arith, s, e, few))

seen : (xs ys : List Operand) (rs : List Range) (r : Range) → AreWithin (length xs) rs → r.start ≡ length xs → r.end ≡ length xs + length ys → map (cut (xs ++ ys)) (rs ++ r ∷ []) ≡ map (cut xs) rs ++ ys ∷ []
seen xs ys rs r h s e = map-append (cut (xs ++ ys)) rs (r ∷ []) ∙ λ i. cuts-append xs ys rs h i ++ cut-last xs ys r s e i ∷ []

pub invariant_of-self-in_err-put : goal.invariant_of-self-in_err-put
invariant_of-self-in_err-put c = rw (c.in_ok-range.ensures.items, c.in_err-put.ensures) (more _ _ _ c.self.invariant)

pub invariant_of-self-2 : goal.invariant_of-self-2
invariant_of-self-2 c = rw (c.in_ok-range.ensures.items, c.in_ok-put.ensures) (added _ _ _ _ c.self.invariant c.in_ok-range.ensures.start c.in_ok-range.ensures.end c.requires)

pub returns : goal.returns
returns c = rw (c.in_ok-range.ensures.items, c.in_ok-put.ensures, ← c.self.view_is) (seen _ _ _ _ c.self.invariant c.in_ok-range.ensures.start c.in_ok-range.ensures.end)
