use Rattle.std.proofs.Common.{◌≡◌, ◌+◌, ◌++◌, ◌∷◌, ℕ, [], List, length, map, ◌∙◌, arith, length-append}
use Rattle.std.proofs.lemmas.List.{map-append}
use Rattle.orc_graph.specs.declared.definitions.Body.{Body}
use Rattle.orc_graph.specs.Bodies.{routine_in, AreInside}
use Rattle.orc_graph.proofs.Runs.{cut-last, routines-append, inside_more, inside_push}
use Rattle.orc_graph.proofs.definitions.Definitions.push.Goals as goal

more : (xs ys : List ℕ) (bs : List Body) → AreInside (length xs) bs → AreInside (length (xs ++ ys)) bs
more xs ys bs h = inside_more (length xs) (length (xs ++ ys)) bs (omega (arith, length-append xs ys)) h

added : (xs ys : List ℕ) (bs : List Body) (b : Body) → AreInside (length xs) bs → b.params.start ≡ length xs → b.params.end ≡ length xs + length ys → AreInside (length (xs ++ ys)) (bs ++ b ∷ [])
added xs ys bs b h s e = inside_push (length (xs ++ ys)) bs b (more xs ys bs h) (omega (arith, s, e)) (omega (arith, e, length-append xs ys))

last : (xs ys : List ℕ) (b : Body) (n : ℕ) → b.params.start ≡ length xs → b.params.end ≡ length xs + length ys → b.node ≡ n → routine_in (xs ++ ys) b ≡ record { params = ys; body = n }
last xs ys b n s e is = let same = cut-last xs ys b.params s e in λ i. record { params = same i; body = is i }

seen : (xs ys : List ℕ) (bs : List Body) (b : Body) (n : ℕ) → AreInside (length xs) bs → b.params.start ≡ length xs → b.params.end ≡ length xs + length ys → b.node ≡ n
    → map (routine_in (xs ++ ys)) (bs ++ b ∷ []) ≡ map (routine_in xs) bs ++ record { params = ys; body = n } ∷ []
seen xs ys bs b n h s e is = map-append (routine_in (xs ++ ys)) bs (b ∷ []) ∙ λ i. routines-append xs ys bs h i ++ last xs ys b n s e is i ∷ []

pub invariant_of-self-in_err-put : goal.invariant_of-self-in_err-put
invariant_of-self-in_err-put c = rw (c.in_ok-params.ensures.items, c.in_err-put.ensures) (more _ _ _ c.self.invariant)

pub invariant_of-self-2 : goal.invariant_of-self-2
invariant_of-self-2 c = rw (c.in_ok-params.ensures.items, c.in_ok-put.ensures) (added _ _ _ _ c.self.invariant c.in_ok-params.ensures.start c.in_ok-params.ensures.end)

pub returns : goal.returns
returns c = rw (c.in_ok-params.ensures.items, c.in_ok-put.ensures, ← c.self.view_is) (seen _ _ _ _ _ c.self.invariant c.in_ok-params.ensures.start c.in_ok-params.ensures.end c.in_ok-node.ensures)
