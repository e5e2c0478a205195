-- The term with which a program begins, and its numbers.
use Rattle.std.proofs.Common.{◌≡◌, ◌≤◌, ◌+◌, ℕ, zero, suc, List, [], ◌∷◌, ◌++◌, length, None, get_or, refl, sym, ap, ◌∙◌, ◌⊎◌, inl, inr, subst, arith, length-append}
use Rattle.std.specs.Prelude.{slice_get}
use Rattle.orc_rules.specs.declared.param.Operand.{Operand}
use Rattle.orc_rules.specs.declared.program.TermNode.{TermNode}
use Rattle.orc_rules.specs.Term.{Term, stop}
use Rattle.orc_rules.specs.Nodes.{Listing, unfold_node, terms_from, source}
use Rattle.orc_rules.specs.Timed.{IsIn}
use Rattle.orc_search.specs.declared.moves.Source.{Source}
use Rattle.orc_search.specs.Small.{Small, nothing}
use Rattle.orc_search.specs.Programs.{small}
use Rattle.orc_search.specs.Ready.{IsReady}
use Rattle.orc_search.proofs.Nodes.{none_term}
use Rattle.orc_schedules.specs.declared.states.Key.{Key}
use Rattle.orc_schedules.specs.Growing.{Grows}
use Rattle.orc_schedules.proofs.Growing.{grows_get}

past : {X : Type 0} (xs : List X) (i : ℕ) (d : X) → length xs ≤ i → get_or xs i d ≡ d
past [] i d le = refl
past (x ∷ xs) zero d le = absurd (omega (arith, le))
past (x ∷ xs) (suc i) d le = past xs i d (omega (arith, le))

as_many : (ls : List (List Operand)) (ts : List Term) (ns : List TermNode) → length (terms_from ls ts ns) ≡ length ts + length ns
as_many ls ts [] = omega arith
as_many ls ts (n ∷ ns) =
    let t : Term = unfold_node (λ i. get_or ts i stop) ls n in
    let e = as_many ls (ts ++ t ∷ []) ns in
    omega (arith, e, length-append ts (t ∷ []))

-- a program's term is nothing where its number is that of no node
pub past_source : (l : Listing) (numbers : List ℕ) (n : ℕ) → n ≡ l.root → length numbers ≡ length l.nodes → None ≡ slice_get numbers n → nothing ≡ small (source l)
past_source l numbers n is len none =
    let le = none_term numbers n (sym none) in
    let many = as_many l.lists [] l.nodes in
    ap small (sym (past (terms_from l.lists [] l.nodes) l.root stop (omega (arith, le, many, len, is))))

-- numbers of nodes stay those of their terms
pub ready_kept : (ts us : List Small) (s : Source) → Grows ts us → IsReady ts s → IsReady us s
ready_kept ts us s g ready = (λ i n h. grows_get ts us n _ g (ready.0 i n h), ready.1)

-- the one that was added stands alone
pub only_there : (old new : List Key) (k : Key) → old ≡ [] → IsIn k new → (new ≡ old) ⊎ (new ≡ old ++ k ∷ []) → new ≡ k ∷ []
only_there old new k none is (inl same) = let e : IsIn k [] = subst (λ (ks : List Key). IsIn k ks) (same ∙ none) is in elim e [ ]
only_there old new k none is (inr more) = more ∙ ap (λ (ks : List Key). ks ++ k ∷ []) none
