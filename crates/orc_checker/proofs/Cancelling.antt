-- The cancels that are due, one after another.
use Rattle.std.proofs.Common.{◌≡◌, ◌<◌, ◌-◌, ℕ, zero, suc, List, [], ◌∷◌, ◌++◌, length, map, reverse, get_or, Option, Some, None, refl, sym, ap, ◌∙◌, arith, inl, subst}
use Rattle.std.specs.Prelude.{slice_get}
use Rattle.std.specs.Option.{option_to_list}
use Rattle.std.proofs.lemmas.List.{reverse-append}
use Rattle.orc_rules.specs.declared.entry.Entry.TheVariants as entry
use Rattle.orc_rules.specs.Term.{Term}
use Rattle.orc_rules.specs.Marked.{Marked}
use Rattle.orc_checker.specs.Calls.{Rest, told}
use Rattle.orc_calls.specs.Counting.{AreCounted}
use Rattle.orc_checker.specs.Checker.{State, Draws, Enters, AreCells}
use Rattle.orc_env.specs.Names.{AreOrdered}
use Rattle.orc_checker.proofs.Moves.{staying, still_on}

-- the last number of a list is popped
pub last_popped : (old new : List ℕ) (popped : Option ℕ) (n k : ℕ) → n ≡ length old → slice_get old (n - 1) ≡ Some k → ((d : ℕ) → 0 < n → popped ≡ Some (get_or old (n - 1) d)) → old ≡ new ++ option_to_list popped → reverse old ≡ k ∷ reverse new
last_popped old new popped n k len last pop is =
    let some : popped ≡ Some k = pop k (positive old n len last) ∙ ap Some (found old (n - 1) last) in
    ap reverse (is ∙ ap (λ z. new ++ option_to_list z) some) ∙ reverse-append new (k ∷ [])
  where
    positive : (xs : List ℕ) (n : ℕ) → n ≡ length xs → slice_get xs (n - 1) ≡ Some k → 0 < n
    positive [] n e h = cc h
    positive (x ∷ xs) n e h = omega (arith, e)

    value_or : ℕ → Option ℕ → ℕ
    value_or d (Some z) = z
    value_or d None = d

    found : (xs : List ℕ) (i : ℕ) → slice_get xs i ≡ Some k → get_or xs i k ≡ k
    found [] i h = refl
    found (x ∷ xs) zero h = ap (value_or k) h
    found (x ∷ xs) (suc i) h = found xs i h

-- the same nodes, scopes and cells draw the same
pub draws_same : (code : ℕ → Term) (s s' : State) (m : Marked) → Draws code s m → s'.nodes ≡ s.nodes → s'.scopes ≡ s.scopes → s'.cells ≡ s.cells → s'.halts ≡ s.halts → s'.flags ≡ s.flags → Draws code s' m
draws_same code s s' m d nodes scopes cells halts flags =
    let so : Draws code (record s' { nodes = s.nodes; scopes = s.scopes; cells = s.cells; halts = s.halts; flags = s.flags }) m =
    record { tree = d.tree; holds = d.holds; root = d.root; once = d.once; top = d.top; marked = d.marked; flags = d.flags } in
    subst (λ z. Draws code z m) (λ j. record s' { nodes = (sym nodes) j; scopes = (sym scopes) j; cells = (sym cells) j; halts = (sym halts) j; flags = (sym flags) j }) so

-- the next cancel is done
pub cancel-enters : (code : ℕ → Term) (s s' : State) (k : ℕ) → s'.nodes ≡ s.nodes → s'.scopes ≡ s.scopes → s'.cells ≡ s.cells → s'.marks ≡ s.marks → s'.halts ≡ s.halts → s'.flags ≡ s.flags → s'.asked ≡ s.asked → s.rest ≡ record s'.rest { to_cancel = k ∷ s'.rest.to_cancel } → Enters code (entry.Cancel k) s s'
cancel-enters code s s' k nodes scopes cells marks halts flags asked rest x p sp =
    let kept = sp.rest in (
      record p { to_cancel = s'.rest.to_cancel },
      (inl tt, (kept.due ∙ ap Rest.to_cancel rest, refl)),
      record {
        drawn = draws_same code s s' p.marked sp.drawn nodes scopes cells halts flags;
        mark = sp.mark ∙ ap length (sym marks);
        scopes = subst AreOrdered (sym scopes) sp.scopes;
        cells = subst (AreCells p.cells) (sym cells) sp.cells;
        rest = record { time = kept.time ∙ ap Rest.time rest; calls_are = ap (map told) (sym (ap Rest.calls rest)) ∙ kept.calls_are; counted = subst (λ z. AreCounted x.sites z p.calls) (ap Rest.counts rest) kept.counted; numbered = kept.numbered; due = refl; cancels_are = kept.cancels_are ∙ ap Rest.cancels rest };
        still = still_on x.definitions code s s' (staying s s' scopes cells) asked sp.still;
      },
    )
