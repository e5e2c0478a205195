-- A journal is read entry by entry.
use Rattle.std.proofs.Common.{◌≡◌, ◌+◌, ◌++◌, ◌∷◌, [], ℕ, suc, List, Some, take, refl, ap, sym, subst, true, ◌∙◌, arith}
use Rattle.std.specs.Prelude.{slice_get}
use Rattle.orc_rules.specs.declared.entry.Entry.{Entry}
use Rattle.orc_rules.specs.Nodes.{Listing, source}
use Rattle.orc_rules.specs.Sites.{Table}
use Rattle.orc_rules.specs.Journal.{Journal, begin}
use Rattle.orc_journal_text.proofs.Composing.{take_one}
use Rattle.orc_checker.specs.Checker.{State, Applies}
use Rattle.orc_journal.specs.Sizes.{total}
use Rattle.orc_outcome.specs.Outcome.{context}
use Rattle.orc_ledger_spec.proofs.Binding.{journal_more}
use Rattle.orc_scheduler.specs.Ends.{IsSpelt}

take_next : (es : List Entry) (i : ℕ) (e : Entry) → slice_get es i ≡ Some e → take (i + 1) es ≡ take i es ++ e ∷ []
take_next es i e is = let on : i + 1 ≡ suc i = omega arith in ap (λ n. take n es) on ∙ take_one es i e is

-- one entry more is applied
pub spelt-more : (l : Listing) (t : Table) (es : List Entry) (i : ℕ) (e : Entry) (m m' : State) → slice_get es i ≡ Some e → IsSpelt l t (take i es) m → Applies l t e m m' → IsSpelt l t (take (i + 1) es) m'
spelt-more l t es i e m m' is (q, leads, spells) applies =
    let d = applies true q (take i es, leads) spells in
    (d.0, subst (λ z. Journal (context l t) (begin (source l)) z d.0) (sym (take_next es i e is)) (journal_more (context l t) (begin (source l)) q d.0 (take i es) (e ∷ []) leads (d.0, d.1, refl)), d.2)

total_end : (w : Entry → ℕ) (es : List Entry) (e : Entry) → total w (es ++ e ∷ []) ≡ total w es + w e
total_end w [] e = omega arith
total_end w (f ∷ es) e = omega (arith, total_end w es e)

-- one entry more is counted
pub total-more : (w : Entry → ℕ) (es : List Entry) (i : ℕ) (e : Entry) → slice_get es i ≡ Some e → total w (take (i + 1) es) ≡ total w (take i es) + w e
total-more w es i e is = ap (total w) (take_next es i e is) ∙ total_end w (take i es) e
