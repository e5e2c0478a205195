-- The text of a journal is written line by line.
use Rattle.std.proofs.Common.{◌≡◌, ◌<◌, ◌+◌, ℕ, zero, suc, List, [], ◌∷◌, ◌++◌, length, take, Some, None, refl, sym, ap, length-take, subst, ◌∙◌, append_assoc, arith, true}
use Rattle.std.specs.Prelude.{slice_get}
use Rattle.std.proofs.lemmas.List.{flat_map_more}
use Rattle.orc_rules.specs.declared.entry.Entry.{Entry}
use Rattle.orc_rules.specs.Named.{AreNamed}
use Rattle.orc_rules.specs.Text.{line, Fits, IsNamed}
use Rattle.orc_journal.specs.declared.journal.Version.{Version}
use Rattle.orc_journal_text.specs.Texts.{entry_lines, is_of, AreOf}
use Rattle.orc_journal_text.proofs.Codes.{same_some}
use Rattle.orc_journal_text.proofs.Stripping.{are_more, none_some}

-- the entries up to one, and that one
pub take_one : (es : List Entry) (i : ℕ) (e : Entry) → slice_get es i ≡ Some e → take (suc i) es ≡ take i es ++ e ∷ []
take_one [] zero e is = absurd (none_some e (sym is))
take_one [] (suc i) e is = absurd (none_some e (sym is))
take_one (f ∷ es) zero e is = ap (λ z. z ∷ []) (same_some f e is)
take_one (f ∷ es) (suc i) e is = ap (λ z. f ∷ z) (take_one es i e is)

pub is_there : (es : List Entry) (i : ℕ) (e : Entry) → slice_get es i ≡ Some e → i < length es
is_there [] zero e is = absurd (none_some e (sym is))
is_there [] (suc i) e is = absurd (none_some e (sym is))
is_there (f ∷ es) zero e is = omega arith
is_there (f ∷ es) (suc i) e is = omega (arith, is_there es i e is)

-- behind the last one there is none
pub take_all : (es : List Entry) (i : ℕ) → slice_get es i ≡ None → take i es ≡ es
take_all [] zero is = refl
take_all [] (suc i) is = refl
take_all (f ∷ es) zero is = absurd (none_some f is)
take_all (f ∷ es) (suc i) is = ap (λ z. f ∷ z) (take_all es i is)

-- one line more
pub lines_more : (names : List (List ℕ)) (text new : List ℕ) (before : List ℕ) (es : List Entry) (i : ℕ) (e : Entry) → slice_get es i ≡ Some e → text ≡ before ++ entry_lines names (take i es) → new ≡ text ++ line names e
    → new ≡ before ++ entry_lines names (take (i + 1) es)
lines_more names text new before es i e is so_far grown =
    let on : i + 1 ≡ suc i = omega arith in
    grown ∙ ap (λ t. t ++ line names e) so_far ∙ append_assoc before (entry_lines names (take i es)) (line names e)
    ∙ ap (λ t. before ++ t) (flat_map_more (line names) [] (take i es) e ∙ ap (entry_lines names) (sym (take_one es i e is) ∙ ap (λ n. take n es) (sym on)))

pub each_more : (names : List (List ℕ)) (v : Version) (es : List Entry) (i : ℕ) (e : Entry) → slice_get es i ≡ Some e → AreOf names v (take i es) → Fits names e → is_of v e ≡ true → AreOf names v (take (i + 1) es)
each_more names v es i e is are fits known =
    let on : i + 1 ≡ suc i = omega arith in
    subst (λ z. AreOf names v z) (sym (ap (λ n. take n es) on ∙ take_one es i e is)) (are_more names v (take i es) e are fits known)

-- each of them has a line
pub each_at : (names : List (List ℕ)) (v : Version) (es : List Entry) (i : ℕ) (e : Entry) → slice_get es i ≡ Some e → AreOf names v es → Fits names e × (is_of v e ≡ true)
each_at names v [] zero e is are = absurd (none_some e (sym is))
each_at names v [] (suc i) e is are = absurd (none_some e (sym is))
each_at names v (f ∷ es) zero e is are = subst (λ z. Fits names z × (is_of v z ≡ true)) (same_some f e is) (are.0, are.1)
each_at names v (f ∷ es) (suc i) e is are = each_at names v es i e is are.2

-- the site of each call among them has a name
pub named_at : (names : List (List ℕ)) (es : List Entry) (i : ℕ) (e : Entry) → slice_get es i ≡ Some e → AreNamed names es → IsNamed names e
named_at names [] zero e is are = absurd (none_some e (sym is))
named_at names [] (suc i) e is are = absurd (none_some e (sym is))
named_at names (f ∷ es) zero e is are = subst (IsNamed names) (same_some f e is) are.0
named_at names (f ∷ es) (suc i) e is are = named_at names es i e is are.1

pub none_past : (es : List Entry) (i : ℕ) → slice_get es i ≡ None → i < length es → ⊥
none_past es i is within = omega (arith, ap length (take_all es i is), length-take i es, within)
