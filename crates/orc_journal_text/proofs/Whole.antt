-- Reading one entry, as its contract says it.
use Rattle.std.proofs.Common.{◌≡◌, ℕ, List, ◌++◌, Option, Some, None, ap, subst, ◌∙◌}
use Rattle.std.specs.Prelude.{IfSome}
use Rattle.orc_rules.specs.declared.entry.Entry.{Entry}
use Rattle.orc_rules.specs.Sites.{AreNames}
use Rattle.orc_rules.specs.Digits.{Gives}
use Rattle.orc_journal_text.specs.Reading.{entry_at}
use Rattle.orc_rules.specs.Text.{line, Fits}
use Rattle.orc_journal_text.proofs.Entries.{AreCodes, entry_takes, entry_again}
use Rattle.orc_journal_text.proofs.Names.{call_code}

pub codes_of : (names : List (List ℕ)) → AreNames names → AreCodes names
codes_of names are = record { call = call_code names are }

module _ {X : Type 0} (view : X → Entry × List ℕ) (names : List (List ℕ)) (are : AreNames names) (bytes : List ℕ) where
  pub is_found : (r : Option X) → Gives view r (entry_at names bytes) → IfSome r (λ x. (bytes ≡ line names (view x).0 ++ (view x).1) × Fits names (view x).0)
  is_found (Some x) given = entry_takes names (codes_of names are) bytes (view x).0 (view x).1 given
  is_found None given = tt

  pub is_only : (r : Option X) → Gives view r (entry_at names bytes) → (e : Entry) (rest : List ℕ) → Fits names e → bytes ≡ line names e ++ rest → Gives {Y = Entry × List ℕ} view r (Some (e, rest))
  is_only r given e rest fits text = subst (λ (o : Option (Entry × List ℕ)). Gives {Y = Entry × List ℕ} view r o) (ap (entry_at names) text ∙ entry_again names (codes_of names are) e rest fits) given
