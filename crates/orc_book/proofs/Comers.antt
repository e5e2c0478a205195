-- What a sub-run leaves in a book.
use Rattle.std.proofs.Common.{◌≡◌, inl, Bool, true, false, Option, Some, None, refl, sym, subst}
use Rattle.std.specs.Prelude.{MatchOption}
use Rattle.orc_rules.specs.Timed.{IsIn}
use Rattle.orc_subrun.specs.declared.numbers.Numbering.{Numbering}
use Rattle.orc_subrun.specs.Moved.{mark_in}
use Rattle.orc_tables.specs.declared.records.Token.{Token as Its}
use Rattle.orc_tables.specs.declared.records.Standing.TheVariants.{On}
use Rattle.orc_ledger_spec.specs.Parts.{comers}
use Rattle.orc_ledger_spec.specs.declared.parts.Yield.{Yield}

pub some-left : (o : Option Yield) (r : Bool) → MatchOption o (r ≡ false) (λ _. r ≡ true) → r ≡ true → (y : Yield) × (o ≡ Some y)
some-left None r m e = cc (m, e)
some-left (Some y) r m e = (y, refl)

pub none-left : (o : Option Yield) (r : Bool) → MatchOption o (r ≡ false) (λ _. r ≡ true) → r ≡ false → o ≡ None
none-left None r m e = refl
none-left (Some y) r m e = cc (m, e)

abbrev pub comer : Numbering → Its → Yield → Its
comer n t y = record { serial = mark_in n y.mark; standing = On y.value; step = t.step }

pub comer-in : (n : Numbering) (t : Its) (o : Option Yield) (y : Yield) → o ≡ Some y → IsIn (comer n t y) (comers n t o)
comer-in n t o y e = subst (λ z. IsIn (comer n t y) (comers n t z)) (sym e) (inl refl)
