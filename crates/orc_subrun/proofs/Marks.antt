-- Marks behind the first one.
use Rattle.std.proofs.Common.{◌≡◌, ◌≤◌, ℕ, ◌+◌, ◌-◌, refl, ap, Bool, true, false, arith}
use Rattle.std.specs.Prelude.{cond, nat_eq}
use Rattle.std.proofs.lemmas.Bool.{eqb-true}
use Rattle.orc_subrun.specs.declared.numbers.Numbering.{Numbering}
use Rattle.orc_subrun.specs.Moved.{mark_in}

not_first : (own : ℕ) → 2 ≤ own → nat_eq own 1 ≡ false
not_first own le = by_test (nat_eq own 1) refl
  where
    by_test : (b : Bool) → nat_eq own 1 ≡ b → b ≡ false
    by_test true e = absurd (omega (arith, le, eqb-true own 1 e))
    by_test false e = refl

-- a mark that the part has set is the whole's, counted from its next one on
pub later_mark : (n : Numbering) (own : ℕ) → 2 ≤ own → mark_in n own ≡ n.mark + own - 2
later_mark n own le = ap (λ b. cond b n.token (n.mark + own - 2)) (not_first own le)
