-- A side that has halted is over.
use Rattle.std.proofs.Common.{ℕ, Bool, true, ◌≡◌, sym, ◌∙◌}
use Rattle.orc_rules.specs.declared.entry.Entry.TheVariants.{Lost, Right}
use Rattle.orc_rules.specs.Journal.{Place}
use Rattle.orc_rules.specs.Marked.{erase}
use Rattle.orc_rules.specs.Refusal.{IsOver}
use Rattle.orc_rules.proofs.Idle.{test_halted}
use Rattle.orc_checker.specs.Over.{LeftIs, RightIs}

pub right_over : (p : Place) (c : ℕ) (b : Bool) → b ≡ true → RightIs p c b → IsOver p (Lost c)
right_over p c b is (f, g, stands, same) = (f, g, stands, test_halted (erase g) (sym same ∙ is))

pub left_over : (p : Place) (n a : ℕ) (b : Bool) → b ≡ true → LeftIs p n b → IsOver p (Right n a)
left_over p n a b is (f, g, stands, same) = (f, g, stands, test_halted (erase f) (sym same ∙ is))
