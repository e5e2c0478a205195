-- Whether two rows are the same can be decided.
use Rattle.std.proofs.Common.{◌≡◌, List, [], ◌∷◌, refl, ap}
use Rattle.std.proofs.Math.Decide.{ℕ_discrete}
use Rattle.std.proofs.Math.IntN.{ℤ_discrete}
use Rattle.std.proofs.Math.Bool.{Bool-discrete}
use Rattle.orc_rules.specs.declared.value.Value.{Value}
use Rattle.orc_rules.specs.declared.value.Value.TheVariants.{Number, Truth, Signal}
use Rattle.orc_rules.specs.declared.param.Param.{Param}
use Rattle.orc_rules.specs.declared.param.Param.TheVariants.{Name, Is, Cell, Void}
use Rattle.orc_rules.specs.Term.{Term, Term-discrete}
use Rattle.orc_frames.specs.Spelling.{Path, Row, Numbered, Path-discrete, Row-discrete, Numbered-discrete}

pub same_value : Discrete Value
same_value (Number a) (Number b) = elim (ℤ_discrete a b) [ yes e ↦ yes (ap Number e) | no h ↦ no (λ e. h (cc)) ]
same_value (Number a) (Truth b) = no (λ e. cc)
same_value (Number a) Signal = no (λ e. cc)
same_value (Truth a) (Number b) = no (λ e. cc)
same_value (Truth a) (Truth b) = elim (Bool-discrete a b) [ yes e ↦ yes (ap Truth e) | no h ↦ no (λ e. h (cc)) ]
same_value (Truth a) Signal = no (λ e. cc)
same_value Signal (Number b) = no (λ e. cc)
same_value Signal (Truth b) = no (λ e. cc)
same_value Signal Signal = yes refl

same_param : Discrete Param
same_param (Name a) (Name b) = elim (ℕ_discrete a b) [ yes e ↦ yes (ap Name e) | no h ↦ no (λ e. h (cc)) ]
same_param (Name a) (Is b) = no (λ e. cc)
same_param (Name a) (Cell b) = no (λ e. cc)
same_param (Name a) Void = no (λ e. cc)
same_param (Is a) (Name b) = no (λ e. cc)
same_param (Is a) (Is b) = elim (same_value a b) [ yes e ↦ yes (ap Is e) | no h ↦ no (λ e. h (cc)) ]
same_param (Is a) (Cell b) = no (λ e. cc)
same_param (Is a) Void = no (λ e. cc)
same_param (Cell a) (Name b) = no (λ e. cc)
same_param (Cell a) (Is b) = no (λ e. cc)
same_param (Cell a) (Cell b) = elim (ℕ_discrete a b) [ yes e ↦ yes (ap Cell e) | no h ↦ no (λ e. h (cc)) ]
same_param (Cell a) Void = no (λ e. cc)
same_param Void (Name b) = no (λ e. cc)
same_param Void (Is b) = no (λ e. cc)
same_param Void (Cell b) = no (λ e. cc)
same_param Void Void = yes refl

same_params : Discrete (List Param)
same_params [] [] = yes refl
same_params [] (q ∷ qs) = no (λ e. cc)
same_params (p ∷ ps) [] = no (λ e. cc)
same_params (p ∷ ps) (q ∷ qs) = go (same_param p q) (same_params ps qs)
  where
    go : Dec (p ≡ q) → Dec (ps ≡ qs) → Dec ((p ∷ ps) ≡ (q ∷ qs))
    go (yes e) (yes f) = yes (λ i. e i ∷ f i)
    go (yes e) (no h) = no (λ f. h (cc))
    go (no h) d = no (λ f. h (cc))

pub same_term : Discrete Term
same_term = Term-discrete same_param ℕ_discrete same_params

pub same_path : Discrete Path
same_path = Path-discrete ℕ_discrete same_term

pub same_row : Discrete Row
same_row = Row-discrete ℕ_discrete same_term same_path

pub same_numbered : Discrete Numbered
same_numbered = Numbered-discrete ℕ_discrete same_path same_term
