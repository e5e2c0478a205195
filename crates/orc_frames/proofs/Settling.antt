-- When a cell becomes a value, only what waits for it changes; when it becomes void, each token that has it among its arguments may move.
use Rattle.std.proofs.Common.{◌≡◌, ℕ, List, [], ◌∷◌, refl, ap, map, Bool, true, false, cond, nat_eq}
use Rattle.std.specs.Prelude.{◌||◌}
use Rattle.orc_rules.specs.declared.value.Value.{Value}
use Rattle.orc_rules.specs.declared.param.Param.{Param}
use Rattle.orc_rules.specs.declared.param.Param.TheVariants as is
use Rattle.orc_rules.specs.Term.{Term, stop, param, site, call, par, seq, prune, other, pending, opened, Definition, values_of, fill, fill_param}
use Rattle.orc_rules.specs.Idle.{has_void}
use Rattle.orc_frames.specs.Spelling.{Path, whole, feeding, aiding, trying}
use Rattle.orc_frames.specs.Doing.{taken, what_site, what_by}
use Rattle.orc_frames.proofs.Kept.{fill_path}

-- what takes a value doesn't depend on what the names stand for, nor on what has been left
pub taken-fill : (v : Value) (c : ℕ) (w : Param) (p : Path) → taken v (fill_path c w p) ≡ taken v p
taken-fill v c w whole = refl
taken-fill v c w (feeding x g p) = refl
taken-fill v c w (aiding d p) = refl
taken-fill v c w (trying n p) = taken-fill v c w p

-- ---- void
abbrev pub has_arg : ℕ → List Param → Bool
has_arg c [] = false
has_arg c (is.Cell d ∷ ps) = nat_eq c d || has_arg c ps
has_arg c (is.Name x ∷ ps) = has_arg c ps
has_arg c (is.Is v ∷ ps) = has_arg c ps
has_arg c (is.Void ∷ ps) = has_arg c ps

-- the term is the cell, or asks a site with it
abbrev pub names_cell : ℕ → Term → Bool
names_cell c (param p) = has_arg c (p ∷ [])
names_cell c (site m ps) = has_arg c ps
names_cell c _ = false

or_false : (a b : Bool) → (a || b) ≡ false → (a ≡ false) × (b ≡ false)
or_false true b h = cc h
or_false false b h = (refl, h)

pub args_stay : (w : Param) (c : ℕ) (ps : List Param) → has_arg c ps ≡ false → map (fill_param w c) ps ≡ ps
args_stay w c [] h = refl
args_stay w c (is.Name x ∷ ps) h = ap (λ qs. is.Name x ∷ qs) (args_stay w c ps h)
args_stay w c (is.Is v ∷ ps) h = ap (λ qs. is.Is v ∷ qs) (args_stay w c ps h)
args_stay w c (is.Void ∷ ps) h = ap (λ qs. is.Void ∷ qs) (args_stay w c ps h)
args_stay w c (is.Cell d ∷ ps) h = let k = or_false (nat_eq c d) (has_arg c ps) h in λ i. cond (k.0 i) w (is.Cell d) ∷ args_stay w c ps k.1 i

-- a token without the cell among its arguments keeps its word, whatever the cell becomes
pub any_stays : (w : Param) (c : ℕ) (defs : List Definition) (p : Path) (u : Term) → names_cell c u ≡ false → what_by defs (fill_path c w p) (fill w c u) ≡ what_by defs p u
any_stays w c defs p stop h = refl
any_stays w c defs p (param (is.Is v)) h = taken-fill v c w p
any_stays w c defs p (param is.Void) h = refl
any_stays w c defs p (param (is.Name x)) h = refl
any_stays w c defs p (param (is.Cell d)) h = ap (λ b. what_by defs (fill_path c w p) (param (cond b w (is.Cell d)))) (or_false (nat_eq c d) false h).0
any_stays w c defs p (site m ps) h = ap (λ qs. what_site qs (has_void qs) (values_of qs)) (args_stay w c ps h)
any_stays w c defs p (call e ps) h = refl
any_stays w c defs p (par g k) h = refl
any_stays w c defs p (seq g x k) h = refl
any_stays w c defs p (prune g x k) h = refl
any_stays w c defs p (other g k) h = refl
any_stays w c defs p (pending k) h = refl
any_stays w c defs p (opened g d k) h = refl
