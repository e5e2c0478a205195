-- How deep a place of a definition or main expression is.
use Rattle.std.specs.Prelude.{◌≡◌, ℕ, ◌+◌, ◌≤◌, Bool, true, false, if◌then◌else◌, List, [], ◌∷◌}
use Rattle.orc_rules.specs.declared.limits.TheConstants.{MOST_BRACKETS, MOST_OPERATORS}
use Rattle.orc_lex.specs.Tokens.{Sort, Join, Arrow, Open, Close, Val, Lexeme}

-- what stands before a place: the open brackets and the `val`s, without those inside brackets that are closed; that number before each
-- open bracket, the innermost first; the operators; and whether the first sign of an operator with a variable has come alone
pub record Count : Type 0 where
  pub levels : ℕ
  pub outside : List ℕ
  pub operators : ℕ
  pub half : Bool

-- nothing stands before the place
abbrev pub none : Count
none = record { levels = 0; outside = []; operators = 0; half = false }

-- a bracket closes
abbrev pub closed : List ℕ → ℕ → Bool → Count
closed [] operators half = record { levels = 0; outside = []; operators = operators; half = half }
closed (levels ∷ outside) operators half = record { levels = levels; outside = outside; operators = operators; half = half }

-- one more token
abbrev pub counted : Count → Sort → Count
counted c Open = record { levels = c.levels + 1; outside = c.levels ∷ c.outside; operators = c.operators; half = c.half }
counted c Close = closed c.outside c.operators c.half
counted c Val = record { levels = c.levels + 1; outside = c.outside; operators = c.operators; half = c.half }
counted c (Join j) = record { levels = c.levels; outside = c.outside; operators = c.operators + 1; half = c.half }
counted c (Arrow s) =
    if c.half then record { levels = c.levels; outside = c.outside; operators = c.operators; half = false }
    else record { levels = c.levels; outside = c.outside; operators = c.operators + 1; half = true }
counted c _ = c

-- and after these tokens
abbrev pub counted_on : Count → List Lexeme → Count
counted_on c [] = c
counted_on c (t ∷ ts) = counted_on (counted c t.sort) ts

-- what stands before the end of these tokens
abbrev pub counts : List Lexeme → Count
counts ts = counted_on none ts

-- one more bracket, `val` or operator is one too many
abbrev pub IsTooDeep : Count → Sort → Type 0
IsTooDeep c Open = MOST_BRACKETS ≤ c.levels
IsTooDeep c Val = MOST_BRACKETS ≤ c.levels
IsTooDeep c (Join j) = MOST_OPERATORS ≤ c.operators
IsTooDeep c (Arrow s) = (MOST_OPERATORS ≤ c.operators) × (c.half ≡ false)
IsTooDeep c _ = ⊥
