-- What the table of sites says of each pending call, as its record has it.
use Rattle.std.specs.Prelude.{◌≡◌, ℕ, List, [], ◌∷◌, Bool, true, false, cond, nat_eq, not, ◌&&◌, ◌||◌}
use Rattle.orc_rules.specs.declared.value.Answer.TheVariants.{Value as Gives, Halt}
use Rattle.orc_rules.specs.declared.value.Found.{Found}
use Rattle.orc_rules.specs.declared.value.Found.TheVariants.{After, Never}
use Rattle.orc_rules.specs.Sites.{Site, value_eq, is_scripted}
use Rattle.orc_rules.specs.Timed.{CallMade, IsIn, says_of}
use Rattle.orc_indexes.specs.Same.{None}
use Rattle.orc_tables.specs.declared.records.Call.{Call}

-- both say the same: this answer after this delay, or none ever
abbrev pub found_eq : Found → Found → Bool
found_eq (After (Gives v) d) (After (Gives w) e) = value_eq v w && nat_eq d e
found_eq (After Halt d) (After Halt e) = nat_eq d e
found_eq Never Never = true
found_eq _ _ = false

-- which call of its site with the same arguments it was, where a script answers the site
abbrev pub is_nth : List Site → CallMade → ℕ → Bool
is_nth sites m n = not (is_scripted sites m.site) || nat_eq m.nth n

-- the call was made, and its record has what the table says of it, the time when it was made, and which one it was
abbrev pub is_told : List Site → List CallMade → Call → Bool
is_told sites [] c = false
is_told sites (m ∷ ms) c = cond (nat_eq c.number m.number) (found_eq (says_of sites m) c.found && nat_eq m.at c.made_at && is_nth sites m c.nth) (is_told sites ms c)

-- `is_told` as facts
pub record IsTold (sites : List Site) (made : List CallMade) (c : Call) : Type 0 where
  pub by : CallMade
  pub is_made : IsIn by made
  pub is_k : by.number ≡ c.number
  pub says : says_of sites by ≡ c.found
  pub at : by.at ≡ c.made_at
  pub nth : is_scripted sites by.site ≡ true → by.nth ≡ c.nth

-- the record of each pending call is right
abbrev pub AreTold : List Site → List CallMade → List Call → Type 0
AreTold sites made calls = None (λ c. not (is_told sites made c)) calls
