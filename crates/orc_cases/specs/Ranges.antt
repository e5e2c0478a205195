-- The numbers of ranges with which ways fail.
use Rattle.std.specs.Prelude.{ℕ, List, [], ◌∷◌, ◌++◌, Bool, true, false, cond, Option, Some, None, slice_get}
use Rattle.std.specs.Option.{option_to_list}
use Rattle.orc_rules.specs.Sites.{value_eq}
use Rattle.orc_rules.specs.declared.value.Answer.{Answer}
use Rattle.orc_rules.specs.declared.value.Answer.TheVariants.{Value, Halt}
use Rattle.orc_rules.specs.declared.value.Found.{Found}
use Rattle.orc_rules.specs.declared.value.Found.TheVariants.{After, Never}
use Rattle.orc_cases.specs.Choices.{Choice}
use Rattle.orc_cases.specs.Ways.{Way}

abbrev pub answer_eq : Answer → Answer → Bool
answer_eq (Value v) (Value w) = value_eq v w
answer_eq Halt Halt = true
answer_eq _ _ = false

-- the delay of what is found, if it is this answer
abbrev pub delay_among : Answer → Option Found → Option ℕ
delay_among a (Some (After b d)) = cond (answer_eq b a) (Some d) None
delay_among a _ = None

-- the delay after which a choice gives this answer to the call at a place, if the choice has a range
abbrev pub delay_in : ℕ → Answer → Option Choice → Option ℕ
delay_in place a (Some c) = cond c.is_ranged (delay_among a (slice_get c.answers place)) None
delay_in place a None = None

-- the delays with which a line gives this answer to the call at a place, in those of the ways that fail
abbrev pub delays : ℕ → ℕ → Answer → List Way → List Bool → List ℕ
delays line place a (w ∷ ws) (true ∷ fs) = option_to_list (delay_in place a (slice_get w line)) ++ delays line place a ws fs
delays line place a (w ∷ ws) (false ∷ fs) = delays line place a ws fs
delays line place a _ _ = []
