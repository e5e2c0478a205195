-- The text of a script's lines.
use Rattle.std.specs.Prelude.{ℕ, zero, suc, List, [], ◌∷◌, ◌++◌, Bool, false, cond, nat_eq, codes, decimal}
use Rattle.orc_rules.specs.Text.{value_text}
use Rattle.orc_rules.specs.declared.value.Answer.{Answer}
use Rattle.orc_rules.specs.declared.value.Answer.TheVariants.{Value, Halt}
use Rattle.orc_rules.specs.declared.value.Found.{Found}
use Rattle.orc_rules.specs.declared.value.Found.TheVariants.{After, Never}
use Rattle.orc_claims.specs.declared.claim.Slot.{Slot}
use Rattle.orc_claims.specs.declared.claim.Slot.TheVariants.{Literal, Any, Variable}
use Rattle.orc_ways.specs.Lines.{Service}
use Rattle.orc_cases.specs.declared.intervals.Interval.{Interval}

abbrev pub pattern_text : Slot → List ℕ
pattern_text (Literal v) = value_text v
pattern_text Any = codes "_"
pattern_text (Variable x) = codes "_"

-- patterns after the first one, each after a comma, and the bracket
abbrev pub closing : List Slot → List ℕ
closing [] = codes ")"
closing (p ∷ ps) = codes ", " ++ (pattern_text p ++ closing ps)

abbrev pub patterns_text : List Slot → List ℕ
patterns_text [] = codes "()"
patterns_text (p ∷ ps) = codes "(" ++ (pattern_text p ++ closing ps)

-- the part of a line before its `=`: `Pay(_, 1)`
abbrev pub call_text : Service → List ℕ
call_text s = s.name ++ patterns_text s.patterns

-- ` after N`, or nothing for a delay of 0
abbrev pub after_text : ℕ → List ℕ
after_text zero = []
after_text (suc n) = codes " after " ++ decimal (suc n)

-- what is answered, without its time
abbrev pub reply_text : Answer → List ℕ
reply_text (Value v) = value_text v
reply_text Halt = codes "halt"

abbrev pub interval_text : Interval → List ℕ
interval_text i = decimal i.first ++ cond (nat_eq i.first i.last) [] (codes ".." ++ decimal i.last)

-- intervals, each but the first of all behind a comma: `3..7, 12`
abbrev pub intervals_text : Bool → List Interval → List ℕ
intervals_text is_first [] = []
intervals_text is_first (i ∷ is) = cond is_first [] (codes ", ") ++ (interval_text i ++ intervals_text false is)

abbrev pub answer_text : Found → List ℕ
answer_text (After (Value v) d) = value_text v ++ after_text d
answer_text (After Halt d) = codes "halt" ++ after_text d
answer_text Never = codes "never"

-- what stands before the answer to the call at a place, from 0
abbrev pub mark : ℕ → List ℕ
mark zero = codes " = "
mark (suc n) = codes " then "

-- answers after the first one
abbrev pub more_answers : List Found → List ℕ
more_answers [] = codes "\n"
more_answers (f ∷ fs) = codes " then " ++ (answer_text f ++ more_answers fs)

-- the part of a line from its `=` on: ` = 1 after 3 then never`
abbrev pub answers_text : List Found → List ℕ
answers_text [] = codes "\n"
answers_text (f ∷ fs) = codes " = " ++ (answer_text f ++ more_answers fs)

-- the LF that a text lacks whose last line has none
abbrev pub lacking_end : List ℕ → List ℕ
lacking_end [] = []
lacking_end (b ∷ []) = cond (nat_eq b 10) [] (codes "\n")
lacking_end (b ∷ c ∷ bs) = lacking_end (c ∷ bs)

-- a line for each name, with which its calls halt
abbrev pub halts_text : List (List ℕ) → List ℕ
halts_text [] = []
halts_text (n ∷ ns) = n ++ (codes "() = halt\n" ++ halts_text ns)
