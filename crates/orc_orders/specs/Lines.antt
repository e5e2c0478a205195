-- The lines of what came up.
use Rattle.std.specs.Prelude.{ℕ, List, ◌++◌, codes, decimal}
use Rattle.std.specs.List.{flat_map}
use Rattle.orc_rules.specs.Text.{value}
use Rattle.orc_rules.specs.declared.value.Value.{Value}
use Rattle.orc_outcome.specs.declared.end.End.{End}
use Rattle.orc_outcome.specs.declared.end.End.TheVariants as ends
use Rattle.orc_orders.specs.declared.seen.Seen.{Seen}

-- the word for an end
abbrev pub end_word : End → List ℕ
end_word ends.Halted = codes "Halted"
end_word ends.Quiet = codes "Quiet"
end_word ends.Limit = codes "Limit"
end_word ends.Full = codes "Full"
end_word ends.Memory = codes "Memory"

-- `order 3 (43 of 100) Halted:`
abbrev pub head : ℕ → Seen → List ℕ
head orders x = codes "order " ++ (decimal x.first ++ (codes " (" ++ (decimal x.times ++ (codes " of " ++ (decimal orders ++ (codes ") " ++ (end_word x.end ++ codes ":")))))))

-- the line of an outcome: its head, and behind it the values, each after one space
abbrev pub line : ℕ → Seen → List ℕ
line orders x = head orders x ++ (flat_map value x.values.items ++ codes "\n")

-- `no order (0 of 100) Halted:`, of an outcome to which no order came
abbrev pub unseen_head : ℕ → End → List ℕ
unseen_head orders end = codes "no order (0 of " ++ (decimal orders ++ (codes ") " ++ (end_word end ++ codes ":")))

-- the line of such an outcome
abbrev pub unseen_line : ℕ → End → List Value → List ℕ
unseen_line orders end values = unseen_head orders end ++ (flat_map value values ++ codes "\n")

-- the lines of all outcomes
abbrev pub lines : ℕ → List Seen → List ℕ
lines orders xs = flat_map (line orders) xs
