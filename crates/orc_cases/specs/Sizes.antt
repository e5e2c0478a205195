-- How many ways there are.
use Rattle.std.specs.Prelude.{ℕ, zero, suc, ◌+◌, ◌*◌, List, [], ◌∷◌, length, max, min}
use Rattle.orc_ways.specs.declared.limits.TheConstants.{MOST_WAYS}
use Rattle.orc_ways.specs.Lines.{History, Service}
use Rattle.orc_cases.specs.Choices.{answers_of}

-- how many histories an alternative stands for
abbrev pub history_size : History → ℕ
history_size [] = 1
history_size (r ∷ rs) = length (answers_of r) * history_size rs

-- how many histories alternatives stand for together
abbrev pub options_size : List History → ℕ
options_size [] = 0
options_size (h ∷ hs) = history_size h + options_size hs

-- how many choices n calls have
abbrev pub calls_size : ℕ → ℕ → ℕ
calls_size options zero = 1
calls_size options (suc n) = options * calls_size options n

-- how many choices a service has
abbrev pub service_size : Service → ℕ
service_size s = calls_size (options_size s.alternatives) (max s.calls 1)

-- how many ways services have together
abbrev pub ways_size : List Service → ℕ
ways_size [] = 1
ways_size (s ∷ ss) = service_size s * ways_size ss

-- ---- the same in numbers that stop at `MOST_WAYS` + 1, as the code multiplies and adds them up

-- the number, or `MOST_WAYS` + 1 for each above
unfoldable pub capped : ℕ → ℕ
capped n = min n (MOST_WAYS + 1)

unfoldable pub times : ℕ → ℕ → ℕ
times a b = capped (a * b)

unfoldable pub plus : ℕ → ℕ → ℕ
plus a b = capped (a + b)

-- a size times how many histories an alternative stands for, each product stopped so; the sizes below go on from a size in the same way
abbrev pub history_from : ℕ → History → ℕ
history_from size [] = size
history_from size (r ∷ rs) = history_from (times size (capped (length (answers_of r)))) rs

abbrev pub options_from : ℕ → List History → ℕ
options_from size [] = size
options_from size (h ∷ hs) = options_from (plus size (history_from 1 h)) hs

abbrev pub calls_from : ℕ → ℕ → ℕ → ℕ
calls_from size options zero = size
calls_from size options (suc n) = calls_from (times size options) options n

abbrev pub service_capped : Service → ℕ
service_capped s = calls_from 1 (options_from 0 s.alternatives) (max s.calls 1)

abbrev pub ways_from_size : ℕ → List Service → ℕ
ways_from_size size [] = size
ways_from_size size (s ∷ ss) = ways_from_size (times size (service_capped s)) ss
