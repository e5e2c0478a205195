-- The text of values, of publications and of a journal's entries.
use Rattle.std.specs.Prelude.{ℕ, List, [], ◌∷◌, ◌++◌, length, true, false, codes, decimal, slice_index_or, ◌<◌, ◌≤◌, ◌^◌, pos, negsuc}
use Rattle.std.specs.Fmt.{signed_decimal}
use Rattle.orc_rules.specs.declared.limits.TheConstants.{MOST_ARGUMENTS}
use Rattle.orc_rules.specs.Kinds.{kind_of, word_of}
use Rattle.orc_rules.specs.declared.value.Value.{Value}
use Rattle.orc_rules.specs.declared.value.Value.TheVariants.{Number, Truth, Signal}
use Rattle.orc_rules.specs.declared.entry.Entry.{Entry}
use Rattle.orc_rules.specs.declared.entry.Entry.TheVariants.{End, Fork, Seq, Other, Def, Void, Open, Send, Call, Return, ReturnHalt, Bind, Lost, Right, Publish, Tick, Cancel}

-- the text of a value
abbrev pub value_text : Value → List ℕ
value_text (Number z) = signed_decimal z
value_text (Truth true) = codes "true"
value_text (Truth false) = codes "false"
value_text Signal = codes "signal"

-- values after the first one, each after a comma, and the bracket
abbrev pub closing : List Value → List ℕ
closing [] = codes ")"
closing (v ∷ vs) = codes ", " ++ value_text v ++ closing vs

-- `()`, `(a)`, `(a, b)` ..
abbrev pub arguments : List Value → List ℕ
arguments [] = codes "()"
arguments (v ∷ vs) = codes "(" ++ value_text v ++ closing vs

-- a field: a space and a number
abbrev pub number : ℕ → List ℕ
number n = codes " " ++ decimal n

-- a space and a value
abbrev pub value : Value → List ℕ
value v = codes " " ++ value_text v

-- a space, the name of a site and the arguments of its call
abbrev pub call : List (List ℕ) → ℕ → List Value → List ℕ
call names site args = codes " " ++ slice_index_or names site [] ++ arguments args

-- the word with which a line begins
abbrev pub word : Entry → List ℕ
word e = word_of (kind_of e)

-- the fields of a line
abbrev pub fields : List (List ℕ) → Entry → List ℕ
fields names (End s) = number s
fields names (Fork s a b) = number s ++ (number a ++ number b)
fields names (Seq s a) = number s ++ number a
fields names (Other s a) = number s ++ number a
fields names (Def s a) = number s ++ number a
fields names (Void s) = number s
fields names (Open s c a b) = number s ++ (number c ++ (number a ++ number b))
fields names (Send s a v) = number s ++ (number a ++ value v)
fields names (Call s k m args) = number s ++ (number k ++ call names m args)
fields names (Return k a v) = number k ++ (number a ++ value v)
fields names (ReturnHalt k) = number k ++ codes " halt"
fields names (Bind s c v) = number s ++ (number c ++ value v)
fields names (Lost c) = number c
fields names (Right s a) = number s ++ number a
fields names (Publish s v) = number s ++ value v
fields names (Tick t) = number t
fields names (Cancel k) = number k

-- the line of an entry, where the sites have these names
abbrev pub line : List (List ℕ) → Entry → List ℕ
line names e = word e ++ (fields names e ++ codes "\n")

-- what is written of a run: a line for each value, in their order
abbrev pub output : List Value → List ℕ
output [] = []
output (v ∷ vs) = value_text v ++ (codes "\n" ++ output vs)

-- if it is a call, the table has its site
abbrev pub IsNamed : List (List ℕ) → Entry → Type 0
IsNamed names (Call s k m args) = m < length names
IsNamed names e = Unit {0}

-- a number of 64 signed bits
abbrev pub IsValue : Value → Type 0
IsValue (Number (pos n)) = n < 2 ^ 63
IsValue (Number (negsuc n)) = n < 2 ^ 63
IsValue _ = Unit {0}

abbrev pub AreValues : List Value → Type 0
AreValues [] = Unit {0}
AreValues (v ∷ vs) = IsValue v × AreValues vs

-- an entry that has a line: its numbers fit 64 bits, the table has its site, and it has no more arguments than a call may have
abbrev pub Fits : List (List ℕ) → Entry → Type 0
Fits names (End s) = s < 2 ^ 64
Fits names (Fork s a b) = (s < 2 ^ 64) × ((a < 2 ^ 64) × (b < 2 ^ 64))
Fits names (Seq s a) = (s < 2 ^ 64) × (a < 2 ^ 64)
Fits names (Other s a) = (s < 2 ^ 64) × (a < 2 ^ 64)
Fits names (Def s a) = (s < 2 ^ 64) × (a < 2 ^ 64)
Fits names (Void s) = s < 2 ^ 64
Fits names (Open s c a b) = (s < 2 ^ 64) × ((c < 2 ^ 64) × ((a < 2 ^ 64) × (b < 2 ^ 64)))
Fits names (Send s a v) = (s < 2 ^ 64) × ((a < 2 ^ 64) × IsValue v)
Fits names (Call s k m args) = (s < 2 ^ 64) × ((k < 2 ^ 64) × ((m < length names) × (length args ≤ MOST_ARGUMENTS) × AreValues args))
Fits names (Return k a v) = (k < 2 ^ 64) × ((a < 2 ^ 64) × IsValue v)
Fits names (ReturnHalt k) = k < 2 ^ 64
Fits names (Bind s c v) = (s < 2 ^ 64) × ((c < 2 ^ 64) × IsValue v)
Fits names (Lost c) = c < 2 ^ 64
Fits names (Right s a) = (s < 2 ^ 64) × (a < 2 ^ 64)
Fits names (Publish s v) = (s < 2 ^ 64) × IsValue v
Fits names (Tick t) = t < 2 ^ 64
Fits names (Cancel k) = k < 2 ^ 64
