-- What the rows of a journal in memory stand for: each for one entry, by its own numbers and by what it names in the tables.
use Rattle.std.specs.Prelude.{◌≡◌, ℕ, ◌+◌, ◌<◌, ◌≤◌, List, ◌++◌, length, take, drop, slice_index_or}
use Rattle.std.specs.List.{AllByRecursion}
use Rattle.orc_rules.specs.declared.value.Value.{Value}
use Rattle.orc_rules.specs.declared.value.Value.TheVariants.{Signal}
use Rattle.orc_rules.specs.declared.entry.Entry.{Entry}
use Rattle.orc_rules.specs.declared.entry.Entry.TheVariants.{End, Fork, Seq, Other, Def, Void, Open, Send, Call, Return, ReturnHalt, Bind, Lost, Right, Publish, Tick, Cancel}
use Rattle.orc_rules.specs.declared.kind.Kind.{Kind}
use Rattle.orc_rules.specs.declared.kind.Kind.TheVariants as kinds
use Rattle.orc_rules.specs.declared.limits.TheConstants.{MOST_ARGUMENTS}
use Rattle.orc_journal.specs.declared.rows.Parts.{Parts}
use Rattle.orc_journal.specs.declared.rows.Called.{Called}
use Rattle.orc_journal.specs.declared.rows.Row.{Row}
use Rattle.orc_journal.specs.declared.rows.Row.TheVariants.{Narrow, Wide}

-- the tables: what rows name by its place
pub record Contents : Type 0 where
  pub values : List Value
  pub calls : List Called
  pub wides : List Parts

-- ---- from a row to its entry

-- the fourth number of a narrow row, by its third: only an `open` has one
abbrev pub last_of : Kind → ℕ → ℕ
last_of kinds.Open third = third + 1
last_of _ third = 0

-- the parts that are read at a place where there are none; no row of a journal names such a place
abbrev pub no_parts : Parts
no_parts = record { kind = kinds.End; first = 0; second = 0; third = 0; fourth = 0 }

-- the parts of a row
abbrev pub parts_in : List Parts → Row → Parts
parts_in wides (Narrow kind a b c) = record { kind = kind; first = a; second = b; third = c; fourth = last_of kind c }
parts_in wides (Wide at) = slice_index_or wides at no_parts

abbrev pub no_call : Called
no_call = record { site = 0; count = 0; start = 0 }

abbrev pub value_at : List Value → ℕ → Value
value_at values at = slice_index_or values at Signal

-- a call with the arguments that stand among the values
abbrev pub call_by : List Value → ℕ → ℕ → Called → Entry
call_by values s k c = Call s k c.site (take c.count (drop c.start values))

-- an entry of numbers alone
abbrev pub plain : Kind → ℕ → ℕ → ℕ → ℕ → Entry
plain kinds.Fork a b c d = Fork a b c
plain kinds.Seq a b c d = Seq a b
plain kinds.Other a b c d = Other a b
plain kinds.Def a b c d = Def a b
plain kinds.Void a b c d = Void a
plain kinds.Open a b c d = Open a b c d
plain kinds.ReturnHalt a b c d = ReturnHalt a
plain kinds.Lost a b c d = Lost a
plain kinds.Right a b c d = Right a b
plain kinds.Tick a b c d = Tick a
plain kinds.Cancel a b c d = Cancel a
plain _ a b c d = End a

-- an entry with a value
abbrev pub given : Kind → ℕ → ℕ → Value → Entry
given kinds.Return a b v = Return a b v
given kinds.Bind a b v = Bind a b v
given kinds.Publish a b v = Publish a v
given _ a b v = Send a b v

-- the entry of this kind with these numbers; if it has a value, or is a call, the third number is a place in the tables
abbrev pub entry_by : Contents → Kind → ℕ → ℕ → ℕ → ℕ → Entry
entry_by t kinds.Send a b c d = given kinds.Send a b (value_at t.values c)
entry_by t kinds.Return a b c d = given kinds.Return a b (value_at t.values c)
entry_by t kinds.Bind a b c d = given kinds.Bind a b (value_at t.values c)
entry_by t kinds.Publish a b c d = given kinds.Publish a b (value_at t.values c)
entry_by t kinds.Call a b c d = call_by t.values a b (slice_index_or t.calls c no_call)
entry_by t kind a b c d = plain kind a b c d

abbrev pub entry_from : Contents → Parts → Entry
entry_from t p = entry_by t p.kind p.first p.second p.third p.fourth

-- the entry of a row
abbrev pub entry_of : Contents → Row → Entry
entry_of t r = entry_from t (parts_in t.wides r)

-- ---- what is pointed to is there

-- all arguments of a call are among the values
abbrev pub HasArguments : List Value → Called → Type 0
HasArguments values c = (c.start + c.count ≤ length values) × (c.count ≤ MOST_ARGUMENTS)

abbrev pub HasCall : Contents → ℕ → Type 0
HasCall t at = (at < length t.calls) × HasArguments t.values (slice_index_or t.calls at no_call)

-- the value or the call that the third number of an entry of this kind names is there
abbrev pub IsPlaced : Contents → Kind → ℕ → Type 0
IsPlaced t kinds.Send at = at < length t.values
IsPlaced t kinds.Return at = at < length t.values
IsPlaced t kinds.Bind at = at < length t.values
IsPlaced t kinds.Publish at = at < length t.values
IsPlaced t kinds.Call at = HasCall t at
IsPlaced t _ at = Unit {0}

-- the parts of a wide row are there
abbrev pub IsThere : List Parts → Row → Type 0
IsThere wides (Narrow _ a b c) = Unit {0}
IsThere wides (Wide at) = at < length wides

abbrev pub ArePlaced : Contents → Parts → Type 0
ArePlaced t p = IsPlaced t p.kind p.third

-- all that a row names is there
abbrev pub IsWithin : Contents → Row → Type 0
IsWithin t r = IsThere t.wides r × ArePlaced t (parts_in t.wides r)

abbrev pub AreWithin : Contents → List Row → Type 0
AreWithin t rs = AllByRecursion (IsWithin t) rs

-- the row stands for this entry
abbrev pub StandsFor : Contents → Row → Entry → Type 0
StandsFor t r e = IsWithin t r × (entry_of t r ≡ e)

-- ---- from an entry to its row

-- an entry of this kind has numbers alone
abbrev pub IsPlain : Kind → Type 0
IsPlain kinds.Send = ⊥
IsPlain kinds.Return = ⊥
IsPlain kinds.Bind = ⊥
IsPlain kinds.Publish = ⊥
IsPlain kinds.Call = ⊥
IsPlain _ = Unit {0}

-- an entry of this kind has a value
abbrev pub HasValue : Kind → Type 0
HasValue kinds.Send = Unit {0}
HasValue kinds.Return = Unit {0}
HasValue kinds.Bind = Unit {0}
HasValue kinds.Publish = Unit {0}
HasValue _ = ⊥

-- the tables with more behind what is there
abbrev pub grown : Contents → List Value → List Called → List Parts → Contents
grown t vs cs ps = record { values = t.values ++ vs; calls = t.calls ++ cs; wides = t.wides ++ ps }

-- a value stands at a place
abbrev pub StandsAt : List Value → ℕ → Value → Type 0
StandsAt values at v = (at < length values) × (value_at values at ≡ v)

-- values stand one behind another from a place on
abbrev pub StandFrom : List Value → ℕ → List Value → Type 0
StandFrom values start vs = (start + length vs ≤ length values) × (take (length vs) (drop start values) ≡ vs)

-- the row has these parts
abbrev pub Names : List Parts → Row → Parts → Type 0
Names wides r p = IsThere wides r × (parts_in wides r ≡ p)

-- with tables u in place of t each row stands for the entry for which it stood
abbrev pub Keeps : Contents → Contents → Type 0
Keeps t u = (r : Row) → IsWithin t r → IsWithin u r × (entry_of u r ≡ entry_of t r)
