-- How long the line of an entry can be.
use Rattle.std.proofs.Common.{◌≡◌, ℕ, suc, ◌+◌, ◌*◌, ◌^◌, ◌<◌, ◌≤◌, true, false, List, [], ◌∷◌, ◌++◌, length, drop, slice_index_or, refl, length-append, arith}
use Rattle.std.proofs.lemmas.Fmt.{length-decimal-le}
use Rattle.std.specs.Prelude.{codes, pos, negsuc}
use Rattle.orc_rules.specs.declared.limits.TheConstants.{MOST_ARGUMENTS}
use Rattle.orc_rules.specs.declared.value.Value.{Value}
use Rattle.orc_rules.specs.declared.value.Value.TheVariants.{Number, Truth, Signal}
use Rattle.orc_rules.specs.declared.entry.Entry.{Entry}
use Rattle.orc_rules.specs.declared.entry.Entry.TheVariants.{End, Fork, Seq, Other, Def, Void, Open, Send, Call, Return, ReturnHalt, Bind, Lost, Right, Publish, Tick, Cancel}
use Rattle.orc_rules.specs.declared.kind.Kind.{Kind}
use Rattle.orc_rules.specs.declared.kind.Kind.TheVariants as kinds
use Rattle.orc_rules.specs.Kinds.{kind_of, word_of}
use Rattle.orc_rules.specs.Text.{number, value, value_text, closing, arguments, call, word, fields, line, Fits, IsValue, AreValues}
use Rattle.orc_journal.specs.declared.journal.Version.{Version}
use Rattle.orc_journal_text.specs.Lines.{AreNamesWithin}
use Rattle.orc_journal_text.specs.Texts.{NoLine}

-- ---- fields

number_length : (n : ℕ) → n < 2 ^ 64 → length (number n) ≤ 21
number_length n small = omega (arith, length-decimal-le 20 n (omega arith) (omega (arith, small)) small)

value_text_length : (v : Value) → IsValue v → length (value_text v) ≤ 21
value_text_length (Number (pos n)) fits = omega (arith, length-decimal-le 20 n (omega arith) (omega (arith, fits)) (omega (arith, fits)))
value_text_length (Number (negsuc n)) fits = omega (arith, length-decimal-le 20 (suc n) (omega arith) (omega (arith, fits)) (omega (arith, fits)))
value_text_length (Truth true) fits = omega arith
value_text_length (Truth false) fits = omega arith
value_text_length Signal fits = omega arith

value_length : (v : Value) → IsValue v → length (value v) ≤ 22
value_length v fits = omega (arith, value_text_length v fits)

closing_length : (vs : List Value) → AreValues vs → length (closing vs) ≤ 1 + 23 * length vs
closing_length [] are = omega arith
closing_length (v ∷ vs) are = omega (arith, length-append (value_text v) (closing vs), value_text_length v are.0, closing_length vs are.1)

arguments_length : (vs : List Value) → AreValues vs → length (arguments vs) ≤ 2 + 23 * length vs
arguments_length [] are = omega arith
arguments_length (v ∷ vs) are = omega (arith, length-append (value_text v) (closing vs), value_text_length v are.0, closing_length vs are.1)

two_numbers : (a b : ℕ) → a < 2 ^ 64 → b < 2 ^ 64 → length (number a ++ number b) ≤ 42
two_numbers a b p q = omega (arith, length-append (number a) (number b), number_length a p, number_length b q)

one_before : (a k : ℕ) (text : List ℕ) → a < 2 ^ 64 → length text ≤ k → length (number a ++ text) ≤ 21 + k
one_before a k text p few = omega (arith, length-append (number a) text, number_length a p, few)

call_length : (names : List (List ℕ)) (most m : ℕ) (args : List Value) → AreNamesWithin names most → m < length names → length args ≤ MOST_ARGUMENTS → AreValues args → length (call names m args) ≤ 371 + most
call_length names most m args within lt few are =
    omega (arith, length-append (slice_index_or names m []) (arguments args), within m lt, arguments_length args are, few)

module _ (names : List (List ℕ)) (most : ℕ) (within : AreNamesWithin names most) where
  fields_length : (e : Entry) → Fits names e → length (fields names e) ≤ 413 + most
  fields_length (End s) f = omega (arith, number_length s f)
  fields_length (Fork s a b) f = omega (arith, one_before s 42 (number a ++ number b) f.0 (two_numbers a b f.1.0 f.1.1))
  fields_length (Seq s a) f = omega (arith, two_numbers s a f.0 f.1)
  fields_length (Other s a) f = omega (arith, two_numbers s a f.0 f.1)
  fields_length (Def s a) f = omega (arith, two_numbers s a f.0 f.1)
  fields_length (Void s) f = omega (arith, number_length s f)
  fields_length (Open s c a b) f = omega (arith, one_before s 63 (number c ++ (number a ++ number b)) f.0 (one_before c 42 (number a ++ number b) f.1.0 (two_numbers a b f.1.1.0 f.1.1.1)))
  fields_length (Send s a v) f = omega (arith, one_before s 43 (number a ++ value v) f.0 (one_before a 22 (value v) f.1.0 (value_length v f.1.1)))
  fields_length (Call s k m args) f = omega (arith, one_before s (392 + most) (number k ++ call names m args) f.0 (omega (arith, one_before k (371 + most) (call names m args) f.1.0 (call_length names most m args within f.1.1.0 f.1.1.1 f.1.1.2))))
  fields_length (Return k a v) f = omega (arith, one_before k 43 (number a ++ value v) f.0 (one_before a 22 (value v) f.1.0 (value_length v f.1.1)))
  fields_length (ReturnHalt k) f = omega (arith, one_before k 5 (codes " halt") f (omega arith))
  fields_length (Bind s c v) f = omega (arith, one_before s 43 (number c ++ value v) f.0 (one_before c 22 (value v) f.1.0 (value_length v f.1.1)))
  fields_length (Lost c) f = omega (arith, number_length c f)
  fields_length (Right s a) f = omega (arith, two_numbers s a f.0 f.1)
  fields_length (Publish s v) f = omega (arith, one_before s 22 (value v) f.0 (value_length v f.1))
  fields_length (Tick t) f = omega (arith, number_length t f)
  fields_length (Cancel k) f = omega (arith, number_length k f)

  word_length : (k : Kind) → length (word_of k) ≤ 7
  word_length kinds.End = omega arith
  word_length kinds.Fork = omega arith
  word_length kinds.Seq = omega arith
  word_length kinds.Other = omega arith
  word_length kinds.Def = omega arith
  word_length kinds.Void = omega arith
  word_length kinds.Open = omega arith
  word_length kinds.Send = omega arith
  word_length kinds.Call = omega arith
  word_length kinds.Return = omega arith
  word_length kinds.ReturnHalt = omega arith
  word_length kinds.Bind = omega arith
  word_length kinds.Lost = omega arith
  word_length kinds.Right = omega arith
  word_length kinds.Publish = omega arith
  word_length kinds.Tick = omega arith
  word_length kinds.Cancel = omega arith

  pub line_length : (e : Entry) → Fits names e → length (line names e) ≤ 421 + most
  line_length e f = omega (arith, length-append (word e) (fields names e ++ codes "\n"), length-append (fields names e) (codes "\n"), fields_length e f, word_length (kind_of e))

-- ---- a longer text

-- what stands in front of a text stands in front of as many of its bytes
pub front_of : (a b rest more : List ℕ) → length a ≤ length rest → rest ++ more ≡ a ++ b → rest ≡ a ++ drop (length a) rest
front_of [] b rest more few same = refl
front_of (x ∷ a) b [] more few same = absurd (omega (arith, few))
front_of (x ∷ a) b (r ∷ rest) more few same =
    let first : r ≡ x = cc in
    let others : rest ++ more ≡ a ++ b = cc in
    let here = front_of a b rest more (omega (arith, few)) others in
    cc

-- where none is longer than the bytes, no line stands first in a longer text either
pub no_line_with : (names : List (List ℕ)) (v : Version) (rest more : List ℕ) → ((e : Entry) → Fits names e → length (line names e) ≤ length rest) → NoLine names v rest → NoLine names v (rest ++ more)
no_line_with names v rest more longest none e behind fits known same = none e (drop (length (line names e)) rest) fits known (front_of (line names e) behind rest more (longest e fits) same)
