-- Reading a journal from left to right: what stands first, and the bytes after it.
use Rattle.std.specs.Prelude.{ℕ, zero, suc, ◌-◌, ◌^◌, List, [], ◌∷◌, Bool, true, false, not, ◌&&◌, ◌==◌, nat_lt, if◌then◌else◌, Option, Some, None, option_map, codes, pos, negsuc}
use Rattle.std.specs.Char.{is_ascii_digit}
use Rattle.orc_rules.specs.Digits.{digits_at}
use Rattle.orc_rules.specs.declared.value.Value.{Value}
use Rattle.orc_rules.specs.declared.value.Value.TheVariants.{Number, Truth, Signal}
use Rattle.orc_rules.specs.declared.entry.Entry.{Entry}
use Rattle.orc_rules.specs.declared.entry.Entry.TheVariants.{End, Fork, Seq, Other, Def, Void, Open, Send, Call, Return, ReturnHalt, Bind, Lost, Right, Publish, Tick, Cancel}
use Rattle.orc_journal.specs.declared.journal.Version.{Version}
use Rattle.orc_journal.specs.declared.journal.Version.TheVariants as versions
use Rattle.orc_journal_text.specs.Texts.{header}
use Rattle.orc_rules.specs.Kinds.{word_of}
use Rattle.orc_rules.specs.declared.kind.Kind.{Kind}
use Rattle.orc_rules.specs.declared.kind.Kind.TheVariants as kinds
use Rattle.orc_rules.specs.declared.limits.TheConstants.{MOST_ARGUMENTS}
use Rattle.orc_rules.specs.Sites.{site_named}

-- a reading that goes on with what the one before it gave, if that gave something
infixl 10 ◌>>=◌
abbrev pub ◌>>=◌ : {A B : Type 0} → Option A → (A → Option B) → Option B
(Some x) >>= f = f x
None >>= f = None

-- the first of two readings that gives something
abbrev pub or_else : {A : Type 0} → Option A → Option A → Option A
or_else (Some x) other = Some x
or_else None other = other

-- two readings, one after the other: the pair of what they give
abbrev pub both : {A B : Type 0} → (List ℕ → Option (A × List ℕ)) → (List ℕ → Option (B × List ℕ)) → List ℕ → Option ((A × B) × List ℕ)
both first second bytes = do
  x ← first bytes
  y ← second x.1
  Some ((x.0, y.0), y.1)

-- a reading, with f applied to what it gives
abbrev pub made : {A B : Type 0} → (A → B) → (List ℕ → Option (A × List ℕ)) → List ℕ → Option (B × List ℕ)
made f read bytes = option_map (λ x. (f x.0, x.1)) (read bytes)

-- the bytes after a text
abbrev pub after : List ℕ → List ℕ → Option (List ℕ)
after [] bytes = Some bytes
after (c ∷ cs) [] = None
after (c ∷ cs) (b ∷ bytes) = if b == c then after cs bytes else None

-- a digit stands first, and no second one after a zero
abbrev pub is_plain : List ℕ → Bool
is_plain [] = false
is_plain (c ∷ []) = is_ascii_digit c
is_plain (c ∷ d ∷ rest) = is_ascii_digit c && not (c == 48 && is_ascii_digit d)

-- a decimal number without leading zeros that fits 64 bits
unfoldable pub number_at : List ℕ → Option (ℕ × List ℕ)
number_at bytes = if is_plain bytes then digits_at bytes else None

-- the number with these digits, if it fits 64 signed bits
abbrev pub positive : ℕ × List ℕ → Option (Value × List ℕ)
positive x = if nat_lt x.0 (2 ^ 63) then Some (Number (pos x.0), x.1) else None

-- minus the number with these digits, if that fits 64 signed bits and isn't `-0`
abbrev pub negative : ℕ × List ℕ → Option (Value × List ℕ)
negative x = if nat_lt 0 x.0 && nat_lt (x.0 - 1) (2 ^ 63) then Some (Number (negsuc (x.0 - 1)), x.1) else None

-- a number with its sign; the second argument has the bytes after a `-`, if one is there
abbrev pub signed_from : List ℕ → Option (List ℕ) → Option (Value × List ℕ)
signed_from bytes (Some rest) = number_at rest >>= negative
signed_from bytes None = number_at bytes >>= positive

-- this value, if its word was there
abbrev pub constant : Value → Option (List ℕ) → Option (Value × List ℕ)
constant v rest = option_map (λ r. (v, r)) rest

-- the text of a value
unfoldable pub value_at : List ℕ → Option (Value × List ℕ)
value_at bytes = or_else (constant (Truth true) (after (codes "true") bytes))
    (or_else (constant (Truth false) (after (codes "false") bytes))
    (or_else (constant Signal (after (codes "signal") bytes))
    (signed_from bytes (after (codes "-") bytes))))

-- each field of a line is a space and what the field holds: here a number, below other things
unfoldable pub number_field : List ℕ → Option (ℕ × List ℕ)
number_field bytes = after (codes " ") bytes >>= number_at

unfoldable pub value_field : List ℕ → Option (Value × List ℕ)
value_field bytes = after (codes " ") bytes >>= value_at

unfoldable pub pair_field : List ℕ → Option ((ℕ × ℕ) × List ℕ)
pair_field bytes = both number_field number_field bytes

unfoldable pub sent_field : List ℕ → Option ((ℕ × Value) × List ℕ)
sent_field bytes = both number_field value_field bytes

-- ` halt`, or a mark and a value
unfoldable pub outcome_field : List ℕ → Option (Option (ℕ × Value) × List ℕ)
outcome_field bytes = or_else (option_map (λ r. (None, r)) (after (codes " halt") bytes)) (made Some sent_field bytes)

-- the bytes before the first bracket, and the others
abbrev pub split_name : List ℕ → List ℕ × List ℕ
split_name [] = ([], [])
split_name (c ∷ cs) = if c == 40 then ([], c ∷ cs) else (c ∷ (split_name cs).0, (split_name cs).1)

-- a site's number by its name
unfoldable pub name_at : List (List ℕ) → List ℕ → Option (ℕ × List ℕ)
name_at names bytes = option_map (λ s. (s, (split_name bytes).1)) (site_named names (split_name bytes).0)

-- one to n values with commas between them, and the bracket
abbrev pub values_at : ℕ → List ℕ → Option (List Value × List ℕ)
values_at zero bytes = None
values_at (suc n) bytes = do
  v ← value_at bytes
  or_else (option_map (λ r. (v.0 ∷ [], r)) (after (codes ")") v.1)) (do
    r ← after (codes ", ") v.1
    vs ← values_at n r
    Some (v.0 ∷ vs.0, vs.1))

-- the arguments of a call, in brackets
unfoldable pub arguments_at : List ℕ → Option (List Value × List ℕ)
arguments_at bytes = do
  r ← after (codes "(") bytes
  or_else (option_map (λ r. ([], r)) (after (codes ")") r)) (values_at MOST_ARGUMENTS r)

-- a space, the name of a site and the arguments: the site's number and the values
unfoldable pub call_field : List (List ℕ) → List ℕ → Option ((ℕ × List Value) × List ℕ)
call_field names bytes = do
  r ← after (codes " ") bytes
  s ← name_at names r
  vs ← arguments_at s.1
  Some ((s.0, vs.0), vs.1)

-- all kinds but one, in the order in which their words are tried; a line that begins with `return` is read as Return, whether it halts or not
abbrev pub all_kinds : List Kind
all_kinds = kinds.Call ∷ kinds.Return ∷ kinds.Send ∷ kinds.Fork ∷ kinds.Publish ∷ kinds.Seq ∷ kinds.End ∷ kinds.Open ∷ kinds.Bind ∷ kinds.Def ∷ kinds.Void ∷ kinds.Other ∷ kinds.Lost ∷ kinds.Right ∷ kinds.Tick ∷ kinds.Cancel ∷ []

-- the first of these kinds whose word is at the front
abbrev pub kind_from : List Kind → List ℕ → Option (Kind × List ℕ)
kind_from [] bytes = None
kind_from (k ∷ ks) bytes = or_else (option_map (λ r. (k, r)) (after (word_of k) bytes)) (kind_from ks bytes)

-- the entry of a `return` of call k, by the outcome that its line has
abbrev pub returned : ℕ → Option (ℕ × Value) → Entry
returned k None = ReturnHalt k
returned k (Some x) = Return k x.0 x.1

-- the fields of a line of this kind
unfoldable pub fields_at : List (List ℕ) → Kind → List ℕ → Option (Entry × List ℕ)
fields_at names kinds.End bytes = made (λ x. End x) number_field bytes
fields_at names kinds.Fork bytes = made (λ x. Fork x.0 x.1.0 x.1.1) (both number_field pair_field) bytes
fields_at names kinds.Seq bytes = made (λ x. Seq x.0 x.1) pair_field bytes
fields_at names kinds.Other bytes = made (λ x. Other x.0 x.1) pair_field bytes
fields_at names kinds.Def bytes = made (λ x. Def x.0 x.1) pair_field bytes
fields_at names kinds.Void bytes = made (λ x. Void x) number_field bytes
fields_at names kinds.Open bytes = made (λ x. Open x.0 x.1.0 x.1.1.0 x.1.1.1) (both number_field (both number_field pair_field)) bytes
fields_at names kinds.Send bytes = made (λ x. Send x.0 x.1.0 x.1.1) (both number_field sent_field) bytes
fields_at names kinds.Call bytes = made (λ x. Call x.0 x.1.0 x.1.1.0 x.1.1.1) (both number_field (both number_field (call_field names))) bytes
fields_at names kinds.Return bytes = made (λ x. returned x.0 x.1) (both number_field outcome_field) bytes
fields_at names kinds.ReturnHalt bytes = made (λ x. returned x.0 x.1) (both number_field outcome_field) bytes
fields_at names kinds.Bind bytes = made (λ x. Bind x.0 x.1.0 x.1.1) (both number_field sent_field) bytes
fields_at names kinds.Lost bytes = made (λ x. Lost x) number_field bytes
fields_at names kinds.Right bytes = made (λ x. Right x.0 x.1) pair_field bytes
fields_at names kinds.Publish bytes = made (λ x. Publish x.0 x.1) sent_field bytes
fields_at names kinds.Tick bytes = made (λ x. Tick x) number_field bytes
fields_at names kinds.Cancel bytes = made (λ x. Cancel x) number_field bytes

-- the entry whose line stands first
unfoldable pub entry_at : List (List ℕ) → List ℕ → Option (Entry × List ℕ)
entry_at names bytes = do
  k ← kind_from all_kinds bytes
  e ← fields_at names k.0 k.1
  r ← after (codes "\n") e.1
  Some (e.0, r)

-- the version of the first line, and what follows it
abbrev pub header_at : List ℕ → Option (Version × List ℕ)
header_at bytes = or_else (option_map (λ r. (versions.One, r)) (after (header versions.One) bytes)) (option_map (λ r. (versions.Two, r)) (after (header versions.Two) bytes))
