-- The tokens of a test: those of a script, `|` and `..`.
use Rattle.std.specs.Prelude.{ℕ, zero, suc, Bool, true, false, not, ◌&&◌, ◌==◌, List, [], ◌∷◌, length, Option, Some, None, option_map, if◌then◌else◌}
use Rattle.orc_rules.specs.declared.value.Value.{Value}
use Rattle.orc_rules.specs.declared.value.Answer.{Answer}
use Rattle.orc_site.specs.Script.{Token as ScriptToken, name, left, right, comma, equals, is_reserved}
use Rattle.orc_site.specs.Reading.{after_blanks, is_end, then_read, pattern_of, answer_of, delay_of}
use Rattle.orc_site.specs.Reading.{token_at as script_token_at, is_word as is_script_word}

-- a token of a script, or one of the two that only tests have
pub data Token : Type 0 where
  plain : ScriptToken → Token
  bar : Token
  dots : Token

-- the second of two dots
abbrev pub dots_behind : List ℕ → Option (Token × List ℕ)
dots_behind [] = None
dots_behind (c ∷ rest) = if c == 46 then Some (dots, rest) else None

abbrev pub as_plain : ScriptToken × List ℕ → Token × List ℕ
as_plain x = (plain x.0, x.1)

-- the token that stands first, the longest one, and the bytes behind it
unfoldable pub token_at : List ℕ → Option (Token × List ℕ)
token_at [] = None
token_at (c ∷ rest) =
    if c == 124 then Some (bar, rest)
    else if c == 46 then dots_behind rest
    else option_map as_plain (script_token_at (c ∷ rest))

-- the tokens that stand here up to a comment or the end, at most so many, with blanks between them
abbrev pub cut_by : ℕ → List ℕ → Option (List Token)
cut_by zero here = if is_end here then Some [] else None
cut_by (suc n) here = if is_end here then Some [] else then_read (token_at here) (λ x. option_map (λ ts. x.0 ∷ ts) (cut_by n (after_blanks x.1)))

-- the tokens of a line, each of which has a byte at least
unfoldable pub cut : List ℕ → Option (List Token)
cut line = cut_by (length line) (after_blanks line)

-- ---- what one token is

-- the token is this word
abbrev pub is_word : List ℕ → Token → Bool
is_word w (plain t) = is_script_word w t
is_word w _ = false

abbrev pub is_left : Token → Bool
is_left (plain left) = true
is_left _ = false

abbrev pub is_right : Token → Bool
is_right (plain right) = true
is_right _ = false

abbrev pub is_bar : Token → Bool
is_bar bar = true
is_bar _ = false

abbrev pub is_dots : Token → Bool
is_dots dots = true
is_dots _ = false

-- whether a sign behind an item ends the list: a `)` does, a comma doesn't
abbrev pub ends_items : Token → Option Bool
ends_items (plain right) = Some true
ends_items (plain comma) = Some false
ends_items _ = None

abbrev pub is_equals : Token → Bool
is_equals (plain equals) = true
is_equals _ = false

-- whether a bracket stands first
abbrev pub opens : List Token → Bool
opens [] = false
opens (t ∷ ts) = is_left t

-- a number without a sign: of units of time, or how many
abbrev pub number_of : Token → Option ℕ
number_of (plain t) = delay_of t
number_of _ = None

-- the pattern that a token is: Some None is `_`
abbrev pub pattern_in : Token → Option (Option Value)
pattern_in (plain t) = pattern_of t
pattern_in _ = None

-- the answer that a token is
abbrev pub answer_in : Token → Option Answer
answer_in (plain t) = answer_of t
answer_in _ = None

-- a name that isn't reserved
abbrev pub unless_reserved : List ℕ → Option (List ℕ)
unless_reserved n = if is_reserved n then None else Some n

-- the name of a site
abbrev pub site_in : Token → Option (List ℕ)
site_in (plain (name n)) = unless_reserved n
site_in _ = None

-- any name
abbrev pub name_in : Token → Option (List ℕ)
name_in (plain (name n)) = Some n
name_in _ = None

-- ---- what stands first

-- what is behind this word, where it stands first
abbrev pub behind_word : List ℕ → List Token → Option (List Token)
behind_word w [] = None
behind_word w (t ∷ ts) = if is_word w t then Some ts else None

-- the number that stands first, and what is behind it
abbrev pub number_at : List Token → Option (ℕ × List Token)
number_at [] = None
number_at (t ∷ ts) = option_map (λ n. (n, ts)) (number_of t)

-- whether the word stands first, as a word and not as the name of a site that is called
abbrev pub begins : List ℕ → List Token → Bool
begins w [] = false
begins w (t ∷ ts) = is_word w t && not (opens ts)

-- items by these steps up to the last one, one to n
unfoldable pub many : {A : Type 0} → (List Token → Option (A × Bool × List Token)) → ℕ → List Token → Option (List A × List Token)
many step zero ts = None
many step (suc n) ts = then_read (step ts) (λ x. if x.1 then Some (x.0 ∷ [], x.2) else option_map (λ y. (x.0 ∷ y.0, y.1)) (many step n x.2))
