-- A name as a word of a command for a shell.
use Rattle.std.specs.Prelude.{ℕ, List, [], ◌∷◌, ◌++◌, Bool, true, ◌&&◌, ◌||◌, ◌==◌, codes, cond, nat_eq, nat_le}
use Rattle.std.specs.Char.{is_ascii_alphanumeric}
use Rattle.std.specs.List.{list_all}

-- a byte that means itself to a shell: of a letter, a digit or another character above ASCII, or one of `-`, `.`, `/` and `_`
abbrev pub is_plain : ℕ → Bool
is_plain b = is_ascii_alphanumeric b || (nat_le 45 b && nat_le b 47) || (b == 95) || nat_le 128 b

-- the inside of a word in quotes: in place of an apostrophe the quotes end, an apostrophe stands behind a backslash, and they begin again
abbrev pub escaped : List ℕ → List ℕ
escaped [] = []
escaped (b ∷ bs) = cond (nat_eq b 39) (codes "'\\''" ++ escaped bs) (b ∷ escaped bs)

-- the name as one word: as it stands where a shell takes it so, else in quotes
abbrev pub word_of : List ℕ → List ℕ
word_of name = cond (list_all is_plain name) name (codes "'" ++ (escaped name ++ codes "'"))
