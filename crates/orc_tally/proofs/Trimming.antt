-- What is left of a text without the blanks round it.
use Rattle.std.proofs.Common.{◌≡◌, ℕ, List, drop, refl}
use Rattle.std.specs.Char.{is_ascii_whitespace}
use Rattle.std.specs.List.{prefix_len}
use Rattle.std.specs.Str.{IsTrimAscii}
use Rattle.std.proofs.lemmas.Str.Ascii.{trim_ascii_is}
use Rattle.orc_tally.specs.Table.{trimmed}

pub trims : (s r : List ℕ) → IsTrimAscii s r → r ≡ trimmed s
trims s r is = trim_ascii_is s r (drop (prefix_len is_ascii_whitespace s) s) refl is
