-- The word of what had to stand where a text can't go on.
use Rattle.std.specs.Prelude.{ℕ, List, codes}
use Rattle.orc_lex.specs.declared.token.What.{What}
use Rattle.orc_lex.specs.declared.token.What.TheVariants as what

abbrev pub what_word : What → List ℕ
what_word what.Expression = codes "Expression"
what_word what.Name = codes "Name"
what_word what.Paren = codes "Paren"
what_word what.Close = codes "Close"
what_word what.CommaOrClose = codes "CommaOrClose"
what_word what.Assign = codes "Assign"
what_word what.Arrow = codes "Arrow"
what_word what.End = codes "End"
