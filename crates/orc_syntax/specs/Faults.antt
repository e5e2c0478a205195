-- The code and the place of each fault of a text, and its status.
use Rattle.std.specs.Prelude.{ℕ, List, ◌++◌, codes, decimal}
use Rattle.orc_lex.specs.Words.{what_word}
use Rattle.orc_syntax.specs.declared.fault.SyntaxFault.{SyntaxFault}
use Rattle.orc_syntax.specs.declared.fault.SyntaxFault.TheVariants as syntax_fault

-- a code with a place in bytes
abbrev pub at_place : List ℕ → ℕ → List ℕ
at_place code place = code ++ (codes " at " ++ decimal place)

abbrev pub syntax_line : SyntaxFault → List ℕ
syntax_line (syntax_fault.Encoding at) = at_place (codes "S1") at
syntax_line (syntax_fault.Character at) = at_place (codes "S2") at
syntax_line (syntax_fault.Number span) = at_place (codes "S3") span.start
syntax_line (syntax_fault.Expected at what) = at_place (codes "S4") at ++ (codes ": " ++ what_word what)
syntax_line (syntax_fault.Deep at) = at_place (codes "S5") at
syntax_line syntax_fault.Long = codes "S6"
syntax_line (syntax_fault.Comment at) = at_place (codes "S7") at
syntax_line syntax_fault.Memory = codes "S8"

-- 5 where memory was refused, else 1
abbrev pub syntax_status : SyntaxFault → ℕ
syntax_status syntax_fault.Memory = 5
syntax_status f = 1
