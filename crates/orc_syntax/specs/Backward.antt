-- Printing from the end: the nodes of a tree from the last to the first.
use Rattle.std.specs.Prelude.{ℕ, zero, suc, List, [], ◌∷◌, ◌++◌, Bool, true, false, nat_lt, Option, Some, None, codes, map, reverse}
use Rattle.std.specs.Fmt.{signed_decimal}
use Rattle.orc_syntax.specs.declared.printer.Task as code
use Rattle.orc_syntax.specs.declared.printer.Task.TheVariants as tasks
use Rattle.orc_syntax.specs.declared.printer.Piece.{Piece}
use Rattle.orc_syntax.specs.declared.printer.Piece.TheVariants as pieces
use Rattle.orc_syntax.specs.Tree.{Link, Seq, Par, Prune, Other, Sort, leaf, variable, call, operation, val, Item}
use Rattle.orc_syntax.specs.Printing.{plain_text}
use Rattle.orc_syntax.specs.Grammar.{level, left_level, right_level}

-- what is still to be printed, from right to left: an expression where this level is wanted, or a text
pub data Task : Type 0 where
  visit : ℕ → Task
  say : List ℕ → Task

-- the arguments of a call behind the first one, the last one first
abbrev pub more : ℕ → List Task → List Task
more zero ts = ts
more (suc n) ts = visit 0 ∷ say (codes ", ") ∷ more n ts

-- all arguments of a call, the last one first
abbrev pub given : ℕ → List Task → List Task
given zero ts = ts
given (suc n) ts = more n (visit 0 ∷ ts)

-- an opening bracket, and behind it a closing one
abbrev pub opening : Bool → List Task → List Task
opening true ts = say (codes "(") ∷ ts
opening false ts = ts

abbrev pub closing : Bool → List Task → List Task
closing true ts = say (codes ")") ∷ ts
closing false ts = ts

-- an operator, from right to left
abbrev pub signs : Link → List Task → List Task
signs Other ts = say (codes " ; ") ∷ ts
signs Par ts = say (codes " | ") ∷ ts
signs (Seq None) ts = say (codes " >> ") ∷ ts
signs (Seq (Some x)) ts = say (codes "> ") ∷ say x.text ∷ say (codes " >") ∷ ts
signs (Prune None) ts = say (codes " << ") ∷ ts
signs (Prune (Some x)) ts = say (codes "< ") ∷ say x.text ∷ say (codes " <") ∷ ts

-- the sides of an operator, and of `val x = G F`
abbrev pub operated : Link → List Task → List Task
operated link ts = visit (right_level link) ∷ signs link (visit (left_level link) ∷ ts)

abbrev pub valued : List ℕ → List Task → List Task
valued x ts = visit 0 ∷ say (codes ") ") ∷ visit 0 ∷ say (codes " = (") ∷ say x ∷ say (codes "val ") ∷ ts

-- what a node leaves to be printed
abbrev pub parts : ℕ → Sort → List Task → List Task
parts n (leaf p) ts = say (plain_text p) ∷ ts
parts n (variable x) ts = say x.text ∷ ts
parts n (call x k) ts = say (codes ")") ∷ given k (say (codes "(") ∷ say x.text ∷ ts)
parts n (operation link) ts = let inner = nat_lt (level link) n in closing inner (operated link (opening inner ts))
parts n (val x) ts = let inner = nat_lt 0 n in closing inner (valued x.text (opening inner ts))

-- the texts before the first expression
abbrev pub says : List Task → List ℕ
says [] = []
says (visit n ∷ ts) = []
says (say t ∷ ts) = says ts ++ t

-- the tasks from the first expression on
abbrev pub visits : List Task → List Task
visits [] = []
visits (visit n ∷ ts) = visit n ∷ ts
visits (say t ∷ ts) = visits ts

-- the tasks once the next expression is known to be of this node
abbrev pub entered : List Task → Sort → List Task
entered [] s = []
entered (visit n ∷ ts) s = parts n s ts
entered (say t ∷ ts) s = []

-- what is printed, the nodes from the last to the first
unfoldable pub back : List Task → List Item → List ℕ
back ts [] = says ts
back ts (i ∷ is) = back (entered (visits ts) i.sort) is ++ says ts

-- what the code's values stand for

abbrev pub piece_text : Piece → List ℕ
piece_text (pieces.Text t) = t.now
piece_text (pieces.Number z) = signed_decimal z

abbrev pub task : code.Task → Task
task (tasks.Visit n) = visit n
task (tasks.Say p) = say (piece_text p)

-- the next one last
abbrev pub waiting : List code.Task → List Task
waiting ts = map task (reverse ts)

-- pieces that were said from right to left
unfoldable pub said : List Piece → List ℕ
said [] = []
said (p ∷ ps) = said ps ++ piece_text p

abbrev pub IfNext : (ℕ → Type 0) → Option ℕ → Type 0
IfNext p None = Unit {0}
IfNext p (Some n) = p n

abbrev pub OnNone : Type 0 → Option ℕ → Type 0
OnNone p None = p
OnNone p (Some n) = Unit {0}
