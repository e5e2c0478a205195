-- How a program is printed.
use Rattle.std.specs.Prelude.{ℕ, List, [], ◌∷◌, ◌++◌, Bool, true, false, nat_lt, Some, None, codes}
use Rattle.std.specs.Fmt.{signed_decimal}
use Rattle.orc_lex.specs.declared.token.Plain.{Plain}
use Rattle.orc_lex.specs.declared.token.Plain.TheVariants.{Number, Truth, Signal, Stop}
use Rattle.orc_syntax.specs.Tree.{Label, Link, Seq, Par, Prune, Other, Tree, Leaf, Variable, Call, Operation, Val, Trees, Nil, Cons, Define, Source}
use Rattle.orc_syntax.specs.Grammar.{level, left_level, right_level}

-- a literal or `stop`
abbrev pub plain_text : Plain → List ℕ
plain_text (Number z) = signed_decimal z
plain_text (Truth true) = codes "true"
plain_text (Truth false) = codes "false"
plain_text Signal = codes "signal"
plain_text Stop = codes "stop"

-- an operator with a space on each side
abbrev pub sign : Link → List ℕ
sign Other = codes " ; "
sign Par = codes " | "
sign (Seq None) = codes " >> "
sign (Seq (Some x)) = codes " >" ++ (x.text ++ codes "> ")
sign (Prune None) = codes " << "
sign (Prune (Some x)) = codes " <" ++ (x.text ++ codes "< ")

-- in brackets, where something tighter is wanted
abbrev pub bracketed : Bool → List ℕ → List ℕ
bracketed true text = codes "(" ++ (text ++ codes ")")
bracketed false text = text

-- an expression where one of this level is wanted
abbrev mutual
  pub text : ℕ → Tree → List ℕ
  text n (Leaf p span) = plain_text p
  text n (Variable x) = x.text
  text n (Call x ts span) = x.text ++ (codes "(" ++ (arguments ts ++ codes ")"))
  text n (Operation link f g span) = bracketed (nat_lt (level link) n) (text (left_level link) f ++ (sign link ++ text (right_level link) g))
  text n (Val x g f span) = bracketed (nat_lt 0 n) (codes "val " ++ (x.text ++ (codes " = (" ++ (text 0 g ++ (codes ") " ++ text 0 f)))))

  pub arguments : Trees → List ℕ
  arguments Nil = []
  arguments (Cons t ts) = text 0 t ++ others ts

  -- arguments behind the first one
  pub others : Trees → List ℕ
  others Nil = []
  others (Cons t ts) = codes ", " ++ (text 0 t ++ others ts)

abbrev pub other_names : List Label → List ℕ
other_names [] = []
other_names (x ∷ xs) = codes ", " ++ (x.text ++ other_names xs)

-- names with commas between them
abbrev pub names : List Label → List ℕ
names [] = []
names (x ∷ xs) = x.text ++ other_names xs

-- a definition's line
abbrev pub definition : Define → List ℕ
definition d = codes "def " ++ (d.name.text ++ (codes "(" ++ (names d.parameters ++ (codes ") = (" ++ (text 0 d.body ++ codes ")\n")))))

abbrev pub definitions : List Define → List ℕ
definitions [] = []
definitions (d ∷ ds) = definition d ++ definitions ds

-- the definitions, and the main expression in a line
abbrev pub printed : Source → List ℕ
printed s = definitions s.definitions ++ (text 0 s.main ++ codes "\n")
