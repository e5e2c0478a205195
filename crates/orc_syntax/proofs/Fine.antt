-- The names and numbers of a program that a text spells can be written.
use Rattle.std.proofs.Common.{ℕ, List, [], ◌∷◌, ◌++◌, Some, sym, subst}
use Rattle.orc_lex.specs.declared.token.Joint.TheVariants as joints
use Rattle.orc_lex.specs.declared.token.Side.TheVariants as sides
use Rattle.orc_lex.specs.Tokens.{Close, Comma, Assign, Lexeme, token}
use Rattle.orc_lex.specs.Lexing.{Cut}
use Rattle.orc_syntax.specs.Tree as trees
use Rattle.orc_syntax.specs.Tree.{Label, Link, Seq, Par, Prune, Other, Tree, Leaf, Variable, Call, Operation, Trees, Nil, Cons, Define, Source}
use Rattle.orc_syntax.specs.Grammar.{Single, Double, Writing, plain, name, call, brackets, operation, binding, Writings, nothing, last, more, Parameter, Parameters, without, given, Program, main, define, Sign as Signs, sign_tokens, head_tokens, tokens, tokens_of_all, other_tokens, parameter_tokens, program_tokens, link, tree, trees_of, names_of, labels_of, source, Spells}
use Rattle.orc_lex.proofs.Names.{IsName, FinePlain, AreGood, good_cut}

good_left : (ts us : List Lexeme) → AreGood (ts ++ us) → AreGood ts
good_left [] us h = tt
good_left (t ∷ ts) us h = (h.0, good_left ts us h.1)

good_right : (ts us : List Lexeme) → AreGood (ts ++ us) → AreGood us
good_right [] us h = h
good_right (t ∷ ts) us h = good_right ts us h.1

-- the names and numbers of a program are such as can be written
abbrev pub FineLink : Link → Type 0
FineLink (Seq (Some x)) = IsName x.text
FineLink (Prune (Some x)) = IsName x.text
FineLink _ = Unit {0}

abbrev mutual
  pub Fine : Tree → Type 0
  Fine (Leaf p span) = FinePlain p
  Fine (Variable x) = IsName x.text
  Fine (Call x ts span) = IsName x.text × AreFine ts
  Fine (Operation link f g span) = FineLink link × Fine f × Fine g
  Fine (trees.Val x g f span) = IsName x.text × Fine g × Fine f

  pub AreFine : Trees → Type 0
  AreFine Nil = Unit {0}
  AreFine (Cons t ts) = Fine t × AreFine ts

abbrev pub FineNames : List Label → Type 0
FineNames [] = Unit {0}
FineNames (x ∷ xs) = IsName x.text × FineNames xs

abbrev pub FineDefine : Define → Type 0
FineDefine d = IsName d.name.text × FineNames d.parameters × Fine d.body

abbrev pub FineDefines : List Define → Type 0
FineDefines [] = Unit {0}
FineDefines (d ∷ ds) = FineDefine d × FineDefines ds

abbrev pub FineSource : Source → Type 0
FineSource s = FineDefines s.definitions × Fine s.main

fine_sign : (s : Signs) → AreGood (sign_tokens s) → FineLink (link s)
fine_sign (Single joints.Seq at) h = tt
fine_sign (Single joints.Par at) h = tt
fine_sign (Single joints.Prune at) h = tt
fine_sign (Single joints.Other at) h = tt
fine_sign (Double sides.Right first x second) h = h.1.0
fine_sign (Double sides.Left first x second) h = h.1.0

mutual
  fine : (w : Writing) → AreGood (tokens w) → Fine (tree w)
  fine (plain p at) h = h.0
  fine (name x) h = h.0
  fine (call x opening ws closing) h = (h.0, all_fine ws (good_left (tokens_of_all ws) (token Close closing ∷ []) h.1.1))
  fine (brackets opening w closing) h = fine w (good_left (tokens w) (token Close closing ∷ []) h.1)
  fine (operation sign left right) h =
      let behind = good_right (tokens left) (sign_tokens sign ++ tokens right) h in
      (fine_sign sign (good_left (sign_tokens sign) (tokens right) behind), fine left (good_left (tokens left) (sign_tokens sign ++ tokens right) h), fine right (good_right (sign_tokens sign) (tokens right) behind))
  fine (binding keyword x equals bound body) h =
      (h.1.0, fine bound (good_left (tokens bound) (tokens body) h.1.1.1), fine body (good_right (tokens bound) (tokens body) h.1.1.1))

  all_fine : (ws : Writings) → AreGood (tokens_of_all ws) → AreFine (trees_of ws)
  all_fine nothing h = tt
  all_fine (last w) h = (fine w h, tt)
  all_fine (more w comma ws) h =
      let behind = good_right (tokens w) (token Comma comma ∷ tokens_of_all ws) h in
      (fine w (good_left (tokens w) (token Comma comma ∷ tokens_of_all ws) h), all_fine ws behind.1)

fine_names : (ps : List Parameter) → AreGood (other_tokens ps) → FineNames (names_of ps)
fine_names [] h = tt
fine_names (p ∷ ps) h = (h.1.0, fine_names ps h.1.1)

fine_labels : (ps : Parameters) → AreGood (parameter_tokens ps) → FineNames (labels_of ps)
fine_labels without h = tt
fine_labels (given first others) h = (h.0, fine_names others h.1)

fine_program : (p : Program) → AreGood (program_tokens p) → FineSource (source p)
fine_program (main w) h = (tt, fine w h)
fine_program (define head body rest) h =
    let behind = good_right (head_tokens head) (tokens body ++ program_tokens rest) h in
    let front = good_left (head_tokens head) (tokens body ++ program_tokens rest) h in
    let names = good_left (parameter_tokens head.parameters) (token Close head.closing ∷ token Assign head.equals ∷ []) front.1.1.1 in
    let others = fine_program rest (good_right (tokens body) (program_tokens rest) behind) in
    (((front.1.0, fine_labels head.parameters names, fine body (good_left (tokens body) (program_tokens rest) behind)), others.0), others.1)

-- what a text spells has such names and numbers
pub fine_spelled : (src : List ℕ) (ts : List Lexeme) (to : ℕ) (s : Source) → Cut src ts to → Spells ts s → FineSource s
fine_spelled src ts to s cut spells = subst FineSource spells.3 (fine_program spells.0 (subst AreGood (sym spells.2) (good_cut src ts to cut)))
