-- What is printed is ASCII.
use Rattle.std.proofs.Common.{◌≡◌, ℕ, ◌<◌, Bool, true, false, List, [], ◌∷◌, ◌++◌, length, slice_index, codes, nat_lt, IsAscii, IsUtf8, refl, arith}
use Rattle.std.specs.Prelude.{◌&&◌, Some, None}
use Rattle.std.proofs.lemmas.Bool.Decides.{nat_tests}
use Rattle.std.proofs.lemmas.Str.{IsAscii-append, IsUtf8-from_ascii}
use Rattle.std.proofs.lemmas.Str.Ascii.{IsAscii-nil, IsAscii-cons, IsAscii-from_reads}
use Rattle.itoa.proofs.Decimal.{IsAscii-signed_decimal}
use Rattle.orc_lex.specs.declared.token.Plain.{Plain}
use Rattle.orc_lex.specs.declared.token.Plain.TheVariants as plains
use Rattle.orc_lex.specs.Lexing.{is_part}
use Rattle.orc_syntax.specs.Tree.{Label, Link, Seq, Par, Prune, Other, Tree, Leaf, Variable, Call, Operation, Val, Trees, Nil, Cons, Define, Source}
use Rattle.orc_syntax.specs.Printing.{plain_text, sign, bracketed, text, arguments, others, other_names, names, definition, definitions, printed}
use Rattle.orc_syntax.specs.Grammar.{level, left_level, right_level}
use Rattle.orc_lex.proofs.Numbers.{split_and}
use Rattle.orc_lex.proofs.Names.{IsName, FinePlain}
use Rattle.orc_syntax.proofs.Fine.{FineLink, Fine, AreFine, FineNames, FineDefine, FineDefines, FineSource}

record Ascii (bs : List ℕ) : Type 0 where
  is : IsAscii bs

nothing : Ascii []
nothing = record { is = IsAscii-nil }

one_more : (b : ℕ) (bs : List ℕ) → b < 128 → Ascii bs → Ascii (b ∷ bs)
one_more b bs h a = record { is = IsAscii-cons b bs h a.is }

joined : (xs ys : List ℕ) → Ascii xs → Ascii ys → Ascii (xs ++ ys)
joined xs ys a b = record { is = IsAscii-append xs ys a.is b.is }

abbrev all_ascii : List ℕ → Bool
all_ascii [] = true
all_ascii (b ∷ bs) = nat_lt b 128 && all_ascii bs

below : (b : ℕ) → nat_lt b 128 ≡ true → b < 128
below b e = grind (arith, nat_tests)

literal : (bs : List ℕ) → all_ascii bs ≡ true → Ascii bs
literal [] e = nothing
literal (b ∷ bs) e = let h = split_and (nat_lt b 128) (all_ascii bs) e in one_more b bs (below b h.0) (literal bs h.1)

-- behind what is written out
behind : (bs ys : List ℕ) → all_ascii bs ≡ true → Ascii ys → Ascii (bs ++ ys)
behind bs ys e a = joined bs ys (literal bs e) a

part_ascii : (b : ℕ) → is_part b ≡ true → b < 128
part_ascii b e = grind (arith, nat_tests)

name_ascii : (x : List ℕ) → IsName x → Ascii x
name_ascii x h = record { is = IsAscii-from_reads x (length x) (omega arith) (λ k lt. part_ascii (slice_index x k) (h.is.parts k lt)) }

plain_ascii : (p : Plain) → FinePlain p → Ascii (plain_text p)
plain_ascii (plains.Number z) h = record { is = IsAscii-signed_decimal z h }
plain_ascii (plains.Truth true) h = literal (codes "true") refl
plain_ascii (plains.Truth false) h = literal (codes "false") refl
plain_ascii plains.Signal h = literal (codes "signal") refl
plain_ascii plains.Stop h = literal (codes "stop") refl

sign_ascii : (l : Link) → FineLink l → Ascii (sign l)
sign_ascii Other h = literal (codes " ; ") refl
sign_ascii Par h = literal (codes " | ") refl
sign_ascii (Seq None) h = literal (codes " >> ") refl
sign_ascii (Prune None) h = literal (codes " << ") refl
sign_ascii (Seq (Some x)) h = behind (codes " >") (x.text ++ codes "> ") refl (joined x.text (codes "> ") (name_ascii x.text h) (literal (codes "> ") refl))
sign_ascii (Prune (Some x)) h = behind (codes " <") (x.text ++ codes "< ") refl (joined x.text (codes "< ") (name_ascii x.text h) (literal (codes "< ") refl))

bracketed_ascii : (inner : Bool) (body : List ℕ) → Ascii body → Ascii (bracketed inner body)
bracketed_ascii false body a = a
bracketed_ascii true body a = behind (codes "(") (body ++ codes ")") refl (joined body (codes ")") a (literal (codes ")") refl))

call_ascii : (x ts : List ℕ) → Ascii x → Ascii ts → Ascii (x ++ (codes "(" ++ (ts ++ codes ")")))
call_ascii x ts a b = joined x (codes "(" ++ (ts ++ codes ")")) a (bracketed_ascii true ts b)

val_ascii : (x g f : List ℕ) → Ascii x → Ascii g → Ascii f → Ascii (codes "val " ++ (x ++ (codes " = (" ++ (g ++ (codes ") " ++ f)))))
val_ascii x g f a b c =
    behind (codes "val ") (x ++ (codes " = (" ++ (g ++ (codes ") " ++ f)))) refl
    (joined x (codes " = (" ++ (g ++ (codes ") " ++ f))) a (behind (codes " = (") (g ++ (codes ") " ++ f)) refl (joined g (codes ") " ++ f) b (behind (codes ") ") f refl c))))

operation_ascii : (f s g : List ℕ) → Ascii f → Ascii s → Ascii g → Ascii (f ++ (s ++ g))
operation_ascii f s g a b c = joined f (s ++ g) a (joined s g b c)

other_ascii : (t ts : List ℕ) → Ascii t → Ascii ts → Ascii (codes ", " ++ (t ++ ts))
other_ascii t ts a b = behind (codes ", ") (t ++ ts) refl (joined t ts a b)

mutual
  text_ascii : (t : Tree) → Fine t → (n : ℕ) → Ascii (text n t)
  text_ascii (Leaf p at) h n = plain_ascii p h
  text_ascii (Variable x) h n = name_ascii x.text h
  text_ascii (Call x ts at) h n = call_ascii x.text (arguments ts) (name_ascii x.text h.0) (arguments_ascii ts h.1)
  text_ascii (Operation l f g at) h n =
      bracketed_ascii (nat_lt (level l) n) (text (left_level l) f ++ (sign l ++ text (right_level l) g))
      (operation_ascii (text (left_level l) f) (sign l) (text (right_level l) g) (text_ascii f h.1 (left_level l)) (sign_ascii l h.0) (text_ascii g h.2 (right_level l)))
  text_ascii (Val x g f at) h n =
      bracketed_ascii (nat_lt 0 n) (codes "val " ++ (x.text ++ (codes " = (" ++ (text 0 g ++ (codes ") " ++ text 0 f)))))
      (val_ascii x.text (text 0 g) (text 0 f) (name_ascii x.text h.0) (text_ascii g h.1 0) (text_ascii f h.2 0))

  arguments_ascii : (ts : Trees) → AreFine ts → Ascii (arguments ts)
  arguments_ascii Nil h = nothing
  arguments_ascii (Cons t ts) h = joined (text 0 t) (others ts) (text_ascii t h.0 0) (others_ascii ts h.1)

  others_ascii : (ts : Trees) → AreFine ts → Ascii (others ts)
  others_ascii Nil h = nothing
  others_ascii (Cons t ts) h = other_ascii (text 0 t) (others ts) (text_ascii t h.0 0) (others_ascii ts h.1)

other_names_ascii : (xs : List Label) → FineNames xs → Ascii (other_names xs)
other_names_ascii [] h = nothing
other_names_ascii (x ∷ xs) h = other_ascii x.text (other_names xs) (name_ascii x.text h.0) (other_names_ascii xs h.1)

names_ascii : (xs : List Label) → FineNames xs → Ascii (names xs)
names_ascii [] h = nothing
names_ascii (x ∷ xs) h = joined x.text (other_names xs) (name_ascii x.text h.0) (other_names_ascii xs h.1)

line_ascii : (f xs t : List ℕ) → Ascii f → Ascii xs → Ascii t → Ascii (codes "def " ++ (f ++ (codes "(" ++ (xs ++ (codes ") = (" ++ (t ++ codes ")\n"))))))
line_ascii f xs t a b c =
    behind (codes "def ") (f ++ (codes "(" ++ (xs ++ (codes ") = (" ++ (t ++ codes ")\n"))))) refl
    (joined f (codes "(" ++ (xs ++ (codes ") = (" ++ (t ++ codes ")\n")))) a
    (behind (codes "(") (xs ++ (codes ") = (" ++ (t ++ codes ")\n"))) refl
    (joined xs (codes ") = (" ++ (t ++ codes ")\n")) b (behind (codes ") = (") (t ++ codes ")\n") refl (joined t (codes ")\n") c (literal (codes ")\n") refl))))))

definition_ascii : (d : Define) → FineDefine d → Ascii (definition d)
definition_ascii d h = line_ascii d.name.text (names d.parameters) (text 0 d.body) (name_ascii d.name.text h.0) (names_ascii d.parameters h.1) (text_ascii d.body h.2 0)

definitions_ascii : (ds : List Define) → FineDefines ds → Ascii (definitions ds)
definitions_ascii [] h = nothing
definitions_ascii (d ∷ ds) h = joined (definition d) (definitions ds) (definition_ascii d h.0) (definitions_ascii ds h.1)

whole_ascii : (ds t : List ℕ) → Ascii ds → Ascii t → Ascii (ds ++ (t ++ codes "\n"))
whole_ascii ds t a b = joined ds (t ++ codes "\n") a (joined t (codes "\n") b (literal (codes "\n") refl))

-- so it is UTF-8
pub printed_utf8 : (s : Source) → FineSource s → IsUtf8 (printed s)
printed_utf8 s h = let a = whole_ascii (definitions s.definitions) (text 0 s.main) (definitions_ascii s.definitions h.0) (text_ascii s.main h.1 0) in IsUtf8-from_ascii (printed s) a.is
