-- Printing the nodes of a tree from the last to the first gives its text.
use Rattle.std.proofs.Common.{◌≡◌, ℕ, zero, suc, ◌+◌, ◌-◌, ◌<◌, ◌≤◌, List, [], ◌∷◌, ◌++◌, reverse, map, take, length, get_or, drop, drop-cons, Bool, true, false, Some, None, refl, sym, ap, ◌∙◌, arith, nat_lt, codes}
use Rattle.std.proofs.lemmas.List.{map-append, take_more, reverse-append, append-nil, append_assoc, drop_all}
use Rattle.orc_syntax.specs.Tree.{Link, Seq, Par, Prune, Other, Tree, Leaf, Variable, Call, Operation, Val, Trees, Nil, Cons, Define, Item, item, leaf, variable, call, operation, val, post, posts, count}
use Rattle.orc_syntax.specs.Printing.{sign, bracketed, text, arguments, others, definition}
use Rattle.orc_syntax.specs.Grammar.{level, left_level, right_level}
use Rattle.orc_syntax.specs.Backward.{Task, visit, say, more, given, opening, closing, signs, operated, valued, parts, says, visits, entered, back, task, waiting, said, piece_text}
use Rattle.orc_syntax.specs.declared.printer.Task as code
use Rattle.orc_syntax.specs.declared.printer.Task.TheVariants as tasks
use Rattle.orc_syntax.specs.declared.printer.Piece.{Piece}
use Rattle.orc_syntax.specs.declared.tree.Node.{Node}
use Rattle.orc_syntax.specs.declared.tree.Definition.{Definition}
use Rattle.orc_syntax.specs.Ast.{label, IsExpr, IsDefinition, AreDefinitions, item as node_item}

back_one : {A : Type 0} → (xs : List A) (i : A) (rest : List A) → reverse (xs ++ i ∷ []) ++ rest ≡ i ∷ (reverse xs ++ rest)
back_one xs i rest = rw (reverse-append xs (i ∷ [])) refl

back_two : {A : Type 0} → (xs ys : List A) (i : A) (rest : List A) → reverse (xs ++ (ys ++ i ∷ [])) ++ rest ≡ i ∷ (reverse ys ++ (reverse xs ++ rest))
back_two xs ys i rest = rw (reverse-append xs (ys ++ i ∷ []), reverse-append ys (i ∷ [])) (ap (λ (l : List _). i ∷ l) (append_assoc (reverse ys) (reverse xs) rest))

-- a text that waits is printed behind the rest
back_say : (t : List ℕ) (ts : List Task) (is : List Item) → back (say t ∷ ts) is ≡ back ts is ++ t
unfolding back
back_say t ts [] = refl
back_say t ts (i ∷ is) = sym (append_assoc (back (entered (visits ts) i.sort) is) (says ts) t)

-- three texts, from right to left
three : (a b c : List ℕ) (ts : List Task) (is : List Item) → back (say c ∷ say b ∷ say a ∷ ts) is ≡ back ts is ++ (a ++ (b ++ c))
three a b c ts is =
    back_say c (say b ∷ say a ∷ ts) is
    ∙ ap (λ (l : List ℕ). l ++ c) (back_say b (say a ∷ ts) is ∙ ap (λ (l : List ℕ). l ++ b) (back_say a ts is))
    ∙ append_assoc (back ts is ++ a) b c
    ∙ append_assoc (back ts is) a (b ++ c)

back_signs : (link : Link) (ts : List Task) (is : List Item) → back (signs link ts) is ≡ back ts is ++ sign link
back_signs Other ts is = back_say (codes " ; ") ts is
back_signs Par ts is = back_say (codes " | ") ts is
back_signs (Seq None) ts is = back_say (codes " >> ") ts is
back_signs (Prune None) ts is = back_say (codes " << ") ts is
back_signs (Seq (Some x)) ts is = three (codes " >") x.text (codes "> ") ts is
back_signs (Prune (Some x)) ts is = three (codes " <") x.text (codes "< ") ts is

-- a text in brackets, where they are needed
back_bracketed : (inner : Bool) (middle : List Task → List Task) (body : List ℕ) (is : List Item) (rest : List Item)
    → ((us : List Task) → back (middle us) is ≡ back us rest ++ body) → (ts : List Task) → back (closing inner (middle (opening inner ts))) is ≡ back ts rest ++ bracketed inner body
back_bracketed false middle body is rest h ts = h ts
back_bracketed true middle body is rest h ts =
    back_say (codes ")") (middle (say (codes "(") ∷ ts)) is
    ∙ ap (λ (l : List ℕ). l ++ codes ")") (h (say (codes "(") ∷ ts) ∙ ap (λ (l : List ℕ). l ++ body) (back_say (codes "(") ts rest))
    ∙ append_assoc (back ts rest ++ codes "(") body (codes ")")
    ∙ append_assoc (back ts rest) (codes "(") (body ++ codes ")")

-- the first node makes its parts wait
first : (n : ℕ) (ts : List Task) (i : Item) (is : List Item) → back (visit n ∷ ts) (i ∷ is) ≡ back (parts n i.sort ts) is
unfolding back
first n ts i is = append-nil (back (parts n i.sort ts) is)

valued_joins : (r a b c g d f : List ℕ) → (((r ++ (a ++ (b ++ c))) ++ g) ++ d) ++ f ≡ r ++ (a ++ (b ++ (c ++ (g ++ (d ++ f)))))
valued_joins r a b c g d f =
    append_assoc ((r ++ (a ++ (b ++ c))) ++ g) d f
    ∙ append_assoc (r ++ (a ++ (b ++ c))) g (d ++ f)
    ∙ append_assoc r (a ++ (b ++ c)) (g ++ (d ++ f))
    ∙ ap (λ (l : List ℕ). r ++ l) (append_assoc a (b ++ c) (g ++ (d ++ f)) ∙ ap (λ (l : List ℕ). a ++ l) (append_assoc b c (g ++ (d ++ f))))

-- one more argument in front
more_last : (n : ℕ) (ts : List Task) → more (suc n) ts ≡ more n (visit 0 ∷ say (codes ", ") ∷ ts)
more_last zero ts = refl
more_last (suc n) ts = ap (λ (l : List Task). visit 0 ∷ say (codes ", ") ∷ l) (more_last n ts)

mutual
  -- an expression that waits is printed behind the rest
  pub printed_back : (t : Tree) (n : ℕ) (ts : List Task) (rest : List Item) → back (visit n ∷ ts) (reverse (post t) ++ rest) ≡ back ts rest ++ text n t
  printed_back (Leaf p span) n ts rest = first n ts (item (leaf p) span) rest ∙ back_say _ ts rest
  printed_back (Variable x) n ts rest = first n ts (item (variable x) x.span) rest ∙ back_say x.text ts rest
  printed_back (Call x es span) n ts rest =
      ap (back (visit n ∷ ts)) (back_one (posts es) (item (call x (count es)) span) rest)
      ∙ first n ts (item (call x (count es)) span) (reverse (posts es) ++ rest)
      ∙ back_say (codes ")") (given (count es) (say (codes "(") ∷ say x.text ∷ ts)) (reverse (posts es) ++ rest)
      ∙ ap (λ (l : List ℕ). l ++ codes ")") (
      arguments_back es (say (codes "(") ∷ say x.text ∷ ts) rest
      ∙ ap (λ (l : List ℕ). l ++ arguments es) (back_say (codes "(") (say x.text ∷ ts) rest ∙ ap (λ (l : List ℕ). l ++ codes "(") (back_say x.text ts rest))
      )
      ∙ append_assoc ((back ts rest ++ x.text) ++ codes "(") (arguments es) (codes ")")
      ∙ append_assoc (back ts rest ++ x.text) (codes "(") (arguments es ++ codes ")")
      ∙ append_assoc (back ts rest) x.text (codes "(" ++ (arguments es ++ codes ")"))
  printed_back (Operation link f g span) n ts rest =
      ap (back (visit n ∷ ts)) (back_two (post f) (post g) (item (operation link) span) rest)
      ∙ first n ts (item (operation link) span) (reverse (post g) ++ (reverse (post f) ++ rest))
      ∙ back_bracketed (nat_lt (level link) n) (operated link) (text (left_level link) f ++ (sign link ++ text (right_level link) g)) (reverse (post g) ++ (reverse (post f) ++ rest)) rest
      (λ us.
      printed_back g (right_level link) (signs link (visit (left_level link) ∷ us)) (reverse (post f) ++ rest)
      ∙ ap (λ (l : List ℕ). l ++ text (right_level link) g) (back_signs link (visit (left_level link) ∷ us) (reverse (post f) ++ rest) ∙ ap (λ (l : List ℕ). l ++ sign link) (printed_back f (left_level link) us rest))
      ∙ append_assoc (back us rest ++ text (left_level link) f) (sign link) (text (right_level link) g)
      ∙ append_assoc (back us rest) (text (left_level link) f) (sign link ++ text (right_level link) g)) ts
  printed_back (Val x g f span) n ts rest =
      ap (back (visit n ∷ ts)) (back_two (post g) (post f) (item (val x) span) rest)
      ∙ first n ts (item (val x) span) (reverse (post f) ++ (reverse (post g) ++ rest))
      ∙ back_bracketed (nat_lt 0 n) (valued x.text) (codes "val " ++ (x.text ++ (codes " = (" ++ (text 0 g ++ (codes ") " ++ text 0 f))))) (reverse (post f) ++ (reverse (post g) ++ rest)) rest
      (λ us.
      printed_back f 0 (say (codes ") ") ∷ visit 0 ∷ say (codes " = (") ∷ say x.text ∷ say (codes "val ") ∷ us) (reverse (post g) ++ rest)
      ∙ ap (λ (l : List ℕ). l ++ text 0 f) (
      back_say (codes ") ") (visit 0 ∷ say (codes " = (") ∷ say x.text ∷ say (codes "val ") ∷ us) (reverse (post g) ++ rest)
      ∙ ap (λ (l : List ℕ). l ++ codes ") ") (
      printed_back g 0 (say (codes " = (") ∷ say x.text ∷ say (codes "val ") ∷ us) rest
      ∙ ap (λ (l : List ℕ). l ++ text 0 g) (three (codes "val ") x.text (codes " = (") us rest)
      )
      )
      ∙ valued_joins (back us rest) (codes "val ") x.text (codes " = (") (text 0 g) (codes ") ") (text 0 f)) ts

  -- arguments that wait are printed behind the rest
  arguments_back : (es : Trees) (ts : List Task) (rest : List Item) → back (given (count es) ts) (reverse (posts es) ++ rest) ≡ back ts rest ++ arguments es
  arguments_back Nil ts rest = sym (append-nil (back ts rest))
  arguments_back (Cons t es) ts rest =
      ap (back (more (count es) (visit 0 ∷ ts))) (ap (λ (l : List Item). l ++ rest) (reverse-append (post t) (posts es)) ∙ append_assoc (reverse (posts es)) (reverse (post t)) rest)
      ∙ others_back es (visit 0 ∷ ts) (reverse (post t) ++ rest)
      ∙ ap (λ (l : List ℕ). l ++ others es) (printed_back t 0 ts rest)
      ∙ append_assoc (back ts rest) (text 0 t) (others es)

  others_back : (es : Trees) (ts : List Task) (rest : List Item) → back (more (count es) ts) (reverse (posts es) ++ rest) ≡ back ts rest ++ others es
  others_back Nil ts rest = sym (append-nil (back ts rest))
  others_back (Cons t es) ts rest =
      ap (λ (us : List Task). back us (reverse (post t ++ posts es) ++ rest)) (more_last (count es) ts)
      ∙ ap (back (more (count es) (visit 0 ∷ say (codes ", ") ∷ ts))) (ap (λ (l : List Item). l ++ rest) (reverse-append (post t) (posts es)) ∙ append_assoc (reverse (posts es)) (reverse (post t)) rest)
      ∙ others_back es (visit 0 ∷ say (codes ", ") ∷ ts) (reverse (post t) ++ rest)
      ∙ ap (λ (l : List ℕ). l ++ others es) (printed_back t 0 (say (codes ", ") ∷ ts) rest ∙ ap (λ (l : List ℕ). l ++ text 0 t) (back_say (codes ", ") ts rest))
      ∙ append_assoc (back ts rest ++ codes ", ") (text 0 t) (others es)
      ∙ append_assoc (back ts rest) (codes ", ") (text 0 t ++ others es)

-- the text of a whole expression
pub printed_whole : (t : Tree) (n : ℕ) → back (visit n ∷ []) (reverse (post t)) ≡ text n t
unfolding back
printed_whole t n = ap (back (visit n ∷ [])) (sym (append-nil (reverse (post t)))) ∙ printed_back t n [] []

-- nothing waits, nothing is printed
pub back_none : (is : List Item) → back [] is ≡ []
unfolding back
back_none [] = refl
back_none (i ∷ is) = append-nil (back [] is) ∙ back_none is

-- the last of the first nodes
pub back_step : (xs : List Node) (n : ℕ) (d : Node) → 0 < n → n ≤ length xs → reverse (map node_item (take n xs)) ≡ node_item (get_or xs (n - 1) d) ∷ reverse (map node_item (take (n - 1) xs))
back_step xs n d pos le =
    let e : take n xs ≡ take (n - 1) xs ++ get_or xs (n - 1) d ∷ [] =
    (let k : n ≡ n - 1 + 1 = omega arith in ap (λ (m : ℕ). take m xs) k ∙ take_more xs (n - 1) d (omega arith)) in
    ap (λ (l : List Node). reverse (map node_item l)) e
    ∙ ap (λ (l : List Item). reverse l) (map-append node_item (take (n - 1) xs) (get_or xs (n - 1) d ∷ []))
    ∙ reverse-append (map node_item (take (n - 1) xs)) (node_item (get_or xs (n - 1) d) ∷ [])

-- a turn of the loop over the nodes
pub back_turn : (before after us : List Task) (n : ℕ) (i : Item) (items rest : List Item) (told told' all : List ℕ)
    → visits before ≡ visit n ∷ us → items ≡ i ∷ rest → after ≡ parts n i.sort us → told' ≡ says before ++ told → back before items ++ told ≡ all → back after rest ++ told' ≡ all
unfolding back
back_turn before after us n i items rest told told' all v e a t is =
    ap (λ (l : List Task). back l rest ++ told') (a ∙ ap (λ (l : List Task). entered l i.sort) (sym v))
    ∙ ap (λ (l : List ℕ). back (entered (visits before) i.sort) rest ++ l) t
    ∙ sym (append_assoc (back (entered (visits before) i.sort) rest) (says before) told)
    ∙ ap (λ (l : List Item). back before l ++ told) (sym e)
    ∙ is

-- where no expression waits the nodes add nothing
pub back_end : (before : List Task) (items : List Item) (told told' all : List ℕ) → visits before ≡ [] → told' ≡ says before ++ told → back before items ++ told ≡ all → told' ≡ all
unfolding back
back_end before [] told told' all v t is = t ∙ is
back_end before (i ∷ items) told told' all v t is =
    t
    ∙ ap (λ (l : List ℕ). l ++ told) (sym (ap (λ (l : List Task). back (entered l i.sort) items ++ says before) v ∙ ap (λ (l : List ℕ). l ++ says before) (back_none items)))
    ∙ is

-- the next one stands last
pub waiting_push : (ts : List code.Task) (t : code.Task) → waiting (ts ++ t ∷ []) ≡ task t ∷ waiting ts
waiting_push ts t = ap (map task) (reverse-append ts (t ∷ []))

pub said_push : (ps : List Piece) (p : Piece) → said (ps ++ p ∷ []) ≡ piece_text p ++ said ps
unfolding said
said_push [] p = sym (append-nil (piece_text p))
said_push (q ∷ ps) p = ap (λ (l : List ℕ). l ++ piece_text q) (said_push ps p) ∙ append_assoc (piece_text p) (said ps) (piece_text q)

-- a piece that waits is said
pub say_turn : (before after : List code.Task) (t : code.Task) (p : Piece) (pieces pieces' : List Piece) (ts : List Task) (all : List ℕ) → before ≡ after ++ t ∷ [] → t ≡ tasks.Say p → pieces' ≡ pieces ++ p ∷ []
    → (visits (waiting before) ≡ visits ts) × (says (waiting before) ++ said pieces ≡ all) → (visits (waiting after) ≡ visits ts) × (says (waiting after) ++ said pieces' ≡ all)
say_turn before after t p pieces pieces' ts all b s e is =
    let w : waiting before ≡ say (piece_text p) ∷ waiting after = ap waiting b ∙ waiting_push after t ∙ ap (λ (u : code.Task). task u ∷ waiting after) s in (
      sym (ap visits w) ∙ is.0,
      ap (λ (ps : List Piece). says (waiting after) ++ said ps) e
          ∙ ap (λ (l : List ℕ). says (waiting after) ++ l) (said_push pieces p)
          ∙ sym (append_assoc (says (waiting after)) (piece_text p) (said pieces))
          ∙ sym (ap (λ (us : List Task). says us ++ said pieces) w)
          ∙ is.1,
    )

-- one more piece in front of those that are said
pub said_front : (ps : List Piece) (n : ℕ) (d : Piece) (out start : List ℕ) → 0 < n → n ≤ length ps → out ≡ start ++ said (drop n ps) → out ++ piece_text (get_or ps (n - 1) d) ≡ start ++ said (drop (n - 1) ps)
unfolding said
said_front ps n d out start pos le is =
    let k : suc (n - 1) ≡ n = omega arith in
    let e : drop (n - 1) ps ≡ get_or ps (n - 1) d ∷ drop n ps = drop-cons ps (n - 1) d (omega arith) ∙ ap (λ (m : ℕ). get_or ps (n - 1) d ∷ drop m ps) k in
    ap (λ (l : List ℕ). l ++ piece_text (get_or ps (n - 1) d)) is
    ∙ append_assoc start (said (drop n ps)) (piece_text (get_or ps (n - 1) d))
    ∙ ap (λ (l : List Piece). start ++ said l) (sym e)

pub said_start : (ps : List Piece) (out : List ℕ) → out ≡ out ++ said (drop (length ps) ps)
unfolding said
said_start ps out = sym (append-nil out) ∙ ap (λ (l : List Piece). out ++ said l) (sym (drop_all (length ps) ps (omega arith)))

-- the text of an expression, as the printer says it
pub whole_said : (ts : List code.Task) (pieces pieces' : List Piece) (nodes : List Node) (t : Tree) → IsExpr nodes t → waiting ts ≡ visit 0 ∷ [] → pieces ≡ [] → said pieces' ≡ back (waiting ts) (reverse (map node_item nodes)) ++ said pieces → said pieces' ≡ text 0 t
unfolding said
whole_said ts pieces pieces' nodes t e w p is =
    is
    ∙ ap (λ (ps : List Piece). back (waiting ts) (reverse (map node_item nodes)) ++ said ps) p
    ∙ append-nil (back (waiting ts) (reverse (map node_item nodes)))
    ∙ ap (λ (us : List Task). back us (reverse (map node_item nodes))) w
    ∙ ap (λ (l : List Item). back (visit 0 ∷ []) (reverse l)) e
    ∙ printed_whole t 0

-- the next definition
pub definition_next : (ds : List Definition) (es : List Define) (i : ℕ) (d : Definition) → i < length ds → AreDefinitions ds es → (e : Define) × IsDefinition (get_or ds i d) e × (drop i es ≡ e ∷ drop (i + 1) es)
definition_next [] es i d lt h = absurd (omega (arith, lt))
definition_next (x ∷ ds) [] i d lt h = absurd h
definition_next (x ∷ ds) (e ∷ es) zero d lt h = (e, h.0, refl)
definition_next (x ∷ ds) (e ∷ es) (suc i) d lt h =
    let r = definition_next ds es i d (omega (arith, lt)) h.1 in
    let k : suc i + 1 ≡ suc (i + 1) = omega arith in
    (r.0, r.1, r.2 ∙ ap (λ (m : ℕ). r.0 ∷ drop m (e ∷ es)) (sym k))

-- where all are printed none is left
pub definitions_end : (ds : List Definition) (es : List Define) (i : ℕ) → length ds ≤ i → AreDefinitions ds es → drop i es ≡ []
definitions_end [] [] zero le h = refl
definitions_end [] [] (suc i) le h = refl
definitions_end [] (e ∷ es) i le h = absurd h
definitions_end (x ∷ ds) [] i le h = absurd h
definitions_end (x ∷ ds) (e ∷ es) zero le h = absurd (omega (arith, le))
definitions_end (x ∷ ds) (e ∷ es) (suc i) le h = definitions_end ds es i (omega (arith, le)) h.1

pub definition_same : (d : Definition) (e : Define) → IsDefinition d e → definition (record { name = label d.name; parameters = map label d.parameters.items; body = e.body }) ≡ definition e
definition_same d e h = λ j. definition (record { name = h.name j; parameters = h.parameters j; body = e.body })

-- what is appended piece by piece
pub line_joins : (o₀ o₁ o₂ o₃ o₄ o₅ o₆ a b c d e f g : List ℕ) → o₁ ≡ o₀ ++ a → o₂ ≡ o₁ ++ b → o₃ ≡ o₂ ++ c → o₄ ≡ o₃ ++ d → o₅ ≡ o₄ ++ e → o₆ ≡ o₅ ++ f → o₆ ++ g ≡ o₀ ++ (a ++ (b ++ (c ++ (d ++ (e ++ (f ++ g))))))
line_joins o₀ o₁ o₂ o₃ o₄ o₅ o₆ a b c d e f g h₁ h₂ h₃ h₄ h₅ h₆ =
    ap (λ (l : List ℕ). l ++ g) h₆
    ∙ append_assoc o₅ f g
    ∙ ap (λ (l : List ℕ). l ++ (f ++ g)) h₅
    ∙ append_assoc o₄ e (f ++ g)
    ∙ ap (λ (l : List ℕ). l ++ (e ++ (f ++ g))) h₄
    ∙ append_assoc o₃ d (e ++ (f ++ g))
    ∙ ap (λ (l : List ℕ). l ++ (d ++ (e ++ (f ++ g)))) h₃
    ∙ append_assoc o₂ c (d ++ (e ++ (f ++ g)))
    ∙ ap (λ (l : List ℕ). l ++ (c ++ (d ++ (e ++ (f ++ g))))) h₂
    ∙ append_assoc o₁ b (c ++ (d ++ (e ++ (f ++ g))))
    ∙ ap (λ (l : List ℕ). l ++ (b ++ (c ++ (d ++ (e ++ (f ++ g)))))) h₁
    ∙ append_assoc o₀ a (b ++ (c ++ (d ++ (e ++ (f ++ g)))))
