-- No bracket, `val` or operator of a tree is one too many where none of its text is.
use Rattle.std.proofs.Common.{◌≡◌, ℕ, suc, ◌+◌, ◌<◌, ◌≤◌, false, List, [], ◌∷◌, ◌++◌, length, refl, sym, ap, subst, ◌∙◌, append_assoc, append-nil, arith, inl, inr}
use Rattle.std.proofs.lemmas.Bool.Decides.{leb_tells}
use Rattle.orc_lex.specs.Tokens.{Close, Comma, Assign, Lexeme, token}
use Rattle.orc_lex.specs.Lexing.{Piece, Gap, Item, Bad, Pieces, lexemes, Cut}
use Rattle.orc_rules.specs.declared.limits.TheConstants.{MOST_BRACKETS, MOST_OPERATORS}
use Rattle.orc_syntax.specs.Deep.{Count, none, counted, counted_on, IsTooDeep}
use Rattle.orc_syntax.specs.Grammar.{Sign, Single, Double, Writing, plain, name, call, brackets, operation, binding, Writings, nothing, last, more, Parameter, Parameters, without, given, Head, Program, main, define, sign_tokens, tokens, tokens_of_all, other_tokens, parameter_tokens, head_tokens, program_tokens, tree, trees_of, definitions, main_of, IsProgram, Made, made_tokens, behind_all, first_part}
use Rattle.orc_syntax.specs.Tree.{Source}
use Rattle.orc_syntax.specs.Text.{IsShallow as IsShallowText}
use Rattle.orc_syntax.proofs.Laws.{later, first_later}
use Rattle.orc_scope.specs.Deep.{operators, operators_of_all, nesting, nesting_of_all, IsShallow, AreShallow}
use Rattle.orc_scope.specs.Shallow.{ShallowTrees}

less : (n m : ℕ) → (n ≤ m → ⊥) → m < n
less n m not = elim (leb_tells n m) [ inl met ↦ absurd (not met.1) | inr unmet ↦ omega (arith, unmet.1) ]

-- none of these tokens is one too many behind this count
abbrev AreFine : Count → List Lexeme → Type 0
AreFine c [] = Unit {0}
AreFine c (t ∷ ts) = (IsTooDeep c t.sort → ⊥) × AreFine (counted c t.sort) ts

abbrev here : ℕ → List ℕ → ℕ → Count
here levels outside done = record { levels = levels; outside = outside; operators = done; half = false }

-- what stands behind an expression with so many operators, and with calls and `val`s so deep within one another
record Behind (levels : ℕ) (outside : List ℕ) (done wide deep : ℕ) (rest : List Lexeme) : Type 0 where
  now : ℕ
  fine : AreFine (here now outside (done + wide)) rest
  grown : levels ≤ now
  within : now ≤ MOST_BRACKETS
  few : done + wide ≤ MOST_OPERATORS
  nests : deep + levels ≤ MOST_BRACKETS

same_count : (levels : ℕ) (outside : List ℕ) (a b : ℕ) (rest : List Lexeme) → a ≡ b → AreFine (here levels outside a) rest → AreFine (here levels outside b) rest
same_count levels outside a b rest same fine = subst (λ (n : ℕ). AreFine (here levels outside n) rest) same fine

-- nothing that counts
leaf : (l : ℕ) (o : List ℕ) (n : ℕ) (rest : List Lexeme) → l ≤ MOST_BRACKETS → n ≤ MOST_OPERATORS → AreFine (here l o n) rest → Behind l o n 0 0 rest
leaf l o n rest within few fine = record { now = l; fine = same_count l o n (n + 0) rest (omega arith) fine; grown = omega arith; within = within; few = omega (arith, few); nests = omega (arith, within) }

sign_fine : (sign : Sign) (l : ℕ) (o : List ℕ) (n : ℕ) (rest : List Lexeme) → AreFine (here l o n) (sign_tokens sign ++ rest) → (n < MOST_OPERATORS) × AreFine (here l o (n + 1)) rest
sign_fine (Single j at) l o n rest fine = (less MOST_OPERATORS n fine.0, fine.1)
sign_fine (Double s first x second) l o n rest fine = (less MOST_OPERATORS n (λ le. fine.0 (le, refl)), fine.1.1.1)

mutual
  tree_fine : (w : Writing) (l : ℕ) (o : List ℕ) (n : ℕ) (rest : List Lexeme) → l ≤ MOST_BRACKETS → n ≤ MOST_OPERATORS → AreFine (here l o n) (tokens w ++ rest) → Behind l o n (operators (tree w)) (nesting (tree w)) rest
  tree_fine (plain p at) l o n rest within few fine = leaf l o n rest within few fine.1
  tree_fine (name x) l o n rest within few fine = leaf l o n rest within few fine.1
  tree_fine (call x opening ws closing) l o n rest within few fine =
      let room : l < MOST_BRACKETS = less MOST_BRACKETS l fine.1.0 in
      let inside = subst (AreFine (here (l + 1) (l ∷ o) n)) (append_assoc (tokens_of_all ws) (token Close closing ∷ []) rest) fine.1.1 in
      let b = trees_fine ws (l + 1) (l ∷ o) n (token Close closing ∷ rest) (omega (arith, room)) few inside in
      record { now = l; fine = b.fine.1; grown = omega arith; within = within; few = b.few; nests = omega (arith, b.nests) }
  tree_fine (brackets opening w closing) l o n rest within few fine =
      let room : l < MOST_BRACKETS = less MOST_BRACKETS l fine.0 in
      let inside = subst (AreFine (here (l + 1) (l ∷ o) n)) (append_assoc (tokens w) (token Close closing ∷ []) rest) fine.1 in
      let b = tree_fine w (l + 1) (l ∷ o) n (token Close closing ∷ rest) (omega (arith, room)) few inside in
      record { now = l; fine = b.fine.1; grown = omega arith; within = within; few = b.few; nests = omega (arith, b.nests) }
  tree_fine (operation sign left right) l o n rest within few fine =
      let parted : (tokens left ++ (sign_tokens sign ++ tokens right)) ++ rest ≡ tokens left ++ (sign_tokens sign ++ (tokens right ++ rest)) = append_assoc (tokens left) (sign_tokens sign ++ tokens right) rest ∙ ap (λ (ts : List Lexeme). tokens left ++ ts) (append_assoc (sign_tokens sign) (tokens right) rest) in
      let a = tree_fine left l o n (sign_tokens sign ++ (tokens right ++ rest)) within few (subst (AreFine (here l o n)) parted fine) in
      let s = sign_fine sign a.now o (n + operators (tree left)) (tokens right ++ rest) a.fine in
      let b = tree_fine right a.now o ((n + operators (tree left)) + 1) rest a.within (omega (arith, s.0)) s.1 in
      let all : ((n + operators (tree left)) + 1) + operators (tree right) ≡ n + suc (operators (tree left) + operators (tree right)) = omega arith in
      record { now = b.now; fine = same_count b.now o _ _ rest all b.fine; grown = omega (arith, a.grown, b.grown); within = b.within; few = omega (arith, b.few); nests = omega (arith, a.nests, b.nests, a.grown) }
  tree_fine (binding keyword x equals bound body) l o n rest within few fine =
      let room : l < MOST_BRACKETS = less MOST_BRACKETS l fine.0 in
      let inside = subst (AreFine (here (l + 1) o n)) (append_assoc (tokens bound) (tokens body) rest) fine.1.1.1 in
      let a = tree_fine bound (l + 1) o n (tokens body ++ rest) (omega (arith, room)) few inside in
      let b = tree_fine body a.now o (n + operators (tree bound)) rest a.within a.few a.fine in
      let all : (n + operators (tree bound)) + operators (tree body) ≡ n + (operators (tree bound) + operators (tree body)) = omega arith in
      record { now = b.now; fine = same_count b.now o _ _ rest all b.fine; grown = omega (arith, a.grown, b.grown); within = b.within; few = omega (arith, b.few); nests = omega (arith, a.nests, b.nests, a.grown) }

  trees_fine : (ws : Writings) (l : ℕ) (o : List ℕ) (n : ℕ) (rest : List Lexeme) → l ≤ MOST_BRACKETS → n ≤ MOST_OPERATORS → AreFine (here l o n) (tokens_of_all ws ++ rest) → Behind l o n (operators_of_all (trees_of ws)) (nesting_of_all (trees_of ws)) rest
  trees_fine nothing l o n rest within few fine = leaf l o n rest within few fine
  trees_fine (last w) l o n rest within few fine =
      let a = tree_fine w l o n rest within few fine in
      let all : n + operators (tree w) ≡ n + (operators (tree w) + 0) = omega arith in
      record { now = a.now; fine = same_count a.now o _ _ rest all a.fine; grown = a.grown; within = a.within; few = omega (arith, a.few); nests = omega (arith, a.nests) }
  trees_fine (more w comma ws) l o n rest within few fine =
      let a = tree_fine w l o n (token Comma comma ∷ (tokens_of_all ws ++ rest)) within few (subst (AreFine (here l o n)) (append_assoc (tokens w) (token Comma comma ∷ tokens_of_all ws) rest) fine) in
      let b = trees_fine ws a.now o (n + operators (tree w)) rest a.within a.few a.fine.1 in
      let all : (n + operators (tree w)) + operators_of_all (trees_of ws) ≡ n + (operators (tree w) + operators_of_all (trees_of ws)) = omega arith in
      record { now = b.now; fine = same_count b.now o _ _ rest all b.fine; grown = omega (arith, a.grown, b.grown); within = b.within; few = omega (arith, b.few); nests = omega (arith, a.nests, b.nests, a.grown) }

-- an expression behind nothing
tree_shallow : (w : Writing) → AreFine none (tokens w) → IsShallow (tree w)
tree_shallow w fine =
    let b = tree_fine w 0 [] 0 [] (omega arith) (omega arith) (subst (AreFine none) (sym (append-nil (tokens w))) fine) in
    (omega (arith, b.few), omega (arith, b.nests))

-- ---- definitions

counted_both : (c : Count) (ts us : List Lexeme) → counted_on c (ts ++ us) ≡ counted_on (counted_on c ts) us
counted_both c [] us = refl
counted_both c (t ∷ ts) us = counted_both (counted c t.sort) ts us

fine_behind : (c : Count) (ts us : List Lexeme) → AreFine c (ts ++ us) → AreFine (counted_on c ts) us
fine_behind c [] us fine = fine
fine_behind c (t ∷ ts) us fine = fine_behind (counted c t.sort) ts us fine.1

others_count : (c : Count) (ps : List Parameter) → counted_on c (other_tokens ps) ≡ c
others_count c [] = refl
others_count c (p ∷ ps) = others_count c ps

parameters_count : (c : Count) (ps : Parameters) → counted_on c (parameter_tokens ps) ≡ c
parameters_count c without = refl
parameters_count c (given first others) = others_count c others

head_count : (h : Head) → counted_on none (head_tokens h) ≡ none
head_count h =
    let ends : List Lexeme = token Close h.closing ∷ token Assign h.equals ∷ [] in
    counted_both (here 1 (0 ∷ []) 0) (parameter_tokens h.parameters) ends ∙ ap (λ (c : Count). counted_on c ends) (parameters_count (here 1 (0 ∷ []) 0) h.parameters)

body_fine : (h : Head) (w : Writing) → AreFine none (head_tokens h ++ tokens w) → AreFine none (tokens w)
body_fine h w fine = subst (λ (c : Count). AreFine c (tokens w)) (head_count h) (fine_behind none (head_tokens h) (tokens w) fine)

-- ---- texts

abbrev NoneTooDeep : Count → List Lexeme → Type 0
NoneTooDeep c ts = (front : List Lexeme) (next : Lexeme) (rest : List Lexeme) → ts ≡ front ++ next ∷ rest → IsTooDeep (counted_on c front) next.sort → ⊥

are_fine : (c : Count) (ts : List Lexeme) → NoneTooDeep c ts → AreFine c ts
are_fine c [] not = tt
are_fine c (t ∷ ts) not = (not [] t ts refl, are_fine (counted c t.sort) ts (λ front next rest e. not (t ∷ front) next rest (ap (λ (us : List Lexeme). t ∷ us) e)))

parts_same : (t u : Lexeme) (a b : List Lexeme) → t ∷ a ≡ u ∷ b → (t ≡ u) × (a ≡ b)
parts_same t u a b e = (head_same t u a b e, tail_same t u a b e) where
  head_same : (t u : Lexeme) (a b : List Lexeme) → t ∷ a ≡ u ∷ b → t ≡ u
  head_same t u a b e = cc

  tail_same : (t u : Lexeme) (a b : List Lexeme) → t ∷ a ≡ u ∷ b → a ≡ b
  tail_same t u a b e = cc

-- the front of a cut
front_pieces : (src : List ℕ) (from : ℕ) (ps : List Piece) (to : ℕ) (us vs : List Lexeme) → Pieces src from ps to → lexemes ps ≡ us ++ vs → (qs : List Piece) × (mid : ℕ) × Pieces src from qs mid × (lexemes qs ≡ us)
front_pieces src from ps to [] vs h e = ([], from, refl, refl)
front_pieces src from [] to (u ∷ us) vs h e = absurd cc
front_pieces src from (Gap end ∷ ps) to (u ∷ us) vs h e =
    let r = front_pieces src end ps to (u ∷ us) vs h.1 e in
    (Gap end ∷ r.0, r.1, (h.0, r.2), r.3)
front_pieces src from (Item t ∷ ps) to (u ∷ us) vs h e =
    let same = parts_same t u (lexemes ps) (us ++ vs) e in
    let r = front_pieces src t.span.end ps to us vs h.1 same.1 in
    (Item t ∷ r.0, r.1, (h.0, r.2), ap (λ (x : Lexeme). x ∷ lexemes r.0) same.0 ∙ ap (λ (ts : List Lexeme). u ∷ ts) r.3)
front_pieces src from (Bad why ∷ ps) to (u ∷ us) vs h e = absurd h

cut_front : (src : List ℕ) (us vs : List Lexeme) (to : ℕ) → Cut src (us ++ vs) to → (mid : ℕ) × Cut src us mid
cut_front src us vs to c =
    let r = front_pieces src 0 c.0 to us vs c.1 c.2 in
    (r.1, (r.0, r.2, r.3))

-- no token of a part is too deep
part_fine : (src : List ℕ) (ms : List Made) (p : Program) → IsShallowText src → IsProgram (behind_all ms p) → Cut src (made_tokens ms ++ program_tokens p) (length src) → AreFine none (first_part p)
part_fine src ms p shallow grammar cut = are_fine none (first_part p) (λ front next rest e deep.
    let text : made_tokens ms ++ program_tokens p ≡ (made_tokens ms ++ (front ++ next ∷ [])) ++ (rest ++ later p) =
    ap (λ (ts : List Lexeme). made_tokens ms ++ ts) (first_later p ∙ ap (λ (ts : List Lexeme). ts ++ later p) e) ∙ regroup (made_tokens ms) front next rest (later p) in
    let c = cut_front src (made_tokens ms ++ (front ++ next ∷ [])) (rest ++ later p) (length src) (subst (λ (ts : List Lexeme). Cut src ts (length src)) text cut) in
    shallow next.span.start (record { before = ms; program = p; front = front; next = next; rest = rest; end = c.0; grammar = grammar; part = e; cut = c.1; is = refl; deep = deep })) where
      regroup : (a f : List Lexeme) (t : Lexeme) (r b : List Lexeme) → a ++ ((f ++ t ∷ r) ++ b) ≡ (a ++ (f ++ t ∷ [])) ++ (r ++ b)
      regroup a f t r b = simp append_assoc

all_shallow : (src : List ℕ) (ms : List Made) (p : Program) → IsShallowText src → IsProgram (behind_all ms p) → Cut src (made_tokens ms ++ program_tokens p) (length src) → AreShallow (definitions p) × IsShallow (main_of p)
all_shallow src ms (main w) shallow grammar cut = (tt, tree_shallow w (part_fine src ms (main w) shallow grammar cut))
all_shallow src ms (define head body rest) shallow grammar cut =
    let own = part_fine src ms (define head body rest) shallow grammar cut in
    let made : Made = record { head = head; body = body } in
    let text : made_tokens ms ++ (head_tokens head ++ (tokens body ++ program_tokens rest)) ≡ made_tokens (made ∷ ms) ++ program_tokens rest = simp append_assoc in
    let others = all_shallow src (made ∷ ms) rest shallow grammar (subst (λ (ts : List Lexeme). Cut src ts (length src)) text cut) in
    ((tree_shallow body (body_fine head body own), others.0), others.1)

pub shallow_trees : ShallowTrees
shallow_trees src s spells shallow =
    let ts = spells.2.0 in
    let cut = spells.2.1 in
    let spelled = spells.2.2 in
    let p : Program = spelled.0 in
    let all = all_shallow src [] p shallow spelled.1 (subst (λ (us : List Lexeme). Cut src us (length src)) (sym spelled.2) cut) in
    subst (λ (t : Source). AreShallow t.definitions × IsShallow t.main) spelled.3 all
