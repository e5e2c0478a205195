-- What is printed of a program spells it again.
use Rattle.std.proofs.Common.{◌≡◌, ℕ, ◌+◌, ◌≤◌, Bool, true, false, List, [], ◌∷◌, ◌++◌, length, drop, map, slice_index, codes, true≢false, ne_eqb, append_assoc, append-nil, nat_lt, refl, sym, ap, subst, ◌∙◌, arith}
use Rattle.std.specs.Prelude.{◌==◌, Some, None}
use Rattle.std.proofs.lemmas.List.{length-drop}
use Rattle.std.proofs.lemmas.Bool.Decides.{nat_tests}
use Rattle.orc_lex.specs.declared.token.Span.{Span}
use Rattle.orc_lex.specs.declared.token.Plain.{Plain}
use Rattle.orc_lex.specs.declared.token.Plain.TheVariants as plains
use Rattle.orc_lex.specs.declared.token.Joint.{Joint}
use Rattle.orc_lex.specs.declared.token.Joint.TheVariants as joints
use Rattle.orc_lex.specs.declared.token.Side.{Side}
use Rattle.orc_lex.specs.declared.token.Side.TheVariants as sides
use Rattle.orc_lex.specs.declared.token.Sign.TheVariants as signs
use Rattle.orc_lex.specs.declared.token.Begin.TheVariants as begins
use Rattle.orc_lex.specs.Tokens.{Join, Assign, Sort, Lexeme, token}
use Rattle.orc_lex.specs.Lexing.{is_part, begin_of, Cut, span}
use Rattle.orc_syntax.specs.Tree.{Label, Link, Seq, Par, Prune, Other, Tree, Leaf, Variable, Call, Operation, Val, Trees, Nil, Cons, Define, Source}
use Rattle.orc_syntax.specs.Printing.{plain_text, sign, bracketed, text, arguments, others, other_names, names, definition, definitions, printed}
use Rattle.orc_syntax.specs.Grammar.{Sign, Single, Double, Writing, plain, name, call, brackets, operation, binding, Writings, nothing, last, more, Parameter, Parameters, without, given, Head, Program, main, define, word, sign_tokens, link, tokens, tokens_of_all, other_tokens, parameter_tokens, head_tokens, program_tokens, tree, trees_of, names_of, labels_of, source, level, left_level, right_level, IsAt, AreArguments, AreMore, IsProgram}
use Rattle.orc_syntax.specs.Same.{nowhere, bare_label, bare_link, bare, bare_trees, bare_source, IsSame, SpellsSame, AppendsSame}
use Rattle.orc_syntax.specs.Text.{SpellsText, SpellsTokens}
use Rattle.orc_syntax.proofs.Cuts.{cut_in}
use Rattle.orc_syntax.proofs.Least.{one_source}
use Rattle.orc_lex.proofs.Reading.{Reads, follows, reads_none, blank, sign_here, pair_here, IsWord, is_word, word_here, number_here, no_digit, letter_range}
use Rattle.orc_lex.proofs.Names.{IsName, FinePlain}
use Rattle.orc_syntax.proofs.Fine.{FineLink, Fine, AreFine, FineNames, FineDefine, FineDefines, FineSource, fine_spelled}
use Rattle.orc_syntax.proofs.Ascii.{printed_utf8}

-- no name or number goes on here
abbrev pub IsEnd : List ℕ → Type 0
IsEnd rest = is_part (slice_index rest 0) ≡ false

-- how a tree is written from a place on, and what is behind it
pub record Written (src : List ℕ) (from : ℕ) (rest : List ℕ) (n : ℕ) (t : Tree) : Type 0 where
  pub w : Writing
  pub reads : Reads src from rest (tokens w)
  pub grammar : IsAt n w
  pub same : bare (tree w) ≡ bare t

abbrev pub Writes : List ℕ → ℕ → List ℕ → Tree → Type 0
Writes src n body t = (from : ℕ) (rest : List ℕ) → IsEnd rest → drop from src ≡ body ++ rest → Written src from rest n t

abbrev placed : List ℕ → ℕ → Label
placed text at = record { text = text; span = span at (at + length text) }

name_here : (src : List ℕ) (at : ℕ) (x rest : List ℕ) → IsName x → IsEnd rest → drop at src ≡ x ++ rest → Reads src at rest (word (placed x at) ∷ [])
name_here src at x rest is end h = subst (λ (s : Sort). Reads src at rest (token s (span at (at + length x)) ∷ [])) is.free (word_here src at x rest is.is end h)

-- a name begins neither with `>` nor with `<`
no_sign : (x l : List ℕ) → IsWord x → ((slice_index (x ++ l) 0 == 62) ≡ false) × ((slice_index (x ++ l) 0 == 60) ≡ false)
no_sign [] l is = absurd (true≢false (sym is.letter))
no_sign (b ∷ bs) l is = let r = letter_range b is.letter in (ne_eqb b 62 (λ e. omega arith), ne_eqb b 60 (λ e. omega arith))

-- operators

record SignWritten (src : List ℕ) (from : ℕ) (rest : List ℕ) (l : Link) : Type 0 where
  op : Sign
  reads : Reads src from rest (sign_tokens op)
  same : bare_link (link op) ≡ bare_link l
  own : level (link op) ≡ level l
  left : left_level (link op) ≡ left_level l
  right : right_level (link op) ≡ right_level l

single_here : (src : List ℕ) (from b : ℕ) (j : Joint) (rest : List ℕ) → begin_of b 32 ≡ begins.Sign (signs.Joint j) → drop from src ≡ 32 ∷ b ∷ 32 ∷ rest → (at : Span) × Reads src from rest (token (Join j) at ∷ [])
single_here src from b j rest e h =
    let x = blank src from 32 (b ∷ 32 ∷ rest) refl h in
    let y = sign_here src x.to b (32 ∷ rest) (signs.Joint j) e x.behind in
    let z = blank src y.to 32 rest refl y.behind in
    (span x.to (x.to + 1), follows x (follows y z))

double_here : (src : List ℕ) (from b : ℕ) (j : Joint) (rest : List ℕ) → begin_of b b ≡ begins.Pair (signs.Joint j) → drop from src ≡ 32 ∷ b ∷ b ∷ 32 ∷ rest → (at : Span) × Reads src from rest (token (Join j) at ∷ [])
double_here src from b j rest e h =
    let x = blank src from 32 (b ∷ b ∷ 32 ∷ rest) refl h in
    let y = pair_here src x.to b b (32 ∷ rest) (signs.Joint j) e x.behind in
    let z = blank src y.to 32 rest refl y.behind in
    (span x.to (x.to + 2), follows x (follows y z))

record Arrows (src : List ℕ) (from : ℕ) (rest : List ℕ) (s : Side) (x : List ℕ) : Type 0 where
  first : Span
  at : ℕ
  second : Span
  reads : Reads src from rest (sign_tokens (Double s first (placed x at) second))

arrows_here : (src : List ℕ) (from b : ℕ) (s : Side) (x rest : List ℕ) → begin_of b (slice_index (x ++ b ∷ 32 ∷ rest) 0) ≡ begins.Sign (signs.Arrow s) → begin_of b 32 ≡ begins.Sign (signs.Arrow s) → is_part b ≡ false → IsName x
    → drop from src ≡ 32 ∷ b ∷ (x ++ b ∷ 32 ∷ rest) → Arrows src from rest s x
arrows_here src from b s x rest d e end is h =
    let v = blank src from 32 (b ∷ (x ++ b ∷ 32 ∷ rest)) refl h in
    let w = sign_here src v.to b (x ++ b ∷ 32 ∷ rest) (signs.Arrow s) d v.behind in
    let y = name_here src w.to x (b ∷ 32 ∷ rest) is end w.behind in
    let z = sign_here src y.to b (32 ∷ rest) (signs.Arrow s) e y.behind in
    let u = blank src z.to 32 rest refl z.behind in
    record { first = span v.to (v.to + 1); at = w.to; second = span y.to (y.to + 1); reads = follows v (follows w (follows y (follows z u))) }

sign_written : (src : List ℕ) (l : Link) → FineLink l → (from : ℕ) (rest : List ℕ) → drop from src ≡ sign l ++ rest → SignWritten src from rest l
sign_written src Other fine from rest h = let r = single_here src from 59 joints.Other rest refl h in record { op = Single joints.Other r.0; reads = r.1; same = refl; own = refl; left = refl; right = refl }
sign_written src Par fine from rest h = let r = single_here src from 124 joints.Par rest refl h in record { op = Single joints.Par r.0; reads = r.1; same = refl; own = refl; left = refl; right = refl }
sign_written src (Seq None) fine from rest h = let r = double_here src from 62 joints.Seq rest refl h in record { op = Single joints.Seq r.0; reads = r.1; same = refl; own = refl; left = refl; right = refl }
sign_written src (Prune None) fine from rest h = let r = double_here src from 60 joints.Prune rest refl h in record { op = Single joints.Prune r.0; reads = r.1; same = refl; own = refl; left = refl; right = refl }
sign_written src (Seq (Some x)) fine from rest h =
    let e : (32 ∷ 62 ∷ (x.text ++ 62 ∷ 32 ∷ [])) ++ rest ≡ 32 ∷ 62 ∷ (x.text ++ 62 ∷ 32 ∷ rest) = simp append_assoc in
    let free = (no_sign x.text (62 ∷ 32 ∷ rest) fine.is).0 in
    let r = arrows_here src from 62 sides.Right x.text rest (rw free refl) refl refl fine (h ∙ e) in
    record { op = Double sides.Right r.first (placed x.text r.at) r.second; reads = r.reads; same = refl; own = refl; left = refl; right = refl }
sign_written src (Prune (Some x)) fine from rest h =
    let e : (32 ∷ 60 ∷ (x.text ++ 60 ∷ 32 ∷ [])) ++ rest ≡ 32 ∷ 60 ∷ (x.text ++ 60 ∷ 32 ∷ rest) = simp append_assoc in
    let free = (no_sign x.text (60 ∷ 32 ∷ rest) fine.is).1 in
    let r = arrows_here src from 60 sides.Left x.text rest (rw free refl) refl refl fine (h ∙ e) in
    record { op = Double sides.Left r.first (placed x.text r.at) r.second; reads = r.reads; same = refl; own = refl; left = refl; right = refl }

-- an operator begins with a blank
sign_end : (l : Link) (rest : List ℕ) → IsEnd (sign l ++ rest)
sign_end Other rest = refl
sign_end Par rest = refl
sign_end (Seq None) rest = refl
sign_end (Prune None) rest = refl
sign_end (Seq (Some x)) rest = refl
sign_end (Prune (Some x)) rest = refl

-- expressions

leaf_written : (src : List ℕ) (p : Plain) (at : Span) → FinePlain p → (n : ℕ) → Writes src n (plain_text p) (Leaf p at)
leaf_written src (plains.Number z) at fine n from rest end h =
    record { w = plain (plains.Number z) _; reads = number_here src from z rest fine (no_digit (slice_index rest 0) end) h; grammar = tt; same = refl }
leaf_written src (plains.Truth true) at fine n from rest end h =
    record { w = plain (plains.Truth true) _; reads = word_here src from (codes "true") rest (is_word (codes "true") refl refl) end h; grammar = tt; same = refl }
leaf_written src (plains.Truth false) at fine n from rest end h =
    record { w = plain (plains.Truth false) _; reads = word_here src from (codes "false") rest (is_word (codes "false") refl refl) end h; grammar = tt; same = refl }
leaf_written src plains.Signal at fine n from rest end h =
    record { w = plain plains.Signal _; reads = word_here src from (codes "signal") rest (is_word (codes "signal") refl refl) end h; grammar = tt; same = refl }
leaf_written src plains.Stop at fine n from rest end h =
    record { w = plain plains.Stop _; reads = word_here src from (codes "stop") rest (is_word (codes "stop") refl refl) end h; grammar = tt; same = refl }

variable_written : (src : List ℕ) (x : Label) → IsName x.text → (n : ℕ) → Writes src n x.text (Variable x)
variable_written src x is n from rest end h = record { w = name (placed x.text from); reads = name_here src from x.text rest is end h; grammar = tt; same = refl }

-- an expression in brackets
record Enclosed (src : List ℕ) (from : ℕ) (rest : List ℕ) (t : Tree) : Type 0 where
  opening : Span
  w : Writing
  closing : Span
  reads : Reads src from rest (tokens (brackets opening w closing))
  grammar : IsAt 0 w
  same : bare (tree w) ≡ bare t

enclosed : (src body : List ℕ) (t : Tree) → Writes src 0 body t → (from : ℕ) (rest : List ℕ) → drop from src ≡ 40 ∷ (body ++ 41 ∷ rest) → Enclosed src from rest t
enclosed src body t writes from rest h =
    let a = sign_here src from 40 (body ++ 41 ∷ rest) signs.Open refl h in
    let b = writes a.to (41 ∷ rest) refl a.behind in
    let c = sign_here src b.reads.to 41 rest signs.Close refl b.reads.behind in
    record { opening = span from (from + 1); w = b.w; closing = span b.reads.to (b.reads.to + 1); reads = follows a (follows b.reads c); grammar = b.grammar; same = b.same }

no_less : (a b : ℕ) → nat_lt a b ≡ false → b ≤ a
no_less a b e = grind (arith, nat_tests)

-- in brackets where something tighter is wanted, and bare elsewhere
in_brackets : (src : List ℕ) (own n : ℕ) (body : List ℕ) (t : Tree) → ((m : ℕ) → m ≤ own → Writes src m body t) → (inner : Bool) → nat_lt own n ≡ inner → Writes src n (bracketed inner body) t
in_brackets src own n body t writes false e from rest end h = writes n (no_less own n e) from rest end h
in_brackets src own n body t writes true e from rest end h =
    let regroup : (40 ∷ (body ++ 41 ∷ [])) ++ rest ≡ 40 ∷ (body ++ 41 ∷ rest) = simp append_assoc in
    let r = enclosed src body t (writes 0 (omega arith)) from rest (h ∙ regroup) in
    record { w = brackets r.opening r.w r.closing; reads = r.reads; grammar = r.grammar; same = r.same }

same_operation : {k l : Link} {f f' g g' : Tree} → k ≡ l → f ≡ f' → g ≡ g' → Operation k f g nowhere ≡ Operation l f' g' nowhere
same_operation e p q = cc

operation_written : (src : List ℕ) (l : Link) (f g : Tree) (at : Span) → FineLink l → Writes src (left_level l) (text (left_level l) f) f → Writes src (right_level l) (text (right_level l) g) g
    → (m : ℕ) → m ≤ level l → Writes src m (text (left_level l) f ++ (sign l ++ text (right_level l) g)) (Operation l f g at)
operation_written src l f g at fine left right m le from rest end h =
    let regroup : (text (left_level l) f ++ (sign l ++ text (right_level l) g)) ++ rest ≡ text (left_level l) f ++ (sign l ++ (text (right_level l) g ++ rest)) = simp append_assoc in
    let a = left from (sign l ++ (text (right_level l) g ++ rest)) (sign_end l _) (h ∙ regroup) in
    let b = sign_written src l fine a.reads.to (text (right_level l) g ++ rest) a.reads.behind in
    let c = right b.reads.to rest end b.reads.behind in
    record {
      w = operation b.op a.w c.w;
      reads = follows a.reads (follows b.reads c.reads);
      grammar = (subst (λ (k : ℕ). m ≤ k) (sym b.own) le, subst (λ (k : ℕ). IsAt k a.w) (sym b.left) a.grammar, subst (λ (k : ℕ). IsAt k c.w) (sym b.right) c.grammar);
      same = same_operation b.same a.same c.same;
    }

same_val : {x : Label} {f f' g g' : Tree} → f ≡ f' → g ≡ g' → Val x g f nowhere ≡ Val x g' f' nowhere
same_val p q = cc

-- ` =` and a blank
record Assigned (src : List ℕ) (from : ℕ) (rest : List ℕ) : Type 0 where
  at : Span
  reads : Reads src from rest (token Assign at ∷ [])

assign_here : (src : List ℕ) (from : ℕ) (rest : List ℕ) → drop from src ≡ 32 ∷ 61 ∷ 32 ∷ rest → Assigned src from rest
assign_here src from rest h =
    let a = blank src from 32 (61 ∷ 32 ∷ rest) refl h in
    let b = sign_here src a.to 61 (32 ∷ rest) signs.Assign refl a.behind in
    let c = blank src b.to 32 rest refl b.behind in
    record { at = span a.to (a.to + 1); reads = follows a (follows b c) }

val_written : (src : List ℕ) (x : Label) (g f : Tree) (at : Span) → IsName x.text → Writes src 0 (text 0 g) g → Writes src 0 (text 0 f) f
    → (m : ℕ) → m ≤ 0 → Writes src m (codes "val " ++ (x.text ++ (codes " = (" ++ (text 0 g ++ (codes ") " ++ text 0 f))))) (Val x g f at)
val_written src x g f at is bound body m le from rest end h =
    let tail : List ℕ = 40 ∷ (text 0 g ++ 41 ∷ 32 ∷ (text 0 f ++ rest)) in
    let regroup : (codes "val " ++ (x.text ++ (codes " = (" ++ (text 0 g ++ (codes ") " ++ text 0 f))))) ++ rest ≡ codes "val" ++ (32 ∷ (x.text ++ (32 ∷ 61 ∷ 32 ∷ tail))) = simp append_assoc in
    let a = word_here src from (codes "val") (32 ∷ (x.text ++ (32 ∷ 61 ∷ 32 ∷ tail))) (is_word (codes "val") refl refl) refl (h ∙ regroup) in
    let b = blank src a.to 32 (x.text ++ (32 ∷ 61 ∷ 32 ∷ tail)) refl a.behind in
    let c = name_here src b.to x.text (32 ∷ 61 ∷ 32 ∷ tail) is refl b.behind in
    let d = assign_here src c.to tail c.behind in
    let i = enclosed src (text 0 g) g bound d.reads.to (32 ∷ (text 0 f ++ rest)) d.reads.behind in
    let j = blank src i.reads.to 32 (text 0 f ++ rest) refl i.reads.behind in
    let k = body j.to rest end j.behind in
    record {
      w = binding (span from (from + 3)) (placed x.text b.to) d.at (brackets i.opening i.w i.closing) k.w;
      reads = follows a (follows b (follows c (follows d.reads (follows i.reads (follows j k.reads)))));
      grammar = (le, i.grammar, k.grammar, refl);
      same = same_val k.same i.same;
    }

-- calls

record ManyWritten (src : List ℕ) (from : ℕ) (rest : List ℕ) (ts : Trees) : Type 0 where
  ws : Writings
  reads : Reads src from rest (tokens_of_all ws)
  grammar : AreArguments ws
  same : bare_trees (trees_of ws) ≡ bare_trees ts

-- arguments, of which there is one at least
record MoreWritten (src : List ℕ) (from : ℕ) (rest : List ℕ) (ts : Trees) : Type 0 where
  ws : Writings
  reads : Reads src from rest (tokens_of_all ws)
  grammar : AreMore ws
  same : bare_trees (trees_of ws) ≡ bare_trees ts

abbrev WritesAll : List ℕ → Trees → Type 0
WritesAll src ts = (from : ℕ) (rest : List ℕ) → IsEnd rest → drop from src ≡ arguments ts ++ rest → ManyWritten src from rest ts

abbrev WritesOthers : List ℕ → Trees → Type 0
WritesOthers src ts = (t : Tree) (from : ℕ) (rest : List ℕ) → IsEnd rest → Written src from (others ts ++ rest) 0 t → MoreWritten src from rest (Cons t ts)

arguments_of : (ws : Writings) → AreMore ws → AreArguments ws
arguments_of nothing h = absurd h
arguments_of (last w) h = h
arguments_of (more w comma ws) h = h

same_cons : {t u : Tree} {ts us : Trees} → t ≡ u → ts ≡ us → Cons t ts ≡ Cons u us
same_cons p q = cc

others_end : (ts : Trees) (rest : List ℕ) → IsEnd rest → IsEnd (others ts ++ rest)
others_end Nil rest end = end
others_end (Cons t ts) rest end = refl

no_arguments : (src : List ℕ) → WritesAll src Nil
no_arguments src from rest end h = record { ws = nothing; reads = reads_none src from rest h; grammar = tt; same = refl }

some_arguments : (src : List ℕ) (t : Tree) (ts : Trees) → Writes src 0 (text 0 t) t → WritesOthers src ts → WritesAll src (Cons t ts)
some_arguments src t ts first behind from rest end h =
    let a = first from (others ts ++ rest) (others_end ts rest end) (h ∙ append_assoc (text 0 t) (others ts) rest) in
    let b = behind t from rest end a in
    record { ws = b.ws; reads = b.reads; grammar = arguments_of b.ws b.grammar; same = b.same }

no_others : (src : List ℕ) → WritesOthers src Nil
no_others src t from rest end a = record { ws = last a.w; reads = a.reads; grammar = a.grammar; same = same_cons a.same refl }

some_others : (src : List ℕ) (u : Tree) (us : Trees) → Writes src 0 (text 0 u) u → WritesOthers src us → WritesOthers src (Cons u us)
some_others src u us next behind t from rest end a =
    let regroup : (44 ∷ 32 ∷ (text 0 u ++ others us)) ++ rest ≡ 44 ∷ 32 ∷ (text 0 u ++ (others us ++ rest)) = simp append_assoc in
    let b = sign_here src a.reads.to 44 (32 ∷ (text 0 u ++ (others us ++ rest))) signs.Comma refl (a.reads.behind ∙ regroup) in
    let c = blank src b.to 32 (text 0 u ++ (others us ++ rest)) refl b.behind in
    let d = next c.to (others us ++ rest) (others_end us rest end) c.behind in
    let e = behind u c.to rest end d in
    record {
      ws = more a.w (span a.reads.to (a.reads.to + 1)) e.ws;
      reads = follows a.reads (follows b (follows c e.reads));
      grammar = (a.grammar, e.grammar);
      same = same_cons a.same e.same;
    }

call_written : (src : List ℕ) (x : Label) (ts : Trees) (at : Span) → IsName x.text → WritesAll src ts → (n : ℕ) → Writes src n (x.text ++ (codes "(" ++ (arguments ts ++ codes ")"))) (Call x ts at)
call_written src x ts at is all n from rest end h =
    let regroup : (x.text ++ (codes "(" ++ (arguments ts ++ codes ")"))) ++ rest ≡ x.text ++ (40 ∷ (arguments ts ++ 41 ∷ rest)) = simp append_assoc in
    let a = name_here src from x.text (40 ∷ (arguments ts ++ 41 ∷ rest)) is refl (h ∙ regroup) in
    let b = sign_here src a.to 40 (arguments ts ++ 41 ∷ rest) signs.Open refl a.behind in
    let c = all b.to (41 ∷ rest) refl b.behind in
    let d = sign_here src c.reads.to 41 rest signs.Close refl c.reads.behind in
    record {
      w = call (placed x.text from) (span a.to (a.to + 1)) c.ws (span c.reads.to (c.reads.to + 1));
      reads = follows a (follows b (follows c.reads d));
      grammar = c.grammar;
      same = ap (λ (us : Trees). Call (bare_label x) us nowhere) c.same;
    }

mutual
  written : (src : List ℕ) (t : Tree) → Fine t → (n : ℕ) → Writes src n (text n t) t
  written src (Leaf p at) h n = leaf_written src p at h n
  written src (Variable x) h n = variable_written src x h n
  written src (Call x ts at) h n = call_written src x ts at h.0 (all_written src ts h.1) n
  written src (Operation l f g at) h n =
      in_brackets src (level l) n (text (left_level l) f ++ (sign l ++ text (right_level l) g)) (Operation l f g at)
      (operation_written src l f g at h.0 (written src f h.1 (left_level l)) (written src g h.2 (right_level l))) (nat_lt (level l) n) refl
  written src (Val x g f at) h n =
      in_brackets src 0 n (codes "val " ++ (x.text ++ (codes " = (" ++ (text 0 g ++ (codes ") " ++ text 0 f))))) (Val x g f at)
      (val_written src x g f at h.0 (written src g h.1 0) (written src f h.2 0)) (nat_lt 0 n) refl

  all_written : (src : List ℕ) (ts : Trees) → AreFine ts → WritesAll src ts
  all_written src Nil h = no_arguments src
  all_written src (Cons t ts) h = some_arguments src t ts (written src t h.0 0) (others_written src ts h.1)

  others_written : (src : List ℕ) (ts : Trees) → AreFine ts → WritesOthers src ts
  others_written src Nil h = no_others src
  others_written src (Cons t ts) h = some_others src t ts (written src t h.0 0) (others_written src ts h.1)

-- definitions

record NamesWritten (src : List ℕ) (from : ℕ) (rest : List ℕ) (xs : List Label) : Type 0 where
  ps : List Parameter
  reads : Reads src from rest (other_tokens ps)
  same : map bare_label (names_of ps) ≡ map bare_label xs

names_end : (xs : List Label) (rest : List ℕ) → IsEnd rest → IsEnd (other_names xs ++ rest)
names_end [] rest end = end
names_end (x ∷ xs) rest end = refl

names_written : (src : List ℕ) (xs : List Label) → FineNames xs → (from : ℕ) (rest : List ℕ) → IsEnd rest → drop from src ≡ other_names xs ++ rest → NamesWritten src from rest xs
names_written src [] fine from rest end h = record { ps = []; reads = reads_none src from rest h; same = refl }
names_written src (x ∷ xs) fine from rest end h =
    let regroup : (44 ∷ 32 ∷ (x.text ++ other_names xs)) ++ rest ≡ 44 ∷ 32 ∷ (x.text ++ (other_names xs ++ rest)) = simp append_assoc in
    let a = sign_here src from 44 (32 ∷ (x.text ++ (other_names xs ++ rest))) signs.Comma refl (h ∙ regroup) in
    let b = blank src a.to 32 (x.text ++ (other_names xs ++ rest)) refl a.behind in
    let c = name_here src b.to x.text (other_names xs ++ rest) fine.0 (names_end xs rest end) b.behind in
    let d = names_written src xs fine.1 c.to rest end c.behind in
    record {
      ps = record { comma = span from (from + 1); name = placed x.text b.to } ∷ d.ps;
      reads = follows a (follows b (follows c d.reads));
      same = ap (λ (ls : List Label). bare_label x ∷ ls) d.same;
    }

record ParametersWritten (src : List ℕ) (from : ℕ) (rest : List ℕ) (xs : List Label) : Type 0 where
  ps : Parameters
  reads : Reads src from rest (parameter_tokens ps)
  same : map bare_label (labels_of ps) ≡ map bare_label xs

parameters_written : (src : List ℕ) (xs : List Label) → FineNames xs → (from : ℕ) (rest : List ℕ) → IsEnd rest → drop from src ≡ names xs ++ rest → ParametersWritten src from rest xs
parameters_written src [] fine from rest end h = record { ps = without; reads = reads_none src from rest h; same = refl }
parameters_written src (x ∷ xs) fine from rest end h =
    let a = name_here src from x.text (other_names xs ++ rest) fine.0 (names_end xs rest end) (h ∙ append_assoc x.text (other_names xs) rest) in
    let b = names_written src xs fine.1 a.to rest end a.behind in
    record { ps = given (placed x.text from) b.ps; reads = follows a b.reads; same = ap (λ (ls : List Label). bare_label x ∷ ls) b.same }

-- a definition's line up to its body
record HeadWritten (src : List ℕ) (from : ℕ) (rest : List ℕ) (d : Define) : Type 0 where
  head : Head
  reads : Reads src from rest (head_tokens head)
  name : bare_label head.name ≡ bare_label d.name
  parameters : map bare_label (labels_of head.parameters) ≡ map bare_label d.parameters

head_written : (src : List ℕ) (d : Define) → IsName d.name.text → FineNames d.parameters → (from : ℕ) (rest : List ℕ) → drop from src ≡ codes "def" ++ (32 ∷ (d.name.text ++ (40 ∷ (names d.parameters ++ (41 ∷ 32 ∷ 61 ∷ 32 ∷ rest))))) → HeadWritten src from rest d
head_written src d is fine from rest h =
    let behind : List ℕ = names d.parameters ++ (41 ∷ 32 ∷ 61 ∷ 32 ∷ rest) in
    let a = word_here src from (codes "def") (32 ∷ (d.name.text ++ (40 ∷ behind))) (is_word (codes "def") refl refl) refl h in
    let b = blank src a.to 32 (d.name.text ++ (40 ∷ behind)) refl a.behind in
    let c = name_here src b.to d.name.text (40 ∷ behind) is refl b.behind in
    let e = sign_here src c.to 40 behind signs.Open refl c.behind in
    let f = parameters_written src d.parameters fine e.to (41 ∷ 32 ∷ 61 ∷ 32 ∷ rest) refl e.behind in
    let g = sign_here src f.reads.to 41 (32 ∷ 61 ∷ 32 ∷ rest) signs.Close refl f.reads.behind in
    let i = assign_here src g.to rest g.behind in
    record {
      head = record { keyword = span from (from + 3); name = placed d.name.text b.to; opening = span c.to (c.to + 1); parameters = f.ps; closing = span f.reads.to (f.reads.to + 1); equals = i.at };
      reads = follows a (follows b (follows c (follows e (follows f.reads (follows g i.reads)))));
      name = refl;
      parameters = f.same;
    }

-- programs

record ProgramWritten (src : List ℕ) (from : ℕ) (s : Source) : Type 0 where
  program : Program
  reads : Reads src from [] (program_tokens program)
  grammar : IsProgram program
  same : bare_source (source program) ≡ bare_source s

abbrev source_of : List Define → Tree → Source
source_of ds t = record { definitions = ds; main = t }

main_written : (src : List ℕ) (t : Tree) → Fine t → (from : ℕ) → drop from src ≡ text 0 t ++ codes "\n" → ProgramWritten src from (source_of [] t)
main_written src t fine from h =
    let a = written src t fine 0 from (codes "\n") refl h in
    let b = blank src a.reads.to 10 [] refl a.reads.behind in
    record {
      program = main a.w;
      reads = subst (λ (ts : List Lexeme). Reads src from [] ts) (append-nil (tokens a.w)) (follows a.reads b);
      grammar = a.grammar;
      same = ap (λ (u : Tree). source_of [] u) a.same;
    }

same_define : {ds es : List Define} {v w : Tree} {f g : Label} {xs ys : List Label} {t u : Tree} → f ≡ g → xs ≡ ys → t ≡ u → source_of ds v ≡ source_of es w
    → source_of (record { name = f; parameters = xs; body = t } ∷ ds) v ≡ source_of (record { name = g; parameters = ys; body = u } ∷ es) w
same_define {ds} {es} {v} {w} {g = g} {ys = ys} {u = u} e p q r =
    ap (λ (d : Define). source_of (d ∷ ds) v) (λ i. record { name = e i; parameters = p i; body = q i })
    ∙ ap (λ (s : Source). source_of (record { name = g; parameters = ys; body = u } ∷ s.definitions) s.main) r

define_written : (src : List ℕ) (d : Define) (ds : List Define) (t : Tree) → FineDefine d → ((from : ℕ) → drop from src ≡ definitions ds ++ (text 0 t ++ codes "\n") → ProgramWritten src from (source_of ds t))
    → (from : ℕ) → drop from src ≡ (definition d ++ definitions ds) ++ (text 0 t ++ codes "\n") → ProgramWritten src from (source_of (d ∷ ds) t)
define_written src d ds t fine writes from h =
    let behind : List ℕ = definitions ds ++ (text 0 t ++ codes "\n") in
    let tail : List ℕ = 40 ∷ (text 0 d.body ++ 41 ∷ 10 ∷ behind) in
    let regroup : (definition d ++ definitions ds) ++ (text 0 t ++ codes "\n") ≡ codes "def" ++ (32 ∷ (d.name.text ++ (40 ∷ (names d.parameters ++ (41 ∷ 32 ∷ 61 ∷ 32 ∷ tail))))) = simp append_assoc in
    let a = head_written src d fine.0 fine.1 from tail (h ∙ regroup) in
    let b = enclosed src (text 0 d.body) d.body (written src d.body fine.2 0) a.reads.to (10 ∷ behind) a.reads.behind in
    let c = blank src b.reads.to 10 behind refl b.reads.behind in
    let e = writes c.to c.behind in
    record {
      program = define a.head (brackets b.opening b.w b.closing) e.program;
      reads = follows a.reads (follows b.reads (follows c e.reads));
      grammar = (b.grammar, refl, e.grammar);
      same = same_define a.name a.parameters b.same e.same;
    }

program_written : (src : List ℕ) (ds : List Define) (t : Tree) → FineDefines ds → Fine t → (from : ℕ) → drop from src ≡ definitions ds ++ (text 0 t ++ codes "\n") → ProgramWritten src from (source_of ds t)
program_written src [] t fine whole from h = main_written src t whole from h
program_written src (d ∷ ds) t fine whole from h = define_written src d ds t fine.0 (program_written src ds t fine.1 whole) from h

-- what was read up to the end is the whole text
whole_read : (src : List ℕ) (ts : List Lexeme) → Reads src 0 [] ts → Cut src ts (length src)
whole_read src ts r =
    let cut : Cut src ts r.to = (r.ps, r.pieces, r.are) in
    let e : r.to ≡ length src = omega (arith, cut_in src ts r.to cut, length-drop r.to src, ap length r.behind) in
    subst (Cut src ts) e cut

tokens_same : (s : Source) → FineSource s → (t : Source) × IsSame t s × SpellsTokens (printed s) t
tokens_same s fine =
    let p = program_written (printed s) s.definitions s.main fine.0 fine.1 0 refl in
    (source p.program, p.same, (program_tokens p.program, whole_read (printed s) _ p.reads, (p.program, p.grammar, refl, refl)))

-- what is printed of a program that a text spells
pub printed_same : (src : List ℕ) (s : Source) → SpellsText src s → SpellsSame (printed s) s
printed_same src s spells =
    let fine : FineSource s = fine_spelled src spells.2.0 (length src) s spells.2.1 spells.2.2 in
    let r = tokens_same s fine in
    (r.0, r.1, printed_utf8 s fine, r.2)

pub appended_same : (src : List ℕ) (s : Source) (old new : List ℕ) → SpellsText src s → new ≡ old ++ printed s → AppendsSame old new s
appended_same src s old new spells e = (printed s, e, printed_same src s spells)

-- it spells nothing else
pub printed_only : (src : List ℕ) (s t : Source) → SpellsText src s → SpellsText (printed s) t → IsSame t s
printed_only src s t spells again =
    let r = printed_same src s spells in
    ap bare_source (one_source (printed s) t r.0 again.2 r.3) ∙ r.1
