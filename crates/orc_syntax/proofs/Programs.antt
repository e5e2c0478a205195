-- A program of the grammar is read, with its nodes.
use Rattle.std.proofs.Common.{◌≡◌, List, [], ◌∷◌, ◌++◌, map, Result, Ok, refl, sym, ap, ◌∙◌, append_assoc}
use Rattle.std.proofs.lemmas.List.{append-nil}
use Rattle.orc_lex.specs.declared.token.Span.{Span}
use Rattle.orc_lex.specs.declared.token.What.{What}
use Rattle.orc_lex.specs.Tokens.{Open, Close, Assign, Def, Lexeme, token}
use Rattle.orc_syntax.specs.Tree.{Label, Item, Define, Source, post}
use Rattle.orc_syntax.specs.Grammar.{Writing, plain, name, call, brackets, operation, binding, Parameter as Other_parameter, Parameters, without, given, Head, Program, main, define, word, link, tokens, other_tokens, parameter_tokens, head_tokens, program_tokens, start_of, tree, names_of, labels_of, definitions, main_of, program_begins_in_bracket, IsApart, IsAt, IsProgram, Spells}
use Rattle.orc_syntax.specs.Machine.{Frame, Before, Op, Bind, Body, Parameter, Want, Heads, Defined, Context, State, state, reduce, defined, step, run, Posted, whole, finish, start}
use Rattle.orc_syntax.proofs.Running.{run_append}
use Rattle.orc_syntax.proofs.Complete.{final, after, settles, complete, follows, begins_next, goes_on}

abbrev pub context_of : List Defined → List Label → Context
context_of ds ps = record { definitions = ds; parameters = ps }

-- a definition with its nodes
abbrev pub posted_define : Define → Defined
posted_define e = record { name = e.name; parameters = e.parameters; body = post e.body }

-- a program with its nodes
abbrev pub posted : Source → Posted
posted s = record { definitions = map posted_define s.definitions; main = post s.main }

-- the parameters behind the first one
items : (f : Label) (ps : List Label) (others : List Other_parameter) (closing equals : Span) (ds : List Defined) (ns : List Item) (k : List Frame) (rest : List Lexeme)
    → run (other_tokens others ++ (token Close closing ∷ token Assign equals ∷ rest)) (state (Heads (Parameter f)) (context_of ds ps) ns k) ≡ run rest (state Want (context_of ds (ps ++ names_of others)) ns (Body f ∷ k))
unfolding step
items f ps [] closing equals ds ns k rest = ap (λ (qs : List Label). run rest (state Want (context_of ds qs) ns (Body f ∷ k))) (sym (append-nil ps))
items f ps (p ∷ others) closing equals ds ns k rest = items f (ps ++ p.name ∷ []) others closing equals ds ns k rest ∙ ap (λ (qs : List Label). run rest (state Want (context_of ds qs) ns (Body f ∷ k))) (append_assoc ps (p.name ∷ []) (names_of others))

def_words : (keyword : Span) (f : Label) (opening : Span) (ps : Parameters) (closing equals : Span) (ds : List Defined) (ns : List Item) (rest : List Lexeme)
    → run (token Def keyword ∷ word f ∷ token Open opening ∷ (parameter_tokens ps ++ (token Close closing ∷ token Assign equals ∷ rest))) (state Want (context_of ds []) ns []) ≡ run rest (state Want (context_of ds (labels_of ps)) ns (Body f ∷ []))
unfolding step
def_words keyword f opening without closing equals ds ns rest = refl
def_words keyword f opening (given first others) closing equals ds ns rest = items f (first ∷ []) others closing equals ds ns [] rest

-- the head of a definition
pub def_head : (h : Head) (ds : List Defined) (ns : List Item) (rest : List Lexeme) → run (head_tokens h ++ rest) (state Want (context_of ds []) ns []) ≡ run rest (state Want (context_of ds (labels_of h.parameters)) ns (Body h.name ∷ []))
def_head h ds ns rest =
    ap (λ (ts : List Lexeme). run (token Def h.keyword ∷ word h.name ∷ token Open h.opening ∷ ts) (state Want (context_of ds []) ns [])) (append_assoc (parameter_tokens h.parameters) _ rest)
    ∙ def_words h.keyword h.name h.opening h.parameters h.closing h.equals ds ns rest

-- what follows the body of a definition
program_follows : (p : Program) (g : Writing) (f : Label) (d : Context) (ns : List Item) → IsAt 0 g → IsApart g (program_begins_in_bracket p)
    → run (program_tokens p) (after g d ns (Body f ∷ [])) ≡ run (program_tokens p) (state Want (defined f (ns ++ post (tree g)) d) [] [])
program_follows (main w) g f d ns h apart =
    ap (λ (ts : List Lexeme). run ts (after g d ns (Body f ∷ []))) (sym (append-nil (tokens w)))
    ∙ follows w g (Body f) d ns [] [] tt h apart
    ∙ ap (λ (ts : List Lexeme). run ts (state Want (defined f (ns ++ post (tree g)) d) [] [])) (append-nil (tokens w))
program_follows (define head body rest) g f d ns h apart =
    begins_next g (Body f) d ns [] Def head.keyword (word head.name ∷ token Open head.opening ∷ ((parameter_tokens head.parameters ++ token Close head.closing ∷ token Assign head.equals ∷ []) ++ (tokens body ++ program_tokens rest))) tt h tt (goes_on g d ns (Body f ∷ []) Def head.keyword tt)

abbrev pub one_made : Head → Writing → Defined
one_made head body = record { name = head.name; parameters = labels_of head.parameters; body = post (tree body) }

-- the state behind a program
abbrev pub after_program : Program → List Defined → State
after_program (main w) ds = after w (context_of ds []) [] []
after_program (define head body rest) ds = after_program rest (ds ++ one_made head body ∷ [])

complete_program : (p : Program) (ds : List Defined) → IsProgram p → run (program_tokens p) (state Want (context_of ds []) [] []) ≡ Ok (after_program p ds)
complete_program (main w) ds h = complete w 0 (context_of ds []) [] [] h tt
complete_program (define head body rest) ds h =
    def_head head ds [] (tokens body ++ program_tokens rest)
    ∙ run_append (tokens body) (program_tokens rest) _ _ (complete body 0 (context_of ds (labels_of head.parameters)) [] (Body head.name ∷ []) h.0 tt)
    ∙ program_follows rest body head.name (context_of ds (labels_of head.parameters)) [] h.0 h.1
    ∙ complete_program rest (ds ++ one_made head body ∷ []) h.2

ends_at : (w : Writing) (d : Context) (ns : List Item) (k : List Frame) → finish (after w d ns k) ≡ whole d (reduce 0 (final w ns k).operand (final w ns k).nodes (final w ns k).frames)
ends_at (plain p at) d ns k = refl
ends_at (name x) d ns k = refl
ends_at (call x o ws c) d ns k = refl
ends_at (brackets o w c) d ns k = refl
ends_at (operation sign l r) d ns k = ends_at r d (ns ++ post (tree l)) (Before (Op (link sign)) (start_of l) ∷ k)
ends_at (binding v x e g f) d ns k = ends_at f d (ns ++ post (tree g)) (Before (Bind x) v.start ∷ k)

abbrev read_as : List Defined → List Item → Result Posted What
read_as ds ns = Ok (record { definitions = ds; main = ns })

ends_program : (p : Program) (ds : List Defined) → IsProgram p → finish (after_program p ds) ≡ read_as (ds ++ map posted_define (definitions p)) (post (main_of p))
ends_program (main w) ds h = ends_at w (context_of ds []) [] [] ∙ ap (whole (context_of ds [])) (settles w 0 [] [] h) ∙ ap (λ (es : List Defined). read_as es (post (tree w))) (sym (append-nil ds))
ends_program (define head body rest) ds h =
    ends_program rest (ds ++ one_made head body ∷ []) h.2 ∙ ap (λ (es : List Defined). read_as es (post (main_of rest))) (append_assoc ds (one_made head body ∷ []) (map posted_define (definitions rest)))

-- what tokens of the grammar lead to
pub record Reads (ts : List Lexeme) (s : Source) : Type 0 where
  pub z : State
  pub runs : run ts start ≡ Ok z
  pub ends : finish z ≡ Ok (posted s)

-- what spells a program is read as it
pub reads : (ts : List Lexeme) (s : Source) → Spells ts s → Reads ts s
reads ts s h = record {
  z = after_program h.0 [];
  runs = ap (λ (us : List Lexeme). run us start) (sym h.2) ∙ complete_program h.0 [] h.1;
  ends = ends_program h.0 [] h.1 ∙ ap (λ (u : Source). read_as (map posted_define u.definitions) (post u.main)) h.3;
}
