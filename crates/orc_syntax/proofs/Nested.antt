-- The parts of what is written stand inside it.
use Rattle.std.proofs.Common.{◌≡◌, ℕ, ◌≤◌, List, [], ◌∷◌, ◌++◌, sym, subst, ◌∙◌, append_assoc, arith}
use Rattle.std.proofs.lemmas.List.{append-nil}
use Rattle.orc_lex.specs.declared.token.Joint.TheVariants as joints
use Rattle.orc_lex.specs.declared.token.Side.TheVariants as sides
use Rattle.orc_lex.specs.Tokens.{Lexeme, Close, Comma, token}
use Rattle.orc_lex.specs.Lexing.{Piece, Gap, Item, Bad, Pieces, lexemes}
use Rattle.orc_lex.proofs.Unique.{piece_on}
use Rattle.orc_syntax.specs.Tree.{Source, span_of}
use Rattle.orc_syntax.specs.Grammar.{Sign, Single, Double, Writing, plain, name, call, brackets, operation, binding, Writings, nothing, last, more, Program, main, define, sign_tokens, link, tokens, tokens_of_all, head_tokens, program_tokens, start_of, end_of, span, tree, trees_of, definitions, main_of}
use Rattle.orc_syntax.specs.Text.{SpellsText}
use Rattle.orc_syntax.specs.Nested.{IsVariableInside, IsNested, AreNested, AreBodiesNested, IsAllNested}
use Rattle.orc_syntax.proofs.Cuts.{token_at}

-- tokens that stand one behind the other
abbrev Ascends : ℕ → List Lexeme → ℕ → Type 0
Ascends low [] high = low ≤ high
Ascends low (t ∷ ts) high = (low ≤ t.span.start) × (t.span.start ≤ t.span.end) × Ascends t.span.end ts high

lower : (low from : ℕ) (ts : List Lexeme) (high : ℕ) → low ≤ from → Ascends from ts high → Ascends low ts high
lower low from [] high le h = omega (arith, le, h)
lower low from (t ∷ ts) high le h = (omega (arith, le, h.0), h.1, h.2)

pieces_ascend : (src : List ℕ) (from : ℕ) (ps : List Piece) (to : ℕ) → Pieces src from ps to → Ascends from (lexemes ps) to
pieces_ascend src from [] to h = omega (arith, h)
pieces_ascend src from (Gap e ∷ ps) to h = lower from e (lexemes ps) to (omega (arith, piece_on src from (Gap e) h.0)) (pieces_ascend src e ps to h.1)
pieces_ascend src from (Item t ∷ ps) to h =
    let at = token_at src from t h.0 in
    (omega (arith, at), omega (arith, at, piece_on src from (Item t) h.0), pieces_ascend src t.span.end ps to h.1)
pieces_ascend src from (Bad why ∷ ps) to h = absurd h

-- an expression among its neighbours
record Placed (w : Writing) (low : ℕ) (rest : List Lexeme) (high : ℕ) : Type 0 where
  begins : low ≤ start_of w
  ends : start_of w ≤ end_of w
  on : Ascends (end_of w) rest high
  starts : start_of w ≤ (span_of (tree w)).start
  stops : (span_of (tree w)).end ≤ end_of w
  nested : IsNested (tree w)

-- arguments among theirs
record AllPlaced (ws : Writings) (low : ℕ) (rest : List Lexeme) (high : ℕ) : Type 0 where
  to : ℕ
  ends : low ≤ to
  on : Ascends to rest high
  nested : (from end : ℕ) → from ≤ low → to ≤ end → AreNested (trees_of ws) (span from end)

-- an operator between its sides
record SignPlaced (sign : Sign) (low : ℕ) (rest : List Lexeme) (high : ℕ) : Type 0 where
  to : ℕ
  ends : low ≤ to
  on : Ascends to rest high
  variable : (from end : ℕ) → from ≤ low → to ≤ end → IsVariableInside (link sign) (span from end)

sign_placed : (sign : Sign) (low : ℕ) (rest : List Lexeme) (high : ℕ) → Ascends low (sign_tokens sign ++ rest) high → SignPlaced sign low rest high
sign_placed (Single joints.Seq at) low rest high h = record { to = at.end; ends = omega (arith, h.0, h.1); on = h.2; variable = λ from end a b. tt }
sign_placed (Single joints.Par at) low rest high h = record { to = at.end; ends = omega (arith, h.0, h.1); on = h.2; variable = λ from end a b. tt }
sign_placed (Single joints.Prune at) low rest high h = record { to = at.end; ends = omega (arith, h.0, h.1); on = h.2; variable = λ from end a b. tt }
sign_placed (Single joints.Other at) low rest high h = record { to = at.end; ends = omega (arith, h.0, h.1); on = h.2; variable = λ from end a b. tt }
sign_placed (Double sides.Right p x q) low rest high h = record {
  to = q.end;
  ends = omega (arith, h.0, h.1, h.2.0, h.2.1, h.2.2.0, h.2.2.1);
  on = h.2.2.2;
  variable = λ from end a b. (omega (arith, a, h.0, h.1, h.2.0), omega (arith, b, h.2.2.0, h.2.2.1));
}
sign_placed (Double sides.Left p x q) low rest high h = record {
  to = q.end;
  ends = omega (arith, h.0, h.1, h.2.0, h.2.1, h.2.2.0, h.2.2.1);
  on = h.2.2.2;
  variable = λ from end a b. (omega (arith, a, h.0, h.1, h.2.0), omega (arith, b, h.2.2.0, h.2.2.1));
}

ascends_as : (ts us : List Lexeme) (low high : ℕ) → ts ≡ us → Ascends low ts high → Ascends low us high
ascends_as ts us low high e h = subst (λ (vs : List Lexeme). Ascends low vs high) e h

mutual
  placed : (w : Writing) (low : ℕ) (rest : List Lexeme) (high : ℕ) → Ascends low (tokens w ++ rest) high → Placed w low rest high
  placed (plain p at) low rest high h = record { begins = h.0; ends = h.1; on = h.2; starts = omega arith; stops = omega arith; nested = tt }
  placed (name x) low rest high h = record { begins = h.0; ends = h.1; on = h.2; starts = omega arith; stops = omega arith; nested = tt }
  placed (brackets o w c) low rest high h =
      let r = placed w o.end (token Close c ∷ rest) high (ascends_as _ _ o.end high (append_assoc (tokens w) (token Close c ∷ []) rest) h.2) in
      record {
        begins = h.0;
        ends = omega (arith, h.1, r.begins, r.ends, r.on.0, r.on.1);
        on = r.on.2;
        starts = omega (arith, h.1, r.begins, r.starts);
        stops = omega (arith, r.stops, r.on.0, r.on.1);
        nested = r.nested;
      }
  placed (call x o ws c) low rest high h =
      let r = all_placed ws o.end (token Close c ∷ rest) high (ascends_as _ _ o.end high (append_assoc (tokens_of_all ws) (token Close c ∷ []) rest) h.2.2) in
      let end : x.span.end ≤ c.end = omega (arith, h.2.0, h.2.1, r.ends, r.on.0, r.on.1) in
      record {
        begins = h.0;
        ends = omega (arith, h.1, end);
        on = r.on.2;
        starts = omega arith;
        stops = omega arith;
        nested = ((omega arith, end), r.nested x.span.start c.end (omega (arith, h.1, h.2.0, h.2.1)) (omega (arith, r.on.0, r.on.1)));
      }
  placed (operation sign f g) low rest high h =
      let l = placed f low ((sign_tokens sign ++ tokens g) ++ rest) high (ascends_as _ _ low high (append_assoc (tokens f) (sign_tokens sign ++ tokens g) rest) h) in
      let s = sign_placed sign (end_of f) (tokens g ++ rest) high (ascends_as _ _ (end_of f) high (append_assoc (sign_tokens sign) (tokens g) rest) l.on) in
      let r = placed g s.to rest high s.on in
      record {
        begins = l.begins;
        ends = omega (arith, l.ends, s.ends, r.begins, r.ends);
        on = r.on;
        starts = omega arith;
        stops = omega arith;
        nested = (
          s.variable (start_of f) (end_of g) l.ends (omega (arith, r.begins, r.ends)),
          ((l.starts, omega (arith, l.stops, s.ends, r.begins, r.ends)), l.nested),
          ((omega (arith, l.ends, s.ends, r.begins, r.starts), r.stops), r.nested),
        );
      }
  placed (binding v x e g f) low rest high h =
      let l = placed g e.end (tokens f ++ rest) high (ascends_as _ _ e.end high (append_assoc (tokens g) (tokens f) rest) h.2.2.2) in
      let r = placed f (end_of g) rest high l.on in
      record {
        begins = h.0;
        ends = omega (arith, h.1, h.2.0, h.2.1, h.2.2.0, h.2.2.1, l.begins, l.ends, r.begins, r.ends);
        on = r.on;
        starts = omega arith;
        stops = omega arith;
        nested = (
          (omega (arith, h.1, h.2.0), omega (arith, h.2.2.0, h.2.2.1, l.begins, l.ends, r.begins, r.ends)),
          ((omega (arith, h.1, h.2.0, h.2.1, h.2.2.0, h.2.2.1, l.begins, l.starts), omega (arith, l.stops, r.begins, r.ends)), l.nested),
          ((omega (arith, h.1, h.2.0, h.2.1, h.2.2.0, h.2.2.1, l.begins, l.ends, r.begins, r.starts), r.stops), r.nested),
        );
      }

  all_placed : (ws : Writings) (low : ℕ) (rest : List Lexeme) (high : ℕ) → Ascends low (tokens_of_all ws ++ rest) high → AllPlaced ws low rest high
  all_placed nothing low rest high h = record { to = low; ends = omega arith; on = h; nested = λ from end a b. tt }
  all_placed (last w) low rest high h =
      let r = placed w low rest high h in
      record { to = end_of w; ends = omega (arith, r.begins, r.ends); on = r.on; nested = λ from end a b. (((omega (arith, a, r.begins, r.starts), omega (arith, b, r.stops)), r.nested), tt) }
  all_placed (more w comma ws) low rest high h =
      let r = placed w low (token Comma comma ∷ (tokens_of_all ws ++ rest)) high (ascends_as _ _ low high (append_assoc (tokens w) (token Comma comma ∷ tokens_of_all ws) rest) h) in
      let s = all_placed ws comma.end rest high r.on.2 in
      record {
        to = s.to;
        ends = omega (arith, r.begins, r.ends, r.on.0, r.on.1, s.ends);
        on = s.on;
        nested = λ from end a b. (
          ((omega (arith, a, r.begins, r.starts), omega (arith, b, r.stops, r.on.0, r.on.1, s.ends)), r.nested),
          s.nested from end (omega (arith, a, r.begins, r.ends, r.on.0, r.on.1)) b,
        );
      }

-- the tokens behind others
behind : (ts rest : List Lexeme) (low high : ℕ) → Ascends low (ts ++ rest) high → (from : ℕ) × Ascends from rest high
behind [] rest low high h = (low, h)
behind (t ∷ ts) rest low high h = behind ts rest t.span.end high h.2

program_placed : (p : Program) (low high : ℕ) → Ascends low (program_tokens p) high → AreBodiesNested (definitions p) × IsNested (main_of p)
program_placed (main w) low high h = (tt, (placed w low [] high (ascends_as _ _ low high (sym (append-nil (tokens w))) h)).nested)
program_placed (define head body rest) low high h =
    let b = behind (head_tokens head) (tokens body ++ program_tokens rest) low high h in
    let w = placed body b.0 (program_tokens rest) high b.1 in
    let r = program_placed rest (end_of body) high w.on in
    ((w.nested, r.0), r.1)

-- In what a text spells, each part stands inside its whole.
pub all_nested : (src : List ℕ) (s : Source) → SpellsText src s → IsAllNested s
all_nested src s h =
    let p : Program = h.2.2.0 in
    let up : Ascends 0 (program_tokens p) _ = ascends_as _ _ 0 _ (h.2.1.2 ∙ sym h.2.2.2) (pieces_ascend src 0 h.2.1.0 _ h.2.1.1) in
    subst IsAllNested h.2.2.3 (program_placed p 0 _ up)
