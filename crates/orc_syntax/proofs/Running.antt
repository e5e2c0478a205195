-- Runs over lists of tokens, one after the other.
use Rattle.std.proofs.Common.{◌≡◌, ℕ, List, [], ◌∷◌, ◌++◌, Result, Ok, Err, refl, ap}
use Rattle.orc_lex.specs.declared.token.What.{What}
use Rattle.orc_lex.specs.Tokens.{Lexeme}
use Rattle.orc_syntax.specs.Machine.{State, step, Refusal, then_run, run}

-- a step that did not fail
pub then_ok : (go : State → Result State Refusal) (at : ℕ) (r : Result State What) (z : State) → then_run go at r ≡ Ok z → (s : State) × (r ≡ Ok s) × (go s ≡ Ok z)
then_ok go at (Ok s) z e = (s, refl, e)
then_ok go at (Err what) z e = absurd cc

pub run_append : (a b : List Lexeme) (s z : State) → run a s ≡ Ok z → run (a ++ b) s ≡ run b z
run_append [] b s z e = ap (run b) cc
run_append (t ∷ a) b s z e =
    let h = then_ok (run a) t.span.start (step s t) z e in
    rw h.1 (run_append a b h.0 z h.2)

pub run_one : (t : Lexeme) (b : List Lexeme) (s z : State) → step s t ≡ Ok z → run (t ∷ b) s ≡ run b z
run_one t b s z e = rw e refl
