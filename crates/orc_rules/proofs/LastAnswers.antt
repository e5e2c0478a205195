-- From the last answer of its line on, all calls are answered alike.
use Rattle.std.proofs.Common.{◌≡◌, ◌≤◌, ◌-◌, ℕ, zero, suc, List, [], ◌∷◌, length, Bool, true, false, Option, Some, None, refl, sym, ap, ◌∙◌, arith}
use Rattle.std.specs.Prelude.{cond, slice_get}
use Rattle.orc_rules.specs.declared.value.Value.{Value}
use Rattle.orc_rules.specs.declared.value.Found.{Found}
use Rattle.orc_rules.specs.Sites.{Line, Site, built_in, scripted, matches, nth_answer, line_answer, last_of_line, site_answer, last_answer, find}

past_the_last : (a : Found) (behind : List Found) (n : ℕ) → length behind ≤ n → nth_answer (a ∷ behind) n ≡ nth_answer (a ∷ behind) (length behind)
past_the_last a [] n within = refl
past_the_last a (b ∷ behind) zero within = absurd (omega (arith, within))
past_the_last a (b ∷ behind) (suc n) within = past_the_last b behind n (omega (arith, within))

of_answers : (answers : List Found) (n : ℕ) → length answers - 1 ≤ n → nth_answer answers n ≡ nth_answer answers (length answers - 1)
of_answers [] n within = refl
of_answers (a ∷ behind) n within =
    let one_less : suc (length behind) - 1 ≡ length behind = omega (arith) in
    past_the_last a behind n (omega (arith, one_less, within)) ∙ ap (nth_answer (a ∷ behind)) (sym one_less)

of_line : (answers : List Found) (more : List Line) (args : List Value) (b : Bool) → ((n : ℕ) → last_of_line more args ≤ n → line_answer more args n ≡ line_answer more args (last_of_line more args))
    → (n : ℕ) → cond b (length answers - 1) (last_of_line more args) ≤ n
    → cond b (nth_answer answers n) (line_answer more args n) ≡ cond b (nth_answer answers (cond b (length answers - 1) (last_of_line more args))) (line_answer more args (cond b (length answers - 1) (last_of_line more args)))
of_line answers more args true rest n within = of_answers answers n within
of_line answers more args false rest n within = rest n within

of_lines : (ls : List Line) (args : List Value) (n : ℕ) → last_of_line ls args ≤ n → line_answer ls args n ≡ line_answer ls args (last_of_line ls args)
of_lines [] args n within = refl
of_lines (l ∷ ls) args n within = of_line l.answers ls args (matches l.patterns args) (of_lines ls args) n within

one_less : (n : ℕ) → suc n - 1 ≡ n
one_less n = omega (arith)

of_site : (s : Option Site) (args : List Value) (n : ℕ) → last_answer s args ≤ n → site_answer s args (suc n) ≡ site_answer s args (suc (last_answer s args))
of_site None args n within = refl
of_site (Some (built_in b)) args n within = refl
of_site (Some (scripted ls)) args n within =
    ap (line_answer ls args) (one_less n) ∙ of_lines ls args n within ∙ ap (line_answer ls args) (sym (one_less (last_of_line ls args)))

pub answered_alike : (sites : List Site) (m : ℕ) (args : List Value) (n : ℕ) → last_answer (slice_get sites m) args ≤ n → find sites m args (suc n) ≡ find sites m args (suc (last_answer (slice_get sites m) args))
answered_alike sites m args n within = of_site (slice_get sites m) args n within
