-- The places of services, as they are gathered.
use Rattle.std.proofs.Common.{◌≡◌, ℕ, zero, suc, ◌+◌, ◌<◌, Bool, true, false, cond, List, [], ◌∷◌, ◌++◌, Option, Some, None, length, drop, get_or, refl, sym, ap, ◌∙◌, arith}
use Rattle.std.specs.Prelude.{slice_get}
use Rattle.std.proofs.lemmas.List.{append_assoc, drop_more}
use Rattle.orc_ways.specs.declared.test.ServiceLine.{ServiceLine as CodeServiceLine}
use Rattle.orc_ways.specs.Lines.{Service}
use Rattle.orc_ways.specs.Values.{service_of}
use Rattle.orc_ways.specs.Drafting.{service_line_of, service_lines_of}
use Rattle.orc_cases.specs.Services.{is_own, own, is_kept, kept}
use Rattle.orc_cases.specs.Values.{service_there, services_at, with_service}

found : (ls : List CodeServiceLine) (i : ℕ) (x : CodeServiceLine) → i < length ls → x ≡ get_or ls i x → slice_get ls i ≡ Some x
found [] i x lt e = absurd (omega arith)
found (y ∷ ls) zero x lt e = ap (λ (z : CodeServiceLine). Some z) (sym e)
found (y ∷ ls) (suc i) x lt e = found ls i x (omega arith) e

with_more : (o : Option Service) (ss ts : List Service) → with_service o (ss ++ ts) ≡ with_service o ss ++ ts
with_more (Some s) ss ts = refl
with_more None ss ts = refl

pub services_at-append : (ls : List CodeServiceLine) (ms ns : List ℕ) → services_at ls (ms ++ ns) ≡ services_at ls ms ++ services_at ls ns
services_at-append ls [] ns = refl
services_at-append ls (m ∷ ms) ns = ap (λ (ss : List Service). with_service (service_there (slice_get ls m)) ss) (services_at-append ls ms ns) ∙ with_more (service_there (slice_get ls m)) (services_at ls ms) (services_at ls ns)

at_push : (ls : List CodeServiceLine) (ns : List ℕ) (i : ℕ) (x : CodeServiceLine) → i < length ls → x ≡ get_or ls i x → services_at ls (ns ++ i ∷ []) ≡ services_at ls ns ++ service_of x.service ∷ []
at_push ls ns i x lt e = services_at-append ls ns (i ∷ []) ∙ ap (λ (o : Option CodeServiceLine). services_at ls ns ++ with_service (service_there o) []) (found ls i x lt e)

-- what is left begins with the line
begins : (ls : List CodeServiceLine) (i : ℕ) (x : CodeServiceLine) → i < length ls → x ≡ get_or ls i x → drop i ls ≡ x ∷ drop (i + 1) ls
begins ls i x lt e = drop_more ls i x lt ∙ ap (λ (y : CodeServiceLine). y ∷ drop (i + 1) ls) (sym e)

own_if : (case : ℕ) (x : CodeServiceLine) (rest : List CodeServiceLine) (b : Bool) → is_own case x.case ≡ b → own case (service_lines_of (x ∷ rest)) ≡ cond b (service_of x.service ∷ own case (service_lines_of rest)) (own case (service_lines_of rest))
own_if case x rest b e = ap (λ (v : Bool). cond v (service_of x.service ∷ own case (service_lines_of rest)) (own case (service_lines_of rest))) e

own_left : (case : ℕ) (ls : List CodeServiceLine) (i : ℕ) (x : CodeServiceLine) (b : Bool) → i < length ls → x ≡ get_or ls i x → is_own case x.case ≡ b → own case (service_lines_of (drop i ls)) ≡ cond b (service_of x.service ∷ own case (service_lines_of (drop (i + 1) ls))) (own case (service_lines_of (drop (i + 1) ls)))
own_left case ls i x b lt e is = ap (λ (rest : List CodeServiceLine). own case (service_lines_of rest)) (begins ls i x lt e) ∙ own_if case x (drop (i + 1) ls) b is

pub own_more : (case : ℕ) (ls : List CodeServiceLine) (ns ms : List ℕ) (i : ℕ) (x : CodeServiceLine) (total : List Service) → i < length ls → x ≡ get_or ls i x → is_own case x.case ≡ true → ms ≡ ns ++ i ∷ [] → services_at ls ns ++ own case (service_lines_of (drop i ls)) ≡ total → services_at ls ms ++ own case (service_lines_of (drop (i + 1) ls)) ≡ total
own_more case ls ns ms i x total lt e is pushed so_far =
    ap (λ (ks : List ℕ). services_at ls ks ++ own case (service_lines_of (drop (i + 1) ls))) pushed
    ∙ ap (λ (ss : List Service). ss ++ own case (service_lines_of (drop (i + 1) ls))) (at_push ls ns i x lt e)
    ∙ append_assoc (services_at ls ns) (service_of x.service ∷ []) (own case (service_lines_of (drop (i + 1) ls)))
    ∙ ap (λ (ss : List Service). services_at ls ns ++ ss) (sym (own_left case ls i x true lt e is))
    ∙ so_far

pub own_less : (case : ℕ) (ls : List CodeServiceLine) (ns ms : List ℕ) (i : ℕ) (x : CodeServiceLine) (total : List Service) → i < length ls → x ≡ get_or ls i x → is_own case x.case ≡ false → ms ≡ ns → services_at ls ns ++ own case (service_lines_of (drop i ls)) ≡ total → services_at ls ms ++ own case (service_lines_of (drop (i + 1) ls)) ≡ total
own_less case ls ns ms i x total lt e is same so_far = ap (λ (ks : List ℕ). services_at ls ks ++ own case (service_lines_of (drop (i + 1) ls))) same ∙ ap (λ (ss : List Service). services_at ls ns ++ ss) (sym (own_left case ls i x false lt e is)) ∙ so_far

-- ---- the same of those of `given`

kept_if : (ss : List Service) (x : CodeServiceLine) (rest : List CodeServiceLine) (b : Bool) → is_kept ss (service_line_of x) ≡ b → kept ss (service_lines_of (x ∷ rest)) ≡ cond b (service_of x.service ∷ kept ss (service_lines_of rest)) (kept ss (service_lines_of rest))
kept_if ss x rest b e = ap (λ (v : Bool). cond v (service_of x.service ∷ kept ss (service_lines_of rest)) (kept ss (service_lines_of rest))) e

kept_left : (ss : List Service) (ls : List CodeServiceLine) (i : ℕ) (x : CodeServiceLine) (b : Bool) → i < length ls → x ≡ get_or ls i x → is_kept ss (service_line_of x) ≡ b → kept ss (service_lines_of (drop i ls)) ≡ cond b (service_of x.service ∷ kept ss (service_lines_of (drop (i + 1) ls))) (kept ss (service_lines_of (drop (i + 1) ls)))
kept_left ss ls i x b lt e is = ap (λ (rest : List CodeServiceLine). kept ss (service_lines_of rest)) (begins ls i x lt e) ∙ kept_if ss x (drop (i + 1) ls) b is

pub kept_more : (ss : List Service) (ls : List CodeServiceLine) (ns ms : List ℕ) (i : ℕ) (x : CodeServiceLine) (total : List Service) → i < length ls → x ≡ get_or ls i x → is_kept ss (service_line_of x) ≡ true → ms ≡ ns ++ i ∷ [] → services_at ls ns ++ kept ss (service_lines_of (drop i ls)) ≡ total → services_at ls ms ++ kept ss (service_lines_of (drop (i + 1) ls)) ≡ total
kept_more ss ls ns ms i x total lt e is pushed so_far =
    ap (λ (ks : List ℕ). services_at ls ks ++ kept ss (service_lines_of (drop (i + 1) ls))) pushed
    ∙ ap (λ (ts : List Service). ts ++ kept ss (service_lines_of (drop (i + 1) ls))) (at_push ls ns i x lt e)
    ∙ append_assoc (services_at ls ns) (service_of x.service ∷ []) (kept ss (service_lines_of (drop (i + 1) ls)))
    ∙ ap (λ (ts : List Service). services_at ls ns ++ ts) (sym (kept_left ss ls i x true lt e is))
    ∙ so_far

pub kept_less : (ss : List Service) (ls : List CodeServiceLine) (ns ms : List ℕ) (i : ℕ) (x : CodeServiceLine) (total : List Service) → i < length ls → x ≡ get_or ls i x → is_kept ss (service_line_of x) ≡ false → ms ≡ ns → services_at ls ns ++ kept ss (service_lines_of (drop i ls)) ≡ total → services_at ls ms ++ kept ss (service_lines_of (drop (i + 1) ls)) ≡ total
kept_less ss ls ns ms i x total lt e is same so_far = ap (λ (ks : List ℕ). services_at ls ks ++ kept ss (service_lines_of (drop (i + 1) ls))) same ∙ ap (λ (ts : List Service). services_at ls ns ++ ts) (sym (kept_left ss ls i x false lt e is)) ∙ so_far
