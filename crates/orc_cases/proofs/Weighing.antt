-- Weights that grow line by line are those of the ways.
use Rattle.std.proofs.Common.{◌≡◌, ℕ, ◌+◌, List, [], ◌∷◌, ◌++◌, map, cond, refl, sym, ap, ◌∙◌, add_assoc, arith}
use Rattle.std.proofs.lemmas.List.{map-append}
use Rattle.std.proofs.lemmas.List.Concat.{flat_map-append}
use Rattle.std.specs.List.{flat_map}
use Rattle.orc_cases.specs.declared.weights.Weight.{Weight}
use Rattle.orc_cases.specs.Choices.{Choice, is_off}
use Rattle.orc_cases.specs.Ways.{Way, lines_off, calls_off, combinations}
use Rattle.orc_cases.specs.Weights.{weight, plus, nothing, each_plus, each_plus_all}
use Rattle.orc_cases.proofs.Lists.{same_map, map-map}

-- a weight, with that of a way
abbrev pub joined : Weight → Way → Weight
joined a w = record { lines = a.lines + lines_off w; calls = a.calls + calls_off w }

abbrev pub each_joined : List Weight → List Way → List Weight
each_joined bs ws = flat_map (λ a. map (joined a) ws) bs

one_more : (a : Weight) (c : Choice) (w : Way) → joined a (c ∷ w) ≡ joined (plus a c) w
one_more a c w = ap (λ (n : ℕ). record { lines = n; calls = a.calls + (c.off + calls_off w) }) (sym (add_assoc a.lines (cond (is_off c) 1 0) (lines_off w)))
    ∙ ap (λ (n : ℕ). record { lines = a.lines + cond (is_off c) 1 0 + lines_off w; calls = n }) (sym (add_assoc a.calls c.off (calls_off w)))

-- of one weight and one line
of_line : (a : Weight) (cs : List Choice) (ws : List Way) → map (joined a) (flat_map (λ c. map (λ w. c ∷ w) ws) cs) ≡ each_joined (map (plus a) cs) ws
of_line a [] ws = refl
of_line a (c ∷ cs) ws =
    map-append (joined a) (map (λ (w : Way). c ∷ w) ws) (flat_map (λ (d : Choice). map (λ (w : Way). d ∷ w) ws) cs)
    ∙ ap (λ (xs : List Weight). xs ++ map (joined a) (flat_map (λ (d : Choice). map (λ (w : Way). d ∷ w) ws) cs)) (map-map (joined a) (λ (w : Way). c ∷ w) ws ∙ same_map (λ (w : Way). joined a (c ∷ w)) (joined (plus a c)) (one_more a c) ws)
    ∙ ap (λ (xs : List Weight). map (joined (plus a c)) ws ++ xs) (of_line a cs ws)

-- of all weights
of_lines : (bs : List Weight) (cs : List Choice) (ws : List Way) → each_joined bs (flat_map (λ c. map (λ w. c ∷ w) ws) cs) ≡ each_joined (each_plus bs cs) ws
of_lines [] cs ws = refl
of_lines (a ∷ bs) cs ws =
    ap (λ (xs : List Weight). xs ++ each_joined bs (flat_map (λ (c : Choice). map (λ (w : Way). c ∷ w) ws) cs)) (of_line a cs ws)
    ∙ ap (λ (xs : List Weight). each_joined (map (plus a) cs) ws ++ xs) (of_lines bs cs ws)
    ∙ sym (flat_map-append (λ (b : Weight). map (joined b) ws) (map (plus a) cs) (each_plus bs cs))

joined_nothing : (a : Weight) → joined a [] ≡ a
joined_nothing a = let e : a.lines + 0 ≡ a.lines = omega arith in let d : a.calls + 0 ≡ a.calls = omega arith in ap (λ (n : ℕ). record { lines = n; calls = a.calls + 0 }) e ∙ ap (λ (n : ℕ). record { lines = a.lines; calls = n }) d

nothing_more : (bs : List Weight) → each_joined bs ([] ∷ []) ≡ bs
nothing_more [] = refl
nothing_more (a ∷ bs) = ap (λ (b : Weight). b ∷ each_joined bs ([] ∷ [])) (joined_nothing a) ∙ ap (λ (xs : List Weight). a ∷ xs) (nothing_more bs)

of_all : (bs : List Weight) (css : List (List Choice)) → each_joined bs (combinations css) ≡ each_plus_all bs css
unfolding combinations
of_all bs [] = nothing_more bs
of_all bs (cs ∷ css) = of_lines bs cs (combinations css) ∙ of_all (each_plus bs cs) css

from_nothing : (w : Way) → joined nothing w ≡ weight w
from_nothing w = let e : 0 + lines_off w ≡ lines_off w = omega arith in let d : 0 + calls_off w ≡ calls_off w = omega arith in ap (λ (n : ℕ). record { lines = n; calls = 0 + calls_off w }) e ∙ ap (λ (n : ℕ). record { lines = lines_off w; calls = n }) d

append-nil : {X : Type 0} (xs : List X) → xs ++ [] ≡ xs
append-nil [] = refl
append-nil {X} (x ∷ xs) = ap (λ (ys : List X). x ∷ ys) (append-nil xs)

-- growing from nothing gives the weights of all ways
pub weights_are : (css : List (List Choice)) → each_plus_all (nothing ∷ []) css ≡ map weight (combinations css)
weights_are css = sym (of_all (nothing ∷ []) css) ∙ append-nil (map (joined nothing) (combinations css)) ∙ same_map (joined nothing) weight from_nothing (combinations css)
