-- How long the lists of choices and ways are.
use Rattle.std.proofs.Common.{◌≡◌, ℕ, zero, suc, ◌*◌, List, [], ◌∷◌, length, map, refl, ap, ◌∙◌, length-append, arith}
use Rattle.std.proofs.Math.Nat.{mul_assoc}
use Rattle.std.specs.Prelude.{not, max}
use Rattle.std.specs.List.{flat_map}
use Rattle.std.proofs.lemmas.List.{length-map}
use Rattle.std.proofs.lemmas.List.Filters.{length-filter_both}
use Rattle.orc_ways.specs.Lines.{History, Service}
use Rattle.orc_cases.specs.Choices.{Choice, followed_by, each_followed, answers_of, with_replies, begin, options, with_calls, is_off, all_choices, off_first, choices}
use Rattle.orc_cases.specs.Ways.{Way, combinations, line_of, choices_of}
use Rattle.orc_cases.specs.Sizes.{history_size, options_size, calls_size, service_size, ways_size}

pub length_each : {X Y : Type 0} (f : X → List Y) (k : ℕ) → ((x : X) → length (f x) ≡ k) → (xs : List X) → length (flat_map f xs) ≡ length xs * k
length_each f k each [] = let e : 0 ≡ 0 * k = omega arith in e
length_each f k each (x ∷ xs) =
    let h = length_each f k each xs in
    let e = each x in
    let a = length-append (f x) (flat_map f xs) in
    omega arith

length_followed : (cs ds : List Choice) → length (each_followed cs ds) ≡ length cs * length ds
length_followed cs ds = length_each (λ (c : Choice). map (followed_by c) ds) (length ds) (λ (c : Choice). length-map ds (followed_by c)) cs

length_replies : (cs : List Choice) (h : History) → length (with_replies cs h) ≡ length cs * history_size h
length_replies cs [] = omega arith
length_replies cs (r ∷ rs) =
    length_replies (each_followed cs (answers_of r)) rs
    ∙ ap (λ (n : ℕ). n * history_size rs) (length_followed cs (answers_of r))
    ∙ mul_assoc (length cs) (length (answers_of r)) (history_size rs)

length_options : (off : ℕ) (hs : List History) → length (options off hs) ≡ options_size hs
length_options off [] = refl
length_options off (h ∷ hs) =
    let one = length_replies (begin off ∷ []) h in
    let more = length_options 1 hs in
    let a = length-append (with_replies (begin off ∷ []) h) (options 1 hs) in
    omega arith

length_calls : (os : List Choice) (n : ℕ) (cs : List Choice) → length (with_calls os n cs) ≡ length cs * calls_size (length os) n
length_calls os zero cs = omega arith
length_calls os (suc n) cs =
    length_calls os n (each_followed cs os)
    ∙ ap (λ (k : ℕ). k * calls_size (length os) n) (length_followed cs os)
    ∙ mul_assoc (length cs) (length os) (calls_size (length os) n)

length_off_first : (cs : List Choice) → length (off_first cs) ≡ length cs
length_off_first cs = length-append _ _ ∙ length-filter_both is_off (λ (c : Choice). not (is_off c)) (λ (c : Choice). refl) cs

length_choices : (s : Service) → length (choices s) ≡ service_size s
unfolding choices
length_choices s =
    length_off_first (all_choices s)
    ∙ length_calls (options 0 s.alternatives) (max s.calls 1) (begin 0 ∷ [])
    ∙ (let e : 1 * calls_size (length (options 0 s.alternatives)) (max s.calls 1) ≡ calls_size (length (options 0 s.alternatives)) (max s.calls 1) = omega arith in e)
    ∙ ap (λ (n : ℕ). calls_size n (max s.calls 1)) (length_options 0 s.alternatives)

pub length_combinations : (cs : List Choice) (css : List (List Choice)) → length (combinations (cs ∷ css)) ≡ length cs * length (combinations css)
unfolding combinations
length_combinations cs css = length_each (λ (c : Choice). map (λ (w : Way). c ∷ w) (combinations css)) (length (combinations css)) (λ (c : Choice). length-map (combinations css) (λ (w : Way). c ∷ w)) cs

pub length_nothing : length (combinations []) ≡ 1
unfolding combinations
length_nothing = refl

pub size_is : (ss : List Service) → length (combinations (choices_of (map line_of ss))) ≡ ways_size ss
size_is [] = length_nothing
size_is (s ∷ ss) =
    length_combinations (choices s) (choices_of (map line_of ss))
    ∙ ap (λ (n : ℕ). n * length (combinations (choices_of (map line_of ss)))) (length_choices s)
    ∙ ap (λ (n : ℕ). service_size s * n) (size_is ss)
