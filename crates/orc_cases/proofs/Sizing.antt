-- The sizes are those of the lists, up to the limit.
use Rattle.std.proofs.Common.{◌≡◌, ℕ, zero, suc, ◌+◌, ◌-◌, ◌*◌, ◌<◌, ◌≤◌, List, [], ◌∷◌, length, ap, ◌∙◌, arith}
use Rattle.std.specs.Prelude.{min, max}
use Rattle.std.proofs.lemmas.List.FromFn.{length-map-range_with_len}
use Rattle.orc_rules.specs.declared.value.Answer.{Answer}
use Rattle.orc_ways.specs.declared.limits.TheConstants.{MOST_WAYS}
use Rattle.orc_ways.specs.declared.test.Reply.TheVariants.{Between}
use Rattle.orc_ways.specs.Lines.{History, Service}
use Rattle.orc_cases.specs.Choices.{answers_of}
use Rattle.orc_cases.specs.Sizes.{history_size, options_size, calls_size, service_size, ways_size, capped, times, plus, history_from, options_from, calls_from, service_capped, ways_from_size}
use Rattle.orc_cases.proofs.Capped.{product_more, sum_more}

pub range_size : (a : Answer) (low high : ℕ) → low ≤ high → length (answers_of (Between a low high)) ≡ high - low + 1
range_size a low high le = length-map-range_with_len _ low (suc high - low) ∙ (let e : suc high - low ≡ high - low + 1 = omega arith in e)

pub no_range : (a : Answer) (low high : ℕ) → high < low → length (answers_of (Between a low high)) ≡ 0
no_range a low high lt = length-map-range_with_len _ low (suc high - low) ∙ (let e : suc high - low ≡ 0 = omega arith in e)

abbrev pub many : ℕ
many = MOST_WAYS + 1

stays : (a : ℕ) → a ≤ many → a ≡ min (a * 1) many
stays a le = omega arith

history_is : (size : ℕ) (h : History) → size ≤ many → history_from size h ≡ min (size * history_size h) many
unfolding times capped
history_is size [] le = stays size le
history_is size (r ∷ rs) le =
    history_is (min (size * min (length (answers_of r)) many) many) rs (omega arith)
    ∙ product_more size (length (answers_of r)) (history_size rs) many

options_are : (size : ℕ) (hs : List History) → size ≤ many → options_from size hs ≡ min (size + options_size hs) many
unfolding plus capped
options_are size [] le = omega arith
options_are size (h ∷ hs) le =
    let one : history_from 1 h ≡ min (history_size h) many = history_is 1 h (omega arith) ∙ ap (λ (n : ℕ). min n many) (let e : 1 * history_size h ≡ history_size h = omega arith in e) in
    ap (λ (n : ℕ). options_from (min (size + n) many) hs) one
    ∙ options_are (min (size + min (history_size h) many) many) hs (omega arith)
    ∙ sum_more size (history_size h) (options_size hs) many

calls_are : (size options n : ℕ) → size ≤ many → calls_from size (min options many) n ≡ min (size * calls_size options n) many
unfolding times capped
calls_are size options zero le = stays size le
calls_are size options (suc n) le =
    calls_are (min (size * min options many) many) options n (omega arith)
    ∙ product_more size options (calls_size options n) many

service_is : (s : Service) → service_capped s ≡ min (service_size s) many
service_is s =
    ap (λ (n : ℕ). calls_from 1 n (max s.calls 1)) (options_are 0 s.alternatives (omega arith) ∙ ap (λ (n : ℕ). min n many) (let e : 0 + options_size s.alternatives ≡ options_size s.alternatives = omega arith in e))
    ∙ calls_are 1 (options_size s.alternatives) (max s.calls 1) (omega arith)
    ∙ ap (λ (n : ℕ). min n many) (let e : 1 * service_size s ≡ service_size s = omega arith in e)

ways_are : (size : ℕ) (ss : List Service) → size ≤ many → ways_from_size size ss ≡ min (size * ways_size ss) many
unfolding times capped
ways_are size [] le = stays size le
ways_are size (s ∷ ss) le =
    ap (λ (n : ℕ). ways_from_size (min (size * n) many) ss) (service_is s)
    ∙ ways_are (min (size * min (service_size s) many) many) ss (omega arith)
    ∙ product_more size (service_size s) (ways_size ss) many

pub all_ways : (ss : List Service) → ways_from_size 1 ss ≡ min (ways_size ss) many
all_ways ss = ways_are 1 ss (omega arith) ∙ ap (λ (n : ℕ). min n many) (let e : 1 * ways_size ss ≡ ways_size ss = omega arith in e)
