-- What a service may do.
use Rattle.std.specs.Prelude.{ℕ, zero, suc, ◌+◌, ◌-◌, List, [], ◌∷◌, ◌++◌, map, filter, Bool, false, not, ◌||◌, nat_lt, max}
use Rattle.std.specs.List.{flat_map, range_with_len}
use Rattle.orc_rules.specs.declared.value.Found.{Found}
use Rattle.orc_rules.specs.declared.value.Found.TheVariants as found
use Rattle.orc_ways.specs.declared.test.Reply.{Reply}
use Rattle.orc_ways.specs.declared.test.Reply.TheVariants.{Between, Never}
use Rattle.orc_ways.specs.Lines.{History, Service}

-- What a service does in a way: how many of its calls don't take the first alternative, whether a range is in what they take, and its answers to one
-- call after the other.
pub record Choice : Type 0 where
  pub off : ℕ
  pub is_ranged : Bool
  pub answers : List Found

-- the first calls are answered as by a, further ones as by b
abbrev pub followed_by : Choice → Choice → Choice
followed_by a b = record { off = a.off + b.off; is_ranged = a.is_ranged || b.is_ranged; answers = a.answers ++ b.answers }

-- each of some followed by each of others, the others the fastest
abbrev pub each_followed : List Choice → List Choice → List Choice
each_followed cs ds = flat_map (λ c. map (followed_by c) ds) cs

-- one answer, with no call off
abbrev pub one_answer : Bool → Found → Choice
one_answer ranged f = record { off = 0; is_ranged = ranged; answers = f ∷ [] }

-- the answers that a reply stands for, from the low end of its range
abbrev pub answers_of : Reply → List Choice
answers_of (Between a low high) = map (λ d. one_answer (nat_lt low high) (found.After a d)) (range_with_len low (suc high - low))
answers_of Never = one_answer false found.Never ∷ []

-- before the first answer
abbrev pub begin : ℕ → Choice
begin off = record { off = off; is_ranged = false; answers = [] }

-- each of these choices followed by what the replies stand for, one reply after the other
abbrev pub with_replies : List Choice → History → List Choice
with_replies cs [] = cs
with_replies cs (r ∷ rs) = with_replies (each_followed cs (answers_of r)) rs

-- what alternatives stand for, so many calls off for the first of them, and one for each other
abbrev pub options : ℕ → List History → List Choice
options off [] = []
options off (h ∷ hs) = with_replies (begin off ∷ []) h ++ options 1 hs

-- each of these choices followed by n calls that take one of the options each
abbrev pub with_calls : List Choice → ℕ → List Choice → List Choice
with_calls os zero cs = cs
with_calls os (suc n) cs = with_calls os n (each_followed cs os)

-- what a service may do, in the order of its alternatives
abbrev pub all_choices : Service → List Choice
all_choices s = with_calls (options 0 s.alternatives) (max s.calls 1) (begin 0 ∷ [])

-- a call is off, and so is the line
abbrev pub is_off : Choice → Bool
is_off c = nat_lt 0 c.off

-- what is off before what is usual
abbrev pub off_first : List Choice → List Choice
off_first cs = filter is_off cs ++ filter (λ c. not (is_off c)) cs

-- what a service may do: what is off first
unfoldable pub choices : Service → List Choice
choices s = off_first (all_choices s)
