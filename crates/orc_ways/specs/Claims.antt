-- The claims of a test, as tokens.
use Rattle.std.specs.Prelude.{ℕ, zero, suc, Bool, true, false, not, ◌&&◌, ◌||◌, nat_eq, List, [], ◌∷◌, length, Option, Some, None, option_map, if◌then◌else◌, codes, bytes_eq}
use Rattle.std.specs.List.{list_all}
use Rattle.std.specs.Char.{is_ascii_lowercase}
use Rattle.orc_rules.specs.declared.limits.TheConstants.{MOST_ARGUMENTS}
use Rattle.orc_rules.specs.declared.value.Value.{Value}
use Rattle.orc_claims.specs.declared.claim.Slot.{Slot}
use Rattle.orc_claims.specs.declared.claim.Slot.TheVariants.{Any, Literal, Variable}
use Rattle.orc_claims.specs.declared.claim.Wanted.{Wanted}
use Rattle.orc_claims.specs.declared.claim.Wanted.TheVariants.{Called, Answered, Halted, Cancelled}
use Rattle.orc_site.specs.Reading.{then_read}
use Rattle.orc_ways.specs.Tokens.{Token, is_word, opens, number_of, pattern_in, site_in, name_in, behind_word, number_at, begins, is_left, is_right, ends_items, many}

-- ---- what a claim is

-- one thing that may happen: something becomes of a call of a site, or a value is published
pub data Simple : Type 0 where
  call : ℕ → List Slot → Wanted → Simple
  published : Slot → Simple

-- one of these happens
abbrev pub Event : Type 0
Event = List Simple

-- whether the event happens in the run
pub record Condition : Type 0 where
  pub event : Event
  pub happens : Bool

-- a claim without conditions: what each says is in `orc_claims`, at the type of this name
pub data Plain : Type 0 where
  count : Event → ℕ → Option ℕ → Option ℕ → Plain
  at_once : Event → ℕ → Plain
  only_after : Event → Event → Plain
  none_after : Event → Event → Plain
  each_then : Event → Event → Option ℕ → Plain
  ends : Bool → Bool → Option ℕ → Plain
  in_order : List (Option Value) → Plain
  in_any_order : List Value → Plain
  one_of : List Value → Plain

-- a claim: if a run meets all conditions, the rest must hold of it
pub record Claim : Type 0 where
  pub conditions : List Condition
  pub plain : Plain

-- ---- sites and variables

-- a site that a test names, with so many arguments, and the line that names it first
pub record Site : Type 0 where
  pub name : List ℕ
  pub arguments : ℕ
  pub line : ℕ

-- the site has this name and so many arguments
abbrev pub is_site : List ℕ → ℕ → Site → Bool
is_site n k s = bytes_eq s.name n && nat_eq s.arguments k

-- the place of a site, or how many there are where it isn't among them
abbrev pub site_number : List Site → List ℕ → ℕ → ℕ
site_number [] n k = 0
site_number (s ∷ ss) n k = if is_site n k s then 0 else suc (site_number ss n k)

-- the place of the first of these tokens that is this word
abbrev pub place_of : List ℕ → List Token → Option ℕ
place_of w [] = None
place_of w (t ∷ ts) = if is_word w t then Some 0 else option_map suc (place_of w ts)

-- words that may follow a value
abbrev pub follows : List ℕ → Bool
follows n =
    bytes_eq n (codes "or") || bytes_eq n (codes "only") || bytes_eq n (codes "after") || bytes_eq n (codes "then") || bytes_eq n (codes "within") || bytes_eq n (codes "by") || bytes_eq n (codes "at")
    || bytes_eq n (codes "once") || bytes_eq n (codes "called") || bytes_eq n (codes "answered") || bytes_eq n (codes "halted") || bytes_eq n (codes "cancelled")

-- a name begins with a small letter
abbrev pub is_small : List ℕ → Bool
is_small [] = false
is_small (c ∷ cs) = is_ascii_lowercase c

-- a name that may be a variable
abbrev pub is_variable : List ℕ → Bool
is_variable n = is_small n && not (follows n)

-- a variable has the number of the place in its line at which it stands first
abbrev pub variable_in : List Token → List ℕ → Option Slot
variable_in line n = if is_variable n then option_map Variable (place_of n line) else None

-- a pattern of a script as a slot
abbrev pub slot_of : Option Value → Slot
slot_of None = Any
slot_of (Some v) = Literal v

abbrev pub slot_or : Option (Option Value) → Option Slot → Option Slot
slot_or (Some p) other = Some (slot_of p)
slot_or None other = other

-- what a token is in the place of a value, in this line
unfoldable pub slot_in : List Token → Token → Option Slot
slot_in line t = slot_or (pattern_in t) (then_read (name_in t) (variable_in line))

-- ---- sites with their arguments

-- a slot, whether it is the last one by the sign behind it, and what is behind that
abbrev pub slot_step : List Token → List Token → Option (Slot × Bool × List Token)
slot_step line [] = None
slot_step line (t ∷ []) = None
slot_step line (t ∷ u ∷ ts) = then_read (slot_in line t) (λ s. option_map (λ b. (s, b, ts)) (ends_items u))

-- the slots behind a `(`
abbrev pub slots_behind : List Token → List Token → Option (List Slot × List Token)
slots_behind line [] = None
slots_behind line (t ∷ ts) = if is_right t then Some ([], ts) else many (slot_step line) MOST_ARGUMENTS (t ∷ ts)

-- slots in brackets, none to `MOST_ARGUMENTS`
unfoldable pub slots_at : List Token → List Token → Option (List Slot × List Token)
slots_at line [] = None
slots_at line (t ∷ ts) = if is_left t then slots_behind line ts else None

-- ---- events

-- the slot that was read, or any value and nothing read
abbrev pub answered_by : Option Slot → Token → List Token → Wanted × List Token
answered_by None t ts = (Answered Any, t ∷ ts)
answered_by (Some s) t ts = (Answered s, ts)

-- what is behind `answered`: a slot, and else any value will do
abbrev pub answered_at : List Token → List Token → Wanted × List Token
answered_at line [] = (Answered Any, [])
answered_at line (t ∷ ts) = answered_by (slot_in line t) t ts

-- what is to become of a call, by the word behind it; `called` without one
unfoldable pub wanted_at : List Token → List Token → Wanted × List Token
wanted_at line [] = (Called, [])
wanted_at line (t ∷ ts) =
    if is_word (codes "called") t then (Called, ts)
    else if is_word (codes "answered") t then answered_at line ts
    else if is_word (codes "halted") t then (Halted, ts)
    else if is_word (codes "cancelled") t then (Cancelled, ts)
    else (Called, t ∷ ts)

-- the event of a call, with what becomes of it
abbrev pub called : List Site → List ℕ → List Slot → Wanted × List Token → Simple × List Token
called sites n slots w = (call (site_number sites n (length slots)) slots w.0, w.1)

-- something that becomes of a call
unfoldable pub call_at : List Site → List Token → Token → List Token → Option (Simple × List Token)
call_at sites line t ts = then_read (site_in t) (λ n. option_map (λ x. called sites n x.0 (wanted_at line x.1)) (slots_at line ts))

-- a value that is published
unfoldable pub published_at : List Token → List Token → Option (Simple × List Token)
published_at line [] = None
published_at line (t ∷ ts) = option_map (λ s. (published s, ts)) (slot_in line t)

-- one thing that may happen
unfoldable pub simple_at : List Site → List Token → List Token → Option (Simple × List Token)
simple_at sites line [] = None
simple_at sites line (t ∷ ts) =
    if opens ts then call_at sites line t ts
    else if is_word (codes "published") t then published_at line ts
    else None

-- whether a list of items ends here, and what is behind the word between items if it doesn't
abbrev pub more_or : List Token → Option (List Token) → Bool × List Token
more_or ts None = (true, ts)
more_or ts (Some us) = (false, us)

-- whether a list of items with this word between them ends here, and what is behind the word if it doesn't
abbrev pub more_items : List ℕ → List Token → Bool × List Token
more_items w ts = more_or ts (behind_word w ts)

-- an item, whether it is the last one by the word behind it, and what is behind that
abbrev pub more_behind : {A : Type 0} → List ℕ → A × List Token → Option (A × Bool × List Token)
more_behind w x = Some (x.0, (more_items w x.1).0, (more_items w x.1).1)

-- one thing that may happen, and whether it is the last one by the `or` behind it
abbrev pub event_step : List Site → List Token → List Token → Option (Simple × Bool × List Token)
event_step sites line ts = then_read (simple_at sites line ts) (more_behind (codes "or"))

-- one thing or more that may happen, with `or` between them
abbrev pub event_at : List Site → List Token → List Token → Option (Event × List Token)
event_at sites line ts = many (event_step sites line) (length ts) ts

-- ---- claims

-- nothing, or a word and a time, and then the end
unfoldable pub time_at : List ℕ → List Token → Option (Option ℕ)
time_at w [] = Some None
time_at w (t ∷ u ∷ []) = if is_word w t then option_map Some (number_of u) else None
time_at w _ = None

-- what was read, if nothing is behind it
abbrev pub at_end : {A : Type 0} → A × List Token → Option A
at_end (a, []) = Some a
at_end (a, t ∷ ts) = None

-- an event behind which nothing is
abbrev pub last_event : List Site → List Token → List Token → Option Event
last_event sites line ts = then_read (event_at sites line ts) at_end

-- an event so often at least and at most, up to a time that may be behind it
abbrev pub counted : ℕ → Option ℕ → Event × List Token → Option Plain
counted low most x = option_map (λ by. count x.0 low most by) (time_at (codes "by") x.1)

-- a call that is made
abbrev pub is_called : Simple → Bool
is_called (call m ss Called) = true
is_called _ = false

-- the tokens are `at once`
abbrev pub is_at_once : List Token → Bool
is_at_once (t ∷ u ∷ []) = is_word (codes "at") t && is_word (codes "once") u
is_at_once _ = false

-- `at most n` of an event: of calls alone also `at once`
unfoldable pub at_most : ℕ → Event × List Token → Option Plain
at_most n x =
    if is_at_once x.1 then (if list_all is_called x.0 then Some (at_once x.0 n) else None)
    else counted 0 (Some n) x

-- behind `at most`
abbrev pub at_most_at : List Site → List Token → List Token → Option Plain
at_most_at sites line ts = then_read (number_at ts) (λ n. then_read (event_at sites line n.1) (at_most n.0))

-- behind `at least`
abbrev pub at_least_at : List Site → List Token → List Token → Option Plain
at_least_at sites line ts = then_read (number_at ts) (λ n. then_read (event_at sites line n.1) (counted n.0 None))

-- behind `exactly`
abbrev pub exactly_at : List Site → List Token → List Token → Option Plain
exactly_at sites line ts = then_read (number_at ts) (λ n. then_read (event_at sites line n.1) (counted n.0 (Some n.0)))

-- behind `at`
unfoldable pub bounded_at : List Site → List Token → List Token → Option Plain
bounded_at sites line [] = None
bounded_at sites line (t ∷ ts) =
    if is_word (codes "most") t then at_most_at sites line ts
    else if is_word (codes "least") t then at_least_at sites line ts
    else None

-- `no` of an event, perhaps after another one
abbrev pub none_or : List Site → List Token → Event × List Token → Option (List Token) → Option Plain
none_or sites line x (Some more) = option_map (λ f. none_after x.0 f) (last_event sites line more)
none_or sites line x None = counted 0 (Some 0) x

-- behind `no`
unfoldable pub none_at : List Site → List Token → List Token → Option Plain
none_at sites line ts = then_read (event_at sites line ts) (λ x. none_or sites line x (behind_word (codes "after") x.1))

-- two events, and a time
abbrev pub followed : Event → Event × List Token → Option Plain
followed e y = option_map (λ within. each_then e y.0 within) (time_at (codes "within") y.1)

-- behind `each`
unfoldable pub each_at : List Site → List Token → List Token → Option Plain
each_at sites line ts = then_read (event_at sites line ts) (λ x. then_read (behind_word (codes "then") x.1) (λ more. then_read (event_at sites line more) (followed x.0)))

-- an event that comes only after another one
unfoldable pub only_at : List Site → List Token → List Token → Option Plain
only_at sites line ts =
    then_read (event_at sites line ts) (λ x. then_read (behind_word (codes "only") x.1) (λ us. then_read (behind_word (codes "after") us) (λ more. option_map (λ f. only_after x.0 f) (last_event sites line more))))

-- whether Halted is allowed, and whether Quiet
abbrev pub end_in : Token → Option (Bool × Bool)
end_in t =
    if is_word (codes "Halted") t then Some (true, false)
    else if is_word (codes "Quiet") t then Some (false, true)
    else None

-- one end, and what is behind it
unfoldable pub end_at : List Token → Option ((Bool × Bool) × List Token)
end_at [] = None
end_at (t ∷ ts) = option_map (λ e. (e, ts)) (end_in t)

-- the claim on the end, with the time that may be behind it
abbrev pub ends_by : Bool × Bool → List Token → Option Plain
ends_by e ts = option_map (λ by. ends e.0 e.1 by) (time_at (codes "by") ts)

-- the ends that at least one of the two allows
abbrev pub either : Bool × Bool → Bool × Bool → Bool × Bool
either e f = (e.0 || f.0, e.1 || f.1)

-- a second end behind an `or`, and else one alone
abbrev pub ends_or : (Bool × Bool) × List Token → Option (List Token) → Option Plain
ends_or x (Some more) = then_read (end_at more) (λ y. ends_by (either x.0 y.0) y.1)
ends_or x None = ends_by x.0 x.1

-- behind `ends`
unfoldable pub ends_at : List Token → Option Plain
ends_at ts = then_read (end_at ts) (λ x. ends_or x (behind_word (codes "or") x.1))

-- whether no value follows
abbrev pub ends_values : List Token → Bool
ends_values [] = true
ends_values (t ∷ ts) = is_word (codes "in") t

-- a value or `_`, and whether it is the last one
abbrev pub value_step : List Token → Option (Option Value × Bool × List Token)
value_step [] = None
value_step (t ∷ ts) = option_map (λ p. (p, ends_values ts, ts)) (pattern_in t)

-- values or `_`, one or more
abbrev pub values_at : List Token → Option (List (Option Value) × List Token)
values_at ts = many value_step (length ts) ts

-- a value, and whether it is the last one
abbrev pub literal_step : List Token → Option (Value × Bool × List Token)
literal_step [] = None
literal_step (t ∷ ts) = then_read (pattern_in t) (λ p. option_map (λ v. (v, ends_values ts, ts)) p)

-- values, one or more
abbrev pub literals_at : List Token → Option (List Value × List Token)
literals_at ts = many literal_step (length ts) ts

-- the tokens are `in any order`
abbrev pub is_any_order : List Token → Bool
is_any_order (t ∷ u ∷ v ∷ []) = is_word (codes "in") t && (is_word (codes "any") u && is_word (codes "order") v)
is_any_order _ = false

-- values that were read in order are meant so, unless `in any order` is behind them
abbrev pub ordered : List Token → List (Option Value) × List Token → Option Plain
ordered ts (ps, []) = Some (in_order ps)
ordered ts (ps, u ∷ us) = if is_any_order (u ∷ us) then option_map (λ x. in_any_order x.0) (literals_at ts) else None

-- the claim that lists values
unfoldable pub in_order_at : List Token → Option Plain
in_order_at ts = then_read (values_at ts) (ordered ts)

-- behind `publishes one of`
unfoldable pub one_of_at : List Token → Option Plain
one_of_at ts = then_read (literals_at ts) (λ x. option_map (λ vs. one_of vs) (at_end x))

-- the tokens are `nothing`
abbrev pub is_nothing : List Token → Bool
is_nothing (t ∷ []) = is_word (codes "nothing") t
is_nothing _ = false

-- behind `publishes`: `one of`, or a list of values
abbrev pub one_of_or : List Token → Option (List Token) → Option Plain
one_of_or ts (Some us) = then_read (behind_word (codes "of") us) one_of_at
one_of_or ts None = in_order_at ts

-- behind `publishes`
unfoldable pub publishes_at : List Token → Option Plain
publishes_at ts = if is_nothing ts then Some (in_order []) else one_of_or ts (behind_word (codes "one") ts)

-- a claim without conditions
unfoldable pub plain_at : List Site → List Token → List Token → Option Plain
plain_at sites line [] = None
plain_at sites line (t ∷ ts) =
    if opens ts then only_at sites line (t ∷ ts)
    else if is_word (codes "published") t then only_at sites line (t ∷ ts)
    else if is_word (codes "at") t then bounded_at sites line ts
    else if is_word (codes "exactly") t then exactly_at sites line ts
    else if is_word (codes "no") t then none_at sites line ts
    else if is_word (codes "each") t then each_at sites line ts
    else if is_word (codes "ends") t then ends_at ts
    else if is_word (codes "publishes") t then publishes_at ts
    else None

-- false with a `no` before an event, true without one, and what is behind it
abbrev pub not_at : List Token → Bool × List Token
not_at [] = (true, [])
not_at (t ∷ ts) = if begins (codes "no") (t ∷ ts) then (false, ts) else (true, t ∷ ts)

-- a condition on the event that was read, if a `then` is behind it
abbrev pub condition_of : Bool → Event × List Token → Option (Condition × List Token)
condition_of happens x = option_map (λ rest. (record { event = x.0; happens = happens }, rest)) (behind_word (codes "then") x.1)

-- behind `if`, and behind its `then`
unfoldable pub condition_at : List Site → List Token → List Token → Option (Condition × List Token)
condition_at sites line ts = then_read (event_at sites line (not_at ts).1) (condition_of (not_at ts).0)

-- the tokens but the first
abbrev pub rest_of : List Token → List Token
rest_of [] = []
rest_of (t ∷ ts) = ts

-- conditions, none to n
unfoldable pub conditions_at : List Site → List Token → ℕ → List Token → Option (List Condition × List Token)
conditions_at sites line zero ts = Some ([], ts)
conditions_at sites line (suc n) ts =
    if begins (codes "if") ts then then_read (condition_at sites line (rest_of ts)) (λ c. option_map (λ x. (c.0 ∷ x.0, x.1)) (conditions_at sites line n c.1))
    else Some ([], ts)

abbrev pub claim : List Condition → Plain → Claim
claim cs p = record { conditions = cs; plain = p }

-- a claim is a whole line
unfoldable pub claim_at : List Site → List Token → Option Claim
claim_at sites ts = then_read (conditions_at sites ts (length ts) ts) (λ x. option_map (claim x.0) (plain_at sites ts x.1))
