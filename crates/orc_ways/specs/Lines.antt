-- The lines of a test: its sections, services and claims, as tokens.
use Rattle.std.specs.Prelude.{ℕ, zero, suc, Bool, true, false, ◌&&◌, ◌||◌, nat_le, nat_lt, List, [], ◌∷◌, ◌++◌, length, Option, Some, None, option_map, if◌then◌else◌, codes}
use Rattle.std.specs.List.{list_all, list_any}
use Rattle.orc_rules.specs.declared.limits.TheConstants.{MOST_ANSWERS, MOST_ARGUMENTS}
use Rattle.orc_rules.specs.declared.value.Answer.{Answer}
use Rattle.orc_claims.specs.declared.claim.Slot.{Slot}
use Rattle.orc_site.specs.Reading.{then_read}
use Rattle.orc_ways.specs.declared.limits.TheConstants.{MOST_ALTERNATIVES, MOST_CALLS, MOST_SITES}
use Rattle.orc_ways.specs.declared.test.Reply.{Reply}
use Rattle.orc_ways.specs.declared.test.Reply.TheVariants.{Between, Never}
use Rattle.orc_ways.specs.Tokens.{Token, is_word, is_equals, is_left, is_right, is_bar, is_dots, ends_items, number_of, number_at, answer_in, site_in, name_in, behind_word, many}
use Rattle.orc_ways.specs.Claims.{Claim, Site, slots_at, more_behind, site_number, claim_at}

-- ---- services

-- answers to one call after another
abbrev pub History : Type 0
History = List Reply

-- a service: with `in each of N calls` its `calls` are N, otherwise 1
pub record Service : Type 0 where
  pub name : List ℕ
  pub patterns : List Slot
  pub alternatives : List History
  pub calls : ℕ

-- a range from the low number to the one that was read
abbrev pub range_to : Answer → ℕ → ℕ × List Token → Option (Reply × List Token)
range_to a low x = if nat_le low x.0 then Some (Between a low x.0, x.1) else None

-- behind the first number of a time
abbrev pub range_at : Answer → ℕ → List Token → Option (Reply × List Token)
range_at a low [] = Some (Between a low low, [])
range_at a low (t ∷ ts) = if is_dots t then then_read (number_at ts) (range_to a low) else Some (Between a low low, t ∷ ts)

-- an answer with what is behind its `after`, or without one
abbrev pub delay_or : Answer → List Token → Option (List Token) → Option (Reply × List Token)
delay_or a ts None = Some (Between a 0 0, ts)
delay_or a ts (Some us) = then_read (number_at us) (λ x. range_at a x.0 x.1)

-- an answer, and when it comes, or `never`
unfoldable pub reply_at : List Token → Option (Reply × List Token)
reply_at [] = None
reply_at (t ∷ ts) =
    if is_word (codes "never") t then Some (Never, ts)
    else then_read (answer_in t) (λ a. delay_or a ts (behind_word (codes "after") ts))

-- an answer, and whether it is the last one by the `then` behind it
abbrev pub reply_step : List Token → Option (Reply × Bool × List Token)
reply_step ts = then_read (reply_at ts) (more_behind (codes "then"))

-- answers with `then` between them, one to `MOST_ANSWERS`
abbrev pub history_at : List Token → Option (History × List Token)
history_at ts = many reply_step MOST_ANSWERS ts

-- whether the alternatives end here, and what is behind the `|` if they don't
abbrev pub more_bars : List Token → Bool × List Token
more_bars [] = (true, [])
more_bars (t ∷ ts) = if is_bar t then (false, ts) else (true, t ∷ ts)

-- an alternative, and whether it is the last one by the `|` behind it
abbrev pub more_alternatives : History × List Token → Option (History × Bool × List Token)
more_alternatives x = Some (x.0, (more_bars x.1).0, (more_bars x.1).1)

-- one alternative, and whether it is the last one
abbrev pub alternative_step : List Token → Option (History × Bool × List Token)
alternative_step ts = then_read (history_at ts) more_alternatives

-- alternatives with `|` between them, one to `MOST_ALTERNATIVES`
abbrev pub alternatives_at : List Token → Option (List History × List Token)
alternatives_at ts = many alternative_step MOST_ALTERNATIVES ts

-- an alternative is one answer
abbrev pub is_one : History → Bool
is_one (r ∷ []) = true
is_one _ = false

-- the N of `in each of N calls`, if it is in its range
abbrev pub calls_within : ℕ → Option ℕ
calls_within n = if nat_le 2 n && nat_le n MOST_CALLS then Some n else None

-- the words of `in each of N calls`
abbrev pub are_calls : Token → Token → Token → Token → Bool
are_calls t u v w = is_word (codes "in") t && (is_word (codes "each") u && (is_word (codes "of") v && is_word (codes "calls") w))

-- how many calls take an alternative of their own; one where nothing stands there
unfoldable pub calls_at : List History → List Token → Option ℕ
calls_at hs [] = Some 1
calls_at hs (t ∷ u ∷ v ∷ n ∷ w ∷ []) =
    if are_calls t u v w && list_all is_one hs then then_read (number_of n) calls_within else None
calls_at hs _ = None

abbrev pub service : List ℕ → List Slot → List History → ℕ → Service
service n ps hs k = record { name = n; patterns = ps; alternatives = hs; calls = k }

-- what is behind the `=`
abbrev pub equals_at : List Token → Option (List Token)
equals_at [] = None
equals_at (t ∷ ts) = if is_equals t then Some ts else None

-- a service has no variables
unfoldable pub service_at : List Token → Option Service
service_at [] = None
service_at (t ∷ ts) =
    then_read (site_in t) (λ n. then_read (slots_at [] ts) (λ x. then_read (equals_at x.1) (λ us. then_read (alternatives_at us) (λ y. option_map (service n x.0 y.0) (calls_at y.0 y.1)))))

-- ---- lines

-- what a line is
pub data Kind : Type 0 where
  blank : Kind
  given : Kind
  always : Kind
  case : List ℕ → Kind
  serves : Service → Kind
  claims : Claim → Kind

-- a `=` is among the tokens
abbrev pub has_equals : List Token → Bool
has_equals ts = list_any is_equals ts

-- `given` or `always`
abbrev pub section_in : Token → Option Kind
section_in t =
    if is_word (codes "given") t then Some given
    else if is_word (codes "always") t then Some always
    else None

-- a line that begins a section
abbrev pub section_at : List Token → Option Kind
section_at (t ∷ []) = section_in t
section_at (t ∷ u ∷ []) = if is_word (codes "case") t then option_map case (name_in u) else None
section_at _ = None

-- the first one if there is one, and otherwise the other
abbrev pub section_or : Option Kind → Option Kind → Option Kind
section_or (Some k) other = Some k
section_or None other = other

-- a section or a claim
abbrev pub other_at : List Site → List Token → Option Kind
other_at sites ts = section_or (section_at ts) (option_map claims (claim_at sites ts))

-- What a line is: one with a `=` is a service.
unfoldable pub kind_at : List Site → List Token → Option Kind
kind_at sites [] = Some blank
kind_at sites (t ∷ ts) =
    if has_equals (t ∷ ts) then option_map serves (service_at (t ∷ ts))
    else other_at sites (t ∷ ts)

-- ---- the sites that a line names

-- whether an argument is the last one by the sign behind it, and what is behind that
abbrev pub argument_step : List Token → Option (Bool × List Token)
argument_step (t ∷ u ∷ ts) = option_map (λ b. (b, ts)) (ends_items u)
argument_step _ = None

-- how many arguments stand up to the bracket, one to n
unfoldable pub arguments_from : ℕ → List Token → Option ℕ
arguments_from zero ts = None
arguments_from (suc n) ts = then_read (argument_step ts) (λ x. if x.0 then Some 1 else option_map suc (arguments_from n x.1))

-- how many arguments are before the bracket, of what is behind the first bracket
abbrev pub arguments_behind : List Token → Option ℕ
arguments_behind [] = None
arguments_behind (t ∷ ts) = if is_right t then Some 0 else arguments_from MOST_ARGUMENTS (t ∷ ts)

-- how many arguments stand in brackets
abbrev pub arguments_at : List Token → Option ℕ
arguments_at [] = None
arguments_at (t ∷ ts) = if is_left t then arguments_behind ts else None

-- a name with arguments in brackets
abbrev pub mention_at : Token → List Token → Option (List ℕ × ℕ)
mention_at t ts = then_read (name_in t) (λ n. option_map (λ k. (n, k)) (arguments_at ts))

abbrev pub site : ℕ → List ℕ → ℕ → Site
site l n k = record { name = n; arguments = k; line = l }

-- a site is added if it isn't among them, up to one over `MOST_SITES`, which says that they are too many
abbrev pub with_site : List Site → ℕ → List ℕ → ℕ → List Site
with_site sites l n k = if nat_lt (site_number sites n k) (length sites) || nat_lt MOST_SITES (length sites) then sites else sites ++ site l n k ∷ []

-- the sites with the one that was named here, if one was
abbrev pub with_mention : List Site → ℕ → Option (List ℕ × ℕ) → List Site
with_mention sites l None = sites
with_mention sites l (Some x) = with_site sites l x.0 x.1

-- the sites with those that these tokens name
abbrev pub with_mentions : List Site → ℕ → List Token → List Site
with_mentions sites l [] = sites
with_mentions sites l (t ∷ ts) = with_mentions (with_mention sites l (mention_at t ts)) l ts
