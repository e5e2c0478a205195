-- What a search adds to a survey, and what it leaves at a fault.
use Rattle.std.proofs.Common.{◌≡◌, ◌<◌, ◌+◌, ◌++◌, ◌∷◌, ◌∙◌, ◌⊎◌, inl, inr, ℕ, List, [], Some, None, Bool, true, false, All, ap, append_assoc, arith, length, length-append, map, option_map, refl, slice_get, slice_index_or, subst, sym, take}
use Rattle.std.proofs.lemmas.Bool.{false≢true, true≢false}
use Rattle.std.proofs.lemmas.Grind.{flat_map-append}
use Rattle.std.proofs.lemmas.List.{append-nil, get_or_append_left, get_or_push, take_more}
use Rattle.std.proofs.lemmas.List.Elements.{All-push}
use Rattle.std.proofs.lemmas.Option.{get_or_from_slice_get, slice_get-get_or, slice_get-map, slice_get_within}
use Rattle.std.specs.declared.option.Option.{Option}
use Rattle.std.specs.Prelude.{MatchOption, is_some, not}
use Rattle.std.proofs.KnownBytes.{Appends-nil, Keeps-refl}
use Rattle.orc_rules.specs.Timed.{IsIn}
use Rattle.orc_rules.specs.Nodes.{Listing}
use Rattle.orc_rules.specs.Sites.{Table}
use Rattle.orc_rules.specs.declared.value.Value.{Value}
use Rattle.orc_site.specs.Script.{Says}
use Rattle.orc_load.specs.Loading.{IsProgramOf}
use Rattle.orc_outcome.specs.declared.end.End.{End}
use Rattle.orc_orders.specs.Lines.{lines, unseen_line}
use Rattle.orc_orders.specs.Survey.{IsOf, IsSurvey}
use Rattle.orc_orders.specs.declared.seen.Seen.{Seen}
use Rattle.orc_schedules.specs.Ends.{AreOfRuns}
use Rattle.orc_schedules.specs.Reached.{AreAll, IsAmong}
use Rattle.orc_schedules.specs.Searched.{IsSearched}
use Rattle.orc_schedules.specs.declared.ended.Ended.{Ended}
use Rattle.orc_schedules.specs.declared.exploration.Schedules.{Schedules}
use Rattle.orc_schedules.specs.declared.exploration.Schedules.TheVariants as schedules
use Rattle.orc_run.proofs.Listed.{at_back, at_front, of_either}
use Rattle.orc_output.specs.Output.{AppendsPrefix}
use Rattle.orc_run.specs.Searched.{AreMore, Closes, HasEnd, IsUnseen, LeavesUnsearched, TellsAll, ended_of, found_of, last_line, line_of_all, long, long_line, many, none, says_all, these, together, unseen_lines}
use Rattle.orc_run.specs.Surveyed.{IsUnwritten, LeavesUnsurveyed}
use Rattle.orc_run.specs.declared.faults.RunFault.{RunFault}
use Rattle.orc_run.specs.declared.faults.RunFault.TheVariants as fault

-- ---- the outcomes

get_left : {X : Type 0} (xs ys : List X) (k : ℕ) (x : X) → slice_get xs k ≡ Some x → slice_get (xs ++ ys) k ≡ Some x
get_left xs ys k x there =
    let inside = slice_get_within xs k x there in
    slice_get-get_or (xs ++ ys) k x (omega (arith, inside, length-append xs ys)) ∙ ap Some (get_or_append_left xs ys x k inside ∙ get_or_from_slice_get xs k x x there)

-- with more of them it is among them still
among_more : (xs ys : List Ended) (end : End) (vs : List Value) → IsAmong xs end vs → IsAmong (xs ++ ys) end vs
among_more xs ys end vs (k, e, there, ends, values) = (k, e, get_left xs ys k e there, ends, values)

-- the last one is among them
among_last : (xs : List Ended) (e : Ended) → HasEnd (xs ++ e ∷ []) e
among_last xs e = (length xs, e, slice_get-get_or (xs ++ e ∷ []) (length xs) e (omega (arith, length-append xs (e ∷ []))) ∙ ap Some (get_or_push xs e e (length xs) refl), refl, refl)

-- one that an order came to is among all of them
came_up : (seen : List Seen) (more : List Ended) (e : Ended) (at : ℕ) → at < length seen → ((d : Seen) → IsOf (record { end = e.end; values = e.values.items }) (slice_index_or seen at d)) → HasEnd (together seen more) e
came_up seen more e at inside is =
    let d : Seen = record { end = e.end; values = e.values; first = 0; times = 0 } in
    let x = slice_index_or seen at d in
    let there = slice_get-map ended_of seen at ∙ ap (λ o. option_map ended_of o) (slice_get-get_or seen at d inside) in
    among_more (map ended_of seen) more e.end e.values.items (at, ended_of x, there, (is d).0, (is d).1)

-- what is in one of two lists is in the longer one
among_those : (x : Ended) (those more : List Ended) (e : Ended) → ((y : Ended) → IsIn y more → IsIn y those) → IsIn x more ⊎ IsIn x (e ∷ []) → IsIn x (those ++ e ∷ [])
among_those x those more e from (inl is) = at_front x those (e ∷ []) (from x is)
among_those x those more e from (inr is) = at_back x those (e ∷ []) is

-- one more that an order came to,
more_seen : (seen : List Seen) (found more : List Ended) (i : ℕ) (e : Ended) (at : ℕ) → i < length found → slice_index_or found i e ≡ e → at < length seen
    → ((d : Seen) → IsOf (record { end = e.end; values = e.values.items }) (slice_index_or seen at d)) → AreMore seen (take i found) more → AreMore seen (take (i + 1) found) more
more_seen seen found more i e at inside same here is so_far =
    let one = take_more found i e inside ∙ ap (λ x. take i found ++ x ∷ []) same in
    record {
      each = subst (All (HasEnd (together seen more))) (sym one) (All-push (HasEnd (together seen more)) (take i found) e so_far.each (came_up seen more e at here is));
      apart = so_far.apart;
      from = λ x is. subst (IsIn x) (sym one) (at_front x (take i found) (e ∷ []) (so_far.from x is));
    }

-- and one more that none did
more_unseen : (seen : List Seen) (found more : List Ended) (i : ℕ) (e : Ended) → i < length found → slice_index_or found i e ≡ e → IsUnseen seen e → AreMore seen (take i found) more → AreMore seen (take (i + 1) found) (more ++ e ∷ [])
more_unseen seen found more i e inside same unseen so_far =
    let one = take_more found i e inside ∙ ap (λ x. take i found ++ x ∷ []) same in
    let grown = append_assoc (map ended_of seen) more (e ∷ []) in
    let old : All (HasEnd (together seen (more ++ e ∷ []))) (take i found) = λ k d lt.
    subst (λ es. HasEnd es (slice_index_or (take i found) k d)) grown (among_more (together seen more) (e ∷ []) _ _ (so_far.each k d lt)) in
    record {
      each = subst (All (HasEnd (together seen (more ++ e ∷ [])))) (sym one) (All-push (HasEnd (together seen (more ++ e ∷ []))) (take i found) e old (subst (λ es. HasEnd es e) grown (among_last (together seen more) e)));
      apart = All-push (IsUnseen seen) more e so_far.apart unseen;
      from = λ x is. subst (IsIn x) (sym one) (among_those x (take i found) more e so_far.from (of_either x more (e ∷ []) is));
    }

-- ---- the lines

-- the lines of the outcomes that no order came to, of those before this place
abbrev SoFar : List Seen → List Ended → ℕ → ℕ → List ℕ → List ℕ → Type 0
SoFar seen found orders i old text = (more : List Ended) × AreMore seen (take i found) more × (text ≡ old ++ unseen_lines orders more)

-- where an outcome was looked for among those that came up
abbrev IsLookedUp : List Seen → End → List Value → Option ℕ → Type 0
IsLookedUp seen end vs o = MatchOption o (All (λ x. IsOf (record { end = end; values = vs }) x → ⊥) seen) (λ at. (at < length seen) × ((d : Seen) → IsOf (record { end = end; values = vs }) (slice_index_or seen at d)))

one_line_more : (orders : ℕ) (more : List Ended) (e : Ended) → unseen_lines orders (more ++ e ∷ []) ≡ unseen_lines orders more ++ unseen_line orders e.end e.values.items
one_line_more orders more e =
    flat_map-append (λ f. unseen_line orders f.end f.values.items) more (e ∷ []) ∙ ap (λ t. unseen_lines orders more ++ t) (append-nil (unseen_line orders e.end e.values.items))

-- an outcome that no order came to has a line
pub one_unseen : (seen : List Seen) (found : List Ended) (orders i : ℕ) (old text new : List ℕ) (e : Ended) (vs : List Value) (o : Option ℕ) (fresh : Bool)
    → i < length found → e ≡ slice_index_or found i e → vs ≡ e.values.items → is_some o ≡ not fresh → fresh ≡ true → IsLookedUp seen e.end vs o
    → SoFar seen found orders i old text → new ≡ text ++ unseen_line orders e.end vs → SoFar seen found orders (i + 1) old new
one_unseen seen found orders i old text new e vs (Some at) fresh here same values flag is up so_far grown = absurd (true≢false (flag ∙ ap not is))
one_unseen seen found orders i old text new e vs None fresh here same values flag is up (more, so_far, text_is) grown =
    let unseen = subst (λ ws. All (λ x. IsOf (record { end = e.end; values = ws }) x → ⊥) seen) values up in (
      more ++ e ∷ [],
      more_unseen seen found more i e here (sym same) unseen so_far,
      grown ∙ ap (λ t. t ++ unseen_line orders e.end vs) text_is ∙ append_assoc old (unseen_lines orders more) (unseen_line orders e.end vs)
          ∙ ap (λ ws. old ++ (unseen_lines orders more ++ unseen_line orders e.end ws)) values ∙ ap (λ t. old ++ t) (sym (one_line_more orders more e)),
    )

-- one that came up has none
pub one_seen : (seen : List Seen) (found : List Ended) (orders i : ℕ) (old text new : List ℕ) (e : Ended) (vs : List Value) (o : Option ℕ) (fresh : Bool)
    → i < length found → e ≡ slice_index_or found i e → vs ≡ e.values.items → is_some o ≡ not fresh → fresh ≡ false → IsLookedUp seen e.end vs o
    → SoFar seen found orders i old text → new ≡ text → SoFar seen found orders (i + 1) old new
one_seen seen found orders i old text new e vs None fresh here same values flag is up so_far stays = absurd (false≢true (flag ∙ ap not is))
one_seen seen found orders i old text new e vs (Some at) fresh here same values flag is (inside, up) (more, so_far, text_is) stays =
    let came = subst (λ ws. (d : Seen) → IsOf (record { end = e.end; values = ws }) (slice_index_or seen at d)) values up in
    (more, more_seen seen found more i e at here (sym same) inside came so_far, stays ∙ text_is)

-- ---- what the lines mean

-- the outcomes of a program's runs are still all where each is among others
all_stay : (l : Listing) (t : Table) (limit : ℕ) (es fs : List Ended) → AreAll l t limit es → All (HasEnd fs) es → AreAll l t limit fs
all_stay l t limit es fs all each o run ended =
    let (k, e, there, ends, values) = all o run ended in
    let (j, f, here, same, alike) = subst (HasEnd fs) (get_or_from_slice_get es k e e there) (each k e (slice_get_within es k e there)) in
    (j, f, here, same ∙ ends, alike ∙ values)

-- ---- the last line

closes_all : (l : Listing) (t : Table) (limit most states : ℕ) (es fs : List Ended) → AreAll l t limit es → All (HasEnd fs) es → Closes l t limit most fs (line_of_all es states) true
closes_all l t limit most states [] fs all each = none states all
closes_all l t limit most states (e ∷ es) fs all each = these states (all_stay l t limit (e ∷ es) fs all each)

closes : (l : Listing) (t : Table) (limit most : ℕ) (found : Schedules) (fs : List Ended) → IsSearched l t limit found → All (HasEnd fs) (found_of found) → Closes l t limit most fs (last_line most found) (says_all found)
closes l t limit most (schedules.All es states) fs all each = closes_all l t limit most states es.items fs all.0 each
closes l t limit most schedules.TooMany fs all each = many
closes l t limit most schedules.TooLong fs all each = long

-- a run of the program ends with each outcome that a search found
real : (l : Listing) (t : Table) (limit : ℕ) (found : Schedules) → IsSearched l t limit found → AreOfRuns l t (found_of found)
real l t limit (schedules.All es states) searched = searched.1
real l t limit schedules.TooMany searched = λ e is. absurd is
real l t limit schedules.TooLong searched = λ e is. absurd is

-- ---- what was written

module _ (source script : List ℕ) (orders limit most : ℕ) (l : Listing) (t : Table) (seen : List Seen) (says : Says script t) (spells : IsProgramOf source t l) (survey : IsSurvey l t limit orders seen) where
  tells : (more : List Ended) (last text : List ℕ) (all : Bool) → All (IsUnseen seen) more → AreOfRuns l t more → Closes l t limit most (together seen more) last all → text ≡ lines orders seen ++ (unseen_lines orders more ++ last) → TellsAll source script orders limit most text all
  tells more last text all apart of_runs closes is = record {
    listing = l;
    table = t;
    says = says;
    spells = spells;
    seen = seen;
    survey = survey;
    more = more;
    apart = apart;
    real = of_runs;
    last = last;
    closes = closes;
    lines = is;
  }

  -- the text of what came up and of what a search answers
  abbrev IsTextOf : Schedules → List ℕ → List Seen → Type 0
  IsTextOf found text shown = (more : List Ended) × AreMore shown (found_of found) more × (text ≡ lines orders shown ++ (unseen_lines orders more ++ last_line most found))

  pub all_told : (found : Schedules) (shown : List Seen) (text : List ℕ) (all : Bool) → IsSearched l t limit found → shown ≡ seen → IsTextOf found text shown → all ≡ says_all found → TellsAll source script orders limit most text all
  all_told found shown text all searched same is flag =
      let (more, are, text_is) = subst (IsTextOf found text) same is in
      subst (TellsAll source script orders limit most text) (sym flag) (tells more (last_line most found) text (says_all found) are.apart (λ e is. real l t limit found searched e (are.from e is)) (closes l t limit most found (together seen more) searched are.each) text_is)

  -- where memory is refused for the text nothing is written, which is a front of one that tells less
  pub not_told : (out : Option (List ℕ)) → (text : List ℕ) × (all : Bool) × TellsAll source script orders limit most text all × AppendsPrefix out out text
  not_told out =
      let text = lines orders seen ++ (unseen_lines orders [] ++ long_line) in
      (text, false, tells [] long_line text false (λ k d lt. absurd (omega (arith, lt))) (λ e is. absurd is) long refl, ([], text, refl, Appends-nil out))

-- ---- faults

-- a fault that comes before anything is written leaves the output as it was
pub unsurveyed_before : (source script : List ℕ) (orders limit : ℕ) (out : Option (List ℕ)) (f : RunFault) → IsUnwritten f → LeavesUnsurveyed source script orders limit out out f
unsurveyed_before source script orders limit out (fault.Syntax f) h = Keeps-refl out
unsurveyed_before source script orders limit out (fault.Scope f) h = Keeps-refl out
unsurveyed_before source script orders limit out (fault.Script f) h = Keeps-refl out
unsurveyed_before source script orders limit out (fault.Test f) h = Keeps-refl out
unsurveyed_before source script orders limit out (fault.Journal f) h = Keeps-refl out
unsurveyed_before source script orders limit out (fault.Check f) h = Keeps-refl out
unsurveyed_before source script orders limit out (fault.Engine f) h = Keeps-refl out
unsurveyed_before source script orders limit out (fault.Write w) h = absurd h

pub unsearched_before : (source script : List ℕ) (orders limit most : ℕ) (out : Option (List ℕ)) (f : RunFault) → IsUnwritten f → LeavesUnsearched source script orders limit most out out f
unsearched_before source script orders limit most out (fault.Syntax f) h = Keeps-refl out
unsearched_before source script orders limit most out (fault.Scope f) h = Keeps-refl out
unsearched_before source script orders limit most out (fault.Script f) h = Keeps-refl out
unsearched_before source script orders limit most out (fault.Test f) h = Keeps-refl out
unsearched_before source script orders limit most out (fault.Journal f) h = Keeps-refl out
unsearched_before source script orders limit most out (fault.Check f) h = Keeps-refl out
unsearched_before source script orders limit most out (fault.Engine f) h = Keeps-refl out
unsearched_before source script orders limit most out (fault.Write w) h = absurd h
