-- A run takes a path of states.
use Rattle.std.proofs.Common.{◌≡◌, ℕ, suc, ◌+◌, ◌-◌, List, [], ◌∷◌, Bool, true, false, refl, sym, ap, ◌∙◌, subst, arith}
use Rattle.std.specs.Prelude.{cond, nat_eq, ◌&&◌}
use Rattle.std.specs.List.{count_by}
use Rattle.std.proofs.lemmas.List.Sums.{sum_by-cons}
use Rattle.orc_rules.specs.declared.value.Value.{Value}
use Rattle.orc_rules.specs.declared.value.Found.{Found}
use Rattle.orc_rules.specs.declared.value.Found.TheVariants.{After, Never}
use Rattle.orc_rules.specs.Sites.{Site, find, values_eq}
use Rattle.orc_rules.specs.Step.{Act, calls, returns, binds, loses, publishes, silent, opens}
use Rattle.orc_rules.specs.Timed.{Context, CallMade, Moment, nth_of, Event, does, ticks, cancels, Does, Run, calls_after}
use Rattle.orc_search.specs.Small.{Out, Small}
use Rattle.orc_search.specs.Moves.{Happening, SmallDefinition, Moves}
use Rattle.orc_search.specs.Seen.{happening}
use Rattle.orc_search.specs.Moments.{left, out_of, ask_of, small_of}
use Rattle.orc_search.specs.Ticks.{Passes}
use Rattle.orc_search.specs.Runs.{IsWell}
use Rattle.orc_search.specs.States.{State, next_call, without_next, coming_after, happens, Goes, Path, coming_of, state_of, sights, AreOf, RunIsPath}
use Rattle.orc_search.proofs.Moments.{does_is_small_move}
use Rattle.orc_search.proofs.Ticks.{tick_is_small}
use Rattle.orc_search.proofs.Runs.{run_is_well}

whole : (now : ℕ) (f : Found) → left now now f ≡ f
whole now (After a delay) = ap (After a) (omega arith)
whole now Never = refl

from_none : (n : ℕ) → n ≡ 0 + n
from_none n = omega arith

-- what is asked of the table at a moment, and in its state
pub same_ask : (sites : List Site) (now : ℕ) (made : List CallMade) (m : ℕ) (args : List Value) → ask_of sites now made m args ≡ next_call (coming_of sites made) m args
same_ask sites now made m args =
    (λ i. record { site = m; args = args; rest = whole now (find sites m args (nth_of m args made)) i })
    ∙ (λ i. record { site = m; args = args; rest = find sites m args (from_none (nth_of m args made) i) })

numbers : (b : Bool) (i n : ℕ) → i + suc (cond b 1 0 + n) ≡ cond b (suc i) i + suc n
numbers true i n = omega arith
numbers false i n = omega arith

one_more : (sites : List Site) (made : List CallMade) (c : CallMade) (m : ℕ) (args : List Value) (i : ℕ)
    → coming_of sites (c ∷ made) m args i ≡ without_next c.site c.args (coming_of sites made) m args i
one_more sites made c m args i =
    let is : CallMade → Bool = λ d. nat_eq m (CallMade.site d) && values_eq args (CallMade.args d) in
    ap (find sites m args) (ap (λ k. i + suc k) (sum_by-cons (λ d. cond (is d) 1 0) c made) ∙ numbers (is c) i (count_by is made))

pub coming_next : (x : Context) (s : Moment) (a : Act) → coming_of x.sites (calls_after s a) ≡ coming_after (happening (out_of x.sites s.now s.calls) a) (coming_of x.sites s.calls)
coming_next x s (calls k m args cs) = λ j n vs i. one_more x.sites s.calls (record { number = k; site = m; args = args; nth = nth_of m args s.calls; at = s.now }) n vs i j
coming_next x s (returns k a) = refl
coming_next x s (binds c v) = refl
coming_next x s (loses c) = refl
coming_next x s (publishes v) = refl
coming_next x s silent = refl
coming_next x s (opens c) = refl

module _ (x : Context) (smalls : List SmallDefinition) (of : AreOf smalls x) where
  goes : (s : Moment) (a : Act) (s' : Moment) → IsWell s → Does x s a s' → Goes smalls (state_of x s) (happens (happening (out_of x.sites s.now s.calls) a)) (state_of x s')
  goes s a s' w d =
      let asks : ask_of x.sites s.now s.calls ≡ next_call (coming_of x.sites s.calls) = λ j m args. same_ask x.sites s.now s.calls m args j in
      let h : Happening = happening (out_of x.sites s.now s.calls) a in (
        subst (λ (ask : ℕ → List Value → Out). Moves smalls ask 0 (small_of x s) h (small_of x s')) asks (does_is_small_move x smalls s s' a of.seen w.0 w.2 d),
        ap (coming_of x.sites) d.calls ∙ coming_next x s a,
      )

  path : (s : Moment) (es : List Event) (s' : Moment) → IsWell s → (r : Run x s es s') → Path smalls (state_of x s) (sights x s es s' r) (state_of x s')
  path s [] s' w r = ap (state_of x) r
  path s (does a ∷ es) s' w r = (state_of x r.0, goes s a r.0 w r.1, path r.0 es s' (run_is_well x s r.0 (does a ∷ []) of.bodies of.closed w (r.0, r.1, refl)) r.2)
  path s (ticks t ∷ es) s' w r =
      let h = r.1 in
      let tick = tick_is_small x smalls s t of.there w.0 w.1 w.2 h.1 in
      let to : small_of x (record s { now = t }) ≡ small_of x r.0 = ap (small_of x) (sym h.2) in
      (state_of x r.0, (subst (λ (f : Small). Passes smalls (small_of x s) (t - s.now) f) to tick, λ i. coming_of x.sites (Moment.calls (h.2 i))), path r.0 es s' (run_is_well x s r.0 (ticks t ∷ []) of.bodies of.closed w (r.0, r.1, refl)) r.2)
  path s (cancels k ∷ es) s' w r =
      let h = r.1 in
      let same : state_of x r.0 ≡ state_of x s = ap (state_of x) h.1 in
      subst (λ (from : State). Path smalls from (sights x r.0 es s' r.2) (state_of x s')) same (path r.0 es s' (run_is_well x s r.0 (cancels k ∷ []) of.bodies of.closed w (r.0, r.1, refl)) r.2)

pub run_is_path : RunIsPath
run_is_path x smalls s s' es of w r = path x smalls of s es s' w r
