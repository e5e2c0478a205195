-- Worked refusals, one and more for each reason, and verdicts, on small terms.
use Rattle.std.proofs.Common.{◌≡◌, ◌≤◌, ℕ, zero, suc, List, [], ◌∷◌, refl, inl, inr, true, pos, None, ap, arith}
use Rattle.orc_rules.specs.declared.value.Value.TheVariants.{Number, Signal}
use Rattle.orc_rules.specs.declared.param.Param.TheVariants.{Is, Cell}
use Rattle.orc_rules.specs.declared.entry.Entry.TheVariants.{Return, End, Fork, Publish, Call, Lost, Right, Tick, Cancel}
use Rattle.orc_rules.specs.declared.entry.RuleFault.TheVariants.{Mark, Form, Number as Counted, Time, Deep}
use Rattle.orc_rules.specs.declared.entry.RuleFault.TheVariants as reason
use Rattle.orc_rules.specs.Term.{pending, Term, stop, param, site, par, Halted}
use Rattle.orc_rules.specs.Step.{publishes, value_rule, par_left}
use Rattle.orc_rules.specs.Marked.{Marked, ended, token, in_call, in_par, in_seq, in_opened, in_other, erase, Replaces, here, in_feeding, in_main, in_side, in_entered, Emits, on_feeding}
use Rattle.orc_rules.specs.declared.value.Answer.{Answer}
use Rattle.orc_rules.specs.declared.value.Found.{Found}
use Rattle.orc_rules.specs.declared.value.Found.TheVariants.{After, Never}
use Rattle.orc_rules.specs.Timed.{Context, Moment, CallMade, IsIn, IsDue, IsQuiet, says_of}
use Rattle.orc_rules.proofs.Tests.{quiet_by_test}
use Rattle.orc_rules.specs.Journal.{Place, begin}
use Rattle.orc_rules.specs.Refusal.{IsTaken, IsRefused, depth}
use Rattle.orc_rules.specs.declared.value.Answer.TheVariants.{Value as Gives}
use Rattle.orc_rules.specs.declared.entry.State.TheVariants.{Halted as HasHalted, Running}
use Rattle.orc_rules.specs.Verdict.{IsVerdict}
use Rattle.orc_rules.proofs.Worked.{world}

-- a place at time 0 with one call of `Rwait(3)` and one cell
abbrev at_start : Marked → Place
at_start m = record {
  marked = m;
  mark = 6;
  now = 0;
  calls = record { number = 1; site = 6; args = Number (pos 3) ∷ []; nth = 1; at = 0 } ∷ [];
  cells = 1 ∷ [];
  to_cancel = [];
}

abbrev one : Term
one = param (Is (Number (pos 1)))

-- a cancel where none is due
no_cancel : IsRefused (world [] [] true) (at_start (in_call 1)) (Cancel 1) reason.Cancel
no_cancel = (tt, λ h. cc h.1)

-- the right side of an otherwise whose left side has published: the otherwise is gone
no_otherwise : IsRefused (world [] [] true) (at_start ended) (Right 1 6) Mark
no_otherwise = (refl, λ h. not_there h.0 h.1 h.2.0 h.2.1)
  where
    not_there : (f : Marked) (g : Term) (cs : List ℕ) → Replaces (in_other 1 f g) (in_other 1 f g) ended cs ended → ⊥
    not_there f g cs r = elim r [ ]

-- a cell that is lost twice
lost_twice : IsRefused (world [] [] true) (at_start (token 2 stop)) (Lost 1) Mark
lost_twice = (refl, λ h. not_there h.0 h.1 h.2.0 h.2.1)
  where
    not_there : (f g : Marked) (cs : List ℕ) → Replaces (in_opened f 1 g) (in_opened f 1 g) (token 2 stop) cs (token 2 stop) → ⊥
    not_there f g cs r = elim r [ ]

-- a return of a call that was dropped with a side
dropped_call : IsRefused (world [] [] true) (at_start (token 2 one)) (Return 1 6 Signal) Mark
dropped_call = (refl, λ h. not_there h.0 h.1)
  where
    not_there : (cs : List ℕ) → Replaces (in_call 1) (in_call 1) (token 2 one) cs (token 2 one) → ⊥
    not_there cs r = elim r [ ]

-- a token where a call of that number pends, and none of that mark
call_for_token : IsRefused (world [] [] true) (at_start (in_call 1)) (End 1) Mark
call_for_token = (refl, λ h. not_there h.0 h.1.0 h.1.1)
  where
    not_there : (t : Term) (cs : List ℕ) → Replaces (token 1 t) (token 1 t) (in_call 1) cs (in_call 1) → ⊥
    not_there t cs r = elim r [ ]

-- `end` on a value
not_stop : IsRefused (world [] [] true) (at_start (token 2 one)) (End 2) Form
not_stop = ((refl, (one, ([], here))), λ h. not_there h.0 h.1)
  where
    not_there : (cs : List ℕ) → Replaces (token 2 stop) (token 2 stop) (token 2 one) cs (token 2 one) → ⊥
    not_there cs r = elim r [ ]

-- `publish` of another value than the token's
other_value : IsRefused (world [] [] true) (at_start (token 2 one)) (Publish 2 (Number (pos 2))) Form
other_value = ((refl, (one, ([], here))), λ h. not_emitted h.0 h.1)
  where
    not_emitted : (m : Marked) → Emits 2 6 (Number (pos 2)) (token 2 one) (publishes (Number (pos 2))) m → ⊥
    not_emitted m e = elim e [ ]

-- `publish` where a `>x>` takes the publication
taken_by_feeding : IsRefused (world [] [] true) (at_start (in_seq (token 2 one) 0 stop)) (Publish 2 (Number (pos 1))) Form
taken_by_feeding = ((refl, (one, ([], in_feeding here))), λ h. not_emitted h.0 h.1)
  where
    not_emitted : (m : Marked) → Emits 2 6 (Number (pos 1)) (in_seq (token 2 one) 0 stop) (publishes (Number (pos 1))) m → ⊥
    not_emitted m (on_feeding i e) = i

-- a call with a number that isn't the next one
call_out_of_count : IsRefused (world [] [] true) (at_start (token 2 (site 6 (Is (Number (pos 1)) ∷ [])))) (Call 2 3 6 (Number (pos 1) ∷ [])) Counted
call_out_of_count = ((refl, (_, ([], here)), (Is (Number (pos 1)) ∷ [], refl, ([], here))), λ h. omega (arith, h))

-- a tick while a token can publish
tick_too_soon : IsRefused (world [] [] true) (at_start (in_par (token 2 one) (in_call 1))) (Tick 3) Time
tick_too_soon = ((refl, tt, tt, tt, tt), λ tick. tick.idle (publishes (Number (pos 1))) (par stop (erase (in_call 1))) (par_left value_rule))

-- a tick beyond the least due time
tick_too_far : IsRefused (world [] [] true) (at_start (in_call 1)) (Tick 4) Time
tick_too_far = ((refl, tt, tt, tt, tt), λ tick. omega (arith, tick.least 1 (Gives Signal) 3 (inl refl) (record { by = record { number = 1; site = 6; args = Number (pos 3) ∷ []; nth = 1; at = 0 }; is_made = inl refl; is_k = refl; delay = 3; says = refl; sum = refl; fits = omega arith })))

-- a tick where nothing pends
tick_for_nothing : IsRefused (world [] [] true) (at_start ended) (Tick 3) Time
tick_for_nothing = ((refl, tt, tt, tt, tt), λ tick. tick.reached.2)

-- `lost` while a call pends in the right side
side_goes_on : IsRefused (world [] [] true) (at_start (in_opened (token 2 (param (Cell 1))) 1 (in_call 1))) (Lost 1) reason.Halted
side_goes_on = ((refl, (_, _, ([], here)), tt, tt, tt, tt), λ h. not_over h.0 h.1 h.2.0 h.2.1 h.3)
  where
    not_over : (f g : Marked) (cs : List ℕ) → Replaces (in_opened f 1 g) (in_opened f 1 g) (in_opened (token 2 (param (Cell 1))) 1 (in_call 1)) cs (in_opened (token 2 (param (Cell 1))) 1 (in_call 1)) → Halted (erase g) → ⊥
    not_over f g cs here h = h
    not_over f g cs (in_main r) h = elim r [ ]
    not_over f g cs (in_side r) h = elim r [ ]

-- the right side of an otherwise while a call pends in the left one
left_goes_on : IsRefused (world [] [] true) (at_start (in_other 2 (in_call 1) stop)) (Right 2 6) reason.Halted
left_goes_on = ((refl, (_, _, ([], here)), tt, refl, tt, tt), λ h. not_over h.0 h.1 h.2.0 h.2.1 h.3)
  where
    not_over : (f : Marked) (g : Term) (cs : List ℕ) → Replaces (in_other 2 f g) (in_other 2 f g) (in_other 2 (in_call 1) stop) cs (in_other 2 (in_call 1) stop) → Halted (erase f) → ⊥
    not_over f g cs here h = h
    not_over f g cs (in_entered r) h = elim r [ ]

-- `stop | (stop | ..)`, n times
abbrev nested : ℕ → Term
nested zero = stop
nested (suc n) = par stop (nested n)

nested_depth : (n : ℕ) → depth (nested n) ≡ suc n
nested_depth zero = refl
nested_depth (suc n) = omega (arith, nested_depth n)

-- a `fork` in a term that nests over 10,000 levels
too_deep : (n : ℕ) → 10000 ≤ suc n → IsRefused (world [] [] true) (begin (par stop (nested n))) (Fork 1 2 3) Deep
too_deep n le = (
  record (begin (par stop (nested n))) { marked = in_par (token 2 stop) (token 3 (nested n)); mark = 4 },
  (inr refl, (stop, nested n, refl, refl, record { inside = []; part = here; same = refl })),
  omega (arith, le, nested_depth n),
)

-- the same in a term of 10,000 levels and less
not_too_deep : (n : ℕ) → suc (suc n) ≤ 10000 → IsTaken (world [] [] true) (begin (par stop (nested n))) (Fork 1 2 3) (record (begin (par stop (nested n))) { marked = in_par (token 2 stop) (token 3 (nested n)); mark = 4 })
not_too_deep n le = ((inr refl, (stop, nested n, refl, refl, record { inside = []; part = here; same = refl })), omega (arith, le, nested_depth n))

-- no entries, for `1`: running at time 0
running_at_start : IsVerdict (world [] [] true) one [] Running 0
running_at_start = record { end = begin one; taken = refl; paid = refl; reached = (λ h. h, λ q. q.idle (publishes (Number (pos 1))) stop value_rule); time = refl }

-- no entries, for `stop`: halted before its `end`
halted_at_start : IsVerdict (world [] [] true) stop [] HasHalted 0
halted_at_start = record { end = begin stop; taken = refl; paid = refl; reached = tt; time = refl }

-- `Rwait(2)`, called two units before the end of time: never due
abbrev at_end : Moment
at_end = record {
  term = pending 1;
  now = 18446744073709551614;
  calls = record { number = 1; site = 6; args = Number (pos 2) ∷ []; nth = 1; at = 18446744073709551614 } ∷ [];
  cells = [];
  to_cancel = [];
}

abbrev delay_of : Found → ℕ
delay_of (After a d) = d
delay_of Never = 0

never_due : (k : ℕ) (a : Answer) (t : ℕ) → IsDue (Context.sites (world [] [] true)) at_end.calls k a t → ⊥
never_due k a t due = from_place due.is_made
  where
    from_place : IsIn due.by at_end.calls → ⊥
    from_place (inl e) =
        omega (arith, due.sum, due.fits, ap (λ (c : CallMade). c.at) e, ap (λ (c : CallMade). delay_of (says_of (Context.sites (world [] [] true)) c)) e, ap delay_of due.says)
    from_place (inr i) = i

-- so the run is quiet
quiet_at_end : IsQuiet (world [] [] true) at_end
quiet_at_end = (quiet_by_test (world [] [] true) at_end None (λ t p. never_due p.0 p.1 t p.3)).1 (refl, refl, refl)

-- and `Rwait(1)` there is due at the last time that there is
abbrev last_call : CallMade
last_call = record { number = 1; site = 6; args = Number (pos 1) ∷ []; nth = 1; at = 18446744073709551614 }

due_at_last : IsDue (Context.sites (world [] [] true)) (last_call ∷ []) 1 (Gives Signal) 18446744073709551615
due_at_last = record { by = last_call; is_made = inl refl; is_k = refl; delay = 1; says = refl; sum = refl; fits = omega arith }
