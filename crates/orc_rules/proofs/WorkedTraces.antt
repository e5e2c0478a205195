-- Worked traces of runs, by computing.
use Rattle.std.proofs.Common.{◌≡◌, ℕ, List, [], ◌∷◌, refl, inl, inr, pos}
use Rattle.orc_rules.specs.declared.value.Value.TheVariants.{Number, Signal}
use Rattle.orc_rules.specs.declared.value.Answer.TheVariants.{Value as Gives}
use Rattle.orc_rules.specs.declared.entry.Entry.TheVariants.{End, Fork, Open, Bind, Publish, Tick, Cancel}
use Rattle.orc_rules.specs.Step.{calls, returns, binds, loses, publishes, silent, opens}
use Rattle.orc_rules.specs.Timed.{IsIn, Event, does, ticks, cancels}
use Rattle.orc_rules.specs.Trace.{trace, publications, published, AreInside}

-- a run with an event of each kind
abbrev events : List Event
events =
    does (opens 1) ∷ does silent ∷ does (calls 1 6 [] (1 ∷ [])) ∷ ticks 3 ∷ does (returns 1 (Gives Signal)) ∷ does (publishes (Number (pos 1))) ∷ does (binds 1 Signal) ∷ cancels 2 ∷ does (opens 2) ∷ does (loses 2) ∷ does (publishes Signal) ∷ []

-- neither silent labels nor ticks are in its trace
trace_of_each : trace events ≡ does (calls 1 6 [] (1 ∷ [])) ∷ does (returns 1 (Gives Signal)) ∷ does (publishes (Number (pos 1))) ∷ does (binds 1 Signal) ∷ cancels 2 ∷ does (loses 2) ∷ does (publishes Signal) ∷ []
trace_of_each = refl

publications_in_order : publications events ≡ Number (pos 1) ∷ Signal ∷ []
publications_in_order = refl

published_in_order : published (Open 1 1 2 3 ∷ Fork 3 4 5 ∷ Publish 2 (Number (pos 1)) ∷ Bind 4 1 Signal ∷ Tick 3 ∷ Cancel 1 ∷ Publish 6 Signal ∷ End 7 ∷ []) ≡ Number (pos 1) ∷ Signal ∷ []
published_in_order = refl

-- a call inside the right side of a cell that was bound, and of one that was lost
call_after_bind : AreInside (does (binds 1 Signal) ∷ does (calls 2 6 [] (3 ∷ 1 ∷ [])) ∷ []) → ⊥
call_after_bind h = h.0.0 (inr (inl refl))

call_after_lost : AreInside (does (loses 1) ∷ ticks 2 ∷ does (calls 2 6 [] (1 ∷ [])) ∷ []) → ⊥
call_after_lost h = h.0.0 (inl refl)

-- a cell that is settled twice
bound_twice : AreInside (does (binds 1 Signal) ∷ does silent ∷ does (binds 1 Signal) ∷ []) → ⊥
bound_twice h = h.1.0 refl

bound_then_lost : AreInside (does silent ∷ does (binds 1 Signal) ∷ does (loses 1) ∷ []) → ⊥
bound_then_lost h = h.1.0 refl

lost_then_bound : AreInside (does (loses 1) ∷ does (binds 1 Signal) ∷ []) → ⊥
lost_then_bound h = h.1.0 refl

-- calls inside other cells, and other cells settled, are as they should be
others_settled : AreInside (does (binds 1 Signal) ∷ does (calls 2 6 [] (3 ∷ 2 ∷ [])) ∷ does (loses 2) ∷ does (binds 3 Signal) ∷ [])
others_settled = ((λ i. no_one i, tt), (λ e. cc e, (λ e. cc e, tt)), (tt, (λ e. cc e, tt), (tt, tt, tt)))
  where
    no_one : IsIn {X = ℕ} 1 (3 ∷ 2 ∷ []) → ⊥
    no_one (inl e) = cc e
    no_one (inr (inl e)) = cc e
    no_one (inr (inr i)) = i
