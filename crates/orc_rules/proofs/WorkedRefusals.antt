-- Worked refusals and verdicts: each by computing.
use Rattle.std.proofs.Common.{ℕ, List, [], ◌∷◌, refl, inl, inr, true, false, pos, arith}
use Rattle.orc_rules.specs.declared.value.Value.TheVariants.{Number, Truth, Signal}
use Rattle.orc_rules.specs.declared.param.Param.TheVariants.{Name, Is, Cell}
use Rattle.orc_rules.specs.declared.value.Answer.TheVariants.{Value as Gives, Halt}
use Rattle.orc_rules.specs.declared.value.Found.TheVariants.{After, Never}
use Rattle.orc_rules.specs.declared.entry.Entry.TheVariants.{Fork, Def, Open, Call, Return, ReturnHalt, Bind, Right, Publish}
use Rattle.orc_rules.specs.Term.{Term, param, site, call, par, prune}
use Rattle.orc_rules.specs.Sites.{scripted}
use Rattle.orc_rules.specs.Marked.{ended, token, in_call, in_par, in_seq, in_opened, in_other, here, in_right, in_feeding, in_main, in_side, in_entered, emits, on_left, on_main, is_bound}
use Rattle.orc_rules.specs.Timed.{Context, CallMade}
use Rattle.orc_rules.specs.Journal.{moment}
use Rattle.orc_rules.proofs.Idle.{idle_by_test}
use Rattle.orc_rules.proofs.Worked.{world}
use Rattle.orc_rules.proofs.Late.{late, each_dropped, all_dropped}
use Rattle.std.proofs.Common.{ap}
use Rattle.orc_rules.specs.declared.entry.RuleFault.TheVariants.{Mark, Form, Number as Counted, Time}
use Rattle.orc_rules.specs.declared.entry.RuleFault.TheVariants as reason
use Rattle.orc_rules.specs.declared.entry.State.TheVariants.{Halted as HasHalted, Quiet}
use Rattle.orc_rules.specs.Marked.{Replaces}
use Rattle.orc_rules.specs.Timed.{says_of}
use Rattle.orc_rules.specs.Refusal.{IsRefused, IsAnswer}
use Rattle.orc_rules.specs.Verdict.{IsVerdict, IsFault}

-- `x <x< (1 | Add(2, 3))`, the call after the bind that drops it: its token is gone, so entry 4 is refused as Mark
abbrev exchanged_world : Context
exchanged_world = world [] [] false

no_five : (t : Term) (cs : List ℕ) → Replaces (token 5 t) (token 5 t) (token 2 (param (Is (Number (pos 1))))) cs (token 2 (param (Is (Number (pos 1))))) → ⊥
no_five t cs r = elim r [ ]

exchanged : IsRefused exchanged_world (record { marked = (token 2 (param (Is (Number (pos 1))))); mark = 6; now = 0; calls = []; cells = (1 ∷ []); to_cancel = [] }) (Call 5 1 0 ((Number (pos 2)) ∷ (Number (pos 3)) ∷ [])) Mark
exchanged = (refl, λ h. no_five h.0 h.1.0 h.1.1)

exchanged_fault : IsFault exchanged_world (prune (param (Name 0)) 0 (par (param (Is (Number (pos 1)))) (site 0 ((Is (Number (pos 2))) ∷ (Is (Number (pos 3))) ∷ [])))) (Open 1 1 2 3 ∷ Fork 3 4 5 ∷ Bind 4 1 (Number (pos 1)) ∷ Call 5 1 0 ((Number (pos 2)) ∷ (Number (pos 3)) ∷ []) ∷ Publish 2 (Number (pos 1)) ∷ []) 4 Mark
exchanged_fault = inr (record { marked = (in_opened (token 2 (param (Cell 1))) 1 (token 3 (par (param (Is (Number (pos 1)))) (site 0 ((Is (Number (pos 2))) ∷ (Is (Number (pos 3))) ∷ []))))); mark = 4; now = 0; calls = []; cells = (1 ∷ []); to_cancel = [] }, ((inr refl, ((param (Name 0)), (par (param (Is (Number (pos 1)))) (site 0 ((Is (Number (pos 2))) ∷ (Is (Number (pos 3))) ∷ []))), 0, [], refl, refl, refl, here, record { to_cancel = refl; same = refl })), omega arith), inr (record { marked = (in_opened (token 2 (param (Cell 1))) 1 (in_par (token 4 (param (Is (Number (pos 1))))) (token 5 (site 0 ((Is (Number (pos 2))) ∷ (Is (Number (pos 3))) ∷ []))))); mark = 6; now = 0; calls = []; cells = (1 ∷ []); to_cancel = [] }, ((inr refl, ((param (Is (Number (pos 1)))), (site 0 ((Is (Number (pos 2))) ∷ (Is (Number (pos 3))) ∷ [])), refl, refl, record { inside = (1 ∷ []); part = (in_side here); same = refl })), omega arith), inr (record { marked = (token 2 (param (Is (Number (pos 1))))); mark = 6; now = 0; calls = []; cells = (1 ∷ []); to_cancel = [] }, ((inr refl, ((is_bound (on_left emits)), record { to_cancel = (λ e. cc e, λ e. refl); same = refl })), omega arith), inl (refl, exchanged))))

-- `x <x< (1 | Add(2, 3))`, ended while the cancel of the dropped call is due: refused as Cancel one past the last entry
abbrev cut_world : Context
cut_world = world [] [] true

cut_fault : IsFault cut_world (prune (param (Name 0)) 0 (par (param (Is (Number (pos 1)))) (site 0 ((Is (Number (pos 2))) ∷ (Is (Number (pos 3))) ∷ [])))) (Open 1 1 2 3 ∷ Fork 3 4 5 ∷ Call 5 1 0 ((Number (pos 2)) ∷ (Number (pos 3)) ∷ []) ∷ Bind 4 1 (Number (pos 1)) ∷ []) 5 reason.Cancel
cut_fault = inr (record { marked = (in_opened (token 2 (param (Cell 1))) 1 (token 3 (par (param (Is (Number (pos 1)))) (site 0 ((Is (Number (pos 2))) ∷ (Is (Number (pos 3))) ∷ []))))); mark = 4; now = 0; calls = []; cells = (1 ∷ []); to_cancel = [] }, ((inr refl, ((param (Name 0)), (par (param (Is (Number (pos 1)))) (site 0 ((Is (Number (pos 2))) ∷ (Is (Number (pos 3))) ∷ []))), 0, [], refl, refl, refl, here, record { to_cancel = refl; same = refl })), omega arith), inr (record { marked = (in_opened (token 2 (param (Cell 1))) 1 (in_par (token 4 (param (Is (Number (pos 1))))) (token 5 (site 0 ((Is (Number (pos 2))) ∷ (Is (Number (pos 3))) ∷ []))))); mark = 6; now = 0; calls = []; cells = (1 ∷ []); to_cancel = [] }, ((inr refl, ((param (Is (Number (pos 1)))), (site 0 ((Is (Number (pos 2))) ∷ (Is (Number (pos 3))) ∷ [])), refl, refl, record { inside = (1 ∷ []); part = (in_side here); same = refl })), omega arith), inr (record { marked = (in_opened (token 2 (param (Cell 1))) 1 (in_par (token 4 (param (Is (Number (pos 1))))) (in_call 1))); mark = 6; now = 0; calls = (record { number = 1; site = 0; args = ((Number (pos 2)) ∷ (Number (pos 3)) ∷ []); nth = 1; at = 0 } ∷ []); cells = (1 ∷ []); to_cancel = [] }, ((inr refl, (((Is (Number (pos 2))) ∷ (Is (Number (pos 3))) ∷ []), (1 ∷ []), refl, refl, (in_side (in_right here)), record { to_cancel = refl; same = refl })), omega arith), inr (record { marked = (token 2 (param (Is (Number (pos 1))))); mark = 6; now = 0; calls = (record { number = 1; site = 0; args = ((Number (pos 2)) ∷ (Number (pos 3)) ∷ []); nth = 1; at = 0 } ∷ []); cells = (1 ∷ []); to_cancel = (1 ∷ []) }, ((inr refl, ((is_bound (on_left emits)), record { to_cancel = (λ e. record { rising = tt; each = λ k h. each_dropped (1 ∷ []) [] (1 ∷ []) refl k h; all = λ k h out. all_dropped (1 ∷ []) [] (1 ∷ []) refl k h out }, λ e. cc e); same = refl })), omega arith), (refl, refl, λ e. cc e)))))

-- a publication while a cancel is due
uncancelled : IsRefused cut_world (record { marked = (token 2 (param (Is (Number (pos 1))))); mark = 6; now = 0; calls = (record { number = 1; site = 0; args = ((Number (pos 2)) ∷ (Number (pos 3)) ∷ []); nth = 1; at = 0 } ∷ []); cells = (1 ∷ []); to_cancel = (1 ∷ []) }) (Publish 2 (Number (pos 1))) reason.Cancel
uncancelled = (tt, λ e. cc e)

-- `x <x< (1 | Add(2, 3))`, bound while the sum pends, where no cancels are recorded: halted at time 0
abbrev whole_world : Context
whole_world = world [] [] false

whole_verdict : IsVerdict whole_world (prune (param (Name 0)) 0 (par (param (Is (Number (pos 1)))) (site 0 ((Is (Number (pos 2))) ∷ (Is (Number (pos 3))) ∷ [])))) (Open 1 1 2 3 ∷ Fork 3 4 5 ∷ Call 5 1 0 ((Number (pos 2)) ∷ (Number (pos 3)) ∷ []) ∷ Bind 4 1 (Number (pos 1)) ∷ Publish 2 (Number (pos 1)) ∷ []) HasHalted 0
whole_verdict = record {
  end = record { marked = ended; mark = 6; now = 0; calls = (record { number = 1; site = 0; args = ((Number (pos 2)) ∷ (Number (pos 3)) ∷ []); nth = 1; at = 0 } ∷ []); cells = (1 ∷ []); to_cancel = [] };
  taken = (
    record { marked = (in_opened (token 2 (param (Cell 1))) 1 (token 3 (par (param (Is (Number (pos 1)))) (site 0 ((Is (Number (pos 2))) ∷ (Is (Number (pos 3))) ∷ []))))); mark = 4; now = 0; calls = []; cells = (1 ∷ []); to_cancel = [] },
    (((inr refl, ((param (Name 0)), (par (param (Is (Number (pos 1)))) (site 0 ((Is (Number (pos 2))) ∷ (Is (Number (pos 3))) ∷ []))), 0, [], refl, refl, refl, here, record { to_cancel = refl; same = refl }))), omega arith),
    (
      record { marked = (in_opened (token 2 (param (Cell 1))) 1 (in_par (token 4 (param (Is (Number (pos 1))))) (token 5 (site 0 ((Is (Number (pos 2))) ∷ (Is (Number (pos 3))) ∷ []))))); mark = 6; now = 0; calls = []; cells = (1 ∷ []); to_cancel = [] },
      (((inr refl, ((param (Is (Number (pos 1)))), (site 0 ((Is (Number (pos 2))) ∷ (Is (Number (pos 3))) ∷ [])), refl, refl, record { inside = (1 ∷ []); part = (in_side here); same = refl }))), omega arith),
      (
        record { marked = (in_opened (token 2 (param (Cell 1))) 1 (in_par (token 4 (param (Is (Number (pos 1))))) (in_call 1))); mark = 6; now = 0; calls = (record { number = 1; site = 0; args = ((Number (pos 2)) ∷ (Number (pos 3)) ∷ []); nth = 1; at = 0 } ∷ []); cells = (1 ∷ []); to_cancel = [] },
        (((inr refl, (((Is (Number (pos 2))) ∷ (Is (Number (pos 3))) ∷ []), (1 ∷ []), refl, refl, (in_side (in_right here)), record { to_cancel = refl; same = refl }))), omega arith),
        (
          record { marked = (token 2 (param (Is (Number (pos 1))))); mark = 6; now = 0; calls = (record { number = 1; site = 0; args = ((Number (pos 2)) ∷ (Number (pos 3)) ∷ []); nth = 1; at = 0 } ∷ []); cells = (1 ∷ []); to_cancel = [] },
          (((inr refl, ((is_bound (on_left emits)), record { to_cancel = (λ e. cc e, λ e. refl); same = refl }))), omega arith),
          (
            record { marked = ended; mark = 6; now = 0; calls = (record { number = 1; site = 0; args = ((Number (pos 2)) ∷ (Number (pos 3)) ∷ []); nth = 1; at = 0 } ∷ []); cells = (1 ∷ []); to_cancel = [] },
            (((inr refl, (emits, record { to_cancel = refl; same = refl }))), omega arith),
            refl,
          ),
        ),
      ),
    ),
  );
  paid = refl;
  reached = tt;
  time = refl;
}

-- `(Rwait(3) >> Ift(false)) ; 9`
abbrev timed_world : Context
timed_world = world [] [] false

-- a return before its due time
untimely : IsRefused timed_world (record { marked = (in_other 1 (in_seq (in_call 1) 0 (site 4 ((Is (Truth false)) ∷ []))) (param (Is (Number (pos 9))))); mark = 4; now = 0; calls = (record { number = 1; site = 6; args = ((Number (pos 3)) ∷ []); nth = 1; at = 0 } ∷ []); cells = []; to_cancel = [] }) (Return 1 4 Signal) Time
untimely = ((refl, ([], (in_entered (in_feeding here))), tt, refl, (record { number = 1; site = 6; args = ((Number (pos 3)) ∷ []); nth = 1; at = 0 }, 3, inl refl, refl, refl)), λ due. omega (arith, late 0 timed_world.sites (1 ∷ []) (record { number = 1; site = 6; args = ((Number (pos 3)) ∷ []); nth = 1; at = 0 } ∷ []) 1 (Gives Signal) 0 refl (inl refl) due))

-- a new mark that isn't the next one
uncounted : IsRefused timed_world (record { marked = (in_other 1 (in_seq (in_call 1) 0 (site 4 ((Is (Truth false)) ∷ []))) (param (Is (Number (pos 9))))); mark = 4; now = 3; calls = (record { number = 1; site = 6; args = ((Number (pos 3)) ∷ []); nth = 1; at = 0 } ∷ []); cells = []; to_cancel = [] }) (Right 1 6) Counted
uncounted = ((refl, ((in_seq (in_call 1) 0 (site 4 ((Is (Truth false)) ∷ []))), (param (Is (Number (pos 9)))), ([], here)), tt), λ e. cc e)

-- `Flip() | Flip()` with one answer, 1
abbrev flips_world : Context
flips_world = world [] (scripted (record { patterns = []; answers = ((After (Gives (Number (pos 1))) 0) ∷ []) } ∷ []) ∷ []) true

no_halt : IsAnswer flips_world (record { marked = (in_par (token 4 (param (Is (Number (pos 1))))) (in_call 2)); mark = 5; now = 0; calls = (record { number = 2; site = 7; args = []; nth = 2; at = 0 } ∷ record { number = 1; site = 7; args = []; nth = 1; at = 0 } ∷ []); cells = []; to_cancel = [] }) 2 Halt → ⊥
no_halt (c, d, inl e, n, f) = cc (ap (says_of flips_world.sites) e, f)
no_halt (c, d, inr (inl e), n, f) = cc (ap (λ (m : CallMade). m.number) e, n)
no_halt (c, d, inr (inr i), n, f) = elim i [ ]

-- halt, where the table answers 1
unanswered : IsRefused flips_world (record { marked = (in_par (token 4 (param (Is (Number (pos 1))))) (in_call 2)); mark = 5; now = 0; calls = (record { number = 2; site = 7; args = []; nth = 2; at = 0 } ∷ record { number = 1; site = 7; args = []; nth = 1; at = 0 } ∷ []); cells = []; to_cancel = [] }) (ReturnHalt 2) reason.Answer
unanswered = ((refl, ([], (in_right here)), tt, tt), no_halt)

-- `def f(x, y) = x`, `f(1, y) <y< Never()`: quiet at time 0
abbrev quiet_world : Context
quiet_world = world (record { params = (1 ∷ 0 ∷ []); body = (param (Name 1)) } ∷ []) (scripted (record { patterns = []; answers = (Never ∷ []) } ∷ []) ∷ []) true

quiet_verdict : IsVerdict quiet_world (prune (call 0 ((Is (Number (pos 1))) ∷ (Name 0) ∷ [])) 0 (site 7 [])) (Open 1 1 2 3 ∷ Def 2 4 ∷ Publish 4 (Number (pos 1)) ∷ Call 3 1 7 [] ∷ []) Quiet 0
quiet_verdict = record {
  end = record { marked = (in_opened ended 1 (in_call 1)); mark = 5; now = 0; calls = (record { number = 1; site = 7; args = []; nth = 1; at = 0 } ∷ []); cells = (1 ∷ []); to_cancel = [] };
  taken = (
    record { marked = (in_opened (token 2 (call 0 ((Is (Number (pos 1))) ∷ (Cell 1) ∷ []))) 1 (token 3 (site 7 []))); mark = 4; now = 0; calls = []; cells = (1 ∷ []); to_cancel = [] },
    (((inr refl, ((call 0 ((Is (Number (pos 1))) ∷ (Name 0) ∷ [])), (site 7 []), 0, [], refl, refl, refl, here, record { to_cancel = refl; same = refl }))), omega arith),
    (
      record { marked = (in_opened (token 4 (param (Is (Number (pos 1))))) 1 (token 3 (site 7 []))); mark = 5; now = 0; calls = []; cells = (1 ∷ []); to_cancel = [] },
      (((inr refl, (0, ((Is (Number (pos 1))) ∷ (Cell 1) ∷ []), _, [], refl, refl, (in_main here), record { to_cancel = refl; same = refl }))), omega arith),
      (
        record { marked = (in_opened ended 1 (token 3 (site 7 []))); mark = 5; now = 0; calls = []; cells = (1 ∷ []); to_cancel = [] },
        (((inr refl, ((on_main emits), record { to_cancel = refl; same = refl }))), omega arith),
        (
          record { marked = (in_opened ended 1 (in_call 1)); mark = 5; now = 0; calls = (record { number = 1; site = 7; args = []; nth = 1; at = 0 } ∷ []); cells = (1 ∷ []); to_cancel = [] },
          (((inr refl, ([], (1 ∷ []), refl, refl, (in_side here), record { to_cancel = refl; same = refl }))), omega arith),
          refl,
        ),
      ),
    ),
  );
  paid = refl;
  time = refl;
  reached = record {
    running = λ h. h.1;
    idle = idle_by_test quiet_world (moment (record { marked = (in_opened ended 1 (in_call 1)); mark = 5; now = 0; calls = (record { number = 1; site = 7; args = []; nth = 1; at = 0 } ∷ []); cells = (1 ∷ []); to_cancel = [] })) refl (λ k b t i due. late 0 quiet_world.sites (1 ∷ []) (record { number = 1; site = 7; args = []; nth = 1; at = 0 } ∷ []) k b t refl i due);
    no_tick = λ t tick. omega (arith, late t quiet_world.sites (1 ∷ []) (record { number = 1; site = 7; args = []; nth = 1; at = 0 } ∷ []) tick.reached.0 tick.reached.1 t refl tick.reached.2 tick.reached.3);
  };
}
