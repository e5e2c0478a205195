-- Worked journals of `stop` and of otherwises: each entry and each place by computing.
use Rattle.std.proofs.Common.{[], ◌∷◌, refl, inl, inr, true, false, pos, arith}
use Rattle.orc_rules.specs.declared.value.Value.TheVariants.{Number, Truth, Signal}
use Rattle.orc_rules.specs.declared.param.Param.TheVariants.{Name, Is, Cell, Void}
use Rattle.orc_rules.specs.declared.value.Answer.TheVariants.{Value as Gives}
use Rattle.orc_rules.specs.declared.entry.Entry.TheVariants.{End, Fork, Seq, Other, Def, Open, Send, Call, Return, ReturnHalt, Bind, Lost, Right, Publish, Tick, Cancel}
use Rattle.orc_rules.specs.declared.entry.Entry.TheVariants as entry
use Rattle.orc_rules.specs.Term.{stop, param, site, seq, prune, other, Halted}
use Rattle.orc_rules.specs.Marked.{ended, token, in_call, in_par, in_seq, in_opened, in_other, erase, here, in_right, in_feeding, in_side, in_entered, emits, on_right, is_fed, on_entered, passes}
use Rattle.orc_rules.specs.Timed.{Context}
use Rattle.orc_rules.specs.Journal.{Journal, begin, moment}
use Rattle.orc_rules.proofs.Idle.{idle_by_test}
use Rattle.orc_rules.proofs.Worked.{world}
use Rattle.orc_rules.proofs.Late.{late}

-- `stop`: its mark ends
abbrev stop_ends_world : Context
stop_ends_world = world [] [] true

stop_ends : Journal stop_ends_world (begin stop) (End 1 ∷ []) (record { marked = ended; mark = 2; now = 0; calls = []; cells = []; to_cancel = [] })
stop_ends = (
  record { marked = ended; mark = 2; now = 0; calls = []; cells = []; to_cancel = [] },
  (inr refl, record { inside = []; part = here; same = refl }),
  refl,
)

stop_ends_halted : Halted (erase ended)
stop_ends_halted = tt

-- `Ift(false) ; 2`: the call halts, and the right side starts
abbrev otherwise_after_halt_world : Context
otherwise_after_halt_world = world [] [] true

otherwise_after_halt : Journal otherwise_after_halt_world (begin (other (site 4 ((Is (Truth false)) ∷ [])) (param (Is (Number (pos 2)))))) (Other 1 2 ∷ Call 2 1 4 ((Truth false) ∷ []) ∷ ReturnHalt 1 ∷ Right 1 3 ∷ Publish 3 (Number (pos 2)) ∷ []) (record { marked = ended; mark = 4; now = 0; calls = (record { number = 1; site = 4; args = ((Truth false) ∷ []); nth = 1; at = 0 } ∷ []); cells = []; to_cancel = [] })
otherwise_after_halt = (
  record { marked = (in_other 1 (token 2 (site 4 ((Is (Truth false)) ∷ []))) (param (Is (Number (pos 2))))); mark = 3; now = 0; calls = []; cells = []; to_cancel = [] },
  (inr refl, ((site 4 ((Is (Truth false)) ∷ [])), (param (Is (Number (pos 2)))), refl, record { inside = []; part = here; same = refl })),
  (
    record { marked = (in_other 1 (in_call 1) (param (Is (Number (pos 2))))); mark = 3; now = 0; calls = (record { number = 1; site = 4; args = ((Truth false) ∷ []); nth = 1; at = 0 } ∷ []); cells = []; to_cancel = [] },
    (inr refl, (((Is (Truth false)) ∷ []), [], refl, refl, (in_entered here), record { to_cancel = refl; same = refl })),
    (
      record { marked = (in_other 1 ended (param (Is (Number (pos 2))))); mark = 3; now = 0; calls = (record { number = 1; site = 4; args = ((Truth false) ∷ []); nth = 1; at = 0 } ∷ []); cells = []; to_cancel = [] },
      (inr refl, ([], record { by = record { number = 1; site = 4; args = ((Truth false) ∷ []); nth = 1; at = 0 }; is_made = inl refl; is_k = refl; delay = 0; says = refl; sum = refl; fits = omega arith }, (in_entered here), record { to_cancel = refl; same = refl })),
      (
        record { marked = (token 3 (param (Is (Number (pos 2))))); mark = 4; now = 0; calls = (record { number = 1; site = 4; args = ((Truth false) ∷ []); nth = 1; at = 0 } ∷ []); cells = []; to_cancel = [] },
        (inr refl, (ended, (param (Is (Number (pos 2)))), [], refl, tt, here, record { to_cancel = refl; same = refl })),
        (
          record { marked = ended; mark = 4; now = 0; calls = (record { number = 1; site = 4; args = ((Truth false) ∷ []); nth = 1; at = 0 } ∷ []); cells = []; to_cancel = [] },
          (inr refl, (emits, record { to_cancel = refl; same = refl })),
          refl,
        ),
      ),
    ),
  ),
)

otherwise_after_halt_halted : Halted (erase ended)
otherwise_after_halt_halted = tt

-- `1 ; 2`: the left side publishes, and the otherwise is gone
abbrev otherwise_published_world : Context
otherwise_published_world = world [] [] true

otherwise_published : Journal otherwise_published_world (begin (other (param (Is (Number (pos 1)))) (param (Is (Number (pos 2)))))) (Other 1 2 ∷ Publish 2 (Number (pos 1)) ∷ []) (record { marked = ended; mark = 3; now = 0; calls = []; cells = []; to_cancel = [] })
otherwise_published = (
  record { marked = (in_other 1 (token 2 (param (Is (Number (pos 1))))) (param (Is (Number (pos 2))))); mark = 3; now = 0; calls = []; cells = []; to_cancel = [] },
  (inr refl, ((param (Is (Number (pos 1)))), (param (Is (Number (pos 2)))), refl, record { inside = []; part = here; same = refl })),
  (
    record { marked = ended; mark = 3; now = 0; calls = []; cells = []; to_cancel = [] },
    (inr refl, ((passes emits), record { to_cancel = refl; same = refl })),
    refl,
  ),
)

otherwise_published_halted : Halted (erase ended)
otherwise_published_halted = tt

-- `(Rwait(3) >> Ift(false)) ; 9`: the right side starts at time 3
abbrev otherwise_after_wait_world : Context
otherwise_after_wait_world = world [] [] false

otherwise_after_wait : Journal otherwise_after_wait_world (begin (other (seq (site 6 ((Is (Number (pos 3))) ∷ [])) 0 (site 4 ((Is (Truth false)) ∷ []))) (param (Is (Number (pos 9)))))) (Other 1 2 ∷ Seq 2 3 ∷ Call 3 1 6 ((Number (pos 3)) ∷ []) ∷ Tick 3 ∷ Return 1 4 Signal ∷ Send 4 5 Signal ∷ Call 5 2 4 ((Truth false) ∷ []) ∷ ReturnHalt 2 ∷ Right 1 6 ∷ Publish 6 (Number (pos 9)) ∷ []) (record { marked = ended; mark = 7; now = 3; calls = (record { number = 2; site = 4; args = ((Truth false) ∷ []); nth = 1; at = 3 } ∷ record { number = 1; site = 6; args = ((Number (pos 3)) ∷ []); nth = 1; at = 0 } ∷ []); cells = []; to_cancel = [] })
otherwise_after_wait = (
  record { marked = (in_other 1 (token 2 (seq (site 6 ((Is (Number (pos 3))) ∷ [])) 0 (site 4 ((Is (Truth false)) ∷ [])))) (param (Is (Number (pos 9))))); mark = 3; now = 0; calls = []; cells = []; to_cancel = [] },
  (inr refl, ((seq (site 6 ((Is (Number (pos 3))) ∷ [])) 0 (site 4 ((Is (Truth false)) ∷ []))), (param (Is (Number (pos 9)))), refl, record { inside = []; part = here; same = refl })),
  (
    record { marked = (in_other 1 (in_seq (token 3 (site 6 ((Is (Number (pos 3))) ∷ []))) 0 (site 4 ((Is (Truth false)) ∷ []))) (param (Is (Number (pos 9))))); mark = 4; now = 0; calls = []; cells = []; to_cancel = [] },
    (inr refl, ((site 6 ((Is (Number (pos 3))) ∷ [])), (site 4 ((Is (Truth false)) ∷ [])), 0, refl, record { inside = []; part = (in_entered here); same = refl })),
    (
      record { marked = (in_other 1 (in_seq (in_call 1) 0 (site 4 ((Is (Truth false)) ∷ []))) (param (Is (Number (pos 9))))); mark = 4; now = 0; calls = (record { number = 1; site = 6; args = ((Number (pos 3)) ∷ []); nth = 1; at = 0 } ∷ []); cells = []; to_cancel = [] },
      (inr refl, (((Is (Number (pos 3))) ∷ []), [], refl, refl, (in_entered (in_feeding here)), record { to_cancel = refl; same = refl })),
      (
        record { marked = (in_other 1 (in_seq (in_call 1) 0 (site 4 ((Is (Truth false)) ∷ []))) (param (Is (Number (pos 9))))); mark = 4; now = 3; calls = (record { number = 1; site = 6; args = ((Number (pos 3)) ∷ []); nth = 1; at = 0 } ∷ []); cells = []; to_cancel = [] },
        (inr refl, (record { idle = idle_by_test otherwise_after_wait_world (moment (record { marked = (in_other 1 (in_seq (in_call 1) 0 (site 4 ((Is (Truth false)) ∷ []))) (param (Is (Number (pos 9))))); mark = 4; now = 0; calls = (record { number = 1; site = 6; args = ((Number (pos 3)) ∷ []); nth = 1; at = 0 } ∷ []); cells = []; to_cancel = [] })) refl (λ k b t i due. late 0 otherwise_after_wait_world.sites (1 ∷ []) (record { number = 1; site = 6; args = ((Number (pos 3)) ∷ []); nth = 1; at = 0 } ∷ []) k b t refl i due); later = omega arith; reached = (1, (Gives Signal), inl refl, record { by = record { number = 1; site = 6; args = ((Number (pos 3)) ∷ []); nth = 1; at = 0 }; is_made = inl refl; is_k = refl; delay = 3; says = refl; sum = refl; fits = omega arith }); least = λ k a u i due. omega (arith, late 2 otherwise_after_wait_world.sites (1 ∷ []) (record { number = 1; site = 6; args = ((Number (pos 3)) ∷ []); nth = 1; at = 0 } ∷ []) k a u refl i due) }, refl)),
        (
          record { marked = (in_other 1 (in_seq (token 4 (param (Is Signal))) 0 (site 4 ((Is (Truth false)) ∷ []))) (param (Is (Number (pos 9))))); mark = 5; now = 3; calls = (record { number = 1; site = 6; args = ((Number (pos 3)) ∷ []); nth = 1; at = 0 } ∷ []); cells = []; to_cancel = [] },
          (inr refl, ([], refl, record { by = record { number = 1; site = 6; args = ((Number (pos 3)) ∷ []); nth = 1; at = 0 }; is_made = inl refl; is_k = refl; delay = 3; says = refl; sum = refl; fits = omega arith }, (in_entered (in_feeding here)), record { to_cancel = refl; same = refl })),
          (
            record { marked = (in_other 1 (in_par (in_seq ended 0 (site 4 ((Is (Truth false)) ∷ []))) (token 5 (site 4 ((Is (Truth false)) ∷ [])))) (param (Is (Number (pos 9))))); mark = 6; now = 3; calls = (record { number = 1; site = 6; args = ((Number (pos 3)) ∷ []); nth = 1; at = 0 } ∷ []); cells = []; to_cancel = [] },
            (inr refl, (refl, (on_entered tt (is_fed emits)), record { to_cancel = refl; same = refl })),
            (
              record { marked = (in_other 1 (in_par (in_seq ended 0 (site 4 ((Is (Truth false)) ∷ []))) (in_call 2)) (param (Is (Number (pos 9))))); mark = 6; now = 3; calls = (record { number = 2; site = 4; args = ((Truth false) ∷ []); nth = 1; at = 3 } ∷ record { number = 1; site = 6; args = ((Number (pos 3)) ∷ []); nth = 1; at = 0 } ∷ []); cells = []; to_cancel = [] },
              (inr refl, (((Is (Truth false)) ∷ []), [], refl, refl, (in_entered (in_right here)), record { to_cancel = refl; same = refl })),
              (
                record { marked = (in_other 1 (in_par (in_seq ended 0 (site 4 ((Is (Truth false)) ∷ []))) ended) (param (Is (Number (pos 9))))); mark = 6; now = 3; calls = (record { number = 2; site = 4; args = ((Truth false) ∷ []); nth = 1; at = 3 } ∷ record { number = 1; site = 6; args = ((Number (pos 3)) ∷ []); nth = 1; at = 0 } ∷ []); cells = []; to_cancel = [] },
                (inr refl, ([], record { by = record { number = 2; site = 4; args = ((Truth false) ∷ []); nth = 1; at = 3 }; is_made = inl refl; is_k = refl; delay = 0; says = refl; sum = refl; fits = omega arith }, (in_entered (in_right here)), record { to_cancel = refl; same = refl })),
                (
                  record { marked = (token 6 (param (Is (Number (pos 9))))); mark = 7; now = 3; calls = (record { number = 2; site = 4; args = ((Truth false) ∷ []); nth = 1; at = 3 } ∷ record { number = 1; site = 6; args = ((Number (pos 3)) ∷ []); nth = 1; at = 0 } ∷ []); cells = []; to_cancel = [] },
                  (inr refl, ((in_par (in_seq ended 0 (site 4 ((Is (Truth false)) ∷ []))) ended), (param (Is (Number (pos 9)))), [], refl, (tt, tt), here, record { to_cancel = refl; same = refl })),
                  (
                    record { marked = ended; mark = 7; now = 3; calls = (record { number = 2; site = 4; args = ((Truth false) ∷ []); nth = 1; at = 3 } ∷ record { number = 1; site = 6; args = ((Number (pos 3)) ∷ []); nth = 1; at = 0 } ∷ []); cells = []; to_cancel = [] },
                    (inr refl, (emits, record { to_cancel = refl; same = refl })),
                    refl,
                  ),
                ),
              ),
            ),
          ),
        ),
      ),
    ),
  ),
)

otherwise_after_wait_halted : Halted (erase ended)
otherwise_after_wait_halted = tt

-- `(Add(x, 1) <x< stop) ; 7`: the cell is lost, and the call with it goes
abbrev void_argument_world : Context
void_argument_world = world [] [] true

void_argument : Journal void_argument_world (begin (other (prune (site 0 ((Name 0) ∷ (Is (Number (pos 1))) ∷ [])) 0 stop) (param (Is (Number (pos 7)))))) (Other 1 2 ∷ Open 2 1 3 4 ∷ End 4 ∷ Lost 1 ∷ entry.Void 3 ∷ Right 1 5 ∷ Publish 5 (Number (pos 7)) ∷ []) (record { marked = ended; mark = 6; now = 0; calls = []; cells = (1 ∷ []); to_cancel = [] })
void_argument = (
  record { marked = (in_other 1 (token 2 (prune (site 0 ((Name 0) ∷ (Is (Number (pos 1))) ∷ [])) 0 stop)) (param (Is (Number (pos 7))))); mark = 3; now = 0; calls = []; cells = []; to_cancel = [] },
  (inr refl, ((prune (site 0 ((Name 0) ∷ (Is (Number (pos 1))) ∷ [])) 0 stop), (param (Is (Number (pos 7)))), refl, record { inside = []; part = here; same = refl })),
  (
    record { marked = (in_other 1 (in_opened (token 3 (site 0 ((Cell 1) ∷ (Is (Number (pos 1))) ∷ []))) 1 (token 4 stop)) (param (Is (Number (pos 7))))); mark = 5; now = 0; calls = []; cells = (1 ∷ []); to_cancel = [] },
    (inr refl, ((site 0 ((Name 0) ∷ (Is (Number (pos 1))) ∷ [])), stop, 0, [], refl, refl, refl, (in_entered here), record { to_cancel = refl; same = refl })),
    (
      record { marked = (in_other 1 (in_opened (token 3 (site 0 ((Cell 1) ∷ (Is (Number (pos 1))) ∷ []))) 1 ended) (param (Is (Number (pos 7))))); mark = 5; now = 0; calls = []; cells = (1 ∷ []); to_cancel = [] },
      (inr refl, record { inside = (1 ∷ []); part = (in_entered (in_side here)); same = refl }),
      (
        record { marked = (in_other 1 (token 3 (site 0 (Void ∷ (Is (Number (pos 1))) ∷ []))) (param (Is (Number (pos 7))))); mark = 5; now = 0; calls = []; cells = (1 ∷ []); to_cancel = [] },
        (inr refl, ((token 3 (site 0 ((Cell 1) ∷ (Is (Number (pos 1))) ∷ []))), ended, [], tt, (in_entered here), record { to_cancel = refl; same = refl })),
        (
          record { marked = (in_other 1 ended (param (Is (Number (pos 7))))); mark = 5; now = 0; calls = []; cells = (1 ∷ []); to_cancel = [] },
          (inr refl, ((site 0 (Void ∷ (Is (Number (pos 1))) ∷ [])), [], inl refl, (in_entered here), record { to_cancel = refl; same = refl })),
          (
            record { marked = (token 5 (param (Is (Number (pos 7))))); mark = 6; now = 0; calls = []; cells = (1 ∷ []); to_cancel = [] },
            (inr refl, (ended, (param (Is (Number (pos 7)))), [], refl, tt, here, record { to_cancel = refl; same = refl })),
            (
              record { marked = ended; mark = 6; now = 0; calls = []; cells = (1 ∷ []); to_cancel = [] },
              (inr refl, (emits, record { to_cancel = refl; same = refl })),
              refl,
            ),
          ),
        ),
      ),
    ),
  ),
)

void_argument_halted : Halted (erase ended)
void_argument_halted = tt

-- `Add(9223372036854775807, 1) ; 0`: the sum is over the range, so the call halts
abbrev sum_over_range_world : Context
sum_over_range_world = world [] [] true

sum_over_range : Journal sum_over_range_world (begin (other (site 0 ((Is (Number (pos 9223372036854775807))) ∷ (Is (Number (pos 1))) ∷ [])) (param (Is (Number (pos 0)))))) (Other 1 2 ∷ Call 2 1 0 ((Number (pos 9223372036854775807)) ∷ (Number (pos 1)) ∷ []) ∷ ReturnHalt 1 ∷ Right 1 3 ∷ Publish 3 (Number (pos 0)) ∷ []) (record { marked = ended; mark = 4; now = 0; calls = (record { number = 1; site = 0; args = ((Number (pos 9223372036854775807)) ∷ (Number (pos 1)) ∷ []); nth = 1; at = 0 } ∷ []); cells = []; to_cancel = [] })
sum_over_range = (
  record { marked = (in_other 1 (token 2 (site 0 ((Is (Number (pos 9223372036854775807))) ∷ (Is (Number (pos 1))) ∷ []))) (param (Is (Number (pos 0))))); mark = 3; now = 0; calls = []; cells = []; to_cancel = [] },
  (inr refl, ((site 0 ((Is (Number (pos 9223372036854775807))) ∷ (Is (Number (pos 1))) ∷ [])), (param (Is (Number (pos 0)))), refl, record { inside = []; part = here; same = refl })),
  (
    record { marked = (in_other 1 (in_call 1) (param (Is (Number (pos 0))))); mark = 3; now = 0; calls = (record { number = 1; site = 0; args = ((Number (pos 9223372036854775807)) ∷ (Number (pos 1)) ∷ []); nth = 1; at = 0 } ∷ []); cells = []; to_cancel = [] },
    (inr refl, (((Is (Number (pos 9223372036854775807))) ∷ (Is (Number (pos 1))) ∷ []), [], refl, refl, (in_entered here), record { to_cancel = refl; same = refl })),
    (
      record { marked = (in_other 1 ended (param (Is (Number (pos 0))))); mark = 3; now = 0; calls = (record { number = 1; site = 0; args = ((Number (pos 9223372036854775807)) ∷ (Number (pos 1)) ∷ []); nth = 1; at = 0 } ∷ []); cells = []; to_cancel = [] },
      (inr refl, ([], record { by = record { number = 1; site = 0; args = ((Number (pos 9223372036854775807)) ∷ (Number (pos 1)) ∷ []); nth = 1; at = 0 }; is_made = inl refl; is_k = refl; delay = 0; says = refl; sum = refl; fits = omega arith }, (in_entered here), record { to_cancel = refl; same = refl })),
      (
        record { marked = (token 3 (param (Is (Number (pos 0))))); mark = 4; now = 0; calls = (record { number = 1; site = 0; args = ((Number (pos 9223372036854775807)) ∷ (Number (pos 1)) ∷ []); nth = 1; at = 0 } ∷ []); cells = []; to_cancel = [] },
        (inr refl, (ended, (param (Is (Number (pos 0)))), [], refl, tt, here, record { to_cancel = refl; same = refl })),
        (
          record { marked = ended; mark = 4; now = 0; calls = (record { number = 1; site = 0; args = ((Number (pos 9223372036854775807)) ∷ (Number (pos 1)) ∷ []); nth = 1; at = 0 } ∷ []); cells = []; to_cancel = [] },
          (inr refl, (emits, record { to_cancel = refl; same = refl })),
          refl,
        ),
      ),
    ),
  ),
)

sum_over_range_halted : Halted (erase ended)
sum_over_range_halted = tt

-- `(1 ; 2) >x> Add(x, 1)`: the publication passes the otherwise, which is gone then
abbrev sent_through_otherwise_world : Context
sent_through_otherwise_world = world [] [] true

sent_through_otherwise : Journal sent_through_otherwise_world (begin (seq (other (param (Is (Number (pos 1)))) (param (Is (Number (pos 2))))) 0 (site 0 ((Name 0) ∷ (Is (Number (pos 1))) ∷ [])))) (Seq 1 2 ∷ Other 2 3 ∷ Send 3 4 (Number (pos 1)) ∷ Call 4 1 0 ((Number (pos 1)) ∷ (Number (pos 1)) ∷ []) ∷ Return 1 5 (Number (pos 2)) ∷ Publish 5 (Number (pos 2)) ∷ []) (record { marked = (in_par (in_seq ended 0 (site 0 ((Name 0) ∷ (Is (Number (pos 1))) ∷ []))) ended); mark = 6; now = 0; calls = (record { number = 1; site = 0; args = ((Number (pos 1)) ∷ (Number (pos 1)) ∷ []); nth = 1; at = 0 } ∷ []); cells = []; to_cancel = [] })
sent_through_otherwise = (
  record { marked = (in_seq (token 2 (other (param (Is (Number (pos 1)))) (param (Is (Number (pos 2)))))) 0 (site 0 ((Name 0) ∷ (Is (Number (pos 1))) ∷ []))); mark = 3; now = 0; calls = []; cells = []; to_cancel = [] },
  (inr refl, ((other (param (Is (Number (pos 1)))) (param (Is (Number (pos 2))))), (site 0 ((Name 0) ∷ (Is (Number (pos 1))) ∷ [])), 0, refl, record { inside = []; part = here; same = refl })),
  (
    record { marked = (in_seq (in_other 2 (token 3 (param (Is (Number (pos 1))))) (param (Is (Number (pos 2))))) 0 (site 0 ((Name 0) ∷ (Is (Number (pos 1))) ∷ []))); mark = 4; now = 0; calls = []; cells = []; to_cancel = [] },
    (inr refl, ((param (Is (Number (pos 1)))), (param (Is (Number (pos 2)))), refl, record { inside = []; part = (in_feeding here); same = refl })),
    (
      record { marked = (in_par (in_seq ended 0 (site 0 ((Name 0) ∷ (Is (Number (pos 1))) ∷ []))) (token 4 (site 0 ((Is (Number (pos 1))) ∷ (Is (Number (pos 1))) ∷ [])))); mark = 5; now = 0; calls = []; cells = []; to_cancel = [] },
      (inr refl, (refl, (is_fed (passes emits)), record { to_cancel = refl; same = refl })),
      (
        record { marked = (in_par (in_seq ended 0 (site 0 ((Name 0) ∷ (Is (Number (pos 1))) ∷ []))) (in_call 1)); mark = 5; now = 0; calls = (record { number = 1; site = 0; args = ((Number (pos 1)) ∷ (Number (pos 1)) ∷ []); nth = 1; at = 0 } ∷ []); cells = []; to_cancel = [] },
        (inr refl, (((Is (Number (pos 1))) ∷ (Is (Number (pos 1))) ∷ []), [], refl, refl, (in_right here), record { to_cancel = refl; same = refl })),
        (
          record { marked = (in_par (in_seq ended 0 (site 0 ((Name 0) ∷ (Is (Number (pos 1))) ∷ []))) (token 5 (param (Is (Number (pos 2)))))); mark = 6; now = 0; calls = (record { number = 1; site = 0; args = ((Number (pos 1)) ∷ (Number (pos 1)) ∷ []); nth = 1; at = 0 } ∷ []); cells = []; to_cancel = [] },
          (inr refl, ([], refl, record { by = record { number = 1; site = 0; args = ((Number (pos 1)) ∷ (Number (pos 1)) ∷ []); nth = 1; at = 0 }; is_made = inl refl; is_k = refl; delay = 0; says = refl; sum = refl; fits = omega arith }, (in_right here), record { to_cancel = refl; same = refl })),
          (
            record { marked = (in_par (in_seq ended 0 (site 0 ((Name 0) ∷ (Is (Number (pos 1))) ∷ []))) ended); mark = 6; now = 0; calls = (record { number = 1; site = 0; args = ((Number (pos 1)) ∷ (Number (pos 1)) ∷ []); nth = 1; at = 0 } ∷ []); cells = []; to_cancel = [] },
            (inr refl, ((on_right emits), record { to_cancel = refl; same = refl })),
            refl,
          ),
        ),
      ),
    ),
  ),
)

sent_through_otherwise_halted : Halted (erase (in_par (in_seq ended 0 (site 0 ((Name 0) ∷ (Is (Number (pos 1))) ∷ []))) ended))
sent_through_otherwise_halted = (tt, tt)
