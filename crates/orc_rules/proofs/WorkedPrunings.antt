-- Worked journals of prunings: each entry and each place by computing.
use Rattle.std.proofs.Common.{[], ◌∷◌, refl, inl, inr, true, false, pos, arith}
use Rattle.orc_rules.specs.declared.value.Value.TheVariants.{Number, Signal}
use Rattle.orc_rules.specs.declared.param.Param.TheVariants.{Name, Is, Cell, Void}
use Rattle.orc_rules.specs.declared.value.Answer.TheVariants.{Value as Gives}
use Rattle.orc_rules.specs.declared.value.Found.TheVariants.{Never}
use Rattle.orc_rules.specs.declared.entry.Entry.TheVariants.{End, Fork, Seq, Other, Def, Open, Send, Call, Return, ReturnHalt, Bind, Lost, Right, Publish, Tick, Cancel}
use Rattle.orc_rules.specs.declared.entry.Entry.TheVariants as entry
use Rattle.orc_rules.specs.Term.{stop, param, site, call, par, seq, prune, other, Halted}
use Rattle.orc_rules.specs.Sites.{scripted}
use Rattle.orc_rules.specs.Marked.{ended, token, in_call, in_par, in_seq, in_opened, in_other, erase, here, in_left, in_right, in_feeding, in_main, in_side, in_entered, emits, on_left, on_right, is_fed, on_main, on_side, is_bound}
use Rattle.orc_rules.specs.Timed.{Context}
use Rattle.orc_rules.specs.Journal.{Journal, begin, moment}
use Rattle.orc_rules.proofs.Idle.{idle_by_test}
use Rattle.orc_rules.proofs.Worked.{world}
use Rattle.orc_rules.proofs.Late.{late, each_dropped, all_dropped}

-- `x <x< (Rwait(2) >> 20 | Rwait(1) >> 10)`: the earlier binds, and the other call is cancelled
abbrev earlier_wait_binds_world : Context
earlier_wait_binds_world = world [] [] true

earlier_wait_binds : Journal earlier_wait_binds_world (begin (prune (param (Name 0)) 0 (par (seq (site 6 ((Is (Number (pos 2))) ∷ [])) 1 (param (Is (Number (pos 20))))) (seq (site 6 ((Is (Number (pos 1))) ∷ [])) 2 (param (Is (Number (pos 10)))))))) (Open 1 1 2 3 ∷ Fork 3 4 5 ∷ Seq 4 6 ∷ Seq 5 7 ∷ Call 6 1 6 ((Number (pos 2)) ∷ []) ∷ Call 7 2 6 ((Number (pos 1)) ∷ []) ∷ Tick 1 ∷ Return 2 8 Signal ∷ Send 8 9 Signal ∷ Bind 9 1 (Number (pos 10)) ∷ Cancel 1 ∷ Publish 2 (Number (pos 10)) ∷ []) (record { marked = ended; mark = 10; now = 1; calls = (record { number = 2; site = 6; args = ((Number (pos 1)) ∷ []); nth = 1; at = 0 } ∷ record { number = 1; site = 6; args = ((Number (pos 2)) ∷ []); nth = 1; at = 0 } ∷ []); cells = (1 ∷ []); to_cancel = [] })
earlier_wait_binds = (
  record { marked = (in_opened (token 2 (param (Cell 1))) 1 (token 3 (par (seq (site 6 ((Is (Number (pos 2))) ∷ [])) 1 (param (Is (Number (pos 20))))) (seq (site 6 ((Is (Number (pos 1))) ∷ [])) 2 (param (Is (Number (pos 10)))))))); mark = 4; now = 0; calls = []; cells = (1 ∷ []); to_cancel = [] },
  (inr refl, ((param (Name 0)), (par (seq (site 6 ((Is (Number (pos 2))) ∷ [])) 1 (param (Is (Number (pos 20))))) (seq (site 6 ((Is (Number (pos 1))) ∷ [])) 2 (param (Is (Number (pos 10)))))), 0, [], refl, refl, refl, here, record { to_cancel = refl; same = refl })),
  (
    record { marked = (in_opened (token 2 (param (Cell 1))) 1 (in_par (token 4 (seq (site 6 ((Is (Number (pos 2))) ∷ [])) 1 (param (Is (Number (pos 20)))))) (token 5 (seq (site 6 ((Is (Number (pos 1))) ∷ [])) 2 (param (Is (Number (pos 10)))))))); mark = 6; now = 0; calls = []; cells = (1 ∷ []); to_cancel = [] },
    (inr refl, ((seq (site 6 ((Is (Number (pos 2))) ∷ [])) 1 (param (Is (Number (pos 20))))), (seq (site 6 ((Is (Number (pos 1))) ∷ [])) 2 (param (Is (Number (pos 10))))), refl, refl, record { inside = (1 ∷ []); part = (in_side here); same = refl })),
    (
      record { marked = (in_opened (token 2 (param (Cell 1))) 1 (in_par (in_seq (token 6 (site 6 ((Is (Number (pos 2))) ∷ []))) 1 (param (Is (Number (pos 20))))) (token 5 (seq (site 6 ((Is (Number (pos 1))) ∷ [])) 2 (param (Is (Number (pos 10)))))))); mark = 7; now = 0; calls = []; cells = (1 ∷ []); to_cancel = [] },
      (inr refl, ((site 6 ((Is (Number (pos 2))) ∷ [])), (param (Is (Number (pos 20)))), 1, refl, record { inside = (1 ∷ []); part = (in_side (in_left here)); same = refl })),
      (
        record { marked = (in_opened (token 2 (param (Cell 1))) 1 (in_par (in_seq (token 6 (site 6 ((Is (Number (pos 2))) ∷ []))) 1 (param (Is (Number (pos 20))))) (in_seq (token 7 (site 6 ((Is (Number (pos 1))) ∷ []))) 2 (param (Is (Number (pos 10))))))); mark = 8; now = 0; calls = []; cells = (1 ∷ []); to_cancel = [] },
        (inr refl, ((site 6 ((Is (Number (pos 1))) ∷ [])), (param (Is (Number (pos 10)))), 2, refl, record { inside = (1 ∷ []); part = (in_side (in_right here)); same = refl })),
        (
          record { marked = (in_opened (token 2 (param (Cell 1))) 1 (in_par (in_seq (in_call 1) 1 (param (Is (Number (pos 20))))) (in_seq (token 7 (site 6 ((Is (Number (pos 1))) ∷ []))) 2 (param (Is (Number (pos 10))))))); mark = 8; now = 0; calls = (record { number = 1; site = 6; args = ((Number (pos 2)) ∷ []); nth = 1; at = 0 } ∷ []); cells = (1 ∷ []); to_cancel = [] },
          (inr refl, (((Is (Number (pos 2))) ∷ []), (1 ∷ []), refl, refl, (in_side (in_left (in_feeding here))), record { to_cancel = refl; same = refl })),
          (
            record { marked = (in_opened (token 2 (param (Cell 1))) 1 (in_par (in_seq (in_call 1) 1 (param (Is (Number (pos 20))))) (in_seq (in_call 2) 2 (param (Is (Number (pos 10))))))); mark = 8; now = 0; calls = (record { number = 2; site = 6; args = ((Number (pos 1)) ∷ []); nth = 1; at = 0 } ∷ record { number = 1; site = 6; args = ((Number (pos 2)) ∷ []); nth = 1; at = 0 } ∷ []); cells = (1 ∷ []); to_cancel = [] },
            (inr refl, (((Is (Number (pos 1))) ∷ []), (1 ∷ []), refl, refl, (in_side (in_right (in_feeding here))), record { to_cancel = refl; same = refl })),
            (
              record { marked = (in_opened (token 2 (param (Cell 1))) 1 (in_par (in_seq (in_call 1) 1 (param (Is (Number (pos 20))))) (in_seq (in_call 2) 2 (param (Is (Number (pos 10))))))); mark = 8; now = 1; calls = (record { number = 2; site = 6; args = ((Number (pos 1)) ∷ []); nth = 1; at = 0 } ∷ record { number = 1; site = 6; args = ((Number (pos 2)) ∷ []); nth = 1; at = 0 } ∷ []); cells = (1 ∷ []); to_cancel = [] },
              (inr refl, (record { idle = idle_by_test earlier_wait_binds_world (moment (record { marked = (in_opened (token 2 (param (Cell 1))) 1 (in_par (in_seq (in_call 1) 1 (param (Is (Number (pos 20))))) (in_seq (in_call 2) 2 (param (Is (Number (pos 10))))))); mark = 8; now = 0; calls = (record { number = 2; site = 6; args = ((Number (pos 1)) ∷ []); nth = 1; at = 0 } ∷ record { number = 1; site = 6; args = ((Number (pos 2)) ∷ []); nth = 1; at = 0 } ∷ []); cells = (1 ∷ []); to_cancel = [] })) refl (λ k b t i due. late 0 earlier_wait_binds_world.sites (1 ∷ 2 ∷ []) (record { number = 2; site = 6; args = ((Number (pos 1)) ∷ []); nth = 1; at = 0 } ∷ record { number = 1; site = 6; args = ((Number (pos 2)) ∷ []); nth = 1; at = 0 } ∷ []) k b t refl i due); later = omega arith; reached = (2, (Gives Signal), inr (inl refl), record { by = record { number = 2; site = 6; args = ((Number (pos 1)) ∷ []); nth = 1; at = 0 }; is_made = inl refl; is_k = refl; delay = 1; says = refl; sum = refl; fits = omega arith }); least = λ k a u i due. omega (arith, late 0 earlier_wait_binds_world.sites (1 ∷ 2 ∷ []) (record { number = 2; site = 6; args = ((Number (pos 1)) ∷ []); nth = 1; at = 0 } ∷ record { number = 1; site = 6; args = ((Number (pos 2)) ∷ []); nth = 1; at = 0 } ∷ []) k a u refl i due) }, refl)),
              (
                record { marked = (in_opened (token 2 (param (Cell 1))) 1 (in_par (in_seq (in_call 1) 1 (param (Is (Number (pos 20))))) (in_seq (token 8 (param (Is Signal))) 2 (param (Is (Number (pos 10))))))); mark = 9; now = 1; calls = (record { number = 2; site = 6; args = ((Number (pos 1)) ∷ []); nth = 1; at = 0 } ∷ record { number = 1; site = 6; args = ((Number (pos 2)) ∷ []); nth = 1; at = 0 } ∷ []); cells = (1 ∷ []); to_cancel = [] },
                (inr refl, ((1 ∷ []), refl, record { by = record { number = 2; site = 6; args = ((Number (pos 1)) ∷ []); nth = 1; at = 0 }; is_made = inl refl; is_k = refl; delay = 1; says = refl; sum = refl; fits = omega arith }, (in_side (in_right (in_feeding here))), record { to_cancel = refl; same = refl })),
                (
                  record { marked = (in_opened (token 2 (param (Cell 1))) 1 (in_par (in_seq (in_call 1) 1 (param (Is (Number (pos 20))))) (in_par (in_seq ended 2 (param (Is (Number (pos 10))))) (token 9 (param (Is (Number (pos 10)))))))); mark = 10; now = 1; calls = (record { number = 2; site = 6; args = ((Number (pos 1)) ∷ []); nth = 1; at = 0 } ∷ record { number = 1; site = 6; args = ((Number (pos 2)) ∷ []); nth = 1; at = 0 } ∷ []); cells = (1 ∷ []); to_cancel = [] },
                  (inr refl, (refl, (on_side tt (on_right (is_fed emits))), record { to_cancel = refl; same = refl })),
                  (
                    record { marked = (token 2 (param (Is (Number (pos 10))))); mark = 10; now = 1; calls = (record { number = 2; site = 6; args = ((Number (pos 1)) ∷ []); nth = 1; at = 0 } ∷ record { number = 1; site = 6; args = ((Number (pos 2)) ∷ []); nth = 1; at = 0 } ∷ []); cells = (1 ∷ []); to_cancel = (1 ∷ []) },
                    (inr refl, ((is_bound (on_right (on_right emits))), record { to_cancel = (λ e. record { rising = tt; each = λ k h. each_dropped (1 ∷ []) [] (1 ∷ []) refl k h; all = λ k h out. all_dropped (1 ∷ []) [] (1 ∷ []) refl k h out }, λ e. cc e); same = refl })),
                    (
                      record { marked = (token 2 (param (Is (Number (pos 10))))); mark = 10; now = 1; calls = (record { number = 2; site = 6; args = ((Number (pos 1)) ∷ []); nth = 1; at = 0 } ∷ record { number = 1; site = 6; args = ((Number (pos 2)) ∷ []); nth = 1; at = 0 } ∷ []); cells = (1 ∷ []); to_cancel = [] },
                      (inl tt, (refl, refl)),
                      (
                        record { marked = ended; mark = 10; now = 1; calls = (record { number = 2; site = 6; args = ((Number (pos 1)) ∷ []); nth = 1; at = 0 } ∷ record { number = 1; site = 6; args = ((Number (pos 2)) ∷ []); nth = 1; at = 0 } ∷ []); cells = (1 ∷ []); to_cancel = [] },
                        (inr refl, (emits, record { to_cancel = refl; same = refl })),
                        refl,
                      ),
                    ),
                  ),
                ),
              ),
            ),
          ),
        ),
      ),
    ),
  ),
)

earlier_wait_binds_halted : Halted (erase ended)
earlier_wait_binds_halted = tt

-- `def f(x, y) = x`, `f(1, y) <y< Never()`: the call of a definition is made though y is never bound
abbrev unbound_argument_world : Context
unbound_argument_world = world (record { params = (1 ∷ 0 ∷ []); body = (param (Name 1)) } ∷ []) (scripted (record { patterns = []; answers = (Never ∷ []) } ∷ []) ∷ []) true

unbound_argument : Journal unbound_argument_world (begin (prune (call 0 ((Is (Number (pos 1))) ∷ (Name 0) ∷ [])) 0 (site 7 []))) (Open 1 1 2 3 ∷ Def 2 4 ∷ Publish 4 (Number (pos 1)) ∷ Call 3 1 7 [] ∷ []) (record { marked = (in_opened ended 1 (in_call 1)); mark = 5; now = 0; calls = (record { number = 1; site = 7; args = []; nth = 1; at = 0 } ∷ []); cells = (1 ∷ []); to_cancel = [] })
unbound_argument = (
  record { marked = (in_opened (token 2 (call 0 ((Is (Number (pos 1))) ∷ (Cell 1) ∷ []))) 1 (token 3 (site 7 []))); mark = 4; now = 0; calls = []; cells = (1 ∷ []); to_cancel = [] },
  (inr refl, ((call 0 ((Is (Number (pos 1))) ∷ (Name 0) ∷ [])), (site 7 []), 0, [], refl, refl, refl, here, record { to_cancel = refl; same = refl })),
  (
    record { marked = (in_opened (token 4 (param (Is (Number (pos 1))))) 1 (token 3 (site 7 []))); mark = 5; now = 0; calls = []; cells = (1 ∷ []); to_cancel = [] },
    (inr refl, (0, ((Is (Number (pos 1))) ∷ (Cell 1) ∷ []), _, [], refl, refl, (in_main here), record { to_cancel = refl; same = refl })),
    (
      record { marked = (in_opened ended 1 (token 3 (site 7 []))); mark = 5; now = 0; calls = []; cells = (1 ∷ []); to_cancel = [] },
      (inr refl, ((on_main emits), record { to_cancel = refl; same = refl })),
      (
        record { marked = (in_opened ended 1 (in_call 1)); mark = 5; now = 0; calls = (record { number = 1; site = 7; args = []; nth = 1; at = 0 } ∷ []); cells = (1 ∷ []); to_cancel = [] },
        (inr refl, ([], (1 ∷ []), refl, refl, (in_side here), record { to_cancel = refl; same = refl })),
        refl,
      ),
    ),
  ),
)

-- `def g(a) = Add(a, x) <x< 1`, `g(x) <x< 10`: the x that is passed isn't the x of the body
abbrev no_capture_world : Context
no_capture_world = world (record { params = (1 ∷ []); body = (prune (site 0 ((Name 1) ∷ (Name 0) ∷ [])) 0 (param (Is (Number (pos 1))))) } ∷ []) [] true

no_capture : Journal no_capture_world (begin (prune (call 0 ((Name 0) ∷ [])) 0 (param (Is (Number (pos 10)))))) (Open 1 1 2 3 ∷ Def 2 4 ∷ Open 4 2 5 6 ∷ Bind 6 2 (Number (pos 1)) ∷ Bind 3 1 (Number (pos 10)) ∷ Call 5 1 0 ((Number (pos 10)) ∷ (Number (pos 1)) ∷ []) ∷ Return 1 7 (Number (pos 11)) ∷ Publish 7 (Number (pos 11)) ∷ []) (record { marked = ended; mark = 8; now = 0; calls = (record { number = 1; site = 0; args = ((Number (pos 10)) ∷ (Number (pos 1)) ∷ []); nth = 1; at = 0 } ∷ []); cells = (2 ∷ 1 ∷ []); to_cancel = [] })
no_capture = (
  record { marked = (in_opened (token 2 (call 0 ((Cell 1) ∷ []))) 1 (token 3 (param (Is (Number (pos 10)))))); mark = 4; now = 0; calls = []; cells = (1 ∷ []); to_cancel = [] },
  (inr refl, ((call 0 ((Name 0) ∷ [])), (param (Is (Number (pos 10)))), 0, [], refl, refl, refl, here, record { to_cancel = refl; same = refl })),
  (
    record { marked = (in_opened (token 4 (prune (site 0 ((Cell 1) ∷ (Name 0) ∷ [])) 0 (param (Is (Number (pos 1)))))) 1 (token 3 (param (Is (Number (pos 10)))))); mark = 5; now = 0; calls = []; cells = (1 ∷ []); to_cancel = [] },
    (inr refl, (0, ((Cell 1) ∷ []), _, [], refl, refl, (in_main here), record { to_cancel = refl; same = refl })),
    (
      record { marked = (in_opened (in_opened (token 5 (site 0 ((Cell 1) ∷ (Cell 2) ∷ []))) 2 (token 6 (param (Is (Number (pos 1)))))) 1 (token 3 (param (Is (Number (pos 10)))))); mark = 7; now = 0; calls = []; cells = (2 ∷ 1 ∷ []); to_cancel = [] },
      (inr refl, ((site 0 ((Cell 1) ∷ (Name 0) ∷ [])), (param (Is (Number (pos 1)))), 0, [], refl, refl, refl, (in_main here), record { to_cancel = refl; same = refl })),
      (
        record { marked = (in_opened (token 5 (site 0 ((Cell 1) ∷ (Is (Number (pos 1))) ∷ []))) 1 (token 3 (param (Is (Number (pos 10)))))); mark = 7; now = 0; calls = []; cells = (2 ∷ 1 ∷ []); to_cancel = [] },
        (inr refl, ((on_main (is_bound emits)), record { to_cancel = (λ e. record { rising = tt; each = λ k h. each_dropped [] [] [] refl k h; all = λ k h out. all_dropped [] [] [] refl k h out }, λ e. cc e); same = refl })),
        (
          record { marked = (token 5 (site 0 ((Is (Number (pos 10))) ∷ (Is (Number (pos 1))) ∷ []))); mark = 7; now = 0; calls = []; cells = (2 ∷ 1 ∷ []); to_cancel = [] },
          (inr refl, ((is_bound emits), record { to_cancel = (λ e. record { rising = tt; each = λ k h. each_dropped [] [] [] refl k h; all = λ k h out. all_dropped [] [] [] refl k h out }, λ e. cc e); same = refl })),
          (
            record { marked = (in_call 1); mark = 7; now = 0; calls = (record { number = 1; site = 0; args = ((Number (pos 10)) ∷ (Number (pos 1)) ∷ []); nth = 1; at = 0 } ∷ []); cells = (2 ∷ 1 ∷ []); to_cancel = [] },
            (inr refl, (((Is (Number (pos 10))) ∷ (Is (Number (pos 1))) ∷ []), [], refl, refl, here, record { to_cancel = refl; same = refl })),
            (
              record { marked = (token 7 (param (Is (Number (pos 11))))); mark = 8; now = 0; calls = (record { number = 1; site = 0; args = ((Number (pos 10)) ∷ (Number (pos 1)) ∷ []); nth = 1; at = 0 } ∷ []); cells = (2 ∷ 1 ∷ []); to_cancel = [] },
              (inr refl, ([], refl, record { by = record { number = 1; site = 0; args = ((Number (pos 10)) ∷ (Number (pos 1)) ∷ []); nth = 1; at = 0 }; is_made = inl refl; is_k = refl; delay = 0; says = refl; sum = refl; fits = omega arith }, here, record { to_cancel = refl; same = refl })),
              (
                record { marked = ended; mark = 8; now = 0; calls = (record { number = 1; site = 0; args = ((Number (pos 10)) ∷ (Number (pos 1)) ∷ []); nth = 1; at = 0 } ∷ []); cells = (2 ∷ 1 ∷ []); to_cancel = [] },
                (inr refl, (emits, record { to_cancel = refl; same = refl })),
                refl,
              ),
            ),
          ),
        ),
      ),
    ),
  ),
)

no_capture_halted : Halted (erase ended)
no_capture_halted = tt

-- `x <x< (1 | Add(2, 3))`: bound while the sum pends, where no cancels are recorded
abbrev early_bind_first_version_world : Context
early_bind_first_version_world = world [] [] false

early_bind_first_version : Journal early_bind_first_version_world (begin (prune (param (Name 0)) 0 (par (param (Is (Number (pos 1)))) (site 0 ((Is (Number (pos 2))) ∷ (Is (Number (pos 3))) ∷ []))))) (Open 1 1 2 3 ∷ Fork 3 4 5 ∷ Call 5 1 0 ((Number (pos 2)) ∷ (Number (pos 3)) ∷ []) ∷ Bind 4 1 (Number (pos 1)) ∷ Publish 2 (Number (pos 1)) ∷ []) (record { marked = ended; mark = 6; now = 0; calls = (record { number = 1; site = 0; args = ((Number (pos 2)) ∷ (Number (pos 3)) ∷ []); nth = 1; at = 0 } ∷ []); cells = (1 ∷ []); to_cancel = [] })
early_bind_first_version = (
  record { marked = (in_opened (token 2 (param (Cell 1))) 1 (token 3 (par (param (Is (Number (pos 1)))) (site 0 ((Is (Number (pos 2))) ∷ (Is (Number (pos 3))) ∷ []))))); mark = 4; now = 0; calls = []; cells = (1 ∷ []); to_cancel = [] },
  (inr refl, ((param (Name 0)), (par (param (Is (Number (pos 1)))) (site 0 ((Is (Number (pos 2))) ∷ (Is (Number (pos 3))) ∷ []))), 0, [], refl, refl, refl, here, record { to_cancel = refl; same = refl })),
  (
    record { marked = (in_opened (token 2 (param (Cell 1))) 1 (in_par (token 4 (param (Is (Number (pos 1))))) (token 5 (site 0 ((Is (Number (pos 2))) ∷ (Is (Number (pos 3))) ∷ []))))); mark = 6; now = 0; calls = []; cells = (1 ∷ []); to_cancel = [] },
    (inr refl, ((param (Is (Number (pos 1)))), (site 0 ((Is (Number (pos 2))) ∷ (Is (Number (pos 3))) ∷ [])), refl, refl, record { inside = (1 ∷ []); part = (in_side here); same = refl })),
    (
      record { marked = (in_opened (token 2 (param (Cell 1))) 1 (in_par (token 4 (param (Is (Number (pos 1))))) (in_call 1))); mark = 6; now = 0; calls = (record { number = 1; site = 0; args = ((Number (pos 2)) ∷ (Number (pos 3)) ∷ []); nth = 1; at = 0 } ∷ []); cells = (1 ∷ []); to_cancel = [] },
      (inr refl, (((Is (Number (pos 2))) ∷ (Is (Number (pos 3))) ∷ []), (1 ∷ []), refl, refl, (in_side (in_right here)), record { to_cancel = refl; same = refl })),
      (
        record { marked = (token 2 (param (Is (Number (pos 1))))); mark = 6; now = 0; calls = (record { number = 1; site = 0; args = ((Number (pos 2)) ∷ (Number (pos 3)) ∷ []); nth = 1; at = 0 } ∷ []); cells = (1 ∷ []); to_cancel = [] },
        (inr refl, ((is_bound (on_left emits)), record { to_cancel = (λ e. cc e, λ e. refl); same = refl })),
        (
          record { marked = ended; mark = 6; now = 0; calls = (record { number = 1; site = 0; args = ((Number (pos 2)) ∷ (Number (pos 3)) ∷ []); nth = 1; at = 0 } ∷ []); cells = (1 ∷ []); to_cancel = [] },
          (inr refl, (emits, record { to_cancel = refl; same = refl })),
          refl,
        ),
      ),
    ),
  ),
)

early_bind_first_version_halted : Halted (erase ended)
early_bind_first_version_halted = tt

-- `x <x< (1 | Add(2, 3))`: bound while the sum pends, which is cancelled
abbrev early_bind_world : Context
early_bind_world = world [] [] true

early_bind : Journal early_bind_world (begin (prune (param (Name 0)) 0 (par (param (Is (Number (pos 1)))) (site 0 ((Is (Number (pos 2))) ∷ (Is (Number (pos 3))) ∷ []))))) (Open 1 1 2 3 ∷ Fork 3 4 5 ∷ Call 5 1 0 ((Number (pos 2)) ∷ (Number (pos 3)) ∷ []) ∷ Bind 4 1 (Number (pos 1)) ∷ Cancel 1 ∷ Publish 2 (Number (pos 1)) ∷ []) (record { marked = ended; mark = 6; now = 0; calls = (record { number = 1; site = 0; args = ((Number (pos 2)) ∷ (Number (pos 3)) ∷ []); nth = 1; at = 0 } ∷ []); cells = (1 ∷ []); to_cancel = [] })
early_bind = (
  record { marked = (in_opened (token 2 (param (Cell 1))) 1 (token 3 (par (param (Is (Number (pos 1)))) (site 0 ((Is (Number (pos 2))) ∷ (Is (Number (pos 3))) ∷ []))))); mark = 4; now = 0; calls = []; cells = (1 ∷ []); to_cancel = [] },
  (inr refl, ((param (Name 0)), (par (param (Is (Number (pos 1)))) (site 0 ((Is (Number (pos 2))) ∷ (Is (Number (pos 3))) ∷ []))), 0, [], refl, refl, refl, here, record { to_cancel = refl; same = refl })),
  (
    record { marked = (in_opened (token 2 (param (Cell 1))) 1 (in_par (token 4 (param (Is (Number (pos 1))))) (token 5 (site 0 ((Is (Number (pos 2))) ∷ (Is (Number (pos 3))) ∷ []))))); mark = 6; now = 0; calls = []; cells = (1 ∷ []); to_cancel = [] },
    (inr refl, ((param (Is (Number (pos 1)))), (site 0 ((Is (Number (pos 2))) ∷ (Is (Number (pos 3))) ∷ [])), refl, refl, record { inside = (1 ∷ []); part = (in_side here); same = refl })),
    (
      record { marked = (in_opened (token 2 (param (Cell 1))) 1 (in_par (token 4 (param (Is (Number (pos 1))))) (in_call 1))); mark = 6; now = 0; calls = (record { number = 1; site = 0; args = ((Number (pos 2)) ∷ (Number (pos 3)) ∷ []); nth = 1; at = 0 } ∷ []); cells = (1 ∷ []); to_cancel = [] },
      (inr refl, (((Is (Number (pos 2))) ∷ (Is (Number (pos 3))) ∷ []), (1 ∷ []), refl, refl, (in_side (in_right here)), record { to_cancel = refl; same = refl })),
      (
        record { marked = (token 2 (param (Is (Number (pos 1))))); mark = 6; now = 0; calls = (record { number = 1; site = 0; args = ((Number (pos 2)) ∷ (Number (pos 3)) ∷ []); nth = 1; at = 0 } ∷ []); cells = (1 ∷ []); to_cancel = (1 ∷ []) },
        (inr refl, ((is_bound (on_left emits)), record { to_cancel = (λ e. record { rising = tt; each = λ k h. each_dropped (1 ∷ []) [] (1 ∷ []) refl k h; all = λ k h out. all_dropped (1 ∷ []) [] (1 ∷ []) refl k h out }, λ e. cc e); same = refl })),
        (
          record { marked = (token 2 (param (Is (Number (pos 1))))); mark = 6; now = 0; calls = (record { number = 1; site = 0; args = ((Number (pos 2)) ∷ (Number (pos 3)) ∷ []); nth = 1; at = 0 } ∷ []); cells = (1 ∷ []); to_cancel = [] },
          (inl tt, (refl, refl)),
          (
            record { marked = ended; mark = 6; now = 0; calls = (record { number = 1; site = 0; args = ((Number (pos 2)) ∷ (Number (pos 3)) ∷ []); nth = 1; at = 0 } ∷ []); cells = (1 ∷ []); to_cancel = [] },
            (inr refl, (emits, record { to_cancel = refl; same = refl })),
            refl,
          ),
        ),
      ),
    ),
  ),
)

early_bind_halted : Halted (erase ended)
early_bind_halted = tt

-- `((Add(x, y) ; 5) <x< stop) <y< Never()`: one void argument is enough, whatever the other
abbrev void_after_unbound_world : Context
void_after_unbound_world = world [] (scripted (record { patterns = []; answers = (Never ∷ []) } ∷ []) ∷ []) true

void_after_unbound : Journal void_after_unbound_world (begin (prune (prune (other (site 0 ((Name 0) ∷ (Name 1) ∷ [])) (param (Is (Number (pos 5))))) 0 stop) 1 (site 7 []))) (Open 1 1 2 3 ∷ Open 2 2 4 5 ∷ Other 4 6 ∷ Call 3 1 7 [] ∷ End 5 ∷ Lost 2 ∷ entry.Void 6 ∷ Right 4 7 ∷ Publish 7 (Number (pos 5)) ∷ []) (record { marked = (in_opened ended 1 (in_call 1)); mark = 8; now = 0; calls = (record { number = 1; site = 7; args = []; nth = 1; at = 0 } ∷ []); cells = (2 ∷ 1 ∷ []); to_cancel = [] })
void_after_unbound = (
  record { marked = (in_opened (token 2 (prune (other (site 0 ((Name 0) ∷ (Cell 1) ∷ [])) (param (Is (Number (pos 5))))) 0 stop)) 1 (token 3 (site 7 []))); mark = 4; now = 0; calls = []; cells = (1 ∷ []); to_cancel = [] },
  (inr refl, ((prune (other (site 0 ((Name 0) ∷ (Name 1) ∷ [])) (param (Is (Number (pos 5))))) 0 stop), (site 7 []), 1, [], refl, refl, refl, here, record { to_cancel = refl; same = refl })),
  (
    record { marked = (in_opened (in_opened (token 4 (other (site 0 ((Cell 2) ∷ (Cell 1) ∷ [])) (param (Is (Number (pos 5)))))) 2 (token 5 stop)) 1 (token 3 (site 7 []))); mark = 6; now = 0; calls = []; cells = (2 ∷ 1 ∷ []); to_cancel = [] },
    (inr refl, ((other (site 0 ((Name 0) ∷ (Cell 1) ∷ [])) (param (Is (Number (pos 5))))), stop, 0, [], refl, refl, refl, (in_main here), record { to_cancel = refl; same = refl })),
    (
      record { marked = (in_opened (in_opened (in_other 4 (token 6 (site 0 ((Cell 2) ∷ (Cell 1) ∷ []))) (param (Is (Number (pos 5))))) 2 (token 5 stop)) 1 (token 3 (site 7 []))); mark = 7; now = 0; calls = []; cells = (2 ∷ 1 ∷ []); to_cancel = [] },
      (inr refl, ((site 0 ((Cell 2) ∷ (Cell 1) ∷ [])), (param (Is (Number (pos 5)))), refl, record { inside = []; part = (in_main (in_main here)); same = refl })),
      (
        record { marked = (in_opened (in_opened (in_other 4 (token 6 (site 0 ((Cell 2) ∷ (Cell 1) ∷ []))) (param (Is (Number (pos 5))))) 2 (token 5 stop)) 1 (in_call 1)); mark = 7; now = 0; calls = (record { number = 1; site = 7; args = []; nth = 1; at = 0 } ∷ []); cells = (2 ∷ 1 ∷ []); to_cancel = [] },
        (inr refl, ([], (1 ∷ []), refl, refl, (in_side here), record { to_cancel = refl; same = refl })),
        (
          record { marked = (in_opened (in_opened (in_other 4 (token 6 (site 0 ((Cell 2) ∷ (Cell 1) ∷ []))) (param (Is (Number (pos 5))))) 2 ended) 1 (in_call 1)); mark = 7; now = 0; calls = (record { number = 1; site = 7; args = []; nth = 1; at = 0 } ∷ []); cells = (2 ∷ 1 ∷ []); to_cancel = [] },
          (inr refl, record { inside = (2 ∷ []); part = (in_main (in_side here)); same = refl }),
          (
            record { marked = (in_opened (in_other 4 (token 6 (site 0 (Void ∷ (Cell 1) ∷ []))) (param (Is (Number (pos 5))))) 1 (in_call 1)); mark = 7; now = 0; calls = (record { number = 1; site = 7; args = []; nth = 1; at = 0 } ∷ []); cells = (2 ∷ 1 ∷ []); to_cancel = [] },
            (inr refl, ((in_other 4 (token 6 (site 0 ((Cell 2) ∷ (Cell 1) ∷ []))) (param (Is (Number (pos 5))))), ended, [], tt, (in_main here), record { to_cancel = refl; same = refl })),
            (
              record { marked = (in_opened (in_other 4 ended (param (Is (Number (pos 5))))) 1 (in_call 1)); mark = 7; now = 0; calls = (record { number = 1; site = 7; args = []; nth = 1; at = 0 } ∷ []); cells = (2 ∷ 1 ∷ []); to_cancel = [] },
              (inr refl, ((site 0 (Void ∷ (Cell 1) ∷ [])), [], inl refl, (in_main (in_entered here)), record { to_cancel = refl; same = refl })),
              (
                record { marked = (in_opened (token 7 (param (Is (Number (pos 5))))) 1 (in_call 1)); mark = 8; now = 0; calls = (record { number = 1; site = 7; args = []; nth = 1; at = 0 } ∷ []); cells = (2 ∷ 1 ∷ []); to_cancel = [] },
                (inr refl, (ended, (param (Is (Number (pos 5)))), [], refl, tt, (in_main here), record { to_cancel = refl; same = refl })),
                (
                  record { marked = (in_opened ended 1 (in_call 1)); mark = 8; now = 0; calls = (record { number = 1; site = 7; args = []; nth = 1; at = 0 } ∷ []); cells = (2 ∷ 1 ∷ []); to_cancel = [] },
                  (inr refl, ((on_main emits), record { to_cancel = refl; same = refl })),
                  refl,
                ),
              ),
            ),
          ),
        ),
      ),
    ),
  ),
)

-- `((Add(x, y) ; 5) <y< stop) <x< Never()`: the same with the void argument second
abbrev void_before_unbound_world : Context
void_before_unbound_world = world [] (scripted (record { patterns = []; answers = (Never ∷ []) } ∷ []) ∷ []) true

void_before_unbound : Journal void_before_unbound_world (begin (prune (prune (other (site 0 ((Name 0) ∷ (Name 1) ∷ [])) (param (Is (Number (pos 5))))) 1 stop) 0 (site 7 []))) (Open 1 1 2 3 ∷ Open 2 2 4 5 ∷ Other 4 6 ∷ Call 3 1 7 [] ∷ End 5 ∷ Lost 2 ∷ entry.Void 6 ∷ Right 4 7 ∷ Publish 7 (Number (pos 5)) ∷ []) (record { marked = (in_opened ended 1 (in_call 1)); mark = 8; now = 0; calls = (record { number = 1; site = 7; args = []; nth = 1; at = 0 } ∷ []); cells = (2 ∷ 1 ∷ []); to_cancel = [] })
void_before_unbound = (
  record { marked = (in_opened (token 2 (prune (other (site 0 ((Cell 1) ∷ (Name 1) ∷ [])) (param (Is (Number (pos 5))))) 1 stop)) 1 (token 3 (site 7 []))); mark = 4; now = 0; calls = []; cells = (1 ∷ []); to_cancel = [] },
  (inr refl, ((prune (other (site 0 ((Name 0) ∷ (Name 1) ∷ [])) (param (Is (Number (pos 5))))) 1 stop), (site 7 []), 0, [], refl, refl, refl, here, record { to_cancel = refl; same = refl })),
  (
    record { marked = (in_opened (in_opened (token 4 (other (site 0 ((Cell 1) ∷ (Cell 2) ∷ [])) (param (Is (Number (pos 5)))))) 2 (token 5 stop)) 1 (token 3 (site 7 []))); mark = 6; now = 0; calls = []; cells = (2 ∷ 1 ∷ []); to_cancel = [] },
    (inr refl, ((other (site 0 ((Cell 1) ∷ (Name 1) ∷ [])) (param (Is (Number (pos 5))))), stop, 1, [], refl, refl, refl, (in_main here), record { to_cancel = refl; same = refl })),
    (
      record { marked = (in_opened (in_opened (in_other 4 (token 6 (site 0 ((Cell 1) ∷ (Cell 2) ∷ []))) (param (Is (Number (pos 5))))) 2 (token 5 stop)) 1 (token 3 (site 7 []))); mark = 7; now = 0; calls = []; cells = (2 ∷ 1 ∷ []); to_cancel = [] },
      (inr refl, ((site 0 ((Cell 1) ∷ (Cell 2) ∷ [])), (param (Is (Number (pos 5)))), refl, record { inside = []; part = (in_main (in_main here)); same = refl })),
      (
        record { marked = (in_opened (in_opened (in_other 4 (token 6 (site 0 ((Cell 1) ∷ (Cell 2) ∷ []))) (param (Is (Number (pos 5))))) 2 (token 5 stop)) 1 (in_call 1)); mark = 7; now = 0; calls = (record { number = 1; site = 7; args = []; nth = 1; at = 0 } ∷ []); cells = (2 ∷ 1 ∷ []); to_cancel = [] },
        (inr refl, ([], (1 ∷ []), refl, refl, (in_side here), record { to_cancel = refl; same = refl })),
        (
          record { marked = (in_opened (in_opened (in_other 4 (token 6 (site 0 ((Cell 1) ∷ (Cell 2) ∷ []))) (param (Is (Number (pos 5))))) 2 ended) 1 (in_call 1)); mark = 7; now = 0; calls = (record { number = 1; site = 7; args = []; nth = 1; at = 0 } ∷ []); cells = (2 ∷ 1 ∷ []); to_cancel = [] },
          (inr refl, record { inside = (2 ∷ []); part = (in_main (in_side here)); same = refl }),
          (
            record { marked = (in_opened (in_other 4 (token 6 (site 0 ((Cell 1) ∷ Void ∷ []))) (param (Is (Number (pos 5))))) 1 (in_call 1)); mark = 7; now = 0; calls = (record { number = 1; site = 7; args = []; nth = 1; at = 0 } ∷ []); cells = (2 ∷ 1 ∷ []); to_cancel = [] },
            (inr refl, ((in_other 4 (token 6 (site 0 ((Cell 1) ∷ (Cell 2) ∷ []))) (param (Is (Number (pos 5))))), ended, [], tt, (in_main here), record { to_cancel = refl; same = refl })),
            (
              record { marked = (in_opened (in_other 4 ended (param (Is (Number (pos 5))))) 1 (in_call 1)); mark = 7; now = 0; calls = (record { number = 1; site = 7; args = []; nth = 1; at = 0 } ∷ []); cells = (2 ∷ 1 ∷ []); to_cancel = [] },
              (inr refl, ((site 0 ((Cell 1) ∷ Void ∷ [])), [], inr (inl refl), (in_main (in_entered here)), record { to_cancel = refl; same = refl })),
              (
                record { marked = (in_opened (token 7 (param (Is (Number (pos 5))))) 1 (in_call 1)); mark = 8; now = 0; calls = (record { number = 1; site = 7; args = []; nth = 1; at = 0 } ∷ []); cells = (2 ∷ 1 ∷ []); to_cancel = [] },
                (inr refl, (ended, (param (Is (Number (pos 5)))), [], refl, tt, (in_main here), record { to_cancel = refl; same = refl })),
                (
                  record { marked = (in_opened ended 1 (in_call 1)); mark = 8; now = 0; calls = (record { number = 1; site = 7; args = []; nth = 1; at = 0 } ∷ []); cells = (2 ∷ 1 ∷ []); to_cancel = [] },
                  (inr refl, ((on_main emits), record { to_cancel = refl; same = refl })),
                  refl,
                ),
              ),
            ),
          ),
        ),
      ),
    ),
  ),
)

-- `stop <x< stop`: lost while a mark is still on the right side
abbrev lost_before_end_world : Context
lost_before_end_world = world [] [] true

lost_before_end : Journal lost_before_end_world (begin (prune stop 0 stop)) (Open 1 1 2 3 ∷ Lost 1 ∷ []) (record { marked = (token 2 stop); mark = 4; now = 0; calls = []; cells = (1 ∷ []); to_cancel = [] })
lost_before_end = (
  record { marked = (in_opened (token 2 stop) 1 (token 3 stop)); mark = 4; now = 0; calls = []; cells = (1 ∷ []); to_cancel = [] },
  (inr refl, (stop, stop, 0, [], refl, refl, refl, here, record { to_cancel = refl; same = refl })),
  (
    record { marked = (token 2 stop); mark = 4; now = 0; calls = []; cells = (1 ∷ []); to_cancel = [] },
    (inr refl, ((token 2 stop), (token 3 stop), [], tt, here, record { to_cancel = refl; same = refl })),
    refl,
  ),
)

lost_before_end_halted : Halted (erase (token 2 stop))
lost_before_end_halted = tt

-- `x <x< (1 | (Rwait(1) | Rwait(2)))`, the second call made first: both are cancelled, the lesser number first
abbrev cancels_in_order_world : Context
cancels_in_order_world = world [] [] true

cancels_in_order : Journal cancels_in_order_world (begin (prune (param (Name 0)) 0 (par (param (Is (Number (pos 1)))) (par (site 6 ((Is (Number (pos 1))) ∷ [])) (site 6 ((Is (Number (pos 2))) ∷ [])))))) (Open 1 1 2 3 ∷ Fork 3 4 5 ∷ Fork 5 6 7 ∷ Call 7 1 6 ((Number (pos 2)) ∷ []) ∷ Call 6 2 6 ((Number (pos 1)) ∷ []) ∷ Bind 4 1 (Number (pos 1)) ∷ Cancel 1 ∷ Cancel 2 ∷ Publish 2 (Number (pos 1)) ∷ []) (record { marked = ended; mark = 8; now = 0; calls = (record { number = 2; site = 6; args = ((Number (pos 1)) ∷ []); nth = 1; at = 0 } ∷ record { number = 1; site = 6; args = ((Number (pos 2)) ∷ []); nth = 1; at = 0 } ∷ []); cells = (1 ∷ []); to_cancel = [] })
cancels_in_order = (
  record { marked = (in_opened (token 2 (param (Cell 1))) 1 (token 3 (par (param (Is (Number (pos 1)))) (par (site 6 ((Is (Number (pos 1))) ∷ [])) (site 6 ((Is (Number (pos 2))) ∷ [])))))); mark = 4; now = 0; calls = []; cells = (1 ∷ []); to_cancel = [] },
  (inr refl, ((param (Name 0)), (par (param (Is (Number (pos 1)))) (par (site 6 ((Is (Number (pos 1))) ∷ [])) (site 6 ((Is (Number (pos 2))) ∷ [])))), 0, [], refl, refl, refl, here, record { to_cancel = refl; same = refl })),
  (
    record { marked = (in_opened (token 2 (param (Cell 1))) 1 (in_par (token 4 (param (Is (Number (pos 1))))) (token 5 (par (site 6 ((Is (Number (pos 1))) ∷ [])) (site 6 ((Is (Number (pos 2))) ∷ [])))))); mark = 6; now = 0; calls = []; cells = (1 ∷ []); to_cancel = [] },
    (inr refl, ((param (Is (Number (pos 1)))), (par (site 6 ((Is (Number (pos 1))) ∷ [])) (site 6 ((Is (Number (pos 2))) ∷ []))), refl, refl, record { inside = (1 ∷ []); part = (in_side here); same = refl })),
    (
      record { marked = (in_opened (token 2 (param (Cell 1))) 1 (in_par (token 4 (param (Is (Number (pos 1))))) (in_par (token 6 (site 6 ((Is (Number (pos 1))) ∷ []))) (token 7 (site 6 ((Is (Number (pos 2))) ∷ [])))))); mark = 8; now = 0; calls = []; cells = (1 ∷ []); to_cancel = [] },
      (inr refl, ((site 6 ((Is (Number (pos 1))) ∷ [])), (site 6 ((Is (Number (pos 2))) ∷ [])), refl, refl, record { inside = (1 ∷ []); part = (in_side (in_right here)); same = refl })),
      (
        record { marked = (in_opened (token 2 (param (Cell 1))) 1 (in_par (token 4 (param (Is (Number (pos 1))))) (in_par (token 6 (site 6 ((Is (Number (pos 1))) ∷ []))) (in_call 1)))); mark = 8; now = 0; calls = (record { number = 1; site = 6; args = ((Number (pos 2)) ∷ []); nth = 1; at = 0 } ∷ []); cells = (1 ∷ []); to_cancel = [] },
        (inr refl, (((Is (Number (pos 2))) ∷ []), (1 ∷ []), refl, refl, (in_side (in_right (in_right here))), record { to_cancel = refl; same = refl })),
        (
          record { marked = (in_opened (token 2 (param (Cell 1))) 1 (in_par (token 4 (param (Is (Number (pos 1))))) (in_par (in_call 2) (in_call 1)))); mark = 8; now = 0; calls = (record { number = 2; site = 6; args = ((Number (pos 1)) ∷ []); nth = 1; at = 0 } ∷ record { number = 1; site = 6; args = ((Number (pos 2)) ∷ []); nth = 1; at = 0 } ∷ []); cells = (1 ∷ []); to_cancel = [] },
          (inr refl, (((Is (Number (pos 1))) ∷ []), (1 ∷ []), refl, refl, (in_side (in_right (in_left here))), record { to_cancel = refl; same = refl })),
          (
            record { marked = (token 2 (param (Is (Number (pos 1))))); mark = 8; now = 0; calls = (record { number = 2; site = 6; args = ((Number (pos 1)) ∷ []); nth = 1; at = 0 } ∷ record { number = 1; site = 6; args = ((Number (pos 2)) ∷ []); nth = 1; at = 0 } ∷ []); cells = (1 ∷ []); to_cancel = (1 ∷ 2 ∷ []) },
            (inr refl, ((is_bound (on_left emits)), record { to_cancel = (λ e. record { rising = (omega arith, tt); each = λ k h. each_dropped (2 ∷ 1 ∷ []) [] (1 ∷ 2 ∷ []) refl k h; all = λ k h out. all_dropped (2 ∷ 1 ∷ []) [] (1 ∷ 2 ∷ []) refl k h out }, λ e. cc e); same = refl })),
            (
              record { marked = (token 2 (param (Is (Number (pos 1))))); mark = 8; now = 0; calls = (record { number = 2; site = 6; args = ((Number (pos 1)) ∷ []); nth = 1; at = 0 } ∷ record { number = 1; site = 6; args = ((Number (pos 2)) ∷ []); nth = 1; at = 0 } ∷ []); cells = (1 ∷ []); to_cancel = (2 ∷ []) },
              (inl tt, (refl, refl)),
              (
                record { marked = (token 2 (param (Is (Number (pos 1))))); mark = 8; now = 0; calls = (record { number = 2; site = 6; args = ((Number (pos 1)) ∷ []); nth = 1; at = 0 } ∷ record { number = 1; site = 6; args = ((Number (pos 2)) ∷ []); nth = 1; at = 0 } ∷ []); cells = (1 ∷ []); to_cancel = [] },
                (inl tt, (refl, refl)),
                (
                  record { marked = ended; mark = 8; now = 0; calls = (record { number = 2; site = 6; args = ((Number (pos 1)) ∷ []); nth = 1; at = 0 } ∷ record { number = 1; site = 6; args = ((Number (pos 2)) ∷ []); nth = 1; at = 0 } ∷ []); cells = (1 ∷ []); to_cancel = [] },
                  (inr refl, (emits, record { to_cancel = refl; same = refl })),
                  refl,
                ),
              ),
            ),
          ),
        ),
      ),
    ),
  ),
)

cancels_in_order_halted : Halted (erase ended)
cancels_in_order_halted = tt

-- `x <x< ((y <y< Rwait(2)) | 1)`: the call stands inside two right sides, and goes with the outer one
abbrev side_within_side_world : Context
side_within_side_world = world [] [] true

side_within_side : Journal side_within_side_world (begin (prune (param (Name 0)) 0 (par (prune (param (Name 1)) 1 (site 6 ((Is (Number (pos 2))) ∷ []))) (param (Is (Number (pos 1))))))) (Open 1 1 2 3 ∷ Fork 3 4 5 ∷ Open 4 2 6 7 ∷ Call 7 1 6 ((Number (pos 2)) ∷ []) ∷ Bind 5 1 (Number (pos 1)) ∷ Cancel 1 ∷ Publish 2 (Number (pos 1)) ∷ []) (record { marked = ended; mark = 8; now = 0; calls = (record { number = 1; site = 6; args = ((Number (pos 2)) ∷ []); nth = 1; at = 0 } ∷ []); cells = (2 ∷ 1 ∷ []); to_cancel = [] })
side_within_side = (
  record { marked = (in_opened (token 2 (param (Cell 1))) 1 (token 3 (par (prune (param (Name 1)) 1 (site 6 ((Is (Number (pos 2))) ∷ []))) (param (Is (Number (pos 1))))))); mark = 4; now = 0; calls = []; cells = (1 ∷ []); to_cancel = [] },
  (inr refl, ((param (Name 0)), (par (prune (param (Name 1)) 1 (site 6 ((Is (Number (pos 2))) ∷ []))) (param (Is (Number (pos 1))))), 0, [], refl, refl, refl, here, record { to_cancel = refl; same = refl })),
  (
    record { marked = (in_opened (token 2 (param (Cell 1))) 1 (in_par (token 4 (prune (param (Name 1)) 1 (site 6 ((Is (Number (pos 2))) ∷ [])))) (token 5 (param (Is (Number (pos 1))))))); mark = 6; now = 0; calls = []; cells = (1 ∷ []); to_cancel = [] },
    (inr refl, ((prune (param (Name 1)) 1 (site 6 ((Is (Number (pos 2))) ∷ []))), (param (Is (Number (pos 1)))), refl, refl, record { inside = (1 ∷ []); part = (in_side here); same = refl })),
    (
      record { marked = (in_opened (token 2 (param (Cell 1))) 1 (in_par (in_opened (token 6 (param (Cell 2))) 2 (token 7 (site 6 ((Is (Number (pos 2))) ∷ [])))) (token 5 (param (Is (Number (pos 1))))))); mark = 8; now = 0; calls = []; cells = (2 ∷ 1 ∷ []); to_cancel = [] },
      (inr refl, ((param (Name 1)), (site 6 ((Is (Number (pos 2))) ∷ [])), 1, (1 ∷ []), refl, refl, refl, (in_side (in_left here)), record { to_cancel = refl; same = refl })),
      (
        record { marked = (in_opened (token 2 (param (Cell 1))) 1 (in_par (in_opened (token 6 (param (Cell 2))) 2 (in_call 1)) (token 5 (param (Is (Number (pos 1))))))); mark = 8; now = 0; calls = (record { number = 1; site = 6; args = ((Number (pos 2)) ∷ []); nth = 1; at = 0 } ∷ []); cells = (2 ∷ 1 ∷ []); to_cancel = [] },
        (inr refl, (((Is (Number (pos 2))) ∷ []), (1 ∷ 2 ∷ []), refl, refl, (in_side (in_left (in_side here))), record { to_cancel = refl; same = refl })),
        (
          record { marked = (token 2 (param (Is (Number (pos 1))))); mark = 8; now = 0; calls = (record { number = 1; site = 6; args = ((Number (pos 2)) ∷ []); nth = 1; at = 0 } ∷ []); cells = (2 ∷ 1 ∷ []); to_cancel = (1 ∷ []) },
          (inr refl, ((is_bound (on_right emits)), record { to_cancel = (λ e. record { rising = tt; each = λ k h. each_dropped (1 ∷ []) [] (1 ∷ []) refl k h; all = λ k h out. all_dropped (1 ∷ []) [] (1 ∷ []) refl k h out }, λ e. cc e); same = refl })),
          (
            record { marked = (token 2 (param (Is (Number (pos 1))))); mark = 8; now = 0; calls = (record { number = 1; site = 6; args = ((Number (pos 2)) ∷ []); nth = 1; at = 0 } ∷ []); cells = (2 ∷ 1 ∷ []); to_cancel = [] },
            (inl tt, (refl, refl)),
            (
              record { marked = ended; mark = 8; now = 0; calls = (record { number = 1; site = 6; args = ((Number (pos 2)) ∷ []); nth = 1; at = 0 } ∷ []); cells = (2 ∷ 1 ∷ []); to_cancel = [] },
              (inr refl, (emits, record { to_cancel = refl; same = refl })),
              refl,
            ),
          ),
        ),
      ),
    ),
  ),
)

side_within_side_halted : Halted (erase ended)
side_within_side_halted = tt
