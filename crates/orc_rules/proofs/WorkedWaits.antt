-- Worked journals with time: each entry and each place by computing.
use Rattle.std.proofs.Common.{[], ◌∷◌, refl, inl, inr, true, false, pos, arith}
use Rattle.orc_rules.specs.declared.value.Value.TheVariants.{Number, Truth, Signal}
use Rattle.orc_rules.specs.declared.param.Param.TheVariants.{Name, Is, Cell}
use Rattle.orc_rules.specs.declared.value.Answer.TheVariants.{Value as Gives}
use Rattle.orc_rules.specs.declared.entry.Entry.TheVariants.{Def, Fork, Seq, Open, Send, Call, Return, Bind, Publish, Tick}
use Rattle.orc_rules.specs.Term.{call, param, site, par, seq, prune, Halted}
use Rattle.orc_rules.specs.Marked.{ended, token, in_call, in_par, in_seq, in_opened, erase, here, in_left, in_right, in_feeding, in_side, emits, on_left, on_right, is_fed, on_side, is_bound}
use Rattle.orc_rules.specs.Timed.{Context}
use Rattle.orc_rules.specs.Journal.{Journal, begin, moment}
use Rattle.orc_rules.proofs.Idle.{idle_by_test}
use Rattle.orc_rules.proofs.Worked.{world}
use Rattle.orc_rules.proofs.Late.{late, each_dropped, all_dropped}

-- `Add(1, x) <x< Rwait(1) >> 2 >y> Iff(false) >> y`: a name below two `>x>`
abbrev bound_after_wait_world : Context
bound_after_wait_world = world [] [] true

bound_after_wait : Journal bound_after_wait_world (begin (prune (site 0 ((Is (Number (pos 1))) ∷ (Name 0) ∷ [])) 0 (seq (site 6 ((Is (Number (pos 1))) ∷ [])) 1 (seq (param (Is (Number (pos 2)))) 2 (seq (site 5 ((Is (Truth false)) ∷ [])) 3 (param (Name 2))))))) (Open 1 1 2 3 ∷ Seq 3 4 ∷ Call 4 1 6 ((Number (pos 1)) ∷ []) ∷ Tick 1 ∷ Return 1 5 Signal ∷ Send 5 6 Signal ∷ Seq 6 7 ∷ Send 7 8 (Number (pos 2)) ∷ Seq 8 9 ∷ Call 9 2 5 ((Truth false) ∷ []) ∷ Return 2 10 Signal ∷ Send 10 11 Signal ∷ Bind 11 1 (Number (pos 2)) ∷ Call 2 3 0 ((Number (pos 1)) ∷ (Number (pos 2)) ∷ []) ∷ Return 3 12 (Number (pos 3)) ∷ Publish 12 (Number (pos 3)) ∷ []) (record { marked = ended; mark = 13; now = 1; calls = (record { number = 3; site = 0; args = ((Number (pos 1)) ∷ (Number (pos 2)) ∷ []); nth = 1; at = 1 } ∷ record { number = 2; site = 5; args = ((Truth false) ∷ []); nth = 1; at = 1 } ∷ record { number = 1; site = 6; args = ((Number (pos 1)) ∷ []); nth = 1; at = 0 } ∷ []); cells = (1 ∷ []); to_cancel = [] })
bound_after_wait = (
  record { marked = (in_opened (token 2 (site 0 ((Is (Number (pos 1))) ∷ (Cell 1) ∷ []))) 1 (token 3 (seq (site 6 ((Is (Number (pos 1))) ∷ [])) 1 (seq (param (Is (Number (pos 2)))) 2 (seq (site 5 ((Is (Truth false)) ∷ [])) 3 (param (Name 2))))))); mark = 4; now = 0; calls = []; cells = (1 ∷ []); to_cancel = [] },
  (inr refl, ((site 0 ((Is (Number (pos 1))) ∷ (Name 0) ∷ [])), (seq (site 6 ((Is (Number (pos 1))) ∷ [])) 1 (seq (param (Is (Number (pos 2)))) 2 (seq (site 5 ((Is (Truth false)) ∷ [])) 3 (param (Name 2))))), 0, [], refl, refl, refl, here, record { to_cancel = refl; same = refl })),
  (
    record { marked = (in_opened (token 2 (site 0 ((Is (Number (pos 1))) ∷ (Cell 1) ∷ []))) 1 (in_seq (token 4 (site 6 ((Is (Number (pos 1))) ∷ []))) 1 (seq (param (Is (Number (pos 2)))) 2 (seq (site 5 ((Is (Truth false)) ∷ [])) 3 (param (Name 2)))))); mark = 5; now = 0; calls = []; cells = (1 ∷ []); to_cancel = [] },
    (inr refl, ((site 6 ((Is (Number (pos 1))) ∷ [])), (seq (param (Is (Number (pos 2)))) 2 (seq (site 5 ((Is (Truth false)) ∷ [])) 3 (param (Name 2)))), 1, refl, record { inside = (1 ∷ []); part = (in_side here); same = refl })),
    (
      record { marked = (in_opened (token 2 (site 0 ((Is (Number (pos 1))) ∷ (Cell 1) ∷ []))) 1 (in_seq (in_call 1) 1 (seq (param (Is (Number (pos 2)))) 2 (seq (site 5 ((Is (Truth false)) ∷ [])) 3 (param (Name 2)))))); mark = 5; now = 0; calls = (record { number = 1; site = 6; args = ((Number (pos 1)) ∷ []); nth = 1; at = 0 } ∷ []); cells = (1 ∷ []); to_cancel = [] },
      (inr refl, (((Is (Number (pos 1))) ∷ []), (1 ∷ []), refl, refl, (in_side (in_feeding here)), record { to_cancel = refl; same = refl })),
      (
        record { marked = (in_opened (token 2 (site 0 ((Is (Number (pos 1))) ∷ (Cell 1) ∷ []))) 1 (in_seq (in_call 1) 1 (seq (param (Is (Number (pos 2)))) 2 (seq (site 5 ((Is (Truth false)) ∷ [])) 3 (param (Name 2)))))); mark = 5; now = 1; calls = (record { number = 1; site = 6; args = ((Number (pos 1)) ∷ []); nth = 1; at = 0 } ∷ []); cells = (1 ∷ []); to_cancel = [] },
        (inr refl, (record { idle = idle_by_test bound_after_wait_world (moment (record { marked = (in_opened (token 2 (site 0 ((Is (Number (pos 1))) ∷ (Cell 1) ∷ []))) 1 (in_seq (in_call 1) 1 (seq (param (Is (Number (pos 2)))) 2 (seq (site 5 ((Is (Truth false)) ∷ [])) 3 (param (Name 2)))))); mark = 5; now = 0; calls = (record { number = 1; site = 6; args = ((Number (pos 1)) ∷ []); nth = 1; at = 0 } ∷ []); cells = (1 ∷ []); to_cancel = [] })) refl (λ k b t i due. late 0 bound_after_wait_world.sites (1 ∷ []) (record { number = 1; site = 6; args = ((Number (pos 1)) ∷ []); nth = 1; at = 0 } ∷ []) k b t refl i due); later = omega arith; reached = (1, (Gives Signal), inl refl, record { by = record { number = 1; site = 6; args = ((Number (pos 1)) ∷ []); nth = 1; at = 0 }; is_made = inl refl; is_k = refl; delay = 1; says = refl; sum = refl; fits = omega arith }); least = λ k a u i due. omega (arith, late 0 bound_after_wait_world.sites (1 ∷ []) (record { number = 1; site = 6; args = ((Number (pos 1)) ∷ []); nth = 1; at = 0 } ∷ []) k a u refl i due) }, refl)),
        (
          record { marked = (in_opened (token 2 (site 0 ((Is (Number (pos 1))) ∷ (Cell 1) ∷ []))) 1 (in_seq (token 5 (param (Is Signal))) 1 (seq (param (Is (Number (pos 2)))) 2 (seq (site 5 ((Is (Truth false)) ∷ [])) 3 (param (Name 2)))))); mark = 6; now = 1; calls = (record { number = 1; site = 6; args = ((Number (pos 1)) ∷ []); nth = 1; at = 0 } ∷ []); cells = (1 ∷ []); to_cancel = [] },
          (inr refl, ((1 ∷ []), refl, record { by = record { number = 1; site = 6; args = ((Number (pos 1)) ∷ []); nth = 1; at = 0 }; is_made = inl refl; is_k = refl; delay = 1; says = refl; sum = refl; fits = omega arith }, (in_side (in_feeding here)), record { to_cancel = refl; same = refl })),
          (
            record { marked = (in_opened (token 2 (site 0 ((Is (Number (pos 1))) ∷ (Cell 1) ∷ []))) 1 (in_par (in_seq ended 1 (seq (param (Is (Number (pos 2)))) 2 (seq (site 5 ((Is (Truth false)) ∷ [])) 3 (param (Name 2))))) (token 6 (seq (param (Is (Number (pos 2)))) 2 (seq (site 5 ((Is (Truth false)) ∷ [])) 3 (param (Name 2))))))); mark = 7; now = 1; calls = (record { number = 1; site = 6; args = ((Number (pos 1)) ∷ []); nth = 1; at = 0 } ∷ []); cells = (1 ∷ []); to_cancel = [] },
            (inr refl, (refl, (on_side tt (is_fed emits)), record { to_cancel = refl; same = refl })),
            (
              record { marked = (in_opened (token 2 (site 0 ((Is (Number (pos 1))) ∷ (Cell 1) ∷ []))) 1 (in_par (in_seq ended 1 (seq (param (Is (Number (pos 2)))) 2 (seq (site 5 ((Is (Truth false)) ∷ [])) 3 (param (Name 2))))) (in_seq (token 7 (param (Is (Number (pos 2))))) 2 (seq (site 5 ((Is (Truth false)) ∷ [])) 3 (param (Name 2)))))); mark = 8; now = 1; calls = (record { number = 1; site = 6; args = ((Number (pos 1)) ∷ []); nth = 1; at = 0 } ∷ []); cells = (1 ∷ []); to_cancel = [] },
              (inr refl, ((param (Is (Number (pos 2)))), (seq (site 5 ((Is (Truth false)) ∷ [])) 3 (param (Name 2))), 2, refl, record { inside = (1 ∷ []); part = (in_side (in_right here)); same = refl })),
              (
                record { marked = (in_opened (token 2 (site 0 ((Is (Number (pos 1))) ∷ (Cell 1) ∷ []))) 1 (in_par (in_seq ended 1 (seq (param (Is (Number (pos 2)))) 2 (seq (site 5 ((Is (Truth false)) ∷ [])) 3 (param (Name 2))))) (in_par (in_seq ended 2 (seq (site 5 ((Is (Truth false)) ∷ [])) 3 (param (Name 2)))) (token 8 (seq (site 5 ((Is (Truth false)) ∷ [])) 3 (param (Is (Number (pos 2))))))))); mark = 9; now = 1; calls = (record { number = 1; site = 6; args = ((Number (pos 1)) ∷ []); nth = 1; at = 0 } ∷ []); cells = (1 ∷ []); to_cancel = [] },
                (inr refl, (refl, (on_side tt (on_right (is_fed emits))), record { to_cancel = refl; same = refl })),
                (
                  record { marked = (in_opened (token 2 (site 0 ((Is (Number (pos 1))) ∷ (Cell 1) ∷ []))) 1 (in_par (in_seq ended 1 (seq (param (Is (Number (pos 2)))) 2 (seq (site 5 ((Is (Truth false)) ∷ [])) 3 (param (Name 2))))) (in_par (in_seq ended 2 (seq (site 5 ((Is (Truth false)) ∷ [])) 3 (param (Name 2)))) (in_seq (token 9 (site 5 ((Is (Truth false)) ∷ []))) 3 (param (Is (Number (pos 2)))))))); mark = 10; now = 1; calls = (record { number = 1; site = 6; args = ((Number (pos 1)) ∷ []); nth = 1; at = 0 } ∷ []); cells = (1 ∷ []); to_cancel = [] },
                  (inr refl, ((site 5 ((Is (Truth false)) ∷ [])), (param (Is (Number (pos 2)))), 3, refl, record { inside = (1 ∷ []); part = (in_side (in_right (in_right here))); same = refl })),
                  (
                    record { marked = (in_opened (token 2 (site 0 ((Is (Number (pos 1))) ∷ (Cell 1) ∷ []))) 1 (in_par (in_seq ended 1 (seq (param (Is (Number (pos 2)))) 2 (seq (site 5 ((Is (Truth false)) ∷ [])) 3 (param (Name 2))))) (in_par (in_seq ended 2 (seq (site 5 ((Is (Truth false)) ∷ [])) 3 (param (Name 2)))) (in_seq (in_call 2) 3 (param (Is (Number (pos 2)))))))); mark = 10; now = 1; calls = (record { number = 2; site = 5; args = ((Truth false) ∷ []); nth = 1; at = 1 } ∷ record { number = 1; site = 6; args = ((Number (pos 1)) ∷ []); nth = 1; at = 0 } ∷ []); cells = (1 ∷ []); to_cancel = [] },
                    (inr refl, (((Is (Truth false)) ∷ []), (1 ∷ []), refl, refl, (in_side (in_right (in_right (in_feeding here)))), record { to_cancel = refl; same = refl })),
                    (
                      record { marked = (in_opened (token 2 (site 0 ((Is (Number (pos 1))) ∷ (Cell 1) ∷ []))) 1 (in_par (in_seq ended 1 (seq (param (Is (Number (pos 2)))) 2 (seq (site 5 ((Is (Truth false)) ∷ [])) 3 (param (Name 2))))) (in_par (in_seq ended 2 (seq (site 5 ((Is (Truth false)) ∷ [])) 3 (param (Name 2)))) (in_seq (token 10 (param (Is Signal))) 3 (param (Is (Number (pos 2)))))))); mark = 11; now = 1; calls = (record { number = 2; site = 5; args = ((Truth false) ∷ []); nth = 1; at = 1 } ∷ record { number = 1; site = 6; args = ((Number (pos 1)) ∷ []); nth = 1; at = 0 } ∷ []); cells = (1 ∷ []); to_cancel = [] },
                      (inr refl, ((1 ∷ []), refl, record { by = record { number = 2; site = 5; args = ((Truth false) ∷ []); nth = 1; at = 1 }; is_made = inl refl; is_k = refl; delay = 0; says = refl; sum = refl; fits = omega arith }, (in_side (in_right (in_right (in_feeding here)))), record { to_cancel = refl; same = refl })),
                      (
                        record { marked = (in_opened (token 2 (site 0 ((Is (Number (pos 1))) ∷ (Cell 1) ∷ []))) 1 (in_par (in_seq ended 1 (seq (param (Is (Number (pos 2)))) 2 (seq (site 5 ((Is (Truth false)) ∷ [])) 3 (param (Name 2))))) (in_par (in_seq ended 2 (seq (site 5 ((Is (Truth false)) ∷ [])) 3 (param (Name 2)))) (in_par (in_seq ended 3 (param (Is (Number (pos 2))))) (token 11 (param (Is (Number (pos 2))))))))); mark = 12; now = 1; calls = (record { number = 2; site = 5; args = ((Truth false) ∷ []); nth = 1; at = 1 } ∷ record { number = 1; site = 6; args = ((Number (pos 1)) ∷ []); nth = 1; at = 0 } ∷ []); cells = (1 ∷ []); to_cancel = [] },
                        (inr refl, (refl, (on_side tt (on_right (on_right (is_fed emits)))), record { to_cancel = refl; same = refl })),
                        (
                          record { marked = (token 2 (site 0 ((Is (Number (pos 1))) ∷ (Is (Number (pos 2))) ∷ []))); mark = 12; now = 1; calls = (record { number = 2; site = 5; args = ((Truth false) ∷ []); nth = 1; at = 1 } ∷ record { number = 1; site = 6; args = ((Number (pos 1)) ∷ []); nth = 1; at = 0 } ∷ []); cells = (1 ∷ []); to_cancel = [] },
                          (inr refl, ((is_bound (on_right (on_right (on_right emits)))), record { to_cancel = (λ e. record { rising = tt; each = λ k h. each_dropped [] [] [] refl k h; all = λ k h out. all_dropped [] [] [] refl k h out }, λ e. cc e); same = refl })),
                          (
                            record { marked = (in_call 3); mark = 12; now = 1; calls = (record { number = 3; site = 0; args = ((Number (pos 1)) ∷ (Number (pos 2)) ∷ []); nth = 1; at = 1 } ∷ record { number = 2; site = 5; args = ((Truth false) ∷ []); nth = 1; at = 1 } ∷ record { number = 1; site = 6; args = ((Number (pos 1)) ∷ []); nth = 1; at = 0 } ∷ []); cells = (1 ∷ []); to_cancel = [] },
                            (inr refl, (((Is (Number (pos 1))) ∷ (Is (Number (pos 2))) ∷ []), [], refl, refl, here, record { to_cancel = refl; same = refl })),
                            (
                              record { marked = (token 12 (param (Is (Number (pos 3))))); mark = 13; now = 1; calls = (record { number = 3; site = 0; args = ((Number (pos 1)) ∷ (Number (pos 2)) ∷ []); nth = 1; at = 1 } ∷ record { number = 2; site = 5; args = ((Truth false) ∷ []); nth = 1; at = 1 } ∷ record { number = 1; site = 6; args = ((Number (pos 1)) ∷ []); nth = 1; at = 0 } ∷ []); cells = (1 ∷ []); to_cancel = [] },
                              (inr refl, ([], refl, record { by = record { number = 3; site = 0; args = ((Number (pos 1)) ∷ (Number (pos 2)) ∷ []); nth = 1; at = 1 }; is_made = inl refl; is_k = refl; delay = 0; says = refl; sum = refl; fits = omega arith }, here, record { to_cancel = refl; same = refl })),
                              (
                                record { marked = ended; mark = 13; now = 1; calls = (record { number = 3; site = 0; args = ((Number (pos 1)) ∷ (Number (pos 2)) ∷ []); nth = 1; at = 1 } ∷ record { number = 2; site = 5; args = ((Truth false) ∷ []); nth = 1; at = 1 } ∷ record { number = 1; site = 6; args = ((Number (pos 1)) ∷ []); nth = 1; at = 0 } ∷ []); cells = (1 ∷ []); to_cancel = [] },
                                (inr refl, (emits, record { to_cancel = refl; same = refl })),
                                refl,
                              ),
                            ),
                          ),
                        ),
                      ),
                    ),
                  ),
                ),
              ),
            ),
          ),
        ),
      ),
    ),
  ),
)

bound_after_wait_halted : Halted (erase ended)
bound_after_wait_halted = tt

-- `Rwait(9223372036854775807) >> Rwait(9223372036854775807) >> Rwait(1) >> 1`: up to the last time that there is
abbrev longest_wait_world : Context
longest_wait_world = world [] [] true

longest_wait : Journal longest_wait_world (begin (seq (site 6 ((Is (Number (pos 9223372036854775807))) ∷ [])) 0 (seq (site 6 ((Is (Number (pos 9223372036854775807))) ∷ [])) 1 (seq (site 6 ((Is (Number (pos 1))) ∷ [])) 2 (param (Is (Number (pos 1)))))))) (Seq 1 2 ∷ Call 2 1 6 ((Number (pos 9223372036854775807)) ∷ []) ∷ Tick 9223372036854775807 ∷ Return 1 3 Signal ∷ Send 3 4 Signal ∷ Seq 4 5 ∷ Call 5 2 6 ((Number (pos 9223372036854775807)) ∷ []) ∷ Tick 18446744073709551614 ∷ Return 2 6 Signal ∷ Send 6 7 Signal ∷ Seq 7 8 ∷ Call 8 3 6 ((Number (pos 1)) ∷ []) ∷ Tick 18446744073709551615 ∷ Return 3 9 Signal ∷ Send 9 10 Signal ∷ Publish 10 (Number (pos 1)) ∷ []) (record { marked = (in_par (in_seq ended 0 (seq (site 6 ((Is (Number (pos 9223372036854775807))) ∷ [])) 1 (seq (site 6 ((Is (Number (pos 1))) ∷ [])) 2 (param (Is (Number (pos 1))))))) (in_par (in_seq ended 1 (seq (site 6 ((Is (Number (pos 1))) ∷ [])) 2 (param (Is (Number (pos 1)))))) (in_par (in_seq ended 2 (param (Is (Number (pos 1))))) ended))); mark = 11; now = 18446744073709551615; calls = (record { number = 3; site = 6; args = ((Number (pos 1)) ∷ []); nth = 1; at = 18446744073709551614 } ∷ record { number = 2; site = 6; args = ((Number (pos 9223372036854775807)) ∷ []); nth = 2; at = 9223372036854775807 } ∷ record { number = 1; site = 6; args = ((Number (pos 9223372036854775807)) ∷ []); nth = 1; at = 0 } ∷ []); cells = []; to_cancel = [] })
longest_wait = (
  record { marked = (in_seq (token 2 (site 6 ((Is (Number (pos 9223372036854775807))) ∷ []))) 0 (seq (site 6 ((Is (Number (pos 9223372036854775807))) ∷ [])) 1 (seq (site 6 ((Is (Number (pos 1))) ∷ [])) 2 (param (Is (Number (pos 1))))))); mark = 3; now = 0; calls = []; cells = []; to_cancel = [] },
  (inr refl, ((site 6 ((Is (Number (pos 9223372036854775807))) ∷ [])), (seq (site 6 ((Is (Number (pos 9223372036854775807))) ∷ [])) 1 (seq (site 6 ((Is (Number (pos 1))) ∷ [])) 2 (param (Is (Number (pos 1)))))), 0, refl, record { inside = []; part = here; same = refl })),
  (
    record { marked = (in_seq (in_call 1) 0 (seq (site 6 ((Is (Number (pos 9223372036854775807))) ∷ [])) 1 (seq (site 6 ((Is (Number (pos 1))) ∷ [])) 2 (param (Is (Number (pos 1))))))); mark = 3; now = 0; calls = (record { number = 1; site = 6; args = ((Number (pos 9223372036854775807)) ∷ []); nth = 1; at = 0 } ∷ []); cells = []; to_cancel = [] },
    (inr refl, (((Is (Number (pos 9223372036854775807))) ∷ []), [], refl, refl, (in_feeding here), record { to_cancel = refl; same = refl })),
    (
      record { marked = (in_seq (in_call 1) 0 (seq (site 6 ((Is (Number (pos 9223372036854775807))) ∷ [])) 1 (seq (site 6 ((Is (Number (pos 1))) ∷ [])) 2 (param (Is (Number (pos 1))))))); mark = 3; now = 9223372036854775807; calls = (record { number = 1; site = 6; args = ((Number (pos 9223372036854775807)) ∷ []); nth = 1; at = 0 } ∷ []); cells = []; to_cancel = [] },
      (inr refl, (record { idle = idle_by_test longest_wait_world (moment (record { marked = (in_seq (in_call 1) 0 (seq (site 6 ((Is (Number (pos 9223372036854775807))) ∷ [])) 1 (seq (site 6 ((Is (Number (pos 1))) ∷ [])) 2 (param (Is (Number (pos 1))))))); mark = 3; now = 0; calls = (record { number = 1; site = 6; args = ((Number (pos 9223372036854775807)) ∷ []); nth = 1; at = 0 } ∷ []); cells = []; to_cancel = [] })) refl (λ k b t i due. late 0 longest_wait_world.sites (1 ∷ []) (record { number = 1; site = 6; args = ((Number (pos 9223372036854775807)) ∷ []); nth = 1; at = 0 } ∷ []) k b t refl i due); later = omega arith; reached = (1, (Gives Signal), inl refl, record { by = record { number = 1; site = 6; args = ((Number (pos 9223372036854775807)) ∷ []); nth = 1; at = 0 }; is_made = inl refl; is_k = refl; delay = 9223372036854775807; says = refl; sum = refl; fits = omega arith }); least = λ k a u i due. omega (arith, late 9223372036854775806 longest_wait_world.sites (1 ∷ []) (record { number = 1; site = 6; args = ((Number (pos 9223372036854775807)) ∷ []); nth = 1; at = 0 } ∷ []) k a u refl i due) }, refl)),
      (
        record { marked = (in_seq (token 3 (param (Is Signal))) 0 (seq (site 6 ((Is (Number (pos 9223372036854775807))) ∷ [])) 1 (seq (site 6 ((Is (Number (pos 1))) ∷ [])) 2 (param (Is (Number (pos 1))))))); mark = 4; now = 9223372036854775807; calls = (record { number = 1; site = 6; args = ((Number (pos 9223372036854775807)) ∷ []); nth = 1; at = 0 } ∷ []); cells = []; to_cancel = [] },
        (inr refl, ([], refl, record { by = record { number = 1; site = 6; args = ((Number (pos 9223372036854775807)) ∷ []); nth = 1; at = 0 }; is_made = inl refl; is_k = refl; delay = 9223372036854775807; says = refl; sum = refl; fits = omega arith }, (in_feeding here), record { to_cancel = refl; same = refl })),
        (
          record { marked = (in_par (in_seq ended 0 (seq (site 6 ((Is (Number (pos 9223372036854775807))) ∷ [])) 1 (seq (site 6 ((Is (Number (pos 1))) ∷ [])) 2 (param (Is (Number (pos 1))))))) (token 4 (seq (site 6 ((Is (Number (pos 9223372036854775807))) ∷ [])) 1 (seq (site 6 ((Is (Number (pos 1))) ∷ [])) 2 (param (Is (Number (pos 1)))))))); mark = 5; now = 9223372036854775807; calls = (record { number = 1; site = 6; args = ((Number (pos 9223372036854775807)) ∷ []); nth = 1; at = 0 } ∷ []); cells = []; to_cancel = [] },
          (inr refl, (refl, (is_fed emits), record { to_cancel = refl; same = refl })),
          (
            record { marked = (in_par (in_seq ended 0 (seq (site 6 ((Is (Number (pos 9223372036854775807))) ∷ [])) 1 (seq (site 6 ((Is (Number (pos 1))) ∷ [])) 2 (param (Is (Number (pos 1))))))) (in_seq (token 5 (site 6 ((Is (Number (pos 9223372036854775807))) ∷ []))) 1 (seq (site 6 ((Is (Number (pos 1))) ∷ [])) 2 (param (Is (Number (pos 1))))))); mark = 6; now = 9223372036854775807; calls = (record { number = 1; site = 6; args = ((Number (pos 9223372036854775807)) ∷ []); nth = 1; at = 0 } ∷ []); cells = []; to_cancel = [] },
            (inr refl, ((site 6 ((Is (Number (pos 9223372036854775807))) ∷ [])), (seq (site 6 ((Is (Number (pos 1))) ∷ [])) 2 (param (Is (Number (pos 1))))), 1, refl, record { inside = []; part = (in_right here); same = refl })),
            (
              record { marked = (in_par (in_seq ended 0 (seq (site 6 ((Is (Number (pos 9223372036854775807))) ∷ [])) 1 (seq (site 6 ((Is (Number (pos 1))) ∷ [])) 2 (param (Is (Number (pos 1))))))) (in_seq (in_call 2) 1 (seq (site 6 ((Is (Number (pos 1))) ∷ [])) 2 (param (Is (Number (pos 1))))))); mark = 6; now = 9223372036854775807; calls = (record { number = 2; site = 6; args = ((Number (pos 9223372036854775807)) ∷ []); nth = 2; at = 9223372036854775807 } ∷ record { number = 1; site = 6; args = ((Number (pos 9223372036854775807)) ∷ []); nth = 1; at = 0 } ∷ []); cells = []; to_cancel = [] },
              (inr refl, (((Is (Number (pos 9223372036854775807))) ∷ []), [], refl, refl, (in_right (in_feeding here)), record { to_cancel = refl; same = refl })),
              (
                record { marked = (in_par (in_seq ended 0 (seq (site 6 ((Is (Number (pos 9223372036854775807))) ∷ [])) 1 (seq (site 6 ((Is (Number (pos 1))) ∷ [])) 2 (param (Is (Number (pos 1))))))) (in_seq (in_call 2) 1 (seq (site 6 ((Is (Number (pos 1))) ∷ [])) 2 (param (Is (Number (pos 1))))))); mark = 6; now = 18446744073709551614; calls = (record { number = 2; site = 6; args = ((Number (pos 9223372036854775807)) ∷ []); nth = 2; at = 9223372036854775807 } ∷ record { number = 1; site = 6; args = ((Number (pos 9223372036854775807)) ∷ []); nth = 1; at = 0 } ∷ []); cells = []; to_cancel = [] },
                (inr refl, (record { idle = idle_by_test longest_wait_world (moment (record { marked = (in_par (in_seq ended 0 (seq (site 6 ((Is (Number (pos 9223372036854775807))) ∷ [])) 1 (seq (site 6 ((Is (Number (pos 1))) ∷ [])) 2 (param (Is (Number (pos 1))))))) (in_seq (in_call 2) 1 (seq (site 6 ((Is (Number (pos 1))) ∷ [])) 2 (param (Is (Number (pos 1))))))); mark = 6; now = 9223372036854775807; calls = (record { number = 2; site = 6; args = ((Number (pos 9223372036854775807)) ∷ []); nth = 2; at = 9223372036854775807 } ∷ record { number = 1; site = 6; args = ((Number (pos 9223372036854775807)) ∷ []); nth = 1; at = 0 } ∷ []); cells = []; to_cancel = [] })) refl (λ k b t i due. late 9223372036854775807 longest_wait_world.sites (2 ∷ []) (record { number = 2; site = 6; args = ((Number (pos 9223372036854775807)) ∷ []); nth = 2; at = 9223372036854775807 } ∷ record { number = 1; site = 6; args = ((Number (pos 9223372036854775807)) ∷ []); nth = 1; at = 0 } ∷ []) k b t refl i due); later = omega arith; reached = (2, (Gives Signal), inl refl, record { by = record { number = 2; site = 6; args = ((Number (pos 9223372036854775807)) ∷ []); nth = 2; at = 9223372036854775807 }; is_made = inl refl; is_k = refl; delay = 9223372036854775807; says = refl; sum = refl; fits = omega arith }); least = λ k a u i due. omega (arith, late 18446744073709551613 longest_wait_world.sites (2 ∷ []) (record { number = 2; site = 6; args = ((Number (pos 9223372036854775807)) ∷ []); nth = 2; at = 9223372036854775807 } ∷ record { number = 1; site = 6; args = ((Number (pos 9223372036854775807)) ∷ []); nth = 1; at = 0 } ∷ []) k a u refl i due) }, refl)),
                (
                  record { marked = (in_par (in_seq ended 0 (seq (site 6 ((Is (Number (pos 9223372036854775807))) ∷ [])) 1 (seq (site 6 ((Is (Number (pos 1))) ∷ [])) 2 (param (Is (Number (pos 1))))))) (in_seq (token 6 (param (Is Signal))) 1 (seq (site 6 ((Is (Number (pos 1))) ∷ [])) 2 (param (Is (Number (pos 1))))))); mark = 7; now = 18446744073709551614; calls = (record { number = 2; site = 6; args = ((Number (pos 9223372036854775807)) ∷ []); nth = 2; at = 9223372036854775807 } ∷ record { number = 1; site = 6; args = ((Number (pos 9223372036854775807)) ∷ []); nth = 1; at = 0 } ∷ []); cells = []; to_cancel = [] },
                  (inr refl, ([], refl, record { by = record { number = 2; site = 6; args = ((Number (pos 9223372036854775807)) ∷ []); nth = 2; at = 9223372036854775807 }; is_made = inl refl; is_k = refl; delay = 9223372036854775807; says = refl; sum = refl; fits = omega arith }, (in_right (in_feeding here)), record { to_cancel = refl; same = refl })),
                  (
                    record { marked = (in_par (in_seq ended 0 (seq (site 6 ((Is (Number (pos 9223372036854775807))) ∷ [])) 1 (seq (site 6 ((Is (Number (pos 1))) ∷ [])) 2 (param (Is (Number (pos 1))))))) (in_par (in_seq ended 1 (seq (site 6 ((Is (Number (pos 1))) ∷ [])) 2 (param (Is (Number (pos 1)))))) (token 7 (seq (site 6 ((Is (Number (pos 1))) ∷ [])) 2 (param (Is (Number (pos 1)))))))); mark = 8; now = 18446744073709551614; calls = (record { number = 2; site = 6; args = ((Number (pos 9223372036854775807)) ∷ []); nth = 2; at = 9223372036854775807 } ∷ record { number = 1; site = 6; args = ((Number (pos 9223372036854775807)) ∷ []); nth = 1; at = 0 } ∷ []); cells = []; to_cancel = [] },
                    (inr refl, (refl, (on_right (is_fed emits)), record { to_cancel = refl; same = refl })),
                    (
                      record { marked = (in_par (in_seq ended 0 (seq (site 6 ((Is (Number (pos 9223372036854775807))) ∷ [])) 1 (seq (site 6 ((Is (Number (pos 1))) ∷ [])) 2 (param (Is (Number (pos 1))))))) (in_par (in_seq ended 1 (seq (site 6 ((Is (Number (pos 1))) ∷ [])) 2 (param (Is (Number (pos 1)))))) (in_seq (token 8 (site 6 ((Is (Number (pos 1))) ∷ []))) 2 (param (Is (Number (pos 1))))))); mark = 9; now = 18446744073709551614; calls = (record { number = 2; site = 6; args = ((Number (pos 9223372036854775807)) ∷ []); nth = 2; at = 9223372036854775807 } ∷ record { number = 1; site = 6; args = ((Number (pos 9223372036854775807)) ∷ []); nth = 1; at = 0 } ∷ []); cells = []; to_cancel = [] },
                      (inr refl, ((site 6 ((Is (Number (pos 1))) ∷ [])), (param (Is (Number (pos 1)))), 2, refl, record { inside = []; part = (in_right (in_right here)); same = refl })),
                      (
                        record { marked = (in_par (in_seq ended 0 (seq (site 6 ((Is (Number (pos 9223372036854775807))) ∷ [])) 1 (seq (site 6 ((Is (Number (pos 1))) ∷ [])) 2 (param (Is (Number (pos 1))))))) (in_par (in_seq ended 1 (seq (site 6 ((Is (Number (pos 1))) ∷ [])) 2 (param (Is (Number (pos 1)))))) (in_seq (in_call 3) 2 (param (Is (Number (pos 1))))))); mark = 9; now = 18446744073709551614; calls = (record { number = 3; site = 6; args = ((Number (pos 1)) ∷ []); nth = 1; at = 18446744073709551614 } ∷ record { number = 2; site = 6; args = ((Number (pos 9223372036854775807)) ∷ []); nth = 2; at = 9223372036854775807 } ∷ record { number = 1; site = 6; args = ((Number (pos 9223372036854775807)) ∷ []); nth = 1; at = 0 } ∷ []); cells = []; to_cancel = [] },
                        (inr refl, (((Is (Number (pos 1))) ∷ []), [], refl, refl, (in_right (in_right (in_feeding here))), record { to_cancel = refl; same = refl })),
                        (
                          record { marked = (in_par (in_seq ended 0 (seq (site 6 ((Is (Number (pos 9223372036854775807))) ∷ [])) 1 (seq (site 6 ((Is (Number (pos 1))) ∷ [])) 2 (param (Is (Number (pos 1))))))) (in_par (in_seq ended 1 (seq (site 6 ((Is (Number (pos 1))) ∷ [])) 2 (param (Is (Number (pos 1)))))) (in_seq (in_call 3) 2 (param (Is (Number (pos 1))))))); mark = 9; now = 18446744073709551615; calls = (record { number = 3; site = 6; args = ((Number (pos 1)) ∷ []); nth = 1; at = 18446744073709551614 } ∷ record { number = 2; site = 6; args = ((Number (pos 9223372036854775807)) ∷ []); nth = 2; at = 9223372036854775807 } ∷ record { number = 1; site = 6; args = ((Number (pos 9223372036854775807)) ∷ []); nth = 1; at = 0 } ∷ []); cells = []; to_cancel = [] },
                          (inr refl, (record { idle = idle_by_test longest_wait_world (moment (record { marked = (in_par (in_seq ended 0 (seq (site 6 ((Is (Number (pos 9223372036854775807))) ∷ [])) 1 (seq (site 6 ((Is (Number (pos 1))) ∷ [])) 2 (param (Is (Number (pos 1))))))) (in_par (in_seq ended 1 (seq (site 6 ((Is (Number (pos 1))) ∷ [])) 2 (param (Is (Number (pos 1)))))) (in_seq (in_call 3) 2 (param (Is (Number (pos 1))))))); mark = 9; now = 18446744073709551614; calls = (record { number = 3; site = 6; args = ((Number (pos 1)) ∷ []); nth = 1; at = 18446744073709551614 } ∷ record { number = 2; site = 6; args = ((Number (pos 9223372036854775807)) ∷ []); nth = 2; at = 9223372036854775807 } ∷ record { number = 1; site = 6; args = ((Number (pos 9223372036854775807)) ∷ []); nth = 1; at = 0 } ∷ []); cells = []; to_cancel = [] })) refl (λ k b t i due. late 18446744073709551614 longest_wait_world.sites (3 ∷ []) (record { number = 3; site = 6; args = ((Number (pos 1)) ∷ []); nth = 1; at = 18446744073709551614 } ∷ record { number = 2; site = 6; args = ((Number (pos 9223372036854775807)) ∷ []); nth = 2; at = 9223372036854775807 } ∷ record { number = 1; site = 6; args = ((Number (pos 9223372036854775807)) ∷ []); nth = 1; at = 0 } ∷ []) k b t refl i due); later = omega arith; reached = (3, (Gives Signal), inl refl, record { by = record { number = 3; site = 6; args = ((Number (pos 1)) ∷ []); nth = 1; at = 18446744073709551614 }; is_made = inl refl; is_k = refl; delay = 1; says = refl; sum = refl; fits = omega arith }); least = λ k a u i due. omega (arith, late 18446744073709551614 longest_wait_world.sites (3 ∷ []) (record { number = 3; site = 6; args = ((Number (pos 1)) ∷ []); nth = 1; at = 18446744073709551614 } ∷ record { number = 2; site = 6; args = ((Number (pos 9223372036854775807)) ∷ []); nth = 2; at = 9223372036854775807 } ∷ record { number = 1; site = 6; args = ((Number (pos 9223372036854775807)) ∷ []); nth = 1; at = 0 } ∷ []) k a u refl i due) }, refl)),
                          (
                            record { marked = (in_par (in_seq ended 0 (seq (site 6 ((Is (Number (pos 9223372036854775807))) ∷ [])) 1 (seq (site 6 ((Is (Number (pos 1))) ∷ [])) 2 (param (Is (Number (pos 1))))))) (in_par (in_seq ended 1 (seq (site 6 ((Is (Number (pos 1))) ∷ [])) 2 (param (Is (Number (pos 1)))))) (in_seq (token 9 (param (Is Signal))) 2 (param (Is (Number (pos 1))))))); mark = 10; now = 18446744073709551615; calls = (record { number = 3; site = 6; args = ((Number (pos 1)) ∷ []); nth = 1; at = 18446744073709551614 } ∷ record { number = 2; site = 6; args = ((Number (pos 9223372036854775807)) ∷ []); nth = 2; at = 9223372036854775807 } ∷ record { number = 1; site = 6; args = ((Number (pos 9223372036854775807)) ∷ []); nth = 1; at = 0 } ∷ []); cells = []; to_cancel = [] },
                            (inr refl, ([], refl, record { by = record { number = 3; site = 6; args = ((Number (pos 1)) ∷ []); nth = 1; at = 18446744073709551614 }; is_made = inl refl; is_k = refl; delay = 1; says = refl; sum = refl; fits = omega arith }, (in_right (in_right (in_feeding here))), record { to_cancel = refl; same = refl })),
                            (
                              record { marked = (in_par (in_seq ended 0 (seq (site 6 ((Is (Number (pos 9223372036854775807))) ∷ [])) 1 (seq (site 6 ((Is (Number (pos 1))) ∷ [])) 2 (param (Is (Number (pos 1))))))) (in_par (in_seq ended 1 (seq (site 6 ((Is (Number (pos 1))) ∷ [])) 2 (param (Is (Number (pos 1)))))) (in_par (in_seq ended 2 (param (Is (Number (pos 1))))) (token 10 (param (Is (Number (pos 1)))))))); mark = 11; now = 18446744073709551615; calls = (record { number = 3; site = 6; args = ((Number (pos 1)) ∷ []); nth = 1; at = 18446744073709551614 } ∷ record { number = 2; site = 6; args = ((Number (pos 9223372036854775807)) ∷ []); nth = 2; at = 9223372036854775807 } ∷ record { number = 1; site = 6; args = ((Number (pos 9223372036854775807)) ∷ []); nth = 1; at = 0 } ∷ []); cells = []; to_cancel = [] },
                              (inr refl, (refl, (on_right (on_right (is_fed emits))), record { to_cancel = refl; same = refl })),
                              (
                                record { marked = (in_par (in_seq ended 0 (seq (site 6 ((Is (Number (pos 9223372036854775807))) ∷ [])) 1 (seq (site 6 ((Is (Number (pos 1))) ∷ [])) 2 (param (Is (Number (pos 1))))))) (in_par (in_seq ended 1 (seq (site 6 ((Is (Number (pos 1))) ∷ [])) 2 (param (Is (Number (pos 1)))))) (in_par (in_seq ended 2 (param (Is (Number (pos 1))))) ended))); mark = 11; now = 18446744073709551615; calls = (record { number = 3; site = 6; args = ((Number (pos 1)) ∷ []); nth = 1; at = 18446744073709551614 } ∷ record { number = 2; site = 6; args = ((Number (pos 9223372036854775807)) ∷ []); nth = 2; at = 9223372036854775807 } ∷ record { number = 1; site = 6; args = ((Number (pos 9223372036854775807)) ∷ []); nth = 1; at = 0 } ∷ []); cells = []; to_cancel = [] },
                                (inr refl, ((on_right (on_right (on_right emits))), record { to_cancel = refl; same = refl })),
                                refl,
                              ),
                            ),
                          ),
                        ),
                      ),
                    ),
                  ),
                ),
              ),
            ),
          ),
        ),
      ),
    ),
  ),
)

longest_wait_halted : Halted (erase (in_par (in_seq ended 0 (seq (site 6 ((Is (Number (pos 9223372036854775807))) ∷ [])) 1 (seq (site 6 ((Is (Number (pos 1))) ∷ [])) 2 (param (Is (Number (pos 1))))))) (in_par (in_seq ended 1 (seq (site 6 ((Is (Number (pos 1))) ∷ [])) 2 (param (Is (Number (pos 1)))))) (in_par (in_seq ended 2 (param (Is (Number (pos 1))))) ended))))
longest_wait_halted = (tt, (tt, (tt, tt)))

-- `(x <x< (1 | Rwait(1) >> 5)) | Rwait(3) >> 2`, the killed side's call never made: the tick goes to 3
abbrev killed_call_due_first_world : Context
killed_call_due_first_world = world [] [] true

killed_call_due_first : Journal killed_call_due_first_world (begin (par (prune (param (Name 0)) 0 (par (param (Is (Number (pos 1)))) (seq (site 6 ((Is (Number (pos 1))) ∷ [])) 1 (param (Is (Number (pos 5))))))) (seq (site 6 ((Is (Number (pos 3))) ∷ [])) 2 (param (Is (Number (pos 2))))))) (Fork 1 2 3 ∷ Open 2 1 4 5 ∷ Seq 3 6 ∷ Fork 5 7 8 ∷ Seq 8 9 ∷ Call 6 1 6 ((Number (pos 3)) ∷ []) ∷ Bind 7 1 (Number (pos 1)) ∷ Publish 4 (Number (pos 1)) ∷ Tick 3 ∷ Return 1 10 Signal ∷ Send 10 11 Signal ∷ Publish 11 (Number (pos 2)) ∷ []) (record { marked = (in_par ended (in_par (in_seq ended 2 (param (Is (Number (pos 2))))) ended)); mark = 12; now = 3; calls = (record { number = 1; site = 6; args = ((Number (pos 3)) ∷ []); nth = 1; at = 0 } ∷ []); cells = (1 ∷ []); to_cancel = [] })
killed_call_due_first = (
  record { marked = (in_par (token 2 (prune (param (Name 0)) 0 (par (param (Is (Number (pos 1)))) (seq (site 6 ((Is (Number (pos 1))) ∷ [])) 1 (param (Is (Number (pos 5)))))))) (token 3 (seq (site 6 ((Is (Number (pos 3))) ∷ [])) 2 (param (Is (Number (pos 2))))))); mark = 4; now = 0; calls = []; cells = []; to_cancel = [] },
  (inr refl, ((prune (param (Name 0)) 0 (par (param (Is (Number (pos 1)))) (seq (site 6 ((Is (Number (pos 1))) ∷ [])) 1 (param (Is (Number (pos 5))))))), (seq (site 6 ((Is (Number (pos 3))) ∷ [])) 2 (param (Is (Number (pos 2))))), refl, refl, record { inside = []; part = here; same = refl })),
  (
    record { marked = (in_par (in_opened (token 4 (param (Cell 1))) 1 (token 5 (par (param (Is (Number (pos 1)))) (seq (site 6 ((Is (Number (pos 1))) ∷ [])) 1 (param (Is (Number (pos 5)))))))) (token 3 (seq (site 6 ((Is (Number (pos 3))) ∷ [])) 2 (param (Is (Number (pos 2))))))); mark = 6; now = 0; calls = []; cells = (1 ∷ []); to_cancel = [] },
    (inr refl, ((param (Name 0)), (par (param (Is (Number (pos 1)))) (seq (site 6 ((Is (Number (pos 1))) ∷ [])) 1 (param (Is (Number (pos 5)))))), 0, [], refl, refl, refl, (in_left here), record { to_cancel = refl; same = refl })),
    (
      record { marked = (in_par (in_opened (token 4 (param (Cell 1))) 1 (token 5 (par (param (Is (Number (pos 1)))) (seq (site 6 ((Is (Number (pos 1))) ∷ [])) 1 (param (Is (Number (pos 5)))))))) (in_seq (token 6 (site 6 ((Is (Number (pos 3))) ∷ []))) 2 (param (Is (Number (pos 2)))))); mark = 7; now = 0; calls = []; cells = (1 ∷ []); to_cancel = [] },
      (inr refl, ((site 6 ((Is (Number (pos 3))) ∷ [])), (param (Is (Number (pos 2)))), 2, refl, record { inside = []; part = (in_right here); same = refl })),
      (
        record { marked = (in_par (in_opened (token 4 (param (Cell 1))) 1 (in_par (token 7 (param (Is (Number (pos 1))))) (token 8 (seq (site 6 ((Is (Number (pos 1))) ∷ [])) 1 (param (Is (Number (pos 5)))))))) (in_seq (token 6 (site 6 ((Is (Number (pos 3))) ∷ []))) 2 (param (Is (Number (pos 2)))))); mark = 9; now = 0; calls = []; cells = (1 ∷ []); to_cancel = [] },
        (inr refl, ((param (Is (Number (pos 1)))), (seq (site 6 ((Is (Number (pos 1))) ∷ [])) 1 (param (Is (Number (pos 5))))), refl, refl, record { inside = (1 ∷ []); part = (in_left (in_side here)); same = refl })),
        (
          record { marked = (in_par (in_opened (token 4 (param (Cell 1))) 1 (in_par (token 7 (param (Is (Number (pos 1))))) (in_seq (token 9 (site 6 ((Is (Number (pos 1))) ∷ []))) 1 (param (Is (Number (pos 5))))))) (in_seq (token 6 (site 6 ((Is (Number (pos 3))) ∷ []))) 2 (param (Is (Number (pos 2)))))); mark = 10; now = 0; calls = []; cells = (1 ∷ []); to_cancel = [] },
          (inr refl, ((site 6 ((Is (Number (pos 1))) ∷ [])), (param (Is (Number (pos 5)))), 1, refl, record { inside = (1 ∷ []); part = (in_left (in_side (in_right here))); same = refl })),
          (
            record { marked = (in_par (in_opened (token 4 (param (Cell 1))) 1 (in_par (token 7 (param (Is (Number (pos 1))))) (in_seq (token 9 (site 6 ((Is (Number (pos 1))) ∷ []))) 1 (param (Is (Number (pos 5))))))) (in_seq (in_call 1) 2 (param (Is (Number (pos 2)))))); mark = 10; now = 0; calls = (record { number = 1; site = 6; args = ((Number (pos 3)) ∷ []); nth = 1; at = 0 } ∷ []); cells = (1 ∷ []); to_cancel = [] },
            (inr refl, (((Is (Number (pos 3))) ∷ []), [], refl, refl, (in_right (in_feeding here)), record { to_cancel = refl; same = refl })),
            (
              record { marked = (in_par (token 4 (param (Is (Number (pos 1))))) (in_seq (in_call 1) 2 (param (Is (Number (pos 2)))))); mark = 10; now = 0; calls = (record { number = 1; site = 6; args = ((Number (pos 3)) ∷ []); nth = 1; at = 0 } ∷ []); cells = (1 ∷ []); to_cancel = [] },
              (inr refl, ((on_left (is_bound (on_left emits))), record { to_cancel = (λ e. record { rising = tt; each = λ k h. each_dropped (1 ∷ []) (1 ∷ []) [] refl k h; all = λ k h out. all_dropped (1 ∷ []) (1 ∷ []) [] refl k h out }, λ e. cc e); same = refl })),
              (
                record { marked = (in_par ended (in_seq (in_call 1) 2 (param (Is (Number (pos 2)))))); mark = 10; now = 0; calls = (record { number = 1; site = 6; args = ((Number (pos 3)) ∷ []); nth = 1; at = 0 } ∷ []); cells = (1 ∷ []); to_cancel = [] },
                (inr refl, ((on_left emits), record { to_cancel = refl; same = refl })),
                (
                  record { marked = (in_par ended (in_seq (in_call 1) 2 (param (Is (Number (pos 2)))))); mark = 10; now = 3; calls = (record { number = 1; site = 6; args = ((Number (pos 3)) ∷ []); nth = 1; at = 0 } ∷ []); cells = (1 ∷ []); to_cancel = [] },
                  (inr refl, (record { idle = idle_by_test killed_call_due_first_world (moment (record { marked = (in_par ended (in_seq (in_call 1) 2 (param (Is (Number (pos 2)))))); mark = 10; now = 0; calls = (record { number = 1; site = 6; args = ((Number (pos 3)) ∷ []); nth = 1; at = 0 } ∷ []); cells = (1 ∷ []); to_cancel = [] })) refl (λ k b t i due. late 0 killed_call_due_first_world.sites (1 ∷ []) (record { number = 1; site = 6; args = ((Number (pos 3)) ∷ []); nth = 1; at = 0 } ∷ []) k b t refl i due); later = omega arith; reached = (1, (Gives Signal), inl refl, record { by = record { number = 1; site = 6; args = ((Number (pos 3)) ∷ []); nth = 1; at = 0 }; is_made = inl refl; is_k = refl; delay = 3; says = refl; sum = refl; fits = omega arith }); least = λ k a u i due. omega (arith, late 2 killed_call_due_first_world.sites (1 ∷ []) (record { number = 1; site = 6; args = ((Number (pos 3)) ∷ []); nth = 1; at = 0 } ∷ []) k a u refl i due) }, refl)),
                  (
                    record { marked = (in_par ended (in_seq (token 10 (param (Is Signal))) 2 (param (Is (Number (pos 2)))))); mark = 11; now = 3; calls = (record { number = 1; site = 6; args = ((Number (pos 3)) ∷ []); nth = 1; at = 0 } ∷ []); cells = (1 ∷ []); to_cancel = [] },
                    (inr refl, ([], refl, record { by = record { number = 1; site = 6; args = ((Number (pos 3)) ∷ []); nth = 1; at = 0 }; is_made = inl refl; is_k = refl; delay = 3; says = refl; sum = refl; fits = omega arith }, (in_right (in_feeding here)), record { to_cancel = refl; same = refl })),
                    (
                      record { marked = (in_par ended (in_par (in_seq ended 2 (param (Is (Number (pos 2))))) (token 11 (param (Is (Number (pos 2))))))); mark = 12; now = 3; calls = (record { number = 1; site = 6; args = ((Number (pos 3)) ∷ []); nth = 1; at = 0 } ∷ []); cells = (1 ∷ []); to_cancel = [] },
                      (inr refl, (refl, (on_right (is_fed emits)), record { to_cancel = refl; same = refl })),
                      (
                        record { marked = (in_par ended (in_par (in_seq ended 2 (param (Is (Number (pos 2))))) ended)); mark = 12; now = 3; calls = (record { number = 1; site = 6; args = ((Number (pos 3)) ∷ []); nth = 1; at = 0 } ∷ []); cells = (1 ∷ []); to_cancel = [] },
                        (inr refl, ((on_right (on_right emits)), record { to_cancel = refl; same = refl })),
                        refl,
                      ),
                    ),
                  ),
                ),
              ),
            ),
          ),
        ),
      ),
    ),
  ),
)

killed_call_due_first_halted : Halted (erase (in_par ended (in_par (in_seq ended 2 (param (Is (Number (pos 2))))) ended)))
killed_call_due_first_halted = (tt, (tt, tt))

-- `def m() = signal | Rwait(1) >> m()`, `m()`: the second round begins at time 1
abbrev loop_of_signals_world : Context
loop_of_signals_world = world (record { params = []; body = (par (param (Is Signal)) (seq (site 6 ((Is (Number (pos 1))) ∷ [])) 0 (call 0 []))) } ∷ []) [] true

loop_of_signals : Journal loop_of_signals_world (begin (call 0 [])) (Def 1 2 ∷ Fork 2 3 4 ∷ Publish 3 Signal ∷ Seq 4 5 ∷ Call 5 1 6 ((Number (pos 1)) ∷ []) ∷ Tick 1 ∷ Return 1 6 Signal ∷ Send 6 7 Signal ∷ Def 7 8 ∷ Fork 8 9 10 ∷ Publish 9 Signal ∷ []) (record { marked = (in_par ended (in_par (in_seq ended 0 (call 0 [])) (in_par ended (token 10 (seq (site 6 ((Is (Number (pos 1))) ∷ [])) 0 (call 0 [])))))); mark = 11; now = 1; calls = (record { number = 1; site = 6; args = ((Number (pos 1)) ∷ []); nth = 1; at = 0 } ∷ []); cells = []; to_cancel = [] })
loop_of_signals = (
  record { marked = (token 2 (par (param (Is Signal)) (seq (site 6 ((Is (Number (pos 1))) ∷ [])) 0 (call 0 [])))); mark = 3; now = 0; calls = []; cells = []; to_cancel = [] },
  (inr refl, (0, [], _, [], refl, refl, here, record { to_cancel = refl; same = refl })),
  (
    record { marked = (in_par (token 3 (param (Is Signal))) (token 4 (seq (site 6 ((Is (Number (pos 1))) ∷ [])) 0 (call 0 [])))); mark = 5; now = 0; calls = []; cells = []; to_cancel = [] },
    (inr refl, ((param (Is Signal)), (seq (site 6 ((Is (Number (pos 1))) ∷ [])) 0 (call 0 [])), refl, refl, record { inside = []; part = here; same = refl })),
    (
      record { marked = (in_par ended (token 4 (seq (site 6 ((Is (Number (pos 1))) ∷ [])) 0 (call 0 [])))); mark = 5; now = 0; calls = []; cells = []; to_cancel = [] },
      (inr refl, ((on_left emits), record { to_cancel = refl; same = refl })),
      (
        record { marked = (in_par ended (in_seq (token 5 (site 6 ((Is (Number (pos 1))) ∷ []))) 0 (call 0 []))); mark = 6; now = 0; calls = []; cells = []; to_cancel = [] },
        (inr refl, ((site 6 ((Is (Number (pos 1))) ∷ [])), (call 0 []), 0, refl, record { inside = []; part = (in_right here); same = refl })),
        (
          record { marked = (in_par ended (in_seq (in_call 1) 0 (call 0 []))); mark = 6; now = 0; calls = (record { number = 1; site = 6; args = ((Number (pos 1)) ∷ []); nth = 1; at = 0 } ∷ []); cells = []; to_cancel = [] },
          (inr refl, (((Is (Number (pos 1))) ∷ []), [], refl, refl, (in_right (in_feeding here)), record { to_cancel = refl; same = refl })),
          (
            record { marked = (in_par ended (in_seq (in_call 1) 0 (call 0 []))); mark = 6; now = 1; calls = (record { number = 1; site = 6; args = ((Number (pos 1)) ∷ []); nth = 1; at = 0 } ∷ []); cells = []; to_cancel = [] },
            (inr refl, (record { idle = idle_by_test loop_of_signals_world (moment (record { marked = (in_par ended (in_seq (in_call 1) 0 (call 0 []))); mark = 6; now = 0; calls = (record { number = 1; site = 6; args = ((Number (pos 1)) ∷ []); nth = 1; at = 0 } ∷ []); cells = []; to_cancel = [] })) refl (λ k b t i due. late 0 loop_of_signals_world.sites (1 ∷ []) (record { number = 1; site = 6; args = ((Number (pos 1)) ∷ []); nth = 1; at = 0 } ∷ []) k b t refl i due); later = omega arith; reached = (1, (Gives Signal), inl refl, record { by = record { number = 1; site = 6; args = ((Number (pos 1)) ∷ []); nth = 1; at = 0 }; is_made = inl refl; is_k = refl; delay = 1; says = refl; sum = refl; fits = omega arith }); least = λ k a u i due. omega (arith, late 0 loop_of_signals_world.sites (1 ∷ []) (record { number = 1; site = 6; args = ((Number (pos 1)) ∷ []); nth = 1; at = 0 } ∷ []) k a u refl i due) }, refl)),
            (
              record { marked = (in_par ended (in_seq (token 6 (param (Is Signal))) 0 (call 0 []))); mark = 7; now = 1; calls = (record { number = 1; site = 6; args = ((Number (pos 1)) ∷ []); nth = 1; at = 0 } ∷ []); cells = []; to_cancel = [] },
              (inr refl, ([], refl, record { by = record { number = 1; site = 6; args = ((Number (pos 1)) ∷ []); nth = 1; at = 0 }; is_made = inl refl; is_k = refl; delay = 1; says = refl; sum = refl; fits = omega arith }, (in_right (in_feeding here)), record { to_cancel = refl; same = refl })),
              (
                record { marked = (in_par ended (in_par (in_seq ended 0 (call 0 [])) (token 7 (call 0 [])))); mark = 8; now = 1; calls = (record { number = 1; site = 6; args = ((Number (pos 1)) ∷ []); nth = 1; at = 0 } ∷ []); cells = []; to_cancel = [] },
                (inr refl, (refl, (on_right (is_fed emits)), record { to_cancel = refl; same = refl })),
                (
                  record { marked = (in_par ended (in_par (in_seq ended 0 (call 0 [])) (token 8 (par (param (Is Signal)) (seq (site 6 ((Is (Number (pos 1))) ∷ [])) 0 (call 0 [])))))); mark = 9; now = 1; calls = (record { number = 1; site = 6; args = ((Number (pos 1)) ∷ []); nth = 1; at = 0 } ∷ []); cells = []; to_cancel = [] },
                  (inr refl, (0, [], _, [], refl, refl, (in_right (in_right here)), record { to_cancel = refl; same = refl })),
                  (
                    record { marked = (in_par ended (in_par (in_seq ended 0 (call 0 [])) (in_par (token 9 (param (Is Signal))) (token 10 (seq (site 6 ((Is (Number (pos 1))) ∷ [])) 0 (call 0 [])))))); mark = 11; now = 1; calls = (record { number = 1; site = 6; args = ((Number (pos 1)) ∷ []); nth = 1; at = 0 } ∷ []); cells = []; to_cancel = [] },
                    (inr refl, ((param (Is Signal)), (seq (site 6 ((Is (Number (pos 1))) ∷ [])) 0 (call 0 [])), refl, refl, record { inside = []; part = (in_right (in_right here)); same = refl })),
                    (
                      record { marked = (in_par ended (in_par (in_seq ended 0 (call 0 [])) (in_par ended (token 10 (seq (site 6 ((Is (Number (pos 1))) ∷ [])) 0 (call 0 [])))))); mark = 11; now = 1; calls = (record { number = 1; site = 6; args = ((Number (pos 1)) ∷ []); nth = 1; at = 0 } ∷ []); cells = []; to_cancel = [] },
                      (inr refl, ((on_right (on_right (on_left emits))), record { to_cancel = refl; same = refl })),
                      refl,
                    ),
                  ),
                ),
              ),
            ),
          ),
        ),
      ),
    ),
  ),
)
