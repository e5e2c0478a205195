-- Worked journals of sites, built-in and of scripts: each entry and each place by computing.
use Rattle.std.proofs.Common.{[], ◌∷◌, refl, inl, inr, true, false, pos, Some, None, arith}
use Rattle.orc_rules.specs.declared.value.Value.TheVariants.{Number}
use Rattle.orc_rules.specs.declared.param.Param.TheVariants.{Name, Is}
use Rattle.orc_rules.specs.declared.value.Answer.TheVariants.{Value as Gives, Halt}
use Rattle.orc_rules.specs.declared.value.Found.TheVariants.{After, Never}
use Rattle.orc_rules.specs.declared.entry.Entry.TheVariants.{Fork, Seq, Other, Send, Call, Return, ReturnHalt, Right, Publish, Tick}
use Rattle.orc_rules.specs.Term.{param, site, par, seq, other, Halted}
use Rattle.orc_rules.specs.Sites.{scripted}
use Rattle.orc_rules.specs.Marked.{ended, token, in_call, in_par, in_seq, in_other, erase, here, in_left, in_right, in_feeding, in_entered, emits, on_left, on_right, is_fed, passes}
use Rattle.orc_rules.specs.Timed.{Context}
use Rattle.orc_rules.specs.Journal.{Journal, begin, moment}
use Rattle.orc_rules.proofs.Idle.{idle_by_test}
use Rattle.orc_rules.proofs.Worked.{world}
use Rattle.orc_rules.proofs.Late.{late}

-- `(1 | 2) >x> Add(x, 10)`: each publication starts a copy
abbrev two_sums_world : Context
two_sums_world = world [] [] false

two_sums : Journal two_sums_world (begin (seq (par (param (Is (Number (pos 1)))) (param (Is (Number (pos 2))))) 0 (site 0 ((Name 0) ∷ (Is (Number (pos 10))) ∷ [])))) (Seq 1 2 ∷ Fork 2 3 4 ∷ Send 3 5 (Number (pos 1)) ∷ Call 5 1 0 ((Number (pos 1)) ∷ (Number (pos 10)) ∷ []) ∷ Return 1 6 (Number (pos 11)) ∷ Publish 6 (Number (pos 11)) ∷ Send 4 7 (Number (pos 2)) ∷ Call 7 2 0 ((Number (pos 2)) ∷ (Number (pos 10)) ∷ []) ∷ Return 2 8 (Number (pos 12)) ∷ Publish 8 (Number (pos 12)) ∷ []) (record { marked = (in_par (in_par (in_seq (in_par ended ended) 0 (site 0 ((Name 0) ∷ (Is (Number (pos 10))) ∷ []))) ended) ended); mark = 9; now = 0; calls = (record { number = 2; site = 0; args = ((Number (pos 2)) ∷ (Number (pos 10)) ∷ []); nth = 1; at = 0 } ∷ record { number = 1; site = 0; args = ((Number (pos 1)) ∷ (Number (pos 10)) ∷ []); nth = 1; at = 0 } ∷ []); cells = []; to_cancel = [] })
two_sums = (
  record { marked = (in_seq (token 2 (par (param (Is (Number (pos 1)))) (param (Is (Number (pos 2)))))) 0 (site 0 ((Name 0) ∷ (Is (Number (pos 10))) ∷ []))); mark = 3; now = 0; calls = []; cells = []; to_cancel = [] },
  (inr refl, ((par (param (Is (Number (pos 1)))) (param (Is (Number (pos 2))))), (site 0 ((Name 0) ∷ (Is (Number (pos 10))) ∷ [])), 0, refl, record { inside = []; part = here; same = refl })),
  (
    record { marked = (in_seq (in_par (token 3 (param (Is (Number (pos 1))))) (token 4 (param (Is (Number (pos 2)))))) 0 (site 0 ((Name 0) ∷ (Is (Number (pos 10))) ∷ []))); mark = 5; now = 0; calls = []; cells = []; to_cancel = [] },
    (inr refl, ((param (Is (Number (pos 1)))), (param (Is (Number (pos 2)))), refl, refl, record { inside = []; part = (in_feeding here); same = refl })),
    (
      record { marked = (in_par (in_seq (in_par ended (token 4 (param (Is (Number (pos 2)))))) 0 (site 0 ((Name 0) ∷ (Is (Number (pos 10))) ∷ []))) (token 5 (site 0 ((Is (Number (pos 1))) ∷ (Is (Number (pos 10))) ∷ [])))); mark = 6; now = 0; calls = []; cells = []; to_cancel = [] },
      (inr refl, (refl, (is_fed (on_left emits)), record { to_cancel = refl; same = refl })),
      (
        record { marked = (in_par (in_seq (in_par ended (token 4 (param (Is (Number (pos 2)))))) 0 (site 0 ((Name 0) ∷ (Is (Number (pos 10))) ∷ []))) (in_call 1)); mark = 6; now = 0; calls = (record { number = 1; site = 0; args = ((Number (pos 1)) ∷ (Number (pos 10)) ∷ []); nth = 1; at = 0 } ∷ []); cells = []; to_cancel = [] },
        (inr refl, (((Is (Number (pos 1))) ∷ (Is (Number (pos 10))) ∷ []), [], refl, refl, (in_right here), record { to_cancel = refl; same = refl })),
        (
          record { marked = (in_par (in_seq (in_par ended (token 4 (param (Is (Number (pos 2)))))) 0 (site 0 ((Name 0) ∷ (Is (Number (pos 10))) ∷ []))) (token 6 (param (Is (Number (pos 11)))))); mark = 7; now = 0; calls = (record { number = 1; site = 0; args = ((Number (pos 1)) ∷ (Number (pos 10)) ∷ []); nth = 1; at = 0 } ∷ []); cells = []; to_cancel = [] },
          (inr refl, ([], refl, record { by = record { number = 1; site = 0; args = ((Number (pos 1)) ∷ (Number (pos 10)) ∷ []); nth = 1; at = 0 }; is_made = inl refl; is_k = refl; delay = 0; says = refl; sum = refl; fits = omega arith }, (in_right here), record { to_cancel = refl; same = refl })),
          (
            record { marked = (in_par (in_seq (in_par ended (token 4 (param (Is (Number (pos 2)))))) 0 (site 0 ((Name 0) ∷ (Is (Number (pos 10))) ∷ []))) ended); mark = 7; now = 0; calls = (record { number = 1; site = 0; args = ((Number (pos 1)) ∷ (Number (pos 10)) ∷ []); nth = 1; at = 0 } ∷ []); cells = []; to_cancel = [] },
            (inr refl, ((on_right emits), record { to_cancel = refl; same = refl })),
            (
              record { marked = (in_par (in_par (in_seq (in_par ended ended) 0 (site 0 ((Name 0) ∷ (Is (Number (pos 10))) ∷ []))) (token 7 (site 0 ((Is (Number (pos 2))) ∷ (Is (Number (pos 10))) ∷ [])))) ended); mark = 8; now = 0; calls = (record { number = 1; site = 0; args = ((Number (pos 1)) ∷ (Number (pos 10)) ∷ []); nth = 1; at = 0 } ∷ []); cells = []; to_cancel = [] },
              (inr refl, (refl, (on_left (is_fed (on_right emits))), record { to_cancel = refl; same = refl })),
              (
                record { marked = (in_par (in_par (in_seq (in_par ended ended) 0 (site 0 ((Name 0) ∷ (Is (Number (pos 10))) ∷ []))) (in_call 2)) ended); mark = 8; now = 0; calls = (record { number = 2; site = 0; args = ((Number (pos 2)) ∷ (Number (pos 10)) ∷ []); nth = 1; at = 0 } ∷ record { number = 1; site = 0; args = ((Number (pos 1)) ∷ (Number (pos 10)) ∷ []); nth = 1; at = 0 } ∷ []); cells = []; to_cancel = [] },
                (inr refl, (((Is (Number (pos 2))) ∷ (Is (Number (pos 10))) ∷ []), [], refl, refl, (in_left (in_right here)), record { to_cancel = refl; same = refl })),
                (
                  record { marked = (in_par (in_par (in_seq (in_par ended ended) 0 (site 0 ((Name 0) ∷ (Is (Number (pos 10))) ∷ []))) (token 8 (param (Is (Number (pos 12)))))) ended); mark = 9; now = 0; calls = (record { number = 2; site = 0; args = ((Number (pos 2)) ∷ (Number (pos 10)) ∷ []); nth = 1; at = 0 } ∷ record { number = 1; site = 0; args = ((Number (pos 1)) ∷ (Number (pos 10)) ∷ []); nth = 1; at = 0 } ∷ []); cells = []; to_cancel = [] },
                  (inr refl, ([], refl, record { by = record { number = 2; site = 0; args = ((Number (pos 2)) ∷ (Number (pos 10)) ∷ []); nth = 1; at = 0 }; is_made = inl refl; is_k = refl; delay = 0; says = refl; sum = refl; fits = omega arith }, (in_left (in_right here)), record { to_cancel = refl; same = refl })),
                  (
                    record { marked = (in_par (in_par (in_seq (in_par ended ended) 0 (site 0 ((Name 0) ∷ (Is (Number (pos 10))) ∷ []))) ended) ended); mark = 9; now = 0; calls = (record { number = 2; site = 0; args = ((Number (pos 2)) ∷ (Number (pos 10)) ∷ []); nth = 1; at = 0 } ∷ record { number = 1; site = 0; args = ((Number (pos 1)) ∷ (Number (pos 10)) ∷ []); nth = 1; at = 0 } ∷ []); cells = []; to_cancel = [] },
                    (inr refl, ((on_left (on_right emits)), record { to_cancel = refl; same = refl })),
                    refl,
                  ),
                ),
              ),
            ),
          ),
        ),
      ),
    ),
  ),
)

two_sums_halted : Halted (erase (in_par (in_par (in_seq (in_par ended ended) 0 (site 0 ((Name 0) ∷ (Is (Number (pos 10))) ∷ []))) ended) ended))
two_sums_halted = (((tt, tt), tt), tt)

-- `Pair(1, 9) | (Pair(2, 9) ; 6)` with `Pair(1, _) = 5 after 2` and `Pair(_, _) = halt`
abbrev lines_by_pattern_world : Context
lines_by_pattern_world = world [] (scripted (record { patterns = ((Some (Number (pos 1))) ∷ None ∷ []); answers = ((After (Gives (Number (pos 5))) 2) ∷ []) } ∷ record { patterns = (None ∷ None ∷ []); answers = ((After Halt 0) ∷ []) } ∷ []) ∷ []) true

lines_by_pattern : Journal lines_by_pattern_world (begin (par (site 7 ((Is (Number (pos 1))) ∷ (Is (Number (pos 9))) ∷ [])) (other (site 7 ((Is (Number (pos 2))) ∷ (Is (Number (pos 9))) ∷ [])) (param (Is (Number (pos 6))))))) (Fork 1 2 3 ∷ Call 2 1 7 ((Number (pos 1)) ∷ (Number (pos 9)) ∷ []) ∷ Other 3 4 ∷ Call 4 2 7 ((Number (pos 2)) ∷ (Number (pos 9)) ∷ []) ∷ ReturnHalt 2 ∷ Right 3 5 ∷ Publish 5 (Number (pos 6)) ∷ Tick 2 ∷ Return 1 6 (Number (pos 5)) ∷ Publish 6 (Number (pos 5)) ∷ []) (record { marked = (in_par ended ended); mark = 7; now = 2; calls = (record { number = 2; site = 7; args = ((Number (pos 2)) ∷ (Number (pos 9)) ∷ []); nth = 1; at = 0 } ∷ record { number = 1; site = 7; args = ((Number (pos 1)) ∷ (Number (pos 9)) ∷ []); nth = 1; at = 0 } ∷ []); cells = []; to_cancel = [] })
lines_by_pattern = (
  record { marked = (in_par (token 2 (site 7 ((Is (Number (pos 1))) ∷ (Is (Number (pos 9))) ∷ []))) (token 3 (other (site 7 ((Is (Number (pos 2))) ∷ (Is (Number (pos 9))) ∷ [])) (param (Is (Number (pos 6))))))); mark = 4; now = 0; calls = []; cells = []; to_cancel = [] },
  (inr refl, ((site 7 ((Is (Number (pos 1))) ∷ (Is (Number (pos 9))) ∷ [])), (other (site 7 ((Is (Number (pos 2))) ∷ (Is (Number (pos 9))) ∷ [])) (param (Is (Number (pos 6))))), refl, refl, record { inside = []; part = here; same = refl })),
  (
    record { marked = (in_par (in_call 1) (token 3 (other (site 7 ((Is (Number (pos 2))) ∷ (Is (Number (pos 9))) ∷ [])) (param (Is (Number (pos 6))))))); mark = 4; now = 0; calls = (record { number = 1; site = 7; args = ((Number (pos 1)) ∷ (Number (pos 9)) ∷ []); nth = 1; at = 0 } ∷ []); cells = []; to_cancel = [] },
    (inr refl, (((Is (Number (pos 1))) ∷ (Is (Number (pos 9))) ∷ []), [], refl, refl, (in_left here), record { to_cancel = refl; same = refl })),
    (
      record { marked = (in_par (in_call 1) (in_other 3 (token 4 (site 7 ((Is (Number (pos 2))) ∷ (Is (Number (pos 9))) ∷ []))) (param (Is (Number (pos 6)))))); mark = 5; now = 0; calls = (record { number = 1; site = 7; args = ((Number (pos 1)) ∷ (Number (pos 9)) ∷ []); nth = 1; at = 0 } ∷ []); cells = []; to_cancel = [] },
      (inr refl, ((site 7 ((Is (Number (pos 2))) ∷ (Is (Number (pos 9))) ∷ [])), (param (Is (Number (pos 6)))), refl, record { inside = []; part = (in_right here); same = refl })),
      (
        record { marked = (in_par (in_call 1) (in_other 3 (in_call 2) (param (Is (Number (pos 6)))))); mark = 5; now = 0; calls = (record { number = 2; site = 7; args = ((Number (pos 2)) ∷ (Number (pos 9)) ∷ []); nth = 1; at = 0 } ∷ record { number = 1; site = 7; args = ((Number (pos 1)) ∷ (Number (pos 9)) ∷ []); nth = 1; at = 0 } ∷ []); cells = []; to_cancel = [] },
        (inr refl, (((Is (Number (pos 2))) ∷ (Is (Number (pos 9))) ∷ []), [], refl, refl, (in_right (in_entered here)), record { to_cancel = refl; same = refl })),
        (
          record { marked = (in_par (in_call 1) (in_other 3 ended (param (Is (Number (pos 6)))))); mark = 5; now = 0; calls = (record { number = 2; site = 7; args = ((Number (pos 2)) ∷ (Number (pos 9)) ∷ []); nth = 1; at = 0 } ∷ record { number = 1; site = 7; args = ((Number (pos 1)) ∷ (Number (pos 9)) ∷ []); nth = 1; at = 0 } ∷ []); cells = []; to_cancel = [] },
          (inr refl, ([], record { by = record { number = 2; site = 7; args = ((Number (pos 2)) ∷ (Number (pos 9)) ∷ []); nth = 1; at = 0 }; is_made = inl refl; is_k = refl; delay = 0; says = refl; sum = refl; fits = omega arith }, (in_right (in_entered here)), record { to_cancel = refl; same = refl })),
          (
            record { marked = (in_par (in_call 1) (token 5 (param (Is (Number (pos 6)))))); mark = 6; now = 0; calls = (record { number = 2; site = 7; args = ((Number (pos 2)) ∷ (Number (pos 9)) ∷ []); nth = 1; at = 0 } ∷ record { number = 1; site = 7; args = ((Number (pos 1)) ∷ (Number (pos 9)) ∷ []); nth = 1; at = 0 } ∷ []); cells = []; to_cancel = [] },
            (inr refl, (ended, (param (Is (Number (pos 6)))), [], refl, tt, (in_right here), record { to_cancel = refl; same = refl })),
            (
              record { marked = (in_par (in_call 1) ended); mark = 6; now = 0; calls = (record { number = 2; site = 7; args = ((Number (pos 2)) ∷ (Number (pos 9)) ∷ []); nth = 1; at = 0 } ∷ record { number = 1; site = 7; args = ((Number (pos 1)) ∷ (Number (pos 9)) ∷ []); nth = 1; at = 0 } ∷ []); cells = []; to_cancel = [] },
              (inr refl, ((on_right emits), record { to_cancel = refl; same = refl })),
              (
                record { marked = (in_par (in_call 1) ended); mark = 6; now = 2; calls = (record { number = 2; site = 7; args = ((Number (pos 2)) ∷ (Number (pos 9)) ∷ []); nth = 1; at = 0 } ∷ record { number = 1; site = 7; args = ((Number (pos 1)) ∷ (Number (pos 9)) ∷ []); nth = 1; at = 0 } ∷ []); cells = []; to_cancel = [] },
                (inr refl, (record { idle = idle_by_test lines_by_pattern_world (moment (record { marked = (in_par (in_call 1) ended); mark = 6; now = 0; calls = (record { number = 2; site = 7; args = ((Number (pos 2)) ∷ (Number (pos 9)) ∷ []); nth = 1; at = 0 } ∷ record { number = 1; site = 7; args = ((Number (pos 1)) ∷ (Number (pos 9)) ∷ []); nth = 1; at = 0 } ∷ []); cells = []; to_cancel = [] })) refl (λ k b t i due. late 0 lines_by_pattern_world.sites (1 ∷ []) (record { number = 2; site = 7; args = ((Number (pos 2)) ∷ (Number (pos 9)) ∷ []); nth = 1; at = 0 } ∷ record { number = 1; site = 7; args = ((Number (pos 1)) ∷ (Number (pos 9)) ∷ []); nth = 1; at = 0 } ∷ []) k b t refl i due); later = omega arith; reached = (1, (Gives (Number (pos 5))), inl refl, record { by = record { number = 1; site = 7; args = ((Number (pos 1)) ∷ (Number (pos 9)) ∷ []); nth = 1; at = 0 }; is_made = inr (inl refl); is_k = refl; delay = 2; says = refl; sum = refl; fits = omega arith }); least = λ k a u i due. omega (arith, late 1 lines_by_pattern_world.sites (1 ∷ []) (record { number = 2; site = 7; args = ((Number (pos 2)) ∷ (Number (pos 9)) ∷ []); nth = 1; at = 0 } ∷ record { number = 1; site = 7; args = ((Number (pos 1)) ∷ (Number (pos 9)) ∷ []); nth = 1; at = 0 } ∷ []) k a u refl i due) }, refl)),
                (
                  record { marked = (in_par (token 6 (param (Is (Number (pos 5))))) ended); mark = 7; now = 2; calls = (record { number = 2; site = 7; args = ((Number (pos 2)) ∷ (Number (pos 9)) ∷ []); nth = 1; at = 0 } ∷ record { number = 1; site = 7; args = ((Number (pos 1)) ∷ (Number (pos 9)) ∷ []); nth = 1; at = 0 } ∷ []); cells = []; to_cancel = [] },
                  (inr refl, ([], refl, record { by = record { number = 1; site = 7; args = ((Number (pos 1)) ∷ (Number (pos 9)) ∷ []); nth = 1; at = 0 }; is_made = inr (inl refl); is_k = refl; delay = 2; says = refl; sum = refl; fits = omega arith }, (in_left here), record { to_cancel = refl; same = refl })),
                  (
                    record { marked = (in_par ended ended); mark = 7; now = 2; calls = (record { number = 2; site = 7; args = ((Number (pos 2)) ∷ (Number (pos 9)) ∷ []); nth = 1; at = 0 } ∷ record { number = 1; site = 7; args = ((Number (pos 1)) ∷ (Number (pos 9)) ∷ []); nth = 1; at = 0 } ∷ []); cells = []; to_cancel = [] },
                    (inr refl, ((on_left emits), record { to_cancel = refl; same = refl })),
                    refl,
                  ),
                ),
              ),
            ),
          ),
        ),
      ),
    ),
  ),
)

lines_by_pattern_halted : Halted (erase (in_par ended ended))
lines_by_pattern_halted = (tt, tt)

-- four calls of `Flip()` with a line of three answers: the fourth has the last one again
abbrev answers_in_turn_world : Context
answers_in_turn_world = world [] (scripted (record { patterns = []; answers = ((After (Gives (Number (pos 1))) 0) ∷ (After Halt 0) ∷ (After (Gives (Number (pos 3))) 2) ∷ []) } ∷ []) ∷ []) true

answers_in_turn : Journal answers_in_turn_world (begin (par (par (par (site 7 []) (site 7 [])) (site 7 [])) (site 7 []))) (Fork 1 2 3 ∷ Fork 2 4 5 ∷ Fork 4 6 7 ∷ Call 3 1 7 [] ∷ Call 7 2 7 [] ∷ Return 1 8 (Number (pos 1)) ∷ Call 6 3 7 [] ∷ Publish 8 (Number (pos 1)) ∷ ReturnHalt 2 ∷ Call 5 4 7 [] ∷ Tick 2 ∷ Return 3 9 (Number (pos 3)) ∷ Return 4 10 (Number (pos 3)) ∷ Publish 10 (Number (pos 3)) ∷ Publish 9 (Number (pos 3)) ∷ []) (record { marked = (in_par (in_par (in_par ended ended) ended) ended); mark = 11; now = 2; calls = (record { number = 4; site = 7; args = []; nth = 4; at = 0 } ∷ record { number = 3; site = 7; args = []; nth = 3; at = 0 } ∷ record { number = 2; site = 7; args = []; nth = 2; at = 0 } ∷ record { number = 1; site = 7; args = []; nth = 1; at = 0 } ∷ []); cells = []; to_cancel = [] })
answers_in_turn = (
  record { marked = (in_par (token 2 (par (par (site 7 []) (site 7 [])) (site 7 []))) (token 3 (site 7 []))); mark = 4; now = 0; calls = []; cells = []; to_cancel = [] },
  (inr refl, ((par (par (site 7 []) (site 7 [])) (site 7 [])), (site 7 []), refl, refl, record { inside = []; part = here; same = refl })),
  (
    record { marked = (in_par (in_par (token 4 (par (site 7 []) (site 7 []))) (token 5 (site 7 []))) (token 3 (site 7 []))); mark = 6; now = 0; calls = []; cells = []; to_cancel = [] },
    (inr refl, ((par (site 7 []) (site 7 [])), (site 7 []), refl, refl, record { inside = []; part = (in_left here); same = refl })),
    (
      record { marked = (in_par (in_par (in_par (token 6 (site 7 [])) (token 7 (site 7 []))) (token 5 (site 7 []))) (token 3 (site 7 []))); mark = 8; now = 0; calls = []; cells = []; to_cancel = [] },
      (inr refl, ((site 7 []), (site 7 []), refl, refl, record { inside = []; part = (in_left (in_left here)); same = refl })),
      (
        record { marked = (in_par (in_par (in_par (token 6 (site 7 [])) (token 7 (site 7 []))) (token 5 (site 7 []))) (in_call 1)); mark = 8; now = 0; calls = (record { number = 1; site = 7; args = []; nth = 1; at = 0 } ∷ []); cells = []; to_cancel = [] },
        (inr refl, ([], [], refl, refl, (in_right here), record { to_cancel = refl; same = refl })),
        (
          record { marked = (in_par (in_par (in_par (token 6 (site 7 [])) (in_call 2)) (token 5 (site 7 []))) (in_call 1)); mark = 8; now = 0; calls = (record { number = 2; site = 7; args = []; nth = 2; at = 0 } ∷ record { number = 1; site = 7; args = []; nth = 1; at = 0 } ∷ []); cells = []; to_cancel = [] },
          (inr refl, ([], [], refl, refl, (in_left (in_left (in_right here))), record { to_cancel = refl; same = refl })),
          (
            record { marked = (in_par (in_par (in_par (token 6 (site 7 [])) (in_call 2)) (token 5 (site 7 []))) (token 8 (param (Is (Number (pos 1)))))); mark = 9; now = 0; calls = (record { number = 2; site = 7; args = []; nth = 2; at = 0 } ∷ record { number = 1; site = 7; args = []; nth = 1; at = 0 } ∷ []); cells = []; to_cancel = [] },
            (inr refl, ([], refl, record { by = record { number = 1; site = 7; args = []; nth = 1; at = 0 }; is_made = inr (inl refl); is_k = refl; delay = 0; says = refl; sum = refl; fits = omega arith }, (in_right here), record { to_cancel = refl; same = refl })),
            (
              record { marked = (in_par (in_par (in_par (in_call 3) (in_call 2)) (token 5 (site 7 []))) (token 8 (param (Is (Number (pos 1)))))); mark = 9; now = 0; calls = (record { number = 3; site = 7; args = []; nth = 3; at = 0 } ∷ record { number = 2; site = 7; args = []; nth = 2; at = 0 } ∷ record { number = 1; site = 7; args = []; nth = 1; at = 0 } ∷ []); cells = []; to_cancel = [] },
              (inr refl, ([], [], refl, refl, (in_left (in_left (in_left here))), record { to_cancel = refl; same = refl })),
              (
                record { marked = (in_par (in_par (in_par (in_call 3) (in_call 2)) (token 5 (site 7 []))) ended); mark = 9; now = 0; calls = (record { number = 3; site = 7; args = []; nth = 3; at = 0 } ∷ record { number = 2; site = 7; args = []; nth = 2; at = 0 } ∷ record { number = 1; site = 7; args = []; nth = 1; at = 0 } ∷ []); cells = []; to_cancel = [] },
                (inr refl, ((on_right emits), record { to_cancel = refl; same = refl })),
                (
                  record { marked = (in_par (in_par (in_par (in_call 3) ended) (token 5 (site 7 []))) ended); mark = 9; now = 0; calls = (record { number = 3; site = 7; args = []; nth = 3; at = 0 } ∷ record { number = 2; site = 7; args = []; nth = 2; at = 0 } ∷ record { number = 1; site = 7; args = []; nth = 1; at = 0 } ∷ []); cells = []; to_cancel = [] },
                  (inr refl, ([], record { by = record { number = 2; site = 7; args = []; nth = 2; at = 0 }; is_made = inr (inl refl); is_k = refl; delay = 0; says = refl; sum = refl; fits = omega arith }, (in_left (in_left (in_right here))), record { to_cancel = refl; same = refl })),
                  (
                    record { marked = (in_par (in_par (in_par (in_call 3) ended) (in_call 4)) ended); mark = 9; now = 0; calls = (record { number = 4; site = 7; args = []; nth = 4; at = 0 } ∷ record { number = 3; site = 7; args = []; nth = 3; at = 0 } ∷ record { number = 2; site = 7; args = []; nth = 2; at = 0 } ∷ record { number = 1; site = 7; args = []; nth = 1; at = 0 } ∷ []); cells = []; to_cancel = [] },
                    (inr refl, ([], [], refl, refl, (in_left (in_right here)), record { to_cancel = refl; same = refl })),
                    (
                      record { marked = (in_par (in_par (in_par (in_call 3) ended) (in_call 4)) ended); mark = 9; now = 2; calls = (record { number = 4; site = 7; args = []; nth = 4; at = 0 } ∷ record { number = 3; site = 7; args = []; nth = 3; at = 0 } ∷ record { number = 2; site = 7; args = []; nth = 2; at = 0 } ∷ record { number = 1; site = 7; args = []; nth = 1; at = 0 } ∷ []); cells = []; to_cancel = [] },
                      (inr refl, (record { idle = idle_by_test answers_in_turn_world (moment (record { marked = (in_par (in_par (in_par (in_call 3) ended) (in_call 4)) ended); mark = 9; now = 0; calls = (record { number = 4; site = 7; args = []; nth = 4; at = 0 } ∷ record { number = 3; site = 7; args = []; nth = 3; at = 0 } ∷ record { number = 2; site = 7; args = []; nth = 2; at = 0 } ∷ record { number = 1; site = 7; args = []; nth = 1; at = 0 } ∷ []); cells = []; to_cancel = [] })) refl (λ k b t i due. late 0 answers_in_turn_world.sites (3 ∷ 4 ∷ []) (record { number = 4; site = 7; args = []; nth = 4; at = 0 } ∷ record { number = 3; site = 7; args = []; nth = 3; at = 0 } ∷ record { number = 2; site = 7; args = []; nth = 2; at = 0 } ∷ record { number = 1; site = 7; args = []; nth = 1; at = 0 } ∷ []) k b t refl i due); later = omega arith; reached = (3, (Gives (Number (pos 3))), inl refl, record { by = record { number = 3; site = 7; args = []; nth = 3; at = 0 }; is_made = inr (inl refl); is_k = refl; delay = 2; says = refl; sum = refl; fits = omega arith }); least = λ k a u i due. omega (arith, late 1 answers_in_turn_world.sites (3 ∷ 4 ∷ []) (record { number = 4; site = 7; args = []; nth = 4; at = 0 } ∷ record { number = 3; site = 7; args = []; nth = 3; at = 0 } ∷ record { number = 2; site = 7; args = []; nth = 2; at = 0 } ∷ record { number = 1; site = 7; args = []; nth = 1; at = 0 } ∷ []) k a u refl i due) }, refl)),
                      (
                        record { marked = (in_par (in_par (in_par (token 9 (param (Is (Number (pos 3))))) ended) (in_call 4)) ended); mark = 10; now = 2; calls = (record { number = 4; site = 7; args = []; nth = 4; at = 0 } ∷ record { number = 3; site = 7; args = []; nth = 3; at = 0 } ∷ record { number = 2; site = 7; args = []; nth = 2; at = 0 } ∷ record { number = 1; site = 7; args = []; nth = 1; at = 0 } ∷ []); cells = []; to_cancel = [] },
                        (inr refl, ([], refl, record { by = record { number = 3; site = 7; args = []; nth = 3; at = 0 }; is_made = inr (inl refl); is_k = refl; delay = 2; says = refl; sum = refl; fits = omega arith }, (in_left (in_left (in_left here))), record { to_cancel = refl; same = refl })),
                        (
                          record { marked = (in_par (in_par (in_par (token 9 (param (Is (Number (pos 3))))) ended) (token 10 (param (Is (Number (pos 3)))))) ended); mark = 11; now = 2; calls = (record { number = 4; site = 7; args = []; nth = 4; at = 0 } ∷ record { number = 3; site = 7; args = []; nth = 3; at = 0 } ∷ record { number = 2; site = 7; args = []; nth = 2; at = 0 } ∷ record { number = 1; site = 7; args = []; nth = 1; at = 0 } ∷ []); cells = []; to_cancel = [] },
                          (inr refl, ([], refl, record { by = record { number = 4; site = 7; args = []; nth = 4; at = 0 }; is_made = inl refl; is_k = refl; delay = 2; says = refl; sum = refl; fits = omega arith }, (in_left (in_right here)), record { to_cancel = refl; same = refl })),
                          (
                            record { marked = (in_par (in_par (in_par (token 9 (param (Is (Number (pos 3))))) ended) ended) ended); mark = 11; now = 2; calls = (record { number = 4; site = 7; args = []; nth = 4; at = 0 } ∷ record { number = 3; site = 7; args = []; nth = 3; at = 0 } ∷ record { number = 2; site = 7; args = []; nth = 2; at = 0 } ∷ record { number = 1; site = 7; args = []; nth = 1; at = 0 } ∷ []); cells = []; to_cancel = [] },
                            (inr refl, ((on_left (on_right emits)), record { to_cancel = refl; same = refl })),
                            (
                              record { marked = (in_par (in_par (in_par ended ended) ended) ended); mark = 11; now = 2; calls = (record { number = 4; site = 7; args = []; nth = 4; at = 0 } ∷ record { number = 3; site = 7; args = []; nth = 3; at = 0 } ∷ record { number = 2; site = 7; args = []; nth = 2; at = 0 } ∷ record { number = 1; site = 7; args = []; nth = 1; at = 0 } ∷ []); cells = []; to_cancel = [] },
                              (inr refl, ((on_left (on_left (on_left emits))), record { to_cancel = refl; same = refl })),
                              refl,
                            ),
                          ),
                        ),
                      ),
                    ),
                  ),
                ),
              ),
            ),
          ),
        ),
      ),
    ),
  ),
)

answers_in_turn_halted : Halted (erase (in_par (in_par (in_par ended ended) ended) ended))
answers_in_turn_halted = (((tt, tt), tt), tt)

-- `((Try() ; Try()) ; Try()) ; 0` with a line of two halts and 5
abbrev third_try_world : Context
third_try_world = world [] (scripted (record { patterns = []; answers = ((After Halt 0) ∷ (After Halt 0) ∷ (After (Gives (Number (pos 5))) 0) ∷ []) } ∷ []) ∷ []) true

third_try : Journal third_try_world (begin (other (other (other (site 7 []) (site 7 [])) (site 7 [])) (param (Is (Number (pos 0)))))) (Other 1 2 ∷ Other 2 3 ∷ Other 3 4 ∷ Call 4 1 7 [] ∷ ReturnHalt 1 ∷ Right 3 5 ∷ Call 5 2 7 [] ∷ ReturnHalt 2 ∷ Right 2 6 ∷ Call 6 3 7 [] ∷ Return 3 7 (Number (pos 5)) ∷ Publish 7 (Number (pos 5)) ∷ []) (record { marked = ended; mark = 8; now = 0; calls = (record { number = 3; site = 7; args = []; nth = 3; at = 0 } ∷ record { number = 2; site = 7; args = []; nth = 2; at = 0 } ∷ record { number = 1; site = 7; args = []; nth = 1; at = 0 } ∷ []); cells = []; to_cancel = [] })
third_try = (
  record { marked = (in_other 1 (token 2 (other (other (site 7 []) (site 7 [])) (site 7 []))) (param (Is (Number (pos 0))))); mark = 3; now = 0; calls = []; cells = []; to_cancel = [] },
  (inr refl, ((other (other (site 7 []) (site 7 [])) (site 7 [])), (param (Is (Number (pos 0)))), refl, record { inside = []; part = here; same = refl })),
  (
    record { marked = (in_other 1 (in_other 2 (token 3 (other (site 7 []) (site 7 []))) (site 7 [])) (param (Is (Number (pos 0))))); mark = 4; now = 0; calls = []; cells = []; to_cancel = [] },
    (inr refl, ((other (site 7 []) (site 7 [])), (site 7 []), refl, record { inside = []; part = (in_entered here); same = refl })),
    (
      record { marked = (in_other 1 (in_other 2 (in_other 3 (token 4 (site 7 [])) (site 7 [])) (site 7 [])) (param (Is (Number (pos 0))))); mark = 5; now = 0; calls = []; cells = []; to_cancel = [] },
      (inr refl, ((site 7 []), (site 7 []), refl, record { inside = []; part = (in_entered (in_entered here)); same = refl })),
      (
        record { marked = (in_other 1 (in_other 2 (in_other 3 (in_call 1) (site 7 [])) (site 7 [])) (param (Is (Number (pos 0))))); mark = 5; now = 0; calls = (record { number = 1; site = 7; args = []; nth = 1; at = 0 } ∷ []); cells = []; to_cancel = [] },
        (inr refl, ([], [], refl, refl, (in_entered (in_entered (in_entered here))), record { to_cancel = refl; same = refl })),
        (
          record { marked = (in_other 1 (in_other 2 (in_other 3 ended (site 7 [])) (site 7 [])) (param (Is (Number (pos 0))))); mark = 5; now = 0; calls = (record { number = 1; site = 7; args = []; nth = 1; at = 0 } ∷ []); cells = []; to_cancel = [] },
          (inr refl, ([], record { by = record { number = 1; site = 7; args = []; nth = 1; at = 0 }; is_made = inl refl; is_k = refl; delay = 0; says = refl; sum = refl; fits = omega arith }, (in_entered (in_entered (in_entered here))), record { to_cancel = refl; same = refl })),
          (
            record { marked = (in_other 1 (in_other 2 (token 5 (site 7 [])) (site 7 [])) (param (Is (Number (pos 0))))); mark = 6; now = 0; calls = (record { number = 1; site = 7; args = []; nth = 1; at = 0 } ∷ []); cells = []; to_cancel = [] },
            (inr refl, (ended, (site 7 []), [], refl, tt, (in_entered (in_entered here)), record { to_cancel = refl; same = refl })),
            (
              record { marked = (in_other 1 (in_other 2 (in_call 2) (site 7 [])) (param (Is (Number (pos 0))))); mark = 6; now = 0; calls = (record { number = 2; site = 7; args = []; nth = 2; at = 0 } ∷ record { number = 1; site = 7; args = []; nth = 1; at = 0 } ∷ []); cells = []; to_cancel = [] },
              (inr refl, ([], [], refl, refl, (in_entered (in_entered here)), record { to_cancel = refl; same = refl })),
              (
                record { marked = (in_other 1 (in_other 2 ended (site 7 [])) (param (Is (Number (pos 0))))); mark = 6; now = 0; calls = (record { number = 2; site = 7; args = []; nth = 2; at = 0 } ∷ record { number = 1; site = 7; args = []; nth = 1; at = 0 } ∷ []); cells = []; to_cancel = [] },
                (inr refl, ([], record { by = record { number = 2; site = 7; args = []; nth = 2; at = 0 }; is_made = inl refl; is_k = refl; delay = 0; says = refl; sum = refl; fits = omega arith }, (in_entered (in_entered here)), record { to_cancel = refl; same = refl })),
                (
                  record { marked = (in_other 1 (token 6 (site 7 [])) (param (Is (Number (pos 0))))); mark = 7; now = 0; calls = (record { number = 2; site = 7; args = []; nth = 2; at = 0 } ∷ record { number = 1; site = 7; args = []; nth = 1; at = 0 } ∷ []); cells = []; to_cancel = [] },
                  (inr refl, (ended, (site 7 []), [], refl, tt, (in_entered here), record { to_cancel = refl; same = refl })),
                  (
                    record { marked = (in_other 1 (in_call 3) (param (Is (Number (pos 0))))); mark = 7; now = 0; calls = (record { number = 3; site = 7; args = []; nth = 3; at = 0 } ∷ record { number = 2; site = 7; args = []; nth = 2; at = 0 } ∷ record { number = 1; site = 7; args = []; nth = 1; at = 0 } ∷ []); cells = []; to_cancel = [] },
                    (inr refl, ([], [], refl, refl, (in_entered here), record { to_cancel = refl; same = refl })),
                    (
                      record { marked = (in_other 1 (token 7 (param (Is (Number (pos 5))))) (param (Is (Number (pos 0))))); mark = 8; now = 0; calls = (record { number = 3; site = 7; args = []; nth = 3; at = 0 } ∷ record { number = 2; site = 7; args = []; nth = 2; at = 0 } ∷ record { number = 1; site = 7; args = []; nth = 1; at = 0 } ∷ []); cells = []; to_cancel = [] },
                      (inr refl, ([], refl, record { by = record { number = 3; site = 7; args = []; nth = 3; at = 0 }; is_made = inl refl; is_k = refl; delay = 0; says = refl; sum = refl; fits = omega arith }, (in_entered here), record { to_cancel = refl; same = refl })),
                      (
                        record { marked = ended; mark = 8; now = 0; calls = (record { number = 3; site = 7; args = []; nth = 3; at = 0 } ∷ record { number = 2; site = 7; args = []; nth = 2; at = 0 } ∷ record { number = 1; site = 7; args = []; nth = 1; at = 0 } ∷ []); cells = []; to_cancel = [] },
                        (inr refl, ((passes emits), record { to_cancel = refl; same = refl })),
                        refl,
                      ),
                    ),
                  ),
                ),
              ),
            ),
          ),
        ),
      ),
    ),
  ),
)

third_try_halted : Halted (erase ended)
third_try_halted = tt

-- `Flip(1) | Flip(2)`: the turns are counted for each list of arguments
abbrev turns_by_arguments_world : Context
turns_by_arguments_world = world [] (scripted (record { patterns = (None ∷ []); answers = ((After (Gives (Number (pos 1))) 0) ∷ (After (Gives (Number (pos 2))) 0) ∷ []) } ∷ []) ∷ []) true

turns_by_arguments : Journal turns_by_arguments_world (begin (par (site 7 ((Is (Number (pos 1))) ∷ [])) (site 7 ((Is (Number (pos 2))) ∷ [])))) (Fork 1 2 3 ∷ Call 2 1 7 ((Number (pos 1)) ∷ []) ∷ Return 1 4 (Number (pos 1)) ∷ Call 3 2 7 ((Number (pos 2)) ∷ []) ∷ Publish 4 (Number (pos 1)) ∷ Return 2 5 (Number (pos 1)) ∷ Publish 5 (Number (pos 1)) ∷ []) (record { marked = (in_par ended ended); mark = 6; now = 0; calls = (record { number = 2; site = 7; args = ((Number (pos 2)) ∷ []); nth = 1; at = 0 } ∷ record { number = 1; site = 7; args = ((Number (pos 1)) ∷ []); nth = 1; at = 0 } ∷ []); cells = []; to_cancel = [] })
turns_by_arguments = (
  record { marked = (in_par (token 2 (site 7 ((Is (Number (pos 1))) ∷ []))) (token 3 (site 7 ((Is (Number (pos 2))) ∷ [])))); mark = 4; now = 0; calls = []; cells = []; to_cancel = [] },
  (inr refl, ((site 7 ((Is (Number (pos 1))) ∷ [])), (site 7 ((Is (Number (pos 2))) ∷ [])), refl, refl, record { inside = []; part = here; same = refl })),
  (
    record { marked = (in_par (in_call 1) (token 3 (site 7 ((Is (Number (pos 2))) ∷ [])))); mark = 4; now = 0; calls = (record { number = 1; site = 7; args = ((Number (pos 1)) ∷ []); nth = 1; at = 0 } ∷ []); cells = []; to_cancel = [] },
    (inr refl, (((Is (Number (pos 1))) ∷ []), [], refl, refl, (in_left here), record { to_cancel = refl; same = refl })),
    (
      record { marked = (in_par (token 4 (param (Is (Number (pos 1))))) (token 3 (site 7 ((Is (Number (pos 2))) ∷ [])))); mark = 5; now = 0; calls = (record { number = 1; site = 7; args = ((Number (pos 1)) ∷ []); nth = 1; at = 0 } ∷ []); cells = []; to_cancel = [] },
      (inr refl, ([], refl, record { by = record { number = 1; site = 7; args = ((Number (pos 1)) ∷ []); nth = 1; at = 0 }; is_made = inl refl; is_k = refl; delay = 0; says = refl; sum = refl; fits = omega arith }, (in_left here), record { to_cancel = refl; same = refl })),
      (
        record { marked = (in_par (token 4 (param (Is (Number (pos 1))))) (in_call 2)); mark = 5; now = 0; calls = (record { number = 2; site = 7; args = ((Number (pos 2)) ∷ []); nth = 1; at = 0 } ∷ record { number = 1; site = 7; args = ((Number (pos 1)) ∷ []); nth = 1; at = 0 } ∷ []); cells = []; to_cancel = [] },
        (inr refl, (((Is (Number (pos 2))) ∷ []), [], refl, refl, (in_right here), record { to_cancel = refl; same = refl })),
        (
          record { marked = (in_par ended (in_call 2)); mark = 5; now = 0; calls = (record { number = 2; site = 7; args = ((Number (pos 2)) ∷ []); nth = 1; at = 0 } ∷ record { number = 1; site = 7; args = ((Number (pos 1)) ∷ []); nth = 1; at = 0 } ∷ []); cells = []; to_cancel = [] },
          (inr refl, ((on_left emits), record { to_cancel = refl; same = refl })),
          (
            record { marked = (in_par ended (token 5 (param (Is (Number (pos 1)))))); mark = 6; now = 0; calls = (record { number = 2; site = 7; args = ((Number (pos 2)) ∷ []); nth = 1; at = 0 } ∷ record { number = 1; site = 7; args = ((Number (pos 1)) ∷ []); nth = 1; at = 0 } ∷ []); cells = []; to_cancel = [] },
            (inr refl, ([], refl, record { by = record { number = 2; site = 7; args = ((Number (pos 2)) ∷ []); nth = 1; at = 0 }; is_made = inl refl; is_k = refl; delay = 0; says = refl; sum = refl; fits = omega arith }, (in_right here), record { to_cancel = refl; same = refl })),
            (
              record { marked = (in_par ended ended); mark = 6; now = 0; calls = (record { number = 2; site = 7; args = ((Number (pos 2)) ∷ []); nth = 1; at = 0 } ∷ record { number = 1; site = 7; args = ((Number (pos 1)) ∷ []); nth = 1; at = 0 } ∷ []); cells = []; to_cancel = [] },
              (inr refl, ((on_right emits), record { to_cancel = refl; same = refl })),
              refl,
            ),
          ),
        ),
      ),
    ),
  ),
)

turns_by_arguments_halted : Halted (erase (in_par ended ended))
turns_by_arguments_halted = (tt, tt)

-- `Late() | Late()` with `never` for the first call: it pends for ever
abbrev never_and_then_world : Context
never_and_then_world = world [] (scripted (record { patterns = []; answers = (Never ∷ (After (Gives (Number (pos 1))) 0) ∷ []) } ∷ []) ∷ []) true

never_and_then : Journal never_and_then_world (begin (par (site 7 []) (site 7 []))) (Fork 1 2 3 ∷ Call 2 1 7 [] ∷ Call 3 2 7 [] ∷ Return 2 4 (Number (pos 1)) ∷ Publish 4 (Number (pos 1)) ∷ []) (record { marked = (in_par (in_call 1) ended); mark = 5; now = 0; calls = (record { number = 2; site = 7; args = []; nth = 2; at = 0 } ∷ record { number = 1; site = 7; args = []; nth = 1; at = 0 } ∷ []); cells = []; to_cancel = [] })
never_and_then = (
  record { marked = (in_par (token 2 (site 7 [])) (token 3 (site 7 []))); mark = 4; now = 0; calls = []; cells = []; to_cancel = [] },
  (inr refl, ((site 7 []), (site 7 []), refl, refl, record { inside = []; part = here; same = refl })),
  (
    record { marked = (in_par (in_call 1) (token 3 (site 7 []))); mark = 4; now = 0; calls = (record { number = 1; site = 7; args = []; nth = 1; at = 0 } ∷ []); cells = []; to_cancel = [] },
    (inr refl, ([], [], refl, refl, (in_left here), record { to_cancel = refl; same = refl })),
    (
      record { marked = (in_par (in_call 1) (in_call 2)); mark = 4; now = 0; calls = (record { number = 2; site = 7; args = []; nth = 2; at = 0 } ∷ record { number = 1; site = 7; args = []; nth = 1; at = 0 } ∷ []); cells = []; to_cancel = [] },
      (inr refl, ([], [], refl, refl, (in_right here), record { to_cancel = refl; same = refl })),
      (
        record { marked = (in_par (in_call 1) (token 4 (param (Is (Number (pos 1)))))); mark = 5; now = 0; calls = (record { number = 2; site = 7; args = []; nth = 2; at = 0 } ∷ record { number = 1; site = 7; args = []; nth = 1; at = 0 } ∷ []); cells = []; to_cancel = [] },
        (inr refl, ([], refl, record { by = record { number = 2; site = 7; args = []; nth = 2; at = 0 }; is_made = inl refl; is_k = refl; delay = 0; says = refl; sum = refl; fits = omega arith }, (in_right here), record { to_cancel = refl; same = refl })),
        (
          record { marked = (in_par (in_call 1) ended); mark = 5; now = 0; calls = (record { number = 2; site = 7; args = []; nth = 2; at = 0 } ∷ record { number = 1; site = 7; args = []; nth = 1; at = 0 } ∷ []); cells = []; to_cancel = [] },
          (inr refl, ((on_right emits), record { to_cancel = refl; same = refl })),
          refl,
        ),
      ),
    ),
  ),
)
