use Rattle.orc_run.proofs.Sound.{sound_anyway}
use Rattle.orc_run.proofs.commands.do_job.Goals as goal

pub returns-in-Run-clause-done : goal.returns-in-Run-clause-done
returns-in-Run-clause-done g c = rw c.in-Run.is c.run_file.ensures.done

pub returns-in-Test-clause-done : goal.returns-in-Test-clause-done
returns-in-Test-clause-done g c = rw c.in-Test.is c.test_file.ensures.done

pub returns-in-Claims-clause-done : goal.returns-in-Claims-clause-done
returns-in-Claims-clause-done g c = rw c.in-Claims.is c.claims_file.ensures.done

pub returns-in-DrawRun-clause-done : goal.returns-in-DrawRun-clause-done
returns-in-DrawRun-clause-done g c = rw c.in-DrawRun.is c.draw_run_of.ensures.done

pub returns-in-Show-clause-done : goal.returns-in-Show-clause-done
returns-in-Show-clause-done g c = rw c.in-Show.is c.show_file.ensures.done

pub returns-in-Search-clause-done : goal.returns-in-Search-clause-done
returns-in-Search-clause-done g c = rw c.in-Search.is c.search_file.ensures.done

pub returns-in-Run-clause-cause : goal.returns-in-Run-clause-cause
returns-in-Run-clause-cause g c = rw c.in-Run.is c.run_file.ensures.cause

pub returns-in-Test-clause-cause : goal.returns-in-Test-clause-cause
returns-in-Test-clause-cause g c = rw c.in-Test.is c.test_file.ensures.cause

pub returns-in-Claims-clause-cause : goal.returns-in-Claims-clause-cause
returns-in-Claims-clause-cause g c = rw c.in-Claims.is c.claims_file.ensures.cause

pub returns-in-DrawRun-clause-cause : goal.returns-in-DrawRun-clause-cause
returns-in-DrawRun-clause-cause g c = rw c.in-DrawRun.is c.draw_run_of.ensures.cause

pub returns-in-Show-clause-cause : goal.returns-in-Show-clause-cause
returns-in-Show-clause-cause g c = rw c.in-Show.is c.show_file.ensures.cause

pub returns-in-Search-clause-cause : goal.returns-in-Search-clause-cause
returns-in-Search-clause-cause g c = rw c.in-Search.is c.search_file.ensures.cause

pub returns-in-Run-clause-sound : goal.returns-in-Run-clause-sound
returns-in-Run-clause-sound g c = rw c.in-Run.is c.run_file.ensures.sound

pub returns-in-Test-clause-sound : goal.returns-in-Test-clause-sound
returns-in-Test-clause-sound g c = rw c.in-Test.is c.test_file.ensures.sound

pub returns-in-DrawRun-clause-sound : goal.returns-in-DrawRun-clause-sound
returns-in-DrawRun-clause-sound g c = rw c.in-DrawRun.is c.draw_run_of.ensures.sound

pub returns-in-Show-clause-sound : goal.returns-in-Show-clause-sound
returns-in-Show-clause-sound g c = rw c.in-Show.is c.show_file.ensures.sound

pub returns-in-Search-clause-sound : goal.returns-in-Search-clause-sound
returns-in-Search-clause-sound g c = rw c.in-Search.is c.search_file.ensures.sound

pub returns-in-Outcomes-clause-sound : goal.returns-in-Outcomes-clause-sound
returns-in-Outcomes-clause-sound g c = rw c.in-Outcomes.is c.survey_file.ensures.sound

pub returns-in-Check-clause-accepted : goal.returns-in-Check-clause-accepted
returns-in-Check-clause-accepted g c = rw c.in-Check.is c.check_file.ensures.accepted

pub returns-in-Check-clause-beyond : goal.returns-in-Check-clause-beyond
returns-in-Check-clause-beyond g c = rw c.in-Check.is c.check_file.ensures.beyond

pub returns-in-Run-clause-accepted : goal.returns-in-Run-clause-accepted
returns-in-Run-clause-accepted g c = rw c.in-Run.is (λ s none. absurd none)

pub returns-in-Run-clause-beyond : goal.returns-in-Run-clause-beyond
returns-in-Run-clause-beyond g c = rw c.in-Run.is (λ s none. absurd none)

pub returns-in-Outcomes-clause-accepted : goal.returns-in-Outcomes-clause-accepted
returns-in-Outcomes-clause-accepted g c = rw c.in-Outcomes.is (λ s none. absurd none)

pub returns-in-Outcomes-clause-beyond : goal.returns-in-Outcomes-clause-beyond
returns-in-Outcomes-clause-beyond g c = rw c.in-Outcomes.is (λ s none. absurd none)

pub returns-in-Search-clause-accepted : goal.returns-in-Search-clause-accepted
returns-in-Search-clause-accepted g c = rw c.in-Search.is (λ s none. absurd none)

pub returns-in-Search-clause-beyond : goal.returns-in-Search-clause-beyond
returns-in-Search-clause-beyond g c = rw c.in-Search.is (λ s none. absurd none)

pub returns-in-Show-clause-accepted : goal.returns-in-Show-clause-accepted
returns-in-Show-clause-accepted g c = rw c.in-Show.is (λ s none. absurd none)

pub returns-in-Show-clause-beyond : goal.returns-in-Show-clause-beyond
returns-in-Show-clause-beyond g c = rw c.in-Show.is (λ s none. absurd none)

pub returns-in-Claims-clause-accepted : goal.returns-in-Claims-clause-accepted
returns-in-Claims-clause-accepted g c = rw c.in-Claims.is (λ s none. absurd none)

pub returns-in-Claims-clause-beyond : goal.returns-in-Claims-clause-beyond
returns-in-Claims-clause-beyond g c = rw c.in-Claims.is (λ s none. absurd none)

pub returns-in-Draw-clause-accepted : goal.returns-in-Draw-clause-accepted
returns-in-Draw-clause-accepted g c = rw c.in-Draw.is (λ s none. absurd none)

pub returns-in-Draw-clause-beyond : goal.returns-in-Draw-clause-beyond
returns-in-Draw-clause-beyond g c = rw c.in-Draw.is (λ s none. absurd none)

pub returns-in-DrawRun-clause-accepted : goal.returns-in-DrawRun-clause-accepted
returns-in-DrawRun-clause-accepted g c = rw c.in-DrawRun.is (λ s none. absurd none)

pub returns-in-DrawRun-clause-beyond : goal.returns-in-DrawRun-clause-beyond
returns-in-DrawRun-clause-beyond g c = rw c.in-DrawRun.is (λ s none. absurd none)

pub returns-in-Print-clause-accepted : goal.returns-in-Print-clause-accepted
returns-in-Print-clause-accepted g c = rw c.in-Print.is (λ s none. absurd none)

pub returns-in-Print-clause-beyond : goal.returns-in-Print-clause-beyond
returns-in-Print-clause-beyond g c = rw c.in-Print.is (λ s none. absurd none)

pub returns-in-Test-clause-accepted : goal.returns-in-Test-clause-accepted
returns-in-Test-clause-accepted g c = rw c.in-Test.is (λ s none. absurd none)

pub returns-in-Test-clause-beyond : goal.returns-in-Test-clause-beyond
returns-in-Test-clause-beyond g c = rw c.in-Test.is (λ s none. absurd none)

pub returns-in-Check-clause-sound : goal.returns-in-Check-clause-sound
returns-in-Check-clause-sound g c = rw c.in-Check.is (sound_anyway _ _ c.check_file.ensures.sound)

pub returns-in-Claims-clause-sound : goal.returns-in-Claims-clause-sound
returns-in-Claims-clause-sound g c = rw c.in-Claims.is (sound_anyway _ _ c.claims_file.ensures.sound)

pub returns-in-Draw-clause-sound : goal.returns-in-Draw-clause-sound
returns-in-Draw-clause-sound g c = rw c.in-Draw.is (sound_anyway _ _ c.draw_file.ensures.sound)

pub returns-in-Print-clause-sound : goal.returns-in-Print-clause-sound
returns-in-Print-clause-sound g c = rw c.in-Print.is (sound_anyway _ _ c.print_file.ensures.sound)

-- ---- the journal of a run is taken

pub returns-in-Draw-clause-untaken : goal.returns-in-Draw-clause-untaken
returns-in-Draw-clause-untaken g c = rw c.in-Draw.is c.draw_file.ensures.beyond

pub returns-in-Claims-clause-untaken : goal.returns-in-Claims-clause-untaken
returns-in-Claims-clause-untaken g c = rw c.in-Claims.is c.claims_file.ensures.beyond

pub returns-in-Run-clause-untaken : goal.returns-in-Run-clause-untaken
returns-in-Run-clause-untaken g c = rw c.in-Run.is (λ s none. absurd none)

pub returns-in-Outcomes-clause-untaken : goal.returns-in-Outcomes-clause-untaken
returns-in-Outcomes-clause-untaken g c = rw c.in-Outcomes.is (λ s none. absurd none)

pub returns-in-Search-clause-untaken : goal.returns-in-Search-clause-untaken
returns-in-Search-clause-untaken g c = rw c.in-Search.is (λ s none. absurd none)

pub returns-in-Show-clause-untaken : goal.returns-in-Show-clause-untaken
returns-in-Show-clause-untaken g c = rw c.in-Show.is (λ s none. absurd none)

pub returns-in-Check-clause-untaken : goal.returns-in-Check-clause-untaken
returns-in-Check-clause-untaken g c = rw c.in-Check.is (λ s none. absurd none)

pub returns-in-DrawRun-clause-untaken : goal.returns-in-DrawRun-clause-untaken
returns-in-DrawRun-clause-untaken g c = rw c.in-DrawRun.is (λ s none. absurd none)

pub returns-in-Print-clause-untaken : goal.returns-in-Print-clause-untaken
returns-in-Print-clause-untaken g c = rw c.in-Print.is (λ s none. absurd none)

pub returns-in-Test-clause-untaken : goal.returns-in-Test-clause-untaken
returns-in-Test-clause-untaken g c = rw c.in-Test.is (λ s none. absurd none)
