-- A file that couldn't be read is a cause of each job.
use Rattle.std.proofs.Common.{ℕ, List}
use Rattle.std.specs.declared.option.Option.{Option}
use Rattle.orc_cli.specs.declared.job.RunOptions.{RunOptions}
use Rattle.orc_cli.specs.declared.job.TestOptions.{TestOptions}
use Rattle.orc_run.specs.Causes.{IsCheckUndone, IsClaimUndone, IsDrawRunUndone, IsDrawUndone, IsPrintUndone, IsRunUndone, IsShowUndone, IsTestUndone}
use Rattle.orc_run.specs.Commands.{IsUnread}
use Rattle.orc_run.specs.declared.failures.Failure.{Failure}
use Rattle.orc_run.proofs.Statuses.{unread_case}

module _ (holds : List ℕ → Option (List ℕ)) where
  pub unread_run : (file : List ℕ) (script : Option (List ℕ)) (f : Failure) → IsUnread f → IsRunUndone holds file script f
  unread_run file script f u = unread_case (IsRunUndone holds file script) (λ path why. tt) f u

  pub unread_show : (file : List ℕ) (script : Option (List ℕ)) (orders limit number : ℕ) (f : Failure) → IsUnread f → IsShowUndone holds file script orders limit number f
  unread_show file script orders limit number f u = unread_case (IsShowUndone holds file script orders limit number) (λ path why. tt) f u

  pub unread_check : (file journal : List ℕ) (script : Option (List ℕ)) (f : Failure) → IsUnread f → IsCheckUndone holds file journal script f
  unread_check file journal script f u = unread_case (IsCheckUndone holds file journal script) (λ path why. tt) f u

  pub unread_claim : (file journal : List ℕ) (script : Option (List ℕ)) (test : List ℕ) (f : Failure) → IsUnread f → IsClaimUndone holds file journal script test f
  unread_claim file journal script test f u = unread_case (IsClaimUndone holds file journal script test) (λ path why. tt) f u

  pub unread_draw : (file journal : List ℕ) (script : Option (List ℕ)) (f : Failure) → IsUnread f → IsDrawUndone holds file journal script f
  unread_draw file journal script f u = unread_case (IsDrawUndone holds file journal script) (λ path why. tt) f u

  pub unread_draw_run : (file : List ℕ) (script : Option (List ℕ)) (run : RunOptions) (f : Failure) → IsUnread f → IsDrawRunUndone holds file script run f
  unread_draw_run file script run f u = unread_case (IsDrawRunUndone holds file script run) (λ path why. tt) f u

  pub unread_print : (file : List ℕ) (f : Failure) → IsUnread f → IsPrintUndone holds file f
  unread_print file f u = unread_case (IsPrintUndone holds file) (λ path why. tt) f u

  pub unread_test : (file test : List ℕ) (script : Option (List ℕ)) (o : TestOptions) (f : Failure) → IsUnread f → IsTestUndone holds file test script o f
  unread_test file test script o f u = unread_case (IsTestUndone holds file test script o) (λ path why. tt) f u
