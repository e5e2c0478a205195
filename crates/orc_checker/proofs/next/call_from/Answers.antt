use Rattle.std.proofs.Common.{sym, ◌∙◌}
use Rattle.orc_checker.proofs.Voiding.{void_among}
use Rattle.orc_checker.proofs.next.call_from.Goals as goal

pub returns-then-has_void : goal.returns-then-has_void
returns-then-has_void c defs ordered = void_among _ (sym (c.has_void.ensures ordered) ∙ c.if-has_void.true)
