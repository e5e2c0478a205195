use Rattle.std.proofs.Common.{◌≡◌, [], ◌∙◌, rules}
use Rattle.std.proofs.lemmas.List.{nil_from_length}
use Rattle.orc_rules.specs.Trace.{published}
use Rattle.orc_log.proofs.Logs.{silent-more, silent-where-none}
use Rattle.orc_log.proofs.log.Log.is_silent.Goals as goal

pub returns-then-is_empty : goal.returns-then-is_empty
returns-then-is_empty g c = λ yes.
    let b = c.self.inside in
    let none : published b.past.items ≡ [] = c.self.invariant.1.publishes ∙ nil_from_length b.published.items (search (rules, c.is_empty.ensures, c.if-is_empty.true)) in
    rw (← c.self.view_is) (silent-more b.past.items b.held.entries (silent-where-none b.past.items none) (c.is_silent.ensures yes))
