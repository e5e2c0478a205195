use Rattle.std.proofs.Common.{◌≡◌, ◌++◌, [], append-nil, drop, subst, arith}
use Rattle.std.proofs.lemmas.List.{nil_from_length}
use Rattle.orc_subrun.specs.Moved.{AreSilent}
use Rattle.orc_log.proofs.Logs.{known-first}
use Rattle.orc_log.proofs.log.Log.truncate.Goals as goal

pub invariant_of-self-then-len-self : goal.invariant_of-self-then-len-self
invariant_of-self-then-len-self g c =
    let b = c.self.inside in
    let n = c.args.len in
    let old = c.self.invariant.1 in
    let nil : b.held.entries ≡ [] = nil_from_length b.held.entries (old.none c.if-self.false) in
    let all : AreSilent (drop n (b.past.items ++ b.held.entries)) = rw (← c.self.view_is) at c.requires in
    let silent : AreSilent (drop n b.past.items) = subst (λ es. AreSilent (drop n es)) (append-nil b.past.items) (subst (λ zs. AreSilent (drop n (b.past.items ++ zs))) nil all) in
    (c.self.invariant.0, known-first _ _ _ _ _ _ _ _ old c.if-self.false n c.first_of_past-self-inside.ensures (omega (arith, c.if-len-self.true)) silent)
