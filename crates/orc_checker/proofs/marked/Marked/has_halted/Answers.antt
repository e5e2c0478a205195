use Rattle.std.proofs.Common.{◌∙◌, ap, sym}
use Rattle.orc_rules.specs.Marked.{erase}
use Rattle.orc_rules.specs.Idle.{has_halted}
use Rattle.orc_rules.specs.Nodes.{code}
use Rattle.orc_env.specs.Scopes.{env_of}
use Rattle.orc_checker.specs.Checker.{State}
use Rattle.orc_term.specs.Settling.{flag}
use Rattle.orc_term.proofs.Settling.{flag_says}
use Rattle.orc_checker.proofs.marked.Marked.has_halted.Goals as goal

pub returns : goal.returns
returns c =
    λ x l p sp.
    let s = c.args.self.now in
    let d = sp.drawn in
    c.flag_at.ensures ∙ ap (λ (z : State). flag z.flags 0) c.self.view_is ∙ ap (flag s.flags) (sym d.root)
    ∙ flag_says (code l) (env_of s.cells s.scopes) s.halts d.flags.are_halts s.flags d.tree d.flags.each ∙ ap (λ m. has_halted (erase m)) (sym d.marked)
