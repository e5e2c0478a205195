use Rattle.std.proofs.Common.{◌∙◌, None, Bool, true, false, List, ap, sym, subst}
use Rattle.orc_rules.specs.Idle.{can_move}
use Rattle.orc_rules.specs.Marked.{erase}
use Rattle.orc_rules.specs.Term.{Definition}
use Rattle.orc_rules.specs.Nodes.{code, definitions}
use Rattle.orc_term.specs.declared.arena.Node.{Node}
use Rattle.orc_term.specs.declared.arena.Kind.{Kind}
use Rattle.orc_env.specs.declared.names.Bound.{Bound}
use Rattle.orc_env.specs.declared.names.Scope.{Scope}
use Rattle.orc_checker.specs.Checker.{State}
use Rattle.orc_term.specs.Halting.{AreHalts}
use Rattle.orc_env.specs.Names.{AreOrdered}
use Rattle.orc_term.specs.Sides.{HasEnded}
use Rattle.orc_checker.specs.Stillness.{token_moves, AreStill, DoMove, DoStir}
use Rattle.orc_checker.proofs.Moving.{tokens_stir, sides_stir}
use Rattle.orc_checker.proofs.Ticking.{movement}
use Rattle.orc_checker.proofs.marked.Marked.can_move.Goals as goal

pub returns-in-Some-clause-moves : goal.returns-in-Some-clause-moves
returns-in-Some-clause-moves c x p own sp =
    let l = c.args.program.now in
    let n = c.self.inside in
    let ends = subst (HasEnded n.nodes.items n.flags.items) c.in-Some.is c.ended_side.ensures.ends in
    let m = subst (λ (z : State). DoStir (definitions l) (code l) z.cells z.scopes z.flags z.nodes true) c.self.view_is (sides_stir (definitions l) (code l) n.cells.items n.scopes.items n.flags.items n.nodes.items _ ends) in
    movement x (code l) c.args.self.now p (definitions l) true sp m ∙ ap (λ z. can_move z (erase p.marked)) (sym own)

-- no side has halted, and a token can move or none can
stirs : (defs : List Definition) (code : _) (cells : List Bound) (scopes : List Scope) (flags : List Bool) (nodes : List Node) (b : Bool) → HasEnded nodes flags None → DoMove (token_moves defs code cells scopes) nodes b → DoStir defs code cells scopes flags nodes b
stirs defs code cells scopes flags nodes true none m = tokens_stir defs code cells scopes flags nodes m
stirs defs code cells scopes flags nodes false none m = (m, none)

pub returns-clause-moves : goal.returns-clause-moves
returns-clause-moves c x p own sp =
    let l = c.args.program.now in
    let b = c.can_some_move.result in
    let n = c.self.inside in
    let none = subst (HasEnded n.nodes.items n.flags.items) c.in_default.is c.ended_side.ensures.ends in
    let asks : List Bound → List Scope → List Node → List Kind → Type 0 = λ cells scopes nodes asked. AreHalts (code l) n.halts → AreOrdered scopes → AreStill (definitions l) (code l) cells scopes asked → DoMove (token_moves (definitions l) (code l) cells scopes) nodes b in
    let its : asks n.cells.items n.scopes.items n.nodes.items n.nodes.asked = subst (λ z. asks n.cells.items n.scopes.items z n.nodes.asked) c.tidy.ensures.items (subst (asks n.cells.items n.scopes.items c.tidy.new.self.items) c.tidy.ensures.asked
    (subst (λ ss. asks n.cells.items ss c.tidy.new.self.items c.tidy.new.self.asked) c.deref.ensures.value
    (subst (λ cs. asks cs c.deref.result.now c.tidy.new.self.items c.tidy.new.self.asked) c.deref-2.ensures.value c.can_some_move.ensures.moves))) in
    let m = subst (λ (z : State). AreHalts (code l) z.halts → AreOrdered z.scopes → AreStill (definitions l) (code l) z.cells z.scopes z.asked → DoMove (token_moves (definitions l) (code l) z.cells z.scopes) z.nodes b) c.self.view_is its in
    let ends = subst (λ (z : State). HasEnded z.nodes z.flags None) c.self.view_is none in
    movement x (code l) c.args.self.now p (definitions l) b sp (stirs (definitions l) (code l) c.args.self.now.cells c.args.self.now.scopes c.args.self.now.flags c.args.self.now.nodes b ends (m sp.drawn.flags.are_halts sp.scopes (subst (λ z. AreStill z (code l) c.args.self.now.cells c.args.self.now.scopes c.args.self.now.asked) own sp.still))) ∙ ap (λ z. can_move z (erase p.marked)) (sym own)
