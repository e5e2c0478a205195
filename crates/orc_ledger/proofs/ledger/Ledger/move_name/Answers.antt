use Rattle.std.proofs.Common.{◌≡◌, refl}
use Rattle.orc_rules.specs.declared.param.Param.TheVariants as is
use Rattle.orc_frames.specs.declared.action.Action.TheVariants.{Void, Wait}
use Rattle.orc_ledger_spec.proofs.Advancing.{stands-param, word-param, word-void, void-param, moves-by}
use Rattle.orc_ledger_spec.proofs.Claiming.{asked-by, asked-none}
use Rattle.orc_ledger.proofs.ledger.Ledger.move_name.Goals as goal

pub move_value-requires-clause-form : goal.move_value-requires-clause-form
move_value-requires-clause-form g c = let l = g.P.Run.listing in let a = c.args in stands-param l a.self.now a.token a.scope (is.Name a.name) (is.Is c.in-Some-Is.value) c.requires.at (rw c.in-Some-Is.field-0-is at c.in-Some-Is.ensures.bound)

pub move_void-requires-clause-void : goal.move_void-requires-clause-void
move_void-requires-clause-void g c = let l = g.P.Run.listing in let a = c.args in void-param l a.self.now a.token (stands-param l a.self.now a.token a.scope (is.Name a.name) is.Void c.requires.at (rw c.in-Some-Void.field-0-is at c.in-Some-Void.ensures.bound))

pub returns-in-Some-Cell-clause-done : goal.returns-in-Some-Cell-clause-done
returns-in-Some-Cell-clause-done g c =
    let l = g.P.Run.listing in
    let a = c.args in
    moves-by l a.self.now a.token a.slot _ _ _ (Wait c.in-Some-Cell.field-0-0) (word-param l a.self.now a.token (is.Cell c.in-Some-Cell.field-0-0) (stands-param l a.self.now a.token a.scope (is.Name a.name) (is.Cell c.in-Some-Cell.field-0-0) c.requires.at (rw c.in-Some-Cell.field-0-is at c.in-Some-Cell.ensures.bound))) (refl)

pub returns-in-None-clause-done : goal.returns-in-None-clause-done
returns-in-None-clause-done g c =
    let l = g.P.Run.listing in
    let a = c.args in
    moves-by l a.self.now a.token a.slot _ _ _ (Wait 0) (word-param l a.self.now a.token (is.Name c.in-None.ensures.free.0) (stands-param l a.self.now a.token a.scope (is.Name a.name) (is.Name c.in-None.ensures.free.0) c.requires.at c.in-None.ensures.free.1)) (refl)

pub returns-in-Some-Void-clause-asked : goal.returns-in-Some-Void-clause-asked
returns-in-Some-Void-clause-asked g c =
    let l = g.P.Run.listing in
    let a = c.args in
    asked-none l a.self.now a.token (a.claim.now ≡ a.claim.now) (g.C.Claim.got a.claim.now a.claim.now) c.move_void.result Void (word-void l a.self.now a.token (void-param l a.self.now a.token (stands-param l a.self.now a.token a.scope (is.Name a.name) is.Void c.requires.at (rw c.in-Some-Void.field-0-is at c.in-Some-Void.ensures.bound)))) refl

pub returns-in-Some-Cell-clause-asked : goal.returns-in-Some-Cell-clause-asked
returns-in-Some-Cell-clause-asked g c =
    let l = g.P.Run.listing in
    let a = c.args in
    asked-by l a.self.now a.token (a.claim.now ≡ a.claim.now) (g.C.Claim.got a.claim.now a.claim.now) (Wait c.in-Some-Cell.field-0-0) (word-param l a.self.now a.token (is.Cell c.in-Some-Cell.field-0-0) (stands-param l a.self.now a.token a.scope (is.Name a.name) (is.Cell c.in-Some-Cell.field-0-0) c.requires.at (rw c.in-Some-Cell.field-0-is at c.in-Some-Cell.ensures.bound))) refl

pub returns-in-None-clause-asked : goal.returns-in-None-clause-asked
returns-in-None-clause-asked g c =
    let l = g.P.Run.listing in
    let a = c.args in
    asked-by l a.self.now a.token (a.claim.now ≡ a.claim.now) (g.C.Claim.got a.claim.now a.claim.now) (Wait 0) (word-param l a.self.now a.token (is.Name c.in-None.ensures.free.0) (stands-param l a.self.now a.token a.scope (is.Name a.name) (is.Name c.in-None.ensures.free.0) c.requires.at c.in-None.ensures.free.1)) refl
