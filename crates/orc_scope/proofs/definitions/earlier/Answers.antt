use Rattle.std.proofs.Common.{rules, ◌≡◌, ◌≤◌, Some, None, sym}
use Rattle.orc_scope.specs.Scope.{position}
use Rattle.orc_scope.proofs.Places.{among_some, among_none, among_past}
use Rattle.orc_scope.proofs.definitions.earlier.Goals as goal

pub returns-in-Some : goal.returns-in-Some
returns-in-Some c =
    let e : position c.args.names.now c.args.text.now ≡ Some c.in-Some.at = search rules in
    sym (among_some c.args.number c.args.names.now c.args.text.now c.in-Some.at e (search rules))

pub returns-in_default : goal.returns-in_default
returns-in_default c =
    let e : position c.args.names.now c.args.text.now ≡ Some c.in-Some.at = search rules in
    let le : c.args.number ≤ c.in-Some.at = search rules in
    sym (among_past c.args.number c.args.names.now c.args.text.now c.in-Some.at e le)

pub returns-in_default-2 : goal.returns-in_default-2
returns-in_default-2 c =
    let e : position c.args.names.now c.args.text.now ≡ None = search rules in
    sym (among_none c.args.number c.args.names.now c.args.text.now e)
