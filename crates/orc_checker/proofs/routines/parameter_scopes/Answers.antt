use Rattle.std.proofs.Common.{◌≡◌, ◌-◌, ◌+◌, ◌<◌, suc, ap, sym, ◌∙◌, subst, arith, length, length-append, [], ◌∷◌, get_or}
use Rattle.std.specs.Prelude.{drop}
use Rattle.std.proofs.Math.Seq.{drop-length}
use Rattle.orc_rules.specs.declared.param.Operand.TheVariants.{Name}
use Rattle.orc_env.specs.declared.names.Scope.{Scope}
use Rattle.orc_env.specs.Parameters.{Adds}
use Rattle.orc_env.proofs.Parameters.{adds-none, adds-drop}
use Rattle.orc_checker.proofs.routines.parameter_scopes.Goals as goal

pub loop-left-init : goal.loop-left-init
loop-left-init c =
    let xs = c.args.params.now in
    let ps = drop (length xs) c.args.operands.now in
    let ss = c.args.scopes.now in
    let cells = c.args.cells.now in
    record {
      within = omega arith;
      same = c.if-params-operands.false;
      adds = subst (λ z. Adds cells ss c.args.scope (drop (length xs) xs) ps z 0) (sym c.new-added.ensures.items) (adds-none cells ss c.args.scope (drop (length xs) xs) ps (drop-length xs));
    }

pub loop-left-preserved : goal.loop-left-preserved
loop-left-preserved c =
    let xs = c.args.params.now in
    let ps = c.args.operands.now in
    let ss = c.args.scopes.now in
    let cells = c.args.cells.now in
    let more = c.loop-left.added.items in
    let i = c.loop-left.left - 1 in
    let next : suc i ≡ c.loop-left.left = omega (arith, c.loop-left-test.true) in
    let within : i < length xs = omega (arith, next, c.loop-left.invariant.within) in
    let also : i < length ps = omega (arith, within, c.loop-left.invariant.same) in
    let k = c.in_ok-outer.outer in
    let s : Scope = record { name = get_or xs i 0; bound = c.in-Some.bound; outer = c.loop-left.outer } in
    let is_k : k ≡ length ss + (length more + 1) = omega (arith, c.in_ok-outer.ensures.number, c.len.ensures ∙ c.push_scope.new.scopes.ok.0, ap length c.in_ok-push_scope.ensures.items, length-append more (s ∷ [])) in
    record {
      within = omega (arith, c.loop-left.invariant.within);
      same = c.loop-left.invariant.same;
      adds =
          subst (λ z. Adds cells ss c.args.scope (drop i xs) (drop i ps) z k) (sym c.in_ok-push_scope.ensures.items)
          (adds-drop cells ss c.args.scope xs ps i more c.loop-left.outer 0 (Name 0) c.in-Some.bound k within also
          (subst (λ z. Adds cells ss c.args.scope (drop z xs) (drop z ps) more c.loop-left.outer) (sym next) c.loop-left.invariant.adds)
          c.in-Some.ensures.bound
          is_k);
    }

pub returns-clause-added : goal.returns-clause-added
returns-clause-added c =
    let none : c.loop-left.left ≡ 0 = omega (arith, c.loop-left-test.false) in
    subst (λ z. Adds c.args.cells.now c.args.scopes.now c.args.scope (drop z c.args.params.now) (drop z c.args.operands.now) c.loop-left.added.items c.loop-left.outer) none c.loop-left.invariant.adds
