use Rattle.std.proofs.Common.{rules, ◌≡◌, List, [], None, Option, map, inl, inr, sym, ap, subst, ◌∙◌, arith, suc}
use Rattle.orc_rules.specs.declared.limits.TheConstants.{MOST_NODES}
use Rattle.orc_syntax.specs.Ast.{text_of}
use Rattle.orc_scope.specs.declared.fault.ScopeFault.{ScopeFault}
use Rattle.orc_scope.specs.declared.fault.FaultKind.TheVariants.{TooMany}
use Rattle.orc_scope.specs.Checking.{IsWrittenOut}
use Rattle.orc_scope.specs.Looking.{known_of, name_text, arity}
use Rattle.orc_scope.specs.Numbers.{Numbering, AreSmall}
use Rattle.orc_scope.specs.Scope.{Known, IsLeast}
use Rattle.orc_scope.specs.Program.{known_in, program_faults, faults_with, variables}
use Rattle.orc_scope.proofs.Closed.{lawful}
use Rattle.orc_scope.proofs.Deep.{shallow}
use Rattle.orc_scope.proofs.Programs.{same_known}
use Rattle.orc_scope.proofs.Refused.{refused}
use Rattle.orc_scope.proofs.Small.{small_calls, few_numbers}
use Rattle.orc_scope.proofs.checker.check.Goals as goal

pub returns-in_err-known : goal.returns-in_err-known
returns-in_err-known c = λ s is. refused (map text_of c.args.sites.now) s c.from_residual.result c.from_residual.ensures.1

pub returns-in_err-fault : goal.returns-in_err-fault
returns-in_err-fault c = λ s is. refused (map text_of c.args.sites.now) s c.from_residual-in_err-fault.result c.from_residual-in_err-fault.ensures.1

pub returns-in-Some : goal.returns-in-Some
returns-in-Some c = λ s is.
    let known = c.in_ok-known.known in
    let sites = map text_of c.args.sites.now in
    let k = same_known known c.args.ast.now.definitions.items sites s is.definitions (c.in_ok-known.ensures.names ∙ ap (map name_text) c.deref.ensures.value) (c.in_ok-known.ensures.arities ∙ ap (map arity) c.deref.ensures.value) c.in_ok-known.ensures.sites in
    let least = c.in_ok-fault.ensures.least s is (ap (λ (u : Known). u.definitions) k) in
    inr (inl (subst (λ (o : Option ScopeFault). IsLeast o (program_faults sites s)) c.in-Some.is (subst (λ (u : Known). IsLeast c.in_ok-fault.field-0 (faults_with u s)) k least)))

pub returns-then-looking-eq0 : goal.returns-then-looking-eq0
returns-then-looking-eq0 c = λ s is.
    let known = c.in_ok-known.known in
    let sites = map text_of c.args.sites.now in
    let k = same_known known c.args.ast.now.definitions.items sites s is.definitions (c.in_ok-known.ensures.names ∙ ap (map name_text) c.deref.ensures.value) (c.in_ok-known.ensures.arities ∙ ap (map arity) c.deref.ensures.value) c.in_ok-known.ensures.sites in
    let least = c.in_ok-fault.ensures.least s is (ap (λ (u : Known). u.definitions) k) in
    let none : c.in_ok-fault.field-0 ≡ None = search rules in
    let faults : program_faults sites s ≡ [] = subst (λ (o : Option ScopeFault). IsLeast o (program_faults sites s)) none (subst (λ (u : Known). IsLeast c.in_ok-fault.field-0 (faults_with u s)) k least) in
    let room = c.in_ok-fault.ensures.room s (known_in sites s) (variables s) is in
    let full : c.program_fault.new.looking.room ≡ 0 = search rules in
    let first : c.new-looking.result.room ≡ suc MOST_NODES = c.new-looking.ensures.room in
    inr (inr (record {
      faults = faults;
      nodes = omega (arith, room, full, first);
      fault = ap (λ span. record { kind = TooMany; span = span }) (c.main_span.ensures s is);
    }))

pub returns-in_err-variables : goal.returns-in_err-variables
returns-in_err-variables c = λ s is. refused (map text_of c.args.sites.now) s c.from_residual-in_err-variables.result c.from_residual-in_err-variables.ensures.1

pub returns-in_default-new : goal.returns-in_default-new
returns-in_default-new c = λ s is.
    let known = c.in_ok-known.known in
    let sites = map text_of c.args.sites.now in
    let k = same_known known c.args.ast.now.definitions.items sites s is.definitions (c.in_ok-known.ensures.names ∙ ap (map name_text) c.deref.ensures.value) (c.in_ok-known.ensures.arities ∙ ap (map arity) c.deref.ensures.value) c.in_ok-known.ensures.sites in
    let least = c.in_ok-fault.ensures.least s is (ap (λ (u : Known). u.definitions) k) in
    let none : c.in_ok-fault.field-0 ≡ None = search rules in
    let faults : program_faults sites s ≡ [] = subst (λ (o : Option ScopeFault). IsLeast o (program_faults sites s)) none (subst (λ (u : Known). IsLeast c.in_ok-fault.field-0 (faults_with u s)) k least) in
    let room = c.in_ok-fault.ensures.room s (known_in sites s) (variables s) is in
    let some : c.program_fault.new.looking.room ≡ 0 → ⊥ = search rules in
    let first : c.new-looking.result.room ≡ suc MOST_NODES = c.new-looking.ensures.room in
    let few = few_numbers sites s faults (omega (arith, room, some, first)) in
    let names : c.in_ok-variables.field-0 ≡ variables s = c.in_ok-variables.ensures s is in
    let small : AreSmall (record { known = known_of known; names = c.in_ok-variables.field-0 }) =
    subst (λ (u : Known). AreSmall (record { known = u; names = c.in_ok-variables.field-0 })) (sym k) (subst (λ (l : List (List _)). AreSmall (record { known = known_in sites s; names = l })) (sym names) few) in
    absurd (c.in_default-new.ensures.none small)

pub returns-in_err-write_out : goal.returns-in_err-write_out
returns-in_err-write_out c = λ s is. refused (map text_of c.args.sites.now) s c.from_residual-in_err-write_out.result c.from_residual-in_err-write_out.ensures.1

pub returns : goal.returns
returns c = λ s is.
    let known = c.in_ok-known.known in
    let sites = map text_of c.args.sites.now in
    let k = same_known known c.args.ast.now.definitions.items sites s is.definitions (c.in_ok-known.ensures.names ∙ ap (map name_text) c.deref.ensures.value) (c.in_ok-known.ensures.arities ∙ ap (map arity) c.deref.ensures.value) c.in_ok-known.ensures.sites in
    let least = c.in_ok-fault.ensures.least s is (ap (λ (u : Known). u.definitions) k) in
    let none : c.in_ok-fault.field-0 ≡ None = search rules in
    let faults : program_faults sites s ≡ [] = subst (λ (o : Option ScopeFault). IsLeast o (program_faults sites s)) none (subst (λ (u : Known). IsLeast c.in_ok-fault.field-0 (faults_with u s)) k least) in
    let room = c.in_ok-fault.ensures.room s (known_in sites s) (variables s) is in
    let some : c.program_fault.new.looking.room ≡ 0 → ⊥ = search rules in
    let first : c.new-looking.result.room ≡ suc MOST_NODES = c.new-looking.ensures.room in
    let names : c.in_ok-variables.field-0 ≡ variables s = c.in_ok-variables.ensures s is in
    let numbers : c.in-Some-new.numbers ≡ record { known = known_in sites s; names = variables s } = search (rules, k, names) in
    let made = c.in_ok-write_out.ensures s is (small_calls (known_in sites s) s faults) in
    let out : IsWrittenOut (known_in sites s) (variables s) s c.in_ok-write_out.field-0 = subst (λ (n : Numbering). IsWrittenOut n.known n.names s c.in_ok-write_out.field-0) numbers made in
    (record { faults = faults; nodes = omega (arith, room, some, first) }, out, lawful sites s c.in_ok-write_out.field-0 faults out, shallow sites s c.in_ok-write_out.field-0 faults out)
