use Rattle.std.proofs.Common.{◌≤◌, length, Err, sym, subst, arith}
use Rattle.std.specs.Str.{IsValidUpTo}
use Rattle.orc_rules.specs.declared.limits.TheConstants.{LONGEST_SOURCE}
use Rattle.orc_syntax.proofs.Least.{only, read_is, its_fault, its_least, text_found, text_shallow, refused_first}
use Rattle.orc_syntax.proofs.source.parse.Goals as goal

pub returns-in_default-clause-only : goal.returns-in_default-clause-only
returns-in_default-clause-only c =
    let le : length c.args.src.now ≤ LONGEST_SOURCE = omega (arith, c.if-src-gt-LONGEST_SOURCE.false) in
    let u = c.in_default.ensures.cases.1 in
    only c.args.src.now c.read_text-read.result (text_found c.args.src.now c.read_text-read.result le u c.read_text-read.ensures.found) (its_fault c.args.src.now c.read_text-read.result (read_is c.args.src.now c.read_text-read.result le u c.read_text-read.ensures.fault))

pub returns-in_default-clause-least : goal.returns-in_default-clause-least
returns-in_default-clause-least c =
    let le : length c.args.src.now ≤ LONGEST_SOURCE = omega (arith, c.if-src-gt-LONGEST_SOURCE.false) in
    its_least c.args.src.now c.read_text-read.result (read_is c.args.src.now c.read_text-read.result le c.in_default.ensures.cases.1 c.read_text-read.ensures.fault)

pub returns-clause-fault : goal.returns-clause-fault
returns-clause-fault c =
    let le : length c.args.src.now ≤ LONGEST_SOURCE = omega (arith, c.if-src-gt-LONGEST_SOURCE.false) in
    let invalid = subst (IsValidUpTo c.args.src.now) (sym c.valid_up_to.ensures) c.in-Err.ensures.cases.1 in
    its_fault c.args.src.now (Err c.first_fault.result)
    (refused_first c.args.src.now c.read_text-read.result c.valid_up_to.result c.first_fault.result c.first_fault.ensures le invalid c.read_text-read.ensures.found c.read_text-read.ensures.fault)

pub returns-clause-least : goal.returns-clause-least
returns-clause-least c =
    let le : length c.args.src.now ≤ LONGEST_SOURCE = omega (arith, c.if-src-gt-LONGEST_SOURCE.false) in
    let invalid = subst (IsValidUpTo c.args.src.now) (sym c.valid_up_to.ensures) c.in-Err.ensures.cases.1 in
    its_least c.args.src.now (Err c.first_fault.result)
    (refused_first c.args.src.now c.read_text-read.result c.valid_up_to.result c.first_fault.result c.first_fault.ensures le invalid c.read_text-read.ensures.found c.read_text-read.ensures.fault)

pub returns-in_default-clause-shallow : goal.returns-in_default-clause-shallow
returns-in_default-clause-shallow c = text_shallow c.args.src.now c.read_text-read.result c.read_text-read.ensures.found
