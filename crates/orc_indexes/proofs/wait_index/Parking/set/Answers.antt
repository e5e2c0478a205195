use Rattle.std.proofs.Common.{◌<◌, sym, ap, ◌∙◌, arith, length}
use Rattle.orc_indexes.specs.Same.{weight}
use Rattle.orc_indexes.specs.Parking.{one}
use Rattle.orc_indexes.proofs.Flags.{count-set, count-less}
use Rattle.orc_indexes.proofs.wait_index.Parking.set.Goals as goal

pub overflow_add-self : goal.overflow_add-self
overflow_add-self c =
    let flags = c.self.inside.flags.items in
    let lt : c.args.slot < length flags = rw (← c.self.view_is) at c.requires.there in
    omega (arith, c.self.invariant, c.len-len.ensures, count-less flags c.args.slot lt (sym c.is_set.ensures ∙ c.if-is_set.false))

pub invariant_of-self : goal.invariant_of-self
invariant_of-self c =
    let flags = c.self.inside.flags.items in
    let lt : c.args.slot < length flags = rw (← c.self.view_is) at c.requires.there in
    omega (arith, c.self.invariant, count-set flags c.args.slot lt (sym c.is_set.ensures ∙ c.if-is_set.false), ap (weight one) c.write_flag.ensures)
