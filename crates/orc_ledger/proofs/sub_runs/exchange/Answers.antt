use Rattle.std.proofs.Common.{ap, arith}
use Rattle.std.specs.Prelude.{option_to_list}
use Rattle.orc_indexes.specs.Same.{weight}
use Rattle.orc_tables.specs.Tokens.{live}
use Rattle.orc_tables.proofs.Slots.{removed, replaced}
use Rattle.orc_ledger.proofs.Others.{set-others}
use Rattle.orc_ledger.proofs.sub_runs.exchange.Goals as goal

pub returns-in-Some-clause-tokens : goal.returns-in-Some-clause-tokens
returns-in-Some-clause-tokens g w = omega (
  arith,
  ap (λ z. weight w (live z)) g.replace.ensures.items,
  replaced w g.args.tokens.now.items g.args.slot g.args.token g.in-Some.comer g.requires.held (rw g.in-Some.is at g.requires.serial),
  ap (λ o. weight w (option_to_list o)) g.in-Some.is,
)

pub returns-in-None-clause-tokens : goal.returns-in-None-clause-tokens
returns-in-None-clause-tokens g w =
    let free = g.remove.ensures.items in
    omega (
      arith,
      ap (λ z. weight w (live z)) free.2,
      removed w g.args.tokens.now.items g.args.slot g.args.token free.0 g.requires.held free.1,
      ap (λ o. weight w (option_to_list o)) g.in-None.is,
    )

pub returns-in-Some-clause-others : goal.returns-in-Some-clause-others
returns-in-Some-clause-others g = set-others g.args.tokens.now.items g.replace.new.self.items g.args.slot g.in-Some.comer g.replace.ensures.items

pub returns-in-None-clause-others : goal.returns-in-None-clause-others
returns-in-None-clause-others g = set-others g.args.tokens.now.items g.remove.new.self.items g.args.slot g.remove.ensures.items.0 g.remove.ensures.items.2
