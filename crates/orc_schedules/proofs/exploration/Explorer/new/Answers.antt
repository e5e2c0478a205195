use Rattle.std.proofs.Common.{◌≡◌, List, [], ◌∷◌, Some, sym, subst}
use Rattle.std.specs.Prelude.{slice_get}
use Rattle.orc_rules.specs.Nodes.{source}
use Rattle.orc_search.specs.declared.made.Made.{Made}
use Rattle.orc_search.specs.declared.node.Node.{Node}
use Rattle.orc_search.specs.Nodes.{smalls}
use Rattle.orc_search.specs.Programs.{small}
use Rattle.orc_search.specs.Ready.{IsReady}
use Rattle.orc_schedules.specs.Growing.{Grows}
use Rattle.orc_schedules.proofs.Growing.{grows_get, grows_self, none_get}
use Rattle.orc_schedules.proofs.exploration.Explorer.new.Goals as goal

pub returns-clause-ready : goal.returns-clause-ready
returns-clause-ready c =
    let t = c.in_ok-tables.tables in
    let same = c.in_ok-tables.ensures.terms in
    let none = c.new-2.ensures in
    record {
      ready = subst (λ (ns : List Node). IsReady (smalls ns) (record { program = c.args.program; answers = c.args.answers; numbers = c.in_ok-numbers.numbers })) (sym same)
          (λ i n h. grows_get (smalls c.numbered.new.terms) (smalls c.number_of_source.new.terms) n _ c.in_ok-term.ensures.kept (c.in_ok-numbers.ensures.numbers i n h), c.in_ok-numbers.ensures.all);
      term = subst (λ (ns : List Node). slice_get (smalls ns) c.in_ok-term.term ≡ Some (small (source c.args.program.now))) (sym same) c.in_ok-term.ensures.number;
      counts = subst (λ (cs : List (List Made)). Grows ([] ∷ []) cs) (sym c.in_ok-tables.ensures.counts) (grows_self ([] ∷ []));
      listed = λ i l h. absurd (none_get c.new-2.result i l none h);
    }
