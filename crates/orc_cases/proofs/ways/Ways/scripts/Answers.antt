-- The first numbers are those of the first ways.
use Rattle.std.proofs.Common.{◌≡◌, ℕ, List, ap, ◌∙◌, length, map, take}
use Rattle.std.specs.Prelude.{min}
use Rattle.orc_cases.specs.Digits.{way_at}
use Rattle.orc_cases.specs.Values.{all_choices_of, ways_from}
use Rattle.orc_cases.specs.Ways.{CaseWays, script_text, scripts}
use Rattle.orc_cases.proofs.Limit.{first_below, scripts_are}
use Rattle.orc_cases.proofs.ways.Ways.scripts.Goals as goal

pub scripts-requires-clause-within : goal.scripts-requires-clause-within
scripts-requires-clause-within c = rw c.as_slice-numbers.ensures.value (first_below c.self.inside.frame c.self.inside.numbers.items c.self.invariant c.min-tried.result)

pub returns : goal.returns
returns c =
    let tried : c.min-tried.result ≡ min (length c.self.inside.numbers.items) c.args.most = c.min-tried.ensures ∙ ap (λ (ns : List ℕ). min (length ns) c.args.most) c.as_slice-numbers.ensures.value in
    c.in_ok-scripts.ensures
    ∙ ap (λ (ns : List ℕ). map (λ (n : ℕ). script_text (ways_from c.self.inside.frame) c.args.behind.now (way_at (all_choices_of c.self.inside.frame.lines.items) n)) (take c.min-tried.result ns)) c.as_slice-numbers.ensures.value
    ∙ scripts_are c.self.inside.frame c.self.inside.numbers.items c.self.invariant c.args.most c.min-tried.result c.args.behind.now tried
    ∙ ap (λ (w : CaseWays). scripts w c.args.most c.args.behind.now) c.self.view_is
