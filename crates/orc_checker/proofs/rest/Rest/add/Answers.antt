use Rattle.std.proofs.Common.{List, [], ◌∷◌, ◌++◌, ◌∙◌, ap, subst, reverse}
use Rattle.orc_calls.specs.Counting.{CountsCall}
use Rattle.orc_checker.specs.declared.rest.Called.{Called}
use Rattle.orc_checker.specs.Calls.{Rest}
use Rattle.orc_checker.proofs.rest.Rest.add.Goals as goal

pub returns-clause-added : goal.returns-clause-added
returns-clause-added c =
    let old = c.self.inside in
    let counts = c.count.new.counts in
    let more : List Called → Rest = λ cs. record { calls = cs; counts = counts; time = old.time; to_cancel = reverse old.to_cancel.items; cancels = old.cancels } in
    record {
      same = ap more (c.push_within.ensures.items ∙ (λ j. c.reserve_one.ensures.items j ++ c.new.ensures j ∷ [])) ∙ ap (λ (z : Rest). record z { calls = z.calls ++ c.args.called ∷ []; counts = counts }) c.self.view_is;
      counted = subst (λ (z : Rest). CountsCall c.args.answers.now.sites c.args.site c.args.args.now z.counts counts) c.self.view_is c.in_ok-count.ensures.added;
    }
