use Rattle.std.proofs.Common.{◌∙◌, ap}
use Rattle.orc_rules.specs.Sites.{Table, site_named}
use Rattle.orc_rules.proofs.answers.Answers.site_named.Goals as goal

pub returns : goal.returns
returns c =
    let name = c.args.name.now in
    c.copied.ensures ∙ c.get.ensures.value ∙ c.self.invariant.1 name ∙ ap (λ (t : Table). site_named t.names name) c.self.view_is
