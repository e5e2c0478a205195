use Rattle.std.proofs.Common.{◌≡◌, ◌≤◌, ℕ, suc, sym, subst}
use Rattle.orc_rules.specs.Sites.{find}
use Rattle.orc_rules.proofs.LastAnswers.{answered_alike}
use Rattle.orc_rules.proofs.answers.Answers.last_answer.Goals as goal

pub returns-clause-alike : goal.returns-clause-alike
returns-clause-alike c n within =
    let sites = c.args.self.now.sites in
    let args = c.args.args.now in
    subst (λ (m : ℕ). find sites c.args.site args (suc n) ≡ find sites c.args.site args (suc m)) (sym c.last_of.ensures)
    (answered_alike sites c.args.site args n (subst (λ (m : ℕ). m ≤ n) c.last_of.ensures within))
