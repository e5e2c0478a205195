use Rattle.std.proofs.Common.{◌≡◌, ◌∙◌, Some, refl, sym, ap, subst, List, ℕ, arith}
use Rattle.std.proofs.lemmas.List.{length-map}
use Rattle.std.proofs.lemmas.Result.{on_ok_weaker, on_err_weaker}
use Rattle.orc_rules.specs.declared.answers.Named.{Named}
use Rattle.orc_rules.specs.Sites.{Table, IsTable, with_line, site_named}
use Rattle.orc_rules.specs.Tables.{AreNumbers, line_of, names_of, table_with}
use Rattle.orc_rules.proofs.Adding.{changed, unchanged, same_names, still_table, added}
use Rattle.orc_rules.proofs.Numbers.{number_within}
use Rattle.orc_rules.proofs.answers.Answers.push_line.Goals as goal

pub index_mut-requires : goal.index_mut-requires
index_mut-requires c =
    let sites = c.self.inside.sites.items in
    let found : site_named (names_of sites) c.args.name.now ≡ Some c.in-Some.site = ap (λ (t : Table). site_named t.names c.args.name.now) c.self.view_is ∙ sym c.in-Some.ensures in
    omega (arith, number_within (names_of sites) c.args.name.now c.in-Some.site found, length-map sites (λ (n : Named). n.name.items), c.self.inside.sites.ok.0)

pub invariant_of-self : goal.invariant_of-self
invariant_of-self c =
    let sites = c.self.inside.sites.items in
    let site : Named = record { name = c.index_mut.result.now.name; rule = c.push_to.new.rule } in (
      still_table sites c.in-Some.site site c.index_mut.result.now c.self.invariant.0 c.index_mut.ensures.value refl,
      subst (λ (ns : List (List ℕ)). AreNumbers ns c.self.inside.numbers.entries) (sym (same_names sites c.in-Some.site site c.index_mut.result.now c.index_mut.ensures.value refl)) c.self.invariant.1,
    )

pub returns-in-Some-clause-added : goal.returns-in-Some-clause-added
returns-in-Some-clause-added c =
    let sites = c.self.inside.sites.items in
    let site : Named = record { name = c.index_mut.result.now.name; rule = c.push_to.new.rule } in
    let found : site_named (names_of sites) c.args.name.now ≡ Some c.in-Some.site = ap (λ (t : Table). site_named t.names c.args.name.now) c.self.view_is ∙ sym c.in-Some.ensures in
    on_ok_weaker c.push_to.result
    (λ rule. changed sites c.in-Some.site site c.index_mut.result.now c.args.name.now (line_of c.args.line) c.self.invariant.0 c.index_mut.ensures.value refl rule found ∙ ap (λ (t : Table). with_line t c.args.name.now (line_of c.args.line)) c.self.view_is)
    c.push_to.ensures.added

pub returns-in-Some-clause-refused : goal.returns-in-Some-clause-refused
returns-in-Some-clause-refused c =
    let site : Named = record { name = c.index_mut.result.now.name; rule = c.push_to.new.rule } in
    on_err_weaker c.push_to.result (λ rule. unchanged c.self.inside.sites.items c.in-Some.site site c.index_mut.result.now c.index_mut.ensures.value refl rule ∙ c.self.view_is) c.push_to.ensures.refused

pub returns-in_ok-site_of_line-in-None-clause-added : goal.returns-in_ok-site_of_line-in-None-clause-added
returns-in_ok-site_of_line-in-None-clause-added c =
    let old = c.args.self.now in
    let site = c.in_ok-site_of_line-in-None.ensures in
    on_ok_weaker c.push_site.result
    (λ more. more ∙ (λ i. table_with old (site.name i) (site.rule i)) ∙ added old c.args.name.now (line_of c.args.line) (subst IsTable c.self.view_is c.self.invariant.0) (sym c.in-None.ensures))
    c.push_site.ensures.added
