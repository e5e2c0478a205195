use Rattle.std.proofs.Common.{◌≡◌, ◌<◌, ◌+◌, ◌^◌, ◌++◌, ◌∷◌, [], ℕ, true, cond, List, None, length, refl, sym, ap, subst, ◌∙◌}
use Rattle.std.specs.Global.{Vec}
use Rattle.std.specs.Result.{is_ok}
use Rattle.std.proofs.lemmas.List.{length-map}
use Rattle.orc_rules.specs.declared.answers.Named.{Named}
use Rattle.orc_rules.specs.Sites.{Table, site_named}
use Rattle.orc_rules.specs.Tables.{AreNumbers, names_of}
use Rattle.orc_rules.proofs.Adding.{more_table, names_more}
use Rattle.orc_rules.proofs.Numbers.{more_numbers}
use Rattle.orc_rules.proofs.answers.Answers.push_site.Goals as goal

pub invariant_of-self-2 : goal.invariant_of-self-2
invariant_of-self-2 c =
    let sites = c.self.inside.sites.items in
    let numbers = c.self.inside.numbers in
    let name : Vec ℕ = c.in_ok-name.name in
    let site : Named = c.args.site in
    let named : site.name.items ≡ name.items = sym (c.in_ok-name.ensures.items ∙ c.deref.ensures.value) in
    let there : c.try_reserve.new.self.items ≡ sites = c.in_ok-try_reserve.ensures.items in
    let pushed : is_ok c.push-pushed.result ≡ true = sym c.is_ok.ensures.value ∙ c.if-prove.false in
    let items : c.push-pushed.new.self.items ≡ sites ++ site ∷ [] = c.push-pushed.ensures.items ∙ (λ i. cond (pushed i) (there i ++ site ∷ []) (there i)) in
    let room : length (names_of sites) + 1 < 2 ^ 32 = subst (λ (t : Table). length t.names + 1 < 2 ^ 32) (sym c.self.view_is) c.requires.room in
    let new : site_named (names_of sites) site.name.items ≡ None = ap (λ (t : Table). site_named t.names site.name.items) c.self.view_is ∙ c.requires.new in
    let names : names_of c.push-pushed.new.self.items ≡ names_of sites ++ name.items ∷ [] = names_more sites c.push-pushed.new.self.items site name.items items named in
    let count : c.len.result ≡ length (names_of sites) = c.len.ensures ∙ c.in_ok-try_reserve.ensures.len ∙ c.self.inside.sites.ok.0 ∙ sym (length-map sites (λ (n : Named). n.name.items)) in (
      more_table sites c.push-pushed.new.self.items site site.name.items c.self.invariant.0 items refl c.requires.bare room new,
      subst (λ (ns : List (List ℕ)). AreNumbers ns c.insert.new.self.entries) (sym names)
          (more_numbers (names_of sites) numbers c.insert.new.self name _ c.self.invariant.1 (ap (site_named (names_of sites)) (sym named) ∙ new) count c.in_ok-insert.ensures.updates),
    )
