-- Values that stand as often, one by one.
use Rattle.std.proofs.Common.{◌≡◌, ℕ, ◌<◌, ◌+◌, List, true, false, length, drop, get_or, nat_eq, ap, ◌∙◌}
use Rattle.std.specs.Prelude.{◌&&◌}
use Rattle.std.proofs.lemmas.List.{drop_more}
use Rattle.orc_rules.specs.declared.value.Value.{Value}
use Rattle.orc_claims.specs.Claims.{each_as_often, times}

module _ (first values others : List Value) (at : ℕ) (d : Value) (lt : at < length first) where
  turned : each_as_often (drop at first) values others ≡ (nat_eq (times (get_or first at d) values) (times (get_or first at d) others) && each_as_often (drop (at + 1) first) values others)
  turned = ap (λ xs. each_as_often xs values others) (drop_more first at d lt)

  pub goes_on : each_as_often first values others ≡ each_as_often (drop at first) values others → nat_eq (times (get_or first at d) values) (times (get_or first at d) others) ≡ true → each_as_often first values others ≡ each_as_often (drop (at + 1) first) values others
  goes_on e same = e ∙ turned ∙ ap (λ b. b && each_as_often (drop (at + 1) first) values others) same

  pub stops : each_as_often first values others ≡ each_as_often (drop at first) values others → nat_eq (times (get_or first at d) values) (times (get_or first at d) others) ≡ false → each_as_often first values others ≡ false
  stops e same = e ∙ turned ∙ ap (λ b. b && each_as_often (drop (at + 1) first) values others) same
