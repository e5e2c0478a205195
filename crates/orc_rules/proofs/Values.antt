-- Values and patterns told apart, and a map whose keys are lists of patterns.
use Rattle.std.proofs.Common.{◌≡◌, ℕ, Bool, true, false, cond, List, [], ◌∷◌, Option, Some, None, refl, sym, ap, subst, ◌∙◌}
use Rattle.std.specs.Prelude.{◌&&◌}
use Rattle.std.specs.Bool.{Decides}
use Rattle.std.specs.Global.{Vec}
use Rattle.std.specs.Map.{lookup, KeepsOthers}
use Rattle.std.specs.HashMap.{HashMap, UpdatesBy}
use Rattle.std.specs.Option.{option_eq}
use Rattle.std.specs.Cmp.Lexicographic.{pointwise, pointwise_decides}
use Rattle.std.proofs.lemmas.Bool.Decides.{Decides-int_eq}
use Rattle.orc_rules.specs.declared.value.Value.{Value}
use Rattle.orc_rules.specs.declared.value.Value.TheVariants.{Number, Truth, Signal}
use Rattle.orc_rules.specs.contracts.value.ValuePartialEq.TheImpl as equality
use Rattle.orc_rules.specs.Sites.{value_eq, values_eq}
use Rattle.orc_rules.specs.Lines.{patterns_eq, found}

-- the test of values decides
pub value_decides : (v w : Value) → Decides (value_eq v w) (v ≡ w)
value_decides (Number a) (Number b) = let d = Decides-int_eq a b in (λ h. ap Number (d.0 h), λ e. d.1 (cc e))
value_decides (Number a) (Truth b) = (λ h. absurd (cc h), λ e. absurd (cc e))
value_decides (Number a) Signal = (λ h. absurd (cc h), λ e. absurd (cc e))
value_decides (Truth a) (Number b) = (λ h. absurd (cc h), λ e. absurd (cc e))
value_decides (Truth true) (Truth true) = (λ h. refl, λ e. refl)
value_decides (Truth true) (Truth false) = (λ h. absurd (cc h), λ e. absurd (cc e))
value_decides (Truth false) (Truth true) = (λ h. absurd (cc h), λ e. absurd (cc e))
value_decides (Truth false) (Truth false) = (λ h. refl, λ e. refl)
value_decides (Truth a) Signal = (λ h. absurd (cc h), λ e. absurd (cc e))
value_decides Signal (Number b) = (λ h. absurd (cc h), λ e. absurd (cc e))
value_decides Signal (Truth b) = (λ h. absurd (cc h), λ e. absurd (cc e))
value_decides Signal Signal = (λ h. refl, λ e. refl)

values_pointwise : (vs ws : List Value) → pointwise value_eq vs ws ≡ values_eq vs ws
values_pointwise [] [] = refl
values_pointwise [] (w ∷ ws) = refl
values_pointwise (v ∷ vs) [] = refl
values_pointwise (v ∷ vs) (w ∷ ws) = ap (λ z. value_eq v w && z) (values_pointwise vs ws)

pub values_decide : (vs ws : List Value) → Decides (values_eq vs ws) (vs ≡ ws)
values_decide vs ws = subst (λ b. Decides b (vs ≡ ws)) (values_pointwise vs ws) (pointwise_decides value_decides vs ws)

-- and that of patterns
pattern_decides : (p q : Option Value) → Decides (option_eq value_eq p q) (p ≡ q)
pattern_decides None None = (λ h. refl, λ e. refl)
pattern_decides None (Some w) = (λ h. absurd (cc h), λ e. absurd (cc e))
pattern_decides (Some v) None = (λ h. absurd (cc h), λ e. absurd (cc e))
pattern_decides (Some v) (Some w) = let d = value_decides v w in (λ h. ap Some (d.0 h), λ e. d.1 (cc e))

pub patterns_decide : (ps qs : List (Option Value)) → Decides (patterns_eq ps qs) (ps ≡ qs)
patterns_decide ps qs = pointwise_decides pattern_decides ps qs

-- fs are es with this place at these patterns
abbrev pub Puts : List (Option Value) → ℕ → List (Vec (Option Value) × ℕ) → List (Vec (Option Value) × ℕ) → Type 0
Puts ps at es fs = (qs : List (Option Value)) → found qs fs ≡ cond (patterns_eq ps qs) (Some at) (found qs es)

abbrev same_key : Vec (Option Value) → Vec (Option Value) → Bool
same_key x y = patterns_eq x.items y.items

key_test : (qs : List (Option Value)) (x y : Vec (Option Value)) → patterns_eq qs x.items ≡ true → patterns_eq qs y.items ≡ patterns_eq x.items y.items
key_test qs x y h = ap (λ z. patterns_eq z y.items) ((patterns_decide qs x.items).0 h)

-- what a map finds after a change at these patterns
puts_by : {S : Type 0} (ps : List (Option Value)) (at : ℕ) (m n : HashMap (Vec (Option Value)) ℕ S) → UpdatesBy same_key (λ x. patterns_eq ps x.items) m n (Some at) → Puts ps at m.entries n.entries
unfolding KeepsOthers
puts_by ps at m n u qs = go (patterns_eq ps qs) refl
  where
    go : (b : Bool) → patterns_eq ps qs ≡ b → found qs n.entries ≡ cond (patterns_eq ps qs) (Some at) (found qs m.entries)
    go true e = rw e (ap (λ z. found z n.entries) (sym ((patterns_decide ps qs).0 e)) ∙ u.1)
    go false e = rw e (u.3 (λ x. patterns_eq qs x.items) (key_test qs) (λ x h. apart x ((patterns_decide ps x.items).0 h) (patterns_eq qs x.items) refl))
      where
        apart : (x : Vec (Option Value)) → ps ≡ x.items → (b : Bool) → patterns_eq qs x.items ≡ b → b ≡ false
        apart x same false i = refl
        apart x same true i = absurd (cc (sym e ∙ (patterns_decide ps qs).1 (same ∙ sym ((patterns_decide qs x.items).0 i))))

-- `==` is that test
eq_is : (v w : Value) → equality.ghosts.eq v w ≡ value_eq v w
eq_is (Number a) (Number b) = refl
eq_is (Number a) (Truth b) = refl
eq_is (Number a) Signal = refl
eq_is (Truth a) (Number b) = refl
eq_is (Truth true) (Truth true) = refl
eq_is (Truth true) (Truth false) = refl
eq_is (Truth false) (Truth true) = refl
eq_is (Truth false) (Truth false) = refl
eq_is (Truth a) Signal = refl
eq_is Signal (Number b) = refl
eq_is Signal (Truth b) = refl
eq_is Signal Signal = refl

abbrev eq_all : List (Option Value) → List (Option Value) → Bool
eq_all ps qs = pointwise (option_eq equality.ghosts.eq) ps qs

eq_all_is : (ps qs : List (Option Value)) → eq_all ps qs ≡ patterns_eq ps qs
eq_all_is ps qs = λ i. pointwise (option_eq (λ v w. eq_is v w i)) ps qs

pub found_by_eq : (ps : List (Option Value)) (es : List (Vec (Option Value) × ℕ)) → lookup (λ k. eq_all ps k.items) es ≡ found ps es
found_by_eq ps es = λ i. lookup (λ k. eq_all_is ps k.items i) es

pub puts : {S : Type 0} (ps : List (Option Value)) (at : ℕ) (m n : HashMap (Vec (Option Value)) ℕ S) → UpdatesBy (λ (x y : Vec (Option Value)). eq_all x.items y.items) (λ x. eq_all ps x.items) m n (Some at) → Puts ps at m.entries n.entries
puts ps at m n u =
    let keys : ◌≡◌ {A = Vec (Option Value) → Vec (Option Value) → Bool} (λ x y. eq_all x.items y.items) same_key = λ i x y. eq_all_is x.items y.items i in
    let key : ◌≡◌ {A = Vec (Option Value) → Bool} (λ x. eq_all ps x.items) (λ x. patterns_eq ps x.items) = λ i x. eq_all_is ps x.items i in
    puts_by ps at m n (subst (λ t. UpdatesBy same_key t m n (Some at)) key (subst (λ e. UpdatesBy e (λ x. eq_all ps x.items) m n (Some at)) keys u))
