-- The keys of calls, and the map that counts by them.
use Rattle.std.proofs.Common.{◌≡◌, ◌≤◌, ℕ, suc, Bool, true, false, cond, nat_eq, List, [], ◌∷◌, ◌++◌, length, map, Option, Some, refl, sym, ap, subst, ◌∙◌, ℤ, pos, negsuc, eqb-true, arith}
use Rattle.std.specs.Prelude.{◌&&◌, bytes_eq, unwrap_or}
use Rattle.std.specs.Bool.{one_answer}
use Rattle.std.specs.Global.{Vec}
use Rattle.std.specs.Map.{lookup, KeepsOthers}
use Rattle.std.specs.HashMap.{HashMap, UpdatesBy}
use Rattle.std.specs.Ordering.{int_eq}
use Rattle.std.specs.Cmp.Lexicographic.{bytes_decides}
use Rattle.std.proofs.lemmas.Cmp.{nat_list_eq_equiv}
use Rattle.std.proofs.lemmas.Bool.Decides.{Decides-int_eq, Decides-eqb}
use Rattle.std.proofs.Math.Bool.{and_assoc}
use Rattle.orc_rules.specs.declared.value.Value.{Value}
use Rattle.orc_rules.specs.declared.value.Value.TheVariants.{Number, Truth, Signal}
use Rattle.orc_rules.specs.Sites.{value_eq, values_eq}
use Rattle.orc_calls.specs.Counting.{kind_of, amount_of, words_of, key, entry_of, nth_in, AreFromOne, CountsOne, HasNoBare}

-- two words tell values apart
abbrev told : Value → Value → Bool
told v w = nat_eq (kind_of v) (kind_of w) && nat_eq (amount_of v) (amount_of w)

told-self : (z : ℤ) → told (Number z) (Number z) ≡ true
told-self (pos n) = (Decides-eqb n n).1 refl
told-self (negsuc n) = (Decides-eqb (suc n) (suc n)).1 refl

from_told : (z w : ℤ) → told (Number z) (Number w) ≡ true → z ≡ w
from_told (pos a) (pos b) h = ap pos (eqb-true a b h)
from_told (negsuc a) (negsuc b) h = ap negsuc (omega (arith, eqb-true (suc a) (suc b) h))
from_told (pos a) (negsuc b) h = absurd (cc h)
from_told (negsuc a) (pos b) h = absurd (cc h)

told_is : (v w : Value) → told v w ≡ value_eq v w
told_is (Number z) (Number w) = one_answer (told (Number z) (Number w)) (int_eq z w) (from_told z w, λ e. subst (λ y. told (Number z) (Number y) ≡ true) e (told-self z)) (Decides-int_eq z w)
told_is (Truth true) (Truth true) = refl
told_is (Truth true) (Truth false) = refl
told_is (Truth false) (Truth true) = refl
told_is (Truth false) (Truth false) = refl
told_is Signal Signal = refl
told_is (Number (pos n)) (Truth b) = refl
told_is (Number (negsuc n)) (Truth b) = refl
told_is (Number (pos n)) Signal = refl
told_is (Number (negsuc n)) Signal = refl
told_is (Truth b) (Number (pos n)) = refl
told_is (Truth b) (Number (negsuc n)) = refl
told_is (Truth b) Signal = refl
told_is Signal (Number (pos n)) = refl
told_is Signal (Number (negsuc n)) = refl
told_is Signal (Truth b) = refl

words_are : (vs ws : List Value) → bytes_eq (words_of vs) (words_of ws) ≡ values_eq vs ws
words_are [] [] = refl
words_are [] (w ∷ ws) = refl
words_are (v ∷ vs) [] = refl
words_are (v ∷ vs) (w ∷ ws) =
    sym (and_assoc (nat_eq (kind_of v) (kind_of w)) (nat_eq (amount_of v) (amount_of w)) (bytes_eq (words_of vs) (words_of ws))) ∙ (λ j. told_is v w j && words_are vs ws j)

keys_are : (n m : ℕ) (others args : List Value) → bytes_eq (key n others) (key m args) ≡ (nat_eq n m && values_eq others args)
keys_are n m others args = ap (λ z. nat_eq n m && z) (words_are others args)

pub words-more : (vs : List Value) (v : Value) → words_of (vs ++ v ∷ []) ≡ words_of vs ++ kind_of v ∷ amount_of v ∷ []
words-more [] v = refl
words-more (w ∷ vs) v = ap (λ z. kind_of w ∷ amount_of w ∷ z) (words-more vs v)

-- what stands at a list of numbers
lookup-seen : (q : List ℕ) (es : List (Vec ℕ × ℕ)) → lookup (λ k. bytes_eq q k.items) es ≡ lookup (bytes_eq q) (map entry_of es)
lookup-seen q [] = refl
lookup-seen q (e ∷ es) = λ j. cond (bytes_eq q (e.0.items)) (Some e.1) (lookup-seen q es j)

-- what a look at a call's key finds is which call is next
pub nth_seen : (q : List ℕ) (es : List (Vec ℕ × ℕ)) (o : Option ℕ) (m : ℕ) (args : List Value) → o ≡ lookup (λ k. bytes_eq q k.items) es → q ≡ key m args → unwrap_or o 1 ≡ nth_in (map entry_of es) m args
nth_seen q es o m args found is = ap (λ z. unwrap_or z 1) (found ∙ lookup-seen q es ∙ ap (λ z. lookup (bytes_eq z) (map entry_of es)) is)

-- fs are es with v at the key k
abbrev pub Puts : List ℕ → ℕ → List (Vec ℕ × ℕ) → List (Vec ℕ × ℕ) → Type 0
Puts k v es fs = (q : List ℕ) → lookup (bytes_eq q) (map entry_of fs) ≡ cond (bytes_eq q k) (Some v) (lookup (bytes_eq q) (map entry_of es))

-- two keys as the map compares them
abbrev same_words : Vec ℕ → Vec ℕ → Bool
same_words x y = bytes_eq x.items y.items

-- at another list of numbers the same stands after a change at k
other_entries : (k : List ℕ) (es fs : List (Vec ℕ × ℕ)) → KeepsOthers same_words (λ x. bytes_eq k x.items) es fs → (q : List ℕ) → bytes_eq q k ≡ false → lookup (λ x. bytes_eq q x.items) fs ≡ lookup (λ x. bytes_eq q x.items) es
unfolding KeepsOthers
other_entries k es fs keeps q e = keeps (λ x. bytes_eq q x.items) (λ x y. nat_list_eq_equiv.congr q x.items y.items) (λ x h. subst (λ z. bytes_eq q z ≡ false) ((bytes_decides k x.items).0 h) e)

-- after a change at k v stands there
pub puts : {S : Type 0} (k : List ℕ) (v : ℕ) (m n : HashMap (Vec ℕ) ℕ S) → UpdatesBy same_words (λ x. bytes_eq k x.items) m n (Some v) → Puts k v m.entries n.entries
puts k v m n u q = go (bytes_eq q k) refl
  where
    go : (b : Bool) → bytes_eq q k ≡ b → lookup (bytes_eq q) (map entry_of n.entries) ≡ cond (bytes_eq q k) (Some v) (lookup (bytes_eq q) (map entry_of m.entries))
    go true e = rw e (sym (lookup-seen q n.entries) ∙ ap (λ z. lookup (λ x. bytes_eq z x.items) n.entries) ((bytes_decides q k).0 e) ∙ u.1)
    go false e = rw e (sym (lookup-seen q n.entries) ∙ other_entries k m.entries n.entries u.3 q e ∙ lookup-seen q m.entries)

-- each count is from 1 on
pub from_one : (k : List ℕ) (v : ℕ) (es fs : List (Vec ℕ × ℕ)) → Puts k v es fs → 1 ≤ v → AreFromOne (map entry_of es) → AreFromOne (map entry_of fs)
from_one k v es fs put one ones q = subst (λ z. 1 ≤ unwrap_or z 1) (sym (put q)) (go (bytes_eq q k))
  where
    go : (b : Bool) → 1 ≤ unwrap_or (cond b (Some v) (lookup (bytes_eq q) (map entry_of es))) 1
    go true = one
    go false = ones q

-- a key with arguments is none without
not_bare : (m n : ℕ) (args : List Value) → 1 ≤ length args → bytes_eq (n ∷ []) (key m args) ≡ false
not_bare m n [] some = absurd (omega (arith, some))
not_bare m n (a ∷ args) some = and_false (nat_eq n m)
  where
    and_false : (b : Bool) → (b && false) ≡ false
    and_false true = refl
    and_false false = refl

-- so a map has no call without arguments after a change there
pub no_bare : (k : List ℕ) (m : ℕ) (args : List Value) (v : ℕ) (es fs : List (Vec ℕ × ℕ)) → Puts k v es fs → k ≡ key m args → 1 ≤ length args → HasNoBare (map entry_of es) → HasNoBare (map entry_of fs)
no_bare k m args v es fs put is some none n = put (n ∷ []) ∙ ap (λ z. cond z (Some v) (lookup (bytes_eq (n ∷ [])) (map entry_of es))) (ap (λ z. bytes_eq (n ∷ []) z) is ∙ not_bare m n args some) ∙ none n

-- a call is counted by its key
pub counts_one : (m : ℕ) (args : List Value) (k : List ℕ) (v : ℕ) (es fs : List (Vec ℕ × ℕ)) → Puts k v es fs → k ≡ key m args → v ≡ suc (nth_in (map entry_of es) m args) → CountsOne m args (map entry_of es) (map entry_of fs)
counts_one m args k v es fs put is next n others =
    ap (λ z. unwrap_or z 1) (put (key n others) ∙ ap (λ z. cond (bytes_eq (key n others) z) (Some v) (lookup (bytes_eq (key n others)) (map entry_of es))) is)
    ∙ go (bytes_eq (key n others) (key m args)) refl
    ∙ ap (λ z. cond z (suc (nth_in (map entry_of es) n others)) (nth_in (map entry_of es) n others)) (keys_are n m others args)
  where
    go : (b : Bool) → bytes_eq (key n others) (key m args) ≡ b → unwrap_or (cond (bytes_eq (key n others) (key m args)) (Some v) (lookup (bytes_eq (key n others)) (map entry_of es))) 1 ≡ cond (bytes_eq (key n others) (key m args)) (suc (nth_in (map entry_of es) n others)) (nth_in (map entry_of es) n others)
    go false h = rw h refl
    go true h = rw h (next ∙ ap (λ z. suc (unwrap_or (lookup (bytes_eq z) (map entry_of es)) 1)) (sym ((bytes_decides (key n others) (key m args)).0 h)))
