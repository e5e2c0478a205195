-- What all words weigh, after one has come to stand for something else: how many stand for killed groups, and the passes that they hold.
use Rattle.std.proofs.Common.{◌≡◌, ◌≤◌, ℕ, zero, suc, ◌+◌, List, [], ◌∷◌, length, map, Option, Some, Bool, true, false, cond, count_by, ap, sym, ◌∙◌, arith, refl}
use Rattle.std.specs.Prelude.{slice_set}
use Rattle.std.proofs.lemmas.List.Sums.{sum_by-cons}
use Rattle.slab.specs.Slab.{Slab, Updates, get}
use Rattle.orc_indexes.specs.Same.{weight}
use Rattle.orc_indexes.proofs.Weight.{weight-sum_by}
use Rattle.orc_word.specs.declared.naming.Naming.{Ghosts}
use Rattle.orc_word.specs.declared.view.View.{View}
use Rattle.orc_book.specs.declared.word_table.Stand.{Stand}
use Rattle.orc_book.specs.declared.word_table.Kind.{Kind}
use Rattle.orc_book.specs.declared.word_table.Kind.TheVariants.{Free, Open, Dying}
use Rattle.orc_book.specs.Held.{Stood}
use Rattle.orc_book.specs.Passes.{in_words, of_owed}
use Rattle.orc_book.specs.Words.{Turns, is_dying, kind_at, killed, named, owed_at, stood_at, stood_of, unused}
use Rattle.orc_book.proofs.Entries.{open-owed, stood-got, turned, turned-over}

off : (v w : ℕ) → (v ≡ w → ⊥) → suc v ≡ suc w → ⊥
off v w else e = else (omega (arith, e))

module _ (h : Stood → ℕ) (none : h unused ≡ 0) where
  same_weight : (ws ws' : List Stood) → ((v : ℕ) → stood_at ws' v ≡ stood_at ws v) → weight h ws' ≡ weight h ws
  same_weight [] [] e = refl
  same_weight [] (j ∷ ws') e = omega (arith, same_weight [] ws' (λ v. e (suc v)), ap h (e 0), none)
  same_weight (k ∷ ws) [] e = omega (arith, same_weight ws [] (λ v. e (suc v)), ap h (e 0), none)
  same_weight (k ∷ ws) (j ∷ ws') e = omega (arith, same_weight ws ws' (λ v. e (suc v)), ap h (e 0))

  pub turned-weight : (ws ws' : List Stood) (w : ℕ) (to : Stood) → Turns ws w to ws' → weight h ws' + h (stood_at ws w) ≡ weight h ws + h to
  turned-weight [] [] w to T = omega (arith, ap h T.turned)
  turned-weight [] (j ∷ ws') zero to T = omega (arith, same_weight [] ws' (λ v. T.others (suc v) (λ e. cc e)), ap h T.turned)
  turned-weight [] (j ∷ ws') (suc w) to T = omega (arith, turned-weight [] ws' w to (record { turned = T.turned; others = λ v else. T.others (suc v) (off v w else) }), ap h (T.others 0 (λ e. cc e)), none)
  turned-weight (k ∷ ws) [] zero to T = omega (arith, same_weight ws [] (λ v. T.others (suc v) (λ e. cc e)), ap h T.turned, none)
  turned-weight (k ∷ ws) [] (suc w) to T = omega (arith, turned-weight ws [] w to (record { turned = T.turned; others = λ v else. T.others (suc v) (off v w else) }), ap h (T.others 0 (λ e. cc e)), none)
  turned-weight (k ∷ ws) (j ∷ ws') zero to T = omega (arith, same_weight ws ws' (λ v. T.others (suc v) (λ e. cc e)), ap h T.turned)
  turned-weight (k ∷ ws) (j ∷ ws') (suc w) to T = omega (arith, turned-weight ws ws' w to (record { turned = T.turned; others = λ v else. T.others (suc v) (off v w else) }), ap h (T.others 0 (λ e. cc e)))

-- ---- how many stand for killed groups

abbrev pub one_dying : Stood → ℕ
one_dying s = cond (is_dying s) 1 0

count_is : (ws : List Stood) → weight one_dying ws ≡ count_by is_dying ws
count_is ws = weight-sum_by one_dying ws

one_dies : (k : Kind) (o : Option View) → one_dying (record { kind = k; owed = o }) ≤ 1
one_dies Free o = omega arith
one_dies (Open n) o = omega arith
one_dies Dying o = omega arith

few_dying : (ws : List Stood) → count_by is_dying ws ≤ length ws
few_dying [] = omega arith
few_dying (k ∷ ws) = omega (arith, few_dying ws, one_dies k.kind k.owed, sum_by-cons one_dying k ws)

-- not all of them do where one stands for an open group
pub fewer-dying : (ws : List Stood) (w n : ℕ) → kind_at ws w ≡ Open n → count_by is_dying ws + 1 ≤ length ws
fewer-dying [] w n e = cc e
fewer-dying (k ∷ ws) zero n e = omega (arith, few_dying ws, ap (λ z. one_dying (record { kind = z; owed = k.owed })) e, sum_by-cons one_dying k ws)
fewer-dying (k ∷ ws) (suc w) n e = omega (arith, fewer-dying ws w n e, few_dying (k ∷ []), sum_by-cons one_dying k [], sum_by-cons one_dying k ws)

-- ---- the pass that a word holds goes, and one that it holds comes

pub freed-words : (ws ws' : List Stood) (w : ℕ) → Turns ws w unused ws' → (f : View → ℕ) → in_words f ws' + of_owed f (owed_at ws w) ≡ in_words f ws
freed-words ws ws' w T f = omega (arith, turned-weight (λ (s : Stood). of_owed f s.owed) refl ws ws' w unused T)

module _ {X : Type 0} {g : Ghosts X} where
  pub updated-dying : (s s' : Slab (Stand X g)) (w : ℕ) (o : Option (Stand X g)) → Updates s s' w o → count_by is_dying (map stood_of s'.slots) + one_dying (stood_of (get s w)) ≡ count_by is_dying (map stood_of s.slots) + one_dying (stood_of o)
  updated-dying s s' w o U = omega (arith, turned-weight one_dying refl (map stood_of s.slots) (map stood_of s'.slots) w (stood_of o) (turned s s' w o U), ap one_dying (stood-got s.slots w), count_is (map stood_of s.slots), count_is (map stood_of s'.slots))

  -- one more where a word that stood for an open group stands for a killed one
  pub buried-dying : (s : Slab (Stand X g)) (w n : ℕ) (x : Stand X g) → kind_at (map stood_of s.slots) w ≡ Open n → one_dying (stood_of (Some x)) ≡ 1 → (d : ℕ) → d ≡ count_by is_dying (map stood_of s.slots) → d + 1 ≡ count_by is_dying (map stood_of (slice_set s.slots w (Some x)))
  buried-dying s w n x stood dead d e =
      omega (arith, e, turned-weight one_dying refl (map stood_of s.slots) (map stood_of (slice_set s.slots w (Some x))) w (stood_of (Some x)) (turned-over s w n x stood), ap one_dying (open-owed s.slots w n stood), dead, count_is (map stood_of s.slots), count_is (map stood_of (slice_set s.slots w (Some x))))

  pub buried-words : (s : Slab (Stand X g)) (w n : ℕ) (x : Stand X g) → kind_at (map stood_of s.slots) w ≡ Open n → (f : View → ℕ) → in_words f (map stood_of (slice_set s.slots w (Some x))) ≡ in_words f (map stood_of s.slots) + of_owed f (Stood.owed (stood_of (Some x)))
  buried-words s w n x stood f =
      omega (arith, turned-weight (λ (z : Stood). of_owed f z.owed) refl (map stood_of s.slots) (map stood_of (slice_set s.slots w (Some x))) w (stood_of (Some x)) (turned-over s w n x stood), ap (λ (z : Stood). of_owed f z.owed) (open-owed s.slots w n stood))
