-- What the entries of the table of words say of the words.
use Rattle.std.proofs.Common.{◌≡◌, ◌⊎◌, inl, inr, ◌<◌, ◌≤◌, ℕ, zero, suc, ◌+◌, List, [], ◌∷◌, map, length, Option, Some, None, is_some, IsSome, cond, count_by, sym, ap, ◌∙◌, subst, arith, refl}
use Rattle.std.specs.Prelude.{slice_index_or, slice_set}
use Rattle.std.proofs.lemmas.List.Sums.{sum_by-cons}
use Rattle.slab.specs.Slab.{Slab, Updates, get, slab_len, with_value}
use Rattle.slab.proofs.SlabLemmas.{Updates-with_value}
use Rattle.orc_word.specs.declared.naming.Naming.{Ghosts}
use Rattle.orc_book.specs.declared.word_table.Kind.TheVariants.{Free, Open}
use Rattle.orc_book.specs.declared.word_table.Stand.{Stand}
use Rattle.orc_book.specs.declared.word_table.Stand.TheVariants as stand
use Rattle.orc_book.specs.Held.{Stood}
use Rattle.orc_book.specs.Words.{Turns, is_taken, kind_at, named, stood_at, stood_of}

module _ {X : Type 0} {g : Ghosts X} where
  pub stood-got : (xs : List (Option (Stand X g))) (w : ℕ) → stood_at (map stood_of xs) w ≡ stood_of (slice_index_or xs w None)
  stood-got [] w = refl
  stood-got (x ∷ xs) zero = refl
  stood-got (x ∷ xs) (suc w) = stood-got xs w

  pub turned : (s s' : Slab (Stand X g)) (w : ℕ) (o : Option (Stand X g)) → Updates s s' w o → Turns (map stood_of s.slots) w (stood_of o) (map stood_of s'.slots)
  turned s s' w o U =
      record {
        turned = stood-got s'.slots w ∙ ap stood_of U.changed;
        others = λ v off. stood-got s'.slots v ∙ ap stood_of (U.others v off) ∙ sym (stood-got s.slots v);
      }

  pub turned-at : (s s' : Slab (Stand X g)) (w v : ℕ) (o : Option (Stand X g)) → w ≡ v → Updates s s' w o → Turns (map stood_of s.slots) v (stood_of o) (map stood_of s'.slots)
  turned-at s s' w v o e U = subst (λ z. Turns (map stood_of s.slots) z (stood_of o) (map stood_of s'.slots)) e (turned s s' w o U)

  pub none-free : (s : Slab (Stand X g)) (w : ℕ) → get s w ≡ None → kind_at (map stood_of s.slots) w ≡ Free
  none-free s w e = ap Stood.kind (stood-got s.slots w ∙ ap stood_of e)

  -- the first entry of a table that has none
  pub turned-first : (s s' : Slab (Stand X g)) (w : ℕ) (o : Option (Stand X g)) → s.slots ≡ [] → w ≡ 0 → Updates s s' w o → Turns [] 0 (stood_of o) (map stood_of s'.slots)
  turned-first s s' w o none first U = subst (λ z. Turns [] z (stood_of o) (map stood_of s'.slots)) first (subst (λ z. Turns (map stood_of z) w (stood_of o) (map stood_of s'.slots)) none (turned s s' w o U))

  entry_there : (o : Option (Stand X g)) (n : ℕ) → Stood.kind (stood_of o) ≡ Open n → IsSome o
  entry_there None n e = cc e
  entry_there (Some x) n e = refl

  -- an entry is written over
  pub turned-over : (s : Slab (Stand X g)) (w n : ℕ) (x : Stand X g) → kind_at (map stood_of s.slots) w ≡ Open n → Turns (map stood_of s.slots) w (stood_of (Some x)) (map stood_of (slice_set s.slots w (Some x)))
  turned-over s w n x e = turned s (with_value s w x) w (Some x) (Updates-with_value s w x (entry_there (get s w) n (ap Stood.kind (sym (stood-got s.slots w)) ∙ e)))

  -- a word that stands for an open group holds no pass
  pub open-owed : (xs : List (Option (Stand X g))) (w n : ℕ) → kind_at (map stood_of xs) w ≡ Open n → stood_at (map stood_of xs) w ≡ named n
  open-owed xs w n e = stood-got xs w ∙ by (slice_index_or xs w None) (ap Stood.kind (sym (stood-got xs w)) ∙ e)
    where
      by : (o : Option (Stand X g)) → Stood.kind (stood_of o) ≡ Open n → stood_of o ≡ named n
      by None h = cc h
      by (Some (stand.Open m)) h = ap named (cc h)
      by (Some (stand.Dying o)) h = cc h

-- as many words are taken as there are entries
module _ {X : Type 0} {g : Ghosts X} where
  some_taken : (o : Option (Stand X g)) → ◌≡◌ {A = ℕ} (cond (is_taken (stood_of o)) 1 0) (cond (is_some o) 1 0)
  some_taken None = refl
  some_taken (Some (stand.Open n)) = refl
  some_taken (Some (stand.Dying o)) = refl

  pub taken_some : (xs : List (Option (Stand X g))) → count_by is_taken (map stood_of xs) ≡ count_by is_some xs
  taken_some [] = refl
  taken_some (x ∷ xs) = omega (arith, taken_some xs, some_taken x, sum_by-cons (λ (o : Option (Stand X g)). cond (is_some o) 1 0) x xs, sum_by-cons (λ (k : Stood). cond (is_taken k) 1 0) (stood_of x) (map stood_of xs))

-- ---- a key without an entry leaves room for one

module _ {T : Type 0} where
  entries_few : (xs : List (Option T)) → count_by is_some xs ≤ length xs
  entries_few [] = omega arith
  entries_few (None ∷ xs) = omega (arith, entries_few xs, sum_by-cons (λ (o : Option T). cond (is_some o) 1 0) None xs)
  entries_few (Some x ∷ xs) = omega (arith, entries_few xs, sum_by-cons (λ (o : Option T). cond (is_some o) 1 0) (Some x) xs)

  fewer_or : (xs : List (Option T)) (k : ℕ) → slice_index_or xs k None ≡ None → (count_by is_some xs + 1 ≤ length xs) ⊎ (length xs ≤ k)
  fewer_or [] k e = inr (omega arith)
  fewer_or (None ∷ xs) k e = inl (omega (arith, entries_few xs, sum_by-cons (λ (o : Option T). cond (is_some o) 1 0) None xs))
  fewer_or (Some x ∷ xs) zero e = cc e
  fewer_or (Some x ∷ xs) (suc k) e =
      elim (fewer_or xs k e) [
        | inl h ↦ inl (omega (arith, h, sum_by-cons (λ (o : Option T). cond (is_some o) 1 0) (Some x) xs))
        | inr h ↦ inr (omega (arith, h))
      ]

  pub has-room : (s : Slab T) (k : ℕ) → k < s.capacity → get s k ≡ None → length s.slots ≤ s.capacity → slab_len s + 1 ≤ s.capacity
  has-room s k within none few =
      elim (fewer_or s.slots k none) [
        | inl h ↦ omega (arith, h, few)
        | inr h ↦ omega (arith, h, within, entries_few s.slots)
      ]
