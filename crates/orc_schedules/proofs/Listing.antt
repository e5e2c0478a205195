-- What was listed of terms stays so while terms and lists of calls are added.
use Rattle.std.proofs.Common.{◌≡◌, ◌<◌, ◌⊎◌, ℕ, List, [], ◌∷◌, ◌++◌, length, Some, refl, sym, ap, ◌∙◌, subst, inl, inr, arith}
use Rattle.std.specs.Prelude.{slice_get}
use Rattle.std.specs.List.{AllZip}
use Rattle.orc_rules.specs.Sites.{Site}
use Rattle.orc_search.specs.declared.made.Made.{Made}
use Rattle.orc_search.specs.declared.successor.Successor.{Successor}
use Rattle.orc_search.specs.Moves.{SmallDefinition}
use Rattle.orc_search.specs.Moving.{IsSuccessor}
use Rattle.orc_search.specs.Nodes.{small_at}
use Rattle.orc_search.specs.Small.{Small, nothing}
use Rattle.orc_search.specs.Successors.{Successor as Move}
use Rattle.orc_schedules.specs.declared.listed.Listed.{Listed}
use Rattle.orc_schedules.specs.declared.states.Key.{Key}
use Rattle.orc_schedules.specs.Counts.{made_at}
use Rattle.orc_schedules.specs.Growing.{Grows}
use Rattle.orc_schedules.specs.Listed.{next_of, next_at, AreNext, AreListed, IsListed, IsOf}
use Rattle.orc_schedules.proofs.Growing.{each_added, grows_get, grows_len, grows_or, grows_self, none_get}

zip_more : {X Y : Type 0} (R S : X → Y → Type 0) → ((x : X) (y : Y) → R x y → S x y) → (xs : List X) (ys : List Y) → AllZip R xs ys → AllZip S xs ys
zip_more R S more [] [] z = tt
zip_more R S more [] (y ∷ ys) z = elim z [ ]
zip_more R S more (x ∷ xs) [] z = elim z [ ]
zip_more R S more (x ∷ xs) (y ∷ ys) z = (more x y z.0, zip_more R S more xs ys z.1)

pub get_last : {X : Type 0} (xs : List X) (x : X) → slice_get (xs ++ x ∷ []) (length xs) ≡ Some x
get_last [] x = refl
get_last (y ∷ xs) x = get_last xs x

module _ (defs : List SmallDefinition) (sites : List Site) where
  -- the same successors, where there are more terms and more lists
  pub next_kept : (ts us : List Small) (cs ds : List (List Made)) (made : ℕ) (f g : Small) (next : List Successor) → Grows ts us → Grows cs ds → made < length cs → f ≡ g → AreNext defs sites ts cs made f next → AreNext defs sites us ds made g next
  next_kept ts us cs ds made f g next terms counts lt same all =
      let kept : made_at ds made ≡ made_at cs made = grows_or cs ds made [] counts lt in
      subst (λ (h : Small). AreNext defs sites us ds made h next) same
      (subst (λ (calls : List Made). AreNext defs sites us (calls ∷ []) 0 f next) (sym kept)
      (zip_more (IsSuccessor ts) (IsSuccessor us) (λ (s : Successor) (m : Move) is. (is.0, grows_get ts us s.to m.1 terms is.1)) next _ all))

  pub listed_kept : (ts us : List Small) (cs ds : List (List Made)) (l : Listed) → Grows ts us → Grows cs ds → IsListed defs sites ts cs l → IsListed defs sites us ds l
  listed_kept ts us cs ds l terms counts is = record {
    term = let lt = is.term in let le = grows_len ts us terms in omega (arith, lt, le);
    made = let lt = is.made in let le = grows_len cs ds counts in omega (arith, lt, le);
    all = next_kept ts us cs ds l.made (small_at ts l.term) (small_at us l.term) l.next.items terms counts is.made (sym (grows_or ts us l.term nothing terms is.term)) is.all;
  }

  pub all_kept : (ts us : List Small) (cs ds : List (List Made)) (ls : List Listed) → Grows ts us → Grows cs ds → AreListed defs sites ts cs ls → AreListed defs sites us ds ls
  all_kept ts us cs ds ls terms counts all i l h = listed_kept ts us cs ds l terms counts (all i l h)

  -- what stands at a place
  pub of_listed : (ts : List Small) (cs : List (List Made)) (ls : List Listed) (from : Key) (at : ℕ) → AreListed defs sites ts cs ls → IsOf ls from at → AreNext defs sites ts cs from.made (small_at ts from.term) (next_at ls at)
  of_listed ts cs ls from at all (l, there, term, made) =
      subst (λ (n : ℕ). AreNext defs sites ts cs n (small_at ts from.term) (next_at ls at)) made
      (subst (λ (n : ℕ). AreNext defs sites ts cs l.made (small_at ts n) (next_at ls at)) term
      (subst (AreNext defs sites ts cs l.made (small_at ts l.term)) (sym (ap next_of there)) (all at l there).all))

  -- one more
  pub one_listed : (ts us : List Small) (cs : List (List Made)) (olds kept news : List Listed) (l : Listed) → Grows ts us → AreListed defs sites ts cs olds → (kept ≡ olds) ⊎ (kept ≡ []) → news ≡ kept ++ l ∷ [] → IsListed defs sites us cs l → AreListed defs sites us cs news
  one_listed ts us cs olds kept news l terms all before more here = each_added (IsListed defs sites us cs) kept news l (inr more) (each before) here where
    each : (kept ≡ olds) ⊎ (kept ≡ []) → (i : ℕ) (x : Listed) → slice_get kept i ≡ Some x → IsListed defs sites us cs x
    each (inl same) i x h = listed_kept ts us cs cs x terms (grows_self cs) (all i x (ap (λ (xs : List Listed). slice_get xs i) (sym same) ∙ h))
    each (inr none) i x h = absurd (none_get kept i x none h)

  pub last_listed : (us : List Small) (cs : List (List Made)) (kept news : List Listed) (l : Listed) (at : ℕ) (f : Small) → at ≡ length kept → news ≡ kept ++ l ∷ [] → AreNext defs sites us cs l.made f l.next.items → AreNext defs sites us cs l.made f (next_at news at)
  last_listed us cs kept news l at f is more all = subst (AreNext defs sites us cs l.made f) (sym (ap next_of ((λ i. slice_get (more i) (is i)) ∙ get_last kept l))) all
