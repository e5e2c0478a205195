-- What a change of the nodes leaves of what is noted of those with tokens.
use Rattle.std.proofs.Common.{◌≡◌, ◌<◌, ◌≤◌, ◌+◌, ◌-◌, ℕ, zero, suc, List, [], ◌∷◌, ◌++◌, length, get_or, map, refl, sym, ap, ◌∙◌, subst, arith, Bool, true, false, cond, nat_eq, inl, inr, ⊎_elim, ◌⊎◌, length-append, length-set}
use Rattle.std.proofs.Math.Seq.{get_or-append_seam}
use Rattle.std.proofs.lemmas.List.{get_or_append_left}
use Rattle.std.specs.Prelude.{Some, slice_get, slice_set}
use Rattle.orc_rules.specs.Timed.{IsIn}
use Rattle.orc_term.specs.declared.arena.Node.{Node}
use Rattle.orc_term.specs.declared.arena.Kind.{Kind}
use Rattle.orc_term.specs.declared.arena.Kind.TheVariants.{Leaf, One, Two}
use Rattle.orc_term.specs.declared.arena.Single.TheVariants.{Feeds, Entered, Passed}
use Rattle.orc_term.specs.declared.arena.Double.TheVariants.{Both, Side}
use Rattle.orc_term.specs.declared.restless.Restless.{Restless}
use Rattle.orc_term.specs.Settling.{kind_at}
use Rattle.orc_term.specs.Rising.{nowhere}
use Rattle.orc_term.specs.Grafting.{relink}
use Rattle.orc_term.specs.Hints.{restless, lifted, CanBecome}
use Rattle.orc_term.specs.Asking.{IsListed, IsNoted, AreNoted, AreOfNodes, AreToAsk, StayListed, asked_kinds}
use Rattle.orc_term.proofs.Hints.{same_or, length_lifted}

-- a number that was in a list is in a longer one
pub listed_left : (list more : List ℕ) (i : ℕ) → IsListed i list → IsListed i (list ++ more)
listed_left list more i w = (w.0, omega (arith, w.1, length-append list more), get_or_append_left list more 0 w.0 w.1 ∙ w.2)

-- the last number is in the list
pub listed_last : (list : List ℕ) (i : ℕ) → IsListed i (list ++ i ∷ [])
listed_last list i = (length list, omega (arith, length-append list (i ∷ [])), get_or-append_seam list i [] 0)

-- an entry that is taken out, with the last one in its place
pub listed_less : (nodes : List Node) (list list' : List ℕ) (k : ℕ) → restless (kind_at nodes (get_or list k 0)) ≡ false → k < length list → length list' + 1 ≡ length list
    → (k + 1 < length list → get_or list' k 0 ≡ get_or list (length list - 1) 0) → ((j : ℕ) → (j ≡ k → ⊥) → j + 1 < length list → get_or list' j 0 ≡ get_or list j 0) → (i : ℕ) → restless (kind_at nodes i) ≡ true → IsListed i list → IsListed i list'
listed_less nodes list list' k still lt len last others i h w =
    let off : w.0 ≡ k → ⊥ = λ e. cc (sym still ∙ ap (λ z. restless (kind_at nodes (get_or list z 0))) (sym e) ∙ ap (λ z. restless (kind_at nodes z)) w.2 ∙ h) in
    ⊎_elim
    (λ (e : w.0 + 1 ≡ length list). (k, omega (arith, e, off, lt, len), last (omega (arith, e, off, lt)) ∙ ap (λ z. get_or list z 0) (let a : length list - 1 ≡ w.0 = omega (arith, e) in a) ∙ w.2))
    (λ (a : w.0 + 1 ≡ length list → ⊥). (w.0, omega (arith, a, w.1, len), others w.0 off (omega (arith, a, w.1)) ∙ w.2))
    (same_or (w.0 + 1) (length list))

-- a node stays noted
noted_as : (j : ℕ) (nodes nodes' : List Node) (r r' : Restless) → r'.first_new ≡ r.first_new → (IsListed j r.woken.items → IsListed j r'.woken.items) → (IsListed j r.waiting.items → IsListed j r'.waiting.items)
    → ((r.are_still ≡ true → IsIn (kind_at nodes j) r.asked.kinds) → r'.are_still ≡ true → IsIn (kind_at nodes' j) r'.asked.kinds) → IsNoted nodes r j → IsNoted nodes' r' j
noted_as j nodes nodes' r r' same woken waiting asked w =
    ⊎_elim
    (λ le. inl (omega (arith, le, same)))
    (λ v. inr (⊎_elim (λ l. inl (woken l)) (λ l. inr (waiting l.0, asked l.1)) v))
    w

-- the nodes stay, and the lists keep those with tokens
pub noted_kept : (nodes : List Node) (r r' : Restless) → r'.first_new ≡ r.first_new → StayListed nodes r.woken.items r'.woken.items → StayListed nodes r.waiting.items r'.waiting.items
    → (r'.are_still ≡ true → (r.are_still ≡ true) × (r'.asked.kinds ≡ r.asked.kinds)) → AreNoted nodes r → AreNoted nodes r'
noted_kept nodes r r' same woken waiting asked h =
    record {
      within = omega (arith, same, h.within);
      each = λ j moves. noted_as j nodes nodes r r' same (woken j moves) (waiting j moves) (λ was s. let a = asked s in subst (IsIn (kind_at nodes j)) (sym a.1) (was a.0)) (h.each j moves);
    }

-- a node that has a token after a write stays, or is the one that was written
kept_or : (nodes : List Node) (i j : ℕ) (y : Node) → restless (kind_at (slice_set nodes i y) j) ≡ true → (kind_at (slice_set nodes i y) j ≡ kind_at nodes j) ⊎ ((j ≡ i) × (restless y.kind ≡ true))
kept_or [] i j y h = inl refl
kept_or (x ∷ nodes) zero zero y h = inr (refl, h)
kept_or (x ∷ nodes) zero (suc j) y h = inl refl
kept_or (x ∷ nodes) (suc i) zero y h = inl refl
kept_or (x ∷ nodes) (suc i) (suc j) y h = ⊎_elim (λ e. inl e) (λ e. inr (ap suc e.0, e.1)) (kept_or nodes i j y h)

-- a token that is there after a write of none, or of the same, was there before it
kept_token : (nodes : List Node) (i j : ℕ) (y : Node) → ((x : Node) → slice_get nodes i ≡ Some x → restless y.kind ≡ true → y.kind ≡ x.kind) → restless (kind_at (slice_set nodes i y) j) ≡ true → kind_at (slice_set nodes i y) j ≡ kind_at nodes j
kept_token [] i j y f h = refl
kept_token (x ∷ nodes) zero zero y f h = f x refl h
kept_token (x ∷ nodes) zero (suc j) y f h = refl
kept_token (x ∷ nodes) (suc i) zero y f h = refl
kept_token (x ∷ nodes) (suc i) (suc j) y f h = kept_token nodes i j y f h

-- a node is written that has no token, or the one that was there
pub noted_written : (nodes : List Node) (i : ℕ) (y : Node) (r : Restless) → CanBecome nodes i y → AreNoted nodes r → AreNoted (slice_set nodes i y) r
noted_written nodes i y r can h =
    record {
      within = omega (arith, h.within, length-set nodes i y);
      each = λ j moves.
          let nodes' = slice_set nodes i y in
          let e = kept_token nodes i j y (λ x there. (can x there).1) moves in
          noted_as j nodes nodes' r r refl (λ l. l) (λ l. l) (λ its s. subst (λ z. IsIn z r.asked.kinds) (sym e) (its s)) (h.each j (sym (ap restless e) ∙ moves));
    }

-- a node is written, and noted unless it is new
pub noted_woken : (nodes : List Node) (i : ℕ) (y : Node) (r r' : Restless) → r'.first_new ≡ r.first_new → (r.first_new ≤ i) ⊎ IsListed i r'.woken.items → ((j : ℕ) → IsListed j r.woken.items → IsListed j r'.woken.items) → r'.waiting ≡ r.waiting → r'.asked ≡ r.asked → r'.are_still ≡ r.are_still
    → AreNoted nodes r → AreNoted (slice_set nodes i y) r'
noted_woken nodes i y r r' same its woken waiting asked still h =
    record {
      within = omega (arith, same, h.within, length-set nodes i y);
      each = λ j moves.
          let nodes' = slice_set nodes i y in
          ⊎_elim
          (λ (e : kind_at nodes' j ≡ kind_at nodes j).
          noted_as j nodes nodes' r r' same (woken j) (subst (λ z. IsListed j z.items) (sym waiting))
          (λ its s. subst (λ z. IsIn z r'.asked.kinds) (sym e) (subst (λ z. IsIn (kind_at nodes j) z.kinds) (sym asked) (its (sym still ∙ s))))
          (h.each j (sym (ap restless e) ∙ moves)))
          (λ (e : (j ≡ i) × (restless y.kind ≡ true)). ⊎_elim (λ le. inl (omega (arith, le, same, e.0))) (λ l. inr (inl (subst (λ z. IsListed z r'.woken.items) (sym e.0) l))) its)
          (kept_or nodes i j y moves);
    }

kind_more : (nodes : List Node) (y : Node) (j : ℕ) → (kind_at (nodes ++ y ∷ []) j ≡ kind_at nodes j) ⊎ (j ≡ length nodes)
kind_more [] y zero = inr refl
kind_more [] y (suc j) = inl refl
kind_more (x ∷ nodes) y zero = inl refl
kind_more (x ∷ nodes) y (suc j) = ⊎_elim (λ e. inl e) (λ e. inr (ap suc e)) (kind_more nodes y j)

-- a node comes: it is new
pub noted_more : (nodes : List Node) (y : Node) (r : Restless) → AreNoted nodes r → AreNoted (nodes ++ y ∷ []) r
noted_more nodes y r h =
    record {
      within = omega (arith, h.within, length-append nodes (y ∷ []));
      each = λ j moves.
          ⊎_elim
          (λ (e : kind_at (nodes ++ y ∷ []) j ≡ kind_at nodes j).
          noted_as j nodes (nodes ++ y ∷ []) r r refl (λ l. l) (λ l. l) (λ its s. subst (λ z. IsIn z r.asked.kinds) (sym e) (its s)) (h.each j (sym (ap restless e) ∙ moves)))
          (λ e. inl (omega (arith, h.within, e)))
          (kind_more nodes y j);
    }

relinked_same : (k : Kind) (i j : ℕ) → restless (relink k i j) ≡ true → relink k i j ≡ k
relinked_same (Leaf t) i j h = refl
relinked_same (One (Feeds x g e) p) i j h = cc h
relinked_same (One (Entered m g e) p) i j h = cc h
relinked_same (One Passed p) i j h = cc h
relinked_same (Two Both p q) i j h = go (nat_eq p i) h
  where
    go : (b : Bool) → restless (cond b (Two Both j q) (Two Both p j)) ≡ true → cond b (Two Both j q) (Two Both p j) ≡ Two Both p q
    go true h = cc h
    go false h = cc h
relinked_same (Two (Side c) p q) i j h = go (nat_eq p i) h
  where
    go : (b : Bool) → restless (cond b (Two (Side c) j q) (Two (Side c) p j)) ≡ true → cond b (Two (Side c) j q) (Two (Side c) p j) ≡ Two (Side c) p q
    go true h = cc h
    go false h = cc h

-- a write that changes no token
kept_kind : (nodes : List Node) (i j : ℕ) (y : Node) → (restless y.kind ≡ true → y.kind ≡ kind_at nodes i) → restless (kind_at (slice_set nodes i y) j) ≡ true → kind_at (slice_set nodes i y) j ≡ kind_at nodes j
kept_kind [] i j y f h = refl
kept_kind (x ∷ nodes) zero zero y f h = f h
kept_kind (x ∷ nodes) zero (suc j) y f h = refl
kept_kind (x ∷ nodes) (suc i) zero y f h = refl
kept_kind (x ∷ nodes) (suc i) (suc j) y f h = kept_kind nodes i j y f h

-- a `|` comes between a node and the one above
pub noted_lifted : (nodes : List Node) (i j : ℕ) (r : Restless) → AreNoted nodes r → AreNoted (lifted nodes i j) r
noted_lifted nodes i j r h =
    record {
      within = omega (arith, h.within, length_lifted nodes i j);
      each = λ v moves.
          let x = get_or nodes i nowhere in
          let own : Node = record { kind = x.kind; parent = j } in
          let below = slice_set nodes i own in
          let y = get_or below x.parent nowhere in
          let top : Node = record { kind = relink y.kind i j; parent = y.parent } in
          let second : kind_at (lifted nodes i j) v ≡ kind_at below v = kept_kind below x.parent v top (relinked_same y.kind i j) moves in
          let first : kind_at below v ≡ kind_at nodes v = kept_kind nodes i v own (λ _. refl) (sym (ap restless second) ∙ moves) in
          let e = second ∙ first in
          noted_as v nodes (lifted nodes i j) r r refl (λ l. l) (λ l. l) (λ its s. subst (λ z. IsIn z r.asked.kinds) (sym e) (its s)) (h.each v (sym (ap restless e) ∙ moves));
    }

-- the kind of a node that is there is among all
in_all : (nodes : List Node) (j : ℕ) → restless (kind_at nodes j) ≡ true → IsIn (kind_at nodes j) (map Node.kind nodes)
in_all [] j h = cc h
in_all (x ∷ nodes) zero h = inl refl
in_all (x ∷ nodes) (suc j) h = inr (in_all nodes j h)

of_all : (nodes : List Node) (k : Kind) → IsIn k (map Node.kind nodes) → (i : ℕ) × (kind_at nodes i ≡ k)
of_all [] k h = elim h [ ]
of_all (x ∷ nodes) k (inl e) = (0, sym e)
of_all (x ∷ nodes) k (inr h) = let w = of_all nodes k h in (suc w.0, w.1)

-- all were asked
pub noted_all : (nodes : List Node) (r r' : Restless) → r'.first_new ≡ length nodes → r'.asked.kinds ≡ map Node.kind nodes → ((i : ℕ) → IsListed i r.waiting.items → IsListed i r'.waiting.items) → StayListed nodes r.woken.items r'.waiting.items
    → ((i : ℕ) → r.first_new ≤ i → restless (kind_at nodes i) ≡ true → IsListed i r'.waiting.items) → AreNoted nodes r → AreNoted nodes r'
noted_all nodes r r' len kinds waiting woken newer h =
    record {
      within = omega (arith, len);
      each = λ j moves.
          inr (inr (
            ⊎_elim (λ le. newer j le moves) (λ v. ⊎_elim (λ l. woken j moves l) (λ l. waiting j l.0) v) (h.each j moves),
            λ s. subst (IsIn (kind_at nodes j)) (sym kinds) (in_all nodes j moves),
          ));
    }

pub kinds_of_all : (nodes : List Node) (kinds : List Kind) → kinds ≡ map Node.kind nodes → AreOfNodes nodes kinds
kinds_of_all nodes kinds is k h = of_all nodes k (subst (IsIn k) is h)

-- what needn't be asked isn't listed
pub to_ask_from : (nodes : List Node) (r : Restless) (waiting : List ℕ) → (r.are_still ≡ false → waiting ≡ r.waiting.items) → AreNoted nodes r → AreToAsk nodes (asked_kinds r) waiting r.woken.items r.first_new
to_ask_from nodes r waiting is h j moves = ⊎_elim (λ le. inl le) (λ v. inr (⊎_elim (λ l. inl l) (λ l. inr (go r.are_still refl l)) v)) (h.each j moves)
  where
    go : (b : Bool) → r.are_still ≡ b → IsListed j r.waiting.items × (r.are_still ≡ true → IsIn (kind_at nodes j) r.asked.kinds) → IsListed j waiting ⊎ IsIn (kind_at nodes j) (asked_kinds r)
    go true e l = inr (subst (λ b. IsIn (kind_at nodes j) (cond b r.asked.kinds [])) (sym e) (l.1 e))
    go false e l = inl (subst (IsListed j) (sym (is e)) l.0)
