-- Passes that a book gives up, and what its posts and words hold then.
use Rattle.std.specs.Prelude.{All, slice_index_or}
use Rattle.std.proofs.Common.{◌≡◌, ◌<◌, ℕ, zero, suc, length, length-append, subst, ◌+◌, List, [], ◌∷◌, ◌++◌, refl, sym, ap, ◌∙◌, arith, append_assoc, append-nil, Some}
use Rattle.orc_indexes.specs.Same.{weight}
use Rattle.orc_indexes.proofs.Weight.{weight-append}
use Rattle.orc_indexes.proofs.Lists.{weight-set}
use Rattle.orc_word.specs.declared.view.View.{View}
use Rattle.orc_book.specs.Held.{Hold, Becomes}
use Rattle.orc_book.specs.declared.token.Token.{Token as Out}
use Rattle.orc_book.specs.Passes.{GivesUp, in_posts, in_tokens}

-- none has gone
pub given-none : (before after : List View) (had has : (View → ℕ) → ℕ) → after ≡ before → ((f : View → ℕ) → has f ≡ had f) → GivesUp before after had has
given-none before after had has e same = record { more = []; added = e ∙ sym (append-nil before); all = λ f. omega (arith, same f) }

-- one has
pub given-one : (before after : List View) (v : View) (had has : (View → ℕ) → ℕ) → after ≡ before ++ v ∷ [] → ((f : View → ℕ) → f v + has f ≡ had f) → GivesUp before after had has
given-one before after v had has e all = record { more = v ∷ []; added = e; all = λ f. omega (arith, all f) }

-- some have, and then others
pub given-on : (before mid after : List View) (had held has : (View → ℕ) → ℕ) → GivesUp before mid had held → GivesUp mid after held has → GivesUp before after had has
given-on before mid after had held has G H =
    record {
      more = G.more ++ H.more;
      added = H.added ∙ ap (λ z. z ++ H.more) G.added ∙ append_assoc before G.more H.more;
      all = λ f. omega (arith, G.all f, H.all f, weight-append f G.more H.more);
    }

-- the same of other records of what was held and is
pub given-as : (before after : List View) (had has had' has' : (View → ℕ) → ℕ) → GivesUp before after had has → ((f : View → ℕ) → has' f + had f ≡ has f + had' f) → GivesUp before after had' has'
given-as before after had has had' has' G same = record { more = G.more; added = G.added; all = λ f. omega (arith, G.all f, same f) }

-- the last pass of a post has gone
pub taken-last : (vs ws : List View) (v : View) → vs ≡ ws ++ v ∷ [] → (f : View → ℕ) → f v + weight f ws ≡ weight f vs
taken-last vs ws v e f = omega (arith, ap (weight f) e, weight-append f ws (v ∷ []))

pub taken-posts : (ps ps' : List Hold) (n : ℕ) (p q : Hold) (v : View) → Becomes ps n p q ps' → p.passes ≡ q.passes ++ v ∷ [] → (f : View → ℕ) → in_posts f ps' + f v ≡ in_posts f ps
taken-posts ps ps' n p q v B e f = omega (arith, ap (in_posts f) B.1, weight-set (λ (h : Hold). weight f h.passes) ps n p q B.0, taken-last p.passes q.passes v e f)

front_same : {X : Type 0} (xs : List X) (y : X) (k : ℕ) (d : X) → k < length xs → slice_index_or (xs ++ y ∷ []) k d ≡ slice_index_or xs k d
front_same [] y k d lt = absurd (omega (arith, lt))
front_same (x ∷ xs) y zero d lt = refl
front_same (x ∷ xs) y (suc k) d lt = front_same xs y k d (omega (arith, lt))

-- what holds of all holds of those before the last one
pub all-front : {X : Type 0} (P : X → Type 0) (ys xs : List X) (y : X) → ys ≡ xs ++ y ∷ [] → All P ys → All P xs
all-front P ys xs y e A = λ k d lt. subst P (ap (λ z. slice_index_or z k d) e ∙ front_same xs y k d lt) (A k d (omega (arith, ap length e, length-append xs (y ∷ []), lt)))

-- what has gone from a post has gone from all posts
pub given-posts : (before after : List View) (ps ps' : List Hold) (n : ℕ) (p q : Hold) → Becomes ps n p q ps' → GivesUp before after (λ f. weight f p.passes) (λ f. weight f q.passes) → GivesUp before after (λ f. in_posts f ps) (λ f. in_posts f ps')
given-posts before after ps ps' n p q B G =
    given-as before after (λ f. weight f p.passes) (λ f. weight f q.passes) (λ f. in_posts f ps) (λ f. in_posts f ps') G
    (λ f. omega (arith, ap (in_posts f) B.1, weight-set (λ (h : Hold). weight f h.passes) ps n p q B.0))

-- one token more is out
pub token-added : {X : Type 0} (ks js : List (Out X)) (k : Out X) → js ≡ ks ++ k ∷ [] → (f : View → ℕ) → in_tokens f js ≡ in_tokens f ks + f k.pass
token-added {X} ks js k e f = omega (arith, ap (in_tokens f) e, weight-append (λ (j : Out X). f j.pass) ks (k ∷ []))
