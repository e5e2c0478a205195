-- What the records spell once a cell has become a value or void.
use Rattle.std.proofs.Common.{◌≡◌, ℕ, List, [], ◌∷◌, ◌++◌, refl, ap, ◌∙◌, get_or, map, Bool, true, false, cond, nat_eq}
use Rattle.std.proofs.Math.ListN.{get_or-map}
use Rattle.orc_rules.specs.Term.{Term, fill}
use Rattle.orc_env.specs.declared.names.Bound.{Bound}
use Rattle.orc_env.specs.Scopes.{Env, given}
use Rattle.orc_env.proofs.Filling.{fill_env, closed-fill, rest-fill}
use Rattle.orc_frames.specs.Spelling.{Path, whole, feeding, aiding, trying, inside, seen}
use Rattle.orc_frames.specs.Paths.{standing, inwards, paths_from, path}
use Rattle.orc_tables.specs.declared.records.Standing.{Standing}
use Rattle.orc_tables.specs.declared.records.Standing.TheVariants.{At, On}
use Rattle.orc_tables.specs.declared.records.Frame.{Frame}
use Rattle.orc_tables.specs.declared.records.Frame.TheVariants.{SeqLeft, PruneRight, OtherwiseLeft}
use Rattle.orc_tables.specs.declared.records.Step.{Step}
use Rattle.orc_frames.proofs.Kept.{fill_path}

map-push : {X Y : Type 0} (f : X → Y) (xs : List X) (x : X) → map f (xs ++ x ∷ []) ≡ map f xs ++ f x ∷ []
map-push f [] x = refl
map-push f (y ∷ xs) x = ap (λ zs. f y ∷ zs) (map-push f xs x)

module _ (code : ℕ → Term) (c : ℕ) (u : Bound) (stays : (i : ℕ) → fill (given u) c (code i) ≡ code i) (env env' : ℕ → Env) (filled_so : (n : ℕ) → env' n ≡ fill_env c u (env n)) where
  pub standing-fill : (st : Standing) → standing code env' st ≡ fill (given u) c (standing code env st)
  standing-fill (At node scope) = closed-fill code c u stays env env' filled_so scope node
  standing-fill (On v) = refl

  inwards-fill : (e : Frame) (p : Path) → inwards code env' e (fill_path c (given u) p) ≡ fill_path c (given u) (inwards code env e p)
  inwards-fill (SeqLeft x g scope) p = ap (λ z. feeding x z (fill_path c (given u) p)) (rest-fill code c u stays env env' filled_so x scope g)
  inwards-fill (PruneRight d) p = refl
  inwards-fill (OtherwiseLeft n) p = refl

  paths-fill : (ps : List Path) (ss : List Step) → paths_from code env' (map (fill_path c (given u)) ps) ss ≡ map (fill_path c (given u)) (paths_from code env ps ss)
  paths-fill ps [] = refl
  paths-fill ps (s ∷ ss) =
      let p = get_or ps s.outer whole in
      let e : map (fill_path c (given u)) ps ++ inwards code env' s.entered (get_or (map (fill_path c (given u)) ps) s.outer whole) ∷ [] ≡ map (fill_path c (given u)) (ps ++ inwards code env s.entered p ∷ []) =
      cc (get_or-map (fill_path c (given u)) ps s.outer whole, inwards-fill s.entered p, map-push (fill_path c (given u)) ps (inwards code env s.entered p)) in
      ap (λ zs. paths_from code env' zs ss) e ∙ paths-fill (ps ++ inwards code env s.entered p ∷ []) ss

  pub path-fill : (ss : List Step) (i : ℕ) → path code env' ss i ≡ fill_path c (given u) (path code env ss i)
  path-fill ss i = ap (λ z. get_or z i whole) (paths-fill (whole ∷ []) ss) ∙ get_or-map (fill_path c (given u)) (paths_from code env (whole ∷ []) ss) i whole

  pub seen-fill : (left : ℕ → Bool) (p : Path) → seen left (fill_path c (given u) p) ≡ fill_path c (given u) (seen left p)
  seen-fill left whole = refl
  seen-fill left (feeding x g p) = ap (feeding x (fill (given u) c g)) (seen-fill left p)
  seen-fill left (aiding d p) = ap (aiding d) (seen-fill left p)
  seen-fill left (trying n p) = go (left n) (seen-fill left p)
    where
      go : (b : Bool) → seen left (fill_path c (given u) p) ≡ fill_path c (given u) (seen left p) → cond b (seen left (fill_path c (given u) p)) (trying n (seen left (fill_path c (given u) p))) ≡ fill_path c (given u) (cond b (seen left p) (trying n (seen left p)))
      go true h = h
      go false h = ap (trying n) h

-- what is passed over doesn't change what is inside
pub inside-seen : (c : ℕ) (left : ℕ → Bool) (p : Path) → inside c (seen left p) ≡ inside c p
inside-seen c left whole = refl
inside-seen c left (feeding x g p) = inside-seen c left p
inside-seen c left (aiding d p) = ap (λ b. cond (nat_eq c d) true b) (inside-seen c left p)
inside-seen c left (trying n p) = go (left n) (inside-seen c left p)
  where
    go : (b : Bool) → inside c (seen left p) ≡ inside c p → inside c (cond b (seen left p) (trying n (seen left p))) ≡ inside c p
    go true h = h
    go false h = h
