-- Each entry keeps what the tables note of groups.
use Rattle.std.proofs.Common.{◌≡◌, ◌≤◌, ◌<◌, ℕ, zero, suc, ◌+◌, List, [], ◌∷◌, ◌++◌, refl, sym, ap, ◌∙◌, subst, arith, inl, inr, ◌⊎◌, ⊎_elim, Bool, true, false, cond, nat_eq, eq-eqb, not, Option, Some, None as Nothing, length, append-nil, map}
use Rattle.std.proofs.lemmas.Bool.{eqb-true, ltb-false}
use Rattle.std.specs.Prelude.{slice_get, nat_lt, ◌||◌}
use Rattle.orc_rules.specs.declared.entry.Entry.{Entry}
use Rattle.orc_rules.specs.Nodes.{Listing, code}
use Rattle.orc_rules.specs.Sites.{Site}
use Rattle.orc_rules.specs.Timed.{IsIn}
use Rattle.orc_env.specs.declared.names.Bound.{Bound}
use Rattle.orc_env.specs.declared.names.Bound.TheVariants.{Cell}
use Rattle.orc_env.specs.declared.names.Scope.{Scope}
use Rattle.orc_indexes.specs.Same.{weight, only, but, None, is_this}
use Rattle.orc_frames.specs.Spelling.{aiding, inside}
use Rattle.orc_ledger_spec.specs.Records.{Records, Lawful, its_env, raw_path, group_out, side_out}
use Rattle.orc_tables.specs.Steps.{group_at, group_of, depth_at}
use Rattle.orc_ledger_spec.specs.Calls.{Turns, Crosses, Exchanges, Drops, Resumes, Closes, IsFree, born, IsEnded, IsForked, IsFed, IsTried, IsOpened, token_goes, call_goes, group_goes, is_inside}
use Rattle.orc_frames.specs.Taking.{bare, outer_of, outer_at, reach}
use Rattle.orc_ledger_spec.specs.Homes.{home, home_by, Nest}
use Rattle.orc_tables.specs.Inside.{aids}
use Rattle.orc_tables.specs.declared.records.Standing.TheVariants.{At}
use Rattle.orc_ledger_spec.specs.Next.{AreGrouped, numbers_of, members, IsSide, opens}
use Rattle.orc_tables.specs.declared.records.Token.{Token}
use Rattle.orc_tables.specs.declared.records.Call.{Call}
use Rattle.orc_tables.specs.declared.records.Frame.{Frame}
use Rattle.orc_tables.specs.declared.records.Frame.TheVariants.{SeqLeft, PruneRight, OtherwiseLeft}
use Rattle.orc_tables.specs.declared.records.Step.{Step}
use Rattle.orc_tables.specs.declared.records.Side.{Side}
use Rattle.orc_tables.specs.declared.records.Side.TheVariants.{Right, Left}
use Rattle.orc_tables.specs.declared.records.Group.{Group}
use Rattle.orc_indexes.proofs.Weight.{weight-in, weight-parts, weight-none, none-weaker, none-alike, none-in, some-in, this_one, this_is}
use Rattle.orc_frames.proofs.Growth.{or_false, path-none}
use Rattle.orc_ledger_spec.proofs.Homes.{inn-home, inn-step}
use Rattle.orc_ledger_spec.proofs.Someone.{some_same, token_within, call_within, get-within}
use Rattle.orc_ledger_spec.proofs.Passing.{ticked}
use Rattle.orc_ledger_spec.proofs.Places.{IsPlaced, is_placed, test-placed, placed-test, IsSided, is_sided, test-sided, sided-test, all-of, all-in, not_false}
use Rattle.orc_ledger_spec.proofs.Nests.{AreNested, placed-alike, nested-alike, homes', placed-more, sided-more, nested-fed, placed-fed, opened_groups, grown, placed-own, nested-opened, open_groups, placed-still, nested-closed}

-- ---- what is kept, in the form that weights carry

pub record AreSettled (hs : List ℕ) (groups : ℕ → Option Nest) (s : Records) : Type 0 where
  pub nested : AreNested hs groups s.steps s.groups
  pub tokens : None (λ (t : Token). not (is_placed hs groups s.steps t.step)) s.tokens
  pub calls : None (λ (c : Call). not (is_placed hs groups s.steps c.step)) s.calls

module _ (l : Listing) (sites : List Site) (s : Records) (L : Lawful l sites s) (G : AreGrouped (numbers_of s) s) where
  listed_one : (i : ℕ) (w : Nest) (k : ℕ) → G.groups i ≡ Some w → w.step ≡ suc k → 1 ≤ weight (λ (g : Group). is_this i g.number) s.groups
  listed_one i w k is at = let g = G.listed i w k is at in omega (arith, weight-in (λ (h : Group). is_this i h.number) s.groups g.0 g.1, this_is i (Group.number g.0) (sym g.2))

  pub settled-of : AreSettled G.homes G.groups s
  settled-of =
      record {
        nested = record {
          homes = G.are_homes;
          nests = G.nests;
          root = G.root;
          sides = all-of (is_sided G.groups s.steps) s.groups (λ g i. let d = G.sides g i in test-sided G.groups s.steps g (record { nest = d.0; before = d.1; step = d.2; found = d.3; parent = d.4; at = d.5; there = d.6; outer = d.7; fits = d.8 }));
          listed = listed_one;
          once = G.once;
          feeds = G.feeds;
        };
        tokens = all-of (λ (t : Token). is_placed G.homes G.groups s.steps t.step) s.tokens (λ t i. let d = G.tokens t i in test-placed G.homes G.groups s.steps t.step (record { within = token_within s L.sound t i; nest = d.0; found = d.1; step = d.2 }));
        calls = all-of (λ (c : Call). is_placed G.homes G.groups s.steps c.step) s.calls (λ c i. let d = G.calls c i in test-placed G.homes G.groups s.steps c.step (record { within = call_within s L.sound c i; nest = d.0; found = d.1; step = d.2 }));
      }

-- and back
pub grouped-of : (s : Records) (hs : List ℕ) (groups : ℕ → Option Nest) → AreSettled hs groups s → AreGrouped (numbers_of s) s
grouped-of s hs groups S =
    record {
      homes = hs;
      are_homes = S.nested.homes;
      groups = groups;
      nests = S.nested.nests;
      root = S.nested.root;
      tokens = λ t i. let p = placed-test hs groups s.steps t.step (all-in (λ (u : Token). is_placed hs groups s.steps u.step) s.tokens t S.tokens i) in (p.nest, p.found, p.step);
      calls = λ c i. let p = placed-test hs groups s.steps c.step (all-in (λ (u : Call). is_placed hs groups s.steps u.step) s.calls c S.calls i) in (p.nest, p.found, p.step);
      sides = λ g i. let d = sided-test groups s.steps g (all-in (is_sided groups s.steps) s.groups g S.nested.sides i) in (d.nest, d.before, d.step, d.found, d.parent, d.at, d.there, d.outer, d.fits);
      listed = λ i w k is at. let d = some-in (λ (g : Group). is_this i g.number) s.groups (S.nested.listed i w k is at) in (d.0, d.1, sym (this_one i (Group.number d.0) d.2));
      once = S.nested.once;
      feeds = S.nested.feeds;
    }

-- what nobody is, is nobody after one that is so came
none-add : {X : Type 0} (bad : X → Bool) (xs xs' ys zs : List X) → ((w : X → ℕ) → weight w xs' + weight w ys ≡ weight w xs + weight w zs) → None bad xs → None bad zs → None bad xs'
none-add bad xs xs' ys zs h a b = omega (arith, h (only bad (λ x. 1)), a, b)

module _ (l : Listing) (sites : List Site) (s : Records) (L : Lawful l sites s) (G : AreGrouped (numbers_of s) s) where
  abbrev hs : List ℕ
  hs = G.homes

  abbrev groups : ℕ → Option Nest
  groups = G.groups

  pub placed-token : (t : Token) → IsIn t s.tokens → IsPlaced hs groups s.steps t.step
  placed-token t i = placed-test hs groups s.steps t.step (all-in (λ (u : Token). is_placed hs groups s.steps u.step) s.tokens t (settled-of l sites s L G).tokens i)

  pub placed-call : (c : Call) → IsIn c s.calls → IsPlaced hs groups s.steps c.step
  placed-call c i = placed-test hs groups s.steps c.step (all-in (λ (u : Call). is_placed hs groups s.steps u.step) s.calls c (settled-of l sites s L G).calls i)

  pub placed-group : (g : Group) → IsIn g s.groups → IsPlaced hs groups s.steps g.outer
  placed-group g i =
      let d = G.sides g i in
      let a = G.nests.above g.number d.0 d.1 d.2 d.3 d.5 d.6 in
      record {
        within = omega (arith, ltb-false (length s.steps) g.outer (or_false (side_out (length s.scopes) g.side) (nat_lt (length s.steps) g.outer) (none-in (group_out (length s.scopes) (length s.steps)) s.groups g L.sound.groups i)).1);
        nest = a.0;
        found = ap groups (sym d.4) ∙ a.1;
        step = a.2 ∙ ap (home hs) d.7;
      }

  -- ---- the same steps, and groups that weigh the same

  pub same-grouped : (s' : Records) → s'.steps ≡ s.steps → s'.groups ≡ s.groups → None (λ (t : Token). not (is_placed hs groups s.steps t.step)) s'.tokens → None (λ (c : Call). not (is_placed hs groups s.steps c.step)) s'.calls → AreGrouped (numbers_of s') s'
  same-grouped s' steps gs tokens calls =
      let S = settled-of l sites s L G in
      grouped-of s' hs groups (record {
        nested = subst (λ z. AreNested hs groups z s'.groups) (sym steps) (subst (λ z. AreNested hs groups s.steps z) (sym gs) S.nested);
        tokens = subst (λ (z : List Step). None (λ (t : Token). not (is_placed hs groups z t.step)) s'.tokens) (sym steps) tokens;
        calls = subst (λ (z : List Step). None (λ (c : Call). not (is_placed hs groups z c.step)) s'.calls) (sym steps) calls;
      })

  -- tokens and calls go and others come, where others were
  pub exchanged-grouped : (s' : Records) (ts ts' : List Token) (cs cs' : List Call) (made : ℕ) (e : Entry) → Exchanges s s' ts ts' cs cs' made e → ((t : Token) → IsIn t ts' → IsPlaced hs groups s.steps t.step) → ((c : Call) → IsIn c cs' → IsPlaced hs groups s.steps c.step) → AreGrouped (numbers_of s') s'
  exchanged-grouped s' ts ts' cs cs' made e T in_ts in_cs =
      let S = settled-of l sites s L G in
      same-grouped s' T.steps T.groups
      (none-add (λ (t : Token). not (is_placed hs groups s.steps t.step)) s.tokens s'.tokens ts ts' T.tokens S.tokens (all-of (λ (t : Token). is_placed hs groups s.steps t.step) ts' (λ t i. test-placed hs groups s.steps t.step (in_ts t i))))
      (none-add (λ (c : Call). not (is_placed hs groups s.steps c.step)) s.calls s'.calls cs cs' T.calls S.calls (all-of (λ (c : Call). is_placed hs groups s.steps c.step) cs' (λ c i. test-placed hs groups s.steps c.step (in_cs c i))))

  -- a call is made by a token
  pub called-grouped : (t : Token) → IsIn t s.tokens → (c : Call) → c.step ≡ t.step → (s' : Records) (e : Entry) → Exchanges s s' (t ∷ []) [] [] (c ∷ []) 1 e → AreGrouped (numbers_of s') s'
  called-grouped t i c step s' e T = exchanged-grouped s' (t ∷ []) [] [] (c ∷ []) 1 e T (λ u j. elim j [ ]) of_call
    where
      of_call : (d : Call) → IsIn d (c ∷ []) → IsPlaced hs groups s.steps d.step
      of_call d (inl same) = subst (IsPlaced hs groups s.steps) (sym step ∙ ap (λ (z : Call). z.step) (sym same)) (placed-token t i)
      of_call d (inr j) = elim j [ ]

  -- a call is answered: a token stands where it was
  pub returned-grouped : (c : Call) → IsIn c s.calls → (t : Token) → t.step ≡ c.step → (s' : Records) (e : Entry) → Exchanges s s' [] (t ∷ []) (c ∷ []) [] 0 e → AreGrouped (numbers_of s') s'
  returned-grouped c i t step s' e T = exchanged-grouped s' [] (t ∷ []) (c ∷ []) [] 0 e T of_token (λ d j. elim j [ ])
    where
      of_token : (u : Token) → IsIn u (t ∷ []) → IsPlaced hs groups s.steps u.step
      of_token u (inl same) = subst (IsPlaced hs groups s.steps) (sym step ∙ ap (λ (z : Token). z.step) (sym same)) (placed-call c i)
      of_token u (inr j) = elim j [ ]

  pub halted-grouped : (c : Call) (s' : Records) (e : Entry) → Exchanges s s' [] [] (c ∷ []) [] 0 e → AreGrouped (numbers_of s') s'
  halted-grouped c s' e T = exchanged-grouped s' [] [] (c ∷ []) [] 0 e T (λ u j. elim j [ ]) (λ d j. elim j [ ])

  pub ticked-grouped : (t : ℕ) → AreGrouped (numbers_of (ticked l sites s L t)) (ticked l sites s L t)
  ticked-grouped t = let S = settled-of l sites s L G in same-grouped (ticked l sites s L t) refl refl S.tokens S.calls

  -- ---- a token goes and others come

  none_births : (hs' : List ℕ) (groups' : ℕ → Option Nest) (s' : Records) (t : Token) (births : List Token)
      → ((w : Token → ℕ) → weight w s'.tokens + w t ≡ weight w s.tokens + weight w births)
      → ((i : ℕ) → IsPlaced hs groups s.steps i → IsPlaced hs' groups' s'.steps i)
      → ((b : Token) → IsIn b births → IsPlaced hs' groups' s'.steps b.step)
      → None (λ (u : Token). not (is_placed hs' groups' s'.steps u.step)) s'.tokens
  none_births hs' groups' s' t births tokens keeps born_so =
      let bad : Token → Bool = λ (u : Token). not (is_placed hs' groups' s'.steps u.step) in
      omega (
        arith,
        tokens (only bad (λ u. 1)),
        none-weaker (λ (u : Token). not (is_placed hs groups s.steps u.step)) bad s.tokens (settled-of l sites s L G).tokens (λ u f. ap not (test-placed hs' groups' s'.steps u.step (keeps u.step (placed-test hs groups s.steps u.step (not_false (is_placed hs groups s.steps u.step) f))))),
        all-of (λ (u : Token). is_placed hs' groups' s'.steps u.step) births (λ b i. test-placed hs' groups' s'.steps b.step (born_so b i)),
      )

  none_calls : (hs' : List ℕ) (groups' : ℕ → Option Nest) (s' : Records) → s'.calls ≡ s.calls → ((i : ℕ) → IsPlaced hs groups s.steps i → IsPlaced hs' groups' s'.steps i) → None (λ (c : Call). not (is_placed hs' groups' s'.steps c.step)) s'.calls
  none_calls hs' groups' s' calls keeps =
      subst (None (λ (c : Call). not (is_placed hs' groups' s'.steps c.step))) (sym calls)
      (none-weaker (λ (c : Call). not (is_placed hs groups s.steps c.step)) (λ (c : Call). not (is_placed hs' groups' s'.steps c.step)) s.calls (settled-of l sites s L G).calls (λ c f. ap not (test-placed hs' groups' s'.steps c.step (keeps c.step (placed-test hs groups s.steps c.step (not_false (is_placed hs groups s.steps c.step) f))))))

  -- at the step where the token was
  pub turned-grouped : (t : Token) → IsIn t s.tokens → (s' : Records) (births : List Token) (ss : List Scope) (cs : List Bound) (e : Entry) → Turns s s' t births ss [] [] cs e → ((b : Token) → IsIn b births → b.step ≡ t.step) → AreGrouped (numbers_of s') s'
  turned-grouped t i s' births ss cs e T same =
      let S = settled-of l sites s L G in
      let steps : s'.steps ≡ s.steps = T.steps ∙ append-nil s.steps in
      let keeps : (j : ℕ) → IsPlaced hs groups s.steps j → IsPlaced hs groups s'.steps j = λ j p. subst (λ z. IsPlaced hs groups z j) (sym steps) p in
      grouped-of s' hs groups (record {
        nested = subst (λ z. AreNested hs groups z s'.groups) (sym steps) (same_groups T);
        tokens = none_births hs groups s' t births T.tokens keeps (λ b j. keeps b.step (subst (IsPlaced hs groups s.steps) (sym (same b j)) (placed-token t i)));
        calls = none_calls hs groups s' T.calls keeps;
      })
    where
      same_groups : Turns s s' t births ss [] [] cs e → AreNested hs groups s.steps s'.groups
      same_groups T =
          let N = (settled-of l sites s L G).nested in
          record {
            homes = N.homes;
            nests = N.nests;
            root = N.root;
            sides = omega (arith, T.groups (only (λ g. not (is_sided groups s.steps g)) (λ g. 1)), N.sides);
            listed = λ j w k is at. omega (arith, T.groups (λ (g : Group). is_this j g.number), N.listed j w k is at);
            once = λ j. omega (arith, T.groups (λ (g : Group). is_this j g.number), N.once j);
            feeds = N.feeds;
          }

  pub ended-grouped : (t : Token) → IsIn t s.tokens → (s' : Records) → IsEnded s t s' → AreGrouped (numbers_of s') s'
  ended-grouped t i s' T = turned-grouped t i s' [] [] [] _ T (λ b j. elim j [ ])

  pub forked-grouped : (t : Token) → IsIn t s.tokens → (scope f g : ℕ) (s' : Records) → IsForked s t scope f g s' → AreGrouped (numbers_of s') s'
  forked-grouped t i scope f g s' T = turned-grouped t i s' _ [] [] _ T at_step
    where
      at_step : (b : Token) → IsIn b (born s t s.next_mark f scope t.step ∷ born s t (s.next_mark + 1) g scope t.step ∷ []) → b.step ≡ t.step
      at_step b (inl e) = ap (λ (z : Token). z.step) e
      at_step b (inr (inl e)) = ap (λ (z : Token). z.step) e
      at_step b (inr (inr j)) = elim j [ ]

  sides_within : (g : Group) → group_out (length s.scopes) (length s.steps) g ≡ false → g.outer ≤ length s.steps
  sides_within g h = ltb-false (length s.steps) g.outer (or_false (side_out (length s.scopes) g.side) (nat_lt (length s.steps) g.outer) h).1

  none_both : {X : Type 0} (a b : X → Bool) (xs : List X) → None a xs → None b xs → None (λ x. a x || b x) xs
  none_both a b [] h k = refl
  none_both a b (x ∷ xs) h k = go (a x) (b x) h k (none_both a b xs)
    where
      go : (p q : Bool) → cond p 1 0 + weight (only a (λ x. 1)) xs ≡ 0 → cond q 1 0 + weight (only b (λ x. 1)) xs ≡ 0 → (None a xs → None b xs → None (λ x. a x || b x) xs) → cond (p || q) 1 0 + weight (only (λ x. a x || b x) (λ x. 1)) xs ≡ 0
      go true q h k ih = absurd (omega (arith, h))
      go false true h k ih = absurd (omega (arith, k))
      go false false h k ih = omega (arith, ih (omega (arith, h)) (omega (arith, k)))

  -- the sides that were there, with one more step and more groups
  sides_more : (p : Step) (groups' : ℕ → Option Nest) → ((i : ℕ) (w : Nest) → groups i ≡ Some w → groups' i ≡ Some w) → p.outer ≤ length s.steps → None (λ (g : Group). not (is_sided groups' (s.steps ++ p ∷ []) g)) s.groups
  sides_more p groups' grows out =
      none-weaker (λ g. not (is_sided groups s.steps g) || group_out (length s.scopes) (length s.steps) g) (λ g. not (is_sided groups' (s.steps ++ p ∷ []) g)) s.groups
      (none_both (λ g. not (is_sided groups s.steps g)) (group_out (length s.scopes) (length s.steps)) s.groups (settled-of l sites s L G).nested.sides L.sound.groups)
      (λ g f.
      let b = or_false (not (is_sided groups s.steps g)) (group_out (length s.scopes) (length s.steps) g) f in
      ap not (test-sided groups' (s.steps ++ p ∷ []) g (sided-more hs s.steps G.are_homes L.sound.outwards p out groups groups' grows g (sides_within g b.1) (sided-test groups s.steps g (not_false (is_sided groups s.steps g) b.0)))))

  pub fed-grouped : (t : Token) → IsIn t s.tokens → (scope f x g : ℕ) (s' : Records) → IsFed s t scope f x g s' → AreGrouped (numbers_of s') s'
  fed-grouped t i scope f x g s' T =
      let S = settled-of l sites s L G in
      let p : Step = record { entered = SeqLeft x g scope; outer = t.step; group = group_at s.steps t.step; depth = depth_at s.steps t.step + 1; published = false } in
      let place = placed-token t i in
      let out : p.outer ≤ length s.steps = place.within in
      let hs2 = homes' hs s.steps G.are_homes L.sound.outwards p out in
      let sides = sides_more p groups (λ j w h. h) out in
      let N = nested-fed hs s.steps G.are_homes L.sound.outwards p out groups s.groups S.nested refl refl sides in
      let keeps : (j : ℕ) → IsPlaced hs groups s.steps j → IsPlaced hs2 groups s'.steps j = λ j q. subst (λ z. IsPlaced hs2 groups z j) (sym T.steps) (placed-more hs s.steps G.are_homes L.sound.outwards p out groups groups (λ k w h. h) j q) in
      grouped-of s' hs2 groups (record {
        nested = subst (λ z. AreNested hs2 groups z s'.groups) (sym T.steps) (same_groups hs2 (s.steps ++ p ∷ []) N T);
        tokens = none_births hs2 groups s' t (born s t s.next_mark f scope (length s.steps + 1) ∷ []) T.tokens keeps (at_new hs2 (subst (λ z. IsPlaced hs2 groups z (length s.steps + 1)) (sym T.steps) (placed-fed hs s.steps G.are_homes L.sound.outwards p out groups s.groups S.nested refl refl place)));
        calls = none_calls hs2 groups s' T.calls keeps;
      })
    where
      at_new : (hs2 : List ℕ) → IsPlaced hs2 groups s'.steps (length s.steps + 1) → (b : Token) → IsIn b (born s t s.next_mark f scope (length s.steps + 1) ∷ []) → IsPlaced hs2 groups s'.steps b.step
      at_new hs2 q b (inl e) = subst (IsPlaced hs2 groups s'.steps) (ap (λ (z : Token). z.step) (sym e)) q
      at_new hs2 q b (inr j) = elim j [ ]

      same_groups : (hs2 : List ℕ) (ss2 : List Step) → AreNested hs2 groups ss2 s.groups → IsFed s t scope f x g s' → AreNested hs2 groups ss2 s'.groups
      same_groups hs2 ss2 N T =
          record {
            homes = N.homes;
            nests = N.nests;
            root = N.root;
            sides = omega (arith, T.groups (only (λ g. not (is_sided groups ss2 g)) (λ g. 1)), N.sides);
            listed = λ j w k is at. omega (arith, T.groups (λ (g : Group). is_this j g.number), N.listed j w k is at);
            once = λ j. omega (arith, T.groups (λ (g : Group). is_this j g.number), N.once j);
            feeds = N.feeds;
          }

  -- a side is entered, and is a group
  opened_by : (t : Token) → IsIn t s.tokens → (entered : Frame) (side : Side) (number depth : ℕ) → IsFree s number → IsSide entered side → opens entered ≡ true
      → (s' : Records) (births : List Token) (ss : List Scope) (cs : List Bound) (e : Entry) → Turns s s' t births ss (record { entered = entered; outer = t.step; group = number; depth = depth; published = false } ∷ []) (record { side = side; outer = t.step; number = number } ∷ []) cs e
      → ((b : Token) → IsIn b births → (b.step ≡ t.step) ⊎ (b.step ≡ length s.steps + 1)) → AreGrouped (numbers_of s') s'
  opened_by t i entered side number depth free fits own s' births ss cs e T at =
      let S = settled-of l sites s L G in
      let p : Step = record { entered = entered; outer = t.step; group = number; depth = depth; published = false } in
      let g : Group = record { side = side; outer = t.step; number = number } in
      let place = placed-token t i in
      let out : p.outer ≤ length s.steps = place.within in
      let added : (w : Group → ℕ) → weight w s'.groups ≡ weight w s.groups + w g = λ w. omega (arith, T.groups w) in
      let hs2 = homes' hs s.steps G.are_homes L.sound.outwards p out in
      let gs2 = opened_groups hs s.steps G.are_homes L.sound.outwards p out groups s.groups s'.groups S.nested own place g refl refl fits free.0 free.1 added in
      let grows = grown hs s.steps G.are_homes L.sound.outwards p out groups s.groups s'.groups S.nested own place g refl refl fits free.0 free.1 added in
      let N = nested-opened hs s.steps G.are_homes L.sound.outwards p out groups s.groups s'.groups S.nested own place g refl refl fits free.0 free.1 added (sides_more p gs2 grows out) in
      let keeps : (j : ℕ) → IsPlaced hs groups s.steps j → IsPlaced hs2 gs2 s'.steps j = λ j q. subst (λ z. IsPlaced hs2 gs2 z j) (sym T.steps) (placed-more hs s.steps G.are_homes L.sound.outwards p out groups gs2 grows j q) in
      let new = subst (λ z. IsPlaced hs2 gs2 z (length s.steps + 1)) (sym T.steps) (placed-own hs s.steps G.are_homes L.sound.outwards p out groups s.groups s'.groups S.nested own place g refl refl fits free.0 free.1 added) in
      grouped-of s' hs2 gs2 (record {
        nested = subst (λ z. AreNested hs2 gs2 z s'.groups) (sym T.steps) N;
        tokens = none_births hs2 gs2 s' t births T.tokens keeps (λ b j. ⊎_elim (λ (a : b.step ≡ t.step). subst (IsPlaced hs2 gs2 s'.steps) (sym a) (keeps t.step place)) (λ (a : b.step ≡ length s.steps + 1). subst (IsPlaced hs2 gs2 s'.steps) (sym a) new) (at b j));
        calls = none_calls hs2 gs2 s' T.calls keeps;
      })

  pub tried-grouped : (t : Token) → IsIn t s.tokens → (scope f g number : ℕ) → IsFree s number → (s' : Records) → IsTried s t scope f g number s' → AreGrouped (numbers_of s') s'
  tried-grouped t i scope f g number free s' T = opened_by t i (OtherwiseLeft t.serial) (Left t.serial g scope) number (depth_at s.steps t.step) free refl refl s' (born s t s.next_mark f scope (length s.steps + 1) ∷ []) [] [] _ T at
    where
      at : (b : Token) → IsIn b (born s t s.next_mark f scope (length s.steps + 1) ∷ []) → (b.step ≡ t.step) ⊎ (b.step ≡ length s.steps + 1)
      at b (inl e) = inr (ap (λ (z : Token). z.step) e)
      at b (inr j) = elim j [ ]

  pub opened-grouped : (t : Token) → IsIn t s.tokens → (scope f x g number : ℕ) → IsFree s number → (s' : Records) → IsOpened s t scope f x g number s' → AreGrouped (numbers_of s') s'
  opened-grouped t i scope f x g number free s' T =
      opened_by t i (PruneRight (length s.cells)) (Right (length s.cells)) number 0 free refl refl s' (born s t s.next_mark f (length s.scopes + 1) t.step ∷ born s t (s.next_mark + 1) g scope (length s.steps + 1) ∷ []) (record { name = x; bound = Cell (length s.cells); outer = scope } ∷ []) (Cell (length s.cells) ∷ []) _ T at
    where
      at : (b : Token) → IsIn b (born s t s.next_mark f (length s.scopes + 1) t.step ∷ born s t (s.next_mark + 1) g scope (length s.steps + 1) ∷ []) → (b.step ≡ t.step) ⊎ (b.step ≡ length s.steps + 1)
      at b (inl e) = inl (ap (λ (z : Token). z.step) e)
      at b (inr (inl e)) = inr (ap (λ (z : Token). z.step) e)
      at b (inr (inr j)) = elim j [ ]

  -- a publication: those that come stand at steps whose groups are open
  pub crossed-grouped : (t : Token) (s' : Records) (births : List Token) (ss : List Scope) (ns : List ℕ) (e : Entry) → Crosses s s' t births ss ns e → ((b : Token) → IsIn b births → IsPlaced hs groups s.steps b.step) → AreGrouped (numbers_of s') s'
  crossed-grouped t s' births ss ns e T there =
      let S = settled-of l sites s L G in
      let same : map bare s.steps ≡ map bare s'.steps = sym T.steps.alike in
      let keeps : (j : ℕ) → IsPlaced hs groups s.steps j → IsPlaced hs groups s'.steps j = placed-alike hs groups s.steps s'.steps same in
      grouped-of s' hs groups (record {
        nested = subst (λ z. AreNested hs groups s'.steps z) (sym T.groups) (nested-alike hs groups s.steps s'.steps same s.groups S.nested);
        tokens = none_births hs groups s' t births T.tokens keeps (λ b j. keeps b.step (there b j));
        calls = none_calls hs groups s' T.calls keeps;
      })

  -- ---- outwards from a step

  pub placed-outer : (i : ℕ) → IsPlaced hs groups s.steps i → IsPlaced hs groups s.steps (outer_at s.steps i)
  placed-outer zero p = p
  placed-outer (suc k) p = by_step (slice_get s.steps k) refl
    where
      same_step : (a b : Step) → Some a ≡ Some b → a ≡ b
      same_step a b e = cc e

      by_step : (o : Option Step) → slice_get s.steps k ≡ o → IsPlaced hs groups s.steps (outer_of o)
      by_step Nothing there = absurd (no_step s.steps k (omega (arith, p.within)) there)
        where
          no_step : (xs : List Step) (k : ℕ) → k < length xs → slice_get xs k ≡ Nothing → ⊥
          no_step [] k lt h = omega (arith, lt)
          no_step (x ∷ xs) zero lt h = cc h
          no_step (x ∷ xs) (suc k) lt h = no_step xs k (omega (arith, lt)) h
      by_step (Some q) there = by_kind (opens q.entered) refl
        where
          within : q.outer ≤ length s.steps
          within = omega (arith, L.sound.outwards k q there, p.within)

          is_group : group_at s.steps (suc k) ≡ q.group
          is_group = ap group_of there

          own_home : (e : Frame) → opens e ≡ true → home_by hs (suc k) q e ≡ suc k
          own_home (SeqLeft x g scope) h = cc h
          own_home (PruneRight c) h = refl
          own_home (OtherwiseLeft n) h = refl

          feed_home : (e : Frame) → opens e ≡ false → home_by hs (suc k) q e ≡ home hs q.outer
          feed_home (SeqLeft x g scope) h = refl
          feed_home (PruneRight c) h = cc h
          feed_home (OtherwiseLeft n) h = cc h

          by_kind : (b : Bool) → opens q.entered ≡ b → IsPlaced hs groups s.steps q.outer
          by_kind false off =
              record {
                within = within;
                nest = p.nest;
                found = ap groups (sym (G.feeds k q there off) ∙ sym is_group) ∙ p.found;
                step = p.step ∙ G.are_homes k q there ∙ feed_home q.entered off;
              }
          by_kind true own =
              let at : p.nest.step ≡ suc k = p.step ∙ G.are_homes k q there ∙ own_home q.entered own in
              let i = group_at s.steps (suc k) in
              let a = G.nests.above i p.nest k q p.found at there in
              let g = G.listed i p.nest k p.found at in
              let d = G.sides g.0 g.1 in
              let same : d.0 ≡ p.nest = some_same d.0 p.nest (sym d.3 ∙ ap groups g.2 ∙ p.found) in
              let before : d.1 ≡ k = omega (arith, d.5, at, ap (λ (z : Nest). z.step) same) in
              let step : d.2 ≡ q = same_step d.2 q (sym d.6 ∙ ap (slice_get s.steps) before ∙ there) in
              let parent : p.nest.parent ≡ group_at s.steps q.outer = ap (λ (z : Nest). z.parent) (sym same) ∙ d.4 ∙ ap (group_at s.steps) (sym d.7 ∙ ap (λ (z : Step). z.outer) step) in
              record { within = within; nest = a.0; found = ap groups (sym parent) ∙ a.1; step = a.2 }

  pub placed-reach : (n i : ℕ) → IsPlaced hs groups s.steps i → IsPlaced hs groups s.steps (reach s.steps n i)
  placed-reach zero i p = p
  placed-reach (suc n) i p = placed-outer (reach s.steps n i) (placed-reach n i p)

  pub published-grouped : (t : Token) (s' : Records) (ns : List ℕ) (e : Entry) → Crosses s s' t [] [] ns e → AreGrouped (numbers_of s') s'
  published-grouped t s' ns e T = crossed-grouped t s' [] [] ns e T (λ b j. elim j [ ])

  -- the token that comes stands at a step round the one that publishes
  pub sent-grouped : (t : Token) → IsIn t s.tokens → (s' : Records) (b : Token) (ss : List Scope) (ns : List ℕ) (e : Entry) → Crosses s s' t (b ∷ []) ss ns e → (n : ℕ) → reach s.steps n t.step ≡ b.step → AreGrouped (numbers_of s') s'
  sent-grouped t i s' b ss ns e T n way = crossed-grouped t s' (b ∷ []) ss ns e T there
    where
      there : (u : Token) → IsIn u (b ∷ []) → IsPlaced hs groups s.steps u.step
      there u (inl e) = subst (IsPlaced hs groups s.steps) (way ∙ ap (λ (z : Token). z.step) (sym e)) (placed-reach n t.step (placed-token t i))
      there u (inr j) = elim j [ ]

  -- ---- the right side of a cell is dropped

  module _ (c : ℕ) (u : Bound) (s' : Records) (D : Drops (code l) c u s s') where
    abbrev inn : ℕ → Bool
    inn i = inside c (raw_path (code l) s i)

    of_nest : Option Nest → Bool
    of_nest (Some w) = inn w.step
    of_nest Nothing = false

    gone : ℕ → Bool
    gone i = of_nest (groups i)

    gone_is : (i : ℕ) (w : Nest) → groups i ≡ Some w → gone i ≡ inn w.step
    unfolding of_nest gone
    gone_is i w is = ap of_nest is

    at_home : (i : ℕ) → i ≤ length s.steps → inn i ≡ inn (home hs i)
    at_home i le = inn-home (code l) (its_env (code l) s) s.steps hs L.sound.outwards G.are_homes c i i (omega arith) le

    gone_placed : (i : ℕ) → IsPlaced hs groups s.steps i → gone (group_at s.steps i) ≡ inn i
    gone_placed i p = gone_is (group_at s.steps i) p.nest p.found ∙ ap inn p.step ∙ sym (at_home i p.within)

    stays : gone 0 ≡ false
    stays = gone_is 0 G.root.0 G.root.1 ∙ ap inn G.root.2 ∙ ap (inside c) (path-none (code l) (its_env (code l) s) s.steps)

    up : (k : ℕ) (p : Step) → slice_get s.steps k ≡ Some p → inn (suc k) ≡ (aids c p.entered || inn p.outer)
    up k p h = inn-step (code l) (its_env (code l) s) s.steps hs L.sound.outwards G.are_homes c k p h

    closed : (i : ℕ) (n : Nest) (k : ℕ) (p : Step) → groups i ≡ Some n → n.step ≡ suc k → slice_get s.steps k ≡ Some p → gone i ≡ false → gone n.parent ≡ false
    closed i n k p is at h off =
        let a = G.nests.above i n k p is at h in
        let out : inn p.outer ≡ false = (or_false (aids c p.entered) (inn p.outer) (sym (up k p h) ∙ ap inn (sym at) ∙ sym (gone_is i n is) ∙ off)).1 in
        gone_is n.parent a.0 a.1 ∙ ap inn a.2 ∙ sym (at_home p.outer (omega (arith, L.sound.outwards k p h, get-within s.steps k p h))) ∙ out

    or_is : (b x : Bool) → cond b true x ≡ (b || x)
    or_is true x = refl
    or_is false x = refl

    by_side : (e : Frame) (k : Side) (i : ℕ) → IsSide e k → is_inside c (raw_path (code l) s i) k ≡ (aids c e || inn i)
    by_side (SeqLeft x g scope) (Right d) i fit = elim fit [ ]
    by_side (SeqLeft x g scope) (Left n f sc) i fit = elim fit [ ]
    by_side (PruneRight d) (Right e) i fit = ap (λ z. inside c (aiding z (raw_path (code l) s i))) (sym fit) ∙ or_is (nat_eq c d) (inn i)
    by_side (PruneRight d) (Left n f sc) i fit = elim fit [ ]
    by_side (OtherwiseLeft m) (Right d) i fit = elim fit [ ]
    by_side (OtherwiseLeft m) (Left n f sc) i fit = refl

    goes_gone : (g : Group) → IsSided groups s.steps g → group_goes (code l) c s g ≡ gone g.number
    goes_gone g d = by_side d.step.entered g.side g.outer d.fits ∙ ap (λ z. aids c d.step.entered || inn z) (sym d.outer) ∙ sym (up d.before d.step d.there) ∙ ap inn (sym d.at) ∙ sym (gone_is g.number d.nest d.found)

    rest : (w : Group → ℕ) → weight w s'.groups ≡ weight (but (λ (g : Group). gone g.number) w) s.groups
    rest w = D.groups w ∙ none-alike (λ g. not (is_sided groups s.steps g)) (but (group_goes (code l) c s) w) (but (λ (g : Group). gone g.number) w) s.groups (settled-of l sites s L G).nested.sides (λ g f. ap (λ b. cond b 0 (w g)) (goes_gone g (sided-test groups s.steps g (not_false (is_sided groups s.steps g) f))))

    abbrev left : ℕ → Option Nest
    left = open_groups hs groups s.steps s.groups s'.groups (settled-of l sites s L G).nested gone stays closed rest

    -- what has gone, or stands where it stood
    drop_one : (i : ℕ) (b : Bool) → inn i ≡ b → IsPlaced hs groups s.steps i → cond {A = ℕ} (inn i) 0 (cond (not (is_placed hs left s.steps i)) 1 0) ≡ 0
    drop_one i true e p = ap {B = ℕ} (λ b. cond b 0 (cond (not (is_placed hs left s.steps i)) 1 0)) e
    drop_one i false e p =
        ap {B = ℕ} (λ b. cond b 0 (cond (not (is_placed hs left s.steps i)) 1 0)) e
        ∙ ap {B = ℕ} (λ b. cond (not b) 1 0) (test-placed hs left s.steps i (placed-still hs groups s.steps s.groups s'.groups (settled-of l sites s L G).nested gone stays closed rest i p (gone_placed i p ∙ e)))

    pub dropped-grouped : AreGrouped (numbers_of s') s'
    dropped-grouped =
        let S = settled-of l sites s L G in
        grouped-of s' hs left (record {
          nested = subst (λ z. AreNested hs left z s'.groups) (sym D.steps) (nested-closed hs groups s.steps s.groups s'.groups S.nested gone stays closed rest);
          tokens = subst (λ (z : List Step). None (λ (t : Token). not (is_placed hs left z t.step)) s'.tokens) (sym D.steps)
              (D.tokens (only (λ (t : Token). not (is_placed hs left s.steps t.step)) (λ t. 1))
              ∙ none-alike (λ (t : Token). not (is_placed hs groups s.steps t.step)) (but (token_goes (code l) c s) (only (λ (t : Token). not (is_placed hs left s.steps t.step)) (λ t. 1))) (λ t. 0) s.tokens S.tokens (λ t f. drop_one t.step (inn t.step) refl (placed-test hs groups s.steps t.step (not_false (is_placed hs groups s.steps t.step) f)))
              ∙ weight-none (λ t. 0) s.tokens (λ t. refl));
          calls = subst (λ (z : List Step). None (λ (t : Call). not (is_placed hs left z t.step)) s'.calls) (sym D.steps)
              (D.calls (only (λ (t : Call). not (is_placed hs left s.steps t.step)) (λ t. 1))
              ∙ none-alike (λ (t : Call). not (is_placed hs groups s.steps t.step)) (but (call_goes (code l) c s) (only (λ (t : Call). not (is_placed hs left s.steps t.step)) (λ t. 1))) (λ t. 0) s.calls S.calls (λ t f. drop_one t.step (inn t.step) refl (placed-test hs groups s.steps t.step (not_false (is_placed hs groups s.steps t.step) f)))
              ∙ weight-none (λ t. 0) s.calls (λ t. refl));
        })

  -- ---- a group without members closes

  module _ (g : Group) (i : IsIn g s.groups) (empty : members (numbers_of s) s g.number ≡ 0) (s' : Records) (steps : s'.steps ≡ s.steps) (taken : (w : Group → ℕ) → weight w s'.groups + w g ≡ weight w s.groups) where
    its : ℕ → Bool
    its j = nat_eq g.number j

    no_token : None (λ (t : Token). its (group_at s.steps t.step)) s.tokens
    unfolding its
    no_token = omega (arith, empty)

    no_call : None (λ (t : Call). its (group_at s.steps t.step)) s.calls
    unfolding its
    no_call = omega (arith, empty)

    no_child : None (λ (t : Group). its (group_at s.steps t.outer)) s.groups
    unfolding its
    no_child = omega (arith, empty)

    its_stays : its 0 ≡ false
    unfolding its
    its_stays = go (nat_eq g.number 0) refl
      where
        go : (b : Bool) → nat_eq g.number 0 ≡ b → b ≡ false
        go true e =
            let d = G.sides g i in
            let same : d.0 ≡ G.root.0 = some_same d.0 G.root.0 (sym d.3 ∙ ap groups (eqb-true g.number 0 e) ∙ G.root.1) in
            absurd (omega (arith, d.5, G.root.2, ap (λ (z : Nest). z.step) same))
        go false e = refl

    its_closed : (j : ℕ) (n : Nest) (k : ℕ) (p : Step) → groups j ≡ Some n → n.step ≡ suc k → slice_get s.steps k ≡ Some p → its j ≡ false → its n.parent ≡ false
    its_closed j n k p is at h off =
        let b = G.listed j n k is at in
        let d = G.sides b.0 b.1 in
        let same : d.0 ≡ n = some_same d.0 n (sym d.3 ∙ ap groups b.2 ∙ is) in
        ap its (ap (λ (z : Nest). z.parent) (sym same) ∙ d.4) ∙ none-in (λ (t : Group). its (group_at s.steps t.outer)) s.groups b.0 no_child b.1

    -- one group alone has the number
    only_one : (w : Group → ℕ) (gs : List Group) → IsIn g gs → weight (λ (h : Group). is_this g.number h.number) gs ≤ 1 → weight (only (λ (h : Group). its h.number) w) gs ≡ w g
    unfolding its
    only_one w [] j few = elim j [ ]
    only_one w (h ∷ gs) (inl e) few =
        let here : nat_eq g.number h.number ≡ true = eq-eqb g.number h.number (ap (λ (z : Group). z.number) e) in
        let none : weight (λ (z : Group). is_this g.number z.number) gs ≡ 0 = omega (arith, few, ap {B = ℕ} (λ b. cond b 1 0) here) in
        omega (
          arith,
          ap {B = ℕ} (λ b. cond b (w h) 0) here,
          ap w e,
          none-alike (λ (z : Group). nat_eq g.number z.number) (only (λ (z : Group). nat_eq g.number z.number) w) (λ z. 0) gs none (λ z f. ap {B = ℕ} (λ b. cond b (w z) 0) f),
          weight-none (λ z. 0) gs (λ z. refl),
        )
    only_one w (h ∷ gs) (inr j) few =
        let some = weight-in (λ (z : Group). is_this g.number z.number) gs g j in
        let mine = this_is g.number g.number refl in
        let off : nat_eq g.number h.number ≡ false = not_here (nat_eq g.number h.number) (omega (arith, few, some, mine)) in
        omega (arith, ap {B = ℕ} (λ b. cond b (w h) 0) off, only_one w gs j (omega (arith, few)))
      where
        not_here : (b : Bool) → cond {A = ℕ} b 1 0 ≡ 0 → b ≡ false
        not_here true e = absurd (omega (arith, e))
        not_here false e = refl

    its_rest : (w : Group → ℕ) → weight w s'.groups ≡ weight (but (λ (h : Group). its h.number) w) s.groups
    its_rest w = omega (arith, taken w, weight-parts (λ (h : Group). its h.number) w s.groups, only_one w s.groups i (G.once g.number))

    abbrev remain : ℕ → Option Nest
    remain = open_groups hs groups s.steps s.groups s'.groups (settled-of l sites s L G).nested its its_stays its_closed its_rest

    remains : (j : ℕ) → IsPlaced hs groups s.steps j → its (group_at s.steps j) ≡ false → IsPlaced hs remain s.steps j
    remains j p off = placed-still hs groups s.steps s.groups s'.groups (settled-of l sites s L G).nested its its_stays its_closed its_rest j p off

    tokens_remain : None (λ (t : Token). not (is_placed hs remain s.steps t.step)) s.tokens
    tokens_remain =
        none-weaker (λ (t : Token). not (is_placed hs groups s.steps t.step) || its (group_at s.steps t.step)) (λ (t : Token). not (is_placed hs remain s.steps t.step)) s.tokens
        (none_both (λ (t : Token). not (is_placed hs groups s.steps t.step)) (λ (t : Token). its (group_at s.steps t.step)) s.tokens (settled-of l sites s L G).tokens no_token)
        (λ t f. let b = or_false (not (is_placed hs groups s.steps t.step)) (its (group_at s.steps t.step)) f in ap not (test-placed hs remain s.steps t.step (remains t.step (placed-test hs groups s.steps t.step (not_false (is_placed hs groups s.steps t.step) b.0)) b.1)))

    calls_remain : None (λ (t : Call). not (is_placed hs remain s.steps t.step)) s.calls
    calls_remain =
        none-weaker (λ (t : Call). not (is_placed hs groups s.steps t.step) || its (group_at s.steps t.step)) (λ (t : Call). not (is_placed hs remain s.steps t.step)) s.calls
        (none_both (λ (t : Call). not (is_placed hs groups s.steps t.step)) (λ (t : Call). its (group_at s.steps t.step)) s.calls (settled-of l sites s L G).calls no_call)
        (λ t f. let b = or_false (not (is_placed hs groups s.steps t.step)) (its (group_at s.steps t.step)) f in ap not (test-placed hs remain s.steps t.step (remains t.step (placed-test hs groups s.steps t.step (not_false (is_placed hs groups s.steps t.step) b.0)) b.1)))

    pub emptied-grouped : (births : List Token) → ((w : Token → ℕ) → weight w s'.tokens ≡ weight w s.tokens + weight w births) → ((b : Token) → IsIn b births → b.step ≡ g.outer) → s'.calls ≡ s.calls → AreGrouped (numbers_of s') s'
    emptied-grouped births tokens at calls =
        let outer : IsPlaced hs remain s.steps g.outer = remains g.outer (placed-group g i) (none-in (λ (t : Group). its (group_at s.steps t.outer)) s.groups g no_child i) in
        grouped-of s' hs remain (record {
          nested = subst (λ z. AreNested hs remain z s'.groups) (sym steps) (nested-closed hs groups s.steps s.groups s'.groups (settled-of l sites s L G).nested its its_stays its_closed its_rest);
          tokens = subst (λ (z : List Step). None (λ (t : Token). not (is_placed hs remain z t.step)) s'.tokens) (sym steps)
              (omega (arith, tokens (only (λ (t : Token). not (is_placed hs remain s.steps t.step)) (λ t. 1)), tokens_remain, all-of (λ (t : Token). is_placed hs remain s.steps t.step) births (λ b j. test-placed hs remain s.steps b.step (subst (IsPlaced hs remain s.steps) (sym (at b j)) outer))));
          calls = subst (λ (z : List Step). None (λ (t : Call). not (is_placed hs remain z t.step)) s'.calls) (sym steps) (subst (None (λ (t : Call). not (is_placed hs remain s.steps t.step))) (sym calls) calls_remain);
        })

  -- the right side of an otherwise starts
  pub resumed-grouped : (g : Group) → IsIn g s.groups → members (numbers_of s) s g.number ≡ 0 → (n node scope : ℕ) (s' : Records) → Resumes s s' g n node scope → AreGrouped (numbers_of s') s'
  resumed-grouped g i empty n node scope s' T =
      emptied-grouped g i empty s' T.steps T.groups (record { serial = s.next_mark; standing = At node scope; step = g.outer } ∷ []) (λ w. omega (arith, T.tokens w)) at T.calls
    where
      at : (b : Token) → IsIn b (record { serial = s.next_mark; standing = At node scope; step = g.outer } ∷ []) → b.step ≡ g.outer
      at b (inl e) = ap (λ (z : Token). z.step) e
      at b (inr j) = elim j [ ]

  -- a group that a publication has left closes
  pub closed-grouped : (g : Group) → IsIn g s.groups → members (numbers_of s) s g.number ≡ 0 → (s' : Records) → Closes s s' g → AreGrouped (numbers_of s') s'
  closed-grouped g i empty s' T = emptied-grouped g i empty s' T.steps T.groups [] (λ w. omega (arith, ap (weight w) T.tokens)) (λ b j. elim j [ ]) T.calls
