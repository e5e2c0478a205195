-- How many members each group has after each kind of change.
use Rattle.std.proofs.Common.{◌≡◌, ◌≤◌, ℕ, zero, suc, ◌+◌, List, [], ◌∷◌, ◌++◌, refl, sym, ap, ◌∙◌, subst, arith, inl, inr, length}
use Rattle.std.specs.Prelude.{nat_lt}
use Rattle.std.proofs.lemmas.Bool.{ltb-false}
use Rattle.orc_rules.specs.declared.entry.Entry.{Entry}
use Rattle.orc_rules.specs.Nodes.{Listing}
use Rattle.orc_rules.specs.Sites.{Site}
use Rattle.orc_rules.specs.Timed.{IsIn}
use Rattle.orc_env.specs.declared.names.Bound.{Bound}
use Rattle.orc_env.specs.declared.names.Scope.{Scope}
use Rattle.orc_indexes.specs.Same.{weight, is_this}
use Rattle.orc_ledger_spec.specs.Records.{Records, Sound, Lawful, token_out, call_out, group_out, side_out}
use Rattle.orc_frames.specs.Paths.{is_out}
use Rattle.orc_tables.specs.Steps.{group_at}
use Rattle.orc_ledger_spec.specs.Calls.{Turns, Crosses, Exchanges, Resumes, Closes, HasRoom}
use Rattle.orc_ledger_spec.specs.Kept.{Kept}
use Rattle.orc_ledger_spec.specs.Next.{AreGrouped, numbers_of, members, AreSizes}
use Rattle.orc_tables.specs.OpenGroups.{is_named, IsOpen, size_of, tokens_in, calls_in, groups_in}
use Rattle.orc_tables.specs.declared.records.Token.{Token}
use Rattle.orc_tables.specs.declared.records.Call.{Call}
use Rattle.orc_tables.specs.declared.records.Step.{Step}
use Rattle.orc_tables.specs.declared.records.Group.{Group}
use Rattle.orc_indexes.proofs.Weight.{weight-in, weight-append, weight-same, none-alike, this_is, one-most}
use Rattle.orc_frames.proofs.Growth.{or_false}
use Rattle.orc_ledger_spec.proofs.Someone.{token_within}
use Rattle.orc_ledger_spec.proofs.Places.{IsPlaced}
use Rattle.orc_ledger_spec.proofs.Nests.{alike-group, group-kept}
use Rattle.orc_ledger_spec.proofs.Grouped.{placed-token, placed-reach}
use Rattle.orc_frames.specs.Taking.{reach}

-- ---- the same records, with more steps

module _ (s : Records) (S : Sound s) (ps : List Step) (i : ℕ) where
  tokens_kept : tokens_in (s.steps ++ ps) s.tokens i ≡ tokens_in s.steps s.tokens i
  tokens_kept = none-alike (token_out (length s.scopes) (length s.steps)) (λ (t : Token). is_this i (group_at (s.steps ++ ps) t.step)) (λ (t : Token). is_this i (group_at s.steps t.step)) s.tokens S.tokens (λ t h. ap (is_this i) (group-kept s.steps ps t.step (ltb-false (length s.steps) t.step (or_false (is_out (length s.scopes) t.standing) (nat_lt (length s.steps) t.step) h).1)))

  calls_kept : calls_in (s.steps ++ ps) s.calls i ≡ calls_in s.steps s.calls i
  calls_kept = none-alike (call_out (length s.steps)) (λ (c : Call). is_this i (group_at (s.steps ++ ps) c.step)) (λ (c : Call). is_this i (group_at s.steps c.step)) s.calls S.calls (λ c h. ap (is_this i) (group-kept s.steps ps c.step (ltb-false (length s.steps) c.step h)))

  groups_kept : groups_in (s.steps ++ ps) s.groups i ≡ groups_in s.steps s.groups i
  groups_kept = none-alike (group_out (length s.scopes) (length s.steps)) (λ (g : Group). is_this i (group_at (s.steps ++ ps) g.outer)) (λ (g : Group). is_this i (group_at s.steps g.outer)) s.groups S.groups (λ g h. ap (is_this i) (group-kept s.steps ps g.outer (ltb-false (length s.steps) g.outer (or_false (side_out (length s.scopes) g.side) (nat_lt (length s.steps) g.outer) h).1)))

  pub members-kept : members (numbers_of (record s { steps = s.steps ++ ps })) (record s { steps = s.steps ++ ps }) i ≡ members (numbers_of s) s i
  members-kept = omega (arith, tokens_kept, calls_kept, groups_kept)

-- a token goes and others come, with groups
pub turned-members : (s s' : Records) (S : Sound s) (t : Token) → IsIn t s.tokens → (births : List Token) (ss : List Scope) (ps : List Step) (gs : List Group) (cs : List Bound) (e : Entry) → Turns s s' t births ss ps gs cs e
    → (i : ℕ) → members (numbers_of s') s' i + is_this i (group_at s.steps t.step) ≡ members (numbers_of s) s i + tokens_in (s.steps ++ ps) births i + groups_in (s.steps ++ ps) gs i
turned-members s s' S t at births ss ps gs cs e T i =
    let more = s.steps ++ ps in
    let mine : is_this i (group_at more t.step) ≡ is_this i (group_at s.steps t.step) = ap (is_this i) (group-kept s.steps ps t.step (token_within s S t at)) in
    let tokens : tokens_in s'.steps s'.tokens i ≡ tokens_in more s'.tokens i = ap (λ z. tokens_in z s'.tokens i) T.steps in
    let calls : calls_in s'.steps s'.calls i ≡ calls_in more s.calls i = (λ k. calls_in (T.steps k) (T.calls k) i) in
    let groups : groups_in s'.steps s'.groups i ≡ groups_in more s'.groups i = ap (λ z. groups_in z s'.groups i) T.steps in
    omega (arith, tokens, calls, groups, mine, T.tokens (λ (u : Token). is_this i (group_at more u.step)), T.groups (λ (g : Group). is_this i (group_at more g.outer)), tokens_kept s S ps i, calls_kept s S ps i, groups_kept s S ps i)

-- a token publishes: the steps have other marks alone
pub crossed-members : (s s' : Records) (t : Token) (births : List Token) (ss : List Scope) (ns : List ℕ) (e : Entry) → Crosses s s' t births ss ns e
    → (i : ℕ) → members (numbers_of s') s' i + is_this i (group_at s.steps t.step) ≡ members (numbers_of s) s i + tokens_in s.steps births i
crossed-members s s' t births ss ns e T i =
    let same : (j : ℕ) → group_at s'.steps j ≡ group_at s.steps j = alike-group s.steps s'.steps (sym T.steps.alike) in
    let tokens : tokens_in s'.steps s'.tokens i ≡ tokens_in s.steps s'.tokens i = weight-same (λ (u : Token). is_this i (group_at s'.steps u.step)) (λ (u : Token). is_this i (group_at s.steps u.step)) s'.tokens (λ u. ap (is_this i) (same u.step)) in
    let calls : calls_in s'.steps s'.calls i ≡ calls_in s.steps s.calls i = ap (λ z. calls_in s'.steps z i) T.calls ∙ weight-same (λ (c : Call). is_this i (group_at s'.steps c.step)) (λ (c : Call). is_this i (group_at s.steps c.step)) s.calls (λ c. ap (is_this i) (same c.step)) in
    let groups : groups_in s'.steps s'.groups i ≡ groups_in s.steps s.groups i = ap (λ z. groups_in s'.steps z i) T.groups ∙ weight-same (λ (g : Group). is_this i (group_at s'.steps g.outer)) (λ (g : Group). is_this i (group_at s.steps g.outer)) s.groups (λ g. ap (is_this i) (same g.outer)) in
    omega (arith, tokens, calls, groups, T.tokens (λ (u : Token). is_this i (group_at s.steps u.step)))

-- tokens and calls go and others come
pub exchanged-members : (s s' : Records) (ts ts' : List Token) (cs cs' : List Call) (made : ℕ) (e : Entry) → Exchanges s s' ts ts' cs cs' made e
    → (i : ℕ) → members (numbers_of s') s' i + tokens_in s.steps ts i + calls_in s.steps cs i ≡ members (numbers_of s) s i + tokens_in s.steps ts' i + calls_in s.steps cs' i
exchanged-members s s' ts ts' cs cs' made e T i =
    let tokens : tokens_in s'.steps s'.tokens i ≡ tokens_in s.steps s'.tokens i = ap (λ z. tokens_in z s'.tokens i) T.steps in
    let calls : calls_in s'.steps s'.calls i ≡ calls_in s.steps s'.calls i = ap (λ z. calls_in z s'.calls i) T.steps in
    let groups : groups_in s'.steps s'.groups i ≡ groups_in s.steps s.groups i = (λ k. groups_in (T.steps k) (T.groups k) i) in
    omega (arith, tokens, calls, groups, T.tokens (λ (u : Token). is_this i (group_at s.steps u.step)), T.calls (λ (c : Call). is_this i (group_at s.steps c.step)))

-- a left side goes, and its right side starts in the group round it
pub resumed-members : (s s' : Records) (g : Group) (n node scope : ℕ) → Resumes s s' g n node scope → (i : ℕ) → members (numbers_of s') s' i ≡ members (numbers_of s) s i
resumed-members s s' g n node scope T i =
    let tokens : tokens_in s'.steps s'.tokens i ≡ tokens_in s.steps s'.tokens i = ap (λ z. tokens_in z s'.tokens i) T.steps in
    let calls : calls_in s'.steps s'.calls i ≡ calls_in s.steps s.calls i = (λ k. calls_in (T.steps k) (T.calls k) i) in
    let groups : groups_in s'.steps s'.groups i ≡ groups_in s.steps s'.groups i = ap (λ z. groups_in z s'.groups i) T.steps in
    omega (arith, tokens, calls, groups, T.tokens (λ (u : Token). is_this i (group_at s.steps u.step)), T.groups (λ (h : Group). is_this i (group_at s.steps h.outer)))

-- a group goes
pub closed-members : (s s' : Records) (g : Group) → Closes s s' g → (i : ℕ) → members (numbers_of s') s' i + is_this i (group_at s.steps g.outer) ≡ members (numbers_of s) s i
closed-members s s' g T i =
    let tokens : tokens_in s'.steps s'.tokens i ≡ tokens_in s.steps s.tokens i = (λ k. tokens_in (T.steps k) (T.tokens k) i) in
    let calls : calls_in s'.steps s'.calls i ≡ calls_in s.steps s.calls i = (λ k. calls_in (T.steps k) (T.calls k) i) in
    let groups : groups_in s'.steps s'.groups i ≡ groups_in s.steps s'.groups i = ap (λ z. groups_in z s'.groups i) T.steps in
    omega (arith, tokens, calls, groups, T.groups (λ (h : Group). is_this i (group_at s.steps h.outer)))

-- ---- a size fits where there is room

few_of : {X : Type 0} (w : X → ℕ) (xs : List X) → ((x : X) → w x ≤ 1) → weight w xs ≤ length xs
few_of w [] h = omega arith
few_of w (x ∷ xs) h = omega (arith, h x, few_of w xs h)

pub size-few : (s : Records) (sizes : List ℕ) (tokens groups depth : ℕ) → AreSizes sizes s → HasRoom s tokens groups depth → (i : ℕ) → size_of sizes i ≤ 66559
size-few s sizes tokens groups depth sized room i =
    omega (
      arith,
      sized i,
      room.0,
      room.1,
      few_of (λ (t : Token). is_this i (group_at s.steps t.step)) s.tokens (λ t. one-most i (group_at s.steps t.step)),
      few_of (λ (c : Call). is_this i (group_at s.steps c.step)) s.calls (λ c. one-most i (group_at s.steps c.step)),
      few_of (λ (g : Group). is_this i (group_at s.steps g.outer)) s.groups (λ g. one-most i (group_at s.steps g.outer)),
    )

-- ---- the groups of tokens are open

module _ (l : Listing) (sites : List Site) (s : Records) (L : Lawful l sites s) (G : AreGrouped (numbers_of s) s) where
  open_placed : (j : ℕ) → IsPlaced G.homes G.groups s.steps j → IsOpen s.groups (group_at s.steps j)
  open_placed j p = by_step p.nest.step refl
    where
      by_step : (k : ℕ) → p.nest.step ≡ k → IsOpen s.groups (group_at s.steps j)
      by_step zero e = inl (G.nests.root (group_at s.steps j) p.nest p.found e)
      by_step (suc k) e = let g = G.listed (group_at s.steps j) p.nest k p.found e in inr (omega (arith, weight-in (is_named (group_at s.steps j)) s.groups g.0 g.1, this_is (group_at s.steps j) (Group.number g.0) (sym g.2)))

  pub open-token : (t : Token) → IsIn t s.tokens → IsOpen s.groups (group_at s.steps t.step)
  open-token t i = open_placed t.step (placed-token l sites s L G t i)

  pub open-reach : (t : Token) → IsIn t s.tokens → (n j : ℕ) → reach s.steps n t.step ≡ j → IsOpen s.groups (group_at s.steps j)
  open-reach t i n j way = ap_open (open_placed (reach s.steps n t.step) (placed-reach l sites s L G n t.step (placed-token l sites s L G t i)))
    where
      ap_open : IsOpen s.groups (group_at s.steps (reach s.steps n t.step)) → IsOpen s.groups (group_at s.steps j)
      ap_open h = subst (λ z. IsOpen s.groups (group_at s.steps z)) way h

pub open-more : (gs : List Group) (g : Group) (i : ℕ) → IsOpen gs i → IsOpen (gs ++ g ∷ []) i
open-more gs g i (inl e) = inl e
open-more gs g i (inr h) = inr (omega (arith, h, weight-append (is_named i) gs (g ∷ [])))

pub open-new : (gs : List Group) (g : Group) → IsOpen (gs ++ g ∷ []) g.number
open-new gs g = inr (omega (arith, weight-append (is_named g.number) gs (g ∷ []), this_is g.number g.number refl))

-- the same records, and the same sizes in another table
pub kept-still : (l : Listing) (sites : List Site) (counts : List (List ℕ × ℕ)) (sizes sizes' : List ℕ) (s s' : Records) → Kept l sites counts sizes s → s ≡ s' → ((i : ℕ) → size_of sizes' i ≡ size_of sizes i) → Kept l sites counts sizes' s'
kept-still l sites counts sizes sizes' s s' K same still = subst (Kept l sites counts sizes') same (record { lawful = K.lawful; grouped = K.grouped; told = K.told; counted = K.counted; sized = λ i. still i ∙ K.sized i; brought = K.brought })
