-- The time goes on to the next due time.
use Rattle.std.proofs.Common.{◌≡◌, ◌<◌, ◌+◌, ℕ, zero, suc, List, [], ◌∷◌, map, length, Option, Some, None, refl, sym, ap, ◌∙◌, subst, inl, inr, ⊎_elim, arith, Bool, true, false, length-append}
use Rattle.std.specs.Prelude.{slice_get}
use Rattle.orc_rules.specs.declared.value.Found.{Found}
use Rattle.orc_rules.specs.declared.entry.Entry.TheVariants as entry
use Rattle.orc_rules.specs.Term.{Term, Definition, pending_of}
use Rattle.orc_rules.specs.Marked.{erase}
use Rattle.orc_rules.specs.Idle.{can_move}
use Rattle.orc_rules.specs.Sites.{Site}
use Rattle.orc_rules.specs.Timed.{Context, CallMade, IsIn, says_of}
use Rattle.orc_rules.specs.Journal.{Place, moment}
use Rattle.orc_rules.specs.Lost.{IsSource}
use Rattle.orc_rules.specs.Pending.{PendsDue, IsNextDue}
use Rattle.orc_rules.specs.Tests.{TickByTest}
use Rattle.orc_term.specs.declared.arena.Node.{Node}
use Rattle.orc_term.specs.declared.arena.Kind.{Kind}
use Rattle.orc_term.specs.declared.arena.Kind.TheVariants.{Leaf, One, Two}
use Rattle.orc_term.specs.declared.arena.Tip.TheVariants.{Gone, Ended, Token, Bears, Waits}
use Rattle.orc_checker.specs.declared.rest.Called.{Called}
use Rattle.orc_term.specs.Arena.{at, leaf, spelled}
use Rattle.orc_env.specs.Scopes.{env_of}
use Rattle.orc_checker.specs.Calls.{AreNumbered, told, told_of}
use Rattle.orc_checker.specs.Checker.{State, Spells, Follows}
use Rattle.orc_term.specs.Settling.{kind_at}
use Rattle.orc_checker.specs.NextDue.{IsDueAt, IsNext}
use Rattle.orc_checker.specs.Stillness.{token_moves, AreStill, DoStir, HasScope}
use Rattle.orc_term.proofs.Lists.{get-append, get-end, get-more}
use Rattle.orc_checker.proofs.Change.{says_of as found_there}
use Rattle.orc_checker.proofs.Pends.{waits_for, pends_around}
use Rattle.orc_term.specs.Asking.{AreOfNodes}
use Rattle.orc_checker.proofs.Moves.{scope_there}
use Rattle.orc_checker.proofs.Moving.{kind_of, moves_are, tokens_stir}

length-told : (sites : List Site) (calls : List CallMade) → length (told_of sites calls) ≡ length calls
length-told sites [] = refl
length-told sites (c ∷ cs) = omega (arith, length-append (told_of sites cs) ((says_of sites c, c.at) ∷ []), length-told sites cs)

-- a call that was made, by its number
record Told (sites : List Site) (calls : List CallMade) (c : CallMade) : Type 0 where
  index : ℕ
  number : c.number ≡ suc index
  there : slice_get (told_of sites calls) index ≡ Some (says_of sites c, c.at)

told_there : (sites : List Site) (calls : List CallMade) (c : CallMade) → AreNumbered calls → IsIn c calls → Told sites calls c
told_there sites [] c n h = elim h [ ]
told_there sites (d ∷ cs) c n (inl e) =
    record {
      index = length cs;
      number = ap CallMade.number e ∙ n.0;
      there = get-end (told_of sites cs) ((says_of sites d, d.at) ∷ []) (length cs) (sym (length-told sites cs)) ∙ (λ j. Some (says_of sites (sym e j), CallMade.at (sym e j)));
    }
told_there sites (d ∷ cs) c n (inr h) =
    let t = told_there sites cs c n.1 h in
    record { index = t.index; number = t.number; there = get-append (told_of sites cs) ((says_of sites d, d.at) ∷ []) t.index _ t.there }

record Made (sites : List Site) (calls : List CallMade) (i : ℕ) (t : Found × ℕ) : Type 0 where
  by : CallMade
  is_made : IsIn by calls
  number : by.number ≡ suc i
  tells : (says_of sites by, by.at) ≡ t

made_there : (sites : List Site) (calls : List CallMade) (i : ℕ) (t : Found × ℕ) → AreNumbered calls → slice_get (told_of sites calls) i ≡ Some t → Made sites calls i t
made_there sites [] i t n h = cc h
made_there sites (c ∷ cs) i t n h =
    ⊎_elim
    (λ e. let m = made_there sites cs i t n.1 e in record { by = m.by; is_made = inr m.is_made; number = m.number; tells = m.tells })
    (λ e. record { by = c; is_made = inl refl; number = n.0 ∙ ap suc (sym (e.0 ∙ length-told sites cs)); tells = e.1 })
    (get-more (told_of sites cs) (says_of sites c, c.at) i t h)

map_there : (calls : List Called) (i : ℕ) (c : Called) → slice_get calls i ≡ Some c → slice_get (map told calls) i ≡ Some (told c)
map_there [] i c h = cc h
map_there (d ∷ calls) zero c h = ap (told_some d) h
  where
    told_some : Called → Option Called → Option (Found × ℕ)
    told_some d (Some z) = Some (told z)
    told_some d None = None
map_there (d ∷ calls) (suc i) c h = map_there calls i c h

record Kept (calls : List Called) (i : ℕ) (t : Found × ℕ) : Type 0 where
  by : Called
  there : slice_get calls i ≡ Some by
  tells : told by ≡ t

same_some : {X : Type 0} (x y : X) → Some x ≡ Some y → x ≡ y
same_some x y e = cc e

kept_there : (calls : List Called) (i : ℕ) (t : Found × ℕ) → slice_get (map told calls) i ≡ Some t → Kept calls i t
kept_there [] i t h = cc h
kept_there (d ∷ calls) zero t h = record { by = d; there = refl; tells = same_some (told d) t h }
kept_there (d ∷ calls) (suc i) t h = let k = kept_there calls i t h in record { by = k.by; there = k.there; tells = k.tells }

kind_there : (nodes : List Node) (i k : ℕ) → kind_at nodes i ≡ Leaf (Waits k) → (q : ℕ) × at nodes q i (Leaf (Waits k))
kind_there [] i k h = absurd (cc h)
kind_there (x ∷ nodes) zero k h = (x.parent, λ j. Some (record { kind = h j; parent = x.parent }))
kind_there (x ∷ nodes) (suc i) k h = kind_there nodes i k h

module _ (x : Context) (code : ℕ → Term) (s : State) (p : Place) (sp : Spells x code s p) (source : (i : ℕ) → IsSource (code i)) where
  -- a node that waits shows a call that pends
  pub node_pends : (i q k : ℕ) → at s.nodes q i (Leaf (Waits k)) → IsIn k (pending_of (erase p.marked))
  node_pends i q k a =
      let dr = sp.drawn in
      let f = found_there s.nodes (length s.scopes) 0 i q (Waits k) dr.tree dr.holds dr.once a refl in
      subst (λ z. IsIn k (pending_of (erase z))) (ap (spelled code (env_of s.cells s.scopes)) f.is ∙ sym dr.marked) (pends_around code (env_of s.cells s.scopes) source k f.context (leaf i (Waits k)) (inl refl))

  -- a node that waits shows a call that pends and is due
  pub due_pends : (i t : ℕ) → IsDueAt s.nodes s.rest.calls i t → PendsDue x (moment p) t
  due_pends i t (k, is, d) =
      let w = kind_there s.nodes i k is in
      let r = sp.rest in
      let m = made_there x.sites p.calls d.index (told d.by) r.numbered (ap (λ z. slice_get z d.index) (sym r.calls_are) ∙ map_there s.rest.calls d.index d.by d.there) in (
        k,
        d.time.0,
        node_pends i w.0 k w.1,
        record {
          by = m.by;
          is_made = m.is_made;
          is_k = m.number ∙ sym d.is_k;
          delay = d.time.1.delay;
          says = ap (λ z. z.0) m.tells ∙ d.time.1.says;
          sum = d.time.1.sum ∙ ap (λ z. z + d.time.1.delay) (sym (ap (λ z. z.1) m.tells));
          fits = d.time.1.fits;
        },
      )

  pub pends_due : (t : ℕ) → PendsDue x (moment p) t → (i : ℕ) × IsDueAt s.nodes s.rest.calls i t
  pends_due t (k, a, pends, due) =
      let dr = sp.drawn in
      let env = env_of s.cells s.scopes in
      let w = waits_for code env source s.nodes (length s.scopes) 0 k dr.tree dr.holds (subst (λ z. IsIn k (pending_of (erase z))) dr.marked pends) in
      let r = sp.rest in
      let o = told_there x.sites p.calls due.by r.numbered due.is_made in
      let c = kept_there s.rest.calls o.index (says_of x.sites due.by, CallMade.at due.by) (ap (λ z. slice_get z o.index) r.calls_are ∙ o.there) in (
        w.0,
        (
          k,
          kind_of s.nodes w.0 w.1 (Leaf (Waits k)) w.2,
          record {
            index = o.index;
            is_k = sym due.is_k ∙ o.number;
            by = c.by;
            there = c.there;
            time =
                (a, record { delay = due.delay; says = ap (λ z. z.0) c.tells ∙ due.says; sum = due.sum ∙ ap (λ z. z + due.delay) (sym (ap (λ z. z.1) c.tells)); fits = due.fits });
          },
        ),
      )

  pub next_is : (o : Option ℕ) → IsNext s.nodes s.rest.calls o → IsNextDue x (moment p) o
  next_is None h = λ t d. let w = pends_due t d in h w.0 t w.1
  next_is (Some t) h = (due_pends h.0.0 t h.0.1, λ u d. let w = pends_due u d in h.1 w.0 u w.1)

-- whether some node can move says whether the term can
pub movement : (x : Context) (code : ℕ → Term) (s : State) (p : Place) (defs : List Definition) (b : Bool) → Spells x code s p → DoStir defs code s.cells s.scopes s.flags s.nodes b → b ≡ can_move defs (erase p.marked)
movement x code s p defs b sp m =
    let d = sp.drawn in
    moves_are defs code s.cells s.scopes s.flags s.halts s.nodes d.flags.are_halts d.flags.len (length s.scopes) 0 d.tree d.holds d.flags.each d.once b m ∙ ap (λ z. can_move defs (erase z)) (sym d.marked)

token_there : (nodes : List Node) (i m f e : ℕ) → kind_at nodes i ≡ Leaf (Token m f e) → (q : ℕ) × at nodes q i (Leaf (Token m f e))
token_there [] i m f e h = absurd (cc h)
token_there (x ∷ nodes) zero m f e h = (x.parent, λ j. Some (record { kind = h j; parent = x.parent }))
token_there (x ∷ nodes) (suc i) m f e h = token_there nodes i m f e h

-- where the term can't move, no token can, and each has its scope
pub all_still : (x : Context) (code : ℕ → Term) (s : State) (p : Place) (kinds : List Kind) → Spells x code s p → can_move x.definitions (erase p.marked) ≡ false → AreOfNodes s.nodes kinds → AreStill x.definitions code s.cells s.scopes kinds
all_still x code s p kinds sp still of k is =
    let w = of k is in
    (go (token_moves x.definitions code s.cells s.scopes k) refl w.0 w.1, inside k w.0 w.1)
  where
    go : (b : Bool) → token_moves x.definitions code s.cells s.scopes k ≡ b → (i : ℕ) → kind_at s.nodes i ≡ k → token_moves x.definitions code s.cells s.scopes k ≡ false
    go false e i h = e
    go true e i h =
        let m = tokens_stir x.definitions code s.cells s.scopes s.flags s.nodes (i, ap (token_moves x.definitions code s.cells s.scopes) h ∙ e) in
        absurd (cc (movement x code s p x.definitions true sp m ∙ still))

    inside : (k : Kind) (i : ℕ) → kind_at s.nodes i ≡ k → HasScope (length s.scopes) k
    inside (Leaf Gone) i h = tt
    inside (Leaf Ended) i h = tt
    inside (Leaf (Token m f e)) i h = let w = token_there s.nodes i m f e h in scope_there code s p.marked sp.drawn i w.0 m f e w.1
    inside (Leaf (Bears m v)) i h = tt
    inside (Leaf (Waits k)) i h = tt
    inside (One a j) i h = tt
    inside (Two a j l) i h = tt

pub tick-follows : (x : Context) (code : ℕ → Term) (s s' : State) (t : ℕ) (kinds : List Kind) → ((i : ℕ) → IsSource (code i)) → TickByTest → s.rest.to_cancel ≡ []
    → ((p : Place) → Spells x code s p → can_move x.definitions (erase p.marked) ≡ false) → IsNext s.nodes s.rest.calls (Some t) → s.rest.time < t
    → AreOfNodes s.nodes kinds → s' ≡ record s { asked = kinds; rest = record (State.rest s) { time = t } } → Follows x code (entry.Tick t) s s'
tick-follows x code s s' t kinds source law free still next later of is p sp =
    let tick = (law x (moment p) (Some t) (next_is x code s p sp source (Some t) next) t).1
    (still p sp, refl, omega (arith, later, sp.rest.time)) in
    let r = sp.rest in (
      record p { now = t },
      (inr (r.due ∙ free), (tick, refl)),
      subst (λ z. Spells x code z (record p { now = t })) (sym is)
          (record {
            drawn = record { tree = sp.drawn.tree; holds = sp.drawn.holds; root = sp.drawn.root; once = sp.drawn.once; top = sp.drawn.top; marked = sp.drawn.marked; flags = sp.drawn.flags };
            mark = sp.mark;
            scopes = sp.scopes;
            cells = sp.cells;
            rest = record { time = refl; calls_are = r.calls_are; counted = r.counted; numbered = r.numbered; due = r.due; cancels_are = r.cancels_are };
            still = all_still x code s p kinds sp (still p sp) of;
          }),
    )
