-- A program's terms name no cell, so that they are seen the same wherever they stand.
use Rattle.std.proofs.Common.{◌≡◌, ℕ, zero, suc, List, [], ◌∷◌, ◌++◌, map, get_or, Some, refl, sym, ap, subst}
use Rattle.std.specs.Prelude.{is_some, slice_get}
use Rattle.orc_rules.specs.declared.param.Operand.{Operand}
use Rattle.orc_rules.specs.declared.param.Operand.TheVariants.{Name, Is}
use Rattle.orc_rules.specs.declared.program.TermNode.{TermNode}
use Rattle.orc_rules.specs.declared.program.TermNode.TheVariants.{Stop, Operand as On, Site, Call, Par, Seq, Prune, Other}
use Rattle.orc_rules.specs.Term.{Term, stop, par, seq, prune, other, Definition}
use Rattle.orc_rules.specs.Nodes.{Listing, Routine, code, definition_of, definitions, source, param_of, unfold_node, terms_from}
use Rattle.orc_rules.specs.Step.{Used}
use Rattle.orc_rules.specs.Timed.{used, start}
use Rattle.orc_rules.specs.Lost.{IsSource}
use Rattle.orc_search.specs.Small.{Out, both, feeds, prunes, instead, asks, enters, gives}
use Rattle.orc_search.specs.Seen.{seen_param, seen, IsGiven, AreGiven, IsSound}
use Rattle.orc_search.specs.Ticks.{IsAround, AreAround, IsScoped}
use Rattle.orc_search.specs.Programs.{small, small_definition, ProgramIsReady}

-- what the laws ask of a body
record IsPlain (t : Term) : Type 0 where
  is_source : IsSource t
  sound : (used : Used) → IsSound used t
  scoped : IsScoped [] t
  same : (out : ℕ → Out) (cs : List ℕ) → seen out cs t ≡ small t

abbrev AllPlain : List Term → Type 0
AllPlain [] = Unit {0}
AllPlain (t ∷ ts) = IsPlain t × AllPlain ts

plain_stop : IsPlain stop
plain_stop = record { is_source = tt; sound = λ used. tt; scoped = tt; same = λ out cs. refl }

plain_at : (ts : List Term) (i : ℕ) → AllPlain ts → IsPlain (get_or ts i stop)
plain_at [] i s = plain_stop
plain_at (t ∷ ts) zero s = s.0
plain_at (t ∷ ts) (suc i) s = plain_at ts i s.1

plain_last : (ts : List Term) (t : Term) → AllPlain ts → IsPlain t → AllPlain (ts ++ t ∷ [])
plain_last [] t s h = (h, tt)
plain_last (u ∷ ts) t s h = (s.0, plain_last ts t s.1 h)

-- operands are names and values
given : (cells : List ℕ) (p : Operand) → IsGiven cells (param_of p)
given cells (Name x) = tt
given cells (Is v) = tt

all_given : (cells : List ℕ) (ps : List Operand) → AreGiven cells (map param_of ps)
all_given cells [] = tt
all_given cells (p ∷ ps) = (given cells p, all_given cells ps)

around : (p : Operand) → IsAround [] (param_of p)
around (Name x) = tt
around (Is v) = tt

all_around : (ps : List Operand) → AreAround [] (map param_of ps)
all_around [] = tt
all_around (p ∷ ps) = (around p, all_around ps)

same_param : (cs : List ℕ) (p : Operand) → seen_param cs (param_of p) ≡ seen_param [] (param_of p)
same_param cs (Name x) = refl
same_param cs (Is v) = refl

same_list : (cs : List ℕ) (ps : List Operand) → map (seen_param cs) (map param_of ps) ≡ map (seen_param []) (map param_of ps)
same_list cs [] = refl
same_list cs (p ∷ ps) = λ i. same_param cs p i ∷ same_list cs ps i

plain_par : (f g : Term) → IsPlain f → IsPlain g → IsPlain (par f g)
plain_par f g a b = record { is_source = (a.is_source, b.is_source); sound = λ used. (a.sound used, b.sound used); scoped = (a.scoped, b.scoped); same = λ out cs i. both (a.same out cs i) (b.same out cs i) }

plain_seq : (f : Term) (x : ℕ) (g : Term) → IsPlain f → IsPlain g → IsPlain (seq f x g)
plain_seq f x g a b = record { is_source = (a.is_source, b.is_source); sound = λ used. (a.sound used, b.sound used, b.is_source); scoped = (a.scoped, b.scoped); same = λ out cs i. feeds (a.same out cs i) x (b.same out cs i) }

plain_prune : (f : Term) (x : ℕ) (g : Term) → IsPlain f → IsPlain g → IsPlain (prune f x g)
plain_prune f x g a b = record { is_source = (a.is_source, b.is_source); sound = λ used. (a.sound used, b.sound used, a.is_source); scoped = (a.scoped, b.scoped); same = λ out cs i. prunes (a.same out cs i) x (b.same out cs i) }

plain_other : (f g : Term) → IsPlain f → IsPlain g → IsPlain (other f g)
plain_other f g a b = record { is_source = (a.is_source, b.is_source); sound = λ used. (a.sound used, b.sound used); scoped = (a.scoped, b.scoped); same = λ out cs i. instead (a.same out cs i) (b.same out cs i) }

module _ (lists : List (List Operand)) where
  plain_node : (at : ℕ → Term) (n : TermNode) → ((i : ℕ) → IsPlain (at i)) → IsPlain (unfold_node at lists n)
  plain_node at Stop h = plain_stop
  plain_node at (On p) h = record { is_source = tt; sound = λ used. given used.cells p; scoped = around p; same = λ out cs. ap gives (same_param cs p) }
  plain_node at (Site m l) h = let ps = get_or lists l [] in record { is_source = tt; sound = λ used. all_given used.cells ps; scoped = all_around ps; same = λ out cs. ap (asks m) (same_list cs ps) }
  plain_node at (Call e l) h = let ps = get_or lists l [] in record { is_source = tt; sound = λ used. all_given used.cells ps; scoped = all_around ps; same = λ out cs. ap (enters e) (same_list cs ps) }
  plain_node at (Par f g) h = plain_par (at f) (at g) (h f) (h g)
  plain_node at (Seq f x g) h = plain_seq (at f) x (at g) (h f) (h g)
  plain_node at (Prune f x g) h = plain_prune (at f) x (at g) (h f) (h g)
  plain_node at (Other f g) h = plain_other (at f) (at g) (h f) (h g)

  plain_terms : (ts : List Term) (ns : List TermNode) → AllPlain ts → AllPlain (terms_from lists ts ns)
  plain_terms ts [] s = s
  plain_terms ts (n ∷ ns) s = plain_terms (ts ++ unfold_node (λ i. get_or ts i stop) lists n ∷ []) ns (plain_last ts _ s (plain_node (λ i. get_or ts i stop) n (λ i. plain_at ts i s)))

plain_code : (l : Listing) (i : ℕ) → IsPlain (code l i)
plain_code l i = plain_at (terms_from l.lists [] l.nodes) i (plain_terms l.lists [] l.nodes tt)

-- a definition of the program is one of its routines
record Of (l : Listing) (d : Definition) : Type 0 where
  routine : Routine
  is : d ≡ definition_of l routine

find_routine : (l : Listing) (rs : List Routine) (e : ℕ) (d : Definition) → slice_get (map (definition_of l) rs) e ≡ Some d → Of l d
find_routine l [] e d is = cc is
find_routine l (r ∷ rs) zero d is = let same : definition_of l r ≡ d = cc is in record { routine = r; is = sym same }
find_routine l (r ∷ rs) (suc e) d is = find_routine l rs e d is

plain_body : (l : Listing) (e : ℕ) (d : Definition) → slice_get (definitions l) e ≡ Some d → IsPlain d.body
plain_body l e d is = let o = find_routine l l.routines e d is in subst (λ (c : Definition). IsPlain c.body) (sym o.is) (plain_code l o.routine.body)

mapped : (ds : List Definition) (e : ℕ) (d : Definition) → slice_get ds e ≡ Some d → slice_get (map small_definition ds) e ≡ Some (small_definition d)
mapped [] e d is = cc is
mapped (c ∷ ds) zero d is = let same : c ≡ d = cc is in ap (λ (b : Definition). Some (small_definition b)) same
mapped (c ∷ ds) (suc e) d is = mapped ds e d is

as_many : (ds : List Definition) (e : ℕ) → is_some (slice_get (map small_definition ds) e) ≡ is_some (slice_get ds e)
as_many [] e = refl
as_many (d ∷ ds) zero = refl
as_many (d ∷ ds) (suc e) = as_many ds e

pub program_is_ready : ProgramIsReady
program_is_ready l ss cancels = (
  record {
    bodies = λ e d is. let p = plain_body l e d is in (p.is_source, p.sound);
    closed = λ e d is. IsPlain.scoped (plain_body l e d is);
    seen = λ e d is. let p = plain_body l e d is in (p.is_source, small_definition d, mapped (definitions l) e d is, refl, p.same);
    there = as_many (definitions l);
  },
  (p.sound (used (start (source l))), p.scoped, tt),
)
  where
    p : IsPlain (source l)
    p = plain_code l l.root
