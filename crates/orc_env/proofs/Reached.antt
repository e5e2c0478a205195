-- What is so of each place to which a journal of a program leads.
use Rattle.std.proofs.Common.{◌≡◌, ℕ, zero, suc, List, [], ◌∷◌, ◌++◌, map, get_or, Option, Some, None, Bool, sym, ap, subst}
use Rattle.std.specs.Prelude.{slice_get}
use Rattle.orc_rules.specs.declared.param.Param.TheVariants.{Cell, Void}
use Rattle.orc_rules.specs.declared.param.Operand.{Operand}
use Rattle.orc_rules.specs.declared.param.Operand.TheVariants as operand
use Rattle.orc_rules.specs.declared.program.TermNode.{TermNode}
use Rattle.orc_rules.specs.declared.program.TermNode.TheVariants.{Stop, Operand as On, Site, Call as Calls, Par, Seq as Sequence, Prune, Other as Otherwise}
use Rattle.orc_rules.specs.declared.entry.Entry.{Entry}
use Rattle.orc_rules.specs.declared.entry.Entry.TheVariants.{End, Fork, Seq, Other, Def, Open, Send, Call, Return, ReturnHalt, Bind, Lost, Right, Publish, Tick, Cancel}
use Rattle.orc_rules.specs.declared.entry.Entry.TheVariants as entry
use Rattle.orc_rules.specs.Term.{Term, Definition, stop}
use Rattle.orc_rules.specs.Timed.{Context}
use Rattle.orc_rules.specs.Journal.{Place, Enters, Journal, begin}
use Rattle.orc_rules.specs.Lost.{HoldsSource}
use Rattle.orc_rules.specs.Numbered.{IsNumbered}
use Rattle.orc_rules.specs.Nodes.{Listing, Routine, code, source, definitions, definition_of, param_of, unfold_node, terms_from}
use Rattle.orc_rules.specs.Sites.{Site as TheSite}
use Rattle.orc_rules.proofs.Numbered.{journal_is_numbered}
use Rattle.orc_rules.proofs.Sources.{journal_holds_source}
use Rattle.orc_rules.proofs.Listed.{program_is_source}
use Rattle.orc_env.proofs.Inside.{Lacks, LacksAll, Confined, lacks-put, lacks-put_all, confined-left, confined-replaced, confined-emitted}

module _ (c : ℕ) where
  -- no cell stands in a program's term
  abbrev AllLack : List Term → Type 0
  AllLack [] = Unit {0}
  AllLack (t ∷ ts) = Lacks c t × AllLack ts

  lacks_at : (ts : List Term) (i : ℕ) → AllLack ts → Lacks c (get_or ts i stop)
  lacks_at [] i s = tt
  lacks_at (t ∷ ts) zero s = s.0
  lacks_at (t ∷ ts) (suc i) s = lacks_at ts i s.1

  lacks_last : (ts : List Term) (t : Term) → AllLack ts → Lacks c t → AllLack (ts ++ t ∷ [])
  lacks_last [] t s h = (h, tt)
  lacks_last (u ∷ ts) t s h = (s.0, lacks_last ts t s.1 h)

  operands_lack : (ps : List Operand) → LacksAll c (map param_of ps)
  operands_lack [] = tt
  operands_lack (operand.Name x ∷ ps) = (tt, operands_lack ps)
  operands_lack (operand.Is v ∷ ps) = (tt, operands_lack ps)

  module _ (lists : List (List Operand)) where
    node_lacks : (at : ℕ → Term) (n : TermNode) → ((i : ℕ) → Lacks c (at i)) → Lacks c (unfold_node at lists n)
    node_lacks at Stop h = tt
    node_lacks at (On (operand.Name x)) h = tt
    node_lacks at (On (operand.Is v)) h = tt
    node_lacks at (Site m l) h = operands_lack (get_or lists l [])
    node_lacks at (Calls e l) h = operands_lack (get_or lists l [])
    node_lacks at (Par f g) h = (h f, h g)
    node_lacks at (Sequence f x g) h = (h f, h g)
    node_lacks at (Prune f x g) h = (h f, h g)
    node_lacks at (Otherwise f g) h = (h f, h g)

    terms_lack : (ts : List Term) (ns : List TermNode) → AllLack ts → AllLack (terms_from lists ts ns)
    terms_lack ts [] s = s
    terms_lack ts (n ∷ ns) s = terms_lack (ts ++ unfold_node (λ i. get_or ts i stop) lists n ∷ []) ns (lacks_last ts _ s (node_lacks (λ i. get_or ts i stop) n (λ i. lacks_at ts i s)))

  pub code_lacks : (l : Listing) (i : ℕ) → Lacks c (code l i)
  code_lacks l i = lacks_at (terms_from l.lists [] l.nodes) i (terms_lack l.lists [] l.nodes tt)

  abbrev of_body : Option Definition → Type 0
  of_body (Some w) = Lacks c w.body
  of_body None = Unit {0}

  bodies_lack : (l : Listing) (rs : List Routine) (e : ℕ) (d : Definition) → slice_get (map (definition_of l) rs) e ≡ Some d → Lacks c d.body
  bodies_lack l [] e d h = cc h
  bodies_lack l (r ∷ rs) zero d h = subst (λ (o : Option Definition). of_body o) h (code_lacks l r.body)
  bodies_lack l (r ∷ rs) (suc e) d h = bodies_lack l rs e d h

  entered_confined : (x : Context) (p : Place) (e : Entry) (q : Place) → ((i : ℕ) (d : Definition) → slice_get x.definitions i ≡ Some d → Lacks c d.body) → Enters x p e q → Confined c p.marked → Confined c q.marked
  entered_confined x p (End s) q ds h src = confined-replaced c (λ k. tt) h.part src
  entered_confined x p (Fork s a b) q ds (f, g, ea, eb, h) src = confined-replaced c (λ k. k) h.part src
  entered_confined x p (Seq s a) q ds (f, g, z, ea, h) src = confined-replaced c (λ k. k) h.part src
  entered_confined x p (Other s a) q ds (f, g, ea, h) src = confined-replaced c (λ k. k) h.part src
  entered_confined x p (Def s a) q ds (e, ps, d, cs, ea, is, r, h) src = confined-replaced c (λ k. lacks-put_all c d.params ps d.body k (ds e d is)) r src
  entered_confined x p (entry.Void s) q ds (t, cs, is, r, h) src = confined-replaced c (λ k. tt) r src
  entered_confined x p (Open s d a b) q ds (f, g, z, cs, ec, ea, eb, r, h) src = confined-replaced c (λ k. (λ off. lacks-put c (Cell d) off z f k.0, k.1)) r src
  entered_confined x p (Send s a v) q ds (ea, e, h) src = confined-emitted c e src
  entered_confined x p (Call s k m args) q ds (ps, cs, ek, is, r, h) src = confined-replaced c (λ k. tt) r src
  entered_confined x p (Return k a v) q ds (cs, ea, due, r, h) src = confined-replaced c (λ k. tt) r src
  entered_confined x p (ReturnHalt k) q ds (cs, due, r, h) src = confined-replaced c (λ k. tt) r src
  entered_confined x p (Bind s d v) q ds (e, h) src = confined-emitted c e src
  entered_confined x p (Lost d) q ds (f, g, cs, halted, r, h) src = confined-replaced c (λ k. confined-left c Void tt d f k.0) r src
  entered_confined x p (Right s a) q ds (f, g, cs, ea, halted, r, h) src = confined-replaced c (λ k. k.1) r src
  entered_confined x p (Publish s v) q ds (e, h) src = confined-emitted c e src
  entered_confined x p (Tick t) q ds (tick, same) src = subst (λ (w : Place). Confined c w.marked) (sym same) src
  entered_confined x p (Cancel k) q ds (due, same) src = subst (Confined c) (sym (ap (λ (w : Place). w.marked) same)) src

  journal_confined : (x : Context) (p q : Place) (es : List Entry) → ((i : ℕ) (d : Definition) → slice_get x.definitions i ≡ Some d → Lacks c d.body) → Journal x p es q → Confined c p.marked → Confined c q.marked
  journal_confined x p q [] ds h src = subst (λ (w : Place). Confined c w.marked) h src
  journal_confined x p q (e ∷ es) ds (mid, lead, h) src = journal_confined x mid q es ds h (entered_confined x p e mid ds lead.1 src)

-- what is so of each place that a journal of a program leads to
module _ (l : Listing) (sites : List TheSite) (cancels : Bool) (es : List Entry) (p : Place) (r : Journal (record { definitions = definitions l; sites = sites; cancels = cancels }) (begin (source l)) es p) where
  pub reached_numbered : IsNumbered p
  reached_numbered = journal_is_numbered (record { definitions = definitions l; sites = sites; cancels = cancels }) (source l) es p r

  pub reached_source : HoldsSource p.marked
  reached_source = journal_holds_source (record { definitions = definitions l; sites = sites; cancels = cancels }) (source l) es p (program_is_source l).1 ((program_is_source l).0 l.root) r

  pub reached_confined : (c : ℕ) → Confined c p.marked
  reached_confined c = journal_confined c (record { definitions = definitions l; sites = sites; cancels = cancels }) (begin (source l)) p es (λ i d h. bodies_lack c l l.routines i d h) r (code_lacks c l l.root)
