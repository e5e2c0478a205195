-- Where the root has nobody, there are no records, and the term has halted.
use Rattle.std.proofs.Common.{◌≡◌, ◌≤◌, ◌<◌, ℕ, zero, suc, List, [], ◌∷◌, refl, sym, ap, ◌∙◌, arith, inl, inr, ◌⊎◌, ⊎_elim, Some}
use Rattle.orc_rules.specs.Term.{Halted}
use Rattle.orc_rules.specs.Nodes.{Listing, code}
use Rattle.orc_rules.specs.Sites.{Site}
use Rattle.orc_rules.specs.Marked.{erase}
use Rattle.orc_rules.specs.Timed.{IsIn}
use Rattle.orc_ledger_spec.specs.Records.{Records, Lawful, its_env}
use Rattle.orc_ledger_spec.specs.Homes.{Nest}
use Rattle.orc_ledger_spec.specs.Next.{Numbers, AreGrouped, members}
use Rattle.orc_indexes.specs.Same.{is_this}
use Rattle.orc_tables.specs.declared.records.Token.{Token}
use Rattle.orc_tables.specs.declared.records.Call.{Call}
use Rattle.orc_tables.specs.declared.records.Group.{Group}
use Rattle.orc_indexes.proofs.Weight.{weight-in, this_is}
use Rattle.orc_ledger_spec.proofs.Homes.{home-least}
use Rattle.orc_ledger_spec.proofs.Someone.{get-within, some_same}
use Rattle.orc_ledger_spec.proofs.Binding.{ended-halted}

nobody : {X : Type 0} (xs : List X) → ((x : X) → IsIn x xs → ⊥) → xs ≡ []
nobody [] h = refl
nobody (x ∷ xs) h = absurd (h x (inl refl))

module _ (l : Listing) (sites : List Site) (s : Records) (L : Lawful l sites s) (n : Numbers) (G : AreGrouped n s) where
  -- each group but the root is below a child of the root
  abbrev InRoot : ℕ → Type 0
  InRoot j = (j ≡ 0) ⊎ (1 ≤ members n s 0)

  root_child : (h : Group) → IsIn h s.groups → n.parent h ≡ 0 → 1 ≤ members n s 0
  root_child h j e = omega (arith, weight-in (λ (k : Group). is_this 0 (n.parent k)) s.groups h j, this_is 0 (n.parent h) (sym e))

  below_root : (h : Group) → IsIn h s.groups → (w : Nest) → G.groups (n.number h) ≡ Some w → ((v : ℕ) (m : Nest) → G.groups v ≡ Some m → m.step < w.step → InRoot v) → 1 ≤ members n s 0
  below_root h j w is above =
      let d = G.sides h j in
      let p = d.2 in
      let same : d.0 ≡ w = some_same d.0 w (sym d.3 ∙ is) in
      let out = L.sound.outwards d.1 p d.6 in
      let within = get-within s.steps d.1 p d.6 in
      let a = G.nests.above (n.number h) d.0 d.1 p d.3 d.5 d.6 in
      let least = home-least (code l) (its_env (code l) s) s.steps G.homes L.sound.outwards G.are_homes 0 p.outer p.outer (omega arith) (omega (arith, out, within)) in
      ⊎_elim (λ (y : d.0.parent ≡ 0). root_child h j (sym d.4 ∙ y)) (λ y. y)
      (above d.0.parent a.0 a.1 (omega (arith, a.2, least, out, d.5, ap (λ (z : Nest). z.step) same)))

  by_step : (f j : ℕ) (w : Nest) → G.groups j ≡ Some w → w.step ≤ suc f → (st : ℕ) → w.step ≡ st → ((v : ℕ) (m : Nest) → G.groups v ≡ Some m → m.step ≤ f → InRoot v) → InRoot j
  by_step f j w is le zero e ih = inl (G.nests.root j w is e)
  by_step f j w is le (suc k) e ih =
      let h = G.listed j w k is e in
      inr (below_root h.0 h.1 w (ap G.groups h.2 ∙ is) (λ v m js less. ih v m js (omega (arith, less, le))))

  in_root : (f j : ℕ) (w : Nest) → G.groups j ≡ Some w → w.step ≤ f → InRoot j
  in_root zero j w is le = inl (G.nests.root j w is (omega (arith, le)))
  in_root (suc f) j w is le = by_step f j w is le w.step refl (λ v m js less. in_root f v m js less)

  module _ (empty : members n s 0 ≡ 0) where
    is_root : (j : ℕ) (w : Nest) → G.groups j ≡ Some w → j ≡ 0
    is_root j w is = ⊎_elim (λ x. x) (λ x. absurd (omega (arith, x, empty))) (in_root w.step j w is (omega arith))

    pub no_tokens : s.tokens ≡ []
    no_tokens = nobody s.tokens (λ t j. let d = G.tokens t j in omega (arith, empty, weight-in (λ (u : Token). is_this 0 (n.token u)) s.tokens t j, this_is 0 (n.token t) (sym (is_root (n.token t) d.0 d.1))))

    pub no_calls : s.calls ≡ []
    no_calls = nobody s.calls (λ t j. let d = G.calls t j in omega (arith, empty, weight-in (λ (u : Call). is_this 0 (n.call u)) s.calls t j, this_is 0 (n.call t) (sym (is_root (n.call t) d.0 d.1))))

    pub no_groups : s.groups ≡ []
    no_groups =
        nobody s.groups (λ h j.
        let d = G.sides h j in
        let a = G.nests.above (n.number h) d.0 d.1 d.2 d.3 d.5 d.6 in
        omega (arith, empty, root_child h j (sym d.4 ∙ is_root d.0.parent a.0 a.1)))

    -- the term has halted
    pub root-halted : Halted (erase L.place.marked)
    root-halted = ended-halted l sites s L no_tokens no_calls no_groups
