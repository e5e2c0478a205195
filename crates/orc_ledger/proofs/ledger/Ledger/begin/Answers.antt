use Rattle.std.proofs.Common.{◌≡◌, ℕ, List, [], ◌∷◌, ◌++◌, refl, sym, ap, ◌∙◌, subst, arith}
use Rattle.orc_rules.specs.declared.entry.Entry.{Entry}
use Rattle.orc_env.specs.declared.names.Bound.{Bound}
use Rattle.orc_env.specs.declared.names.Bound.TheVariants.{Void}
use Rattle.orc_env.specs.declared.names.Scope.{Scope}
use Rattle.orc_rules.specs.Journal.{Place}
use Rattle.orc_calls.specs.Counting.{AreCounted}
use Rattle.orc_ledger_spec.specs.Kept.{Kept}
use Rattle.orc_indexes.specs.Parking.{Parked, is_set}
use Rattle.orc_ledger_spec.specs.Begun.{begun}
use Rattle.orc_tables.specs.Tokens.{live}
use Rattle.orc_tables.specs.declared.records.Standing.TheVariants.{At}
use Rattle.orc_tables.specs.declared.records.Token.{Token}
use Rattle.orc_tables.specs.declared.records.Call.{Call}
use Rattle.orc_tables.specs.declared.records.Step.{Step}
use Rattle.orc_tables.specs.declared.records.Group.{Group}
use Rattle.orc_ledger_spec.proofs.Begun.{begun-lawful, begun-grouped}
use Rattle.orc_ledger_spec.proofs.Brought.{begun-brought}
use Rattle.orc_ledger.proofs.ledger.Ledger.begin.Goals as goal

-- records made of lists that are those of a new run
same : (limit root made : ℕ) (js : List Entry) (ts : List Token) (cs : List Call) (ss : List Scope) (ps : List Step) (gs : List Group) (bs : List Bound)
    → made ≡ 0 → js ≡ [] → ts ≡ record { serial = 1; standing = At root 0; step = 0 } ∷ [] → cs ≡ [] → ss ≡ [] → ps ≡ [] → gs ≡ [] → bs ≡ Void ∷ []
    → begun limit root ≡ record { limit = limit; journal = js; entries = 0; next_mark = 2; now = 0; made = made; tokens = live ts; slots = ts; calls = cs; scopes = ss; steps = ps; groups = gs; cells = bs }
same limit root made js ts cs ss ps gs bs m j t c s p g b = λ i. record { limit = limit; journal = sym j i; entries = 0; next_mark = 2; now = 0; made = sym m i; tokens = live (sym t i); slots = sym t i; calls = sym c i; scopes = sym s i; steps = sym p i; groups = sym g i; cells = sym b i }

pub invariant_of-result : goal.invariant_of-result
invariant_of-result g c =
    let a = c.args in
    let l = g.P.Run.listing in
    let sites = g.P.Run.sites in
    let L = begun-lawful l sites a.limit c.requires.limit.1 in
    let sizes = c.join.new.self.sizes in
    let kept : Kept l sites [] sizes (begun a.limit l.root) = record {
      lawful = L;
      grouped = begun-grouped a.limit l.root;
      told = refl;
      counted = subst (AreCounted sites []) (ap (λ (w : Place). w.calls) L.leads) (λ m args h. refl);
      sized = λ i. omega (arith, c.join.ensures.sizes i, c.in_ok-groups.ensures.sizes i);
      brought = begun-brought a.limit l.root;
    } in
    let cells : c.push_within.new.items.items ≡ Void ∷ [] = c.push_within.ensures.items ∙ ap (λ (z : List Bound). z ++ Void ∷ []) (c.in_ok-reserve.ensures.items ∙ c.new-cells.ensures.items) in
    record {
      kept =
          subst (λ n. Kept l sites n sizes (record { limit = a.limit; journal = c.new.result.entries; entries = 0; next_mark = 2; now = 0; made = c.in_ok-calls.calls.made; tokens = live c.in_ok-tokens.tokens.items; slots = c.in_ok-tokens.tokens.items; calls = c.in_ok-calls.calls.items; scopes = c.new-3.result.items; steps = c.new-4.result.items; groups = c.join.new.self.items; cells = c.push_within.new.items.items }))
          (sym c.new-2.ensures)
          (subst (Kept l sites [] sizes) (same a.limit a.root c.in_ok-calls.calls.made c.new.result.entries c.in_ok-tokens.tokens.items c.in_ok-calls.calls.items c.new-3.result.items c.new-4.result.items c.join.new.self.items c.push_within.new.items.items
          c.in_ok-calls.ensures.made (ap (λ z. z.entries) c.new.ensures) c.in_ok-tokens.ensures.items c.in_ok-calls.ensures.items c.new-3.ensures.items c.new-4.ensures (c.join.ensures.items ∙ c.in_ok-groups.ensures.items) cells)
          (subst (λ z. Kept l sites [] sizes (begun a.limit z)) (sym c.requires.root) kept));
      rest = λ k t h. absurd (cc (sym (ap (λ (q : Parked). is_set q.flags k) c.in_ok-tokens.ensures.parked) ∙ h.1));
      version = ap (λ j. j.version) c.new.ensures;
      limited = c.requires.named;
    }
