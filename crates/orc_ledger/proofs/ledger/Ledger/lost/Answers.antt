use Rattle.std.proofs.Common.{◌≡◌, ◌+◌, ◌<◌, ℕ, [], ◌∷◌, ◌++◌, refl, ap, arith, ◌∙◌}
use Rattle.orc_rules.specs.declared.entry.Entry.TheVariants.{Lost}
use Rattle.orc_rules.specs.Nodes.{code}
use Rattle.orc_rules.specs.Timed.{IsIn}
use Rattle.orc_env.specs.declared.names.Bound.TheVariants.{Void}
use Rattle.orc_tables.specs.Tokens.{live}
use Rattle.orc_indexes.specs.Same.{weight, but}
use Rattle.orc_ledger_spec.specs.Records.{Records}
use Rattle.orc_tables.specs.Steps.{group_at}
use Rattle.orc_ledger_spec.specs.Calls.{Drops, GoesAlone, group_goes}
use Rattle.orc_ledger_spec.specs.Next.{members, numbers_of}
use Rattle.orc_indexes.specs.Same.{is_this}
use Rattle.orc_tables.specs.declared.records.Group.{Group}
use Rattle.orc_tables.specs.declared.records.Token.{Token}
use Rattle.orc_ledger_spec.proofs.AtRest.{rest-dropped, side-unbound}
use Rattle.orc_ledger_spec.proofs.Binding.{lost-lawful}
use Rattle.orc_ledger_spec.proofs.Emptied.{right-empty, right-alone}
use Rattle.orc_ledger_spec.proofs.Calling.{drops-told}
use Rattle.orc_ledger_spec.proofs.Keeping.{counted-kept}
use Rattle.orc_ledger_spec.proofs.Grouped.{dropped-grouped}
use Rattle.orc_ledger_spec.proofs.Dropped.{drops-empty}
use Rattle.orc_ledger_spec.proofs.Brought.{dropped-brought}
use Rattle.orc_ledger.proofs.Others.{same-all}
use Rattle.orc_ledger.proofs.ledger.Ledger.lost.Goals as goal

pub invariant_of-self-2 : goal.invariant_of-self-2
invariant_of-self-2 g c =
    let b = c.self.inside in
    let a = c.args in
    let l = g.P.Run.listing in
    let sites = g.P.Run.sites in
    let L = c.self.invariant.kept.lawful in
    let G = c.self.invariant.kept.grouped in
    let s : Records = record { limit = b.limit; journal = b.journal.entries; entries = b.entries; next_mark = b.next_mark; now = b.time; made = b.calls.made; tokens = live b.tokens.items; slots = b.tokens.items; calls = b.calls.items; scopes = b.scopes.items; steps = b.steps.items; groups = b.groups.items; cells = b.cells.items } in
    let there : IsIn a.group s.groups = rw (← c.self.view_is) at c.requires.there in
    let empty : members (numbers_of s) s a.group.number ≡ 0 = rw (← c.self.view_is) at c.requires.empty in
    let E = right-empty l sites s L (numbers_of s) G a.group there empty a.cell c.requires.side in
    let s' : Records = record { limit = b.limit; journal = c.write.new.journal.entries; entries = b.entries + 1; next_mark = b.next_mark; now = b.time; made = b.calls.made; tokens = live c.wake.new.self.items; slots = c.wake.new.self.items; calls = b.calls.items; scopes = b.scopes.items; steps = b.steps.items; groups = c.take_out.new.groups.items; cells = c.settle.new.cells.items } in
    let groups : (w : Group → ℕ) → weight w s'.groups ≡ weight (but (group_goes (code l) a.cell s) w) s.groups = λ w. omega (arith, c.take_out.ensures.rest w, right-alone l sites s L (numbers_of s) G a.group there empty a.cell c.requires.side w) in
    let D : Drops (code l) a.cell Void s s' = drops-empty l sites s L a.cell E Void s' refl refl refl refl refl (ap live c.wake.ensures.items) refl groups refl refl c.settle.ensures in
    let journal : s'.journal ≡ s.journal ++ Lost a.cell ∷ [] = ap (λ j. j.entries) c.in_ok-write.ensures.added in
    let room : s.entries < s.limit = rw (← c.self.view_is) at c.in_ok-within.ensures.room in
    let L' = lost-lawful l sites s L a.cell a.group there c.requires.side E room s' D journal in
    record {
      kept = record {
        lawful = L';
        grouped = dropped-grouped l sites s L G a.cell Void s' D;
        told = drops-told l sites s s' L L' c.self.invariant.kept.told a.cell Void (Lost a.cell) [] tt D journal;
        counted = counted-kept l sites s s' L L' (Lost a.cell ∷ []) journal (tt, tt) b.counts c.self.invariant.kept.counted;
        sized = λ j. omega (arith, c.take_out.ensures.sizes j, c.take_out.ensures.rest (λ (h : Group). is_this j (group_at s.steps h.outer)), c.self.invariant.kept.sized j, ap (λ z. weight (λ (t : Token). is_this j (group_at s.steps t.step)) (live z)) c.wake.ensures.items);
        brought = dropped-brought s s' c.self.invariant.kept.brought (code l) a.cell Void (Lost a.cell ∷ []) D journal;
      };
      rest = rest-dropped l s s' L.sound a.cell Void D (side-unbound s L.sound a.group there a.cell c.requires.side) b.tokens c.wake.new.self refl refl c.self.invariant.rest c.wake.ensures.parked;
      version = ap (λ j. j.version) c.in_ok-write.ensures.added ∙ c.self.invariant.version;
      limited = c.self.invariant.limited;
    }

pub returns-clause-done : goal.returns-clause-done
returns-clause-done g c =
    let b = c.self.inside in
    let a = c.args in
    let l = g.P.Run.listing in
    let sites = g.P.Run.sites in
    let L = c.self.invariant.kept.lawful in
    let G = c.self.invariant.kept.grouped in
    let s : Records = record { limit = b.limit; journal = b.journal.entries; entries = b.entries; next_mark = b.next_mark; now = b.time; made = b.calls.made; tokens = live b.tokens.items; slots = b.tokens.items; calls = b.calls.items; scopes = b.scopes.items; steps = b.steps.items; groups = b.groups.items; cells = b.cells.items } in
    let there : IsIn a.group s.groups = rw (← c.self.view_is) at c.requires.there in
    let empty : members (numbers_of s) s a.group.number ≡ 0 = rw (← c.self.view_is) at c.requires.empty in
    let E = right-empty l sites s L (numbers_of s) G a.group there empty a.cell c.requires.side in
    let s' : Records = record { limit = b.limit; journal = c.write.new.journal.entries; entries = b.entries + 1; next_mark = b.next_mark; now = b.time; made = b.calls.made; tokens = live c.wake.new.self.items; slots = c.wake.new.self.items; calls = b.calls.items; scopes = b.scopes.items; steps = b.steps.items; groups = c.take_out.new.groups.items; cells = c.settle.new.cells.items } in
    let groups : (w : Group → ℕ) → weight w s'.groups ≡ weight (but (group_goes (code l) a.cell s) w) s.groups = λ w. omega (arith, c.take_out.ensures.rest w, right-alone l sites s L (numbers_of s) G a.group there empty a.cell c.requires.side w) in
    let D : Drops (code l) a.cell Void s s' = drops-empty l sites s L a.cell E Void s' refl refl refl refl refl (ap live c.wake.ensures.items) refl groups refl refl c.settle.ensures in
    rw (← c.self.view_is) D

pub returns-clause-alone : goal.returns-clause-alone
returns-clause-alone g c =
    let b = c.self.inside in
    let s : Records = record { limit = b.limit; journal = b.journal.entries; entries = b.entries; next_mark = b.next_mark; now = b.time; made = b.calls.made; tokens = live b.tokens.items; slots = b.tokens.items; calls = b.calls.items; scopes = b.scopes.items; steps = b.steps.items; groups = b.groups.items; cells = b.cells.items } in
    let s' : Records = record { limit = b.limit; journal = c.write.new.journal.entries; entries = b.entries + 1; next_mark = b.next_mark; now = b.time; made = b.calls.made; tokens = live c.wake.new.self.items; slots = c.wake.new.self.items; calls = b.calls.items; scopes = b.scopes.items; steps = b.steps.items; groups = c.take_out.new.groups.items; cells = c.settle.new.cells.items } in
    let A : GoesAlone s s' c.args.group = record { tokens = ap live c.wake.ensures.items; calls = refl; groups = c.take_out.ensures.rest; steps = refl } in
    rw (← c.self.view_is) A

pub returns-clause-others : goal.returns-clause-others
returns-clause-others g c =
    let b = c.self.inside in
    let a = c.args in
    rw (← c.self.view_is) (same-all b.tokens.items c.wake.new.self.items c.wake.ensures.items)
