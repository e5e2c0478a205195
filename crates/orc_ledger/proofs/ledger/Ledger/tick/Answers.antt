use Rattle.std.proofs.Common.{◌≡◌, ◌+◌, ◌<◌, [], ◌∷◌, ◌++◌, refl, sym, ap, subst, ◌∙◌}
use Rattle.orc_rules.specs.declared.entry.Entry.TheVariants.{Tick}
use Rattle.orc_ledger_spec.specs.Kept.{Kept}
use Rattle.orc_ledger_spec.specs.Records.{Records}
use Rattle.orc_tables.specs.Tokens.{live}
use Rattle.orc_ledger_spec.specs.Answers.{MayTick}
use Rattle.orc_ledger_spec.proofs.Answered.{ticks-there}
use Rattle.orc_ledger_spec.proofs.Calling.{tick-told}
use Rattle.orc_ledger_spec.proofs.Grouped.{ticked-grouped}
use Rattle.orc_ledger_spec.proofs.Keeping.{counted-kept}
use Rattle.orc_ledger_spec.proofs.Passing.{ticked, tick-lawful}
use Rattle.orc_ledger_spec.proofs.Brought.{grown-brought}
use Rattle.orc_ledger.proofs.ledger.Ledger.tick.Goals as goal

pub invariant_of-self-2 : goal.invariant_of-self-2
invariant_of-self-2 g c =
    let b = c.self.inside in
    let t = c.args.time in
    let l = g.P.Run.listing in
    let sites = g.P.Run.sites in
    let K = c.self.invariant.kept in
    let s : Records = record { limit = b.limit; journal = b.journal.entries; entries = b.entries; next_mark = b.next_mark; now = b.time; made = b.calls.made; tokens = live b.tokens.items; slots = b.tokens.items; calls = b.calls.items; scopes = b.scopes.items; steps = b.steps.items; groups = b.groups.items; cells = b.cells.items } in
    let may : MayTick l sites s t = rw (← c.self.view_is) at c.requires in
    let room : s.entries < s.limit = c.if-self.false in
    let s' : Records = ticked l sites s K.lawful t in
    let journal : c.write.new.journal.entries ≡ s.journal ++ Tick t ∷ [] = ap (λ j. j.entries) c.in_ok-write.ensures.added in
    let L' = tick-lawful l sites s K.lawful t (ticks-there l sites b.counts b.groups.sizes s K t may) room in
    let K' : Kept l sites b.counts b.groups.sizes s' = record { lawful = L'; grouped = ticked-grouped l sites s K.lawful K.grouped t; told = tick-told l sites s s' K.lawful L' K.told t refl refl; counted = counted-kept l sites s s' K.lawful L' (Tick t ∷ []) refl (tt, tt) b.counts K.counted; sized = K.sized; brought = grown-brought s s' K.brought (Tick t ∷ []) refl refl refl refl refl } in
    record { kept = subst (λ es. Kept l sites b.counts b.groups.sizes (record s { journal = es; entries = s.entries + 1; now = t })) (sym journal) K'; rest = c.self.invariant.rest; version = ap (λ j. j.version) c.in_ok-write.ensures.added ∙ c.self.invariant.version; limited = c.self.invariant.limited }

pub returns-clause-done : goal.returns-clause-done
returns-clause-done g c =
    let b = c.self.inside in
    let t = c.args.time in
    let s : Records = record { limit = b.limit; journal = b.journal.entries; entries = b.entries; next_mark = b.next_mark; now = b.time; made = b.calls.made; tokens = live b.tokens.items; slots = b.tokens.items; calls = b.calls.items; scopes = b.scopes.items; steps = b.steps.items; groups = b.groups.items; cells = b.cells.items } in
    let journal : c.write.new.journal.entries ≡ s.journal ++ Tick t ∷ [] = ap (λ j. j.entries) c.in_ok-write.ensures.added in
    rw (← c.self.view_is) (ap (λ es. record s { journal = es; entries = s.entries + 1; now = t }) journal)
