use Rattle.std.proofs.Common.{◌≡◌, ◌+◌, ◌<◌, ℕ, [], ◌∷◌, ◌++◌, ◌∙◌, refl, ap, arith}
use Rattle.orc_rules.specs.declared.value.Answer.TheVariants.{Value as Gives}
use Rattle.orc_rules.specs.declared.entry.Entry.TheVariants.{Return}
use Rattle.orc_rules.specs.Timed.{IsIn}
use Rattle.orc_calls.specs.Due.{DueNow}
use Rattle.orc_rules.specs.Nodes.{code, definitions}
use Rattle.orc_indexes.specs.Same.{weight}
use Rattle.orc_ledger_spec.specs.Records.{Records}
use Rattle.orc_tables.specs.Tokens.{live}
use Rattle.orc_ledger_spec.specs.Calls.{Exchanges}
use Rattle.orc_tables.specs.declared.records.Standing.TheVariants.{On}
use Rattle.orc_tables.specs.declared.records.Token.{Token}
use Rattle.orc_ledger_spec.proofs.AtRest.{rest-kept, same-terms}
use Rattle.orc_tables.proofs.Parked.{stay-on, stay-same}
use Rattle.orc_ledger_spec.proofs.Answered.{due-there}
use Rattle.orc_ledger_spec.proofs.Asking.{return-lawful}
use Rattle.orc_ledger_spec.proofs.Calling.{returns-told}
use Rattle.orc_ledger_spec.proofs.Grouped.{returned-grouped}
use Rattle.orc_ledger_spec.proofs.Keeping.{counted-kept, from_one}
use Rattle.orc_ledger_spec.proofs.Sizes.{exchanged-members}
use Rattle.orc_tables.proofs.Slots.{live-in}
use Rattle.orc_ledger_spec.proofs.Brought.{exchanged-brought}
use Rattle.orc_ledger.proofs.Others.{same-all, then-all}
use Rattle.orc_ledger.proofs.ledger.Ledger.give.Goals as goal

pub invariant_of-self-2 : goal.invariant_of-self-2
invariant_of-self-2 g c =
    let b = c.self.inside in
    let a = c.args in
    let l = g.P.Run.listing in
    let sites = g.P.Run.sites in
    let K = c.self.invariant.kept in
    let s : Records = record { limit = b.limit; journal = b.journal.entries; entries = b.entries; next_mark = b.next_mark; now = b.time; made = b.calls.made; tokens = live b.tokens.items; slots = b.tokens.items; calls = b.calls.items; scopes = b.scopes.items; steps = b.steps.items; groups = b.groups.items; cells = b.cells.items } in
    let pends : IsIn a.call s.calls = rw (← c.self.view_is) at c.requires.pends in
    let due : DueNow a.call.made_at a.call.found (Gives a.value) s.now = rw (← c.self.view_is) at c.requires.due in
    let room : s.entries < s.limit = rw (← c.self.view_is) at c.requires.room in
    let t : Token = record { serial = s.next_mark; standing = On a.value; step = a.call.step } in
    let e = Return a.call.number s.next_mark a.value in
    let s' : Records = record { limit = b.limit; journal = c.write.new.journal.entries; entries = b.entries + 1; next_mark = b.next_mark + 1; now = b.time; made = c.take.new.self.made; tokens = live c.add-slot.new.self.items; slots = c.add-slot.new.self.items; calls = c.take.new.self.items; scopes = b.scopes.items; steps = b.steps.items; groups = b.groups.items; cells = b.cells.items } in
    let tokens : (w : Token → ℕ) → weight w s'.tokens ≡ weight w s.tokens + w t = λ w. c.add-slot.ensures.added w ∙ ap (λ z. weight w (live z) + w t) c.in_ok-reserve.ensures.items in
    let journal : s'.journal ≡ s.journal ++ e ∷ [] = ap (λ j. j.entries) c.in_ok-write.ensures.added in
    let T : Exchanges s s' [] (t ∷ []) (a.call ∷ []) [] 0 e = record {
      limit = refl;
      journal = journal;
      entries = refl;
      mark = omega arith;
      now = refl;
      made_so = omega (arith, c.take.ensures.made);
      tokens = λ w. omega (arith, tokens w);
      calls = λ w. omega (arith, c.take.ensures.one a.call pends refl w);
      groups = refl;
      scopes = refl;
      steps = refl;
      cells = refl;
    } in
    let L' = return-lawful l sites s K.lawful a.call pends a.value (due-there l sites b.counts b.groups.sizes s K a.call pends (Gives a.value) due) room s' T in
    record {
      kept = record {
        lawful = L';
        grouped = returned-grouped l sites s K.lawful K.grouped a.call pends t refl s' e T;
        told = returns-told l sites s s' K.lawful L' K.told [] (t ∷ []) a.call e tt T;
        counted = counted-kept l sites s s' K.lawful L' (e ∷ []) journal (tt, tt) b.counts K.counted;
        sized = λ j. omega (arith, exchanged-members s s' [] (t ∷ []) (a.call ∷ []) [] 0 e T j, K.sized j);
        brought = exchanged-brought s s' K.brought [] (t ∷ []) (a.call ∷ []) [] 0 e T (omega arith);
      };
      rest = rest-kept (code l) (definitions l) s s' b.tokens c.add-slot.new.self refl refl c.self.invariant.rest (live-in b.tokens.items) (stay-on b.tokens c.reserve.new.self c.add-slot.new.self (stay-same b.tokens c.reserve.new.self c.in_ok-reserve.ensures.items c.in_ok-reserve.ensures.parked) c.add-slot.ensures.parked) (same-terms (code l) s s' refl refl);
      version = ap (λ j. j.version) c.in_ok-write.ensures.added ∙ c.self.invariant.version;
      limited = c.self.invariant.limited;
    }

pub returns-clause-done : goal.returns-clause-done
returns-clause-done g c =
    let b = c.self.inside in
    let a = c.args in
    let l = g.P.Run.listing in
    let sites = g.P.Run.sites in
    let K = c.self.invariant.kept in
    let s : Records = record { limit = b.limit; journal = b.journal.entries; entries = b.entries; next_mark = b.next_mark; now = b.time; made = b.calls.made; tokens = live b.tokens.items; slots = b.tokens.items; calls = b.calls.items; scopes = b.scopes.items; steps = b.steps.items; groups = b.groups.items; cells = b.cells.items } in
    let pends : IsIn a.call s.calls = rw (← c.self.view_is) at c.requires.pends in
    let due : DueNow a.call.made_at a.call.found (Gives a.value) s.now = rw (← c.self.view_is) at c.requires.due in
    let room : s.entries < s.limit = rw (← c.self.view_is) at c.requires.room in
    let t : Token = record { serial = s.next_mark; standing = On a.value; step = a.call.step } in
    let e = Return a.call.number s.next_mark a.value in
    let s' : Records = record { limit = b.limit; journal = c.write.new.journal.entries; entries = b.entries + 1; next_mark = b.next_mark + 1; now = b.time; made = c.take.new.self.made; tokens = live c.add-slot.new.self.items; slots = c.add-slot.new.self.items; calls = c.take.new.self.items; scopes = b.scopes.items; steps = b.steps.items; groups = b.groups.items; cells = b.cells.items } in
    let tokens : (w : Token → ℕ) → weight w s'.tokens ≡ weight w s.tokens + w t = λ w. c.add-slot.ensures.added w ∙ ap (λ z. weight w (live z) + w t) c.in_ok-reserve.ensures.items in
    let journal : s'.journal ≡ s.journal ++ e ∷ [] = ap (λ j. j.entries) c.in_ok-write.ensures.added in
    let T : Exchanges s s' [] (t ∷ []) (a.call ∷ []) [] 0 e = record {
      limit = refl;
      journal = journal;
      entries = refl;
      mark = omega arith;
      now = refl;
      made_so = omega (arith, c.take.ensures.made);
      tokens = λ w. omega (arith, tokens w);
      calls = λ w. omega (arith, c.take.ensures.one a.call pends refl w);
      groups = refl;
      scopes = refl;
      steps = refl;
      cells = refl;
    } in
    rw (← c.self.view_is) (T, c.add-slot.ensures.held)

pub add-slot-requires-clause-serial : goal.add-slot-requires-clause-serial
add-slot-requires-clause-serial g c =
    let b = c.self.inside in
    let s : Records = record { limit = b.limit; journal = b.journal.entries; entries = b.entries; next_mark = b.next_mark; now = b.time; made = b.calls.made; tokens = live b.tokens.items; slots = b.tokens.items; calls = b.calls.items; scopes = b.scopes.items; steps = b.steps.items; groups = b.groups.items; cells = b.cells.items } in
    from_one g.P.Run.listing g.P.Run.sites s c.self.invariant.kept.lawful

pub returns-clause-others : goal.returns-clause-others
returns-clause-others g c =
    let b = c.self.inside in
    let a = c.args in
    rw (← c.self.view_is) (then-all b.tokens.items c.reserve.new.self.items c.add-slot.new.self.items (same-all b.tokens.items c.reserve.new.self.items c.in_ok-reserve.ensures.items) c.add-slot.ensures.others)
