use Rattle.std.proofs.Common.{◌≡◌, ◌+◌, ◌<◌, [], ◌∷◌, ◌++◌, refl, ap, arith, ◌∙◌}
use Rattle.orc_rules.specs.declared.value.Answer.TheVariants.{Halt}
use Rattle.orc_rules.specs.declared.entry.Entry.TheVariants.{ReturnHalt}
use Rattle.orc_rules.specs.Timed.{IsIn}
use Rattle.orc_calls.specs.Due.{DueNow}
use Rattle.orc_ledger_spec.specs.Records.{Records}
use Rattle.orc_tables.specs.Tokens.{live}
use Rattle.orc_ledger_spec.specs.Calls.{Exchanges}
use Rattle.orc_ledger_spec.proofs.Answered.{due-there}
use Rattle.orc_ledger_spec.proofs.Asking.{return_halt-lawful}
use Rattle.orc_ledger_spec.proofs.Calling.{returns-told}
use Rattle.orc_ledger_spec.proofs.Grouped.{halted-grouped}
use Rattle.orc_ledger_spec.proofs.Keeping.{counted-kept}
use Rattle.orc_indexes.specs.Same.{is_this}
use Rattle.orc_ledger_spec.proofs.Sizes.{exchanged-members}
use Rattle.orc_ledger_spec.proofs.Brought.{exchanged-brought}
use Rattle.orc_ledger.proofs.ledger.Ledger.give_up.Goals as goal

pub invariant_of-self-2 : goal.invariant_of-self-2
invariant_of-self-2 g c =
    let b = c.self.inside in
    let a = c.args in
    let l = g.P.Run.listing in
    let sites = g.P.Run.sites in
    let K = c.self.invariant.kept in
    let s : Records = record { limit = b.limit; journal = b.journal.entries; entries = b.entries; next_mark = b.next_mark; now = b.time; made = b.calls.made; tokens = live b.tokens.items; slots = b.tokens.items; calls = b.calls.items; scopes = b.scopes.items; steps = b.steps.items; groups = b.groups.items; cells = b.cells.items } in
    let pends : IsIn a.call s.calls = rw (← c.self.view_is) at c.requires.pends in
    let due : DueNow a.call.made_at a.call.found Halt s.now = rw (← c.self.view_is) at c.requires.due in
    let room : s.entries < s.limit = rw (← c.self.view_is) at c.requires.room in
    let e = ReturnHalt a.call.number in
    let s' : Records = record { limit = b.limit; journal = c.write.new.journal.entries; entries = b.entries + 1; next_mark = b.next_mark; now = b.time; made = c.take.new.self.made; tokens = live b.tokens.items; slots = b.tokens.items; calls = c.take.new.self.items; scopes = b.scopes.items; steps = b.steps.items; groups = c.leave.new.self.items; cells = b.cells.items } in
    let journal : s'.journal ≡ s.journal ++ e ∷ [] = ap (λ j. j.entries) c.in_ok-write.ensures.added in
    let T : Exchanges s s' [] [] (a.call ∷ []) [] 0 e = record {
      limit = refl;
      journal = journal;
      entries = refl;
      mark = omega arith;
      now = refl;
      made_so = omega (arith, c.take.ensures.made);
      tokens = λ w. omega arith;
      calls = λ w. omega (arith, c.take.ensures.one a.call pends refl w);
      groups = c.leave.ensures.items;
      scopes = refl;
      steps = refl;
      cells = refl;
    } in
    let L' = return_halt-lawful l sites s K.lawful a.call pends (due-there l sites b.counts b.groups.sizes s K a.call pends Halt due) room s' T in
    record {
      kept = record {
        lawful = L';
        grouped = halted-grouped l sites s K.lawful K.grouped a.call s' e T;
        told = returns-told l sites s s' K.lawful L' K.told [] [] a.call e tt T;
        counted = counted-kept l sites s s' K.lawful L' (e ∷ []) journal (tt, tt) b.counts K.counted;
        sized = λ j. omega (arith, c.leave.ensures.sizes j, exchanged-members s s' [] [] (a.call ∷ []) [] 0 e T j, K.sized j, ap (is_this j) c.group_at-group.ensures);
        brought = exchanged-brought s s' K.brought [] [] (a.call ∷ []) [] 0 e T (omega arith);
      };
      rest = c.self.invariant.rest;
      version = ap (λ j. j.version) c.in_ok-write.ensures.added ∙ c.self.invariant.version;
      limited = c.self.invariant.limited;
    }

pub returns-clause-done : goal.returns-clause-done
returns-clause-done g c =
    let b = c.self.inside in
    let a = c.args in
    let l = g.P.Run.listing in
    let sites = g.P.Run.sites in
    let K = c.self.invariant.kept in
    let s : Records = record { limit = b.limit; journal = b.journal.entries; entries = b.entries; next_mark = b.next_mark; now = b.time; made = b.calls.made; tokens = live b.tokens.items; slots = b.tokens.items; calls = b.calls.items; scopes = b.scopes.items; steps = b.steps.items; groups = b.groups.items; cells = b.cells.items } in
    let pends : IsIn a.call s.calls = rw (← c.self.view_is) at c.requires.pends in
    let due : DueNow a.call.made_at a.call.found Halt s.now = rw (← c.self.view_is) at c.requires.due in
    let room : s.entries < s.limit = rw (← c.self.view_is) at c.requires.room in
    let e = ReturnHalt a.call.number in
    let s' : Records = record { limit = b.limit; journal = c.write.new.journal.entries; entries = b.entries + 1; next_mark = b.next_mark; now = b.time; made = c.take.new.self.made; tokens = live b.tokens.items; slots = b.tokens.items; calls = c.take.new.self.items; scopes = b.scopes.items; steps = b.steps.items; groups = c.leave.new.self.items; cells = b.cells.items } in
    let journal : s'.journal ≡ s.journal ++ e ∷ [] = ap (λ j. j.entries) c.in_ok-write.ensures.added in
    let T : Exchanges s s' [] [] (a.call ∷ []) [] 0 e = record {
      limit = refl;
      journal = journal;
      entries = refl;
      mark = omega arith;
      now = refl;
      made_so = omega (arith, c.take.ensures.made);
      tokens = λ w. omega arith;
      calls = λ w. omega (arith, c.take.ensures.one a.call pends refl w);
      groups = c.leave.ensures.items;
      scopes = refl;
      steps = refl;
      cells = refl;
    } in
    rw (← c.self.view_is) T
