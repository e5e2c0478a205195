use Rattle.std.proofs.Common.{◌≡◌, ◌<◌, ◌+◌, ◌∙◌, ◌++◌, ◌∷◌, [], ℕ, refl, ap, arith, false}
use Rattle.orc_rules.specs.declared.entry.Entry.TheVariants.{Right}
use Rattle.orc_rules.specs.Timed.{IsIn}
use Rattle.orc_rules.specs.Nodes.{code, definitions}
use Rattle.orc_indexes.specs.Same.{weight}
use Rattle.orc_tables.specs.Tokens.{live}
use Rattle.orc_ledger_spec.specs.Records.{Records}
use Rattle.orc_frames.specs.Paths.{has_published}
use Rattle.orc_ledger_spec.specs.Calls.{Resumes}
use Rattle.orc_ledger_spec.specs.Next.{members, numbers_of}
use Rattle.orc_tables.specs.declared.records.Standing.TheVariants.{At}
use Rattle.orc_tables.specs.declared.records.Token.{Token}
use Rattle.orc_ledger_spec.proofs.AtRest.{rest-kept, same-terms}
use Rattle.orc_tables.proofs.Parked.{stay-on, stay-same}
use Rattle.orc_ledger_spec.proofs.Emptied.{left-empty}
use Rattle.orc_ledger_spec.proofs.Resuming.{right-lawful}
use Rattle.orc_ledger_spec.proofs.Calling.{resumes-told}
use Rattle.orc_ledger_spec.proofs.Keeping.{counted-kept}
use Rattle.orc_ledger_spec.proofs.Grouped.{resumed-grouped}
use Rattle.orc_ledger_spec.proofs.Closed.{mark-later}
use Rattle.orc_tables.specs.OpenGroups.{size_of}
use Rattle.orc_ledger_spec.proofs.Sizes.{resumed-members}
use Rattle.orc_tables.proofs.Slots.{live-in}
use Rattle.orc_ledger_spec.proofs.Brought.{resumed-brought}
use Rattle.orc_ledger.proofs.Others.{same-all, then-all}
use Rattle.orc_ledger.proofs.ledger.Ledger.right.Goals as goal

pub add-slot-requires-clause-serial : goal.add-slot-requires-clause-serial
add-slot-requires-clause-serial g c =
    let b = c.self.inside in
    let a = c.args in
    let l = g.P.Run.listing in
    let sites = g.P.Run.sites in
    let L = c.self.invariant.kept.lawful in
    let G = c.self.invariant.kept.grouped in
    let s : Records = record { limit = b.limit; journal = b.journal.entries; entries = b.entries; next_mark = b.next_mark; now = b.time; made = b.calls.made; tokens = live b.tokens.items; slots = b.tokens.items; calls = b.calls.items; scopes = b.scopes.items; steps = b.steps.items; groups = b.groups.items; cells = b.cells.items } in
    let i : IsIn a.group s.groups = rw (← c.self.view_is) at c.requires.there in
    mark-later l sites s L G a.group i a.number a.node a.scope c.requires.side

pub invariant_of-self-2 : goal.invariant_of-self-2
invariant_of-self-2 g c =
    let b = c.self.inside in
    let a = c.args in
    let l = g.P.Run.listing in
    let sites = g.P.Run.sites in
    let L = c.self.invariant.kept.lawful in
    let G = c.self.invariant.kept.grouped in
    let s : Records = record { limit = b.limit; journal = b.journal.entries; entries = b.entries; next_mark = b.next_mark; now = b.time; made = b.calls.made; tokens = live b.tokens.items; slots = b.tokens.items; calls = b.calls.items; scopes = b.scopes.items; steps = b.steps.items; groups = b.groups.items; cells = b.cells.items } in
    let i : IsIn a.group s.groups = rw (← c.self.view_is) at c.requires.there in
    let copy : Token = record { serial = s.next_mark; standing = At a.node a.scope; step = a.group.outer } in
    let s' : Records = record { limit = b.limit; journal = c.write.new.journal.entries; entries = b.entries + 1; next_mark = b.next_mark + 1; now = b.time; made = b.calls.made; tokens = live c.add-slot.new.self.items; slots = c.add-slot.new.self.items; calls = b.calls.items; scopes = b.scopes.items; steps = b.steps.items; groups = c.take-left.new.self.items; cells = b.cells.items } in
    let tokens : (w : Token → ℕ) → weight w s'.tokens ≡ weight w s.tokens + w copy = λ w. c.add-slot.ensures.added w ∙ ap (λ z. weight w (live z) + w copy) c.in_ok-reserve.ensures.items in
    let journal : s'.journal ≡ s.journal ++ Right a.number s.next_mark ∷ [] = ap (λ j. j.entries) c.in_ok-write.ensures.added in
    let T : Resumes s s' a.group a.number a.node a.scope = record { limit = refl; journal = journal; entries = refl; mark = refl; now = refl; made = refl; tokens = tokens; calls = refl; groups = λ w. c.take-left.ensures.one a.group i refl w; scopes = refl; steps = refl; cells = refl } in
    let empty : members (numbers_of s) s a.group.number ≡ 0 = rw (← c.self.view_is) at c.requires.empty in
    let stays : has_published s.steps a.number ≡ false = rw (← c.self.view_is) at c.requires.stays in
    let room : s.entries < s.limit = rw (← c.self.view_is) at c.in_ok-within.ensures.room in
    let K = c.self.invariant.kept in
    let L' = right-lawful l sites s L a.group i a.number a.node a.scope c.requires.side stays (left-empty l sites s L (numbers_of s) G a.group i empty a.number a.node a.scope c.requires.side stays) room s' T in
    record {
      kept = record {
        lawful = L';
        grouped = resumed-grouped l sites s L G a.group i empty a.number a.node a.scope s' T;
        told = resumes-told l sites s s' L L' K.told a.group a.number a.node a.scope T;
        counted = counted-kept l sites s s' L L' (Right a.number s.next_mark ∷ []) journal (tt, tt) b.counts K.counted;
        sized = λ j. omega (arith, ap (λ z. size_of z j) c.take-left.ensures.sizes, resumed-members s s' a.group a.number a.node a.scope T j, K.sized j);
        brought = resumed-brought s s' K.brought a.group a.number a.node a.scope T;
      };
      rest = rest-kept (code l) (definitions l) s s' b.tokens c.add-slot.new.self refl refl c.self.invariant.rest (live-in b.tokens.items) (stay-on b.tokens c.reserve.new.self c.add-slot.new.self (stay-same b.tokens c.reserve.new.self c.in_ok-reserve.ensures.items c.in_ok-reserve.ensures.parked) c.add-slot.ensures.parked) (same-terms (code l) s s' refl refl);
      version = ap (λ j. j.version) c.in_ok-write.ensures.added ∙ c.self.invariant.version;
      limited = c.self.invariant.limited;
    }

pub returns-clause-done : goal.returns-clause-done
returns-clause-done g c =
    let b = c.self.inside in
    let a = c.args in
    let l = g.P.Run.listing in
    let sites = g.P.Run.sites in
    let L = c.self.invariant.kept.lawful in
    let G = c.self.invariant.kept.grouped in
    let s : Records = record { limit = b.limit; journal = b.journal.entries; entries = b.entries; next_mark = b.next_mark; now = b.time; made = b.calls.made; tokens = live b.tokens.items; slots = b.tokens.items; calls = b.calls.items; scopes = b.scopes.items; steps = b.steps.items; groups = b.groups.items; cells = b.cells.items } in
    let i : IsIn a.group s.groups = rw (← c.self.view_is) at c.requires.there in
    let copy : Token = record { serial = s.next_mark; standing = At a.node a.scope; step = a.group.outer } in
    let s' : Records = record { limit = b.limit; journal = c.write.new.journal.entries; entries = b.entries + 1; next_mark = b.next_mark + 1; now = b.time; made = b.calls.made; tokens = live c.add-slot.new.self.items; slots = c.add-slot.new.self.items; calls = b.calls.items; scopes = b.scopes.items; steps = b.steps.items; groups = c.take-left.new.self.items; cells = b.cells.items } in
    let tokens : (w : Token → ℕ) → weight w s'.tokens ≡ weight w s.tokens + w copy = λ w. c.add-slot.ensures.added w ∙ ap (λ z. weight w (live z) + w copy) c.in_ok-reserve.ensures.items in
    let journal : s'.journal ≡ s.journal ++ Right a.number s.next_mark ∷ [] = ap (λ j. j.entries) c.in_ok-write.ensures.added in
    let T : Resumes s s' a.group a.number a.node a.scope = record { limit = refl; journal = journal; entries = refl; mark = refl; now = refl; made = refl; tokens = tokens; calls = refl; groups = λ w. c.take-left.ensures.one a.group i refl w; scopes = refl; steps = refl; cells = refl } in
    rw (← c.self.view_is) T

pub returns-clause-others : goal.returns-clause-others
returns-clause-others g c =
    let b = c.self.inside in
    let a = c.args in
    rw (← c.self.view_is) (then-all b.tokens.items c.reserve.new.self.items c.add-slot.new.self.items (same-all b.tokens.items c.reserve.new.self.items c.in_ok-reserve.ensures.items) c.add-slot.ensures.others)
