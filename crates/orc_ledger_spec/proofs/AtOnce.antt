-- A call and its answer in one go: the records between them, and what a ledger keeps over both.
use Rattle.std.proofs.Common.{◌≡◌, ◌<◌, ◌+◌, ◌-◌, ℕ, List, [], ◌∷◌, ◌++◌, length, slice_set, refl, ap, subst, arith}
use Rattle.orc_rules.specs.declared.value.Value.{Value}
use Rattle.orc_rules.specs.declared.value.Answer.{Answer}
use Rattle.orc_rules.specs.declared.value.Answer.TheVariants.{Value as Gives, Halt}
use Rattle.orc_rules.specs.declared.value.Found.TheVariants.{After}
use Rattle.orc_rules.specs.declared.entry.Entry.TheVariants as entry
use Rattle.orc_rules.specs.Nodes.{Listing}
use Rattle.orc_rules.specs.Sites.{Site}
use Rattle.orc_rules.specs.Timed.{IsIn}
use Rattle.orc_calls.specs.Due.{DueNow}
use Rattle.orc_indexes.specs.Same.{weight, is_this}
use Rattle.orc_ledger_spec.specs.Records.{Records}
use Rattle.orc_tables.specs.Steps.{group_at}
use Rattle.orc_ledger_spec.specs.Calls.{Exchanges}
use Rattle.orc_ledger_spec.specs.AtOnce.{IsCalled}
use Rattle.orc_ledger_spec.specs.Kept.{Kept}
use Rattle.orc_tables.specs.OpenGroups.{size_of}
use Rattle.orc_tables.specs.Tokens.{live, IsHeld}
use Rattle.orc_tables.specs.declared.records.Standing.TheVariants.{At, On}
use Rattle.orc_tables.specs.declared.records.Token.{Token}
use Rattle.orc_tables.specs.declared.records.Call.{Call}
use Rattle.orc_ledger_spec.specs.declared.results.Called.TheVariants as called
use Rattle.orc_ledger_spec.proofs.Answered.{due-there}
use Rattle.orc_ledger_spec.proofs.Asking.{return-lawful, return_halt-lawful}
use Rattle.orc_ledger_spec.proofs.Calling.{returns-told}
use Rattle.orc_ledger_spec.proofs.Grouped.{returned-grouped, halted-grouped}
use Rattle.orc_ledger_spec.proofs.Keeping.{counted-kept}
use Rattle.orc_ledger_spec.proofs.Brought.{exchanged-brought}
use Rattle.orc_ledger_spec.proofs.Sizes.{exchanged-members}
use Rattle.orc_tables.proofs.Slots.{removed}

-- what stands in a slot that is free
abbrev pub nobody : Token
nobody = record { serial = 0; standing = At 0 0; step = 0 }

-- token t, in a slot, calls site m, and the table answers it at once
module _ (s : Records) (slot : ℕ) (t : Token) (m : ℕ) (args : List Value) (a : Answer) (nth : ℕ) where
  abbrev pub made : Call
  made = record { number = s.made + 1; found = After a 0; made_at = s.now; step = t.step; row = length s.journal; nth = nth }

  -- the records between the call and its answer
  abbrev pub between : Records
  between = record {
    limit = s.limit;
    journal = s.journal ++ entry.Call t.serial (s.made + 1) m args ∷ [];
    entries = s.entries + 1;
    next_mark = s.next_mark;
    now = s.now;
    made = s.made + 1;
    tokens = live (slice_set s.slots slot nobody);
    slots = slice_set s.slots slot nobody;
    calls = made ∷ s.calls;
    scopes = s.scopes;
    steps = s.steps;
    groups = s.groups;
    cells = s.cells;
  }

  module _ (tokens : s.tokens ≡ live s.slots) (held : IsHeld s.slots slot t) where
    pub made-between : Exchanges s between (t ∷ []) [] [] (made ∷ []) 1 (entry.Call t.serial (s.made + 1) m args)
    made-between = record {
      limit = refl;
      journal = refl;
      entries = refl;
      mark = omega arith;
      now = refl;
      made_so = refl;
      tokens = λ w. omega (arith, removed w s.slots slot t nobody held refl, ap (weight w) tokens);
      calls = λ w. omega arith;
      groups = refl;
      scopes = refl;
      steps = refl;
      cells = refl;
    }

-- a call that pends is answered with a value
pub given_kept : (l : Listing) (sites : List Site) (counts : List (List ℕ × ℕ)) (sizes : List ℕ) (s : Records) → Kept l sites counts sizes s → (c : Call) → IsIn c s.calls → (v : Value) → DueNow c.made_at c.found (Gives v) s.now → s.entries < s.limit
    → (s' : Records) → Exchanges s s' [] (record { serial = s.next_mark; standing = On v; step = c.step } ∷ []) (c ∷ []) [] 0 (entry.Return c.number s.next_mark v) → Kept l sites counts sizes s'
given_kept l sites counts sizes s K c pends v due room s' T =
    let t : Token = record { serial = s.next_mark; standing = On v; step = c.step } in
    let e = entry.Return c.number s.next_mark v in
    let L' = return-lawful l sites s K.lawful c pends v (due-there l sites counts sizes s K c pends (Gives v) due) room s' T in
    record {
      lawful = L';
      grouped = returned-grouped l sites s K.lawful K.grouped c pends t refl s' e T;
      told = returns-told l sites s s' K.lawful L' K.told [] (t ∷ []) c e tt T;
      counted = counted-kept l sites s s' K.lawful L' (e ∷ []) T.journal (tt, tt) counts K.counted;
      sized = λ j. omega (arith, exchanged-members s s' [] (t ∷ []) (c ∷ []) [] 0 e T j, K.sized j);
      brought = exchanged-brought s s' K.brought [] (t ∷ []) (c ∷ []) [] 0 e T (omega arith);
    }

-- one halts, and its group has a member less
pub halted_kept : (l : Listing) (sites : List Site) (counts : List (List ℕ × ℕ)) (sizes sizes' : List ℕ) (s : Records) → Kept l sites counts sizes s → (c : Call) → IsIn c s.calls → DueNow c.made_at c.found Halt s.now → s.entries < s.limit
    → (s' : Records) → Exchanges s s' [] [] (c ∷ []) [] 0 (entry.ReturnHalt c.number) → ((j : ℕ) → size_of sizes' j ≡ size_of sizes j - is_this j (group_at s.steps c.step)) → Kept l sites counts sizes' s'
halted_kept l sites counts sizes sizes' s K c pends due room s' T left =
    let e = entry.ReturnHalt c.number in
    let L' = return_halt-lawful l sites s K.lawful c pends (due-there l sites counts sizes s K c pends Halt due) room s' T in
    record {
      lawful = L';
      grouped = halted-grouped l sites s K.lawful K.grouped c s' e T;
      told = returns-told l sites s s' K.lawful L' K.told [] [] c e tt T;
      counted = counted-kept l sites s s' K.lawful L' (e ∷ []) T.journal (tt, tt) counts K.counted;
      sized = λ j. omega (arith, left j, exchanged-members s s' [] [] (c ∷ []) [] 0 e T j, K.sized j);
      brought = exchanged-brought s s' K.brought [] [] (c ∷ []) [] 0 e T (omega arith);
    }

-- the token that stands on the answer
pub answered-held : (l : Listing) (sites : List Site) (s : Records) (slot : ℕ) (t : Token) (v : Value) (s' : Records) → IsCalled l sites s slot t (called.Answered v) s' → IsHeld s'.slots slot (record { serial = s.next_mark; standing = On v; step = t.step })
answered-held l sites s slot t v s' (c, between, found, made, answered) =
    let mark : between.next_mark ≡ s.next_mark = omega (arith, made.exchanges.mark) in
    subst (λ (n : ℕ). IsHeld s'.slots slot (record { serial = n; standing = On v; step = t.step })) mark
    (subst (λ (n : ℕ). IsHeld s'.slots slot (record { serial = between.next_mark; standing = On v; step = n })) made.step answered.1)
