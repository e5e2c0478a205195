-- From the lists that a call leaves to what it says of them.
use Rattle.std.proofs.Common.{◌≡◌, ◌≤◌, ℕ, ◌+◌, List, [], ◌∷◌, ◌++◌, ap, ◌∙◌, arith, length}
use Rattle.orc_rules.specs.declared.entry.Entry.{Entry}
use Rattle.orc_rules.specs.Timed.{IsIn}
use Rattle.orc_env.specs.declared.names.Bound.{Bound}
use Rattle.orc_env.specs.declared.names.Scope.{Scope}
use Rattle.orc_indexes.specs.Same.{weight}
use Rattle.std.specs.Prelude.{nat_lt}
use Rattle.std.proofs.lemmas.Bool.{ltb-false}
use Rattle.orc_rules.specs.Nodes.{Listing}
use Rattle.orc_rules.specs.Sites.{Site}
use Rattle.orc_ledger_spec.specs.Records.{Records, Lawful, token_out}
use Rattle.orc_frames.specs.Paths.{is_out}
use Rattle.orc_ledger_spec.specs.Calls.{Turns, Crosses}
use Rattle.orc_frames.specs.Taking.{Publishes}
use Rattle.orc_tables.specs.declared.records.Token.{Token}
use Rattle.orc_tables.specs.declared.records.Step.{Step}
use Rattle.orc_tables.specs.declared.records.Group.{Group}
use Rattle.orc_indexes.proofs.Weight.{weight-append, none-in}
use Rattle.orc_frames.proofs.Growth.{or_false}
use Rattle.orc_ledger_spec.proofs.Sound.{given}

-- the next mark is no free slot's
pub later_mark : (l : Listing) (sites : List Site) (s : Records) (L : Lawful l sites s) (t : Token) → IsIn t s.tokens → 1 ≤ s.next_mark
later_mark l sites s L t i = omega (arith, given l sites s L t i)

pub turns : (s s' : Records) (t : Token) (births : List Token) (ss : List Scope) (ps : List Step) (gs : List Group) (cs : List Bound) (e : Entry)
    → s'.limit ≡ s.limit → s'.journal ≡ s.journal ++ e ∷ [] → s'.entries ≡ s.entries + 1 → s'.next_mark ≡ s.next_mark + length births → s'.now ≡ s.now → s'.made ≡ s.made
    → ((w : Token → ℕ) → weight w s'.tokens + w t ≡ weight w s.tokens + weight w births) → s'.calls ≡ s.calls → s'.scopes ≡ s.scopes ++ ss → s'.steps ≡ s.steps ++ ps → s'.groups ≡ s.groups ++ gs → s'.cells ≡ s.cells ++ cs
    → Turns s s' t births ss ps gs cs e
turns s s' t births ss ps gs cs e limit journal entries mark now made tokens calls scopes steps groups cells =
    record {
      limit = limit;
      journal = journal;
      entries = entries;
      mark = mark;
      now = now;
      made = made;
      tokens = tokens;
      calls = calls;
      groups = λ w. ap (weight w) groups ∙ weight-append w s.groups gs;
      scopes = scopes;
      steps = steps;
      cells = cells;
    }

pub step_in : (l : Listing) (sites : List Site) (s : Records) (L : Lawful l sites s) (t : Token) → IsIn t s.tokens → t.step ≤ length s.steps
step_in l sites s L t i = ltb-false (length s.steps) t.step (or_false (is_out (length s.scopes) t.standing) (nat_lt (length s.steps) t.step) (none-in (token_out (length s.scopes) (length s.steps)) s.tokens t L.sound.tokens i)).1

pub crosses : (s s' : Records) (t : Token) (births : List Token) (ss : List Scope) (ns : List ℕ) (e : Entry)
    → s'.limit ≡ s.limit → s'.journal ≡ s.journal ++ e ∷ [] → s'.entries ≡ s.entries + 1 → s'.next_mark ≡ s.next_mark + length births → s'.now ≡ s.now → s'.made ≡ s.made
    → ((w : Token → ℕ) → weight w s'.tokens + w t ≡ weight w s.tokens + weight w births) → s'.calls ≡ s.calls → s'.scopes ≡ s.scopes ++ ss → Publishes ns s.steps s'.steps → s'.groups ≡ s.groups → s'.cells ≡ s.cells
    → Crosses s s' t births ss ns e
crosses s s' t births ss ns e limit journal entries mark now made tokens calls scopes steps groups cells =
    record {
      limit = limit;
      journal = journal;
      entries = entries;
      mark = mark;
      now = now;
      made = made;
      tokens = tokens;
      calls = calls;
      groups = groups;
      scopes = scopes;
      steps = steps;
      cells = cells;
    }
