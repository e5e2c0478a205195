-- What the words of a book stand for.
use Rattle.std.specs.Prelude.{◌≡◌, ◌≤◌, ◌<◌, ◌⊎◌, ℕ, List, Bool, true, false, Option, Some, None, count_by, slice_index_or}
use Rattle.orc_word.specs.declared.view.View.{View}
use Rattle.orc_ledger_spec.specs.Records.{Records}
use Rattle.orc_tables.specs.Steps.{group_at}
use Rattle.orc_tables.specs.declared.records.Token.{Token}
use Rattle.orc_word.specs.declared.naming.Naming.{Ghosts}
use Rattle.orc_book.specs.Held.{Held, Hold, Stood, IsMissing, IsThere, IsToken, word_at}
use Rattle.orc_book.specs.declared.token.Token.{Token as Out}
use Rattle.orc_book.specs.declared.token.BookFault.{BookFault}
use Rattle.orc_book.specs.declared.token.BookFault.TheVariants as fault
use Rattle.orc_book.specs.declared.word_table.Kind.{Kind}
use Rattle.orc_book.specs.declared.word_table.Kind.TheVariants.{Free}
use Rattle.orc_book.specs.declared.word_table.Kind.TheVariants as kind
use Rattle.orc_book.specs.declared.word_table.Stand.{Stand}
use Rattle.orc_book.specs.declared.word_table.Stand.TheVariants.{Open, Dying}

-- a word that is free, one that stands for the open group with this number, and one of a killed group, which holds this pass
abbrev pub unused : Stood
unused = record { kind = Free; owed = None }

abbrev pub named : ℕ → Stood
named number = record { kind = kind.Open number; owed = None }

abbrev pub killed : Option View → Stood
killed pass = record { kind = kind.Dying; owed = pass }

-- what word w stands for: a word that isn't listed is free
abbrev pub stood_at : List Stood → ℕ → Stood
stood_at ws w = slice_index_or ws w unused

abbrev pub kind_at : List Stood → ℕ → Kind
kind_at ws w = Stood.kind (stood_at ws w)

-- the pass that it holds
abbrev pub owed_at : List Stood → ℕ → Option View
owed_at ws w = Stood.owed (stood_at ws w)

-- the word isn't free; it is that of a killed group
abbrev pub takes : Kind → Bool
takes Free = false
takes (kind.Open number) = true
takes kind.Dying = true

abbrev pub is_taken : Stood → Bool
is_taken s = takes s.kind

abbrev pub dies : Kind → Bool
dies Free = false
dies (kind.Open number) = false
dies kind.Dying = true

abbrev pub is_dying : Stood → Bool
is_dying s = dies s.kind

-- why none of so many words is opened: as many are taken, or one is free and the shared words refuse it; memory tells nothing of the words
abbrev pub HasNoWord : List Stood → ℕ → BookFault → Type 0
HasNoWord ws words fault.Full = words ≤ count_by is_taken ws
HasNoWord ws words fault.Live = (w : ℕ) × (w < words) × (kind_at ws w ≡ Free)
HasNoWord ws words fault.Memory = Unit {0}
HasNoWord ws words _ = ⊥

-- what an entry of the table shows
abbrev pub stood_of : {X : Type 0} {g : Ghosts X} → Option (Stand X g) → Stood
stood_of None = unused
stood_of (Some (Open number)) = named number
stood_of (Some (Dying owed)) = killed owed.pass

-- word w has come to stand for this, and no other word has changed
pub record Turns (ws : List Stood) (w : ℕ) (to : Stood) (ws' : List Stood) : Type 0 where
  pub turned : stood_at ws' w ≡ to
  pub others : (v : ℕ) → (v ≡ w → ⊥) → stood_at ws' v ≡ stood_at ws v

-- word w was free, and stands for the open group with this number
abbrev pub IsOpened : List Stood → ℕ → ℕ → List Stood → Type 0
IsOpened ws w number ws' = (kind_at ws w ≡ Free) × Turns ws w (named number) ws'

-- each word stands for what it did, but those of open groups that the records have no more stand for killed ones
abbrev pub HaveDied : Records → List Stood → List Stood → Type 0
HaveDied s ws ws' = (w : ℕ) → (stood_at ws' w ≡ stood_at ws w) ⊎ ((number : ℕ) × (kind_at ws w ≡ kind.Open number) × IsMissing s number × (kind_at ws' w ≡ kind.Dying))

-- no word stands for an open group that the records haven't
abbrev pub AreThere : Records → List Stood → Type 0
AreThere s ws = (w number : ℕ) → kind_at ws w ≡ kind.Open number → IsThere s number

-- each open group, and the program's own, has a word of its own: that stands for it, and a word that stands for an open group is that group's
pub record AreNamed (s : Records) (ps : List Hold) (ws : List Stood) : Type 0 where
  -- the program's own group has the first word
  pub root : word_at ps 0 ≡ 0
  pub has : (i : ℕ) → IsThere s i → kind_at ws (word_at ps i) ≡ kind.Open i
  pub is : (w i : ℕ) → kind_at ws w ≡ kind.Open i → IsThere s i × (word_at ps i ≡ w)

-- the token is out in a new group: the word of that was free and stands for it, no other word has changed, and the same tokens are kept
abbrev pub OpensWord : {X : Type 0} → Held → Out X → Held → Type 0
OpensWord b k b' = (t : Token) × IsToken b' k.slot k.serial k.pass t × IsOpened b.stands (word_at b'.posts (group_at b'.ledger.steps t.step)) (group_at b'.ledger.steps t.step) b'.stands × (b'.marks ≡ b.marks)

-- what the table of words shows: what each word stands for, and the word that is opened next
pub record Shown : Type 0 where
  pub stands : List Stood
  pub next : ℕ
