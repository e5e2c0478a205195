-- The story of a run: what the reference engine keeps of it so far.
use Rattle.std.specs.Prelude.{◌≡◌, ◌≤◌, ℕ, List, [], ◌∷◌, ◌++◌}
use Rattle.orc_rules.specs.declared.value.Value.{Value}
use Rattle.orc_rules.specs.declared.entry.Entry.{Entry}
use Rattle.orc_rules.specs.Sites.{Table}
use Rattle.orc_rules.specs.Nodes.{Listing, code, source}
use Rattle.orc_rules.specs.Journal.{Place, Journal, Leads, begin}
use Rattle.orc_rules.specs.Trace.{published}
use Rattle.orc_journal.specs.declared.journal.Version.TheVariants.{Two}
use Rattle.orc_journal.specs.Written.{Written, count}
use Rattle.orc_checker.specs.Checker.{State, Spells}
use Rattle.orc_outcome.specs.Outcome.{context, EndsAt}
use Rattle.orc_outcome.specs.declared.end.End.{End}

-- the marked term, the values that were published, and the journal
pub record Story : Type 0 where
  pub marked : State
  pub published : List Value
  pub journal : Written

-- the story is that of this journal, which leads by the rules from the program's term to this place
pub record IsStory (l : Listing) (t : Table) (story : Story) (es : List Entry) (p : Place) : Type 0 where
  pub leads : Journal (context l t) (begin (source l)) es p
  pub spells : Spells (context l t) (code l) story.marked p
  pub values : story.published ≡ published es
  pub entries : story.journal ≡ record { version = Two; entries = es }

-- the entry leads on from each place where the old story can stand, and the new story tells it
abbrev pub Grows : Listing → Table → Entry → Story → Story → Type 0
Grows l t e old new = (es : List Entry) (p : Place) → IsStory l t old es p → (q : Place) × Leads (context l t) p e q × IsStory l t new (es ++ e ∷ []) q

-- the story is that of a journal with `turns` entries, cancels not counted, after which no cancel is due
pub record IsReached (l : Listing) (t : Table) (turns : ℕ) (story : Story) : Type 0 where
  pub journal : List Entry
  pub place : Place
  pub told : IsStory l t story journal place
  pub paid : place.to_cancel ≡ []
  pub turns_are : count journal ≡ turns

-- the new story tells of the same journal with further cancels, until none is due
abbrev pub Settles : Listing → Table → Story → Story → Type 0
Settles l t old new = (es : List Entry) (p : Place) → IsStory l t old es p → IsReached l t (count es) new

-- the run of this story has ended so, within the limit
pub record HasEnded (l : Listing) (t : Table) (limit : ℕ) (story : Story) (end : End) : Type 0 where
  pub turns : ℕ
  pub reached : IsReached l t turns story
  pub within : turns ≤ limit
  pub ends : EndsAt (context l t) limit reached.journal reached.place end
