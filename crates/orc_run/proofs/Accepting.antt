-- What is said of the journal that a run wrote.
use Rattle.std.proofs.Common.{◌≡◌, ◌≢◌, ◌<◌, ◌⊎◌, inl, inr, ℕ, suc, true, List, [], ◌∷◌, ◌++◌, length, drop, get_or, refl, sym, ap, subst, ◌∙◌, arith, Ok, Err, Option, Some}
use Rattle.std.proofs.lemmas.List.{append-nil}
use Rattle.std.specs.Io.KnownBytes.{Appends}
use Rattle.orc_rules.specs.declared.entry.Entry.{Entry}
use Rattle.orc_rules.specs.declared.entry.RuleFault.{RuleFault}
use Rattle.orc_rules.specs.declared.entry.RuleFault.TheVariants as reason
use Rattle.orc_rules.specs.declared.entry.State.{State}
use Rattle.orc_rules.specs.declared.entry.State.TheVariants as state
use Rattle.orc_rules.specs.Term.{Term}
use Rattle.orc_rules.specs.Sites.{Table, AreNames}
use Rattle.orc_rules.specs.Nodes.{Listing, definitions, source}
use Rattle.orc_rules.specs.Timed.{Context}
use Rattle.orc_rules.specs.Journal.{Place, Journal, Leads, begin}
use Rattle.orc_rules.specs.Numbered.{IsNumbered}
use Rattle.orc_rules.specs.Refusal.{IsRefused}
use Rattle.orc_rules.specs.Verdict.{AreTaken, FaultFrom, IsAt, IsVerdict, IsFault as Faults}
use Rattle.orc_rules.proofs.Determined.{leads_one}
use Rattle.orc_rules.proofs.Numbered.{begin_numbered, entered_numbered}
use Rattle.orc_rules.proofs.Refusal.{meets_and_leads}
use Rattle.orc_rules.proofs.Tests.{at_one}
use Rattle.orc_syntax.specs.Tree.{Source}
use Rattle.orc_syntax.specs.Text.{SpellsText, IsFault as IsSyntaxFault, IfFault}
use Rattle.orc_syntax.specs.declared.fault.SyntaxFault.{SyntaxFault}
use Rattle.orc_syntax.specs.declared.fault.SyntaxFault.TheVariants as syntax
use Rattle.orc_syntax.proofs.Least.{one_source, only_limits}
use Rattle.orc_scope.specs.declared.fault.ScopeFault.{ScopeFault}
use Rattle.orc_scope.specs.declared.fault.FaultKind.TheVariants as scope
use Rattle.orc_scope.specs.Scope.{IsLeast}
use Rattle.orc_scope.specs.Checking.{Checks, Blames}
use Rattle.orc_site.specs.declared.script.ScriptFault.{ScriptFault}
use Rattle.orc_site.specs.declared.script.ScriptFault.TheVariants as script
use Rattle.orc_site.specs.Script.{Says, Rule, IsGood, AreRules, script_table, IsFault as IsScriptFault}
use Rattle.orc_journal.specs.declared.journal.Version.{Version}
use Rattle.orc_journal.specs.declared.journal.Version.TheVariants.{One, Two}
use Rattle.orc_journal_text.specs.declared.text.JournalFault.{JournalFault}
use Rattle.orc_journal_text.specs.declared.text.JournalFault.TheVariants as journal
use Rattle.orc_journal.specs.Written.{Written}
use Rattle.orc_journal_text.specs.Texts.{header, entry_lines, AreOf, NoLine, IsJournal, IsFault as IsBadText}
use Rattle.orc_journal_text.proofs.Stripping.{strip, whole_same}
use Rattle.orc_checker.specs.Checker.{context as context_of}
use Rattle.orc_verdict.specs.Verdicts.{records_cancels}
use Rattle.orc_load.specs.Loading.{IsProgramOf, SpellsTree}
use Rattle.orc_run.specs.Running.{IsTold, written}
use Rattle.orc_outcome.specs.Outcome.{context, EndsAt, IsRun, Outcome}
use Rattle.orc_run.specs.Checked.{verdict_line, StandsSo, IsOfRun}
use Rattle.orc_outcome.specs.declared.end.End.{End}
use Rattle.orc_outcome.specs.declared.end.End.TheVariants as ends
use Rattle.orc_outcome.specs.declared.end.Summary.{Summary}
use Rattle.orc_cli.specs.declared.job.RunOptions.{RunOptions}
use Rattle.orc_cli.specs.declared.job.Wanted.{Wanted}
use Rattle.orc_cli.specs.declared.job.Wanted.TheVariants as wanted

-- ---- a source and a script are read in one way

same_table : (text : List ℕ) (t u : Table) → Says text t → Says text u → t ≡ u
same_table text t u a b = a.table ∙ (ap script_table (b.only a.rules a.script) ∙ sym b.table)

same_source : (text : List ℕ) (names : List (List ℕ)) (l m : Listing) (s r : Source) → SpellsText text s → SpellsText text r → Checks names s (Ok l) → Checks names r (Ok m) → (definitions l ≡ definitions m) × (source l ≡ source m)
same_source text names l m s r a b h k =
    let k' = subst (λ (z : Source). Checks names z (Ok m)) (one_source text r s b.2 a.2) k in
    (h.1.definitions ∙ sym k'.1.definitions, h.1.source ∙ sym k'.1.source)

same_context : (l m : Listing) (t : Table) → definitions l ≡ definitions m → context l t ≡ context m t
same_context l m t e = λ i. record { definitions = e i; sites = t.sites; cancels = true }

-- a run of one writing of the program is one of the other
run_of : (l m : Listing) (t : Table) (limit : ℕ) (o : Outcome) → definitions l ≡ definitions m → source l ≡ source m → IsRun l t limit o → IsRun m t limit o
run_of l m t limit o d s r =
    let x = same_context l m t d in
    record {
      place = r.place;
      leads = subst (λ (y : Context). Journal y (begin (source m)) o.journal r.place) x (subst (λ (z : Term). Journal (context l t) (begin z) o.journal r.place) s r.leads);
      ends = subst (λ (y : Context). EndsAt y limit o.journal r.place o.end) x r.ends;
      paid = r.paid;
      now = r.now;
      within = r.within;
    }

-- ---- the journal's text

-- the run, told by what the checker read of source and script
pub told_of : (text script journal : List ℕ) (s : Summary) (m : Listing) (u : Table) → IsOfRun text script journal s → Says script u → IsProgramOf text u m
    → (options : RunOptions) × (options.wanted ≡ wanted.Journal) × IsTold m u options s journal
told_of text script journal s m u of says (r, spells, checks) =
    let (options, kept, run) = of in
    let (l, t, said, (z, spelt, checked), told) = run in
    let table : t ≡ u = same_table script t u said says in
    let same = same_source text u.names l m z r spelt.0 spells.0 (subst (λ (v : Table). Checks v.names z (Ok l)) table checked) checks in
    let there : IsTold l u options s journal = subst (λ (v : Table). IsTold l v options s journal) table told in
    (options, kept, record { outcome = there.outcome; is_run = run_of l m u options.limit there.outcome same.0 same.1 there.is_run; tells = there.tells; shows = there.shows; fits = there.fits })

-- it is the text of the run's entries
lines_of : (names : List (List ℕ)) (w : Wanted) (text : List ℕ) (es : List Entry) → w ≡ wanted.Journal → text ≡ written w names es → text ≡ header Two ++ entry_lines names es
lines_of names w text es kept shows = shows ∙ ap (λ (v : Wanted). written v names es) kept

headers_differ : (a b : List ℕ) → header One ++ a ≡ header Two ++ b → ⊥
headers_differ a b e = omega (arith, ap (λ (z : List ℕ). get_or z 12 0) e)

behind_headers : (a b : List ℕ) → header Two ++ a ≡ header Two ++ b → a ≡ b
behind_headers a b e = ap (drop 14) e

module _ (names : List (List ℕ)) (are : AreNames names) (text : List ℕ) (es : List Entry) (front : text ≡ header Two ++ entry_lines names es) (fits : AreOf names Two es) where
  no_bad_line : (v : Version) (fs : List Entry) (rest : List ℕ) → text ≡ header v ++ (entry_lines names fs ++ rest) → AreOf names v fs → 0 < length rest → NoLine names v rest → ⊥
  no_bad_line One fs rest begins each some none = headers_differ _ _ (sym begins ∙ front)
  no_bad_line Two fs rest begins each some none =
      let s = strip names are Two fs es rest each fits (behind_headers _ _ (sym begins ∙ front)) in
      go s.0 s.2 s.3
    where
      go : (gs : List Entry) → rest ≡ entry_lines names gs → AreOf names Two gs → ⊥
      go [] e of_two = omega (arith, some, ap length e)
      go (g ∷ gs) e of_two = none g (entry_lines names gs) of_two.0 of_two.1 e

  pub read_whole : (f : JournalFault) → IsBadText names text f → (f ≡ journal.Long) ⊎ (f ≡ journal.Memory)
  read_whole journal.Header (size, none) = absurd (none Two (entry_lines names es) front)
  read_whole (journal.Line n) (v, fs, rest, begins, few, is, some, none) = absurd (no_bad_line v fs rest begins.front begins.each some none)
  read_whole journal.Long h = inl refl
  read_whole journal.Memory h = inr refl

  pub same_entries : (j : Written) → IsJournal names text j → ◌≡◌ {A = Written} (record { version = Two; entries = es }) j
  same_entries j is = whole_same names are text Two es [] j (front ∙ ap (λ (z : List ℕ). header Two ++ z) (sym (append-nil (entry_lines names es)))) fits refl is

-- ---- its entries

module _ (x : Context) (q : Place) (paid : q.to_cancel ≡ []) where
  refused_deep : (p : Place) (e : Entry) (mid : Place) → Leads x p e mid → (why : RuleFault) → why ≢ reason.Memory → IsRefused x p e why → why ≡ reason.Deep
  refused_deep p e mid lead reason.Cancel firm h = absurd (h.1 ((meets_and_leads x p e).1 mid lead reason.Cancel))
  refused_deep p e mid lead reason.Mark firm h = absurd (h.1 ((meets_and_leads x p e).1 mid lead reason.Mark))
  refused_deep p e mid lead reason.Form firm h = absurd (h.1 ((meets_and_leads x p e).1 mid lead reason.Form))
  refused_deep p e mid lead reason.Number firm h = absurd (h.1 ((meets_and_leads x p e).1 mid lead reason.Number))
  refused_deep p e mid lead reason.Answer firm h = absurd (h.1 ((meets_and_leads x p e).1 mid lead reason.Answer))
  refused_deep p e mid lead reason.Time firm h = absurd (h.1 ((meets_and_leads x p e).1 mid lead reason.Time))
  refused_deep p e mid lead reason.Halted firm h = absurd (h.1 ((meets_and_leads x p e).1 mid lead reason.Halted))
  refused_deep p e mid lead reason.Deep firm h = refl
  refused_deep p e mid lead reason.Memory firm h = absurd (firm refl)

  only_deep : (p : Place) (k : ℕ) (es : List Entry) (n : ℕ) (why : RuleFault) → IsNumbered p → Journal x p es q → why ≢ reason.Memory → FaultFrom x p k es n why → why ≡ reason.Deep
  only_deep p k [] n why num led firm (at, is, due) = absurd (due (ap (λ (w : Place). w.to_cancel) led ∙ paid))
  only_deep p k (e ∷ es) n why num (mid, lead, led) firm (inl (at, refused)) = refused_deep p e mid lead why firm refused
  only_deep p k (e ∷ es) n why num (mid, lead, led) firm (inr (next, taken, rest)) =
      only_deep mid (suc k) es n why (entered_numbered x p e mid lead.1 num) led firm (subst (λ (w : Place). FaultFrom x w (suc k) es n why) (leads_one x p e next mid num taken.0 lead) rest)

  taken_to : (p r : Place) (es : List Entry) → IsNumbered p → Journal x p es q → AreTaken x p es r → r ≡ q
  taken_to p r [] num led taken = sym taken ∙ led
  taken_to p r (e ∷ es) num (mid, lead, led) (next, taken, rest) = taken_to mid r es (entered_numbered x p e mid lead.1 num) led (subst (λ (w : Place). AreTaken x w es r) (leads_one x p e next mid num taken.0 lead) rest)

  stands_at : (end : End) (limit : ℕ) (es : List Entry) (s : State) → EndsAt x limit es q end → IsAt x q s → StandsSo end s
  stands_at ends.Halted limit es s ends at = at_one x q s state.Halted at ends
  stands_at ends.Quiet limit es s ends at = at_one x q s state.Quiet at ends
  stands_at ends.Limit limit es s ends at = tt
  stands_at ends.Full limit es s ends at = tt
  stands_at ends.Memory limit es s ends at = tt

-- ---- what is said of it

-- a fault of its text
pub text_beyond : (options : RunOptions) (s : Summary) (text : List ℕ) (m : Listing) (u : Table) → AreNames u.names → options.wanted ≡ wanted.Journal → IsTold m u options s text → (f : JournalFault) → IsBadText u.names text f → (f ≡ journal.Long) ⊎ (f ≡ journal.Memory)
text_beyond options s text m u are kept told = read_whole u.names are text told.outcome.journal (lines_of u.names options.wanted text told.outcome.journal kept told.shows) (told.fits kept)

-- a fault of its entries
pub check_beyond : (options : RunOptions) (s : Summary) (text : List ℕ) (m : Listing) (u : Table) → AreNames u.names → options.wanted ≡ wanted.Journal → IsTold m u options s text → (j : Written) → IsJournal u.names text j
    → (n : ℕ) (why : RuleFault) → (why ≢ reason.Memory → Faults (context_of m u (records_cancels j.version)) (source m) j.entries n why) → (why ≡ reason.Deep) ⊎ (why ≡ reason.Memory)
check_beyond options s text m u are kept told j is n why faults = go why (λ firm. deep why firm (faults firm)) where
  es : List Entry
  es = told.outcome.journal

  deep : (w : RuleFault) → w ≢ reason.Memory → Faults (context_of m u (records_cancels j.version)) (source m) j.entries n w → w ≡ reason.Deep
  deep w firm h =
      let same = same_entries u.names are text es (lines_of u.names options.wanted text es kept told.shows) (told.fits kept) j is in
      only_deep (context m u) told.is_run.place told.is_run.paid (begin (source m)) 1 es n w (begin_numbered (source m)) told.is_run.leads firm
      (subst (λ (k : Written). Faults (context_of m u (records_cancels k.version)) (source m) k.entries n w) (sym same) h)

  go : (w : RuleFault) → (w ≢ reason.Memory → w ≡ reason.Deep) → (w ≡ reason.Deep) ⊎ (w ≡ reason.Memory)
  go reason.Memory h = inr refl
  go reason.Cancel h = inl (h (λ e. cc e))
  go reason.Mark h = inl (h (λ e. cc e))
  go reason.Form h = inl (h (λ e. cc e))
  go reason.Number h = inl (h (λ e. cc e))
  go reason.Answer h = inl (h (λ e. cc e))
  go reason.Time h = inl (h (λ e. cc e))
  go reason.Halted h = inl (h (λ e. cc e))
  go reason.Deep h = inl refl

-- the verdict on it
pub verdict_so : (options : RunOptions) (s : Summary) (text : List ℕ) (m : Listing) (u : Table) → AreNames u.names → options.wanted ≡ wanted.Journal → IsTold m u options s text → (j : Written) → IsJournal u.names text j
    → (stands : State) (now : ℕ) → IsVerdict (context_of m u (records_cancels j.version)) (source m) j.entries stands now → StandsSo s.end stands × (length j.entries ≡ s.entries)
verdict_so options s text m u are kept told j is stands now verdict =
    let run = told.is_run in
    let es = told.outcome.journal in
    let same = same_entries u.names are text es (lines_of u.names options.wanted text es kept told.shows) (told.fits kept) j is in
    let ours : IsVerdict (context m u) (source m) es stands now = subst (λ (k : Written). IsVerdict (context_of m u (records_cancels k.version)) (source m) k.entries stands now) (sym same) verdict in
    let there = taken_to (context m u) run.place run.paid (begin (source m)) ours.end es (begin_numbered (source m)) run.leads ours.taken in
    let so = stands_at (context m u) run.place run.paid told.outcome.end options.limit es stands run.ends (subst (λ (w : Place). IsAt (context m u) w stands) there ours.reached) in
    (subst (λ (e : End). StandsSo e stands) (sym told.tells.end) so, ap (λ (k : Written). length k.entries) (sym same) ∙ sym told.tells.entries)

pub same_line : (old new : Option (List ℕ)) (line : List ℕ) (n m : ℕ) (s : State) → line ≡ verdict_line n s → n ≡ m → Appends old new line → Appends old new (verdict_line m s)
same_line old new line n m s is same written = subst (λ (text : List ℕ). Appends old new text) (is ∙ ap (λ (k : ℕ). verdict_line k s) same) written

-- a fault of the source's text
pub syntax_beyond : (text : List ℕ) (s : Source) (f : SyntaxFault) → SpellsTree text s → IfFault (Err f) (IsSyntaxFault text) → f ≡ syntax.Memory
syntax_beyond text s syntax.Memory spells h = refl
syntax_beyond text s syntax.Long spells h = absurd (omega (arith, h, spells.0.0))
syntax_beyond text s (syntax.Deep at) spells h = absurd (spells.1 at h)
syntax_beyond text s (syntax.Encoding at) spells h = absurd (only_limits text s (syntax.Encoding at) spells.0.1 spells.0.2 h)
syntax_beyond text s (syntax.Character at) spells h = absurd (only_limits text s (syntax.Character at) spells.0.1 spells.0.2 h)
syntax_beyond text s (syntax.Number span) spells h = absurd (only_limits text s (syntax.Number span) spells.0.1 spells.0.2 h)
syntax_beyond text s (syntax.Expected at what) spells h = absurd (only_limits text s (syntax.Expected at what) spells.0.1 spells.0.2 h)
syntax_beyond text s (syntax.Comment at) spells h = absurd (only_limits text s (syntax.Comment at) spells.0.1 spells.0.2 h)

-- a fault of the source's names
pub scope_beyond : (text : List ℕ) (names : List (List ℕ)) (l : Listing) (s r : Source) (f : ScopeFault) → SpellsText text s → SpellsText text r → Checks names s (Ok l) → Checks names r (Err f) → f.kind ≡ scope.Memory
scope_beyond text names l s r f a b sound blamed = go (subst (λ (z : Source). Checks names z (Err f)) (one_source text r s b.2 a.2) blamed) where
  none : (fs : List ScopeFault) → fs ≡ [] → IsLeast (Some f) fs → ⊥
  none [] e h = h.0
  none (g ∷ gs) e h = cc e

  go : Blames names s f → f.kind ≡ scope.Memory
  go (inl memory) = memory
  go (inr (inl least)) = absurd (none _ sound.0.faults least)
  go (inr (inr large)) = absurd (omega (arith, large.nodes, sound.0.nodes))

pub names_beyond : (text script journal : List ℕ) (s : Summary) (u : Table) (r : Source) (f : ScopeFault) → IsOfRun text script journal s → Says script u → SpellsTree text r → Checks u.names r (Err f) → f.kind ≡ scope.Memory
names_beyond text script journal s u r f of says spells blamed =
    let (options, kept, run) = of in
    let (l, t, said, (z, spelt, checked), told) = run in
    scope_beyond text u.names l z r f spelt.0 spells.0 (subst (λ (v : Table). Checks v.names z (Ok l)) (same_table script t u said says) checked) blamed

-- a fault of the script
good_line : (front : List (List ℕ)) (bad : List ℕ) (behind : List (List ℕ)) (rules : List Rule) → AreRules (front ++ bad ∷ behind) rules → IsGood bad
good_line [] bad behind rules (inl h) = inl h.0
good_line [] bad behind rules (inr h) = inr (h.0, h.3)
good_line (l ∷ ls) bad behind rules (inl h) = good_line ls bad behind rules h.1
good_line (l ∷ ls) bad behind rules (inr h) = good_line ls bad behind h.1 h.4

pub script_beyond : (text : List ℕ) (t : Table) (f : ScriptFault) → Says text t → IsScriptFault text f → f ≡ script.Memory
script_beyond text t script.Memory says h = refl
script_beyond text t script.Long says h = absurd (omega (arith, h, says.script.0))
script_beyond text t (script.Line n) says h = absurd (h.1.none (good_line h.1.front h.1.bad h.1.behind says.rules (subst (λ (ls : List (List ℕ)). AreRules ls says.rules) h.1.cut says.script.1)))
