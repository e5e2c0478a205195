use Rattle.std.proofs.Common.{◌≡◌, ◌+◌, ◌++◌, ◌∷◌, [], refl, sym, ap, subst, ◌∙◌, arith}
use Rattle.orc_journal_text.specs.Lines.{Left, HasRead, HasTooMany}
use Rattle.orc_journal_text.specs.Pieces.{Coming, with_rest}
use Rattle.orc_journal_text.proofs.Coming.{kept_behind}
use Rattle.orc_journal_text.proofs.Stripping.{read_more}
use Rattle.orc_journal_text.proofs.lines.Lines.take_line.Goals as goal

pub returns-then-counted-gt-MOST_ENTRIES-clause-fault : goal.returns-then-counted-gt-MOST_ENTRIES-clause-fault
returns-then-counted-gt-MOST_ENTRIES-clause-fault g c = (
  refl,
  λ text es read.
      let names = c.args.answers.now.names in
      let e = c.next_entry.new.entry in
      let behind = c.in-Some.behind.now in
      let found = c.in-Some.ensures.found in
      let before = subst (λ (l : Left). HasRead names text l es) (sym c.self.view_is) read in
      let after = read_more names text _ es e behind c.count_with-counted.result (sym c.rest.ensures ∙ found.0) found.1 found.2 c.count_with-counted.ensures before in
      subst (λ (l : Left). HasTooMany names text l.version) c.self.view_is (es ++ e ∷ [], behind, after.front, after.each, omega (arith, after.counts, c.if-counted-gt-MOST_ENTRIES.true)),
)

pub returns-clause-more : goal.returns-clause-more
returns-clause-more g c some text es read =
    let names = c.args.answers.now.names in
    let e = c.next_entry.new.entry in
    let behind = c.in-Some.behind.now in
    let found = c.in-Some.ensures.found in
    let pieces = c.self.inside.pieces in
    let here = sym c.rest.ensures ∙ found.0 in
    let before = subst (λ (l : Left). HasRead names text l es) (sym c.self.view_is) read in
    let after = read_more names text _ es e behind c.count_with-counted.result here found.1 found.2 c.count_with-counted.ensures before in
    let kept : ◌≡◌ {A = Coming} c.keep_last.new.self (with_rest pieces behind) = c.keep_last.ensures ∙ ap (with_rest pieces) (kept_behind pieces.rest _ behind here) in
    subst (λ (z : Coming). HasRead names text (record { version = c.self.inside.version; coming = z; read = c.self.inside.read + 1; counted = c.count_with-counted.result }) (es ++ e ∷ [])) (sym kept) after
