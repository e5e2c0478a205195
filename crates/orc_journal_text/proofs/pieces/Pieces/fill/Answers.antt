use Rattle.std.proofs.Common.{◌≡◌, ℕ, ◌+◌, ◌-◌, List, length, take, drop, sym, ap, subst, ◌∙◌, arith, rules}
use Rattle.std.proofs.lemmas.List.{with_items_is, places}
use Rattle.std.specs.Prelude.{slice_range}
use Rattle.std.specs.Vec.{with_items}
use Rattle.std.specs.Io.KnownBytes.{Consumes}
use Rattle.orc_journal_text.specs.Pieces.{Coming, comes_with}
use Rattle.orc_journal_text.proofs.Coming.{as_many, grown, none_came, some_came}
use Rattle.orc_journal_text.proofs.Stripping.{at_ok}
use Rattle.orc_journal_text.proofs.pieces.Pieces.fill.Goals as goal

pub returns-clause-came : goal.returns-clause-came
returns-clause-came g c =
    let l = c.self.inside in
    let kept = l.end - l.start in
    let n = c.in-Some.count in
    let room = c.read_at.new.room in
    let left = g.R.Read.remaining c.read_at.new.source in
    let before : Coming = record { rest = slice_range l.room.items l.start l.end; left = g.R.Read.remaining l.source; came = l.came } in
    let piece = take n (drop kept room) in
    let moved = at_ok c.make_room.result (sym c.if-is_err.ensures.value) c.make_room.ensures.kept in
    let front : take kept room ≡ before.rest = c.in-Some.ensures.front ∙ ap (take kept) c.as_mut_slice.ensures.value ∙ moved in
    let long = as_many room kept n c.in-Some.ensures.bound in
    let rest = ap (λ (items : List ℕ). slice_range items 0 (kept + n)) (with_items_is c.make_room.new.room room (search (rules, places))) ∙ grown room before.rest kept n c.in-Some.ensures.bound front in
    let came : l.came + n ≡ l.came + length piece = omega (arith, long) in
    let after : Coming = record { rest = slice_range (with_items c.make_room.new.room room).items 0 (kept + n); left = left; came = l.came + n } in (
      piece,
      subst (λ (z : Coming). Consumes z.left left piece) c.self.view_is c.in-Some.ensures.bytes,
      subst (λ (z : Coming). ◌≡◌ {A = Coming} after (comes_with z piece left)) c.self.view_is (λ i. record { rest = rest i; left = left; came = came i }),
      some_came piece n long,
      λ none.
          let (empty, zero) = none_came piece n long none in
          (empty, c.in-Some.ensures.end zero),
    )
