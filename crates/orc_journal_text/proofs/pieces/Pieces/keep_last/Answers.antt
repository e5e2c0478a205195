use Rattle.std.proofs.Common.{◌≡◌, ◌-◌, ◌≤◌, length, drop, sym, ap, subst}
use Rattle.std.specs.Prelude.{slice_range}
use Rattle.orc_journal_text.specs.Pieces.{Coming, with_rest}
use Rattle.orc_journal_text.proofs.Coming.{used}
use Rattle.orc_journal_text.proofs.pieces.Pieces.keep_last.Goals as goal

pub returns : goal.returns
returns g c =
    let l = c.self.inside in
    let now : Coming = record { rest = slice_range l.room.items l.start l.end; left = g.R.Read.remaining l.source; came = l.came } in
    let few : c.args.count ≤ length now.rest = subst (λ (z : Coming). c.args.count ≤ length z.rest) (sym c.self.view_is) c.requires in
    subst (λ (z : Coming). ◌≡◌ {A = Coming} (with_rest now (slice_range l.room.items (l.end - c.args.count) l.end)) (with_rest z (drop (length z.rest - c.args.count) z.rest))) c.self.view_is
    (ap (with_rest now) (used l.room.items l.start l.end c.args.count c.self.invariant.0 c.self.invariant.1 few))
