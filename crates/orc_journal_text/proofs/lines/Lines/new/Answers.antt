use Rattle.std.proofs.Common.{◌≡◌, ◌≤◌, ◌+◌, ◌++◌, [], length, refl, sym, ap, subst, ◌∙◌, length-append, arith}
use Rattle.std.proofs.lemmas.Result.{err_from_is_err_and}
use Rattle.std.specs.Io.KnownBytes.{Consumes}
use Rattle.orc_journal_text.specs.Lines.{HasRead}
use Rattle.orc_journal_text.specs.Pieces.{Coming, with_rest}
use Rattle.orc_journal_text.specs.Reading.{header_at}
use Rattle.orc_journal_text.specs.Texts.{header}
use Rattle.orc_journal_text.proofs.Arriving.{header_again, header_is, no_header_with, unfilled, unfilled_then, whole_has_come}
use Rattle.orc_journal_text.proofs.Coming.{kept_behind, may_come, some_may_come}
use Rattle.orc_journal_text.proofs.lines.Lines.new.Goals as goal

pub returns-in_default-clause-fault : goal.returns-in_default-clause-fault
returns-in_default-clause-fault g c names =
    let (bytes, may) = some_may_come (g.R.Read.remaining c.args.source) in
    (bytes, may, tt)

pub returns-in-Some-clause-begun : goal.returns-in-Some-clause-begun
returns-in-Some-clause-begun g c =
    let here = c.loop-version.pieces in
    let (p, came, few) = c.loop-version.invariant in
    let v = c.in-Some.version in
    let behind = c.in-Some.rest.now in
    let is : here.rest ≡ header v ++ behind = sym c.rest.ensures ∙ header_is c.rest.result.now v behind c.in-Some.ensures in
    let kept : ◌≡◌ {A = Coming} c.keep_last.new.self (with_rest here behind) = c.keep_last.ensures ∙ ap (with_rest here) (kept_behind here.rest (header v) behind is) in (
      here.rest,
      subst (λ (z : Coming). Consumes (g.R.Read.remaining c.args.source) z.left here.rest) (sym kept) p,
      λ names. subst (λ (z : Coming). HasRead names here.rest (record { version = v; coming = z; read = 0; counted = 0 }) []) (sym kept) (record { front = is; each = tt; came = came; number = refl; counts = refl }),
    )

pub returns-in_err-fill-clause-fault : goal.returns-in_err-fill-clause-fault
returns-in_err-fill-clause-fault g c =
    let (y, is, from) = err_from_is_err_and c.from_residual-in_err-fill.result c.from_residual-in_err-fill.ensures.1 in
    let here = c.loop-version.pieces in
    let (p, came, few) = c.loop-version.invariant in
    rw (is, from) (λ names. unfilled names (g.R.Read.remaining c.args.source) here.left [] here.rest here.came c.in_err-fill.field-0.0 p came c.in_err-fill.ensures.fault)

pub returns-then-not-branch-clause-fault : goal.returns-then-not-branch-clause-fault
returns-then-not-branch-clause-fault g c names =
    let here = c.loop-version.pieces in
    let (p, came, few) = c.loop-version.invariant in
    let (next, q, grew, some, end) = c.in_ok-fill.ensures.came in
    let (empty, over) = end c.if-not-branch.true in (
      here.rest,
      whole_has_come (g.R.Read.remaining c.args.source) here.left c.fill.new.self.left here.rest next p q empty over,
      (omega (arith, came, c.in_ok-fill.ensures.fits), λ v rest is. header_again v rest (ap header_at (sym is ∙ sym c.rest.ensures) ∙ c.in_default-read_header.ensures)),
    )

pub returns-in_err-skip-clause-fault : goal.returns-in_err-skip-clause-fault
returns-in_err-skip-clause-fault g c =
    let (y, is, from) = err_from_is_err_and c.from_residual.result c.from_residual.ensures.1 in
    let here = c.loop-version.pieces in
    let (p, came, few) = c.loop-version.invariant in
    let (more, may, why) = c.in_err-skip.ensures.fault in
    rw (is, from) (λ names.
    unfilled_then names (g.R.Read.remaining c.args.source) [] (here.rest ++ more) (here.came + length more) c.in_err-skip.field-0.0 (may_come (g.R.Read.remaining c.args.source) here.left here.rest more p may) (omega (arith, came, length-append here.rest more)) why)

pub returns-then-rest-ge-HEADER-clause-fault : goal.returns-then-rest-ge-HEADER-clause-fault
returns-then-rest-ge-HEADER-clause-fault g c names =
    let here = c.loop-version.pieces in
    let (p, came, few) = c.loop-version.invariant in
    let (more, may, fits) = c.in_ok-skip.ensures.end in
    let long : 14 ≤ length here.rest = omega (arith, c.if-rest-ge-HEADER.true, ap length c.rest-in-loop-version.ensures) in (
      here.rest ++ more,
      may_come (g.R.Read.remaining c.args.source) here.left here.rest more p may,
      (
        omega (arith, came, fits, length-append here.rest more),
        λ v behind is. no_header_with here.rest more v behind long (ap header_at (sym c.rest.ensures) ∙ c.in_default-read_header.ensures) is,
      ),
    )
