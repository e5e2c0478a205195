use Rattle.std.proofs.Common.{◌≡◌, ◌+◌, ◌++◌, ◌∷◌, [], suc, append-nil, append_assoc, ap, sym, ◌∙◌, arith, length, length-append}
use Rattle.orc_env.specs.declared.names.Bound.TheVariants.{Cell}
use Rattle.orc_ledger_spec.specs.Parts.{cells_from}
use Rattle.orc_ledger_spec.proofs.Taken.{cells_count, cells-more}
use Rattle.orc_ledger.proofs.sub_runs.add_cells.Goals as goal

pub loop-cell-init : goal.loop-cell-init
loop-cell-init g = (sym (append-nil g.args.cells.now.items), omega (arith, g.requires.room))

pub push_reserved-requires : goal.push_reserved-requires
push_reserved-requires g = omega (arith, g.loop-cell.invariant.1, g.loop-cell-test.true)

pub loop-cell-preserved : goal.loop-cell-preserved
loop-cell-preserved g =
    let old = g.args.cells.now.items in
    let k = g.loop-cell._cell in
    let number : g.len-number.result ≡ length old + k = omega (arith, g.len-number.ensures, ap length g.loop-cell.invariant.0, length-append old (cells_from (length old) k), cells_count (length old) k) in
    let next : suc k ≡ k + 1 = omega arith in (
      g.push_reserved.ensures.items
          ∙ (λ i. g.loop-cell.invariant.0 i ++ Cell (number i) ∷ [])
          ∙ append_assoc old (cells_from (length old) k) (Cell (length old + k) ∷ [])
          ∙ ap (λ z. old ++ z) (sym (cells-more (length old) k) ∙ ap (cells_from (length old)) next),
      omega (arith, g.loop-cell.invariant.1, g.push_reserved.ensures.len, g.push_reserved.ensures.capacity),
    )

pub returns : goal.returns
returns g =
    let all : g.loop-cell._cell ≡ g.args.count = omega (arith, g.loop-cell-test.false, g.loop-cell.auto._cell-end) in
    g.loop-cell.invariant.0 ∙ ap (λ k. g.args.cells.now.items ++ cells_from (length g.args.cells.now.items) k) all
