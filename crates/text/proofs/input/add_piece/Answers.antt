-- `input::add_piece` meets its contract. Assumes nothing.
use native.Mathlib.Omega.{arith}
use Rattle.text.specs.Lines.{piece-after, piece-within}
use Rattle.text.specs.Input.{is-gathered, is-line}
use Rattle.text.proofs.input.add_piece.Goals as goal

pub slice_bounds-part-count : goal.slice_bounds-part-count
slice_bounds-part-count c = omega (arith, piece-after _ _ _ c.piece_at-piece.ensures)

pub slice_bounds-part-start : goal.slice_bounds-part-start
slice_bounds-part-start c = omega (arith, piece-after _ _ _ c.piece_at-piece.ensures)

pub slice_bounds-part-end : goal.slice_bounds-part-end
slice_bounds-part-end c = omega (arith, piece-within _ _ _ c.piece_at-piece.ensures (omega (arith, c.within-at.ensures.prefix_len)))

pub returns : goal.returns
returns c =
    let a = c.args in
    let at = c.within-at.ensures.value in
    let p = c.piece_at-piece.ensures in
    let put = c.put.ensures in record {
      value = is-gathered _ a.input _ _ at p _ _ _ put.next c.too_long-long.ensures;
      line_after = is-line
          _ a.input _ _ at p _ _ put.bytes;
    }
