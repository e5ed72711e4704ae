use native.Mathlib.Omega.{arith}
use Rattle.contents.proofs.Values.{piece_inside, trimmed_le, blanks_le, piece_is}
use Rattle.contents.proofs.pieces.next_value.Goals as goal

pub slice_bounds-trimmed_end-end : goal.slice_bounds-trimmed_end-end
slice_bounds-trimmed_end-end c = search piece_inside

pub overflow_add-stop : goal.overflow_add-stop
overflow_add-stop c = omega (arith, trimmed_le c.args.v.now _ c.requires.0 _ c.piece_end-k.ensures _ c.trimmed_end.ensures)

pub slice_bounds-blanks-end : goal.slice_bounds-blanks-end
slice_bounds-blanks-end c = search trimmed_le

pub overflow_add-result : goal.overflow_add-result
overflow_add-result c =
    omega (
      arith,
      trimmed_le c.args.v.now _
          c.requires.0 _ c.piece_end-k.ensures _
          c.trimmed_end.ensures,
      blanks_le c.args.v.now _
          c.requires.0 _ c.piece_end-k.ensures _
          c.trimmed_end.ensures _ c.blanks-a.ensures,
    )

pub overflow_add-result-2 : goal.overflow_add-result-2
overflow_add-result-2 c = omega (arith, piece_inside c.args.v.now _ c.requires.0 _ c.piece_end-k.ensures)

pub returns : goal.returns
returns c = search piece_is
