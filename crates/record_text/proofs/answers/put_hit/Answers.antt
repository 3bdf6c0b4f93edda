-- `record_text::answers::put_hit` meets its contract. Assumes nothing.
use Rattle.record_text.proofs.Lengths.{length_float}
use Rattle.record_text.proofs.Storing.{put_keeps}
use Rattle.record_text.proofs.AnswerParts.{put_four}
use native.Mathlib.Omega.{arith}
use Rattle.record_text.proofs.answers.put_hit.Goals as goal

pub put_float-y-requires : goal.put_float-y-requires
put_float-y-requires c =
    omega (
      arith,
      c.put_text-word.ensures.behind,
      put_keeps c.put_text-word.ensures,
      c.put_float-x.ensures.behind,
      put_keeps c.put_float-x.ensures,
      length_float c.args.normal.x,
    )

pub put_float-z-requires : goal.put_float-z-requires
put_float-z-requires c =
    omega (
      arith,
      c.put_text-word.ensures.behind,
      put_keeps c.put_text-word.ensures,
      c.put_float-x.ensures.behind,
      put_keeps c.put_float-x.ensures,
      c.put_float-y.ensures.behind,
      put_keeps c.put_float-y.ensures,
      length_float c.args.normal.x,
      length_float c.args.normal.y,
    )

pub put_float-requires : goal.put_float-requires
put_float-requires c =
    omega (
      arith,
      c.put_text-word.ensures.behind,
      put_keeps
          c.put_text-word.ensures,
      c.put_float-x.ensures.behind,
      put_keeps c.put_float-x.ensures,
      c.put_float-y.ensures.behind,
      put_keeps
          c.put_float-y.ensures,
      c.put_float-z.ensures.behind,
      put_keeps c.put_float-z.ensures,
      length_float
          c.args.normal.x,
      length_float c.args.normal.y,
      length_float c.args.normal.z,
    )

pub returns : goal.returns
returns c =
    put_four _ _ c.put_text-word.ensures c.put_float-x.ensures c.put_float-y.ensures
    c.put_float-z.ensures c.put_float.ensures
