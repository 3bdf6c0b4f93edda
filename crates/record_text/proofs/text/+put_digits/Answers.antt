-- Nothing where no digit is asked for, else the leading digits and one more.
use Rattle.std.proofs.Common.{◌-◌, ◌/◌, arith}
use Rattle.record_text.proofs.Places.{digits_none, length_digits}
use Rattle.record_text.proofs.Storing.{put_empty, put_digit}
use Rattle.record_text.proofs.text.+put_digits.Goals as goal

pub returns-then-k-eq0 : goal.returns-then-k-eq0
returns-then-k-eq0 t c = put_empty _ _ _ (digits_none _ _ _ c.if-k-eq0.true)

pub put_byte-requires : goal.put_byte-requires
put_byte-requires t c =
    omega (
      arith,
      c.put_digits-next.ensures.behind,
      length_digits c.args.base (c.args.k - 1) (c.args.n / c.args.base),
      c.put_digits-next.auto.out,
    )

pub returns : goal.returns
returns t c = put_digit _ _ _ _ c.if-k-eq0.false c.glyph.ensures c.put_digits-next.ensures c.put_byte.ensures
