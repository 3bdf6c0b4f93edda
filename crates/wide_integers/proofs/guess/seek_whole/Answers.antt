-- `wide_integers::guess::seek_whole` meets its contract: the digits before the point beyond the 53rd go to what is left. Assumes nothing.
use Rattle.std.proofs.Common.{ℕ, ◌+◌, ◌*◌, ◌^◌, ◌<◌, ◌≤◌, ◌≡◌, sym, subst, le_of_lt, mul-le-mul, arith, pow_pos, pow_mono}
use Rattle.wide_integers.specs.Division.{magnitude}
use Rattle.wide_integers.proofs.GuessLaws.{found_whole}
use Rattle.wide_integers.proofs.guess.seek_whole.Goals as goal

-- the guess's digits, in their place
first_small : (first power j : ℕ) → first < 2 ^ 53 → j ≤ 8 → power ≡ 2 ^ j → first * power ≤ 2305843009213693952
first_small first power j f j-few p = mul-le-mul (le_of_lt f) (subst (λ (n : ℕ). n ≤ 256) (sym p) (pow_mono j-few))

pub overflow_add-all : goal.overflow_add-all
overflow_add-all c = record {
  fits = plain _ _
      (first_small c.args.first c.two_to-power.result c.args.j c.requires.1.0 c.requires.1.1.0 c.two_to-power.ensures)
      c.in_ok-q.ensures.few;
}
  where
    plain : (n m : ℕ) → n ≤ 2305843009213693952 → m ≤ 9007199254740993 → n + m < 18446744073709551616
    plain n m h l = omega (arith, h, l)

pub returns : goal.returns
returns c =
    found_whole (magnitude c.args.t) (magnitude c.args.w) c.args.first c.two_to-power.result c.in_ok-q.q
    (subst (λ (n : ℕ). 0 < n) (sym c.two_to-power.ensures) (pow_pos c.args.j)) c.in_ok-rest.ensures c.in_ok-q.ensures c.in_ok-low.ensures
    c.in_ok-d.ensures
    c.sum.result c.sum.ensures c.if-word-lt4503599627370496.false c.if-word-gt9007199254740991.false c.args.j c.args.k c.assembled.result
    c.two_to-power.ensures c.assembled.ensures
