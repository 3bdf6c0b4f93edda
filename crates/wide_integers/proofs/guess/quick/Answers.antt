-- `wide_integers::guess::quick` meets its contract: a quotient below 8 is raised first, one from 8 on has g digits
-- behind the point that count, one from 2^52 on has none. Assumes nothing.
use Rattle.std.proofs.Common.{◌≡◌, ℕ, ◌+◌, ◌-◌, ◌*◌, ◌/◌, ◌^◌, ◌<◌, ◌≤◌, refl, arith}
use Rattle.wide_integers.specs.Division.{magnitude}
use Rattle.wide_integers.proofs.NaturalLaws.{magnitude_is}
use Rattle.wide_integers.proofs.GuessLaws.{answers_low, answers_fine, answers_coarse}
use Rattle.wide_integers.proofs.guess.quick.Goals as goal

-- below 8
pub returns-then-field-lt1026 : goal.returns-then-field-lt1026
returns-then-field-lt1026 c =
    let f = c.near_bits-bits.result / 4503599627370496 in
    answers_low (magnitude c.args.t) (magnitude c.in_ok-n.n) (magnitude c.args.w) (1049 - f) (f - 1)
    c.requires.1.positive
    (magnitude_is c.in_ok-n.ensures) (all f c.if-field-lt1000.false c.if-field-lt1026.true) c.seek.result c.seek.ensures
  where
    all : (f : ℕ) → 1000 ≤ f → f < 1026 → 1049 - f + (f - 1) ≡ 1048
    all f h k = omega (arith, h, k)

-- digits behind the point
pub returns-then-field-lt1075 : goal.returns-then-field-lt1075
returns-then-field-lt1075 c =
    let f = c.near_bits-bits.result / 4503599627370496 in
    answers_fine (magnitude c.args.t) (magnitude c.args.w) (1075 - f) (f - 1) c.requires.1.positive
    (all f c.if-field-lt1026.false c.if-field-lt1075.true) c.seek-then-field-lt1075.result c.seek-then-field-lt1075.ensures
  where
    all : (f : ℕ) → 1026 ≤ f → f < 1075 → 1075 - f + (f - 1) ≡ 1074
    all f h k = omega (arith, h, k)

-- none
pub returns : goal.returns
returns c =
    let f = c.near_bits-bits.result / 4503599627370496 in
    answers_coarse (magnitude c.args.t) (magnitude c.args.w) (magnitude c.args.w * 2 ^ (f - 1075)) (f - 1075) (f - 1)
    c.requires.1.positive (all f c.if-field-lt1075.false) refl c.seek_whole.result c.seek_whole.ensures
  where
    all : (f : ℕ) → 1075 ≤ f → f - 1075 + 1074 ≡ f - 1
    all f h = omega (arith, h)
