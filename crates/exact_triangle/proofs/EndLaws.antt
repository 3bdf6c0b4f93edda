-- Rounding keeps the order: where the float of a depth differs from that of an end, the depth lies on the same side of the end. Assumes
-- nothing.
use Rattle.std.proofs.Common.{◌≡◌, ℕ, ◌*◌, ◌<◌, ◌≤◌, Bool, true, false, pos, sym, refl, ◌∙◌, true≢false, mul-le-mul_right, mul-pos, arith}
use Rattle.std.proofs.Common.{lit<}
use lib.Signed.{lt_z}
use lib.Ieee.{Float, binary64, round, lt, le}
use lib.Ieee.Bits.{is_true}
use lib.Ieee.Order.{round_mono}
use Rattle.arithmetic.proofs.Order.{not_lt_of_le}
use Rattle.wide_integers.proofs.Polynomials.{own_pos}
use Rattle.wide_integers.proofs.Order.{rep_lt, rep_nlt}
use Rattle.exact_triangle.specs.Grid.{units}

-- ---- the depth n / D and the end e, in units
module _ (n D e : ℕ) (some : 0 < D) where
  abbrev x : Float
  x = round binary64 false n (D * units)

  abbrev end : Float
  end = round binary64 false e units

  wide : 0 < D * units
  wide = mul-pos some (lit< tt)

  before : n ≤ e * D → le x end ≡ true
  before h =
      let h' : n * units ≤ e * D * units = mul-le-mul_right units h in
      is_true _ (round_mono binary64 n (D * units) e units wide (lit< tt) (omega (arith, h')))

  past : e * D ≤ n → le end x ≡ true
  past h =
      let h' : e * D * units ≤ n * units = mul-le-mul_right units h in
      is_true _ (round_mono binary64 e units n (D * units) (lit< tt) wide (omega (arith, h')))

  -- where the float differs from the end's, the depth lies on the same side of the end
  abbrev short : Bool
  short = lt_z (pos n) (pos (e * D))

  abbrev beyond : Bool
  beyond = lt_z (pos (e * D)) (pos n)

  pub not_short : lt end x ≡ true → short ≡ false
  not_short h = go short refl
    where
      go : (b : Bool) → short ≡ b → b ≡ false
      go false s = refl
      go true s =
          let m = rep_lt (own_pos n) (own_pos (e * D)) s in
          absurd (true≢false (sym h ∙ not_lt_of_le x end (before (omega (arith, m)))))

  pub not_beyond : lt x end ≡ true → beyond ≡ false
  not_beyond h = go beyond refl
    where
      go : (b : Bool) → beyond ≡ b → b ≡ false
      go false s = refl
      go true s =
          let m = rep_lt (own_pos (e * D)) (own_pos n) s in
          absurd (true≢false (sym h ∙ not_lt_of_le end x (past (omega (arith, m)))))

  pub is_short : lt x end ≡ true → short ≡ true
  is_short h = go short refl
    where
      go : (b : Bool) → short ≡ b → b ≡ true
      go true s = refl
      go false s =
          let m = rep_nlt (own_pos n) (own_pos (e * D)) s in
          absurd (true≢false (sym h ∙ not_lt_of_le end x (past (omega (arith, m)))))

  pub is_beyond : lt end x ≡ true → beyond ≡ true
  is_beyond h = go beyond refl
    where
      go : (b : Bool) → beyond ≡ b → b ≡ true
      go true s = refl
      go false s =
          let m = rep_nlt (own_pos (e * D)) (own_pos n) s in
          absurd (true≢false (sym h ∙ not_lt_of_le x end (before (omega (arith, m)))))
