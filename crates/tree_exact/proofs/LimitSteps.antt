-- The steps of the code's limit, on numbers as the machine reads them back. Assumes nothing.
use Prim.Native.Nat.{ℕ, suc, ◌+◌, ◌*◌}
use mathlib.Core.Path.{◌≡◌, refl, sym, ap, ◌∙◌, subst}
use mathlib.Core.Bool.{Bool, true, false, cond}
use native.Mathlib.Omega.{arith}
use lib.Dec.{lit≤}
use lib.IntN.{ℤ, pos, nat_abs, ◌+ℤ◌, ◌*ℤ◌}
use lib.Ieee.{Float}
use mir.Syntax.{w64}
use mir.Val.{SFits}
use Rattle.nearest_hit.specs.Summary.{Kept, nobody, kept, Found, found, says_chosen_hit}
use Rattle.nearest_hit.specs.declared.summary.IndexedReach.{IndexedReach}
use Rattle.std.specs.Prelude.{Option, Some}
use Rattle.wide_integers.specs.Sizes.{Sized}
use Rattle.wide_integers.proofs.Reading.{bits, widen, sum_size, add-fits, add_read}
use Rattle.exact_triangle.specs.Line.{Line}
use Rattle.exact_triangle.specs.Shear.{gain}
use Rattle.exact_triangle.specs.Grid.{units, nearest_to, within, longest}
use Rattle.exact_triangle.specs.declared.view.View.{View}
use Rattle.exact_triangle.specs.View.{Sees}
use Rattle.tree_exact.specs.Opening.{limit_of}

-- ---- a sum on numbers that are read back
module _ {X G x g : ℤ} (e : X ≡ x) (d : G ≡ g) (h : Sized 2305843009213693952 x) (k : Sized 2147483648 g) where
  pub past_fits : SFits w64 (X +ℤ G)
  past_fits = add-fits e d h (widen k (lit≤ tt))

  pub past_read : bits (X +ℤ G) ≡ x +ℤ g
  past_read = add_read e d h (widen k (lit≤ tt))

  pub past_sized : Sized 4611686018427387904 (bits (X +ℤ G))
  past_sized = subst (Sized 4611686018427387904) (sym past_read) (widen (sum_size h k) (lit≤ tt))

-- one unit more
one_more : (n g : ℕ) → pos (n * g) +ℤ pos g ≡ pos (suc n * g)
one_more n g = let e : n * g + g ≡ suc n * g = omega arith in ap pos e

module _ (line : View) (l : Line) (sees : Sees line l) where
  far_past : (least : Kept (Found Float)) → limit_of l least ≡ suc l.far → line.far +ℤ line.gain ≡ pos (limit_of l least * gain l)
  far_past least e =
      (λ i. sees.far i +ℤ sees.gain i) ∙ one_more l.far (gain l) ∙ ap (λ (n : ℕ). pos (n * gain l)) (sym e)

  pub past_none : line.far +ℤ line.gain ≡ pos (limit_of l nobody * gain l)
  past_none = far_past nobody refl

  module _ (least : Option IndexedReach) (h : IndexedReach) (is : least ≡ Some h) where
    abbrev best : Found Float
    best = found h.index h.distance

    as_least : (z : ℤ) → z ≡ pos (limit_of l (kept best) * gain l) → z ≡ pos (limit_of l (says_chosen_hit least) * gain l)
    as_least z e = e ∙ ap (λ (x : Option IndexedReach). pos (limit_of l (says_chosen_hit x) * gain l)) (sym is)

    pub past_long : within longest h.distance ≡ false → line.far +ℤ line.gain ≡ pos (limit_of l (says_chosen_hit least) * gain l)
    past_long e =
        as_least (line.far +ℤ line.gain)
        (far_past (kept best) (ap (λ (k : Bool). cond k (suc (nat_abs (nearest_to units h.distance))) (suc l.far)) e))

    pub past_hit : within longest h.distance ≡ true → {d G : ℤ} → d ≡ pos (nat_abs (nearest_to units h.distance)) *ℤ G → G ≡ line.gain
        → d +ℤ line.gain ≡ pos (limit_of l (says_chosen_hit least) * gain l)
    past_hit w {d = d} e g =
        let n = nat_abs (nearest_to units h.distance) in
        as_least (d +ℤ line.gain)
        ((λ i. (e ∙ ap (λ (z : ℤ). pos n *ℤ z) (g ∙ sees.gain)) i +ℤ sees.gain i)
        ∙ one_more n (gain l)
        ∙ ap (λ (k : ℕ). pos (k * gain l)) (sym (ap (λ (k : Bool). cond k (suc n) (suc l.far)) w)))
