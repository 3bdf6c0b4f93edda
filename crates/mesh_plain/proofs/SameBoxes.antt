-- A box that equals a valid one under IEEE 754 is valid. Assumes nothing.
use mathlib.Core.Path.{◌≡◌}
use mathlib.Core.Bool.{Bool, true, ◌&&◌, false≢true}
use lib.Ieee.{Float, nan, inf, fin, le, eq}
use Rattle.arithmetic.specs.Basic.{is_finite}
use Rattle.arithmetic.proofs.Order.{le_transitive}
use Rattle.geometry.specs.Box.{valid_side, valid_box, within_side, encloses, same_side, same_box}
use Rattle.geometry.specs.declared.aabb.Aabb.{Aabb}
use Rattle.lists.proofs.JoinedTests.{and_first, and_second, and_three}
use Rattle.geometry.proofs.BoxLaws.{encloses_of_same_reversed}

finite_of_equal : (x y : Float) → eq x y ≡ true → is_finite x ≡ true → is_finite y ≡ true
unfolding eq is_finite
finite_of_equal nan y h f = absurd (false≢true f)
finite_of_equal (inf s) y h f = absurd (false≢true f)
finite_of_equal (fin s m e) nan h f = absurd (false≢true h)
finite_of_equal (fin s m e) (inf t) h f = absurd (false≢true h)
finite_of_equal (fin s m e) (fin t n d) h f = f

-- one side
module _ (low high low' high' : Float) where
  valid_side_of_same : same_side low high low' high' ≡ true → within_side low' high' low high ≡ true → valid_side low high ≡ true
      → valid_side low' high' ≡ true
  unfolding same_side within_side valid_side
  valid_side_of_same s w v =
      let rest = and_second (is_finite low) (is_finite high && le low high) v in
      and_three (is_finite low') (is_finite high') (le low' high')
      (finite_of_equal low low' (and_first (eq low low') (eq high high') s) (and_first (is_finite low) (is_finite high && le low high) v))
      (finite_of_equal high high' (and_second (eq low low') (eq high high') s) (and_first (is_finite high) (le low high) rest))
      (le_transitive low' low high' (and_first (le low' low) (le high high') w)
      (le_transitive low high high' (and_second (is_finite high) (le low high) rest) (and_second (le low' low) (le high high') w)))

-- three tests, each from three of its own
each_of_three : (p p' p'' q q' q'' r r' r'' s s' s'' : Bool)
    → (p ≡ true → q ≡ true → r ≡ true → s ≡ true)
    → (p' ≡ true → q' ≡ true → r' ≡ true → s' ≡ true)
    → (p'' ≡ true → q'' ≡ true → r'' ≡ true → s'' ≡ true)
    → (p && (p' && p'')) ≡ true → (q && (q' && q'')) ≡ true → (r && (r' && r'')) ≡ true → (s && (s' && s'')) ≡ true
each_of_three p p' p'' q q' q'' r r' r'' s s' s'' f g k a b c =
    let a' = and_second p (p' && p'') a in
    let b' = and_second q (q' && q'') b in
    let c' = and_second r (r' && r'') c in
    and_three s s' s''
    (f (and_first p (p' && p'') a) (and_first q (q' && q'') b) (and_first r (r' && r'') c))
    (g (and_first p' p'' a') (and_first q' q'' b') (and_first r' r'' c'))
    (k (and_second p' p'' a') (and_second q' q'' b') (and_second r' r'' c'))

pub valid_of_same : (b c : Aabb) → same_box b c ≡ true → valid_box b ≡ true → valid_box c ≡ true
unfolding same_box encloses valid_box
valid_of_same b c s v =
    each_of_three _ _ _ _ _ _ _ _ _ _ _ _
    (valid_side_of_same b.min.x b.max.x c.min.x c.max.x)
    (valid_side_of_same b.min.y b.max.y c.min.y c.max.y)
    (valid_side_of_same b.min.z b.max.z c.min.z c.max.z)
    s (encloses_of_same_reversed b c s) v
