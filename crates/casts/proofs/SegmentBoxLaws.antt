-- Where a segment's end is finite, what follows is asked with its box, and else the answer is 6. Assumes nothing.
use Prim.Native.Nat.{ℕ}
use mathlib.Core.Path.{◌≡◌}
use mathlib.Core.Bool.{Bool, true, false, cond}
use Rattle.vectors.specs.Vector.{finite_vec}
use Rattle.geometry.specs.Box.{valid_box}
use Rattle.geometry.specs.Segment.{ray_admitted, segment_end, segment_box}
use Rattle.geometry.specs.declared.aabb.Aabb.{Aabb}
use Rattle.geometry.specs.declared.ray.Ray.{Ray}
use Rattle.geometry.proofs.BoxLaws.{segment_box_valid}
use Rattle.casts.specs.Answer.{out_of_bounds, overflow}
use Rattle.casts.specs.SegmentBox.{with_segment_box}

module _ {A : Type 0} (refuse : ℕ → A) (r : Ray) (next : Aabb → A) where
  -- with both ends finite the box is valid, so that the 5 never comes
  pub segment_finite : ray_admitted r ≡ true → finite_vec (segment_end r) ≡ true → with_segment_box refuse r next ≡ next (segment_box r)
  segment_finite admitted finite = simp (finite, segment_box_valid r admitted finite)

  pub segment_overflow : finite_vec (segment_end r) ≡ false → with_segment_box refuse r next ≡ refuse overflow
  segment_overflow h = simp h

  -- what holds of every refusal and of what follows with a box holds of the whole
  pub segment_such : (Q : A → Type 0) → ((number : ℕ) → Q (refuse number)) → ((box : Aabb) → Q (next box)) → Q
      (with_segment_box refuse r next)
  segment_such Q p q = go (finite_vec (segment_end r)) (valid_box (segment_box r))
    where
      go : (finite valid : Bool) → Q (cond finite (cond valid (next (segment_box r)) (refuse out_of_bounds)) (refuse overflow))
      go true true = q (segment_box r)
      go true false = p out_of_bounds
      go false valid = p overflow
