-- What every cast with a segment's box asks before it looks at anything. Definitions only. Assumes nothing.
use Rattle.std.specs.Prelude.{ℕ, cond}
use Rattle.vectors.specs.Vector.{finite_vec}
use Rattle.geometry.specs.Box.{valid_box}
use Rattle.geometry.specs.Segment.{segment_end, segment_box}
use Rattle.geometry.specs.declared.aabb.Aabb.{Aabb}
use Rattle.geometry.specs.declared.ray.Ray.{Ray}
use Rattle.casts.specs.Answer.{out_of_bounds, overflow}

-- the Rust's order: the segment's end (6), its box (5), then what follows with the box; `refuse` makes a number an answer
abbrev pub with_segment_box : {A : Type 0} → (ℕ → A) → Ray → (Aabb → A) → A
with_segment_box refuse r next =
    cond (finite_vec (segment_end r)) (cond (valid_box (segment_box r)) (next (segment_box r)) (refuse out_of_bounds)) (refuse overflow)
