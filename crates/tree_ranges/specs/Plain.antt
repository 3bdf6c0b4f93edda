-- Inner contracts only: the boxes whose order in a range no hull and no extent sees. Definitions only. Assumes nothing.
use Rattle.std.specs.Prelude.{ℕ, Bool, ◌&&◌, not, List, eqb, Float}
use Rattle.std.specs.Float.{binary64}
use Rattle.std.specs.Float.Ieee.{fits, is_nan, to_bits}
use Rattle.lists.specs.Lists.{every}
use Rattle.vectors.specs.declared.vec3.Vec3.{Vec3}
use Rattle.geometry.specs.Box.{centre}
use Rattle.geometry.specs.declared.aabb.Aabb.{Aabb}
use Rattle.tree.specs.Layout.{box_at}

-- a number that an f64 holds, and not -0: two of them that are equal as numbers are the same
unfoldable pub plain : Float → Bool
plain x = fits binary64 x && (not (is_nan x) && not (eqb (to_bits binary64 x) 0x8000_0000_0000_0000))

unfoldable pub plain_vec : Vec3 → Bool
plain_vec v = plain v.x && (plain v.y && plain v.z)

-- its corners and its centre
unfoldable pub plain_box : Aabb → Bool
plain_box b = plain_vec b.min && (plain_vec b.max && plain_vec (centre b))

-- over the area of the triangles' boxes
unfoldable pub plain_range : List Float → List ℕ → Bool
plain_range boxes ts = every (λ (t : ℕ). plain_box (box_at boxes t)) ts
