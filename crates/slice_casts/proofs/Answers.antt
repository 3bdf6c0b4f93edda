-- The casts of slices answer what the casts by numbers answer. Assumes nothing.
use Prim.Native.Nat.{ℕ}
use mathlib.Core.Path.{◌≡◌, refl, sym, ap, ◌∙◌}
use mathlib.Core.Bool.{Bool, true, false, cond}
use mathlib.Core.List.{List, [], ◌∷◌}
use borrow.Author.Tests.{eq-eqb, ne_eqb}
use lib.Dec.{leb}
use lib.Ieee.{Float}
use lib.ListN.{length}
use Rattle.vectors.specs.declared.vec3.Vec3.{Vec3}
use Rattle.geometry.specs.Segment.{ray_admitted}
use Rattle.geometry.specs.declared.ray.Ray.{Ray}
use Rattle.casts.specs.Answer.{Answer, refused, invalid_input, bad_shape}
use Rattle.casts.specs.Plane.{plane_admitted, plane_cast, ray_plane}
use Rattle.casts.specs.declared.plane.Plane.{Plane}
use Rattle.triangle_cast.specs.Triangle.{triangle_cast, ray_triangle}
use Rattle.tree.specs.Layout.{vector_at}
use Rattle.results.specs.Results.{Returned, answered, returned, short_number, ray_from, plane_of, corners_of}
use Rattle.slice_casts.specs.Slices.{ray_in, plane_in, corners_in, of_slices, plane_of_slices, triangle_of_slices}

-- the ray is asked for by the slices' test and by the cast's own
asked_twice : (b : Bool) (x y : Answer) → cond b (cond b x y) y ≡ cond b x y
asked_twice true x y = refl
asked_twice false x y = refl

module _ (ox oy oz dx dy dz maximum near : Float) where
  abbrev eight : List Float
  eight = ox ∷ oy ∷ oz ∷ dx ∷ dy ∷ dz ∷ maximum ∷ near ∷ []

  abbrev r : Ray
  r = ray_from ox oy oz dx dy dz maximum near

  -- the cast at a plane in a slice is the cast at the plane of its numbers
  pub plane_by_numbers : (x y z distance : Float) → plane_of_slices eight (x ∷ y ∷ z ∷ distance ∷ [])
      ≡ ray_plane (plane_of x y z distance) r
  unfolding plane_of_slices of_slices ray_in plane_in vector_at ray_plane
  plane_by_numbers x y z distance = asked_twice (ray_admitted r) _ _

  -- and the cast at a triangle the cast at its corners
  pub triangle_by_numbers : (ax ay az bx by bz cx cy cz : Float)
      → triangle_of_slices eight (ax ∷ ay ∷ az ∷ bx ∷ by ∷ bz ∷ cx ∷ cy ∷ cz ∷ []) ≡ ray_triangle r (corners_of ax ay az bx by bz cx cy cz)
  unfolding triangle_of_slices of_slices ray_in corners_in vector_at ray_triangle
  triangle_by_numbers ax ay az bx by bz cx cy cz = asked_twice (ray_admitted r) _ _
