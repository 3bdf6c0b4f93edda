-- The number that a call answers, and what its result slices hold afterwards. Definitions only. Assumes nothing.
use Rattle.std.specs.Prelude.{ℕ, Bool, ◌&&◌, cond, List, [], ◌∷◌, leb, ltb, Float, length}
use Rattle.std.proofs.lemmas.List.Edits.{sets}
use Rattle.geometry.specs.declared.aabb.Aabb.{Aabb}
use Rattle.geometry.specs.declared.ray.Ray.{Ray}
use Rattle.vectors.specs.Vector.{vector}
use Rattle.vectors.specs.Numbers.{zeroᶠ}
use Rattle.vectors.specs.declared.vec3.Vec3.{Vec3}
use Rattle.geometry.specs.Box.{valid_box}
use Rattle.geometry.specs.Segment.{ray_admitted}
use Rattle.casts.specs.Answer.{Answer, hit, none, refused, invalid_input, bad_shape, no_room}
use Rattle.nearest_hit.specs.Nearest.{Indexed, hit_at, no_hit, stopped}
use Rattle.casts.specs.declared.plane.Plane.{Plane}
use Rattle.height_field.specs.declared.field.Field.{Field}
use Rattle.distance_grid.specs.declared.grid.Grid.{Grid}
use Rattle.tree.specs.Layout.{Tree, Areas}
use Rattle.tree.specs.Mesh.{Mesh, lengths_admitted}
use Rattle.tree_build.specs.Build as Build
use Rattle.tree_query.specs.Query.{counts_admitted}
use Rattle.tree_query.specs.Query as Query
use Rattle.tree_check.specs.Verdict as Verdict
use Rattle.mesh.specs.MeshCast.{shape_admitted, ray_mesh}

-- ---- what the numbers of a call mean

abbrev pub version : ℕ
version = 3

-- a ray of eight numbers
abbrev pub ray_from : Float → Float → Float → Float → Float → Float → Float → Float → Ray
ray_from ox oy oz dx dy dz maximum near = record {
  origin = vector ox oy oz;
  direction = vector dx dy dz;
  max_distance = maximum;
  near = near;
}

-- of seven, whose near distance is +0
abbrev pub ray_of : Float → Float → Float → Float → Float → Float → Float → Ray
ray_of ox oy oz dx dy dz maximum = ray_from ox oy oz dx dy dz maximum zeroᶠ

abbrev pub plane_of : Float → Float → Float → Float → Plane
plane_of x y z distance = record { normal = vector x y z; distance = distance }

abbrev pub corners_of : Float → Float → Float → Float → Float → Float → Float → Float → Float → List Vec3
corners_of ax ay az bx by bz cx cy cz = vector ax ay az ∷ vector bx by bz ∷ vector cx cy cz ∷ []

abbrev pub field_of : ℕ → ℕ → Float → Float → Field
field_of rows columns x y = record { rows = rows; columns = columns; spacing_x = x; spacing_y = y }

abbrev pub grid_of : ℕ → ℕ → ℕ → Float → Float → Float → Float → Float → Float → Grid
grid_of nx ny nz ox oy oz sx sy sz = record {
  sides = record { x = nx; y = ny; z = nz };
  origin = vector ox oy oz;
  spacing = vector sx sy sz;
}

abbrev pub box_of : Float → Float → Float → Float → Float → Float → Aabb
box_of x y z x' y' z' = record { min = vector x y z; max = vector x' y' z' }

-- ---- codes that no refusal number can be taken for

abbrev pub hit_code : ℕ
hit_code = 256

abbrev pub none_code : ℕ
none_code = 257

abbrev pub yes_code : ℕ
yes_code = 258

abbrev pub no_code : ℕ
no_code = 259

abbrev pub done_code : ℕ
done_code = 260

-- ---- a result slice that is too short

-- "1 is tested before 2, 2 before 3": of a call without work areas, refusals 1 and 2 go before a result slice that is too short
unfoldable pub short_number : Answer → ℕ
short_number (hit n d) = no_room
short_number none = no_room
short_number (refused number) = cond (ltb bad_shape number) no_room number

-- of one with work areas, by the tests of 1 and 2 themselves: the number is theirs, else 3
abbrev pub short_of : Bool → Bool → ℕ
short_of one two = cond one (cond two no_room bad_shape) invalid_input

-- past the tests of 1 and 2 a result slice that is too short is 3, before anything later
abbrev pub with_room : {A : Type 0} → Bool → Bool → A → A → A
with_room passed fits returned short = cond passed (cond fits returned short) returned

-- ---- casts

-- the number, and the slice of a hit's normal and distance
pub record Returned : Type 0 where
  pub number : ℕ
  pub hit : List Float

unfoldable pub returned : Answer → List Float → Returned
returned (hit n d) area = record { number = hit_code; hit = sets area 0 (n.x ∷ n.y ∷ n.z ∷ d ∷ []) }
returned none area = record { number = none_code; hit = area }
returned (refused number) area = record { number = number; hit = area }

-- where the slice is too short, nothing is written
unfoldable pub answered : Answer → List Float → Returned
answered answer area = cond (leb 4 (length area)) (returned answer area) record { number = short_number answer; hit = area }

-- with the slice of the triangle's index
pub record ReturnedIndexed : Type 0 where
  pub number : ℕ
  pub hit : List Float
  pub index : List ℕ

unfoldable pub returned_indexed : Indexed → List Float → List ℕ → ReturnedIndexed
returned_indexed (hit_at n d i) area place = record {
  number = hit_code;
  hit = sets area 0 (n.x ∷ n.y ∷ n.z ∷ d ∷ []);
  index = sets place 0 (i ∷
      []);
}
returned_indexed no_hit area place = record { number = none_code; hit = area; index = place }
returned_indexed (stopped number) area place = record { number = number; hit = area; index = place }

unfoldable pub results_fit : List Float → List ℕ → Bool
results_fit area place = leb 4 (length area) && leb 1 (length place)

-- the mesh cast's answer; the lengths of its list and stack stand before the result slices
unfoldable pub answered_mesh : Ray → Mesh → List Float → Tree → ℕ → ℕ → List Float → List ℕ → ReturnedIndexed
answered_mesh r m pose t list stack area place =
    with_room (ray_admitted r && shape_admitted m pose t) (results_fit area place)
    (returned_indexed (ray_mesh r m pose t list stack) area place)
    record { number = no_room; hit = area; index = place }

-- ---- build, query and tree check

-- the number, and the slice of the one count
pub record Counted : Type 0 where
  pub number : ℕ
  pub count : List ℕ

unfoldable pub returned_nodes : Build.Answer → List ℕ → Counted
returned_nodes (Build.nodes count) place = record { number = done_code; count = sets place 0 (count ∷ []) }
returned_nodes (Build.refused number) place = record { number = number; count = place }

unfoldable pub returned_found : Query.Listing → List ℕ → Counted
returned_found (Query.count count) place = record { number = done_code; count = sets place 0 (count ∷ []) }
returned_found (Query.refused number) place = record { number = number; count = place }

unfoldable pub returned_verdict : Verdict.Ruling → ℕ
returned_verdict Verdict.yes = yes_code
returned_verdict Verdict.no = no_code
returned_verdict (Verdict.refused number) = number

-- the build's number and node count, and its areas
pub record BuildReturned : Type 0 where
  pub returned : Counted
  pub after : Areas

-- the last arguments are the length of the work area and the slice of the node count
unfoldable pub build_returned : Mesh → Areas → ℕ → List ℕ → BuildReturned
build_returned m before work place =
    with_room (lengths_admitted (length m.vertices) (length m.triangles)) (leb 1 (length place))
    record { returned = returned_nodes (Build.build_of m before work).answer place; after = (Build.build_of m before work).after }
    record { returned = record { number = no_room; count = place }; after = before }

-- the query's number and the list's length, and its list
pub record QueryReturned : Type 0 where
  pub returned : Counted
  pub list : List ℕ

-- the last arguments are the list's area, the length of the stack and the slice of the list's length
unfoldable pub query_returned : Aabb → ℕ → Tree → List ℕ → ℕ → List ℕ → QueryReturned
query_returned box n t before stack place =
    with_room (valid_box box && counts_admitted n t.node_count) (leb 1 (length place))
    record {
      returned = returned_found (Query.query_of box n t before stack).answer place;
      list = (Query.query_of box n t before stack).list;
    }
    record { returned = record { number = no_room; count = place }; list = before }
