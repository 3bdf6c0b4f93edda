-- What a record says as a ray and a shape, and a ray and a shape as what a record says. Definitions only. Assumes nothing.
use Rattle.std.specs.Prelude.{ℕ, ◌*◌, ◌<◌, ◌≡◌, cond, List, [], ◌∷◌, eqb, Float, length, get_or, take, drop}
use Rattle.vectors.specs.Numbers.{zeroᶠ}
use Rattle.vectors.specs.declared.vec3.Vec3.{Vec3}
use Rattle.geometry.specs.declared.ray.Ray.{Ray}
use Rattle.casts.specs.declared.plane.Plane.{Plane}
use Rattle.height_field.specs.declared.field.Field.{Field}
use Rattle.distance_grid.specs.declared.grid.Grid.{Grid}
use Rattle.tree.specs.Mesh.{Mesh, thirds}
use Rattle.tree.specs.Layout.{number_at, word_at, vector_at}
use Rattle.float_forms.specs.declared.forms.Form.{Form}
use Rattle.float_forms.specs.declared.forms.Form.TheVariants.{First, Long, Short}
use Rattle.float_forms.specs.Forms.{rays_of}
use Rattle.record_bytes.specs.Records.{Said, said_of, form_at, is_record}

-- the shapes, in mission order
pub data Shape : Type 0 where
  plane : Plane → Shape
  triangle : Vec3 → Vec3 → Vec3 → Shape
  mesh : Mesh → Shape
  heights : Field → List Float → Shape
  distances : Grid → List Float → Shape

-- a record says a ray and a shape, or is malformed
pub data Parsed : Type 0 where
  says : Ray → Shape → Parsed
  malformed : Parsed

-- ---- from a record's numbers

-- "origin, direction, maximum"; "Version byte 2 carries near after the maximum; version 1 means near 0."
unfoldable pub ray_by : List Float → Ray
ray_by numbers = record {
  origin = vector_at numbers 0;
  direction = vector_at numbers 3;
  max_distance = number_at numbers 6;
  near = get_or numbers 7 zeroᶠ;
}

-- "normal and distance"
unfoldable pub plane_by : List Float → Plane
plane_by numbers = record { normal = vector_at numbers 0; distance = number_at numbers 3 }

-- "three corners"
unfoldable pub corners_by : List Float → List Vec3
corners_by numbers = vector_at numbers 0 ∷ (vector_at numbers 3 ∷ (vector_at numbers 6 ∷ []))

-- "u32 rows, columns, spacing": the heights follow the two floats of spacing
unfoldable pub field_by : List ℕ → List Float → Field
field_by counts numbers = record {
  rows = word_at counts 0;
  columns = word_at counts 1;
  spacing_x = number_at numbers 0;
  spacing_y = number_at numbers 1;
}

-- "three u32 sides, origin, spacing": the values follow the six floats of both
unfoldable pub grid_by : List ℕ → List Float → Grid
grid_by counts numbers = record {
  sides = record { x = word_at counts 0; y = word_at counts 1; z = word_at counts 2 };
  origin = vector_at numbers 0;
  spacing = vector_at numbers 3;
}

-- by kind, from the counts, the floats and the indices
unfoldable pub shape_from : ℕ → List ℕ → List Float → List ℕ → Shape
shape_from kind counts numbers indices =
    cond (eqb kind 1) (plane (plane_by numbers))
    (cond (eqb kind 2) (triangle (vector_at numbers 0) (vector_at numbers 3) (vector_at numbers 6))
    (cond (eqb kind 3) (mesh record { vertices = numbers; triangles = indices })
    (cond (eqb kind 4) (heights (field_by counts numbers) (drop 2 numbers)) (distances (grid_by counts numbers) (drop 6 numbers)))))

abbrev pub shape_by : Said → Shape
shape_by s = shape_from s.kind s.counts s.numbers s.indices

-- what a whole record says, its length bytes included: "A user's record must cast to the same bits from either version."
unfoldable pub parse : List ℕ → Parsed
parse bytes =
    cond (is_record bytes) (says (ray_by (said_of (form_at bytes) bytes).ray) (shape_by (said_of (form_at bytes) bytes))) malformed

-- ---- to a record's numbers

-- "kind byte 1 to 5 in mission order"
unfoldable pub kind_byte : Shape → ℕ
kind_byte (plane p) = 1
kind_byte (triangle v w u) = 2
kind_byte (mesh m) = 3
kind_byte (heights field numbers) = 4
kind_byte (distances grid numbers) = 5

-- a vector's numbers, before some others
abbrev vector_then : Vec3 → List Float → List Float
vector_then v rest = v.x ∷ (v.y ∷ (v.z ∷ rest))

abbrev pub ray_numbers : Ray → List Float
ray_numbers r = vector_then r.origin (vector_then r.direction (r.max_distance ∷ (r.near ∷ [])))

unfoldable pub shape_counts : Shape → List ℕ
shape_counts (plane p) = []
shape_counts (triangle v w u) = []
shape_counts (mesh m) = thirds (length m.vertices) ∷ (thirds (length m.triangles) ∷ [])
shape_counts (heights f numbers) = f.rows ∷ (f.columns ∷ [])
shape_counts (distances g numbers) = g.sides.x ∷ (g.sides.y ∷ (g.sides.z ∷ []))

unfoldable pub shape_numbers : Shape → List Float
shape_numbers (plane p) = vector_then p.normal (p.distance ∷ [])
shape_numbers (triangle v w u) = vector_then v (vector_then w (vector_then u []))
shape_numbers (mesh m) = m.vertices
shape_numbers (heights f numbers) = f.spacing_x ∷ (f.spacing_y ∷ numbers)
shape_numbers (distances g numbers) = vector_then g.origin (vector_then g.spacing numbers)

unfoldable pub shape_indices : Shape → List ℕ
shape_indices (plane p) = []
shape_indices (triangle v w u) = []
shape_indices (mesh m) = m.triangles
shape_indices (heights f numbers) = []
shape_indices (distances g numbers) = []

-- a record of version 1 carries no near
unfoldable pub said_for : Form → Ray → Shape → Said
said_for form r s = record {
  kind = kind_byte s;
  ray = take (rays_of form) (ray_numbers r);
  counts = shape_counts s;
  numbers = shape_numbers s;
  indices = shape_indices s;
}

-- ---- what can be encoded; each float is of the form's format besides (`said_fits`)

-- "version 1 means near 0"
abbrev pub NearFits : Form → Ray → Type 0
NearFits First r = r.near ≡ zeroᶠ
NearFits Long r = Unit {0}
NearFits Short r = Unit {0}

-- a count or an index is a u32
abbrev pub WordFits : ℕ → Type 0
WordFits n = n < 0x1_0000_0000

abbrev pub WordsFit : List ℕ → Type 0
WordsFit [] = Unit {0}
WordsFit (n ∷ ns) = WordFits n × WordsFit ns

-- three numbers to a vertex and three indices to a triangle
pub record MeshFits (m : Mesh) : Type 0 where
  pub whole_vertices : length m.vertices ≡ 3 * thirds (length m.vertices)
  pub whole_triangles : length m.triangles ≡ 3 * thirds (length m.triangles)
  pub indices_fit : WordsFit m.triangles

-- as many numbers as the counts say
pub record FieldFits (f : Field) (numbers : List Float) : Type 0 where
  pub rows_fit : WordFits f.rows
  pub columns_fit : WordFits f.columns
  pub many : length numbers ≡ f.rows * f.columns

pub record GridFits (g : Grid) (numbers : List Float) : Type 0 where
  pub first_fits : WordFits g.sides.x
  pub second_fits : WordFits g.sides.y
  pub third_fits : WordFits g.sides.z
  pub many : length numbers ≡ g.sides.x * g.sides.y * g.sides.z

abbrev pub ShapeFits : Shape → Type 0
ShapeFits (plane p) = Unit {0}
ShapeFits (triangle v w u) = Unit {0}
ShapeFits (mesh m) = MeshFits m
ShapeFits (heights field numbers) = FieldFits field numbers
ShapeFits (distances grid numbers) = GridFits grid numbers
