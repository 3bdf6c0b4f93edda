-- Whether a drill touches any triangle of a mesh, and the lowest index of one that it does. Definitions only. Assumes nothing.
use Rattle.std.specs.Prelude.{◌≡◌, ℕ, ◌<◌, ◌≤◌, Bool, cond, List, [], ◌∷◌}
use Rattle.lists.specs.Lists.{range, every}
use Rattle.tree.specs.Mesh.{Mesh, triangle_count, corners_of, candidates}
use Rattle.exact_triangle.specs.Line.{Line}
use Rattle.exact_triangle.specs.Reach.{corners_read}
use Rattle.mesh_exact.specs.Certain.{corner_on}
use Rattle.drill.specs.Drill.{InDrill}
use Rattle.drill.specs.Decision.{touched}
use Rattle.drill.specs.Box.{drill_box}

pub data DrillAnswer : Type 0 where
  Clear : DrillAnswer
  Touches : ℕ → DrillAnswer
  Stopped : ℕ → DrillAnswer

-- the drill touches triangle i, on the grid
abbrev pub touched_at : Line → ℕ → Mesh → ℕ → Bool
touched_at l ρ m i = touched l ρ (corner_on m i 0) (corner_on m i 1) (corner_on m i 2)

-- the first of a list that passes a test
unfoldable pub first_of : (ℕ → Bool) → List ℕ → DrillAnswer
first_of p [] = Clear
first_of p (i ∷ is) = cond (p i) (Touches i) (first_of p is)

-- .. of all triangles; and of those alone whose box touches the drill's
unfoldable pub drill_all : Line → ℕ → Mesh → DrillAnswer
drill_all l ρ m = first_of (touched_at l ρ m) (range 0 (triangle_count m))

unfoldable pub drill_boxed : Line → ℕ → Mesh → DrillAnswer
drill_boxed l ρ m = first_of (touched_at l ρ m) (candidates m (drill_box l ρ))

-- every corner of every triangle is within 8,192 mm
unfoldable pub mesh_read : Mesh → Bool
mesh_read m = every (λ (i : ℕ). corners_read (corners_of m.vertices m.triangles i)) (range 0 (triangle_count m))

-- a radius is up to 2^22 units, 128 mm
abbrev pub widest : ℕ
widest = 4194304

-- triangle i of the mesh, with area or without, has a point in the drill
pub record TouchedTriangle (l : Line) (ρ : ℕ) (m : Mesh) (i : ℕ) : Type 0 where
  pub triangle : i < triangle_count m
  pub point : InDrill l ρ (corner_on m i 0) (corner_on m i 1) (corner_on m i 2)

-- clear exactly if no triangle of the mesh has a point in the drill, and else the lowest index of one that has
pub record CertainDrill (l : Line) (ρ : ℕ) (m : Mesh) (answer : DrillAnswer) : Type 0 where
  pub clear : answer ≡ Clear → (i : ℕ) → TouchedTriangle l ρ m i → ⊥
  pub touches : (i : ℕ) → answer ≡ Touches i → TouchedTriangle l ρ m i
  pub lowest : (i j : ℕ) → answer ≡ Touches i → TouchedTriangle l ρ m j → i ≤ j
