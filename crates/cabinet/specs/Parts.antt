-- A part's mesh and tree in the lent areas. Definitions only. Assumes nothing.
use Rattle.std.specs.Prelude.{ℕ, ◌+◌, Bool, ◌&&◌, List, leb, Float, length, take, drop}
use Rattle.tree.specs.Layout.{Tree, tree_of}
use Rattle.tree.specs.Mesh.{Mesh, mesh}
use Rattle.mesh.specs.MeshCast.{shape_admitted, room_for}
use Rattle.cabinet.specs.declared.part.Areas as CodeAreas
use Rattle.cabinet.specs.declared.part.Lengths.{Lengths}
use Rattle.cabinet.specs.declared.part.Span.{Span}
use Rattle.cabinet.specs.declared.part.Part.{Part}

-- the six areas that the parts share
pub record Areas : Type 0 where
  pub vertices : List Float
  pub triangles : List ℕ
  pub node_boxes : List Float
  pub triangle_boxes : List Float
  pub node_words : List ℕ
  pub order : List ℕ

-- what the code's areas lend
abbrev pub lent : CodeAreas.Areas → Areas
lent a =
    record {
      vertices = a.vertices.now;
      triangles = a.triangles.now;
      node_boxes = a.node_boxes.now;
      triangle_boxes = a.triangle_boxes.now;
      node_words = a.node_words.now;
      order = a.order.now;
    }

abbrev pub lengths_of : Areas → Lengths
lengths_of a =
    record {
      vertices = length a.vertices;
      triangles = length a.triangles;
      node_boxes = length a.node_boxes;
      triangle_boxes = length a.triangle_boxes;
      node_words = length a.node_words;
      order = length a.order;
    }

-- the mesh and the tree that take up all of them
abbrev pub lent_mesh : CodeAreas.Areas → Mesh
lent_mesh a = mesh a.vertices.now a.triangles.now

abbrev pub lent_tree : ℕ → CodeAreas.Areas → Tree
lent_tree nodes a = tree_of nodes a.node_boxes.now a.triangle_boxes.now a.node_words.now a.order.now

-- what a range names
abbrev pub floats_at : Span → List Float → List Float
floats_at s area = take s.length (drop s.start area)

abbrev pub words_at : Span → List ℕ → List ℕ
words_at s area = take s.length (drop s.start area)

abbrev pub mesh_of : Areas → Part → Mesh
mesh_of a p = mesh (floats_at p.vertices a.vertices) (words_at p.triangles a.triangles)

abbrev pub tree_of_part : Areas → Part → Tree
tree_of_part a p =
    tree_of p.nodes (floats_at p.node_boxes a.node_boxes) (floats_at p.triangle_boxes a.triangle_boxes)
    (words_at p.node_words a.node_words) (words_at p.order a.order)

-- a range that does not leave an area; start and length are added as whole numbers
abbrev pub stays_in : Span → ℕ → Bool
stays_in s long = leb (s.start + s.length) long

unfoldable pub ranges_inside : Part → ℕ → ℕ → ℕ → ℕ → ℕ → ℕ → Bool
ranges_inside p vertices triangles node_boxes triangle_boxes node_words order =
    stays_in p.vertices vertices
    && (stays_in p.triangles triangles
    && (stays_in p.node_boxes node_boxes
    && (stays_in p.triangle_boxes triangle_boxes && (stays_in p.node_words node_words && stays_in p.order order))))

-- "A part whose ranges leave the lent areas is 2, as is one the mesh cast would refuse with 2"
unfoldable pub shape_fits : Areas → Part → Bool
shape_fits a p =
    ranges_inside p (length a.vertices) (length a.triangles) (length a.node_boxes) (length a.triangle_boxes)
    (length a.node_words) (length a.order)
    && shape_admitted (mesh_of a p) (mesh_of a p).vertices (tree_of_part a p)

-- "a tree or work area short for any part is 3"
unfoldable pub room_fits : Areas → ℕ → ℕ → Part → Bool
room_fits a list stack p = room_for (mesh_of a p) (tree_of_part a p) list stack
