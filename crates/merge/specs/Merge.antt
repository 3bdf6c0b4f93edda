-- M-105's merge: the answer, and what the result areas hold after it. Definitions only. Assumes nothing.
use Rattle.std.specs.Prelude.{ℕ, ◌+◌, ◌*◌, ◌%◌, Bool, ◌&&◌, ◌||◌, cond, List, [], ◌∷◌, ◌++◌, leb, eqb, Float, length, take, Result, Ok, Err}
use Rattle.geometry.specs.Box.{union_of}
use Rattle.casts.specs.Answer.{bad_shape, no_room, out_of_bounds, number_of}
use Rattle.tree.specs.Layout.{Tree, box_at, box_numbers}
use Rattle.tree.specs.Mesh.{Mesh, thirds}
use Rattle.lists.specs.Lists.{over}
use Rattle.tree_check.specs.Check.{tree_passes}
unfoldable pub use Rattle.tree_query.specs.Query.{tree_fits}
use Rattle.tree_copy.specs.Moved.{moved_up, moved_nodes}
use Rattle.casts.specs.declared.answer.Refusal.{Refusal}
use Rattle.merge.specs.declared.board.Board.{Board as LentBoard}

-- the node count of the result, or a refusal's number
pub data Answer : Type 0 where
  nodes : ℕ → Answer
  refused : ℕ → Answer

-- what each case of the code's answer says
abbrev pub says : Result ℕ Refusal → Answer
says (Ok count) = nodes count
says (Err refusal) = refused (number_of refusal)

-- a board: a mesh and a tree
pub record Board : Type 0 where
  pub mesh : Mesh
  pub tree : Tree

abbrev pub triangles_in : Board → ℕ
triangles_in a = thirds (length a.mesh.triangles)

abbrev pub vertices_in : Board → ℕ
vertices_in a = thirds (length a.mesh.vertices)

-- the result areas
pub record Areas : Type 0 where
  pub vertices : List Float
  pub triangles : List ℕ
  pub node_boxes : List Float
  pub triangle_boxes : List Float
  pub node_words : List ℕ
  pub order : List ℕ

pub record Outcome : Type 0 where
  pub answer : Answer
  pub after : Areas

-- as they stand in the lent areas
abbrev pub board_of : List Float → List ℕ → ℕ → List Float → List Float → List ℕ → List ℕ → Board
board_of vertices triangles count node_boxes triangle_boxes node_words order = record {
  mesh = record { vertices = vertices; triangles = triangles };
  tree = record { node_count = count; node_boxes = node_boxes; triangle_boxes = triangle_boxes; node_words = node_words; order = order };
}

-- the same of a board that is lent
abbrev pub says_board : LentBoard → Board
says_board b =
    board_of b.vertices.now b.triangles.now b.nodes b.node_boxes.now b.triangle_boxes.now b.node_words.now b.order.now

abbrev pub areas_of : List Float → List ℕ → List Float → List Float → List ℕ → List ℕ → Areas
areas_of vertices triangles node_boxes triangle_boxes node_words order =
    record {
      vertices = vertices;
      triangles = triangles;
      node_boxes = node_boxes;
      triangle_boxes = triangle_boxes;
      node_words = node_words;
      order = order;
    }

-- lengths of the first board's vertices and triangles and of the second's
unfoldable pub shapes_fit : ℕ → ℕ → ℕ → ℕ → Bool
shapes_fit v t w u = (eqb (v % 3) 0 && eqb (t % 3) 0) && ((eqb (w % 3) 0 && eqb (u % 3) 0) && (leb (v + w) 196608 && leb (t + u) 196608))

-- result areas for v numbers of vertices, t words of triangles and a tree of n triangles, and marks
unfoldable pub room_in : ℕ → ℕ → ℕ → Areas → ℕ → Bool
room_in v t n old marks =
    leb v (length old.vertices)
    && (leb t (length old.triangles)
    && (leb (12 * n) (length old.node_boxes)
    && (leb (6 * n) (length old.triangle_boxes) &&
    (leb (6 * n) (length old.node_words) && (leb n (length old.order) && leb (3 * n) marks)))))

module _ (a b : Board) where
  -- "vertices of the first then the second, triangles likewise with indices moved up"
  unfoldable pub merged_vertices : List Float
  merged_vertices = a.mesh.vertices ++ b.mesh.vertices

  unfoldable pub merged_triangles : List ℕ
  merged_triangles = a.mesh.triangles ++ moved_up (vertices_in a) b.mesh.triangles

  -- "If one has no triangles, the other's tree is the result": no root is added, and a tree that passes has then no node
  abbrev pub one_empty : Bool
  one_empty = eqb (triangles_in a) 0 || eqb (triangles_in b) 0

  -- "a new root over both trees": how many nodes it is, its box with the first's side first, and its words
  unfoldable pub roots : ℕ
  roots = cond one_empty 0 1

  unfoldable pub root_box : List Float
  root_box = cond one_empty [] (box_numbers (union_of (box_at a.tree.node_boxes 0) (box_at b.tree.node_boxes 0)))

  unfoldable pub root_words : List ℕ
  root_words = cond one_empty [] (1 ∷ (1 ∷ ((1 + a.tree.node_count) ∷ [])))

  -- "followed by the first's nodes and then the second's"
  unfoldable pub merged_count : ℕ
  merged_count = roots + (a.tree.node_count + b.tree.node_count)

  unfoldable pub merged_node_boxes : List Float
  merged_node_boxes = root_box ++ (take (6 * a.tree.node_count) a.tree.node_boxes ++ take (6 * b.tree.node_count) b.tree.node_boxes)

  unfoldable pub merged_words : List ℕ
  merged_words =
      root_words
      ++ (moved_nodes roots 0 a.tree.node_words a.tree.node_count
      ++ moved_nodes (roots + a.tree.node_count) (triangles_in a) b.tree.node_words b.tree.node_count)

  -- "triangle boxes and order likewise"
  unfoldable pub merged_triangle_boxes : List Float
  merged_triangle_boxes = take (6 * triangles_in a) a.tree.triangle_boxes ++ take (6 * triangles_in b) b.tree.triangle_boxes

  unfoldable pub merged_order : List ℕ
  merged_order = take (triangles_in a) a.tree.order ++ moved_up (triangles_in a) (take (triangles_in b) b.tree.order)

  -- "Places past the result never change."
  unfoldable pub merged_over : Areas → Areas
  merged_over old = record {
    vertices = over merged_vertices old.vertices;
    triangles = over merged_triangles old.triangles;
    node_boxes = over merged_node_boxes old.node_boxes;
    triangle_boxes = over merged_triangle_boxes old.triangle_boxes;
    node_words = over merged_words old.node_words;
    order = over merged_order old.order;
  }

  -- "Totals above 65,536 are 2", and so is a length of either board that three does not divide
  unfoldable pub shapes_admitted : Bool
  shapes_admitted =
      shapes_fit (length a.mesh.vertices) (length a.mesh.triangles) (length b.mesh.vertices) (length b.mesh.triangles)

  abbrev pub total : ℕ
  total = triangles_in a + triangles_in b

  -- "short areas are 3, the mark area being 3 times the triangle total"
  unfoldable pub results_fit : Areas → ℕ → Bool
  results_fit =
      room_in (length a.mesh.vertices + length b.mesh.vertices) (length a.mesh.triangles + length b.mesh.triangles) total

  unfoldable pub areas_fit : Areas → ℕ → Bool
  areas_fit old marks = tree_fits (triangles_in a) a.tree && (tree_fits (triangles_in b) b.tree && results_fit old marks)

  -- not "a tree that fails its check, by its node count too"
  unfoldable pub trees_pass : Bool
  trees_pass = tree_passes a.mesh a.tree && tree_passes b.mesh b.tree

  -- whether refusals 2 and 3 let the call pass; until then the marks are unchanged, and after it they "may hold anything"
  unfoldable pub tests_pass : Areas → ℕ → Bool
  tests_pass old marks = shapes_admitted && areas_fit old marks

  -- 2 is tested before 3 and 3 before 5, "with the result areas unchanged"; the last argument is the length of the mark area
  unfoldable pub merge_of : Areas → ℕ → Outcome
  merge_of old marks =
      cond shapes_admitted
      (cond (areas_fit old marks)
      (cond trees_pass record { answer = nodes merged_count; after = merged_over old }
      record { answer = refused out_of_bounds; after = old })
      record { answer = refused no_room; after = old })
      record { answer = refused bad_shape; after = old }
