-- Inner contracts only: the steps of the exact cast's walk. Definitions only. Assumes nothing.
use Rattle.std.specs.Prelude.{ℕ, suc, ◌+◌, ◌-◌, ◌*◌, ◌≤◌, ◌≡◌, true, List, [], pos, Float, length, Option, Some, None}
use Rattle.lists.specs.Lists.{range}
use Rattle.geometry.specs.declared.aabb.Aabb.{Aabb}
use Rattle.geometry.specs.declared.ray.Ray.{Ray}
use Rattle.casts.specs.Answer.{out_of_bounds}
use Rattle.nearest_hit.specs.Nearest.{stopped}
use Rattle.nearest_hit.specs.Summary.{Summary, winner, answer_at, says_nearest_so_far}
use Rattle.nearest_hit.specs.declared.summary.NearestSoFar.{NearestSoFar}
use Rattle.tree.specs.Layout.{Tree}
use Rattle.tree.specs.Mesh.{thirds}
use Rattle.tree_walk.specs.Areas.{on_stack}
use Rattle.wide_integers.specs.Sizes.{Sized}
use Rattle.exact_triangle.specs.Line.{Line}
use Rattle.exact_triangle.specs.Grid.{grid_line}
use Rattle.exact_triangle.specs.Shear.{gain}
use Rattle.exact_triangle.specs.declared.view.View.{View}
use Rattle.exact_triangle.specs.View.{Sees}
use Rattle.tree_exact.specs.Onward.{Reached, Standing, Testing}
use Rattle.tree_exact.specs.Opening.{limit_of, opens_node}
use Rattle.tree_exact.specs.Order.{left_first}
use Rattle.mesh_exact.specs.GridCast.{exact_answer}
use Rattle.mesh_exact.specs.Noted.{Bounded}
use Rattle.tree_exact.specs.ExactMesh.{exact_through}
use Rattle.tree_exact.specs.declared.walk.Best.{Best}
use Rattle.tree_exact.specs.declared.walk.Step.{Step}
use Rattle.tree_exact.specs.declared.walk.Step.TheVariants.{NothingFound, Next, Bad}

-- how far a box can be and still be met
pub record Limited (line : View) (best : Best) : Type 0 where
  pub past : (l : Line) → Sees line l → best.past ≡ pos (limit_of l (says_nearest_so_far best.notes).least * gain l)
  pub fits : Sized 4611686018427387904 best.past

module _ (r : Ray) (pose : List Float) (triangles : List ℕ) (t : Tree) where
  -- the walk so far
  abbrev pub Stands : ℕ → List ℕ → List ℕ → Summary → Type 0
  Stands =
      Standing t (thirds (length triangles)) (exact_answer r pose triangles) (opens_node (grid_line r) t) (left_first (grid_line r) t)

  abbrev pub Tests : ℕ → ℕ → List ℕ → Summary → Type 0
  Tests = Testing t (thirds (length triangles)) (exact_answer r pose triangles) (opens_node (grid_line r) t) (left_first (grid_line r) t)

  abbrev pub Refuses : Type 0
  Refuses = stopped out_of_bounds ≡ exact_through r pose triangles t

  -- after a leaf
  abbrev pub NotedBy : ℕ → List ℕ → Option NearestSoFar → Type 0
  NotedBy k stack (Some notes) = Stands k [] stack (says_nearest_so_far notes)
  NotedBy k stack None = Refuses

  -- after a node, with what was found before it
  abbrev pub SteppedBy : ℕ → List ℕ → NearestSoFar → Step → Type 0
  SteppedBy k area notes (NothingFound top) = Stands k [] (on_stack area top) (says_nearest_so_far notes)
  SteppedBy k area notes (Next top best) = Stands k [] (on_stack area top) (says_nearest_so_far best.notes)
  SteppedBy k area notes Bad = Refuses

  -- after the walk
  abbrev pub WalkedBy : Option NearestSoFar → Type 0
  WalkedBy (Some notes) =
      (answer_at (exact_answer r pose triangles) (winner (says_nearest_so_far notes)) ≡ exact_through r pose triangles t)
      × Reached t (thirds (length triangles)) (exact_answer r pose triangles) (opens_node (grid_line r) t) (left_first (grid_line r) t)
      (says_nearest_so_far notes).least
  WalkedBy None = Refuses

-- the places of a leaf, for every ray on the line and every tree of that order
pub record NearestSoFarLeaf (line : View) (reach : Aabb) (pose : List Float) (triangles order : List ℕ) (start end : ℕ)
    (notes : NearestSoFar) (result : Option NearestSoFar) : Type 0
  where
    pub holds : (r : Ray) → Bounded r line reach → (t : Tree) → t.order ≡ order → (k : ℕ) (stack : List ℕ)
        → Stands r pose triangles t k (range start (end - start)) stack (says_nearest_so_far notes)
        → NotedBy r pose triangles t k stack result

-- the areas of a tree that the walk reads
pub record Reads (t : Tree) (nodes : ℕ) (boxes : List Float) (words order : List ℕ) : Type 0 where
  pub counted : t.node_count ≡ nodes
  pub boxed : t.node_boxes ≡ boxes
  pub worded : t.node_words ≡ words
  pub ordered : t.order ≡ order

-- what the walk asks of them
pub record WalkRoom (n nodes : ℕ) (boxes : List Float) (words order : List ℕ) : Type 0 where
  pub boxed : 6 * nodes ≤ length boxes
  pub worded : 3 * nodes ≤ length words
  pub ordered : n ≤ length order

-- where the walk stands after a node
abbrev pub StepIn : View → ℕ → Step → Type 0
StepIn line top (NothingFound top') = top' ≤ top + 2
StepIn line top (Next top' best) = (top' ≤ top + 2) × Limited line best
StepIn line top Bad = Unit

-- a node whose box is met
pub record OpensNode (line : View) (reach : Aabb) (pose : List Float) (triangles : List ℕ) (nodes : ℕ) (boxes : List Float)
    (words order area : List ℕ) (node top : ℕ) (best : Best) (result : Step) (area' : List ℕ) : Type 0 where
  pub holds : (r : Ray) → Bounded r line reach → (t : Tree) → Reads t nodes boxes words order → (k : ℕ)
      → opens_node (grid_line r) t node (says_nearest_so_far best.notes) ≡ true
      → Tests r pose triangles t k node (on_stack area top) (says_nearest_so_far best.notes)
      → SteppedBy r pose triangles t k area' best.notes result
  pub stands : StepIn line top result

-- the next node of the stack
pub record TakesNode (line : View) (reach : Aabb) (pose : List Float) (triangles : List ℕ) (nodes : ℕ) (boxes : List Float)
    (words order area : List ℕ) (top : ℕ) (best : Best) (result : Step) (area' : List ℕ) : Type 0 where
  pub holds : (r : Ray) → Bounded r line reach → (t : Tree) → Reads t nodes boxes words order → (k : ℕ)
      → Stands r pose triangles t (suc k) [] (on_stack area top) (says_nearest_so_far best.notes) → SteppedBy r pose triangles t k area'
      best.notes result
  pub stands : StepIn line (top - 1) result

-- the whole walk
pub record Walks (line : View) (reach : Aabb) (pose : List Float) (triangles : List ℕ) (nodes : ℕ) (boxes : List Float)
    (words order : List ℕ) (result : Option NearestSoFar) : Type 0 where
  pub holds : (r : Ray) → Bounded r line reach → (t : Tree) → Reads t nodes boxes words order → WalkedBy r pose triangles t result
