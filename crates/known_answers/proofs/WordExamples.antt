-- Trees computed from the definition alone: one that our builder would not write passes, and for each clause one fails that clause and no
-- other. Assumes nothing.
use Prim.Native.Nat.{ℕ, suc, ◌*◌}
use mathlib.Core.Path.{◌≡◌, refl}
use mathlib.Core.Bool.{Bool, true, false, cond}
use mathlib.Core.List.{List, [], ◌∷◌, ◌++◌, map}
use lib.Dec.{leb}
use lib.Ieee.{Float, binary64, of_bits, of_fields, lt, le, eq, is_nan}
use Rattle.arithmetic.specs.Basic.{is_finite}
use Rattle.arithmetic.specs.Extremes.{minimum_of, maximum_of}
use Rattle.vectors.specs.Numbers.{zeroᶠ, oneᶠ}
use Rattle.vectors.specs.Vector.{min_of, max_of}
use Rattle.geometry.specs.Box.{valid_side, valid_box, within_side, encloses, same_side, same_box}
use Rattle.lists.specs.Lists.{range, count, every, flat_map}
use Rattle.tree.specs.Layout.{Tree, vector_at, box_at}
use Rattle.tree.specs.Mesh.{Mesh, corners_inside, corner_at, triangle_box}
use Rattle.tree_check.specs.Check.{triangle_count, children_of, places_of, kinds_known, children_above, leaves_inside, named_once}
use Rattle.tree_check.specs.Check.{placed_once, ordered_once, leaves_filled, corners_known, boxes_same, boxes_valid, node_encloses}
use Rattle.tree_check.specs.Check.{enclosed}
use Rattle.tree_check.specs.Check.{clauses_hold, tree_passes}

abbrev twoᶠ : Float
twoᶠ = of_bits binary64 0x4000_0000_0000_0000

abbrev infinityᶠ : Float
infinityᶠ = of_bits binary64 0x7ff0_0000_0000_0000

-- the triangle (0,0,0), (1,0,0), (0,1,0) three times
abbrev corners : List Float
corners = zeroᶠ ∷ (zeroᶠ ∷ (zeroᶠ ∷ (oneᶠ ∷ (zeroᶠ ∷ (zeroᶠ ∷ (zeroᶠ ∷ (oneᶠ ∷ (zeroᶠ ∷ []))))))))

abbrev pub thrice : Mesh
thrice = record { vertices = corners; triangles = 0 ∷ (1 ∷ (2 ∷ (0 ∷ (1 ∷ (2 ∷ (0 ∷ (1 ∷ (2 ∷ [])))))))) }

-- the same, the last index past the vertices
abbrev pub past : Mesh
past = record { vertices = corners; triangles = 0 ∷ (1 ∷ (2 ∷ (0 ∷ (1 ∷ (2 ∷ (0 ∷ (1 ∷ (9 ∷ [])))))))) }

-- boxes: the triangle's, that of its first two corners, and wide ones
abbrev pub tight : List Float
tight = zeroᶠ ∷ (zeroᶠ ∷ (zeroᶠ ∷ (oneᶠ ∷ (oneᶠ ∷ (zeroᶠ ∷ [])))))

abbrev pub edge : List Float
edge = zeroᶠ ∷ (zeroᶠ ∷ (zeroᶠ ∷ (oneᶠ ∷ (zeroᶠ ∷ (zeroᶠ ∷ [])))))

abbrev pub wide : List Float
wide = zeroᶠ ∷ (zeroᶠ ∷ (zeroᶠ ∷ (twoᶠ ∷ (twoᶠ ∷ (twoᶠ ∷ [])))))

abbrev endless : List Float
endless = zeroᶠ ∷ (zeroᶠ ∷ (zeroᶠ ∷ (infinityᶠ ∷ (twoᶠ ∷ (twoᶠ ∷ [])))))

abbrev away : List Float
away = oneᶠ ∷ (oneᶠ ∷ (oneᶠ ∷ (twoᶠ ∷ (twoᶠ ∷ (twoᶠ ∷ [])))))

abbrev boxes : List Float
boxes = wide ++ (wide ++ (wide ++ wide))

-- three words a node
abbrev pub leaf : ℕ → ℕ → List ℕ
leaf start size = 0 ∷ (start ∷ (size ∷ []))

abbrev pub branch : ℕ → ℕ → List ℕ
branch left right = 1 ∷ (left ∷ (right ∷ []))

abbrev pub in_order : List ℕ
in_order = 0 ∷ (1 ∷ (2 ∷ []))

-- a tree over the three triangles, in wide boxes but for the first node's
abbrev pub tree_of : ℕ → List Float → List ℕ → List ℕ → Tree
tree_of count first words order =
    record {
      node_count = count;
      node_boxes = first ++ boxes;
      triangle_boxes = tight
          ++ (tight ++ tight);
      node_words = words;
      order = order;
    }

-- one leaf, and triangle boxes of its own
abbrev pub leaf_over : List Float → Tree
leaf_over triangle_boxes = record {
  node_count = 1;
  node_boxes = wide;
  triangle_boxes = triangle_boxes;
  node_words = leaf 0 3;
  order =
      in_order;
}

-- whether a tree passes, and the clauses that it fails, by their number in the definition's order
pub record Outcome : Type 0 where
  pub passes : Bool
  pub fails : List ℕ

abbrev failing : ℕ → List Bool → List ℕ
failing k [] = []
failing k (b ∷ bs) = cond b (failing (suc k) bs) (k ∷ failing (suc k) bs)

abbrev outcome : Mesh → Tree → Outcome
outcome m t =
    record {
      passes = tree_passes m t;
      fails = failing 0
          (leb t.node_count (2 * triangle_count m t)
          ∷ (kinds_known m t
          ∷ (children_above m t
          ∷ (leaves_inside m t
          ∷ (named_once m t
          ∷ (placed_once m t
          ∷ (ordered_once m t
          ∷ (leaves_filled m t ∷ (corners_known m t ∷ (boxes_same m t ∷ (boxes_valid m t ∷ (enclosed m t ∷ []))))))))))));
    }

-- leaves of one triangle, right children before left ones, an order of its own
abbrev pub foreign : Tree
foreign = tree_of 5 wide (branch 2 1 ++ (leaf 2 1 ++ (branch 4 3 ++ (leaf 0 1 ++ leaf 1 1)))) (2 ∷ (0 ∷ (1 ∷ [])))

-- one fault each: an unknown kind, a child that is not above, a leaf past n, a node not named, a place in two leaves, a triangle twice in
-- the order,
-- an empty leaf, a triangle's box too wide, a box that is not finite, a child and a triangle that are not enclosed
abbrev pub faulty : List Tree
faulty =
    tree_of 3 wide (branch 1 2 ++ (leaf 0 3 ++ (2 ∷ (0 ∷ (0 ∷ []))))) in_order
    ∷ (tree_of 4 wide (branch 1 2 ++ (branch 3 0 ++ (leaf 0 1 ++ leaf 1 2))) in_order
    ∷ (tree_of 3 wide (branch 1 2 ++ (leaf 0 1 ++ leaf 1 3)) in_order
    ∷ (tree_of 4 wide (branch 2 3 ++ (leaf 2 1 ++ (leaf 0 1 ++ leaf 1 1))) in_order
    ∷ (tree_of 3 wide (branch 1 2 ++ (leaf 0 2 ++ leaf 1 2)) in_order
    ∷ (tree_of 1 wide (leaf 0 3) (0 ∷ (0 ∷ (2 ∷ [])))
    ∷ (tree_of 3 wide (branch 1 2 ++ (leaf 0 3 ++ leaf 0 0)) in_order
    ∷ (leaf_over (tight ++ (tight ++ wide))
    ∷ (tree_of 1 endless (leaf 0 3) in_order
    ∷ (tree_of 3 tight (branch 1 2 ++ (leaf 0 1 ++ leaf 1 2)) in_order ∷ (tree_of 1 away (leaf 0 3) in_order ∷ []))))))))))

abbrev no_by : ℕ → Outcome
no_by clause = record { passes = false; fails = clause ∷ [] }

-- the foreign tree passes; a triangle index past the vertices, and each fault, is a no by one clause alone
pub outcomes : (outcome thrice foreign ∷ (outcome past (leaf_over (tight ++ (tight ++ edge))) ∷ map (outcome thrice) faulty))
    ≡ (record { passes = true; fails = [] } ∷ (no_by 8 ∷ map no_by (1 ∷ (2 ∷ (3 ∷ (4 ∷ (5 ∷ (6 ∷ (7 ∷ (9 ∷ (10 ∷ (11 ∷ (11 ∷ [])))))))))))))
unfolding tree_passes clauses_hold kinds_known children_above leaves_inside named_once placed_once ordered_once leaves_filled corners_known
    boxes_same
    boxes_valid node_encloses enclosed children_of places_of range count every flat_map vector_at box_at corners_inside corner_at
    triangle_box
    valid_side valid_box within_side encloses same_side same_box min_of max_of minimum_of maximum_of is_finite of_bits of_fields lt le eq
    is_nan
outcomes = refl
