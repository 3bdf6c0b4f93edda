-- The lent areas as lists: what stands at a place. Definitions only. Assumes nothing.
use Rattle.std.specs.Prelude.{ℕ, ◌+◌, ◌*◌, Bool, true, ◌&&◌, List, [], ◌∷◌, leb, Float, get_or, replicate}
use Rattle.std.specs.Float.{nan}
use Rattle.vectors.specs.Numbers.{zeroᶠ}
use Rattle.vectors.specs.declared.vec3.Vec3.{Vec3}
use Rattle.geometry.specs.declared.aabb.Aabb.{Aabb}

abbrev pub number_at : List Float → ℕ → Float
number_at xs place = get_or xs place nan

abbrev pub word_at : List ℕ → ℕ → ℕ
word_at xs place = get_or xs place 0

-- three numbers from a place on
unfoldable pub vector_at : List Float → ℕ → Vec3
vector_at xs place = record { x = number_at xs place; y = number_at xs (place + 1); z = number_at xs (place + 2) }

-- the box at an index: six numbers, the minimum's and the maximum's
unfoldable pub box_at : List Float → ℕ → Aabb
box_at xs index = record { min = vector_at xs (6 * index); max = vector_at xs (6 * index + 3) }

-- the six numbers of a box, as an area holds them
unfoldable pub box_numbers : Aabb → List Float
box_numbers b = b.min.x ∷ (b.min.y ∷ (b.min.z ∷ (b.max.x ∷ (b.max.y ∷ (b.max.z ∷ [])))))

-- a node's words: "kind 0 leaf or 1 branch, then start and count or left and right"
abbrev pub kind_at : List ℕ → ℕ → ℕ
kind_at words node = word_at words (3 * node)

abbrev pub first_at : List ℕ → ℕ → ℕ
first_at words node = word_at words (3 * node + 1)

abbrev pub second_at : List ℕ → ℕ → ℕ
second_at words node = word_at words (3 * node + 2)

-- a tree as it stands in the lent areas
pub record Tree : Type 0 where
  pub node_count : ℕ
  pub node_boxes : List Float
  pub triangle_boxes : List Float
  pub node_words : List ℕ
  pub order : List ℕ

abbrev pub tree_of : ℕ → List Float → List Float → List ℕ → List ℕ → Tree
tree_of nodes node_boxes triangle_boxes node_words order =
    record { node_count = nodes; node_boxes = node_boxes; triangle_boxes = triangle_boxes; node_words = node_words; order = order }

-- its areas, whatever they hold
pub record Areas : Type 0 where
  pub node_boxes : List Float
  pub triangle_boxes : List Float
  pub node_words : List ℕ
  pub order : List ℕ

abbrev pub areas : List Float → List Float → List ℕ → List ℕ → Areas
areas node_boxes triangle_boxes node_words order =
    record { node_boxes = node_boxes; triangle_boxes = triangle_boxes; node_words = node_words; order = order }

-- a tree of so many nodes that stands in them
abbrev pub tree_in : ℕ → Areas → Tree
tree_in count a = tree_of count a.node_boxes a.triangle_boxes a.node_words a.order

-- ---- how long the areas are

-- the length that is stated for an area, and the one that it has
pub record Lent : Type 0 where
  pub stated : ℕ
  pub long : ℕ

abbrev pub lent : ℕ → ℕ → Lent
lent stated long = record { stated = stated; long = long }

-- "A tree slice shorter than stated is 3; a longer one is admitted"
abbrev pub all_long : List Lent → Bool
all_long [] = true
all_long (a ∷ []) = leb a.stated a.long
all_long (a ∷ (b ∷ rest)) = leb a.stated a.long && all_long (b ∷ rest)

-- "Lent slices for n triangles: f64 node boxes 12n and triangle boxes 6n, u32 node words 6n .., order n"
abbrev pub tree_lengths : ℕ → ℕ → ℕ → ℕ → ℕ → List Lent
tree_lengths n node_boxes triangle_boxes node_words order =
    lent (12 * n) node_boxes ∷ (lent (6 * n) triangle_boxes ∷ (lent (6 * n) node_words ∷ (lent n order ∷ [])))

-- such areas, all zero
abbrev pub fresh_areas : ℕ → Areas
fresh_areas n = areas (replicate (12 * n) zeroᶠ) (replicate (6 * n) zeroᶠ) (replicate (6 * n) 0) (replicate n 0)
