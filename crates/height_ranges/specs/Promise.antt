-- What the cast at heights known only within ranges promises of the grids within them. Definitions only. Assumes nothing.
use Rattle.std.specs.Prelude.{ℕ, ◌+◌, ◌*◌, ◌≤◌, ◌<◌, ◌≡◌, true, false, Float, length, get_or}
use mathlib.Core.List.{List, Memᴰ}
use Rattle.std.specs.Float.{binary64, nan}
use Rattle.std.specs.Float.Ieee.{le, fits}
use Rattle.vectors.specs.Vector.{finite_vec}
use Rattle.geometry.specs.Box.{touches}
use Rattle.geometry.specs.Segment.{ray_admitted, segment_end, segment_box}
use Rattle.geometry.specs.declared.ray.Ray.{Ray}
use Rattle.casts.specs.Answer.{none, bad_range}
use Rattle.height_field.specs.declared.field.Field.{Field}
use Rattle.height_field.specs.Cells.{visited_cells}
use Rattle.height_field.specs.Listing.{feature_box}
use Rattle.height_field.specs.Cast.{span_finite, ray_height_field}
use Rattle.height_ranges.specs.Answer.{Answer, clear, possible, refused}
use Rattle.height_ranges.specs.Ranges.{ranges_admitted, nodes_of, node_in_order}

-- a number stands in a list
abbrev pub Among : ℕ → List ℕ → Type 0
Among n l = Memᴰ n l

module _ (r : Ray) (f : Field) (lows highs : List Float) where
  -- "the cells that the height listing would visit"
  abbrev pub Visited : ℕ → Type 0
  Visited cell = Among cell (visited_cells f (segment_box r))

  -- a "node of a visited cell"
  abbrev pub Counts : ℕ → Type 0
  Counts node = Among node (nodes_of f (visited_cells f (segment_box r)))

  -- the tests that come before 9
  pub record Tested : Type 0 where
    pub ray : ray_admitted r ≡ true
    pub field : ranges_admitted f lows highs ≡ true
    pub end : finite_vec (segment_end r) ≡ true
    pub span : span_finite f ≡ true

  -- the ranges that count are in order, or one is not
  abbrev pub InOrder : Type 0
  InOrder = (node : ℕ) → Counts node → node_in_order lows highs node ≡ true

  pub record OutOfOrder : Type 0 where
    pub node : ℕ
    pub counts : Counts node
    pub fails : node_in_order lows highs node ≡ false

  -- "some grid, within the ranges at every node of a visited cell": anything may stand at the others, NaN too
  pub record Within (heights : List Float) : Type 0 where
    pub whole : length heights ≡ f.rows * f.columns
    pub above : (node : ℕ) → Counts node → le (get_or lows node nan) (get_or heights node nan) ≡ true
    pub below : (node : ℕ) → Counts node → le (get_or heights node nan) (get_or highs node nan) ≡ true

  -- some such grid, of f64 as every grid that a caller can lend, "has a triangle of" the cell "whose box touches the segment's box"
  pub record MayTouch (cell : ℕ) : Type 0 where
    pub heights : List Float
    pub doubles : (node : ℕ) → fits binary64 (get_or heights node nan) ≡ true
    pub within : Within heights
    pub triangle : ℕ
    pub one : triangle < 2
    pub touching : touches (feature_box f heights (cell * 2 + triangle)) (segment_box r) ≡ true

  -- "the first cell in row order that makes it so"
  pub record First (cell : ℕ) : Type 0 where
    pub visited : Visited cell
    pub may : MayTouch cell
    pub least : (other : ℕ) → Visited other → MayTouch other → cell ≤ other

  pub record MeetsPromise (answer : Answer) : Type 0 where
    -- "Possible means exactly that some grid .. has a triangle of a visited cell whose box touches the segment's box":
    -- the cell is then the first
    pub possible_if : (cell : ℕ) → Tested → InOrder → First cell → answer ≡ possible cell
    pub possible_only_if : (cell : ℕ) → answer ≡ possible cell → Tested × (InOrder × First cell)
    -- clear exactly if there is none
    pub clear_if : Tested → InOrder → ((cell : ℕ) → Visited cell → MayTouch cell → ⊥) → answer ≡ clear
    pub clear_only_if : answer ≡ clear → Tested × (InOrder × ((cell : ℕ) → Visited cell → MayTouch cell → ⊥))
    -- "number 9 for a range of a visited cell that is out of order or not finite"
    pub nine_if : Tested → OutOfOrder → answer ≡ refused bad_range
    pub nine_only_if : answer ≡ refused bad_range → Tested × OutOfOrder
    -- "the listing's later refusals" never occur: after the tests and with all ranges in order no number is refused
    pub never_later : (number : ℕ) → Tested → InOrder → answer ≡ refused number → ⊥
    -- "Where clear, the height cast on every such grid is none"
    pub none_where_clear : answer ≡ clear → (heights : List Float) → Within heights → ray_height_field r f heights ≡ none
