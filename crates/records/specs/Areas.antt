-- Inner contracts only: how many counts and floats a shape has, and how long the areas are in which a record is answered. Definitions only.
-- Assumes nothing.
use Rattle.std.specs.Prelude.{ℕ, ◌+◌, ◌*◌, ◌≤◌, ◌≡◌, List, Float, length}
use Rattle.record_bytes.specs.Records.{many_counts, many_numbers}

-- the counts and floats of a shape of a kind, as many as the kind says
pub record Sized (kind : ℕ) (counts : List ℕ) (numbers : List Float) : Type 0 where
  pub low : 1 ≤ kind
  pub high : kind ≤ 5
  pub counted : length counts ≡ many_counts kind
  pub numbered : length numbers ≡ many_numbers kind counts

-- for a tree of n triangles, to the place
pub record TreeRoom (n : ℕ) (node_boxes triangle_boxes : List Float) (node_words order list stack : List ℕ) : Type 0 where
  pub boxed : length node_boxes ≡ 12 * n
  pub bounded : length triangle_boxes ≡ 6 * n
  pub worded : length node_words ≡ 6 * n
  pub ordered : length order ≡ n
  pub listed : length list ≡ n
  pub stacked : length stack ≡ 2 * n + 1
