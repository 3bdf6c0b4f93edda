-- Of two meshes glued, each triangle has the corners, the box and the answer that it had in its own. Assumes nothing.
use Prim.Native.Nat.{ℕ, zero, suc, ◌+◌, ◌*◌, ◌%◌, ◌<◌}
use mathlib.Core.Path.{◌≡◌, ap, ◌∙◌}
use mathlib.Core.Bool.{true, ◌&&◌}
use mathlib.Core.List.{List, ◌++◌}
use native.Mathlib.Omega.{arith}
use lib.Dec.{ltb}
use lib.Ieee.{Float, nan}
use lib.ListN.{length, get_or, length-append, get_or-append}
use lib.Seq.{get_or-append-add}
use borrow.Author.Tests.{ltb-true, lt-ltb}
use Rattle.lists.proofs.JoinedTests.{and_first, and_second, and_three}
use Rattle.geometry.specs.declared.ray.Ray.{Ray}
use Rattle.tree.specs.Layout.{vector_at}
use Rattle.tree.specs.Mesh.{thirds, corner_index, corners_inside, corner_at, triangle_box, triangle_answer}
use Rattle.tree_copy.specs.Moved.{moved_up}
use Rattle.tree_copy.proofs.MovedLists.{length_moved, at_moved}

module _ (v w : List Float) (t u : List ℕ) (whole-v : length v % 3 ≡ 0) (whole-t : length t % 3 ≡ 0) where
  abbrev vs : List Float
  vs = v ++ w

  abbrev ts : List ℕ
  ts = t ++ moved_up (thirds (length v)) u

  -- ---- how many
  pub glued_length : length ts ≡ length t + length u
  glued_length = omega (arith, length-append t (moved_up (thirds (length v)) u), length_moved (thirds (length v)) u)

  pub glued_triangles : length u % 3 ≡ 0 → thirds (length ts) ≡ thirds (length t) + thirds (length u)
  glued_triangles h = omega (arith, glued_length, whole-t)

  -- ---- the vertex at a corner
  module _ (x k : ℕ) (corner : k < 3) where
    index_first : x < thirds (length t) → corner_index ts x k ≡ corner_index t x k
    index_first b = get_or-append t (moved_up (thirds (length v)) u) 0 (3 * x + k) (omega (arith, whole-t))

    index_second : x < thirds (length u) → corner_index ts (x + thirds (length t)) k ≡ corner_index u x k + thirds (length v)
    index_second b =
        let e : 3 * (x + thirds (length t)) + k ≡ length t + (3 * x + k) = omega (arith, whole-t) in
        ap (λ (j : ℕ). get_or ts j 0) e ∙ get_or-append-add t (moved_up (thirds (length v)) u) (3 * x + k) 0
        ∙ at_moved (thirds (length v)) u (3 * x + k) (omega arith)

  -- ---- the place of a vertex
  vector_first : (c : ℕ) → c < thirds (length v) → vector_at vs (3 * c) ≡ vector_at v (3 * c)
  unfolding vector_at
  vector_first c b =
      simp (
        get_or-append v w nan (3 * c) (omega (arith, whole-v)),
        get_or-append v w nan (3 * c + 1) (omega (arith, whole-v)),
        get_or-append v w nan (3 * c + 2) (omega (arith, whole-v)),
      )

  number_second : (p q : ℕ) → p ≡ length v + q → get_or vs p nan ≡ get_or w q nan
  number_second p q e = ap (λ (j : ℕ). get_or vs j nan) e ∙ get_or-append-add v w q nan

  vector_second : (c : ℕ) → vector_at vs (3 * (c + thirds (length v))) ≡ vector_at w (3 * c)
  unfolding vector_at
  vector_second c =
      let p = 3 * (c + thirds (length v)) in
      simp (
        number_second p (3 * c) (omega (arith, whole-v)),
        number_second (p + 1) (3 * c + 1) (omega (arith, whole-v)),
        number_second
            (p + 2) (3 * c + 2) (omega (arith, whole-v)),
      )

  -- ---- a corner
  module _ (x k : ℕ) (corner : k < 3) where
    corner_first : x < thirds (length t) → corner_index t x k < thirds (length v) → corner_at vs ts x k ≡ corner_at v t x k
    unfolding corner_at
    corner_first b c = ap (λ (j : ℕ). vector_at vs (3 * j)) (index_first x k corner b) ∙ vector_first (corner_index t x k) c

    corner_second : x < thirds (length u) → corner_at vs ts (x + thirds (length t)) k ≡ corner_at w u x k
    unfolding corner_at
    corner_second b = ap (λ (j : ℕ). vector_at vs (3 * j)) (index_second x k corner b) ∙ vector_second (corner_index u x k)

  -- ---- no index past the vertices
  pub three_below : (n : ℕ) (l : List ℕ) (x : ℕ) → corners_inside n l x ≡ true → (k : ℕ) → k < 3 → corner_index l x k < n
  unfolding corners_inside
  three_below n l x h zero b =
      ltb-true (corner_index l x 0) n (and_first (ltb (corner_index l x 0) n) (ltb (corner_index l x 1) n && ltb (corner_index l x 2) n) h)
  three_below n l x h (suc zero) b =
      ltb-true (corner_index l x 1) n
      (and_first (ltb (corner_index l x 1) n) (ltb (corner_index l x 2) n)
      (and_second (ltb (corner_index l x 0) n) (ltb (corner_index l x 1) n && ltb (corner_index l x 2) n) h))
  three_below n l x h (suc (suc zero)) b =
      ltb-true (corner_index l x 2) n
      (and_second (ltb (corner_index l x 1) n) (ltb (corner_index l x 2) n)
      (and_second (ltb (corner_index l x 0) n) (ltb (corner_index l x 1) n && ltb (corner_index l x 2) n) h))
  three_below n l x h (suc (suc (suc k))) b = absurd (omega arith)

  below_three : (n : ℕ) (l : List ℕ) (x : ℕ) → ((k : ℕ) → k < 3 → corner_index l x k < n) → corners_inside n l x ≡ true
  unfolding corners_inside
  below_three n l x h =
      and_three (ltb (corner_index l x 0) n) (ltb (corner_index l x 1) n) (ltb (corner_index l x 2) n)
      (lt-ltb (corner_index l x 0) n (h 0 (omega arith))) (lt-ltb (corner_index l x 1) n (h 1 (omega arith)))
      (lt-ltb (corner_index l x 2) n (h 2 (omega arith)))

  module _ (x : ℕ) (b : x < thirds (length t)) (inside : corners_inside (thirds (length v)) t x ≡ true) where
    at_first : (k : ℕ) → k < 3 → corner_at vs ts x k ≡ corner_at v t x k
    at_first k c = corner_first x k c b (three_below (thirds (length v)) t x inside k c)

    pub inside_first : corners_inside (thirds (length vs)) ts x ≡ true
    inside_first =
        below_three (thirds (length vs)) ts x
        (λ k c. omega (arith, index_first x k c b, three_below (thirds (length v)) t x inside k c, length-append v w))

    pub box_first : triangle_box vs ts x ≡ triangle_box v t x
    unfolding triangle_box
    box_first = rw (at_first 0 (omega arith), at_first 1 (omega arith), at_first 2 (omega arith))

    pub answer_first : (r : Ray) → triangle_answer r vs ts x ≡ triangle_answer r v t x
    unfolding triangle_answer
    answer_first r = rw (inside_first, inside, at_first 0 (omega arith), at_first 1 (omega arith), at_first 2 (omega arith))

  module _ (x : ℕ) (b : x < thirds (length u)) where
    at_second : (k : ℕ) → k < 3 → corner_at vs ts (x + thirds (length t)) k ≡ corner_at w u x k
    at_second k c = corner_second x k c b

    pub box_second : triangle_box vs ts (x + thirds (length t)) ≡ triangle_box w u x
    unfolding triangle_box
    box_second = rw (at_second 0 (omega arith), at_second 1 (omega arith), at_second 2 (omega arith))

    module _ (inside : corners_inside (thirds (length w)) u x ≡ true) where
      pub inside_second : corners_inside (thirds (length vs)) ts (x + thirds (length t)) ≡ true
      inside_second =
          below_three (thirds (length vs)) ts (x + thirds (length t))
          (λ k c. omega (arith, index_second x k c b, three_below (thirds (length w)) u x inside k c, length-append v w, whole-v))

      pub answer_second : (r : Ray) → triangle_answer r vs ts (x + thirds (length t)) ≡ triangle_answer r w u x
      unfolding triangle_answer
      answer_second r = rw (inside_second, inside, at_second 0 (omega arith), at_second 1 (omega arith), at_second 2 (omega arith))
