-- A merged tree has what a passed check says. Assumes nothing.
use Prim.Native.Nat.{ℕ, zero, suc, ◌+◌, ◌-◌, ◌*◌, ◌≤◌, ◌<◌}
use native.Mathlib.Nat.{add-zero}
use mathlib.Core.Path.{◌≡◌, refl, sym, ap, ◌∙◌, subst}
use mathlib.Core.Logic.{◌⊎◌, inl, inr}
use mathlib.Core.Bool.{true, false, ◌||◌, true≢false}
use mathlib.Core.List.{List, [], ◌∷◌, ◌++◌}
use native.Mathlib.Omega.{arith}
use lib.Dec.{eqb}
use lib.Ieee.{Float}
use lib.ListN.{length, take, drop, length-append}
use lib.Seq.{length-take-le, take_at}
use Rattle.geometry.specs.Box.{valid_box, encloses, same_box, union_of}
use Rattle.geometry.specs.declared.aabb.Aabb.{Aabb}
use Rattle.lists.specs.Lists.{range, count, flat_map}
use Rattle.tree.specs.Layout.{Tree, word_at, box_at, first_at, second_at}
use Rattle.tree.specs.Mesh.{Mesh, thirds, corners_inside, triangle_box}
use Rattle.lists.proofs.CountLaws.{one, one_same, one_other, count_nil, count_append, range_bounds}
use Rattle.tree_check.specs.Check.{triangle_count, nodes, is_leaf, is_branch, children_of, places_of}
use Rattle.mesh.proofs.CheckedTree.{Checked, branch_children, no_places}
use Rattle.mesh.proofs.TreeCounts.{below_or_not, count_zero, child_bounds, place_bound, words_are_order, order_within}
use Rattle.mesh.proofs.BuildBoxes.{union_valid, union_first, union_second}
use Rattle.mesh.proofs.BuildRuns.{Words}
use Rattle.tree_copy.specs.Moved.{moved_up}
use Rattle.merge.specs.Merge.{Board, Areas, triangles_in, vertices_in, one_empty, roots, merged_count, merged_order, merged_over}
use Rattle.merge.specs.Promises.{board_in}
use Rattle.merge.proofs.PassedTests.{Whole}
use Rattle.tree_copy.proofs.MovedLists.{length_moved, moved_nowhere, count_moved, count_moved_below}
use Rattle.merge.proofs.FewNodes.{fewer_nodes}
use Rattle.merge.proofs.Copies.{Copied, all_children_moved, all_places_moved, known_moved, above_moved, inside_moved}
use Rattle.merge.proofs.Copies.{differ_moved, filled_moved, node_valid_moved, triangle_valid_moved, child_enclosed_moved}
use Rattle.merge.proofs.Copies.{triangle_enclosed_moved}
use Rattle.merge.proofs.GluedMesh.{glued_triangles, inside_first, inside_second, box_first, box_second}
use Rattle.merge.proofs.Written.{Sized, first_copied, second_copied, root_written, root_around}
use Rattle.merge.proofs.MergedNodes.{no_nodes, some_nodes, two_counted, one_of_two, Root, rooted, bare, root_or_none}
use Rattle.merge.proofs.MergedNodes.{node_cases, gathered_count, root_gives, none_gives}

-- ---- counts of a checked tree past its bounds
module _ (m : Mesh) (t : Tree) (h : Checked m t) where
  child_past : (i : ℕ) → t.node_count ≤ i → count i (flat_map (children_of m t) (nodes m t)) ≡ 0
  child_past i b = count_zero (count i (flat_map (children_of m t) (nodes m t))) (λ g. omega (arith, child_bounds m t h i g))

  child_first : count 0 (flat_map (children_of m t) (nodes m t)) ≡ 0
  child_first = count_zero (count 0 (flat_map (children_of m t) (nodes m t))) (λ g. omega (arith, child_bounds m t h 0 g))

  place_past : (p : ℕ) → triangle_count m t ≤ p → count p (flat_map (places_of m t) (nodes m t)) ≡ 0
  place_past p b = count_zero (count p (flat_map (places_of m t) (nodes m t))) (λ g. omega (arith, place_bound m t h p g))

  order_past : (x : ℕ) → triangle_count m t ≤ x → count x (take (triangle_count m t) t.order) ≡ 0
  order_past x b =
      let none : count x (range 0 (triangle_count m t)) ≡ 0 =
      count_zero (count x (range 0 (triangle_count m t))) (λ g. omega (arith, range_bounds x 0 (triangle_count m t) g)) in
      omega (arith, (order_within m t h).at_most x, ap (count x) (words_are_order m t h))

-- ---- the mesh and the shapes of the two boards
abbrev pub glued : Board → Board → Mesh
glued a b = record {
  vertices = a.mesh.vertices ++ b.mesh.vertices;
  triangles = a.mesh.triangles ++ moved_up (vertices_in a) b.mesh.triangles;
}

pub record Sound (a : Board) : Type 0 where
  pub sized : Sized a
  pub whole : Whole a
  pub checked : Checked a.mesh a.tree

module _ (a b : Board) (old : Areas) (s : Sound a) (u : Sound b) where
  abbrev m : Mesh
  m = glued a b

  abbrev t : Tree
  t = (board_in a b (merged_count a b) (merged_over a b old)).tree

  abbrev R : ℕ
  R = roots a b

  abbrev N : ℕ
  N = a.tree.node_count

  abbrev M : ℕ
  M = b.tree.node_count

  abbrev n₁ : ℕ
  n₁ = triangles_in a

  abbrev n₂ : ℕ
  n₂ = triangles_in b

  abbrev h₁ : Checked a.mesh a.tree
  h₁ = s.checked

  abbrev h₂ : Checked b.mesh b.tree
  h₂ = u.checked

  pub all_triangles : triangle_count m t ≡ n₁ + n₂
  all_triangles =
      glued_triangles a.mesh.vertices b.mesh.vertices a.mesh.triangles b.mesh.triangles s.whole.vertices
      s.whole.triangles u.whole.triangles

  all_nodes : t.node_count ≡ R + (N + M)
  unfolding merged_count
  all_nodes = refl

  first : Copied t a.tree n₁ R 0
  first = first_copied a b old s.sized u.sized

  second : Copied t b.tree n₂ (R + N) n₁
  second = second_copied a b old s.sized u.sized

  first_nodes : N + R ≤ t.node_count
  first_nodes = omega (arith, all_nodes)

  second_nodes : M + (R + N) ≤ t.node_count
  second_nodes = omega (arith, all_nodes)

  first_places : n₁ + 0 ≤ triangle_count m t
  first_places = omega (arith, all_triangles)

  second_places : n₂ + n₁ ≤ triangle_count m t
  second_places = omega (arith, all_triangles)

  -- ---- the root
  has_root : R ≡ 1 → one_empty a b ≡ false
  has_root e = go (root_or_none a b)
    where
      go : Root a b → one_empty a b ≡ false
      go (rooted f g h k) = f
      go (bare f g) = absurd (omega arith)

  root_word : R ≡ 1 → Words t.node_words 0 1 1 (1 + N)
  root_word e = root_written a b old s.sized u.sized (has_root e)

  root_some : R ≡ 1 → (0 < N) × (0 < M)
  root_some e = go (root_or_none a b)
    where
      go : Root a b → (0 < N) × (0 < M)
      go (rooted f g h k) = (some_nodes a.mesh a.tree h₁ h, some_nodes b.mesh b.tree h₂ k)
      go (bare f g) = absurd (omega arith)

  root_branch : R ≡ 1 → is_branch m t 0 ≡ true
  root_branch e = ap (λ (z : ℕ). eqb z 1) (root_word e).kind_word

  root_no_leaf : R ≡ 1 → is_leaf m t 0 ≡ false
  root_no_leaf e = ap (λ (z : ℕ). eqb z 0) (root_word e).kind_word

  root_children : R ≡ 1 → children_of m t 0 ≡ 1 ∷ ((1 + N) ∷ [])
  root_children e =
      branch_children m t 0 (root_branch e) ∙ ap (λ (z : ℕ). z ∷ (second_at t.node_words 0 ∷ [])) (root_word e).first_word
      ∙ ap (λ (z : ℕ). 1 ∷ (z ∷ [])) (root_word e).second_word

  root_places : R ≡ 1 → places_of m t 0 ≡ []
  root_places e = no_places m t 0 (root_no_leaf e)

  root_child : R ≡ 1 → (k : ℕ) → 0 < count k (children_of m t 0) → (k ≡ 1) ⊎ (k ≡ 1 + N)
  root_child e k g = one_of_two k 1 (1 + N) (subst (λ (l : List ℕ). 0 < count k l) (root_children e) g)

  abbrev box₁ : Aabb
  box₁ = box_at a.tree.node_boxes 0

  abbrev box₂ : Aabb
  box₂ = box_at b.tree.node_boxes 0

  root_box_lem : R ≡ 1 → box_at t.node_boxes 0 ≡ union_of box₁ box₂
  root_box_lem e = root_around a b old s.sized u.sized (has_root e)

  first_box : R ≡ 1 → box_at t.node_boxes 1 ≡ box₁
  first_box e =
      let d : 1 ≡ 0 + R = omega arith in
      ap (box_at t.node_boxes) d ∙ first.node_box 0 (root_some e).0

  second_box : R ≡ 1 → box_at t.node_boxes (1 + N) ≡ box₂
  second_box e =
      let d : 1 + N ≡ 0 + (R + N) = omega arith in
      ap (box_at t.node_boxes) d ∙ second.node_box 0 (root_some e).1

  valid₁ : R ≡ 1 → valid_box box₁ ≡ true
  valid₁ e = h₁.node_valid 0 (root_some e).0

  valid₂ : R ≡ 1 → valid_box box₂ ≡ true
  valid₂ e = h₂.node_valid 0 (root_some e).1

  root_encloses : R ≡ 1 → (k : ℕ) → 0 < count k (children_of m t 0) → encloses (box_at t.node_boxes 0) (box_at t.node_boxes k) ≡ true
  root_encloses e k g = ap (λ (z : Aabb). encloses z (box_at t.node_boxes k)) (root_box_lem e) ∙ go (root_child e k g)
    where
      go : (k ≡ 1) ⊎ (k ≡ 1 + N) → encloses (union_of box₁ box₂) (box_at t.node_boxes k) ≡ true
      go (inl f) =
          ap (encloses (union_of box₁ box₂)) (ap (box_at t.node_boxes) f ∙ first_box e) ∙ union_first box₁ box₂ (valid₁ e) (valid₂ e)
      go (inr f) =
          ap (encloses (union_of box₁ box₂)) (ap (box_at t.node_boxes) f ∙ second_box e) ∙ union_second box₁ box₂ (valid₁ e) (valid₂ e)

  root_above : R ≡ 1 → (k : ℕ) → 0 < count k (children_of m t 0) → (0 < k) × (k < t.node_count)
  root_above e k g = go (root_child e k g)
    where
      go : (k ≡ 1) ⊎ (k ≡ 1 + N) → (0 < k) × (k < t.node_count)
      go (inl f) = (omega arith, omega (arith, all_nodes, root_some e))
      go (inr f) = (omega arith, omega (arith, all_nodes, root_some e))

  -- ---- counts
  abbrev kids₁ : List ℕ
  kids₁ = flat_map (children_of a.mesh a.tree) (nodes a.mesh a.tree)

  abbrev kids₂ : List ℕ
  kids₂ = flat_map (children_of b.mesh b.tree) (nodes b.mesh b.tree)

  children_counted : (i : ℕ)
      → count i (flat_map (children_of m t) (nodes m t))
      ≡ count i (flat_map (children_of m t) (range 0 R)) + (count i (moved_up R kids₁) + count i (moved_up (R + N) kids₂))
  children_counted i =
      gathered_count a b (children_of m t) (moved_up R kids₁) (moved_up (R + N) kids₂) i
      (all_children_moved a.mesh m a.tree t R 0 first) (all_children_moved b.mesh m b.tree t (R + N) n₁ second)

  root_counted : (i : ℕ) → R ≡ 1 → count i (flat_map (children_of m t) (range 0 R)) ≡ one i 1 + one i (1 + N)
  root_counted i e = ap (count i) (root_gives a b (children_of m t) e ∙ root_children e) ∙ two_counted i 1 (1 + N)

  bare_counted : (f : ℕ → List ℕ) (i : ℕ) → R ≡ 0 → count i (flat_map f (range 0 R)) ≡ 0
  bare_counted f i e = ap (count i) (none_gives a b f e) ∙ count_nil i

  count_up : (i j k : ℕ) (l : List ℕ) → i ≡ j + k → count i (moved_up k l) ≡ count j l
  count_up i j k l e = ap (λ (z : ℕ). count z (moved_up k l)) e ∙ count_moved j k l

  abbrev Named : ℕ → Type 0
  Named i = 0 < i → count i (flat_map (children_of m t) (nodes m t)) ≡ 1

  named_first : Root a b → (i : ℕ) → i < N → Named (i + R)
  named_first (rooted f e g h) zero below p =
      omega (
        arith,
        children_counted (0 + R),
        root_counted (0 + R) e,
        one_same (0 + R) 1 (omega arith),
        one_other (0 + R) (1 + N)
            (λ d. omega arith),
        count_moved 0 R kids₁,
        child_first a.mesh a.tree h₁,
        count_moved_below (0 + R) (R + N) kids₂ (omega arith),
      )
  named_first (rooted f e g h) (suc i) below p =
      omega (
        arith,
        children_counted (suc i + R),
        root_counted (suc i + R) e,
        one_other (suc i + R) 1 (λ d. omega arith),
        one_other
            (suc i + R) (1 + N) (λ d. omega arith),
        count_moved (suc i) R kids₁,
        h₁.named (suc i) (omega arith) below,
        count_moved_below
            (suc i + R) (R + N) kids₂ (omega arith),
      )
  named_first (bare e g) i below p =
      omega (
        arith,
        children_counted (i + R),
        bare_counted (children_of m t) (i + R) e,
        count_moved i R kids₁,
        h₁.named i (omega arith)
            below,
        count_moved_below (i + R) (R + N) kids₂ (omega arith),
      )

  named_second : Root a b → (i : ℕ) → i < M → Named (i + (R + N))
  named_second (rooted f e g h) zero below p =
      omega (
        arith,
        children_counted (0 + (R + N)),
        root_counted (0 + (R + N)) e,
        one_other (0 + (R + N)) 1
            (λ d. omega (arith, root_some e)),
        one_same (0 + (R + N)) (1 + N) (omega arith),
        count_up (0 + (R + N)) N R kids₁ (omega arith),
        child_past a.mesh a.tree h₁ N (omega arith),
        count_moved 0 (R + N) kids₂,
        child_first b.mesh b.tree h₂,
      )
  named_second (rooted f e g h) (suc i) below p =
      omega (
        arith,
        children_counted (suc i + (R + N)),
        root_counted (suc i + (R + N)) e,
        one_other (suc i + (R + N)) 1
            (λ d. omega arith),
        one_other (suc i + (R + N)) (1 + N) (λ d. omega arith),
        count_up (suc i + (R + N)) (suc i + N) R kids₁
            (omega arith),
        child_past a.mesh a.tree h₁ (suc i + N) (omega arith),
        count_moved (suc i) (R + N) kids₂,
        h₂.named (suc i)
            (omega arith) below,
      )
  named_second (bare e (inl g)) i below p =
      let none = no_nodes a.mesh a.tree h₁ g in
      omega (
        arith,
        children_counted (i + (R + N)),
        bare_counted (children_of m t) (i + (R + N)) e,
        count_up (i + (R + N)) (i + N) R kids₁
            (omega arith),
        child_past a.mesh a.tree h₁ (i + N) (omega arith),
        count_moved i (R + N) kids₂,
        h₂.named i
            (omega (arith, none)) below,
      )
  named_second (bare e (inr g)) i below p = absurd (omega (arith, no_nodes b.mesh b.tree h₂ g))

  named_root : R ≡ 1 → Named 0
  named_root e p = absurd (omega arith)

  all_named : (i : ℕ) → 0 < i → i < t.node_count → count i (flat_map (children_of m t) (nodes m t)) ≡ 1
  all_named i p below = node_cases a b Named named_root (named_first (root_or_none a b)) (named_second (root_or_none a b)) i below p

  -- ---- places
  abbrev places₁ : List ℕ
  places₁ = flat_map (places_of a.mesh a.tree) (nodes a.mesh a.tree)

  abbrev places₂ : List ℕ
  places₂ = flat_map (places_of b.mesh b.tree) (nodes b.mesh b.tree)

  root_places_counted : (p : ℕ) → Root a b → count p (flat_map (places_of m t) (range 0 R)) ≡ 0
  root_places_counted p (rooted f e g h) = ap (count p) (root_gives a b (places_of m t) e ∙ root_places e) ∙ count_nil p
  root_places_counted p (bare e g) = bare_counted (places_of m t) p e

  places_counted : (p : ℕ) → count p (flat_map (places_of m t) (nodes m t)) ≡ count p places₁ + count p (moved_up n₁ places₂)
  places_counted p =
      let e : count p (flat_map (places_of m t) (nodes m t)) ≡ count p (flat_map (places_of m t) (range 0 R)) +
      (count p (moved_up 0 places₁) + count p (moved_up n₁ places₂)) =
      gathered_count a b (places_of m t) (moved_up 0 places₁) (moved_up n₁ places₂) p
      (all_places_moved a.mesh m a.tree t R 0 first) (all_places_moved b.mesh m b.tree t (R + N) n₁ second) in
      omega (arith, e, root_places_counted p (root_or_none a b), ap (count p) (moved_nowhere places₁))

  -- a number below n₁ + n₂ is one below n₁, or one below n₂ moved up
  halves : (P : ℕ → Type 0) → ((x : ℕ) → x < n₁ → P x) → ((x : ℕ) → x < n₂ → P (x + n₁)) → (x : ℕ) → x < triangle_count m t → P x
  halves P low high x below = go (below_or_not x n₁)
    where
      go : (x < n₁) ⊎ (n₁ ≤ x) → P x
      go (inl f) = low x f
      go (inr f) =
          let e : (x - n₁) + n₁ ≡ x = omega arith in
          subst P e (high (x - n₁) (omega (arith, all_triangles)))

  all_placed : (p : ℕ) → p < triangle_count m t → count p (flat_map (places_of m t) (nodes m t)) ≡ 1
  all_placed =
      halves (λ (p : ℕ). count p (flat_map (places_of m t) (nodes m t)) ≡ 1)
      (λ p below. omega (arith, places_counted p, h₁.placed p below, count_moved_below p n₁ places₂ below))
      (λ p below. omega (
        arith,
        places_counted (p + n₁),
        place_past a.mesh a.tree h₁ (p + n₁) (omega arith),
        count_moved p n₁
            places₂,
        h₂.placed p below,
      ))

  -- ---- the order
  abbrev order₁ : List ℕ
  order₁ = take n₁ a.tree.order

  abbrev order₂ : List ℕ
  order₂ = take n₂ b.tree.order

  order_is : take (triangle_count m t) t.order ≡ order₁ ++ moved_up n₁ order₂
  unfolding merged_over merged_order
  order_is =
      take_at (order₁ ++ moved_up n₁ order₂) (drop (length (order₁ ++ moved_up n₁ order₂)) old.order) (triangle_count m t)
      (omega (
        arith,
        length-append order₁ (moved_up n₁ order₂),
        length_moved n₁ order₂,
        length-take-le n₁ a.tree.order
            s.sized.order,
        length-take-le n₂ b.tree.order u.sized.order,
        all_triangles,
      ))

  order_counted : (x : ℕ) → count x (take (triangle_count m t) t.order) ≡ count x order₁ + count x (moved_up n₁ order₂)
  order_counted x = ap (count x) order_is ∙ count_append x order₁ (moved_up n₁ order₂)

  all_ordered : (x : ℕ) → x < triangle_count m t → count x (take (triangle_count m t) t.order) ≡ 1
  all_ordered =
      halves (λ (x : ℕ). count x (take (triangle_count m t) t.order) ≡ 1)
      (λ x below. omega (arith, order_counted x, h₁.ordered x below, count_moved_below x n₁ order₂ below))
      (λ x below. omega (
        arith,
        order_counted (x + n₁),
        order_past a.mesh a.tree h₁ (x + n₁) (omega arith),
        count_moved x n₁ order₂,
        h₂.ordered x below,
      ))

  -- ---- triangles
  abbrev v : List Float
  v = a.mesh.vertices

  abbrev w : List Float
  w = b.mesh.vertices

  all_corners : (x : ℕ) → x < triangle_count m t → corners_inside (thirds (length m.vertices)) m.triangles x ≡ true
  all_corners =
      halves (λ (x : ℕ). corners_inside (thirds (length m.vertices)) m.triangles x ≡ true)
      (λ x below. inside_first v w a.mesh.triangles b.mesh.triangles s.whole.vertices s.whole.triangles x below
      (h₁.corners x below))
      (λ x below. inside_second v w a.mesh.triangles b.mesh.triangles s.whole.vertices s.whole.triangles x below
      (h₂.corners x below))

  first_around_lem : (x : ℕ) → x < n₁ → box_at t.triangle_boxes x ≡ box_at a.tree.triangle_boxes x
  first_around_lem x below = ap (box_at t.triangle_boxes) (sym (add-zero x)) ∙ first.triangle_box_lem x below

  all_same : (x : ℕ) → x < triangle_count m t → same_box (box_at t.triangle_boxes x) (triangle_box m.vertices m.triangles x) ≡ true
  all_same =
      halves (λ (x : ℕ). same_box (box_at t.triangle_boxes x) (triangle_box m.vertices m.triangles x) ≡ true)
      (λ x below. ap (λ (z : Aabb). same_box z (triangle_box m.vertices m.triangles x)) (first_around_lem x below)
      ∙ ap (same_box (box_at a.tree.triangle_boxes x))
      (box_first v w a.mesh.triangles b.mesh.triangles s.whole.vertices s.whole.triangles x below (h₁.corners x below))
      ∙ h₁.same x below)
      (λ x below. ap (λ (z : Aabb). same_box z (triangle_box m.vertices m.triangles (x + n₁))) (second.triangle_box_lem x below)
      ∙ ap (same_box (box_at b.tree.triangle_boxes x))
      (box_second v w a.mesh.triangles b.mesh.triangles s.whole.vertices s.whole.triangles x below)
      ∙ h₂.same x below)

  all_around_valid : (x : ℕ) → x < triangle_count m t → valid_box (box_at t.triangle_boxes x) ≡ true
  all_around_valid =
      halves (λ (x : ℕ). valid_box (box_at t.triangle_boxes x) ≡ true)
      (λ x below. ap valid_box (first_around_lem x below) ∙ h₁.triangle_valid x below)
      (λ x below. triangle_valid_moved b.mesh m b.tree t (R + N) n₁ second h₂ second_nodes second_places x below)

  -- ---- "node count above 2n is a no"
  few_nodes : Root a b → t.node_count ≤ 2 * triangle_count m t
  few_nodes (rooted f e g h) =
      omega (
        arith,
        all_nodes,
        all_triangles,
        fewer_nodes a.mesh a.tree h₁ (root_some e).0,
        fewer_nodes b.mesh b.tree h₂
            (root_some e).1,
      )
  few_nodes (bare e g) = omega (arith, all_nodes, all_triangles, h₁.few, h₂.few)

  pub merged_checked : Checked m t
  merged_checked = record {
    few = few_nodes (root_or_none a b);
    known =
        node_cases a b (λ (i : ℕ). (is_leaf m t i || is_branch m t i) ≡ true)
        (λ e. ap (λ (z : ℕ). eqb z 0 || eqb z 1) (root_word e).kind_word)
        (known_moved a.mesh m a.tree t R 0 first h₁ first_nodes first_places)
        (known_moved b.mesh m b.tree t (R + N) n₁ second h₂ second_nodes second_places);
    above =
        λ (i k : ℕ) (below : i < t.node_count).
        node_cases a b (λ (i : ℕ). 0 < count k (children_of m t i) → (i < k) × (k < t.node_count))
        (λ e. root_above e k)
        (λ i below. above_moved a.mesh m a.tree t R 0 first h₁ first_nodes first_places i k below)
        (λ i below. above_moved b.mesh m b.tree t (R + N) n₁ second h₂ second_nodes second_places i k below) i below;
    inside =
        node_cases a b (λ (i : ℕ). is_leaf m t i ≡ true → first_at t.node_words i + second_at t.node_words i ≤ triangle_count m t)
        (λ e f. absurd (true≢false (sym f ∙ root_no_leaf e)))
        (inside_moved a.mesh m a.tree t R 0 first h₁ first_nodes first_places)
        (inside_moved b.mesh m b.tree t (R + N) n₁ second h₂ second_nodes second_places);
    differ =
        node_cases a b (λ (i : ℕ). is_branch m t i ≡ true → first_at t.node_words i ≡ second_at t.node_words i → ⊥)
        (λ e f g. omega (arith, (root_word e).first_word, (root_word e).second_word, root_some e, g))
        (differ_moved a.mesh m a.tree t R 0 first h₁ first_nodes first_places)
        (differ_moved b.mesh m b.tree t (R + N) n₁ second h₂ second_nodes second_places);
    filled =
        node_cases a b (λ (i : ℕ). is_leaf m t i ≡ true → 0 < second_at t.node_words i)
        (λ e f. absurd (true≢false (sym f ∙ root_no_leaf e)))
        (filled_moved a.mesh m a.tree t R 0 first h₁ first_nodes first_places)
        (filled_moved b.mesh m b.tree t (R + N) n₁ second h₂ second_nodes second_places);
    node_valid =
        node_cases a b (λ (i : ℕ). valid_box (box_at t.node_boxes i) ≡ true)
        (λ e. ap valid_box (root_box_lem e) ∙ union_valid box₁ box₂ (valid₁ e) (valid₂ e))
        (node_valid_moved a.mesh m a.tree t R 0 first h₁ first_nodes first_places)
        (node_valid_moved b.mesh m b.tree t (R + N) n₁ second h₂ second_nodes second_places);
    triangle_valid = all_around_valid;
    named = all_named;
    placed = all_placed;
    ordered = all_ordered;
    corners = all_corners;
    same = all_same;
    child_enclosed =
        λ (i k : ℕ) (below : i < t.node_count).
        node_cases a b (λ (i : ℕ). 0 < count k (children_of m t i) → encloses (box_at t.node_boxes i) (box_at t.node_boxes k) ≡ true)
        (λ e. root_encloses e k)
        (λ i below. child_enclosed_moved a.mesh m a.tree t R 0 first h₁ first_nodes first_places i k below)
        (λ i below. child_enclosed_moved b.mesh m b.tree t (R + N) n₁ second h₂ second_nodes second_places i k below) i below;
    triangle_enclosed =
        λ (i p : ℕ) (below : i < t.node_count).
        node_cases a b (λ (i : ℕ). 0 < count p (places_of m t i) → encloses (box_at t.node_boxes i)
        (box_at t.triangle_boxes (word_at t.order p)) ≡ true)
        (λ e g. absurd (omega (arith, g, ap (count p) (root_places e), count_nil p)))
        (λ i below. triangle_enclosed_moved a.mesh m a.tree t R 0 first h₁ first_nodes first_places i p below)
        (λ i below. triangle_enclosed_moved b.mesh m b.tree t (R + N) n₁ second h₂ second_nodes second_places i p below) i below;
  }
