-- The shape of n triangles: a leaf or two halves, n triangles, less than 2n nodes, and as many words and boxes as nodes. Assumes nothing.
use mathlib.Core.Path.{◌≡◌, refl, ap, ◌∙◌}
use mathlib.Core.Bool.{Bool, true, false, cond}
use mathlib.Core.List.{List}
use Prim.Native.Nat.{ℕ, zero, suc, ◌+◌, ◌-◌, ◌*◌, ◌/◌, ◌<◌, ◌≤◌}
use native.Mathlib.Omega.{arith}
use lib.Dec.{leb}
use lib.Ieee.{Float}
use lib.ListN.{length, length-append}
use borrow.Author.Tests.{leb-false, le-leb, lt-leb}
use Rattle.tree_build.specs.Shape.{Shape, leaf, branch, shape_within, shape_of, size_of, nodes_of, words_of}
use Rattle.tree.specs.Layout.{box_numbers}
use Rattle.tree_build.specs.Ranges.{boxes_below, left_range, right_range}

branch_same : (b : Bool) (x l l' r r' : Shape) → (b ≡ false → l ≡ l') → (b ≡ false → r ≡ r') → cond b x (branch l r) ≡ cond b x
    (branch l' r')
branch_same true x l l' r r' p q = refl
branch_same false x l l' r r' p q = rw (p refl, q refl)

-- as many levels as triangles are enough
enough_levels : (k j n : ℕ) → n ≤ k → n ≤ j → shape_within k n ≡ shape_within j n
unfolding shape_within
enough_levels zero zero n h g = refl
enough_levels zero (suc j) zero h g = refl
enough_levels zero (suc j) (suc n) h g = absurd (omega arith)
enough_levels (suc k) zero zero h g = refl
enough_levels (suc k) zero (suc n) h g = absurd (omega arith)
enough_levels (suc k) (suc j) n h g =
    branch_same (leb n 4) (leaf n) (shape_within k (n / 2)) (shape_within j (n / 2)) (shape_within k (n - n / 2))
    (shape_within j (n - n / 2))
    (λ e. enough_levels k j (n / 2) (omega (arith, leb-false n 4 e)) (omega (arith, leb-false n 4 e)))
    (λ e. enough_levels k j (n - n / 2) (omega (arith, leb-false n 4 e)) (omega (arith, leb-false n 4 e)))

pub few_are_a_leaf : (n : ℕ) → n ≤ 4 → shape_of n ≡ leaf n
unfolding shape_of shape_within
few_are_a_leaf zero h = refl
few_are_a_leaf (suc n) h = rw (le-leb (suc n) 4 h)

pub many_are_halved : (n : ℕ) → 4 < n → shape_of n ≡ branch (shape_of (n / 2)) (shape_of (n - n / 2))
unfolding shape_of shape_within
many_are_halved zero h = absurd (omega arith)
many_are_halved (suc n) h =
    rw (
      lt-leb (suc n) 4 h,
      enough_levels n (suc n / 2) (suc n / 2) (omega arith) (omega arith),
      enough_levels n (suc n - suc n / 2)
          (suc n - suc n / 2) (omega arith) (omega arith),
    )

size_either : (b : Bool) (n : ℕ) (l r : Shape) → size_of l + size_of r ≡ n → size_of (cond b (leaf n) (branch l r)) ≡ n
unfolding size_of
size_either true n l r h = refl
size_either false n l r h = h

size_of_shape_within : (k n : ℕ) → size_of (shape_within k n) ≡ n
unfolding shape_within
size_of_shape_within zero n = unfold size_of in refl
size_of_shape_within (suc k) n =
    size_either (leb n 4) n (shape_within k (n / 2)) (shape_within k (n - n / 2))
    (omega (arith, size_of_shape_within k (n / 2), size_of_shape_within k (n - n / 2)))

pub size_of_shape_of : (n : ℕ) → size_of (shape_of n) ≡ n
unfolding shape_of
size_of_shape_of n = size_of_shape_within n n

nodes_either : (b : Bool) (n : ℕ) (l r : Shape) → 0 < n → (b ≡ false → nodes_of l + nodes_of r + 2 ≤ 2 * n) → nodes_of
    (cond b (leaf n) (branch l r)) + 1 ≤ 2 * n
unfolding nodes_of
nodes_either true n l r p h = omega arith
nodes_either false n l r p h = omega (arith, h refl)

nodes_of_shape_within : (k n : ℕ) → 0 < n → nodes_of (shape_within k n) + 1 ≤ 2 * n
unfolding shape_within
nodes_of_shape_within zero n h = unfold nodes_of in omega arith
nodes_of_shape_within (suc k) n h =
    nodes_either (leb n 4) n (shape_within k (n / 2)) (shape_within k (n - n / 2)) h
    (λ e. let u = leb-false n 4 e in omega (
      arith,
      nodes_of_shape_within k (n / 2) (omega arith),
      nodes_of_shape_within k (n - n / 2) (omega
          arith),
    ))

pub nodes_of_shape_of : (n : ℕ) → 0 < n → nodes_of (shape_of n) + 1 ≤ 2 * n
unfolding shape_of
nodes_of_shape_of n h = nodes_of_shape_within n n h

pub three_words_a_node : (node start : ℕ) (s : Shape) → length (words_of node start s) ≡ 3 * nodes_of s
unfolding words_of nodes_of
three_words_a_node node start (leaf n) = refl
three_words_a_node node start (branch l r) =
    let e = length-append (words_of (node + 1) start l) (words_of (node + 1 + nodes_of l) (start + size_of l) r) in
    omega (arith, e, three_words_a_node (node + 1) start l, three_words_a_node (node + 1 + nodes_of l) (start + size_of l) r)

pub six_numbers_a_node : (boxes : List Float) (s : Shape) (ts : List ℕ) → length (boxes_below boxes s ts) ≡ 6 * nodes_of s
unfolding boxes_below nodes_of box_numbers
six_numbers_a_node boxes (leaf n) ts = refl
six_numbers_a_node boxes (branch l r) ts =
    let e = length-append (boxes_below boxes l (left_range boxes l ts)) (boxes_below boxes r (right_range boxes l ts)) in
    omega (arith, e, six_numbers_a_node boxes l (left_range boxes l ts), six_numbers_a_node boxes r (right_range boxes l ts))

pub some_node : (s : Shape) → 0 < nodes_of s
unfolding nodes_of
some_node (leaf n) = omega arith
some_node (branch l r) = omega arith

pub nodes_halved : (n : ℕ) → 4 < n → nodes_of (shape_of n) ≡ 1 + (nodes_of (shape_of (n / 2)) + nodes_of (shape_of (n - n / 2)))
nodes_halved n h = ap nodes_of (many_are_halved n h) ∙ both (shape_of (n / 2)) (shape_of (n - n / 2))
  where
    both : (l r : Shape) → nodes_of (branch l r) ≡ 1 + (nodes_of l + nodes_of r)
    both l r = unfold nodes_of in refl
