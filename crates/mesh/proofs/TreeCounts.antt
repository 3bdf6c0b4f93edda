-- In a checked tree no node is named twice and no triangle stands in two places, told by counts over all nodes; each node but the first has
-- a parent below it, and each triangle a leaf. Assumes nothing.
use Prim.Native.Nat.{ℕ, zero, suc, ◌≤◌, ◌<◌}
use mathlib.Core.Path.{◌≡◌, refl, ap, subst}
use mathlib.Core.Logic.{◌⊎◌, inl, inr}
use mathlib.Core.Bool.{Bool, true, false}
use mathlib.Core.List.{List, [], ◌∷◌}
use native.Mathlib.Omega.{arith}
use lib.Dec.{ltb}
use lib.ListN.{take, length-take}
use borrow.Author.Tests.{ltb-true, ltb-false}
use Rattle.lists.specs.Lists.{range, count, flat_map}
use Rattle.tree.specs.Layout.{Tree, word_at, first_at, second_at}
use Rattle.tree.specs.Mesh.{Mesh}
use Rattle.lists.proofs.CountLaws.{one_same, one_other, same_or_other, count_cons, count_nil, length_range, count_range_inside}
use Rattle.lists.proofs.CountLaws.{range_bounds}
use Rattle.lists.proofs.CountLaws.{From, gathered_from, gathers, flat_map_flat_map, flat_map_words}
use Rattle.lists.proofs.WithinLaws.{Within, within_through, within_length, within_flat_map, within_of_full}
use Rattle.tree_check.specs.Check.{triangle_count, nodes, is_leaf, children_of, places_of}
use Rattle.mesh.proofs.CheckedTree.{Checked, leaf_places, no_places}

-- the triangle at a place of the order, and the triangles of a leaf
abbrev pub placed_at : Tree → ℕ → List ℕ
placed_at t place = word_at t.order place ∷ []

abbrev pub triangles_of : Mesh → Tree → ℕ → List ℕ
triangles_of m t node = flat_map (placed_at t) (places_of m t node)

pub count_zero : (n : ℕ) → (0 < n → ⊥) → n ≡ 0
count_zero zero h = refl
count_zero (suc n) h = absurd (h (omega arith))

count_range : (x size : ℕ) → x < size → count x (range 0 size) ≡ 1
count_range x size h = count_range_inside x 0 size (omega arith) (omega arith)

pub below_or_not : (x n : ℕ) → (x < n) ⊎ (n ≤ x)
below_or_not x n = go (ltb x n) refl
  where
    go : (b : Bool) → ltb x n ≡ b → (x < n) ⊎ (n ≤ x)
    go true e = inl (ltb-true x n e)
    go false e = inr (ltb-false x n e)

module _ (m : Mesh) (t : Tree) (c : Checked m t) where
  -- ---- nodes
  pub child_bounds : (i : ℕ) → 0 < count i (flat_map (children_of m t) (nodes m t)) → (0 < i) × (i < t.node_count)
  child_bounds i h =
      let f = gathered_from (children_of m t) (nodes m t) i h in
      let below = range_bounds f.source 0 t.node_count f.listed in
      let fits = c.above f.source i (omega arith) f.given in
      (omega arith, fits.1)

  -- the first node and all children: each node once at most
  pub named_within : 0 < t.node_count → Within (0 ∷ flat_map (children_of m t) (nodes m t)) (nodes m t)
  named_within some = record { at_most = λ (i : ℕ). at i (same_or_other i 0) (below_or_not i t.node_count) }
    where
      at : (i : ℕ) → (i ≡ 0) ⊎ (i ≡ 0 → ⊥) → (i < t.node_count) ⊎ (t.node_count ≤ i) → count i (0 ∷ flat_map (children_of m t) (nodes m t))
          ≤
          count i (nodes m t)
      at i (inl e) b =
          let none : count i (flat_map (children_of m t) (nodes m t)) ≡ 0 = count_zero (count i (flat_map (children_of m t) (nodes m t)))
          (λ h. omega (arith, child_bounds i h)) in
          omega (arith, count_cons i 0 (flat_map (children_of m t) (nodes m t)), one_same i 0 e, count_range i t.node_count (omega arith))
      at i (inr n) (inl b) =
          let pos : 0 < i = omega (arith, n) in
          omega (
            arith,
            count_cons i 0 (flat_map (children_of m t) (nodes m t)),
            one_other i 0 n,
            c.named i pos b,
            count_range i
                t.node_count b,
          )
      at i (inr n) (inr b) =
          let none : count i (flat_map (children_of m t) (nodes m t)) ≡ 0 = count_zero (count i (flat_map (children_of m t) (nodes m t)))
          (λ h. omega (arith, child_bounds i h)) in
          omega (arith, count_cons i 0 (flat_map (children_of m t) (nodes m t)), one_other i 0 n)

  -- a node's parent
  pub record Parent (i : ℕ) : Type 0 where
    pub node : ℕ
    pub lower : node < i
    pub child : 0 < count i (children_of m t node)

  pub parent_of : (i : ℕ) → 0 < i → i < t.node_count → Parent i
  parent_of i p q =
      let f = gathered_from (children_of m t) (nodes m t) i (omega (arith, c.named i p q)) in
      let below = range_bounds f.source 0 t.node_count f.listed in
      let fits = c.above f.source i (omega arith) f.given in
      record { node = f.source; lower = fits.0; child = f.given }

  -- ---- triangles
  pub place_bound : (p : ℕ) → 0 < count p (flat_map (places_of m t) (nodes m t)) → p < triangle_count m t
  place_bound p h = go (is_leaf m t f.source) refl
    where
      f : From (places_of m t) (nodes m t) p
      f = gathered_from (places_of m t) (nodes m t) p h

      below : f.source < t.node_count
      below = omega (arith, range_bounds f.source 0 t.node_count f.listed)

      go : (b : Bool) → is_leaf m t f.source ≡ b → p < triangle_count m t
      go true e =
          let place : 0 < count p (range (first_at t.node_words f.source) (second_at t.node_words f.source)) =
          subst (λ (l : List ℕ). 0 < count p l) (leaf_places m t f.source e) f.given in
          omega (
            arith,
            range_bounds p (first_at t.node_words f.source) (second_at t.node_words f.source) place,
            c.inside
                f.source below e,
          )
      go false e = absurd (omega (arith, f.given, ap (count p) (no_places m t f.source e), count_nil p))

  places_within : Within (flat_map (places_of m t) (nodes m t)) (range 0 (triangle_count m t))
  places_within = record { at_most = λ (p : ℕ). at p (below_or_not p (triangle_count m t)) }
    where
      at : (p : ℕ) → (p < triangle_count m t) ⊎ (triangle_count m t ≤ p) → count p (flat_map (places_of m t) (nodes m t)) ≤ count p
          (range 0 (triangle_count m t))
      at p (inl b) = omega (arith, c.placed p b, count_range p (triangle_count m t) b)
      at p (inr b) =
          let none : count p (flat_map (places_of m t) (nodes m t)) ≡ 0 = count_zero (count p (flat_map (places_of m t) (nodes m t)))
          (λ h. omega (arith, place_bound p h)) in
          omega arith

  -- the order's first n words
  order_full : Within (range 0 (triangle_count m t)) (take (triangle_count m t) t.order)
  order_full = record { at_most = λ (x : ℕ). at x (below_or_not x (triangle_count m t)) }
    where
      at : (x : ℕ) → (x < triangle_count m t) ⊎ (triangle_count m t ≤ x) → count x (range 0 (triangle_count m t)) ≤ count x
          (take (triangle_count m t) t.order)
      at x (inl b) = omega (arith, c.ordered x b, count_range x (triangle_count m t) b)
      at x (inr b) =
          let none : count x (range 0 (triangle_count m t)) ≡ 0 =
          count_zero (count x (range 0 (triangle_count m t))) (λ h. omega (arith, range_bounds x 0 (triangle_count m t) h)) in
          omega arith

  pub words_are_order : flat_map (placed_at t) (range 0 (triangle_count m t)) ≡ take (triangle_count m t) t.order
  words_are_order =
      let long = within_length (range 0 (triangle_count m t)) (take (triangle_count m t) t.order) order_full in
      flat_map_words t.order 0 (triangle_count m t)
      (omega (arith, length_range 0 (triangle_count m t), length-take (triangle_count m t) t.order))

  pub order_within : Within (flat_map (placed_at t) (range 0 (triangle_count m t))) (range 0 (triangle_count m t))
  order_within =
      rw words_are_order
      (within_of_full (range 0 (triangle_count m t)) (take (triangle_count m t) t.order) order_full
      (omega (arith, length_range 0 (triangle_count m t), length-take (triangle_count m t) t.order)))

  -- the triangles of all nodes: each once at most
  pub triangles_within : Within (flat_map (triangles_of m t) (nodes m t)) (range 0 (triangle_count m t))
  triangles_within =
      within_through (flat_map (triangles_of m t) (nodes m t)) (flat_map (placed_at t) (range 0 (triangle_count m t)))
      (range 0 (triangle_count m t))
      (subst (λ (l : List ℕ). Within l (flat_map (placed_at t) (range 0 (triangle_count m t))))
      (flat_map_flat_map (placed_at t) (places_of m t) (nodes m t))
      (within_flat_map (placed_at t) (flat_map (places_of m t) (nodes m t)) (range 0 (triangle_count m t)) places_within))
      order_within

  -- a triangle's leaf and its place there
  pub record Home (x : ℕ) : Type 0 where
    pub node : ℕ
    pub below : node < t.node_count
    pub place : ℕ
    pub placed : 0 < count place (places_of m t node)
    pub holds : x ≡ word_at t.order place

  pub home_of : (x : ℕ) → x < triangle_count m t → Home x
  home_of x b = record {
    node = g.source;
    below = omega (arith, range_bounds g.source 0 t.node_count g.listed);
    place = f.source;
    placed = g.given;
    holds = holds;
  }
    where
      f : From (placed_at t) (range 0 (triangle_count m t)) x
      f = gathered_from (placed_at t) (range 0 (triangle_count m t)) x (omega (arith, ap (count x) words_are_order, c.ordered x b))

      inside : f.source < triangle_count m t
      inside = omega (arith, range_bounds f.source 0 (triangle_count m t) f.listed)

      g : From (places_of m t) (nodes m t) f.source
      g = gathered_from (places_of m t) (nodes m t) f.source (omega (arith, c.placed f.source inside))

      holds : x ≡ word_at t.order f.source
      holds = go (same_or_other x (word_at t.order f.source))
        where
          go : (x ≡ word_at t.order f.source) ⊎ (x ≡ word_at t.order f.source → ⊥) → x ≡ word_at t.order f.source
          go (inl e) = e
          go (inr n) =
              absurd (omega (
                arith,
                f.given,
                count_cons x (word_at t.order f.source) [],
                one_other x (word_at t.order f.source)
                    n,
                count_nil x,
              ))

  pub home_holds : (x : ℕ) → (h : Home x) → 0 < count x (triangles_of m t h.node)
  home_holds x h =
      gathers (placed_at t) (places_of m t h.node) h.place x h.placed
      (omega (arith, count_cons x (word_at t.order h.place) [], one_same x (word_at t.order h.place) h.holds))
