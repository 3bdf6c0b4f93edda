-- The drill's answer is certain of the whole mesh, and only triangles whose box touches the drill's have to be asked. Assumes nothing.
use Rattle.std.proofs.Common.{◌≡◌, ℕ, ◌<◌, ◌≤◌, Bool, true, false, not, ◌&&◌, ◌⊎◌, List, [], ◌∷◌, ℤ, pos, negsuc, nat_abs, sym, refl, ap}
use Rattle.std.proofs.Common.{◌∙◌, inl, inr, true≢false, arith}
use mathlib.Core.Bool.{false≢true}
use mathlib.Core.List.{Memᴰ}
use lib.Signed.{le_z}
use lib.Ieee.{lt, of_bits}
use borrow.Author.Tests.{not-true}
use Rattle.lists.specs.Lists.{range, every}
use Rattle.lists.proofs.JoinedTests.{and_first, and_second}
use Rattle.lists.proofs.CountLaws.{member_of_count, count_of_member, count_range_inside, range_bounds, every_at}
use Rattle.lists.proofs.SortLaws.{range_ascends}
use Rattle.arithmetic.specs.Basic.{is_finite}
use Rattle.arithmetic.proofs.Order.{le_of_not_lt}
use Rattle.arithmetic.proofs.Numbers.{finite_number}
use Rattle.vectors.specs.Vector.{finite_vec}
use Rattle.vectors.specs.Numbers.{zeroᶠ}
use Rattle.geometry.specs.Box.{corner, corners_box, touches}
use Rattle.geometry.specs.Segment.{unit_length, range_admitted, ray_admitted}
use Rattle.geometry.specs.declared.ray.Ray.{Ray}
use Rattle.tree.specs.Mesh.{Mesh, triangle_count, triangle_box, corners_of, candidates}
use Rattle.wide_integers.proofs.Polynomials.{own_pos}
use Rattle.wide_integers.proofs.Order.{rep_le}
use Rattle.exact_triangle.specs.Line.{Line, Moves}
use Rattle.exact_triangle.specs.Grid.{units, nearest_to, grid_admitted, grid_line}
use Rattle.exact_triangle.specs.Reach.{corners_read}
use Rattle.exact_triangle.proofs.Moving.{ray_moves}
use Rattle.exact_triangle.proofs.Touching.{Sizes, line_sizes}
use Rattle.exact_triangle.proofs.Laws.{first_read, second_read, third_read}
use Rattle.mesh_exact.specs.Certain.{corner_on, InRange, OutOfRange}
use Rattle.mesh_exact.proofs.Ranges.{vector_finite}
use Rattle.mesh_exact.proofs.Refusals.{corner_in_lem, corner_out}
use Rattle.tree_exact.proofs.Reading.{read_mono}
use Rattle.drill.specs.Box.{drill_box}
use Rattle.mesh_drill.specs.MeshDrill.{touched_at, drill_all, drill_boxed, mesh_read, widest, TouchedTriangle, CertainDrill}
use Rattle.drill.proofs.Deciding.{clear_certain, touched_certain}
use Rattle.drill.proofs.BoxTouching.{drill_touches}
use Rattle.mesh_drill.proofs.FirstOf.{first_clear, first_touches, first_lowest, first_kept}

either_way : (b : Bool) → (b ≡ true) ⊎ (b ≡ false)
either_way true = inl refl
either_way false = inr refl

-- ---- the whole mesh
module _ (l : Line) (ρ : ℕ) (m : Mesh) (moves : Moves l.direction) (ends : l.near ≤ l.far) where
  abbrev listed : List ℕ
  listed = range 0 (triangle_count m)

  listed_of : (i : ℕ) → i < triangle_count m → Memᴰ i (range 0 (triangle_count m))
  listed_of i h =
      let c = count_range_inside i 0 (triangle_count m) (omega arith) (omega (arith, h)) in
      member_of_count i (range 0 (triangle_count m)) (omega (arith, c))

  point_touched : (i : ℕ) → TouchedTriangle l ρ m i → touched_at l ρ m i ≡ true
  point_touched i b = elim (either_way (touched_at l ρ m i)) [
    | inl e ↦ e
    | inr e ↦ absurd (clear_certain l ρ (corner_on m i 0) (corner_on m i 1) (corner_on m i 2) moves ends e b.point)
  ]

  inner : (i : ℕ) → Memᴰ i (range 0 (triangle_count m)) → i < triangle_count m
  inner i k = omega (arith, range_bounds i 0 (triangle_count m) (count_of_member i (range 0 (triangle_count m)) k))

  pub mesh_certain : CertainDrill l ρ m (drill_all l ρ m)
  unfolding drill_all
  mesh_certain = record {
    clear = λ e i b.
        true≢false (sym (point_touched i b) ∙ first_clear (touched_at l ρ m) listed e i (listed_of i b.triangle));
    touches = λ i e.
        let t = first_touches (touched_at l ρ m) listed i e in
        record {
          triangle = inner i t.0;
          point = touched_certain l ρ (corner_on m i 0) (corner_on m i 1) (corner_on m i 2) ends t.1;
        };
    lowest = λ i j e b.
        first_lowest (touched_at l ρ m) listed (range_ascends 0 (triangle_count m)) i j e (listed_of j b.triangle) (point_touched j b);
  }

  -- ---- only those whose box touches
  module _ (sizes : Sizes l) (small : ρ ≤ widest)
      (read : (i : ℕ) → Memᴰ i (range 0 (triangle_count m)) → corners_read (corners_of m.vertices m.triangles i) ≡ true) where
    box_touches : (i : ℕ) → Memᴰ i (range 0 (triangle_count m)) → touched_at l ρ m i ≡ true
        → touches (triangle_box m.vertices m.triangles i) (drill_box l ρ) ≡ true
    unfolding triangle_box corners_of corners_box
    box_touches i k e =
        let vs = corners_of m.vertices m.triangles i in
        drill_touches l sizes moves ρ small vs (vector_finite (corner vs 0) (first_read vs (read i k)))
        (vector_finite (corner vs 1) (second_read vs (read i k))) (vector_finite (corner vs 2) (third_read vs (read i k)))
        (touched_certain l ρ (corner_on m i 0) (corner_on m i 1) (corner_on m i 2) ends e)

    pub boxed_same : drill_boxed l ρ m ≡ drill_all l ρ m
    unfolding drill_boxed drill_all candidates
    boxed_same =
        first_kept (touched_at l ρ m) (λ (i : ℕ). touches (triangle_box m.vertices m.triangles i) (drill_box l ρ)) listed box_touches

-- ---- a ray
zero_read : nearest_to units zeroᶠ ≡ pos 0
unfolding nearest_to of_bits
zero_read = refl

zero_finite : is_finite zeroᶠ ≡ true
unfolding is_finite of_bits
zero_finite = refl

sizes_ordered : (x y : ℤ) → le_z (pos 0) x ≡ true → le_z x y ≡ true → nat_abs x ≤ nat_abs y
sizes_ordered (pos a) (pos b) p q = let v = rep_le (own_pos a) (own_pos b) q in omega (arith, v)
sizes_ordered (pos a) (negsuc b) p q = absurd (false≢true q)
sizes_ordered (negsuc a) y p q = absurd (false≢true p)

-- near is not past far, on the grid too
pub ray_ends : (r : Ray) → ray_admitted r ≡ true → (grid_line r).near ≤ (grid_line r).far
unfolding ray_admitted grid_line
ray_ends r h =
    let far = r.max_distance in
    let h₁ = and_second (finite_vec r.origin) _ h in
    let h₂ = and_second (finite_vec r.direction) _ h₁ in
    let h₃ : range_admitted r ≡ true = and_second (unit_length r.direction) _ h₂ in
    let ff = and_first (is_finite far) _ h₃ in
    let h₄ = and_second (is_finite far) _ h₃ in
    let h₅ = and_second (not (lt far zeroᶠ)) _ h₄ in
    let fn = and_first (is_finite r.near) _ h₅ in
    let h₆ = and_second (is_finite r.near) _ h₅ in
    let n0 = not-true (lt r.near zeroᶠ) (and_first (not (lt r.near zeroᶠ)) _ h₆) in
    let nf = not-true (lt far r.near) (and_second (not (lt r.near zeroᶠ)) _ h₆) in
    let f0 : is_finite zeroᶠ ≡ true = zero_finite in
    let a = read_mono units zeroᶠ r.near f0 fn (le_of_not_lt zeroᶠ r.near (finite_number zeroᶠ f0) (finite_number r.near fn) n0) in
    let b = read_mono units r.near far fn ff (le_of_not_lt r.near far (finite_number r.near fn) (finite_number far ff) nf) in
    sizes_ordered (nearest_to units r.near) (nearest_to units far)
    (ap (λ (z : ℤ). le_z z (nearest_to units r.near)) (sym zero_read) ∙ a) b

-- one that fails
one_fails : (p : ℕ → Bool) (xs : List ℕ) → every p xs ≡ false → (i : ℕ) × (Memᴰ i xs × (p i ≡ false))
unfolding every
one_fails p [] h = absurd (true≢false h)
one_fails p (x ∷ xs) h = go (p x) refl h (one_fails p xs)
  where
    go : (b : Bool) → p x ≡ b → (b && every p xs) ≡ false → (every p xs ≡ false → (i : ℕ) × (Memᴰ i xs × (p i ≡ false)))
        → (i : ℕ) × (Memᴰ i (x ∷ xs) × (p i ≡ false))
    go false e k rest = (x, (Memᴰ.head refl, e))
    go true e k rest = let r = rest k in (r.0, (Memᴰ.tail r.1.0, r.1.1))

read_each : (m : Mesh) → mesh_read m ≡ true → (i : ℕ) → Memᴰ i (range 0 (triangle_count m))
    → corners_read (corners_of m.vertices m.triangles i) ≡ true
unfolding mesh_read
read_each m h i k = every_at (λ (j : ℕ). corners_read (corners_of m.vertices m.triangles j)) (range 0 (triangle_count m)) h i k

module _ (r : Ray) (m : Mesh) where
  pub in_range_lem : grid_admitted r ≡ true → mesh_read m ≡ true → InRange r m
  in_range_lem g h = record {
    ray = g;
    corners = λ i k inner small. corner_in_lem m i (read_each m h i (member i inner)) k small;
  }
    where
      member : (i : ℕ) → i < triangle_count m → Memᴰ i (range 0 (triangle_count m))
      member i h =
          let c = count_range_inside i 0 (triangle_count m) (omega arith) (omega (arith, h)) in
          member_of_count i (range 0 (triangle_count m)) (omega (arith, c))

  -- a corner out of range
  pub unread : mesh_read m ≡ false → OutOfRange r m
  unfolding mesh_read
  unread h =
      let k = one_fails (λ (i : ℕ). corners_read (corners_of m.vertices m.triangles i)) (range 0 (triangle_count m)) h in
      let member = k.1.0 in
      corner_out m k.0 r
      (omega (arith, range_bounds k.0 0 (triangle_count m) (count_of_member k.0 (range 0 (triangle_count m)) member))) k.1.1

  -- the drill's box tells which triangles have to be asked
  pub ray_drill_boxed : (ρ : ℕ) → ray_admitted r ≡ true → grid_admitted r ≡ true → mesh_read m ≡ true → ρ ≤ widest
      → drill_boxed (grid_line r) ρ m ≡ drill_all (grid_line r) ρ m
  ray_drill_boxed ρ a g h small =
      boxed_same (grid_line r) ρ m (ray_moves r a) (ray_ends r a) (line_sizes r g) small (read_each m h)
