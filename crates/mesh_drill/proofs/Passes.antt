-- The pass over the triangles: what is left of them gives the whole, and the first that is touched decides. Assumes nothing.
use Rattle.std.proofs.Common.{◌≡◌, ℕ, ◌+◌, ◌-◌, ◌<◌, ◌≤◌, Bool, true, false, cond, ◌&&◌, List, [], ◌∷◌, sym, refl, ap, ◌∙◌, arith}
use Rattle.lists.specs.Lists.{range, keep}
use Rattle.lists.proofs.EveryLaws.{range_next, range_done}
use Rattle.geometry.specs.Box.{corners_box, touches, corner}
use Rattle.vectors.specs.declared.vec3.Vec3.{Vec3}
use Rattle.geometry.specs.declared.aabb.Aabb.{Aabb}
use Rattle.tree.specs.Mesh.{Mesh, triangle_count, corners_of, candidates}
use Rattle.tree.proofs.Corners.{corners_box_lem}
use Rattle.exact_depth.specs.declared.projection.Point.{Point}
use Rattle.exact_triangle.specs.Line.{Line}
use Rattle.exact_triangle.specs.Grid.{grid_point}
use Rattle.drill.specs.Decision.{touched}
use Rattle.drill.specs.Box.{drill_box}
use Rattle.mesh_drill.specs.MeshDrill.{DrillAnswer, Clear, Touches, touched_at, first_of, drill_boxed}
use Rattle.drill.specs.Drill.{Decides}
use Rattle.drill.proofs.Deciding.{touched_decides}
use Rattle.mesh_drill.specs.Code.{Runs}
use Rattle.mesh_drill.specs.Drilling.{reached_at}

-- ---- the code's corners on the grid
pub corners_touched : (l : Line) (ρ : ℕ) (m : Mesh) (i : ℕ) (vs : List Vec3) → vs ≡ corners_of m.vertices m.triangles i
    → (a b c : Point) → a ≡ grid_point (corner vs 0) → b ≡ grid_point (corner vs 1) → c ≡ grid_point (corner vs 2)
    → touched l ρ a b c ≡ touched_at l ρ m i
unfolding corners_of
corners_touched l ρ m i vs e a b c p q r =
    (λ s. touched l ρ (p s) (q s) (r s))
    ∙ ap (λ (us : List Vec3). touched l ρ (grid_point (corner us 0)) (grid_point (corner us 1)) (grid_point (corner us 2))) e

-- ---- two answers that tell the same are equal
same_is : (l : Line) (ρ : ℕ) (a b c : Point) (p q : Bool) → Decides l ρ a b c p → Decides l ρ a b c q → p ≡ q
same_is l ρ a b c true true h g = refl
same_is l ρ a b c true false h g = absurd (g.clear refl (h.touched refl))
same_is l ρ a b c false true h g = absurd (h.clear refl (g.touched refl))
same_is l ρ a b c false false h g = refl

pub same_decision : (l : Line) (ρ : ℕ) (a b c : Point) → Runs l → (p : Bool) → Decides l ρ a b c p → p ≡ touched l ρ a b c
same_decision l ρ a b c g p h = same_is l ρ a b c p (touched l ρ a b c) h (touched_decides l ρ a b c g.moves g.ends)

-- ---- asked only where the boxes touch
module _ (l : Line) (ρ : ℕ) (m : Mesh) (i : ℕ) (box : Aabb) (e : box ≡ drill_box l ρ) where
  abbrev near : Aabb → Bool
  near b = touches (corners_box (corners_of m.vertices m.triangles i)) b

  pub far_off : near box ≡ false → false ≡ reached_at l ρ m i
  unfolding reached_at
  far_off h = sym (ap (λ (b : Bool). b && touched_at l ρ m i) (sym (ap near e) ∙ h))

  pub near_decides : near box ≡ true → (t : Bool) → t ≡ touched_at l ρ m i → t ≡ reached_at l ρ m i
  unfolding reached_at
  near_decides h t g = g ∙ sym (ap (λ (b : Bool). b && touched_at l ρ m i) (sym (ap near e) ∙ h))

-- ---- the first of those that pass one test and then another
pub first_of_both : (q p : ℕ → Bool) (xs : List ℕ) → first_of (λ (i : ℕ). q i && p i) xs ≡ first_of p (keep q xs)
unfolding first_of keep
first_of_both q p [] = refl
first_of_both q p (x ∷ xs) = go (q x) (first_of_both q p xs)
  where
    go : (b : Bool) → first_of (λ (i : ℕ). q i && p i) xs ≡ first_of p (keep q xs)
        → cond (b && p x) (Touches x) (first_of (λ (i : ℕ). q i && p i) xs) ≡ first_of p (cond b (x ∷ keep q xs) (keep q xs))
    go true rest = ap (λ (d : DrillAnswer). cond (p x) (Touches x) d) rest
    go false rest = rest

-- ---- the loop
module _ (l : Line) (ρ : ℕ) (m : Mesh) where
  abbrev whole : DrillAnswer
  whole = drill_boxed l ρ m

  first_reached : first_of (reached_at l ρ m) (range 0 (triangle_count m)) ≡ drill_boxed l ρ m
  unfolding reached_at drill_boxed candidates
  first_reached =
      first_of_both (λ (i : ℕ). touches (corners_box (corners_of m.vertices m.triangles i)) (drill_box l ρ)) (touched_at l ρ m)
      (range 0 (triangle_count m))
      ∙ ap (λ (q : ℕ → Aabb). first_of (touched_at l ρ m) (keep (λ (i : ℕ). touches (q i) (drill_box l ρ)) (range 0 (triangle_count m))))
      (λ s i. corners_box_lem m.vertices m.triangles i s)

  pub record Passing (i : ℕ) : Type 0 where
    pub gives : first_of (reached_at l ρ m) (range i (triangle_count m - i)) ≡ drill_boxed l ρ m

  pub passing_begins : Passing 0
  passing_begins =
      let all : triangle_count m - 0 ≡ triangle_count m = omega arith in
      record { gives = ap (λ (k : ℕ). first_of (reached_at l ρ m) (range 0 k)) all ∙ first_reached }

  module _ (i : ℕ) (p : Passing i) where
    module _ (h : i < triangle_count m) where
      next : cond (reached_at l ρ m i) (Touches i) (first_of (reached_at l ρ m) (range (i + 1) (triangle_count m - (i + 1))))
          ≡ drill_boxed l ρ m
      unfolding first_of
      next = sym (ap (first_of (reached_at l ρ m)) (range_next i (triangle_count m) h)) ∙ p.gives

      pub passing_touched : reached_at l ρ m i ≡ true → Touches i ≡ drill_boxed l ρ m
      passing_touched e =
          sym (ap (λ (b : Bool). cond b (Touches i) (first_of (reached_at l ρ m) (range (i + 1) (triangle_count m - (i + 1))))) e) ∙ next

      pub passing_goes : reached_at l ρ m i ≡ false → Passing (i + 1)
      passing_goes e = record {
        gives =
            sym (ap (λ (b : Bool). cond b (Touches i) (first_of (reached_at l ρ m) (range (i + 1) (triangle_count m - (i + 1))))) e) ∙ next;
      }

    pub passing_ends : triangle_count m ≤ i → Clear ≡ drill_boxed l ρ m
    unfolding first_of
    passing_ends h = sym (ap (first_of (reached_at l ρ m)) (range_done i (triangle_count m) h)) ∙ p.gives
