-- What is asked of all triangles: as far as the loop has come, and what vertices in range say. Assumes nothing.
use Rattle.std.proofs.Common.{◌≡◌, ℕ, ◌+◌, ◌-◌, ◌<◌, ◌≤◌, Bool, true, false, List, [], ◌∷◌, length, sym, refl, ◌∙◌, arith}
use Rattle.lists.specs.Lists.{range, every}
use Rattle.lists.proofs.JoinedTests.{and_first}
use Rattle.lists.proofs.EveryLaws.{every_done, every_whole, every_fails, every_passes, every_at, every_agree}
use Rattle.tree.specs.Mesh.{Mesh, thirds, triangle_count, corners_inside, corners_of, triangle_fits, triangles_fit}
use Rattle.exact_triangle.specs.Reach.{corners_read}
use Rattle.mesh_exact.specs.Bounds.{AllWithin}
use Rattle.mesh_exact.proofs.Ranges.{corners_within}
use Rattle.mesh_drill.specs.MeshDrill.{mesh_read}

pub every_true : (xs : List ℕ) → every (λ (i : ℕ). true) xs ≡ true
unfolding every
every_true [] = refl
every_true (x ∷ xs) = every_true xs

module _ (m : Mesh) where
  abbrev read_at : ℕ → Bool
  read_at i = corners_read (corners_of m.vertices m.triangles i)

  -- what is left of the triangles gives the whole
  pub record Reading (i : ℕ) : Type 0 where
    pub gives : every read_at (range i (triangle_count m - i)) ≡ mesh_read m

  pub reading_begins : Reading 0
  unfolding mesh_read
  reading_begins = record { gives = every_whole read_at (triangle_count m) }

  module _ (i : ℕ) (p : Reading i) where
    pub reading_goes : i < triangle_count m → read_at i ≡ true → Reading (i + 1)
    reading_goes h e = record { gives = every_passes read_at i (triangle_count m) (mesh_read m) h e p.gives }

    pub reading_fails : i < triangle_count m → read_at i ≡ false → false ≡ mesh_read m
    reading_fails h e = sym (every_fails read_at i (triangle_count m) (mesh_read m) h e p.gives)

    pub reading_ends : triangle_count m ≤ i → true ≡ mesh_read m
    reading_ends h = sym (every_done read_at i (triangle_count m) h) ∙ p.gives

  -- ---- where all triangles have valid boxes
  module _ (fit : triangles_fit m ≡ true) where
    pub fits_at : (i : ℕ) → i < triangle_count m → corners_inside (thirds (length m.vertices)) m.triangles i ≡ true
    unfolding triangles_fit triangle_fits
    fits_at i h = and_first _ _ (every_at (triangle_fits m) 0 (triangle_count m) i fit (omega arith) (omega (arith, h)))

    -- vertices in range
    pub all_within_read : AllWithin m.vertices → true ≡ mesh_read m
    unfolding mesh_read
    all_within_read all =
        sym (every_true (range 0 (triangle_count m)))
        ∙ sym (every_agree read_at (λ (i : ℕ). true) 0 (triangle_count m)
        (λ i low high. corners_within m all i (fits_at i (omega (arith, high)))))

  -- ---- each is read
  pub read_at_lem : mesh_read m ≡ true → (i : ℕ) → i < triangle_count m → read_at i ≡ true
  unfolding mesh_read
  read_at_lem h i l = every_at read_at 0 (triangle_count m) i h (omega arith) (omega (arith, l))
