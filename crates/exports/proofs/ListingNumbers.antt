-- Every refusal of the listing of exact hits has a number below the codes. Assumes nothing.
use Prim.Native.Nat.{ℕ}
use mathlib.Core.Path.{refl}
use mathlib.Core.List.{List}
use lib.Dec.{leb}
use lib.Ieee.{Float}
use lib.ListN.{length}
use Rattle.geometry.specs.declared.ray.Ray.{Ray}
use Rattle.casts.specs.Answer.{Answer, no_room, out_of_bounds}
use Rattle.nearest_hit.specs.Nearest.{Indexed, hit_at, no_hit, stopped, nearest_of}
use Rattle.tree.specs.Layout.{Tree}
use Rattle.tree.specs.Mesh.{Mesh, thirds}
use Rattle.tree_walk.specs.Walk.{Walking, walking, broken}
use Rattle.mesh_hits.specs.HitArea.{HitArea, Outcome, hits_of, in_order, places_in, refused_at}
use Rattle.mesh_hits.specs.HitListing.{written, fitted, after_refusals, listing_of}
use Rattle.mesh_hits.specs.Listing.{over_walk, unchanged}
use Rattle.exact_triangle.specs.Grid.{grid_line}
use Rattle.mesh_exact.specs.GridCast.{exact_answer}
use Rattle.exact_hits.specs.LineWalk.{line_walk}
use Rattle.exact_hits.specs.ExactListing.{exact_listing, listing_tests, ray_mesh_exact_all}
use Rattle.exports.proofs.RefusalNumbers.{Small, is_small, leaf, chosen, small_tests, tested, answer_number, indexed_number}
use Rattle.exports.proofs.RefusalNumbers.{nearest_small}
use Rattle.exports.proofs.ExactNumbers.{exact_small}
use Rattle.exports.proofs.TreeNumbers.{query_number}

abbrev outcome_number : Outcome → ℕ
outcome_number o = query_number o.answer

module _ (answer : ℕ → Answer) (each : (i : ℕ) → Small answer_number (answer i)) (area : HitArea) where
  fitted_small : (hits : List ℕ) → Small outcome_number (fitted answer area hits)
  unfolding fitted written query_number
  fitted_small hits =
      chosen (leb (length hits) (places_in area)) (leaf outcome_number (written answer area hits) refl)
      (leaf outcome_number (refused_at no_room area) refl)

  after_small : (z : Indexed) → Small indexed_number z → (rest : Outcome) → Small outcome_number rest
      → Small outcome_number (after_refusals z area rest)
  unfolding after_refusals query_number indexed_number
  after_small (stopped k) p rest q = is_small p.below
  after_small no_hit p rest q = q
  after_small (hit_at n d i) p rest q = q

  over_small : (w : Walking) → Small outcome_number (over_walk answer area w)
  unfolding over_walk listing_of query_number
  over_small broken = leaf outcome_number (refused_at out_of_bounds area) refl
  over_small (walking s l) =
      after_small (nearest_of answer l) (nearest_small answer each l) _ (fitted_small (in_order answer (hits_of answer l)))

pub exact_all_small : (r : Ray) (m : Mesh) (pose : List Float) (t : Tree) (list stack : ℕ) (area : HitArea)
    → Small outcome_number (ray_mesh_exact_all r m pose t list stack area)
unfolding ray_mesh_exact_all exact_listing small_tests query_number
exact_all_small r m pose t list stack area =
    tested outcome_number (λ (k : ℕ). unchanged k area) (λ k h. leaf outcome_number (unchanged k area) h)
    (listing_tests r m pose t list stack) _ refl
    (over_small (exact_answer r pose m.triangles) (exact_small r pose m.triangles) area
    (line_walk (grid_line r) t (thirds (length m.triangles))))
