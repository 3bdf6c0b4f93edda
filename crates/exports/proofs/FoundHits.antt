-- What a listing's call answers says its outcome back, so that the promises hold of it. Assumes nothing.
use Prim.Native.Nat.{ℕ, ◌<◌, ◌≤◌}
use mathlib.Core.Path.{◌≡◌, refl, sym, ap, subst, ◌∙◌}
use mathlib.Core.List.{List}
use native.Mathlib.Omega.{arith}
use borrow.Author.Tests.{le-leb, lt-leb, ne_eqb}
use lib.Ieee.{Float}
use lib.ListN.{length}
use lib.Seq.{get_or-set_same}
use Rattle.tree_query.specs.Query.{Listing, count, refused}
use Rattle.geometry.specs.declared.ray.Ray.{Ray}
use Rattle.tree.specs.Layout.{Tree}
use Rattle.tree.specs.Mesh.{Mesh}
use Rattle.mesh.specs.MeshCast.{shape_admitted}
use Rattle.mesh_hits.specs.HitArea.{HitArea, Outcome}
use Rattle.mesh_hits.specs.Listing.{ray_mesh_all}
use Rattle.results.specs.Results.{Counted, hit_code, done_code, returned_found}
use Rattle.exports.specs.AllHits.{all_returned, listing_returned, found_returned, without_place}

module _ (whole : Outcome) (short : ℕ) (area : HitArea) (place : List ℕ) where
  pub short_returned : (number : ℕ) → length place < 1 → number ≡ short
      → record { returned = record { number = number; count = place }; area = area } ≡ listing_returned whole short area place
  unfolding listing_returned
  short_returned number few e = simp (lt-leb 1 (length place) few, e)

  pub all_returned_lem : 1 ≤ length place → (o : Outcome) → o ≡ whole → (returned : Counted) → returned ≡ returned_found o.answer place
      → record { returned = returned; area = o.area } ≡ listing_returned whole short area place
  unfolding listing_returned
  all_returned_lem there o is returned e =
      ap (λ (c : Counted). record { returned = c; area = o.area }) e
      ∙ ap (λ (z : Outcome). record { returned = returned_found z.answer place; area = z.area }) is
      ∙ simp (le-leb 1 (length place) there)

-- what is read back, of a listing whose refusals have numbers below the codes
module _ (whole : Outcome) (small : (number : ℕ) → whole.answer ≡ refused number → number < hit_code) (place : List ℕ)
    (there : 1 ≤ length place) (o : Outcome) (is : o ≡ whole) (returned : Counted) (e : returned ≡ returned_found o.answer place) where
  -- a count stands at its place, and no refusal has the code of a count
  returned_back : (a : Listing) → o.answer ≡ a → found_returned (returned_found a place).number (returned_found a place).count ≡ a
  unfolding found_returned returned_found
  returned_back (count k) h = ap count (get_or-set_same place 0 k 0 there)
  returned_back (refused number) h =
      let below = small number (sym (ap (λ (z : Outcome). z.answer) is) ∙ h) in
      simp (ne_eqb number done_code (λ same. omega arith))

  -- what holds of the outcome holds of it
  pub returned_promises : (P : Outcome → Type 0) → P o
      → P (record { answer = found_returned returned.number returned.count; area = o.area })
  returned_promises P p =
      subst (λ (a : Listing). P (record { answer = a; area = o.area }))
      (sym (ap (λ (c : Counted). found_returned c.number c.count) e ∙ returned_back o.answer refl)) p

-- the rounded cast's listing by its own definition
pub listed_as : (r : Ray) (m : Mesh) (pose : List Float) (t : Tree) (list stack : ℕ) (area : HitArea) (place : List ℕ)
    → listing_returned (ray_mesh_all r m pose t list stack area) (without_place r (shape_admitted m pose t)) area place
    ≡ all_returned r m pose t list stack area place
unfolding listing_returned all_returned
listed_as r m pose t list stack area place = refl
