-- Through a tree that passes the check the listing is that of all triangles of the mesh. Assumes nothing.
use Prim.Native.Nat.{ℕ, ◌<◌}
use mathlib.Core.Path.{◌≡◌, refl, ap, ◌∙◌}
use mathlib.Core.Logic.{◌⊎◌, inl, inr}
use mathlib.Core.Bool.{Bool, true, false}
use mathlib.Core.List.{List, [], ◌∷◌, Memᴰ}
use native.Mathlib.Omega.{arith}
use lib.Dec.{eqb}
use borrow.Author.Tests.{eqb-true, eqb-false}
use Rattle.lists.specs.Lists.{range, sort_by, sorted}
use Rattle.lists.proofs.CountLaws.{count_of_member, range_bounds}
use Rattle.geometry.specs.Segment.{ray_admitted}
use Rattle.geometry.specs.declared.aabb.Aabb.{Aabb}
use Rattle.geometry.specs.declared.ray.Ray.{Ray}
use Rattle.casts.specs.Answer.{Answer, none}
use Rattle.tree.specs.Layout.{Tree, box_at}
use Rattle.tree.specs.Mesh.{Mesh, triangle_count}
use Rattle.tree_check.specs.Check.{tree_passes}
use Rattle.tree_walk.specs.Walk.{walking, times, start, ended}
use Rattle.mesh.proofs.CheckedTree.{Checked, checked_or_empty}
use Rattle.mesh.proofs.TreeCounts.{count_zero, home_of}
use Rattle.mesh_hits.specs.HitArea.{HitArea}
use Rattle.mesh_hits.specs.HitListing.{listing_of}
use Rattle.mesh_hits.specs.Listing.{over_walk}
use Rattle.exact_triangle.specs.Line.{Line}
use Rattle.exact_triangle.specs.Grid.{grid_admitted, grid_line}
use Rattle.mesh_exact.specs.GridCast.{exact_answer}
use Rattle.tree_exact.specs.Numbers.{NoNaN}
use Rattle.exact_hits.specs.LineWalk.{opened_walk, node_opens, walk_box, line_walk}
use Rattle.exact_hits.specs.ExactListing.{exact_listing}
use Rattle.exact_hits.proofs.LineSafety.{triangle_missed, apart_node_missed, node_missed}
use Rattle.exact_hits.proofs.OpenedState.{End, ends, each_once, all_settled}
use Rattle.exact_hits.proofs.KeptLists.{is_listed, sorted_is_kept, missed_or_listed, listing_kept}

module _ (r : Ray) (m : Mesh) (t : Tree) (admitted : ray_admitted r ≡ true) (read : grid_admitted r ≡ true) (numbered : NoNaN m)
    (area : HitArea) where
  abbrev l : Line
  l = grid_line r

  abbrev n : ℕ
  n = triangle_count m

  abbrev answer : ℕ → Answer
  answer = exact_answer r m.vertices m.triangles

  abbrev box : Aabb
  box = walk_box l (box_at t.node_boxes 0)

  abbrev Missed : ℕ → Type 0
  Missed x = answer x ≡ none

  abbrev Whole : Type 0
  Whole = over_walk answer area (line_walk l t n) ≡ listing_of answer area (range 0 n)

  -- ---- a tree with nodes
  module _ (c : Checked m t) (some : 0 < t.node_count) where
    end : End m t Missed box (node_opens l box t) c some (node_missed r m t c admitted read numbered)
        (apart_node_missed r m t c admitted read numbered) (triangle_missed r m t c admitted read numbered) t.node_count (0 ∷ []) []
    end =
        ends m t Missed box (node_opens l box t) c some (node_missed r m t c admitted read numbered)
        (apart_node_missed r m t c admitted read numbered) (triangle_missed r m t c admitted read numbered)

    abbrev listed : List ℕ
    listed = end.list'

    walk_is : eqb t.node_count 0 ≡ false → line_walk l t n ≡ walking [] (sorted listed)
    unfolding line_walk opened_walk start ended
    walk_is e = simp (e, end.goes)

    all_listed : listing_of answer area (sorted listed) ≡ listing_of answer area (range 0 n)
    all_listed =
        let w = each_once m t Missed box (node_opens l box t) c some (node_missed r m t c admitted read numbered)
        (apart_node_missed r m t c admitted read numbered) (triangle_missed r m t c admitted read numbered) end.taken listed
        end.state in
        let settled = all_settled m t Missed box (node_opens l box t) c some (node_missed r m t c admitted read numbered)
        (apart_node_missed r m t c admitted read numbered) (triangle_missed r m t c admitted read numbered) end.taken listed
        end.state in
        ap (listing_of answer area) (sorted_is_kept n listed w)
        ∙ listing_kept answer (is_listed n listed w) area (range 0 n)
        (λ (x : ℕ) (q : Memᴰ x (range 0 n)).
        let inside = range_bounds x 0 n (count_of_member x (range 0 n) q) in
        missed_or_listed n listed w x (settled x (omega (arith, inside.1))))

    whole_of_nodes : eqb t.node_count 0 ≡ false → Whole
    unfolding over_walk
    whole_of_nodes e = ap (over_walk answer area) (walk_is e) ∙ all_listed

  -- ---- a tree without one
  whole_of_nothing : t.node_count ≡ 0 → n ≡ 0 → Whole
  unfolding over_walk line_walk opened_walk start ended times sort_by range
  whole_of_nothing e f = simp (e, f)

  nothing_placed : Checked m t → t.node_count ≡ 0 → n ≡ 0
  nothing_placed c e = count_zero n (λ h. let home = home_of m t c 0 h in omega (arith, home.below, e))

  pub lists_all : tree_passes m t ≡ true → exact_listing r m.triangles m.vertices t area ≡ listing_of answer area (range 0 n)
  unfolding exact_listing
  lists_all h = either (checked_or_empty m t h)
    where
      go : Checked m t → (b : Bool) → eqb t.node_count 0 ≡ b → Whole
      go c true e = let none : t.node_count ≡ 0 = eqb-true t.node_count 0 e in whole_of_nothing none (nothing_placed c none)
      go c false e = let some = eqb-false t.node_count 0 e in whole_of_nodes c (omega (arith, some)) e

      either : Checked m t ⊎ ((t.node_count ≡ 0) × (n ≡ 0)) → Whole
      either (inl c) = go c (eqb t.node_count 0) refl
      either (inr empty) = whole_of_nothing empty.0 empty.1
