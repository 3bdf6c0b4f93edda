-- Every refusal of a definition that a call answers has a number below the codes: the calls about trees, the converter and the cabinet.
-- Assumes nothing.
use Prim.Native.Nat.{ℕ, ◌-◌}
use mathlib.Core.Path.{◌≡◌, refl}
use mathlib.Core.Bool.{true}
use mathlib.Core.List.{List, [], ◌∷◌}
use lib.Dec.{ltb, eqb}
use lib.Ieee.{lt}
use lib.ListN.{length}
use Rattle.lists.specs.Lists.{range}
use Rattle.vectors.specs.Vector.{finite_vec, sub_of}
use Rattle.vectors.specs.declared.vec3.Vec3.{Vec3}
use Rattle.geometry.specs.Segment.{ray_admitted, segment_end, segment_box}
use Rattle.geometry.specs.declared.aabb.Aabb.{Aabb}
use Rattle.geometry.specs.declared.ray.Ray.{Ray}
use Rattle.casts.specs.Answer.{invalid_input, bad_shape, no_room, out_of_bounds, overflow, limit_reached}
use Rattle.nearest_hit.specs.Nearest.{Indexed, hit_at, no_hit, stopped}
use Rattle.tree.specs.Layout.{Tree, Areas}
use Rattle.tree.specs.Mesh.{Mesh, thirds, triangle_count, triangles_fit, boxes_written}
use Rattle.tree_walk.specs.Walk.{Walking, walking, broken, walk_of}
use Rattle.tree_build.specs.Shape.{shape_of}
use Rattle.tree_build.specs.Ranges.{extents_finite}
use Rattle.tree_build.specs.Build as Build
use Rattle.tree_query.specs.Query as Query
use Rattle.tree_check.specs.Check.{tree_passes}
use Rattle.tree_check.specs.Verdict as Verdict
use Rattle.merge.specs.Merge as Merge
use Rattle.float_forms.specs.declared.forms.Form.{Form}
use Rattle.record_bytes.specs.Records.{said_of, well_formed}
use Rattle.conversion.specs.Writing.{rewritten}
use Rattle.conversion.specs.Convert.{said_representable, Answer as Converted, written, refused as notConverted, Outcome, converted}
use Rattle.tree_walk.specs.Looking.{Looked, looked, used_up, walk_within}
use Rattle.cabinet.specs.declared.part.Part.{Part}
use Rattle.cabinet.specs.Found.{Found, Nothing, Hit, Refused as NotFound, Progress}
use Rattle.cabinet.specs.Parts.{Areas as CabinetAreas, mesh_of, tree_of_part, shape_fits, room_fits}
use Rattle.cabinet.specs.PartCast.{Costed, costing, after_look, cast_within, moved_ray, cast_moved}
use Rattle.cabinet.specs.Cabinet.{found_next, is_refused, after_part, beginning, cast_part, cast_parts, answer_with, all_parts}
use Rattle.cabinet.specs.Cabinet.{cast_cabinet}
use Rattle.cabinet.specs.Cabinet as Cabinet
use Rattle.exports.proofs.RefusalNumbers.{Small, leaf, chosen, tested, small_tests, indexed_number, stops, over_walk_small}

-- ---- trees
unfoldable pub build_number : Build.Answer → ℕ
build_number (Build.nodes count) = 0
build_number (Build.refused number) = number

builds : (answer : Build.Answer) (after : Areas) → ltb (build_number answer) 256 ≡ true
    → Small (λ (o : Build.Outcome). build_number o.answer) (Build.outcome answer after)
builds answer after h = leaf (λ (o : Build.Outcome). build_number o.answer) (Build.outcome answer after) h

pub build_small : (m : Mesh) (a : Areas) (work : ℕ) → Small (λ (o : Build.Outcome). build_number o.answer) (Build.build_of m a work)
unfolding Build.build_of Build.built_of build_number small_tests
build_small m a work =
    tested (λ (o : Build.Outcome). build_number o.answer) (λ (k : ℕ). Build.outcome (Build.refused k) a)
    (λ k h. builds (Build.refused k) a h) (Build.build_tests m a work) _ refl
    (chosen (eqb (triangle_count m) 0) (builds (Build.refused out_of_bounds) _ refl)
    (chosen (triangles_fit m)
    (chosen (extents_finite (boxes_written m a.triangle_boxes) (shape_of (triangle_count m)) (range 0 (triangle_count m)))
    (builds (Build.nodes _) _ refl) (builds (Build.refused overflow) _ refl)) (builds (Build.refused out_of_bounds) _ refl)))

unfoldable pub query_number : Query.Listing → ℕ
query_number (Query.count count) = 0
query_number (Query.refused number) = number

queries : (answer : Query.Listing) (list : List ℕ) → ltb (query_number answer) 256 ≡ true
    → Small (λ (q : Query.Queried). query_number q.answer) (record { answer = answer; list = list })
queries answer list h = leaf (λ (q : Query.Queried). query_number q.answer) (record { answer = answer; list = list }) h

pub query_small : (box : Aabb) (n : ℕ) (t : Tree) (list : List ℕ) (stack : ℕ)
    → Small (λ (q : Query.Queried). query_number q.answer) (Query.query_of box n t list stack)
unfolding Query.query_of Query.after_walk query_number small_tests
query_small box n t list stack =
    tested (λ (q : Query.Queried). query_number q.answer) (λ (k : ℕ). record { answer = Query.refused k; list = list })
    (λ k h. queries (Query.refused k) list h) (Query.query_tests box n t (length list) stack) _ refl (walked (walk_of t n box))
  where
    walked : (w : Walking) → Small (λ (q : Query.Queried). query_number q.answer) (Query.after_walk list w)
    walked (walking s l) = queries (Query.count _) _ refl
    walked broken = queries (Query.refused out_of_bounds) _ refl

unfoldable pub check_number : Verdict.Ruling → ℕ
check_number Verdict.yes = 0
check_number Verdict.no = 0
check_number (Verdict.refused number) = number

pub check_small : (m : Mesh) (t : Tree) (marks : ℕ) → Small check_number (Verdict.check_of m t marks)
unfolding Verdict.check_of check_number small_tests
check_small m t marks =
    tested check_number Verdict.refused (λ k h. leaf check_number (Verdict.refused k) h) (Verdict.check_tests m t marks) _ refl
    (chosen (tree_passes m t) (leaf check_number Verdict.yes refl) (leaf check_number Verdict.no refl))

unfoldable pub merge_number : Merge.Answer → ℕ
merge_number (Merge.nodes count) = 0
merge_number (Merge.refused number) = number

merges : (answer : Merge.Answer) (after : Merge.Areas) → ltb (merge_number answer) 256 ≡ true
    → Small (λ (o : Merge.Outcome). merge_number o.answer) (record { answer = answer; after = after })
merges answer after h = leaf (λ (o : Merge.Outcome). merge_number o.answer) (record { answer = answer; after = after }) h

pub merge_small : (a b : Merge.Board) (old : Merge.Areas) (marks : ℕ)
    → Small (λ (o : Merge.Outcome). merge_number o.answer) (Merge.merge_of a b old marks)
unfolding Merge.merge_of merge_number
merge_small a b old marks =
    chosen (Merge.shapes_admitted a b) (chosen (Merge.areas_fit a b old marks)
    (chosen (Merge.trees_pass a b) (merges (Merge.nodes _) _ refl) (merges (Merge.refused out_of_bounds) _ refl))
    (merges (Merge.refused no_room) _ refl)) (merges (Merge.refused bad_shape) _ refl)

-- ---- the converter
unfoldable pub converted_number : Converted → ℕ
converted_number (written count) = 0
converted_number (notConverted number) = number

converts : (answer : Converted) (area : List ℕ) → ltb (converted_number answer) 256 ≡ true
    → Small (λ (o : Outcome). converted_number o.answer) (record { answer = answer; area = area })
converts answer area h = leaf (λ (o : Outcome). converted_number o.answer) (record { answer = answer; area = area }) h

pub converted_small : (p q : Form) (bytes area : List ℕ) → Small (λ (o : Outcome). converted_number o.answer) (converted p q bytes area)
unfolding converted converted_number
converted_small p q bytes area =
    chosen (well_formed p bytes) (chosen (ltb (length area) (length (rewritten p q bytes))) (converts (notConverted 3) _ refl)
    (chosen (said_representable q (said_of p bytes)) (converts (written _) _ refl) (converts (notConverted 11) _ refl)))
    (converts (notConverted 2) _ refl)

-- ---- the cabinet
unfoldable found_number : Found → ℕ
found_number Nothing = 0
found_number (Hit part index normal distance) = 0
found_number (NotFound number) = number

next_found : (f : Found) (part : ℕ) (x : Indexed) → Small found_number f → Small indexed_number x → Small found_number (found_next f part x)
unfolding found_next found_number indexed_number
next_found (NotFound k) part x p q = p
next_found Nothing part (hit_at n d i) p q = leaf found_number (Hit part i n d) refl
next_found Nothing part no_hit p q = p
next_found Nothing part (stopped k) p q = record { below = q.below }
next_found (Hit a j m e) part (hit_at n d i) p q = chosen (lt d e) (leaf found_number (Hit part i n d) refl) p
next_found (Hit a j m e) part no_hit p q = p
next_found (Hit a j m e) part (stopped k) p q = record { below = q.below }

abbrev cost_number : Costed → ℕ
cost_number c = indexed_number c.answer

costs : (spent : ℕ) (answer : Indexed) → Small indexed_number answer → Small cost_number (costing spent answer)
costs spent answer p = record { below = p.below }

moved_small : (limit : ℕ) (r : Ray) (o : Vec3) (m : Mesh) (t : Tree) → Small cost_number (cast_moved limit r o m t)
unfolding cast_moved cast_within after_look
moved_small limit r o m t =
    chosen (finite_vec (sub_of r.origin o)) (chosen (finite_vec (segment_end (moved_ray r o)))
    (go (walk_within t (thirds (length m.triangles)) (segment_box (moved_ray r o)) limit)) (costs 0 _ (stops overflow refl)))
    (costs 0 _ (stops overflow refl))
  where
    go : (l : Looked) → Small cost_number (after_look (moved_ray r o) m l)
    go (looked spent w) = costs spent _ (over_walk_small (moved_ray r o) m.vertices m.triangles w)
    go (used_up spent) = costs spent _ (stops limit_reached refl)

abbrev progress_number : Progress → ℕ
progress_number s = found_number s.found

module _ (r : Ray) (a : CabinetAreas) (limit : ℕ) where
  part_small : (s : Progress) (c : Costed) → Small progress_number s → Small cost_number c → Small progress_number (after_part s c)
  unfolding after_part
  part_small s c p q =
      let next = next_found s.found s.part c.answer (record { below = p.below }) (record { below = q.below }) in
      chosen {f = progress_number} (is_refused s.found) p (record { below = next.below })

  parts_small : (ps : List Part) (s : Progress) → Small progress_number s → Small progress_number (cast_parts r a limit s ps)
  unfolding cast_parts cast_part
  parts_small [] s p = p
  parts_small (q ∷ ps) s p =
      parts_small ps (cast_part r a limit s q)
      (part_small s _ p (moved_small (limit - s.spent) r q.origin (mesh_of a q) (tree_of_part a q)))

unfoldable pub cabinet_number : Cabinet.Answer → ℕ
cabinet_number (Cabinet.hit_in part triangle n d spent) = 0
cabinet_number (Cabinet.none_after spent) = 0
cabinet_number (Cabinet.refused number) = number
cabinet_number (Cabinet.refused_after number spent) = number

pub cabinet_small : (r : Ray) (a : CabinetAreas) (list stack limit : ℕ) (parts : List Part)
    → Small cabinet_number (cast_cabinet r a list stack limit parts)
unfolding cast_cabinet cabinet_number found_number
cabinet_small r a list stack limit parts =
    let last = cast_parts r a limit beginning parts in
    chosen (ray_admitted r) (chosen (all_parts (shape_fits a) parts) (chosen (all_parts (room_fits a list stack) parts)
    (go last.found last.spent (record { below = all.below }))
    (leaf cabinet_number (Cabinet.refused no_room) refl)) (leaf cabinet_number (Cabinet.refused bad_shape) refl))
    (leaf cabinet_number (Cabinet.refused invalid_input) refl)
  where
    all : Small progress_number (cast_parts r a limit beginning parts)
    all = parts_small r a limit parts beginning (leaf progress_number beginning refl)

    go : (f : Found) (spent : ℕ) → Small found_number f → Small cabinet_number (answer_with f spent)
    go Nothing spent p = leaf cabinet_number (Cabinet.none_after spent) refl
    go (Hit part index n d) spent p = leaf cabinet_number (Cabinet.hit_in part index n d spent) refl
    go (NotFound k) spent p = record { below = p.below }
