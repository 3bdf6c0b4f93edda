-- `exact_hits::rows::list_met` meets its contract. Assumes nothing.
use Rattle.std.proofs.Common.{rules, ◌≡◌, ◌<◌, ◌≤◌, ℕ, true, List, length, take, arith}
use Rattle.std.proofs.lemmas.Result.{err_from_is_err_and}
use lib.Ieee.{Float}
use lib.Seq.{length-take-le}
use Rattle.geometry.specs.declared.ray.Ray.{Ray}
use Rattle.lists.specs.Lists.{all_below}
use Rattle.nearest_hit.specs.Summary.{nothing, summary_from, says_nearest_so_far}
use Rattle.tree.specs.Layout.{word_at}
use Rattle.tree.specs.Mesh.{thirds}
use Rattle.mesh.proofs.Folding.{every_at}
use Rattle.exact_triangle.specs.declared.view.View.{View}
use Rattle.mesh_hits.specs.HitArea.{places_of}
use Rattle.mesh_hits.specs.Rows.{Stored, HitsGathered}
use Rattle.mesh_hits.specs.declared.gathering.Gathered.{Gathered}
use Rattle.mesh_hits.proofs.ListedHits.{places_within}
use Rattle.mesh_hits.proofs.Arranging.{gathered_room, refused_whole, arranged_places, arranged_whole}
use Rattle.mesh_exact.specs.GridCast.{exact_answer}
use Rattle.mesh_exact.specs.Noted.{Casts}
use Rattle.tree_exact.proofs.Answers.{hits_are_numbers}
use Rattle.exact_hits.proofs.rows.list_met.Goals as goal

-- what the gathering leaves
gathered_all : (r : Ray) (line : View) → Casts r line → (pose : List Float) (triangles list : List ℕ) (found : ℕ) → found ≤ length list
    → all_below (thirds (length triangles)) (take found list) ≡ true → (indices₀ : List ℕ) (numbers₀ : List Float) (g : Gathered)
    (places : ℕ) → places ≡ places_of (length indices₀) (length numbers₀) → (indices : List ℕ) (numbers : List Float)
    → length indices ≡ length indices₀ → length numbers ≡ length numbers₀
    → (says_nearest_so_far g.notes ≡ summary_from (exact_answer r pose triangles) nothing (take found list))
    × Stored (exact_answer r pose triangles) (take found list) places indices₀ numbers₀ g.hits indices numbers
    → HitsGathered (exact_answer r pose triangles) (thirds (length triangles)) (take found list) (length list) indices₀ numbers₀ g
    places indices numbers
gathered_all r line casts pose triangles list found inside below indices₀ numbers₀ g places e indices numbers long long_numbers h = record {
  at_numbers = hits_are_numbers _ _ _ casts.valid casts.shown.admitted;
  below = below;
  lent = omega (arith, length-take-le found list inside, inside);
  places_are = e;
  long = long;
  numbers_long = long_numbers;
  noted = h.0;
  stored = h.1;
}

pub gather-gathered-requires : goal.gather-gathered-requires
gather-gathered-requires c =
    let w = places_within (length c.args.indices.now) (length c.args.numbers.now) in
    let e = c.places_of-room.ensures in
    let sized = c.requires.0.shown.view_sized in (
      λ k below. let small : word_at (take c.args.found c.args.list.now) k < thirds (length c.args.triangles.now) =
          every_at _ _ _ c.requires.1.1 below in search rules,
      (omega (arith, w.0, e), omega (arith, w.1, e)),
    )

pub arrange-requires : goal.arrange-requires
arrange-requires c =
    let g = c.gather-gathered in
    let casts = c.requires.0 in
    let all = gathered_all c.args.ray c.args.line casts c.args.pose.now c.args.triangles.now _ _ c.requires.1.0 c.requires.1.1
    _ _ _ _ c.places_of-room.ensures _ _ g.auto.indices g.auto.numbers
    (g.ensures (exact_answer c.args.ray c.args.pose.now c.args.triangles.now) (λ k below reach told. search rules)) in
    gathered_room _ _ _ _ _ _ _ _ _ _ all

-- a refusal
pub returns-in_err-count : goal.returns-in_err-count
returns-in_err-count c =
    let g = c.gather-gathered in
    let casts = c.requires.0 in
    let all = gathered_all c.args.ray c.args.line casts c.args.pose.now c.args.triangles.now _ _ c.requires.1.0 c.requires.1.1
    _ _ _ _ c.places_of-room.ensures _ _ g.auto.indices g.auto.numbers
    (g.ensures (exact_answer c.args.ray c.args.pose.now c.args.triangles.now) (λ k below reach told. search rules)) in
    let p = err_from_is_err_and c.from_residual.result c.from_residual.ensures.1 in
    rw (p.1, p.2) (refused_whole _ _ _ _ _ _ (c.arrange.ensures _ _ _ _ _ all) _ c.in_err-count.was)

pub put_normals-requires : goal.put_normals-requires
put_normals-requires c =
    let g = c.gather-gathered in
    let casts = c.requires.0 in
    let all = gathered_all c.args.ray c.args.line casts c.args.pose.now c.args.triangles.now _ _ c.requires.1.0 c.requires.1.1
    _ _ _ _ c.places_of-room.ensures _ _ g.auto.indices g.auto.numbers
    (g.ensures (exact_answer c.args.ray c.args.pose.now c.args.triangles.now) (λ k below reach told. search rules)) in
    let s = arranged_places _ _ _ _ _ _ (c.arrange.ensures _ _ _ _ _ all) _ c.in_ok-count.was in
    let valid = casts.valid in
    let admitted = casts.shown.admitted in
    (s.inside, (s.fits, λ k below. let small = s.below k below in let reached = s.reached k below in search rules))

-- the hits, with their normals
pub returns : goal.returns
returns c =
    let g = c.gather-gathered in
    let casts = c.requires.0 in
    let all = gathered_all c.args.ray c.args.line casts c.args.pose.now c.args.triangles.now _ _ c.requires.1.0 c.requires.1.1
    _ _ _ _ c.places_of-room.ensures _ _ g.auto.indices g.auto.numbers
    (g.ensures (exact_answer c.args.ray c.args.pose.now c.args.triangles.now) (λ k below reach told. search rules)) in
    let s = arranged_places _ _ _ _ _ _ (c.arrange.ensures _ _ _ _ _ all) _ c.in_ok-count.was in
    arranged_whole _ _ _ _ _ _ (c.arrange.ensures _ _ _ _ _ all) _ c.in_ok-count.was _
    (c.put_normals.ensures _ _ s (λ k below found told. search rules))
