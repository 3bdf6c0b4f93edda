-- What a passed test of the merge says. Assumes nothing.
use Prim.Native.Nat.{ℕ, ◌+◌, ◌*◌, ◌%◌, ◌≤◌}
use mathlib.Core.Path.{◌≡◌}
use mathlib.Core.Bool.{true, ◌&&◌}
use lib.Dec.{eqb, leb}
use lib.ListN.{length}
use borrow.Author.Tests.{eqb-true, leb-true, le-leb, eq-eqb}
use Rattle.lists.proofs.JoinedTests.{and_first, and_second}
use Rattle.tree.specs.Layout.{Tree}
use Rattle.tree.specs.Mesh.{lengths_admitted}
use Rattle.tree_query.specs.Query.{tree_fits}
use Rattle.tree_check.specs.Verdict.{room_for as roomToCheck}
use Rattle.merge.specs.Merge.{Board, shapes_fit, shapes_admitted}

-- three divides the lengths of a board's mesh
pub record Whole (a : Board) : Type 0 where
  pub vertices : length a.mesh.vertices % 3 ≡ 0
  pub triangles : length a.mesh.triangles % 3 ≡ 0

pub record Divided (a b : Board) : Type 0 where
  pub first : Whole a
  pub second : Whole b
  pub few_vertices : length a.mesh.vertices + length b.mesh.vertices ≤ 196608
  pub few_triangles : length a.mesh.triangles + length b.mesh.triangles ≤ 196608

pub divided : (a b : Board) → shapes_admitted a b ≡ true → Divided a b
unfolding shapes_admitted shapes_fit
divided a b h =
    let v₁ = eqb (length a.mesh.vertices % 3) 0 in
    let t₁ = eqb (length a.mesh.triangles % 3) 0 in
    let v₂ = eqb (length b.mesh.vertices % 3) 0 in
    let t₂ = eqb (length b.mesh.triangles % 3) 0 in
    let v = leb (length a.mesh.vertices + length b.mesh.vertices) 196608 in
    let t = leb (length a.mesh.triangles + length b.mesh.triangles) 196608 in
    let first = and_first (v₁ && t₁) ((v₂ && t₂) && (v && t)) h in
    let rest = and_second (v₁ && t₁) ((v₂ && t₂) && (v && t)) h in
    let second = and_first (v₂ && t₂) (v && t) rest in
    let few = and_second (v₂ && t₂) (v && t) rest in
    record {
      first =
          record {
            vertices = eqb-true (length a.mesh.vertices % 3) 0 (and_first v₁ t₁ first);
            triangles = eqb-true
                (length a.mesh.triangles % 3) 0 (and_second v₁ t₁ first);
          };
      second =
          record {
            vertices = eqb-true (length b.mesh.vertices % 3) 0 (and_first v₂ t₂ second);
            triangles = eqb-true
                (length b.mesh.triangles % 3) 0 (and_second v₂ t₂ second);
          };
      few_vertices = leb-true (length a.mesh.vertices + length b.mesh.vertices) 196608 (and_first v t few);
      few_triangles = leb-true (length a.mesh.triangles + length b.mesh.triangles) 196608 (and_second v t few);
    }

pub record Fits (n : ℕ) (t : Tree) : Type 0 where
  pub node_boxes_lem : 12 * n ≤ length t.node_boxes
  pub triangle_boxes_lem : 6 * n ≤ length t.triangle_boxes
  pub node_words_lem : 6 * n ≤ length t.node_words
  pub order : n ≤ length t.order

pub fits : (n : ℕ) (t : Tree) → tree_fits n t ≡ true → Fits n t
unfolding tree_fits
fits n t h =
    let p = leb (12 * n) (length t.node_boxes) in
    let q = leb (6 * n) (length t.triangle_boxes) in
    let r = leb (6 * n) (length t.node_words) in
    let s = leb n (length t.order) in
    let h₁ = and_second p (q && (r && s)) h in
    let h₂ = and_second q (r && s) h₁ in
    record {
      node_boxes_lem = leb-true (12 * n) (length t.node_boxes) (and_first p (q && (r && s)) h);
      triangle_boxes_lem = leb-true (6 * n) (length t.triangle_boxes) (and_first q (r && s) h₁);
      node_words_lem = leb-true (6 * n) (length t.node_words) (and_first r s h₂);
      order = leb-true n (length t.order) (and_second r s h₂);
    }

pub fits_test : (n : ℕ) (t : Tree) (marks : ℕ) → Fits n t → 3 * n ≤ marks
    → roomToCheck n (length t.node_boxes) (length t.triangle_boxes) (length t.node_words) (length t.order) marks ≡ true
unfolding roomToCheck
fits_test n t marks f long =
    simp (
      le-leb (12 * n) (length t.node_boxes) f.node_boxes_lem,
      le-leb (6 * n) (length t.triangle_boxes) f.triangle_boxes_lem,
      le-leb
          (6 * n) (length t.node_words) f.node_words_lem,
      le-leb n (length t.order) f.order,
      le-leb (3 * n) marks long,
    )

pub lengths_test : (v t : ℕ) → v % 3 ≡ 0 → t % 3 ≡ 0 → v ≤ 196608 → t ≤ 196608 → lengths_admitted v t ≡ true
unfolding lengths_admitted
lengths_test v t p q b c = simp (eq-eqb (v % 3) 0 p, le-leb v 196608 b, eq-eqb (t % 3) 0 q, le-leb t 196608 c)
