-- Which lists stand in an area from a place on: the parts of such a list stand there too, a node's words and a box are read from them, and
-- so is the box of each triangle. Assumes nothing.
use Prim.Native.Nat.{ℕ, zero, suc, ◌+◌, ◌*◌, ◌≤◌, ◌<◌}
use native.Mathlib.Nat.{add-zero, zero-add}
use mathlib.Core.Path.{◌≡◌, sym, ap, ◌∙◌}
use mathlib.Core.Logic.{◌⊎◌, inl, inr}
use mathlib.Core.List.{List, [], ◌∷◌, ◌++◌}
use native.Mathlib.Omega.{arith}
use lib.Ieee.{Float, nan}
use lib.ListN.{length, get_or, length-append, get_or-append}
use lib.Seq.{get_or-append-add}
use Rattle.geometry.specs.declared.aabb.Aabb.{Aabb}
use Rattle.lists.specs.Lists.{range}
use Rattle.tree.specs.Layout.{vector_at, box_at, kind_at, first_at, second_at, box_numbers}
use Rattle.lists.proofs.CountLaws.{same_or_other}
use Rattle.tree.specs.Mesh.{each_box}
use Rattle.tree_build.proofs.Readback.{six_long}

-- a list stands in an area from a place on; `d` is what reading past the end gives
pub record Run {A : Type 0} (d : A) (area : List A) (place : ℕ) (xs : List A) : Type 0 where
  pub reads : (i : ℕ) → i < length xs → get_or area (place + i) d ≡ get_or xs i d

module _ {A : Type 0} (d : A) where
  pub run_front : (xs rest : List A) → Run d (xs ++ rest) 0 xs
  run_front xs rest = record {
    reads = λ (i : ℕ) (h : i < length xs). ap (λ (k : ℕ). get_or (xs ++ rest) k d) (zero-add i) ∙ get_or-append xs rest d i h;
  }

  module _ (area : List A) (place : ℕ) (xs ys : List A) (r : Run d area place (xs ++ ys)) where
    pub run_first : Run d area place xs
    run_first = record {
      reads = λ (i : ℕ) (h : i < length xs). r.reads i (omega (arith, length-append xs ys)) ∙ get_or-append xs ys d i
          h;
    }

    pub run_second : (after : ℕ) → place + length xs ≡ after → Run d area after ys
    run_second after e = record {
      reads =
          λ (i : ℕ) (h : i < length ys).
          let there : after + i ≡ place + (length xs + i) = omega arith in
          ap (λ (k : ℕ). get_or area k d) there ∙ r.reads (length xs + i) (omega (arith, length-append xs ys))
          ∙ get_or-append-add xs ys i d;
    }

-- ---- a box
pub run_box : (area : List Float) (i : ℕ) (b : Aabb) → Run nan area (6 * i) (box_numbers b) → box_at area i ≡ b
unfolding box_at vector_at box_numbers
run_box area i b r =
    let p = ap (λ (k : ℕ). get_or area k nan) (sym (add-zero (6 * i))) ∙ r.reads 0 (omega arith) in
    let at : (k j : ℕ) → k ≡ 6 * i + j → get_or area k nan ≡ get_or area (6 * i + j) nan = λ (k j : ℕ) (e : k ≡ 6 * i + j). ap
    (λ (k : ℕ). get_or area k nan) e in
    simp (
      p,
      r.reads 1 (omega arith),
      r.reads 2 (omega arith),
      r.reads 3 (omega arith),
      at (6 * i + 3 + 1) 4 (omega arith),
      at (6 * i + 3 + 2) 5 (omega arith),
      r.reads 4 (omega arith),
      r.reads 5 (omega arith),
    )

-- ---- a node's words
pub record Words (area : List ℕ) (node kind first second : ℕ) : Type 0 where
  pub kind_word : kind_at area node ≡ kind
  pub first_word : first_at area node ≡ first
  pub second_word : second_at area node ≡ second

pub run_words : (area : List ℕ) (node kind first second : ℕ) → Run 0 area (3 * node) (kind ∷ (first ∷ (second ∷ []))) → Words area node kind
    first second
run_words area node kind first second r = record {
  kind_word = ap (λ (k : ℕ). get_or area k 0) (sym (add-zero (3 * node))) ∙ r.reads 0 (omega arith);
  first_word = r.reads 1 (omega arith);
  second_word = r.reads 2 (omega arith);
}

-- ---- one box after another
pub run_boxes : (area : List Float) (box : ℕ → Aabb) (start size : ℕ) → Run nan area (6 * start) (each_box box (range start size)) → (x : ℕ)
    → start ≤ x → x < start + size → box_at area x ≡ box x
unfolding each_box range
run_boxes area box start zero r x p q = absurd (omega arith)
run_boxes area box start (suc size) r x p q = go (run_boxes area box (suc start) size) (same_or_other x start)
  where
    go : (Run nan area (6 * suc start) (each_box box (range (suc start) size)) → (x : ℕ) → suc start ≤ x → x < suc start + size
        → box_at area
        x ≡ box x) → (x ≡ start) ⊎ (x ≡ start → ⊥) → box_at area x ≡ box x
    go rest (inl e) = rw e (run_box area start (box start) (run_first nan area (6 * start) (box_numbers (box start))
        (each_box box (range (suc
        start) size)) r))
    go rest (inr n) =
        rest (run_second nan area (6 * start) (box_numbers (box start)) (each_box box (range (suc start) size)) r (6 * suc start)
        (omega (arith, six_long (box start)))) x (omega (arith, n)) (omega arith)
