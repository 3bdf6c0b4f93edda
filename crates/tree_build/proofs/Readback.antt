-- A branch's box written last, from its children's boxes read back, gives what it gives written first. Assumes nothing.
use mathlib.Core.Path.{◌≡◌, refl, sym, ap, ◌∙◌}
use mathlib.Core.List.{List, [], ◌∷◌, ◌++◌, append_assoc, append-nil}
use Prim.Native.Nat.{ℕ, zero, suc, ◌+◌, ◌*◌, ◌<◌, ◌≤◌}
use native.Mathlib.Omega.{arith}
use lib.Ieee.{Float, nan}
use lib.ListN.{length, get_or, set, length-set, length-append}
use lib.Seq.{sets, length-sets, get_or-set_same, get_or-set_other}
use Rattle.geometry.specs.Box.{union_of}
use Rattle.geometry.specs.declared.aabb.Aabb.{Aabb}
use Rattle.tree.specs.Layout.{vector_at, box_at, box_numbers}
use Rattle.tree_ranges.specs.Extents.{hull_of}
use Rattle.tree_ranges.proofs.Unseen.{from_numbers, from_corners}
use Rattle.lists.proofs.Runs.{sets_append, sets_before}
use Rattle.tree_build.specs.Shape.{Shape, leaf, branch, nodes_of}
use Rattle.tree_build.specs.Ranges.{left_range, right_range, boxes_below}
use Rattle.tree_build.proofs.Shapes.{six_numbers_a_node}

-- ---- a run of stores, read
module _ {A : Type 0} where
  below_run : (xs l : List A) (i j : ℕ) (d : A) → j < i → get_or (sets l i xs) j d ≡ get_or l j d
  below_run [] l i j d h = refl
  below_run (x ∷ xs) l i j d h =
      below_run xs (set l i x) (suc i) j d (omega arith) ∙ get_or-set_other l i j x d (λ e. omega arith)

  in_run : (xs l : List A) (i k j : ℕ) (d : A) → j ≡ i + k → k < length xs → i + length xs ≤ length l → get_or (sets l i xs) j d
      ≡ get_or xs k d
  in_run [] l i k j d e h g = absurd (omega arith)
  in_run (x ∷ xs) l i zero j d e h g =
      let here : j ≡ i = omega arith in
      below_run xs (set l i x) (suc i) j d (omega arith) ∙ ap (λ (p : ℕ). get_or (set l i x) p d) here
      ∙ get_or-set_same l i x d (omega arith)
  in_run (x ∷ xs) l i (suc k) j d e h g =
      in_run xs (set l i x) (suc i) k j d (omega arith) (omega arith) (omega (arith, length-set l i x))

-- ---- a box that begins a run
pub box_read : (xs : List Float) (i : ℕ) (b : Aabb) (rest : List Float) → 6 * i + (6 + length rest) ≤ length xs
    → box_at (sets xs (6 * i) (box_numbers b ++ rest)) i ≡ b
unfolding box_at vector_at box_numbers
box_read xs i b rest room =
    from_corners _ _ b
    (from_numbers _ _ _ b.min (at 0 (6 * i) (omega arith) (omega arith)) (at 1 (6 * i + 1) (omega arith) (omega arith))
    (at 2 (6 * i + 2) (omega arith) (omega arith)))
    (from_numbers _ _ _ b.max (at 3 (6 * i + 3) (omega arith) (omega arith)) (at 4 (6 * i + 3 + 1) (omega arith) (omega arith))
    (at 5 (6 * i + 3 + 2) (omega arith) (omega arith)))
  where
    at : (k j : ℕ) → j ≡ 6 * i + k → k < 6 → get_or (sets xs (6 * i) (box_numbers b ++ rest)) j nan ≡ get_or (box_numbers b ++ rest) k nan
    at k j e h = in_run (box_numbers b ++ rest) xs (6 * i) k j nan e (omega arith) (omega arith)

-- what is written below a shape begins with its hull
hull_begins : (boxes : List Float) (s : Shape) (ts : List ℕ)
    → (rest : List Float) × (boxes_below boxes s ts ≡ box_numbers (hull_of boxes ts) ++ rest)
unfolding boxes_below
hull_begins boxes (leaf n) ts = ([], sym (append-nil (box_numbers (hull_of boxes ts))))
hull_begins boxes (branch l r) ts = (boxes_below boxes l (left_range boxes l ts) ++ boxes_below boxes r (right_range boxes l ts), refl)

pub six_long : (b : Aabb) → length (box_numbers b) ≡ 6
unfolding box_numbers
six_long b = refl

-- the hull of a range that was written below a shape from a node on
pub hull_read : (boxes area : List Float) (s : Shape) (ts : List ℕ) (node : ℕ) (more : List Float)
    → 6 * node + (6 * nodes_of s + length more) ≤ length area
    → box_at (sets area (6 * node) (boxes_below boxes s ts ++ more)) node ≡ hull_of boxes ts
hull_read boxes area s ts node more room =
    let (rest, begins) = hull_begins boxes s ts in
    let long = ap length begins ∙ length-append (box_numbers (hull_of boxes ts)) rest in
    let whole = ap (λ (z : List Float). z ++ more) begins ∙ append_assoc (box_numbers (hull_of boxes ts)) rest more in
    ap (λ (z : List Float). box_at (sets area (6 * node) z) node) whole
    ∙ box_read area node (hull_of boxes ts) (rest ++ more)
    (omega (arith, length-append rest more, long, six_long (hull_of boxes ts), six_numbers_a_node boxes s ts))

-- both halves written, then the box around the boxes that begin them
module _ (boxes : List Float) (l r : Shape) (ts : List ℕ) (node next : ℕ) (area area₁ area₂ area₃ : List Float)
    (follows : next ≡ node + 1 + nodes_of l) (room : 6 * (node + (1 + (nodes_of l + nodes_of r))) ≤ length area)
    (hull : hull_of boxes ts ≡ union_of (hull_of boxes (left_range boxes l ts)) (hull_of boxes (right_range boxes l ts)))
    (on-left : area₁ ≡ sets area (6 * (node + 1)) (boxes_below boxes l (left_range boxes l ts)))
    (on-right : area₂ ≡ sets area₁ (6 * next) (boxes_below boxes r (right_range boxes l ts)))
    (last : area₃ ≡ sets area₂ (6 * node) (box_numbers (union_of (box_at area₂ (node + 1)) (box_at area₂ next))))
  where
    both : area₂ ≡ sets area (6 * (node + 1)) (boxes_below boxes l (left_range boxes l ts) ++ boxes_below boxes r (right_range boxes l ts))
    both =
        let below = boxes_below boxes l (left_range boxes l ts) in
        let behind = boxes_below boxes r (right_range boxes l ts) in
        let place : 6 * next ≡ 6 * (node + 1) + length below = omega (arith, six_numbers_a_node boxes l (left_range boxes l ts)) in
        on-right
        ∙ ap (λ (z : List Float). sets z (6 * next) behind) on-left
        ∙ ap (λ (k : ℕ). sets (sets area (6 * (node + 1)) below) k behind) place
        ∙ sym (sets_append area (6 * (node + 1)) below behind)

    left_read : box_at area₂ (node + 1) ≡ hull_of boxes (left_range boxes l ts)
    left_read =
        ap (λ (z : List Float). box_at z (node + 1)) both
        ∙ hull_read boxes area l (left_range boxes l ts) (node + 1) (boxes_below boxes r (right_range boxes l ts))
        (omega (arith, six_numbers_a_node boxes r (right_range boxes l ts)))

    right_read : box_at area₂ next ≡ hull_of boxes (right_range boxes l ts)
    right_read =
        let behind = boxes_below boxes r (right_range boxes l ts) in
        let long = ap length on-left ∙ length-sets area (6 * (node + 1)) (boxes_below boxes l (left_range boxes l ts)) in
        ap (λ (z : List Float). box_at z next) (on-right ∙ ap (sets area₁ (6 * next)) (sym (append-nil behind)))
        ∙ hull_read boxes area₁ r (right_range boxes l ts) next [] (omega arith)

    pub hull_last : area₃ ≡ sets area (6 * node) (boxes_below boxes (branch l r) ts)
    unfolding boxes_below
    hull_last =
        let below = boxes_below boxes l (left_range boxes l ts) in
        let behind = boxes_below boxes r (right_range boxes l ts) in
        let own : union_of (box_at area₂ (node + 1)) (box_at area₂ next) ≡ hull_of boxes ts =
        ap (λ (b : Aabb). union_of b (box_at area₂ next)) left_read
        ∙ ap (union_of (hull_of boxes (left_range boxes l ts))) right_read ∙ sym hull in
        let place : 6 * (node + 1) ≡ 6 * node + length (box_numbers (hull_of boxes ts)) = omega (arith, six_long (hull_of boxes ts)) in
        last
        ∙ ap (λ (b : Aabb). sets area₂ (6 * node) (box_numbers b)) own
        ∙ ap (λ (z : List Float). sets z (6 * node) (box_numbers (hull_of boxes ts)))
        (both ∙ ap (λ (k : ℕ). sets area k (below ++ behind)) place)
        ∙ sets_before area (6 * node) (box_numbers (hull_of boxes ts)) (below ++ behind)

-- the box, then both halves
pub hull_first : (boxes : List Float) (l r : Shape) (ts : List ℕ) (node next : ℕ) (area area₀ area₁ area₂ : List Float)
    → next ≡ node + 1 + nodes_of l → area₀ ≡ sets area (6 * node) (box_numbers (hull_of boxes ts))
    → area₁ ≡ sets area₀ (6 * (node + 1)) (boxes_below boxes l (left_range boxes l ts))
    → area₂ ≡ sets area₁ (6 * next) (boxes_below boxes r (right_range boxes l ts))
    → area₂ ≡ sets area (6 * node) (boxes_below boxes (branch l r) ts)
unfolding boxes_below
hull_first boxes l r ts node next area area₀ area₁ area₂ follows first on-left on-right =
    let hull = box_numbers (hull_of boxes ts) in
    let below = boxes_below boxes l (left_range boxes l ts) in
    let behind = boxes_below boxes r (right_range boxes l ts) in
    let one : 6 * (node + 1) ≡ 6 * node + length hull = omega (arith, six_long (hull_of boxes ts)) in
    let two : 6 * next ≡ 6 * node + length hull + length below =
    omega (arith, six_long (hull_of boxes ts), six_numbers_a_node boxes l (left_range boxes l ts)) in
    on-right
    ∙ ap (λ (z : List Float). sets z (6 * next) behind)
    (on-left ∙ ap (λ (z : List Float). sets z (6 * (node + 1)) below) first
    ∙ ap (λ (k : ℕ). sets (sets area (6 * node) hull) k below) one)
    ∙ ap (λ (k : ℕ). sets (sets (sets area (6 * node) hull) (6 * node + length hull) below) k behind) two
    ∙ sym (sets_append (sets area (6 * node) hull) (6 * node + length hull) below behind)
    ∙ sym (sets_append area (6 * node) hull (below ++ behind))
