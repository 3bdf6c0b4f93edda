-- The exact cast passes over no node below which a triangle's answer would change what was found. Assumes nothing.
use Prim.Native.Nat.{ℕ, ◌+◌, ◌*◌, ◌≤◌, ◌<◌}
use mathlib.Core.Path.{◌≡◌, refl, sym, ap, ◌∙◌}
use mathlib.Core.Bool.{Bool, true, false, not, cond, true≢false, false≢true}
use mathlib.Core.Logic.{◌⊎◌, inl, inr}
use mathlib.Core.List.{List}
use native.Mathlib.Omega.{arith}
use lib.IntN.{ℤ, pos}
use lib.Ieee.{Float, nan, inf, fin, up, down, le, lt, eq, neg}
use lib.Ieee.Fits.{down_pos}
use Rattle.lists.proofs.JoinedTests.{and_first, and_second, and_both, and_three}
use Rattle.arithmetic.specs.Basic.{is_finite, absolute}
use Rattle.arithmetic.proofs.SignedOrder.{plus, less, below_not}
use Rattle.arithmetic.proofs.SumOrder.{le_parts}
use Rattle.arithmetic.proofs.ValueOrder.{le_values}
use Rattle.geometry.specs.Box.{within_side, encloses, touches, box_of}
use Rattle.geometry.proofs.BoxLaws.{encloses_of_same, touches_grows}
use Rattle.vectors.specs.declared.vec3.Vec3.{Vec3}
use Rattle.geometry.specs.declared.aabb.Aabb.{Aabb}
use Rattle.casts.specs.Answer.{Answer, hit, none, refused}
use Rattle.casts.specs.Reach.{reach_of}
use Rattle.nearest_hit.specs.Summary.{Kept, Found, note_of}
use Rattle.tree.specs.Layout.{Tree, box_at}
use Rattle.tree.specs.Mesh.{Mesh, corner_at, triangle_box, triangle_count}
use Rattle.mesh.proofs.CheckedTree.{Checked}
use Rattle.mesh.proofs.BuildBoxes.{encloses_through}
use Rattle.exact_triangle.specs.Line.{Line, Moves}
use Rattle.exact_triangle.specs.Grid.{within, all_within, furthest, grid_point}
use Rattle.tree_exact.specs.WalkDemand.{PassesSafely}
use Rattle.tree_exact.proofs.Unders.{under_below, under_enclosed}
use Rattle.tree_exact.specs.Room.{room_of, room_met}
use Rattle.exact_triangle.specs.Box.{certain_box}
use Rattle.exact_triangle.specs.Surface.{Surface}
use Rattle.tree_exact.specs.Opening.{limit_of, box_read, line_met, short_segment, box_met, opens_node}
use Rattle.tree_exact.specs.Demand.{grid_box, HitPoint, GridAnswers}
use Rattle.tree_exact.proofs.Rooms.{beyond}
use Rattle.exact_triangle.proofs.Touching.{furthest_is}
use Rattle.tree_exact.proofs.Limits.{nothing_changes}
use Rattle.tree_exact.proofs.Corners.{all_each, among_box, numbers_of_lem, corner_inside}

-- ---- a box that is read lies in the grid's box
pub parts_le : (s : Bool) (m : ℕ) (e : ℤ) (t : Bool) (n : ℕ) (d : ℤ)
    → plus s (m * up e) * down d + less t (n * up d) * down e ≤ plus t (n * up d) * down e + less s (m * up e) * down d
    → le (fin s m e) (fin t n d) ≡ true
parts_le s m e t n d h =
    le_values (fin s m e) (fin t n d) s t (m * up e) (down e) (n * up d) (down d) (down_pos e) (down_pos d) (refl, refl) (refl, refl)
    ∙ ap not (below_not t (n * up d) (down d) s (m * up e) (down e) h)

module _ (k : ℕ) where
  abbrev pub top : Float
  top = fin false 1 (pos k)

  abbrev pub bottom : Float
  bottom = fin true 1 (pos k)

  below_top : (x : Float) → le (absolute x) top ≡ true → le x top ≡ true
  unfolding absolute
  below_top nan h = h
  below_top (inf s) h = unfold le lt eq in absurd (false≢true h)
  below_top (fin false m e) h = h
  below_top (fin true m e) h =
      let p = le_parts (fin false m e) top (unfold is_finite in refl) (unfold is_finite in refl) h in
      parts_le true m e false 1 (pos k) (omega (arith, p))

  above_bottom : (x : Float) → le (absolute x) top ≡ true → le bottom x ≡ true
  unfolding absolute
  above_bottom nan h = unfold le lt eq in absurd (false≢true h)
  above_bottom (inf s) h = unfold le lt eq in absurd (false≢true h)
  above_bottom (fin false m e) h =
      let p = le_parts (fin false m e) top (unfold is_finite in refl) (unfold is_finite in refl) h in
      parts_le true 1 (pos k) false m e (omega (arith, p))
  above_bottom (fin true m e) h =
      let p = le_parts (fin false m e) top (unfold is_finite in refl) (unfold is_finite in refl) h in
      parts_le true 1 (pos k) true m e (omega (arith, p))

pub negated : neg furthest ≡ bottom 13
unfolding neg
negated = ap neg furthest_is

side_read : (low high : Float) → within furthest low ≡ true → within furthest high ≡ true
    → within_side (neg furthest) furthest low high ≡ true
unfolding within_side
side_read low high p q =
    and_both (le (neg furthest) low) (le high furthest)
    (ap (λ (b : Float). le b low) negated ∙ above_bottom 13 low (ap (le (absolute low)) (sym furthest_is) ∙ p))
    (ap (le high) furthest_is ∙ below_top 13 high (ap (le (absolute high)) (sym furthest_is) ∙ q))

pub read_enclosed : (box : Aabb) → box_read box ≡ true → encloses grid_box box ≡ true
unfolding encloses
read_enclosed box h =
    let low = all_each box.min (and_first (all_within furthest box.min) _ h) in
    let high = all_each box.max (and_second (all_within furthest box.min) _ h) in
    and_three _ _ _ (side_read box.min.x box.max.x low.x high.x) (side_read box.min.y box.max.y low.y high.y)
    (side_read box.min.z box.max.z low.z high.z)

-- ---- a box that is not met is read
not_met : (a b : Bool) → cond a b true ≡ false → (a ≡ true) × (b ≡ false)
not_met true b h = (refl, h)
not_met false b h = absurd (true≢false h)

-- .. and apart from the segment's, or the line does not pass through it
shut_by : (t s a b : Bool) → cond t (cond s true (cond a b true)) (not a) ≡ false → (a ≡ true) × ((t ≡ false) ⊎ (b ≡ false))
shut_by true true a b h = absurd (true≢false h)
shut_by true false a b h = let e = not_met a b h in (e.0, inr e.1)
shut_by false s true b h = (refl, inl refl)
shut_by false s false b h = absurd (true≢false h)

pub corners_enclosed : (box : Aabb) (vertices : List Float) (triangles : List ℕ) (x : ℕ)
    → encloses box (triangle_box vertices triangles x) ≡ true
    → encloses box (box_of (corner_at vertices triangles x 0) (corner_at vertices triangles x 1) (corner_at vertices triangles x 2)) ≡ true
unfolding triangle_box
corners_enclosed box vertices triangles x h = h

module _ (l : Line) (moves : Moves l.direction) (box : Aabb) (limit : ℕ) (read : box_read box ≡ true)
    (shut : room_met l limit (room_of l box) ≡ false) where
  -- a hit in a box that is not met before the limit is past the limit
  pub hit_past : (a b c : Vec3) (distance : Float) (deep : HitPoint l a b c distance) → encloses box (box_of a b c) ≡ true
      → limit * deep.D ≤ deep.t
  hit_past a b c distance deep h =
      let e = among_box box a b c (numbers_of_lem a deep.first) (numbers_of_lem b deep.second) (numbers_of_lem c deep.third) h in
      beyond l moves (grid_point a) (grid_point b) (grid_point c) deep.D deep.t deep.on (room_of l box)
      (corner_inside l box read a deep.first e.x.first e.y.first e.z.first)
      (corner_inside l box read b deep.second e.x.second e.y.second e.z.second)
      (corner_inside l box read c deep.third e.x.third e.y.third e.z.third) limit shut

-- a triangle in range in which the segment has a point touches the segment's box
abbrev pub MeetsInBox : Line → Type 0
MeetsInBox l =
    (a b c : Vec3) → all_within furthest a ≡ true → all_within furthest b ≡ true → all_within furthest c ≡ true → (D : ℕ) (t : ℤ)
    → Surface l (grid_point a) (grid_point b) (grid_point c) D t → touches (box_of a b c) (certain_box l) ≡ true

module _ (l : Line) (moves : Moves l.direction) (m : Mesh) (t : Tree) (c : Checked m t) (answer : ℕ → Answer)
    (good : GridAnswers l m answer) (meets : MeetsInBox l) where
  pub passes_safely : PassesSafely m t answer (opens_node l t)
  unfolding opens_node box_met line_met note_of reach_of
  passes_safely node s below shut x under = go (answer x) refl
    where
      box : Aabb
      box = box_at t.node_boxes node

      own : Aabb
      own = triangle_box m.vertices m.triangles x

      inside : x < triangle_count m
      inside = under_below m t c node x below under

      fails : (box_read box ≡ true) × ((touches box (certain_box l) ≡ false) ⊎ (room_met l (limit_of l s.least) (room_of l box) ≡ false))
      fails =
          shut_by (touches box (certain_box l)) (short_segment l) (box_read box) (room_met l (limit_of l s.least) (room_of l box)) shut

      enclosed : encloses box own ≡ true
      enclosed =
          encloses_through box (box_at t.triangle_boxes x) own (under_enclosed m t c node x below under)
          (encloses_of_same (box_at t.triangle_boxes x) own (c.same x inside))

      a₀ : Vec3
      a₀ = corner_at m.vertices m.triangles x 0

      a₁ : Vec3
      a₁ = corner_at m.vertices m.triangles x 1

      a₂ : Vec3
      a₂ = corner_at m.vertices m.triangles x 2

      around : encloses box (box_of a₀ a₁ a₂) ≡ true
      around = corners_enclosed box m.vertices m.triangles x enclosed

      by : (normal : Vec3) (d : Float) → HitPoint l a₀ a₁ a₂ d
          → (touches box (certain_box l) ≡ false) ⊎ (room_met l (limit_of l s.least) (room_of l box) ≡ false)
          → note_of s x (reach_of (hit normal d)) ≡ s
      by normal d deep (inl apart) =
          let met = meets a₀ a₁ a₂ deep.first deep.second deep.third deep.D (pos deep.t) deep.on in
          absurd (true≢false (sym (touches_grows box (box_of a₀ a₁ a₂) (certain_box l) around met) ∙ apart))
      by normal d deep (inr missed) =
          let past = hit_past l moves box (limit_of l s.least) fails.0 missed a₀ a₁ a₂ d deep around in
          ap (λ (k : Kept (Found Float)). record { refuser = s.refuser; least = k }) (nothing_changes l a₀ a₁ a₂ d deep s.least past x)

      go : (a : Answer) → answer x ≡ a → note_of s x (reach_of a) ≡ s
      go none e = refl
      go (refused number) e =
          absurd (good.answered x number inside (encloses_through grid_box box own (read_enclosed box fails.0) enclosed) e)
      go (hit normal d) e = by normal d (good.deep x inside normal d e) fails.1
