-- The line's walk passes over no node and no triangle whose answer is a hit or a refusal. Assumes nothing.
use Prim.Native.Nat.{ℕ, ◌<◌}
use mathlib.Core.Path.{◌≡◌, refl, sym, ap, ◌∙◌}
use mathlib.Core.Bool.{Bool, true, false, not, ◌&&◌, cond, true≢false}
use native.Mathlib.Omega.{arith}
use lib.IntN.{pos}
use lib.Ieee.{Float, le}
use Rattle.lists.proofs.JoinedTests.{and_first, and_second, and_both, and_three}
use Rattle.arithmetic.specs.Basic.{is_finite}
use Rattle.arithmetic.proofs.Order.{le_transitive}
use Rattle.geometry.specs.Box.{valid_side, valid_box, touch_side, touches, within_side, encloses}
use Rattle.geometry.specs.Segment.{ray_admitted}
use Rattle.geometry.specs.declared.aabb.Aabb.{Aabb}
use Rattle.geometry.specs.declared.ray.Ray.{Ray}
use Rattle.geometry.proofs.BoxLaws.{touches_grows, touches_of_same, encloses_of_same}
use Rattle.casts.specs.Answer.{Answer, hit, none, refused}
use Rattle.casts.specs.Reach.{reach_of}
use Rattle.nearest_hit.specs.Summary.{Kept, nobody, kept, keep_of, Summary, nothing, note_of}
use Rattle.tree.specs.Layout.{Tree, box_at}
use Rattle.tree.specs.Mesh.{Mesh, triangle_box, triangle_count}
use Rattle.mesh.proofs.CheckedTree.{Checked}
use Rattle.mesh.proofs.TreeCounts.{home_of}
use Rattle.mesh.proofs.BuildBoxes.{encloses_through}
use Rattle.mesh.proofs.WalkState.{node_touches, triangle_touches}
use Rattle.exact_triangle.specs.Line.{Line}
use Rattle.exact_triangle.specs.Box.{certain_box}
use Rattle.exact_triangle.specs.Grid.{grid_admitted, grid_line}
use Rattle.exact_triangle.proofs.Moving.{ray_moves}
use Rattle.mesh_exact.specs.GridCast.{exact_answer}
use Rattle.tree_exact.specs.Numbers.{NoNaN}
use Rattle.tree_exact.specs.Demand.{grid_box, GridAnswers}
use Rattle.tree_exact.specs.WalkDemand.{Under, Absorbed}
use Rattle.tree_exact.specs.Opening.{box_read, line_met, short_segment, box_met, opens_node}
use Rattle.tree_exact.specs.Room.{room_of, room_met}
use Rattle.tree_exact.proofs.Unders.{under_first, under_below, under_enclosed}
use Rattle.tree_exact.proofs.Answers.{grid_answers}
use Rattle.tree_exact.proofs.Agreement.{meets_in_box}
use Rattle.tree_exact.proofs.Safely.{read_enclosed, passes_safely}
use Rattle.exact_hits.specs.LineWalk.{line_meets, box_opens, node_opens, walk_box}

-- ---- a box that encloses a valid one touches it
side_touches_lem : (low high low' high' : Float) → valid_side low high ≡ true → within_side low' high' low high ≡ true
    → touch_side low high low' high' ≡ true
unfolding valid_side within_side touch_side
side_touches_lem low high low' high' v w =
    let along : le low high ≡ true = and_second (is_finite high) (le low high) (and_second (is_finite low) _ v) in
    and_both (le low high') (le low' high) (le_transitive low high high' along (and_second (le low' low) (le high high') w))
    (le_transitive low' low high (and_first (le low' low) (le high high') w) along)

enclosed_touches : (b c : Aabb) → valid_box c ≡ true → encloses b c ≡ true → touches c b ≡ true
unfolding valid_box encloses touches
enclosed_touches b c v w =
    let x = valid_side c.min.x c.max.x in
    let y = valid_side c.min.y c.max.y in
    let z = valid_side c.min.z c.max.z in
    let x' = within_side b.min.x b.max.x c.min.x c.max.x in
    let y' = within_side b.min.y b.max.y c.min.y c.max.y in
    let z' = within_side b.min.z b.max.z c.min.z c.max.z in
    and_three _ _ _
    (side_touches_lem c.min.x c.max.x b.min.x b.max.x (and_first x (y && z) v) (and_first x' (y' && z') w))
    (side_touches_lem c.min.y c.max.y b.min.y b.max.y (and_first y z (and_second x (y && z) v))
    (and_first y' z' (and_second x' (y' && z') w)))
    (side_touches_lem c.min.z c.max.z b.min.z b.max.z (and_second y z (and_second x (y && z) v))
    (and_second y' z' (and_second x' (y' && z') w)))

-- ---- what changes nothing of nothing is a miss
abbrev is_kept : {A : Type 0} → Kept A → Bool
is_kept nobody = false
is_kept (kept x) = true

absorbed_none : (answer : ℕ → Answer) (x : ℕ) → Absorbed answer nothing x → answer x ≡ none
unfolding note_of reach_of keep_of
absorbed_none answer x h = go (answer x) h
  where
    go : (a : Answer) → note_of nothing x (reach_of a) ≡ nothing → a ≡ none
    go none e = refl
    go (hit n d) e = absurd (true≢false (ap (λ (s : Summary). is_kept s.least) e))
    go (refused k) e = absurd (true≢false (ap (λ (s : Summary). is_kept s.refuser) e))

-- a box that the line cannot meet is not opened, whether it touches the segment's or not
shut : (t s a b : Bool) → cond s true (cond a b true) ≡ false → cond t (cond s true (cond a b true)) (not a) ≡ false
shut t true a b h = absurd (true≢false h)
shut t false false b h = absurd (true≢false h)
shut true false true b h = h
shut false false true b h = refl

module _ (r : Ray) (m : Mesh) (t : Tree) (c : Checked m t) (admitted : ray_admitted r ≡ true) (read : grid_admitted r ≡ true)
    (numbered : NoNaN m) where
  abbrev l : Line
  l = grid_line r

  abbrev answer : ℕ → Answer
  answer = exact_answer r m.vertices m.triangles

  abbrev first : Aabb
  first = box_at t.node_boxes 0

  abbrev box : Aabb
  box = walk_box l first

  good : GridAnswers l m answer
  good = grid_answers r admitted read m numbered c.corners

  -- ---- a node whose box the line cannot meet
  not_opened : (node : ℕ) → line_meets l (box_at t.node_boxes node) ≡ false → opens_node l t node nothing ≡ false
  unfolding line_meets opens_node box_met line_met
  not_opened node h =
      let b = box_at t.node_boxes node in
      shut (touches b (certain_box l)) (short_segment l) (box_read b) (room_met l _ (room_of l b)) h

  line_missed : (node : ℕ) → node < t.node_count → line_meets l (box_at t.node_boxes node) ≡ false → (x : ℕ) → Under m t node x
      → answer x ≡ none
  line_missed node below h x u =
      absorbed_none answer x
      (passes_safely l (ray_moves r admitted) m t c answer good (meets_in_box r read) node nothing below (not_opened node h) x u)

  -- ---- a triangle whose box is apart from the box that the walk goes by
  module _ (x : ℕ) (inside : x < triangle_count m) where
    own : Aabb
    own = triangle_box m.vertices m.triangles x

    some : 0 < t.node_count
    some = let h = home_of m t c x inside in omega (arith, h.below)

    in_first : encloses first (box_at t.triangle_boxes x) ≡ true
    in_first = under_enclosed m t c 0 x some (under_first m t c x inside)

    apart_missed : box_read first ≡ true → touches (box_at t.triangle_boxes x) (certain_box l) ≡ false → answer x ≡ none
    unfolding own triangle_box
    apart_missed ranged apart = go (answer x) refl
      where
        here : encloses first own ≡ true
        here =
            encloses_through first (box_at t.triangle_boxes x) own in_first
            (encloses_of_same (box_at t.triangle_boxes x) own (c.same x inside))

        go : (a : Answer) → answer x ≡ a → a ≡ none
        go none e = refl
        go (refused number) e =
            absurd (good.answered x number inside (encloses_through grid_box first own (read_enclosed first ranged) here) e)
        go (hit normal distance) e =
            let deep = good.deep x inside normal distance e in
            let met = meets_in_box r read _ _ _ deep.first deep.second deep.third deep.D (pos deep.t) deep.on in
            absurd (true≢false (sym (touches_of_same (box_at t.triangle_boxes x) own (certain_box l) (c.same x inside) ∙ met) ∙ apart))

    pub triangle_missed : triangle_touches t box x ≡ false → answer x ≡ none
    unfolding walk_box
    triangle_missed = go (box_read first) refl
      where
        go : (b : Bool) → box_read first ≡ b → touches (box_at t.triangle_boxes x) (cond b (certain_box l) first) ≡ false → answer x ≡ none
        go true e apart = apart_missed e apart
        go false e apart =
            absurd (true≢false (sym (enclosed_touches first (box_at t.triangle_boxes x) (c.triangle_valid x inside) in_first) ∙ apart))

  -- ---- a node that is not opened
  pub apart_node_missed : (node : ℕ) → node < t.node_count → node_touches t box node ≡ false → (x : ℕ) → Under m t node x → answer x ≡ none
  apart_node_missed node below apart x u = go (triangle_touches t box x) refl
    where
      go : (b : Bool) → triangle_touches t box x ≡ b → answer x ≡ none
      go false e = triangle_missed x (under_below m t c node x below u) e
      go true e =
          absurd (true≢false (sym (touches_grows (box_at t.node_boxes node) (box_at t.triangle_boxes x) box
          (under_enclosed m t c node x below u) e) ∙ apart))

  pub node_missed : (node : ℕ) → node < t.node_count → node_opens l box t node ≡ false → (x : ℕ) → Under m t node x → answer x ≡ none
  unfolding box_opens
  node_missed node below h x u = go (node_touches t box node) refl h
    where
      go : (b : Bool) → node_touches t box node ≡ b → (b && line_meets l (box_at t.node_boxes node)) ≡ false → answer x ≡ none
      go false e g = apart_node_missed node below e x u
      go true e g = line_missed node below g x u
