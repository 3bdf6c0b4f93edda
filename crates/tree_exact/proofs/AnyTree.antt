-- Through any tree, one that passes the check or not, a hit is a true hit of its triangle: the walk notes nothing but what the triangles
-- answer. Assumes nothing.
use Prim.Native.Nat.{ℕ, zero, suc, ◌+◌, ◌<◌}
use mathlib.Core.Path.{◌≡◌, refl, sym, ap, ◌∙◌, subst}
use mathlib.Core.Bool.{Bool, true, false, ◌&&◌, cond}
use mathlib.Core.List.{List, [], ◌∷◌}
use lib.Dec.{leb, ltb, eqb}
use lib.Ieee.{Float}
use lib.ListN.{length}
use borrow.Author.Tests.{ltb-true}
use Rattle.lists.specs.Lists.{range}
use Rattle.geometry.specs.Segment.{ray_admitted}
use Rattle.vectors.specs.declared.vec3.Vec3.{Vec3}
use Rattle.geometry.specs.declared.ray.Ray.{Ray}
use Rattle.casts.specs.Answer.{Answer, hit, none, refused, invalid_input, bad_shape, no_room, wrong_pose, out_of_bounds, out_of_range}
use Rattle.nearest_hit.specs.Nearest.{hit_at, no_hit, stopped, next_of}
use Rattle.nearest_hit.specs.Summary.{Summary, winner, answer_at, Outcome, Nobody, RefusedBy, NearestHit}
use Rattle.nearest_hit.proofs.IndexedCases.{hit_not_none, hit_not_stopped}
use Rattle.tree.specs.Layout.{Tree, word_at, kind_at, first_at, second_at}
use Rattle.tree.specs.Mesh.{Mesh, mesh, thirds}
use Rattle.mesh.specs.MeshCast.{shape_admitted}
use Rattle.exact_triangle.specs.Grid.{grid_admitted, grid_line}
use Rattle.mesh_exact.specs.GridCast.{exact_answer}
use Rattle.mesh_exact.specs.Certain.{TrueHit}
use Rattle.mesh_exact.proofs.TrueHits.{true_hit}
use Rattle.tree_exact.specs.FirstWalk.{Seeking, seeking, broken, times, take_place, take_places, at_leaf, at_branch, at_node, take_node}
use Rattle.tree_exact.specs.FirstWalk.{noted, start, ended, first_of}
use Rattle.tree_exact.specs.Onward.{Reached}
use Rattle.tree_exact.specs.Opening.{opens_node}
use Rattle.tree_exact.specs.Order.{left_first}
use Rattle.tree_exact.specs.ExactMesh.{exact_through, room_for, ray_mesh_exact}
use Rattle.tree_exact.proofs.Standings.{note_reached}
use Rattle.tree_exact.proofs.Casting.{winner_reached}

module _ (t : Tree) (n : ℕ) (answer : ℕ → Answer) (opens : ℕ → Summary → Bool) (left_first : ℕ → Bool) where
  -- the nearest hit so far is that of a triangle
  abbrev Inside : Seeking → Type 0
  Inside broken = Unit
  Inside (seeking stack s) = Reached t n answer opens left_first s.least

  -- ---- each step leaves it so
  place_inside : (w : Seeking) (place : ℕ) → Inside w → Inside (take_place t n answer opens left_first w place)
  unfolding take_place
  place_inside broken place h = tt
  place_inside (seeking stack s) place h = go (word_at t.order place) (ltb (word_at t.order place) n) refl
    where
      go : (x : ℕ) (b : Bool) → ltb x n ≡ b → Inside (cond b (seeking stack (noted t n answer opens left_first s x)) broken)
      go x true e = note_reached t n answer opens left_first x (ltb-true x n e) s h
      go x false e = tt

  places_inside : (w : Seeking) (places : List ℕ) → Inside w → Inside (take_places t n answer opens left_first w places)
  unfolding take_places
  places_inside w [] h = h
  places_inside w (place ∷ rest) h = places_inside (take_place t n answer opens left_first w place) rest (place_inside w place h)

  module _ (node : ℕ) (stack : List ℕ) (s : Summary) (h : Inside (seeking stack s)) where
    leaf_inside : (start count : ℕ) → Inside (at_leaf t n answer opens left_first start count stack s)
    unfolding at_leaf
    leaf_inside start count = go (leb (start + count) n)
      where
        go : (b : Bool) → Inside (cond b (take_places t n answer opens left_first (seeking stack s) (range start count)) broken)
        go true = places_inside (seeking stack s) (range start count) h
        go false = tt

    branch_inside : (left right : ℕ) → Inside (at_branch t n answer opens left_first node left right stack s)
    unfolding at_branch
    branch_inside left right = go (ltb node left && ltb node right)
      where
        go : (b : Bool) → Inside (cond b (seeking (cond (left_first node) (left ∷ (right ∷ stack)) (right ∷ (left ∷ stack))) s) broken)
        go true = h
        go false = tt

    node_inside : Inside (at_node t n answer opens left_first node stack s)
    unfolding at_node
    node_inside =
        go (first_at t.node_words node) (second_at t.node_words node) (opens node s) (eqb (kind_at t.node_words node) 0)
        (eqb (kind_at t.node_words node) 1)
      where
        go : (first second : ℕ) (a b c : Bool)
            → Inside (cond a (cond b (at_leaf t n answer opens left_first first second stack s)
            (cond c (at_branch t n answer opens left_first node first second stack s) broken)) (seeking stack s))
        go first second false b c = h
        go first second true true c = leaf_inside first second
        go first second true false true = branch_inside first second
        go first second true false false = tt

  taken_inside : (w : Seeking) → Inside w → Inside (take_node t n answer opens left_first w)
  unfolding take_node
  taken_inside broken h = tt
  taken_inside (seeking [] s) h = h
  taken_inside (seeking (node ∷ stack) s) h = go (ltb node t.node_count)
    where
      go : (b : Bool) → Inside (cond b (at_node t n answer opens left_first node stack s) broken)
      go true = node_inside node stack s h
      go false = tt

  all_inside : (k : ℕ) (w : Seeking) → Inside w → Inside (times k (take_node t n answer opens left_first) w)
  unfolding times
  all_inside zero w h = h
  all_inside (suc k) w h = all_inside k (take_node t n answer opens left_first w) (taken_inside w h)

  -- ---- its end: a hit is what a triangle answers
  module _ (normal : Vec3) (distance : Float) (i : ℕ) where
    abbrev Answered : Type 0
    Answered = (i < n) × (answer i ≡ hit normal distance)

    next_answered : (x : ℕ) → x < n → (a : Answer) → answer x ≡ a → next_of no_hit x a ≡ hit_at normal distance i → Answered
    unfolding next_of
    next_answered x h (hit n' d) e is =
        let same : x ≡ i = cc in
        let alike : hit n' d ≡ hit normal distance = cc in
        (subst (λ (j : ℕ). j < n) same h, ap answer (sym same) ∙ e ∙ alike)
    next_answered x h none e is = absurd (hit_not_none normal distance i (sym is))
    next_answered x h (refused k) e is = absurd (hit_not_stopped normal distance i k (sym is))

    won : (s : Summary) → Reached t n answer opens left_first s.least → (o : Outcome) → winner s ≡ o
        → answer_at answer o ≡ hit_at normal distance i → Answered
    unfolding answer_at
    won s h Nobody e is = absurd (hit_not_none normal distance i (sym is))
    won s h (RefusedBy k) e is = absurd (hit_not_stopped normal distance i k (sym is))
    won s h (NearestHit x d) e is =
        next_answered x (winner_reached t n answer opens left_first s.refuser s.least h x d e).0 (answer x) refl is

    end_answered : (w : Seeking) → Inside w → ended t n answer opens left_first w ≡ hit_at normal distance i → Answered
    unfolding ended
    end_answered broken h is = absurd (hit_not_stopped normal distance i out_of_bounds (sym is))
    end_answered (seeking [] s) h is = won s h (winner s) refl is
    end_answered (seeking (node ∷ stack) s) h is = absurd (hit_not_stopped normal distance i out_of_bounds (sym is))

    pub walk_answered : first_of t n answer opens left_first ≡ hit_at normal distance i → Answered
    unfolding first_of start
    walk_answered = end_answered _ (all_inside t.node_count (start t n answer opens left_first) tt)

-- ---- the call
module _ (r : Ray) (m : Mesh) (pose : List Float) (t : Tree) (stack : ℕ) (normal : Vec3) (distance : Float) (i : ℕ) where
  abbrev True : Type 0
  True = TrueHit r (mesh pose m.triangles) normal distance i

  through_answered : ray_admitted r ≡ true → grid_admitted r ≡ true
      → exact_through r pose m.triangles t ≡ hit_at normal distance i → True
  unfolding exact_through
  through_answered f g h =
      let w = walk_answered t (thirds (length m.triangles)) (exact_answer r pose m.triangles) (opens_node (grid_line r) t)
      (left_first (grid_line r) t) normal distance i h in
      true_hit r (mesh pose m.triangles) i normal distance w.1 f g w.0

  not_hit : (k : ℕ) → stopped k ≡ hit_at normal distance i → ⊥
  not_hit k h = hit_not_stopped normal distance i k (sym h)

  pub hit_anywhere : ray_mesh_exact r m pose t stack ≡ hit_at normal distance i → True
  unfolding ray_mesh_exact
  hit_anywhere =
      go (ray_admitted r) refl (grid_admitted r) refl (shape_admitted m pose t) (room_for m t stack) (eqb (length pose) (length m.vertices))
    where
      go : (a : Bool) → ray_admitted r ≡ a → (b : Bool) → grid_admitted r ≡ b → (c d e : Bool)
          → cond a (cond b (cond c (cond d (cond e (exact_through r pose m.triangles t) (stopped wrong_pose)) (stopped no_room))
          (stopped bad_shape)) (stopped out_of_range)) (stopped invalid_input) ≡ hit_at normal distance i
          → True
      go false f b g c d e h = absurd (not_hit invalid_input h)
      go true f false g c d e h = absurd (not_hit out_of_range h)
      go true f true g false d e h = absurd (not_hit bad_shape h)
      go true f true g true false e h = absurd (not_hit no_room h)
      go true f true g true true false h = absurd (not_hit wrong_pose h)
      go true f true g true true true h = through_answered f g h
