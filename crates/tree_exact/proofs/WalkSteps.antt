-- How each step of the code moves the exact cast's walk. Assumes nothing.
use Rattle.std.specs.Prelude.{Option, Some, None}
use Prim.Native.Nat.{ℕ, suc, ◌+◌, ◌-◌, ◌*◌, ◌≤◌, ◌<◌}
use mathlib.Core.Path.{◌≡◌, refl, sym, ap, ◌∙◌, subst}
use mathlib.Core.Bool.{Bool, true, false, cond}
use mathlib.Core.List.{List, [], ◌∷◌}
use native.Mathlib.Nat.{le_trans}
use native.Mathlib.Omega.{arith}
use lib.IntN.{pos}
use lib.Ieee.{Float}
use lib.ListN.{length, length-set, set}
use Rattle.lists.specs.Lists.{range}
use Rattle.geometry.specs.declared.aabb.Aabb.{Aabb}
use Rattle.geometry.specs.declared.ray.Ray.{Ray}
use Rattle.casts.specs.Reach.{reach_of, Reach, Miss}
use Rattle.tree_exact.specs.Culling.{Culled}
use Rattle.nearest_hit.specs.Summary.{Summary, nothing, note_of, says_nearest_so_far}
use Rattle.nearest_hit.specs.declared.summary.NearestSoFar.{NearestSoFar}
use Rattle.tree.specs.Layout.{Tree, word_at, box_at, first_at, second_at}
use Rattle.tree.specs.Mesh.{thirds}
use Rattle.tree_walk.specs.Areas.{on_stack}
use Rattle.exact_triangle.specs.Line.{Line}
use Rattle.exact_triangle.specs.Shear.{gain}
use Rattle.exact_triangle.specs.Grid.{grid_line}
use Rattle.exact_triangle.specs.declared.view.View.{View}
use Rattle.exact_triangle.specs.View.{Sees}
use Rattle.tree_exact.specs.Onward.{onward, Standing, Opens}
use Rattle.tree_exact.specs.declared.node.Node.{Node}
use Rattle.tree_exact.specs.declared.node.Node.TheVariants.{Leaf, Branch, Bad as BadNode}
use Rattle.tree_exact.proofs.Standings.{on_stack_next, on_stack_none, on_stack_root}
use Rattle.tree_exact.proofs.Standings.{stands_first, stands_empty, place_taken, place_bad}
use Rattle.tree_exact.proofs.Standings.{places_done, node_tests, node_bad, node_passes, node_opens, stands_used_up, stands_ended}
use Rattle.tree_exact.specs.Opening.{limit_of, box_met, opens_node}
use Rattle.tree_exact.specs.Order.{taken_first, left_first}
use Rattle.mesh_exact.specs.GridCast.{exact_answer}
use Rattle.exact_triangle.specs.Box.{certain_box}
use Rattle.mesh_exact.specs.Noted.{Bounded}
use Rattle.tree_exact.specs.ExactMesh.{exact_through}
use Rattle.tree_exact.specs.Walking.{Limited, Stands, Tests, NearestSoFarLeaf, Reads, OpensNode, TakesNode, Walks}
use Rattle.tree_exact.specs.declared.walk.Best.{Best}
use Rattle.tree_exact.specs.declared.walk.Step.{Step}
use Rattle.tree_exact.specs.declared.walk.Step.TheVariants.{NothingFound, Next, Bad}

-- ---- the places of a leaf
module _ (line : View) (hull : Aabb) (pose : List Float) (triangles order : List ℕ) (start end : ℕ) (notes : NearestSoFar) where
  -- what is left of the places gives the whole leaf
  pub record LeafSoFar (found : NearestSoFar) (place : ℕ) : Type 0 where
    pub holds : (r : Ray) → Bounded r line hull → (t : Tree) → t.order ≡ order → (k : ℕ) (stack : List ℕ)
        → Stands r pose triangles t k (range start (end - start)) stack (says_nearest_so_far notes)
        → Stands r pose triangles t k (range place (end - place)) stack (says_nearest_so_far found)

  pub leaf_begins : LeafSoFar notes start
  leaf_begins = record { holds = λ r on t o k stack h. h }

  module _ (found : NearestSoFar) (place : ℕ) (far : LeafSoFar found place) where
    module _ (more : place < end) (x : ℕ) (is : x ≡ word_at order place) where
      at : (t : Tree) → t.order ≡ order → x ≡ word_at t.order place
      at t o = is ∙ ap (λ (l : List ℕ). word_at l place) (sym o)

      pub leaf_bad : thirds (length triangles) ≤ x → NearestSoFarLeaf line hull pose triangles order start end notes None
      unfolding exact_through
      leaf_bad h = record {
        holds = λ r on t o k stack s.
            place_bad t (thirds (length triangles)) (exact_answer r pose triangles) (opens_node (grid_line r) t)
            (left_first (grid_line r) t) k
            stack (says_nearest_so_far found) place end (far.holds r on t o k stack s) more x (at t o) h;
      }

      pub leaf_goes : x < thirds (length triangles) → (reach : Reach)
          → ((r : Ray) → Bounded r line hull → reach ≡ reach_of (exact_answer r pose triangles x))
          → (after : NearestSoFar) → says_nearest_so_far after ≡ note_of (says_nearest_so_far found) x reach → LeafSoFar after (place + 1)
      leaf_goes h reach reached after e = record {
        holds = λ r on t o k stack s.
            subst (λ (z : Summary). Stands r pose triangles t k (range (place + 1) (end - (place + 1))) stack z)
            (sym (e ∙ ap (note_of (says_nearest_so_far found) x) (reached r on)))
            (place_taken t (thirds (length triangles)) (exact_answer r pose triangles) (opens_node (grid_line r) t)
            (left_first (grid_line r) t)
            k stack (says_nearest_so_far found) place end (far.holds r on t o k stack s) more x (at t o) h);
      }

      -- one that is culled
      pub leaf_culls : x < thirds (length triangles) → Culled hull pose triangles x → LeafSoFar found (place + 1)
      unfolding note_of
      leaf_culls h out = leaf_goes h Miss (λ r on. out.missed r line on) found refl

    pub leaf_ends : end ≤ place → NearestSoFarLeaf line hull pose triangles order start end notes (Some found)
    leaf_ends h = record {
      holds = λ r on t o k stack s.
          places_done t (thirds (length triangles)) (exact_answer r pose triangles) (opens_node (grid_line r) t)
          (left_first (grid_line r) t) k
          stack (says_nearest_so_far found) place end (far.holds r on t o k stack s) h;
    }

module _ (line : View) (hull : Aabb) (pose : List Float) (triangles : List ℕ) (nodes : ℕ) (boxes : List Float) (words order : List ℕ) where
  abbrev n : ℕ
  n = thirds (length triangles)

  -- ---- a node whose box is met
  module _ (area : List ℕ) (node top : ℕ) (best : Best) where
    module _ (read : Node) (is : Opens n words node read) (start end : ℕ) (e : read ≡ Leaf start end) where
      opened : Opens n words node (Leaf start end)
      opened = subst (Opens n words node) e is

      -- its places are the order's
      pub leaf_within : n ≤ length order → end ≤ length order
      leaf_within h = le_trans opened.stands h

      pub opens_leaf : (result : Option NearestSoFar) → NearestSoFarLeaf line hull pose triangles order start end best.notes result
          → (notes : NearestSoFar) → result ≡ Some notes → (after : Best) → after.notes ≡ notes → Limited line after
          → OpensNode line hull pose triangles nodes boxes words order area node top best (Next top after) area
      opens_leaf result noted notes f after g limited = record {
        holds = λ r on t reads k o tests.
            subst (λ (z : NearestSoFar). Stands r pose triangles t k [] (on_stack area top) (says_nearest_so_far z)) (sym g)
            ((subst (NearestSoFarLeaf line hull pose triangles order start end best.notes) f noted).holds r on t reads.ordered k
            (on_stack area top)
            (record {
              whole = node_opens t n (exact_answer r pose triangles) (opens_node (grid_line r) t) (left_first (grid_line r) t) k node
                  (on_stack area top) (says_nearest_so_far best.notes) tests o words reads.worded (Leaf start end) opened;
              reached = tests.reached;
            }));
        stands = (omega arith, limited);
      }

      pub opens_leaf_bad : (result : Option NearestSoFar) → NearestSoFarLeaf line hull pose triangles order start end best.notes result
          → result ≡ None → OpensNode line hull pose triangles nodes boxes words order area node top best Bad area
      opens_leaf_bad result noted f = record {
        holds = λ r on t reads k o tests.
            (subst (NearestSoFarLeaf line hull pose triangles order start end best.notes) f noted).holds r on t reads.ordered k
            (on_stack area top)
            (record {
              whole = node_opens t n (exact_answer r pose triangles) (opens_node (grid_line r) t) (left_first (grid_line r) t) k node
                  (on_stack area top) (says_nearest_so_far best.notes) tests o words reads.worded (Leaf start end) opened;
              reached = tests.reached;
            });
        stands = tt;
      }

    module _ (read : Node) (is : Opens n words node read) (left right : ℕ) (e : read ≡ Branch left right) (b : Bool)
        (first : (l : Line) → Sees line l → b ≡ taken_first l nodes boxes left right) where
      branched : Opens n words node (Branch left right)
      branched = subst (Opens n words node) e is

      -- the order that the code found is the tree's
      order_is : (r : Ray) → Bounded r line hull → (t : Tree) → Reads t nodes boxes words order → b ≡ left_first (grid_line r) t node
      unfolding left_first
      order_is r on t reads =
          let l = grid_line r in
          let x = branched.stands.0 ∙ ap (λ (w : List ℕ). first_at w node) (sym reads.worded) in
          let y = branched.stands.1 ∙ ap (λ (w : List ℕ). second_at w node) (sym reads.worded) in
          first l on.casts.shown.sees ∙ (λ i. taken_first l (sym reads.counted i) (sym reads.boxed i) (x i) (y i))

      stack_is : (area' : List ℕ) → on_stack area' (top + 2)
          ≡ cond b (first_at words node ∷ (second_at words node ∷ on_stack area top))
          (second_at words node ∷ (first_at words node ∷ on_stack area top))
          → (c : Bool) → b ≡ c
          → on_stack area' (top + 2) ≡ cond c (left ∷ (right ∷ on_stack area top)) (right ∷ (left ∷ on_stack area top))
      stack_is area' p c d =
          let x = sym branched.stands.0 in
          let y = sym branched.stands.1 in
          p ∙ (λ i. cond (d i) (x i ∷ (y i ∷ on_stack area top)) (y i ∷ (x i ∷ on_stack area top)))

      pub opens_branch : (area' : List ℕ) → on_stack area' (top + 2)
          ≡ cond b (first_at words node ∷ (second_at words node ∷ on_stack area top))
          (second_at words node ∷ (first_at words node ∷ on_stack area top))
          → OpensNode line hull pose triangles nodes boxes words order area node top best (NothingFound (top + 2)) area'
      opens_branch area' p = record {
        holds = λ r on t reads k o tests.
            let lf = left_first (grid_line r) t in
            let opens = opens_node (grid_line r) t in
            let answer = exact_answer r pose triangles in
            let s = says_nearest_so_far best.notes in
            record {
              whole =
                  ap (λ (l : List ℕ). onward t n answer opens lf k [] l s) (stack_is area' p (lf node) (order_is r on t reads))
                  ∙ node_opens t n answer opens lf k node (on_stack area top) s tests o words reads.worded (Branch left right) branched;
              reached = tests.reached;
            };
        stands = omega arith;
      }

    pub opens_bad : (read : Node) → Opens n words node read → read ≡ BadNode
        → OpensNode line hull pose triangles nodes boxes words order area node top best Bad area
    unfolding exact_through
    opens_bad read opened e = record {
      holds = λ r on t reads k o tests.
          node_opens t n (exact_answer r pose triangles) (opens_node (grid_line r) t) (left_first (grid_line r) t) k node
          (on_stack area top)
          (says_nearest_so_far best.notes) tests o words reads.worded BadNode (subst (Opens n words node) e opened);
      stands = tt;
    }

-- hull is the segment's box
module _ (line : View) (hull : Aabb) (pose : List Float) (triangles : List ℕ) (nodes : ℕ) (boxes : List Float) (words order : List ℕ) where
  abbrev count : ℕ
  count = thirds (length triangles)

  -- ---- the next node of the stack
  module _ (area : List ℕ) (top : ℕ) (best : Best) (some : 0 < top) (node : ℕ) (is : node ≡ word_at area (top - 1)) where
    stack_next : on_stack area top ≡ node ∷ on_stack area (top - 1)
    stack_next = on_stack_next area top some ∙ ap (λ (x : ℕ). x ∷ on_stack area (top - 1)) (sym is)

    moved : (r : Ray) (t : Tree) (k : ℕ) (s : Summary) → Stands r pose triangles t (suc k) [] (on_stack area top) s
        → Stands r pose triangles t (suc k) [] (node ∷ on_stack area (top - 1)) s
    moved r t k s h = subst (λ (l : List ℕ). Stands r pose triangles t (suc k) [] l s) stack_next h

    pub takes_bad : nodes ≤ node → TakesNode line hull pose triangles nodes boxes words order area top best Bad area
    unfolding exact_through
    takes_bad h = record {
      holds = λ r on t reads k stands.
          node_bad t count (exact_answer r pose triangles) (opens_node (grid_line r) t) (left_first (grid_line r) t) k node
          (on_stack area (top - 1)) (says_nearest_so_far best.notes) (moved r t k (says_nearest_so_far best.notes) stands)
          (subst (λ (c : ℕ). c ≤ node) (sym reads.counted) h);
      stands = tt;
    }

    module _ (below : node < nodes) (limited : Limited line best) (box : Aabb) (boxed : box ≡ box_at boxes node) (met : Bool)
        (known : (l : Line) (limit : ℕ) → Sees line l → hull ≡ certain_box l → best.past ≡ pos (limit * gain l)
        → met ≡ box_met l limit box) where
      tested : (r : Ray) → Bounded r line hull → (t : Tree) → Reads t nodes boxes words order
          → met ≡ opens_node (grid_line r) t node (says_nearest_so_far best.notes)
      unfolding opens_node
      tested r on t reads =
          let l = grid_line r in
          let sees = on.casts.shown.sees in
          let limit = limit_of l (says_nearest_so_far best.notes).least in
          known l limit sees on.box (limited.past l sees)
          ∙ ap (box_met l limit) (boxed ∙ ap (λ (xs : List Float). box_at xs node) (sym reads.boxed))

      testing : (r : Ray) (t : Tree) → Reads t nodes boxes words order → (k : ℕ)
          → Stands r pose triangles t (suc k) [] (on_stack area top) (says_nearest_so_far best.notes)
          → Tests r pose triangles t k node (on_stack area (top - 1)) (says_nearest_so_far best.notes)
      testing r t reads k stands =
          node_tests t count (exact_answer r pose triangles) (opens_node (grid_line r) t) (left_first (grid_line r) t) k node
          (on_stack area (top - 1)) (says_nearest_so_far best.notes) (moved r t k (says_nearest_so_far best.notes) stands)
          (subst (λ (c : ℕ). node < c) (sym reads.counted) below)

      pub takes_past : met ≡ false → TakesNode line hull pose triangles nodes boxes words order area top best (NothingFound (top - 1)) area
      takes_past e = record {
        holds = λ r on t reads k stands.
            node_passes t count (exact_answer r pose triangles) (opens_node (grid_line r) t) (left_first (grid_line r) t) k node
            (on_stack area (top - 1)) (says_nearest_so_far best.notes) (testing r t reads k stands) (sym (tested r on t reads) ∙ e);
        stands = omega arith;
      }

      pub takes_open : met ≡ true → {result : Step} {area' : List ℕ}
          → OpensNode line hull pose triangles nodes boxes words order area node (top - 1) best result area'
          → TakesNode line hull pose triangles nodes boxes words order area top best result area'
      takes_open e o = record {
        holds = λ r on t reads k stands. o.holds r on t reads k (sym (tested r on t reads) ∙ e) (testing r t reads k stands);
        stands = o.stands;
      }

  -- ---- the walk
  pub record WalkSoFar (area₀ area : List ℕ) (top left : ℕ) (best : Best) : Type 0 where
    pub long : length area ≡ length area₀
    pub room : top + left ≤ length area
    pub limited : Limited line best
    pub holds : (r : Ray) → Bounded r line hull → (t : Tree) → Reads t nodes boxes words order
        → Stands r pose triangles t left [] (on_stack area top) (says_nearest_so_far best.notes)

  pub walks_empty : nodes ≡ 0 → (notes : NearestSoFar) → says_nearest_so_far notes ≡ nothing
      → Walks line hull pose triangles nodes boxes words order (Some notes)
  unfolding exact_through
  walks_empty z notes e = record {
    holds = λ r on t reads.
        let lf = left_first (grid_line r) t in
        let opens = opens_node (grid_line r) t in
        let answer = exact_answer r pose triangles in
        let first = stands_empty t count answer opens lf (reads.counted ∙ z) in
        let now = subst (λ (s : Summary). Standing t count answer opens lf t.node_count [] [] s) (sym e) first in
        (stands_ended t count answer opens lf t.node_count (says_nearest_so_far notes) now, now.reached);
  }

  pub walk_begins : (entry : List ℕ) → nodes < length entry → 0 < nodes → (best : Best) (notes : NearestSoFar) → best.notes ≡ notes
      → says_nearest_so_far notes ≡ nothing → Limited line best → WalkSoFar (set entry 0 0) (set entry 0 0) 1 nodes best
  walk_begins entry h some best notes e z limited = record {
    long = refl;
    room = let same = length-set {A = ℕ} entry 0 0 in omega (arith, h, same);
    limited = limited;
    holds = λ r on t reads.
        let lf = left_first (grid_line r) t in
        let opens = opens_node (grid_line r) t in
        let answer = exact_answer r pose triangles in
        let first = stands_first t count answer opens lf (subst (λ (c : ℕ). 0 < c) (sym reads.counted) some) in
        let says : says_nearest_so_far best.notes ≡ nothing = ap (λ (w : NearestSoFar). says_nearest_so_far w) e ∙ z in
        subst (λ (c : ℕ). Standing t count answer opens lf c [] (on_stack (set entry 0 0) 1) (says_nearest_so_far best.notes))
        reads.counted
        (subst (λ (l : List ℕ). Standing t count answer opens lf t.node_count [] l (says_nearest_so_far best.notes))
        (sym (on_stack_root entry (omega (arith, h))))
        (subst (λ (s : Summary). Standing t count answer opens lf t.node_count [] (0 ∷ []) s) (sym says) first));
  }

  module _ (area₀ area : List ℕ) (top left : ℕ) (best : Best) (far : WalkSoFar area₀ area top left best) where
    pub walk_ended : top ≡ 0 → (notes : NearestSoFar) → notes ≡ best.notes → Walks line hull pose triangles nodes boxes words order
        (Some notes)
    unfolding exact_through
    walk_ended z notes e = record {
      holds = λ r on t reads.
          let lf = left_first (grid_line r) t in
          let opens = opens_node (grid_line r) t in
          let answer = exact_answer r pose triangles in
          let none : on_stack area top ≡ [] = ap (on_stack area) z ∙ on_stack_none area in
          let now =
          subst (λ (l : List ℕ). Standing t count answer opens lf left [] l (says_nearest_so_far best.notes)) none
          (far.holds r on t reads) in
          let now' = subst (λ (w : NearestSoFar). Standing t count answer opens lf left [] [] (says_nearest_so_far w)) (sym e) now in
          (stands_ended t count answer opens lf left (says_nearest_so_far notes) now', now'.reached);
    }

    pub walk_used_up : left ≡ 0 → 0 < top → Walks line hull pose triangles nodes boxes words order None
    unfolding exact_through
    walk_used_up z some = record {
      holds = λ r on t reads.
          let lf = left_first (grid_line r) t in
          let opens = opens_node (grid_line r) t in
          let answer = exact_answer r pose triangles in
          let s = says_nearest_so_far best.notes in
          let none = subst (λ (k : ℕ). Standing t count answer opens lf k [] (on_stack area top) s) z (far.holds r on t reads) in
          stands_used_up t count answer opens lf (word_at area (top - 1)) (on_stack area (top - 1)) s
          (subst (λ (l : List ℕ). Standing t count answer opens lf 0 [] l s) (on_stack_next area top some) none);
    }

    module _ (more : 0 < left) (some : 0 < top) where
      again : suc (left - 1) ≡ left
      again = omega (arith, more)

      next : (r : Ray) → Bounded r line hull → (t : Tree) → Reads t nodes boxes words order
          → Stands r pose triangles t (suc (left - 1)) [] (on_stack area top) (says_nearest_so_far best.notes)
      next r on t reads =
          subst (λ (k : ℕ). Stands r pose triangles t k [] (on_stack area top) (says_nearest_so_far best.notes)) (sym again)
          (far.holds r on t reads)

      pub walk_broken : (area' : List ℕ) (result : Step)
          → TakesNode line hull pose triangles nodes boxes words order area top best result area' → result ≡ Bad
          → Walks line hull pose triangles nodes boxes words order None
      walk_broken area' result taken e = record {
        holds = λ r on t reads.
            (subst (λ (w : Step). TakesNode line hull pose triangles nodes boxes words order area top best w area') e taken).holds r on t
            reads (left - 1) (next r on t reads);
      }

      pub walk_finds_nothing : (area' : List ℕ) (result : Step)
          → TakesNode line hull pose triangles nodes boxes words order area top best result area'
          → (top' : ℕ) → result ≡ NothingFound top' → length area' ≡ length area → WalkSoFar area₀ area' top' (left - 1) best
      walk_finds_nothing area' result taken top' e same =
          let known = subst (λ (w : Step). TakesNode line hull pose triangles nodes boxes words order area top best w area') e taken in
          record {
            long = same ∙ far.long;
            room = omega (arith, known.stands, far.room, same, more, some);
            limited = far.limited;
            holds = λ r on t reads. known.holds r on t reads (left - 1) (next r on t reads);
          }

      pub walk_goes : (area' : List ℕ) (result : Step)
          → TakesNode line hull pose triangles nodes boxes words order area top best result area'
          → (top' : ℕ) (best' : Best) → result ≡ Next top' best' → length area' ≡ length area → WalkSoFar area₀ area' top' (left - 1) best'
      walk_goes area' result taken top' best' e same =
          let known = subst (λ (w : Step). TakesNode line hull pose triangles nodes boxes words order area top best w area') e taken in
          record {
            long = same ∙ far.long;
            room = omega (arith, known.stands.0, far.room, same, more, some);
            limited = known.stands.1;
            holds = λ r on t reads. known.holds r on t reads (left - 1) (next r on t reads);
          }
