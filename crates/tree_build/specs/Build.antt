-- Document 01's build: the answer, and what the lent areas hold after it. Definitions only. Assumes nothing.
use Rattle.std.specs.Prelude.{ℕ, ◌≡◌, Bool, false, cond, List, [], ◌∷◌, ◌++◌, Result, Ok, Err, eqb, length, replicate}
use Rattle.vectors.specs.Numbers.{zeroᶠ}
use Rattle.lists.specs.Lists.{range, over}
use Rattle.lists.specs.Refusals.{Test, refusing, unless_refused, all_pass}
use Rattle.casts.specs.Answer.{bad_shape, no_room, out_of_bounds, overflow, number_of}
use Rattle.casts.specs.declared.answer.Refusal.{Refusal}
use Rattle.tree.specs.Layout.{Areas, lent, all_long, tree_lengths}
use Rattle.tree.specs.Mesh.{Mesh, lengths_admitted, triangle_count, triangles_fit, boxes_written}
use Rattle.tree_build.specs.Shape.{shape_of, nodes_of, words_of}
use Rattle.tree_build.specs.Ranges.{extents_finite, order_below, boxes_below}

-- "the build returns the node count", or a refusal's number
pub data Answer : Type 0 where
  nodes : ℕ → Answer
  refused : ℕ → Answer

-- what each case of the code's answer says
abbrev pub says : Result ℕ Refusal → Answer
says (Ok count) = nodes count
says (Err refusal) = refused (number_of refusal)

pub record Outcome : Type 0 where
  pub answer : Answer
  pub after : Areas

abbrev pub outcome : Answer → Areas → Outcome
outcome answer after = record { answer = answer; after = after }

-- "Zeros fill every place of the result areas"
unfoldable pub zeroed : Areas → Areas
zeroed a = record {
  node_boxes = replicate (length a.node_boxes) zeroᶠ;
  triangle_boxes = replicate (length a.triangle_boxes) zeroᶠ;
  node_words = replicate (length a.node_words) 0;
  order = replicate (length a.order) 0;
}

-- the tree's areas, and "work n"
unfoldable pub room_for : ℕ → Areas → ℕ → Bool
room_for n a work =
    all_long (tree_lengths n (length a.node_boxes) (length a.triangle_boxes) (length a.node_words) (length a.order) ++
    (lent n work ∷ []))

module _ (m : Mesh) where
  -- "then recursion", over all triangles in their order
  unfoldable pub tree_written : Areas → Areas
  tree_written a = record {
    node_boxes = over (boxes_below (boxes_written m a.triangle_boxes) (shape_of (triangle_count m)) (range 0 (triangle_count m)))
        a.node_boxes;
    triangle_boxes = boxes_written m a.triangle_boxes;
    node_words = over (words_of 0 0 (shape_of (triangle_count m))) a.node_words;
    order = over (order_below (boxes_written m a.triangle_boxes) (shape_of (triangle_count m)) (range 0 (triangle_count m))) a.order;
  }

  -- the build of an admitted mesh with room: "Zero triangles is 5"; "extent not finite is 6"
  unfoldable pub built_of : Areas → Outcome
  built_of a =
      cond (eqb (triangle_count m) 0) record { answer = refused out_of_bounds; after = zeroed a }
      (cond (triangles_fit m)
      (cond (extents_finite (boxes_written m a.triangle_boxes) (shape_of (triangle_count m)) (range 0 (triangle_count m)))
      record { answer = nodes (nodes_of (shape_of (triangle_count m))); after = tree_written a }
      record { answer = refused overflow; after = zeroed a })
      record { answer = refused out_of_bounds; after = zeroed a })

  -- 2 before 3
  abbrev pub build_tests : Areas → ℕ → List Test
  build_tests a work =
      refusing bad_shape (lengths_admitted (length m.vertices) (length m.triangles)) ∷
      (refusing no_room (room_for (triangle_count m) a work) ∷ [])

  -- until they let the call pass the lent areas are unchanged, and after it the work area "may hold anything"
  unfoldable pub tests_pass : Areas → ℕ → Bool
  tests_pass a work = all_pass (build_tests a work)

  -- the whole call; the last argument is the length of the work area, which may hold anything afterwards
  unfoldable pub build_of : Areas → ℕ → Outcome
  build_of a work = unless_refused (λ (number : ℕ). record { answer = refused number; after = a }) (build_tests a work) (built_of a)

  -- what the call promises: its answer with the result areas, and the work area, which until the tests let the call pass is unchanged
  abbrev pub Builds : Areas → List ℕ → List ℕ → Outcome → Type 0
  Builds a before after done = (done ≡ build_of a (length before)) × (tests_pass a (length before) ≡ false → after ≡ before)
