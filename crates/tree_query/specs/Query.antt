-- The query of a box: its refusals, its list and its answer. Definitions only. Assumes nothing.
use Rattle.std.specs.Prelude.{ℕ, ◌+◌, ◌*◌, ◌≡◌, Bool, false, ◌&&◌, List, [], ◌∷◌, ◌++◌, Result, Ok, Err, leb, length, drop, replicate}
use Rattle.geometry.specs.Box.{valid_box}
use Rattle.geometry.specs.declared.aabb.Aabb.{Aabb}
use Rattle.casts.specs.Answer.{invalid_input, bad_shape, no_room, out_of_bounds, number_of}
use Rattle.casts.specs.declared.answer.Refusal.{Refusal}
use Rattle.lists.specs.Refusals.{Test, refusing, unless_refused, all_pass}
use Rattle.tree.specs.Layout.{Tree, all_long, tree_lengths}
use Rattle.tree_walk.specs.Walk.{Walking, walking, broken, walk_of}

-- how many triangles are listed, or a refusal number
pub data Listing : Type 0 where
  count : ℕ → Listing
  refused : ℕ → Listing

-- what each case of the code's answer says
abbrev pub says_listed : Result ℕ Refusal → Listing
says_listed (Ok k) = count k
says_listed (Err refusal) = refused (number_of refusal)

-- the answer, and what the list's area holds afterwards
pub record Queried : Type 0 where
  pub answer : Listing
  pub list : List ℕ

-- "up to .. 65,536 triangles"; "a node count above 2n is 2"
unfoldable pub counts_admitted : ℕ → ℕ → Bool
counts_admitted n nodes = leb n 65536 && leb nodes (2 * n)

-- the tree's areas
unfoldable pub tree_fits : ℕ → Tree → Bool
tree_fits n t =
    all_long (tree_lengths n (length t.node_boxes) (length t.triangle_boxes) (length t.node_words) (length t.order))

-- with the walk's: "list area n, stack area node count + 1"
unfoldable pub walk_fits : ℕ → Tree → ℕ → ℕ → Bool
walk_fits n t list stack = tree_fits n t && (leb n list && leb (t.node_count + 1) stack)

-- "Query lists touching triangles ascending, the rest of its area unchanged"; after a 5 "zeros fill every place"
unfoldable pub after_walk : List ℕ → Walking → Queried
after_walk area (walking stack list) = record { answer = count (length list); list = list ++ drop (length list) area }
after_walk area broken = record { answer = refused out_of_bounds; list = replicate (length area) 0 }

-- 1 before 2, 2 before 3
abbrev pub query_tests : Aabb → ℕ → Tree → ℕ → ℕ → List Test
query_tests box n t list stack =
    refusing invalid_input (valid_box box)
    ∷ (refusing bad_shape (counts_admitted n t.node_count) ∷ (refusing no_room (walk_fits n t list stack) ∷ []))

-- until they let the call pass the lent areas are unchanged, and after it the stack "may hold anything"
unfoldable pub tests_pass : Aabb → ℕ → Tree → ℕ → ℕ → Bool
tests_pass box n t list stack = all_pass (query_tests box n t list stack)

unfoldable pub query_of : Aabb → ℕ → Tree → List ℕ → ℕ → Queried
query_of box n t area stack =
    unless_refused (λ (number : ℕ). record { answer = refused number; list = area }) (query_tests box n t (length area) stack)
    (after_walk area (walk_of t n box))

-- what the call promises: its answer with the list, and the stack, which until the tests let the call pass is unchanged
abbrev pub Queries : Aabb → ℕ → Tree → List ℕ → List ℕ → List ℕ → Queried → Type 0
Queries box n t list before after queried =
    (queried ≡ query_of box n t list (length before)) × (tests_pass box n t (length list) (length before) ≡ false → after ≡ before)
