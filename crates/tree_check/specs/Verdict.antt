-- The answer of the tree check: "A tree passes the check if the check, with a mark area long enough, says yes". Definitions only. Assumes
-- nothing.
use Rattle.std.specs.Prelude.{ℕ, ◌*◌, ◌≡◌, Bool, cond, List, [], ◌∷◌, ◌++◌, Result, Ok, Err, length}
use Rattle.casts.specs.Answer.{bad_shape, no_room, number_of}
use Rattle.casts.specs.declared.answer.Refusal.{Refusal}
use Rattle.lists.specs.Refusals.{Test, refusing, unless_refused}
use Rattle.tree.specs.Layout.{Tree, lent, all_long, tree_lengths}
use Rattle.tree.specs.Mesh.{Mesh, thirds, lengths_admitted}
use Rattle.tree_check.specs.Check.{tree_passes}

-- an answer in document 01's words
pub data Ruling : Type 0 where
  yes : Ruling
  no : Ruling
  refused : ℕ → Ruling

-- what each case of the code's answer says
abbrev pub says : Result Bool Refusal → Ruling
says (Ok passes) = cond passes yes no
says (Err refusal) = refused (number_of refusal)

-- the tree's areas; "Its mark area is u32, 3n"
unfoldable pub room_for : ℕ → ℕ → ℕ → ℕ → ℕ → ℕ → Bool
room_for n node_boxes triangle_boxes node_words order marks =
    all_long (tree_lengths n node_boxes triangle_boxes node_words order ++ (lent (3 * n) marks ∷ []))

-- a bad shape is 2, a slice or a mark area shorter than stated 3
abbrev pub check_tests : Mesh → Tree → ℕ → List Test
check_tests m t marks =
    refusing bad_shape (lengths_admitted (length m.vertices) (length m.triangles))
    ∷ (refusing no_room
    (room_for (thirds (length m.triangles)) (length t.node_boxes) (length t.triangle_boxes) (length t.node_words)
    (length t.order) marks)
    ∷ [])

-- else yes exactly when the tree passes
unfoldable pub check_of : Mesh → Tree → ℕ → Ruling
check_of m t marks = unless_refused refused (check_tests m t marks) (cond (tree_passes m t) yes no)

-- the marks after it: after 2 and 3 "unchanged"; "after a call that did not refuse" they "may hold anything"
abbrev pub marks_after : Ruling → List ℕ → List ℕ → List ℕ
marks_after yes before after = after
marks_after no before after = after
marks_after (refused number) before after = before

-- what the call promises: its ruling, and the marks
abbrev pub Checks : Mesh → Tree → List ℕ → List ℕ → Ruling → Type 0
Checks m t before after ruling = (ruling ≡ check_of m t (length before)) × (after ≡ marks_after ruling before after)
