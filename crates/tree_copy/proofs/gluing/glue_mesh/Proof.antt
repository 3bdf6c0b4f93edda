-- `tree_copy::gluing::glue_mesh` meets its contract. Assumes nothing.
use mathlib.Core.Path.{◌∙◌}
use lib.ListN.{length}
use Rattle.tree.specs.Mesh.{thirds}
use Rattle.tree_copy.proofs.JoinLaws.{whole_joined, whole_moved}
use borrow.Author.Rules.{rules}
use Rattle.tree_copy.proofs.gluing.glue_mesh.Statement.{statement}
use Rattle.tree_copy.proofs.gluing.glue_mesh.Tie as tie

returns : tie.Need-returns
returns c =
    let (start, at-join-numbers, at-join-words) : tie.Start × tie.After-join_numbers × tie.After-join_words = search in
    let a = start.args in (
      at-join-numbers.join_numbers.ensures
          ∙ whole_joined a.first_vertices.now a.second_vertices.now a.vertices.now,
      at-join-words.join_words.ensures
          ∙ whole_moved a.first_triangles.now a.second_triangles.now a.triangles.now (thirds (length a.first_vertices.now)),
    )

pub glue_mesh_spec : {M : Type 1} → statement M
glue_mesh_spec =
    tie.close
    (tie.spec
    (λ c κs. search rules)  -- join_numbers-requires
    (λ c κs. search rules)  -- join_words-requires
    (search rules)  -- shape_of-vertices
    (search rules)  -- shape_of-triangles
    returns)
