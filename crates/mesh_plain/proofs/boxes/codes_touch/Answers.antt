-- `mesh_plain::boxes::codes_touch` meets its contract. Assumes nothing.
use mathlib.Core.Path.{◌∙◌}
use native.Mathlib.Omega.{arith}
use Rattle.mesh_plain.proofs.CodeLaws.{first_vertex, first_placed, second_placed, third_placed, placed_touch}
use Rattle.mesh_plain.proofs.boxes.codes_touch.Goals as goal

-- each vertex has its place among the codes
pub offset_bounds-codes-word_at : goal.offset_bounds-codes-word_at
offset_bounds-codes-word_at c =
    let coded = c.requires.1 in
    let inside = c.requires.0.1 in
    omega (arith, c.word_at.ensures, first_vertex _ _ _ _ _ coded inside, first_placed _ _ _ _ _ coded inside, c.well_formed.0.1)

pub bounds-codes-word_at : goal.bounds-codes-word_at
bounds-codes-word_at c =
    let coded = c.requires.1 in
    let inside = c.requires.0.1 in
    omega (arith, c.word_at.ensures, first_vertex _ _ _ _ _ coded inside, first_placed _ _ _ _ _ coded inside)

pub offset_bounds-codes-word_at-2 : goal.offset_bounds-codes-word_at-2
offset_bounds-codes-word_at-2 c =
    let coded = c.requires.1 in
    let inside = c.requires.0.1 in
    omega (arith, c.word_at-2.ensures, second_placed _ _ _ _ _ coded inside, c.well_formed.0.1)

pub bounds-codes-word_at-2 : goal.bounds-codes-word_at-2
bounds-codes-word_at-2 c =
    let coded = c.requires.1 in
    let inside = c.requires.0.1 in
    omega (arith, c.word_at-2.ensures, second_placed _ _ _ _ _ coded inside)

pub offset_bounds-codes-word_at-3 : goal.offset_bounds-codes-word_at-3
offset_bounds-codes-word_at-3 c =
    let coded = c.requires.1 in
    let inside = c.requires.0.1 in
    omega (arith, c.word_at-3.ensures, third_placed _ _ _ _ _ coded inside, c.well_formed.0.1)

pub bounds-codes-word_at-3 : goal.bounds-codes-word_at-3
bounds-codes-word_at-3 c =
    let coded = c.requires.1 in
    let inside = c.requires.0.1 in
    omega (arith, c.word_at-3.ensures, third_placed _ _ _ _ _ coded inside)

pub returns : goal.returns
returns c =
    let coded = c.requires.1 in
    let inside = c.requires.0.1 in
    simp (c.word_at.ensures ∙ first_vertex _ _ _ _ _ coded inside, c.word_at-2.ensures, c.word_at-3.ensures)
    (placed_touch _ _ _ _ _ coded inside)
