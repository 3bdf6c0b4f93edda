-- The columns that are left: the first of them, then the rest. Assumes nothing.
use Rattle.std.proofs.Common.{◌≡◌, ◌+◌, ◌<◌, ◌≤◌, refl, sym, ap, ◌∙◌, Option, Result, arith}
use Rattle.nearest_hit.specs.Nearest.{says_indexed}
use Rattle.casts.specs.declared.answer.Refusal.{Refusal}
use Rattle.nearest_hit.specs.declared.nearest.IndexedHit.{IndexedHit}
use Rattle.height_field.specs.Listing.{list_cell}
use Rattle.height_field.specs.Cast.{answer_of}
use Rattle.height_field.specs.Pass.{going, ended}
use Rattle.casts.specs.Answer.{overflow}
use Rattle.height_field.proofs.CellPass.{pass_of_infinite}
use Rattle.height_field.proofs.ApartCells.{apart_lists_nothing}
use Rattle.height_field.proofs.ListingPass.{pass_goes, pass_ends, pass_done, row_cons, row_none}
use Rattle.height_field.proofs.pass.pass_row.Goals.{then-cell_touches, else-cell_touches}
use Rattle.height_field.proofs.pass.pass_row.Goals as goal

pub returns-then-not-cell_finite : goal.returns-then-not-cell_finite
returns-then-not-cell_finite c =
    let a = c.args in
    let at = c.loop-column in
    let within : at.column ≤ a.columns.last = omega arith in
    let inside : at.column + 1 < a.grid.field.columns = omega arith in
    let split = row_cons (list_cell a.grid.field a.grid.heights.now a.bounds) a.grid.field a.row at.column a.columns.last within in
    sym (pass_ends (answer_of a.ray a.grid.field a.grid.heights.now) (says_indexed at.best) _ _ _ (ended overflow) split
    (pass_of_infinite a.grid.field a.grid.heights.now a.row at.column inside a.ray a.bounds (says_indexed at.best)
    (sym c.cell_finite.ensures ∙ c.if-not-cell_finite.true)) _ refl) ∙ at.invariant

pub loop-column-preserved : goal.loop-column-preserved
loop-column-preserved c =
    let a = c.args in
    let at = c.loop-column in
    let answer = answer_of a.ray a.grid.field a.grid.heights.now in
    let best = says_indexed at.best in
    let within : at.column ≤ a.columns.last = omega arith in
    let inside : at.column + 1 < a.grid.field.columns = omega arith in
    let split = row_cons (list_cell a.grid.field a.grid.heights.now a.bounds) a.grid.field a.row at.column a.columns.last within in
    let onward = pass_goes answer best _ _ _ in
    let finite = sym c.cell_finite.ensures ∙ c.if-not-cell_finite.false in
    let says : (r q : Result (Option IndexedHit) Refusal) → r ≡ q → going (says_indexed q) ≡ going (says_indexed r) =
    λ r q e. ap (λ (x : Result (Option IndexedHit) Refusal). going (says_indexed x)) (sym e) in
    elim c.if-cell_touches.branch [
      | then-cell_touches w ↦
          sym (onward (going (says_indexed w.pass_cell-best.result)) split w.pass_cell-best.ensures _ (says _ _ w.best-is)) ∙ at.invariant
      | else-cell_touches w ↦
          let nothing = apart_lists_nothing a.grid.field a.grid.heights.now a.row at.column inside a.bounds finite
          (sym c.cell_touches.ensures ∙ w.if-cell_touches.false) in
          sym (onward (going best) split (sym (pass_done answer best _ nothing)) _ (says _ _ w.best-is)) ∙ at.invariant
    ]

pub returns : goal.returns
returns c =
    let a = c.args in
    let at = c.loop-column in
    let past : a.columns.last < at.column = omega arith in
    sym (pass_done (answer_of a.ray a.grid.field a.grid.heights.now) (says_indexed at.best) _
    (row_none (list_cell a.grid.field a.grid.heights.now a.bounds) a.grid.field a.row at.column a.columns.last past)) ∙ at.invariant
