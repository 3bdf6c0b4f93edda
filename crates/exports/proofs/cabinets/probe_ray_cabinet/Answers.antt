-- The call answers as its definition says, keeps the work areas where no part is cast at, and what a caller reads back keeps the promises:
-- the two passes are what the definition's are.
use Rattle.std.proofs.Common.{length, subst, arith}
use Rattle.cabinet.specs.Found.{State, says_state}
use Rattle.cabinet.specs.Steps.{areas, Kept}
use Rattle.cabinet.proofs.Promises.{limits_hold}
use Rattle.exports.specs.CabinetResults.{cabinet_fits}
use Rattle.results.specs.Results.{ray_from}
use Rattle.exports.proofs.CabinetAnswers.{starts_second, ends_second, cabinet_answers, cabinet_keeps}
use Rattle.exports.proofs.CabinetReads.{cabinet_reads}
use Rattle.exports.proofs.cabinets.probe_ray_cabinet.Goals as goal

pub returns : goal.returns
returns c =
    let a = c.args in
    let ray = ray_from a.origin_x a.origin_y a.origin_z a.direction_x a.direction_y a.direction_z a.max_distance a.near_distance in
    let all = areas a.vertices.now a.triangles.now a.node_boxes.now a.triangle_boxes.now a.node_words.now a.order.now in
    let list = length a.list.now in
    let stack = length a.stack.now in
    let parts = a.parts.now in
    let fits = cabinet_fits (length a.hit.now) (length a.index.now) (length a.part.now) (length a.spent.now) in
    let start = c.begin-start in
    let end = c.cast_all-end in
    let half =
    starts_second all list stack (says_state start.result) parts _ _ _ c.look_from-looking.ensures c.look_all-looked.ensures
    c.second_pass-between.ensures in
    let whole = ends_second all list stack (says_state start.result) parts _ _ half end.ensures.0 in
    let answer =
    cabinet_answers ray all list stack a.limit fits parts (says_state start.result) (says_state end.result) start.ensures whole
    a.hit.now a.index.now a.part.now a.spent.now _ c.put_cabinet.ensures in (
      answer,
      cabinet_keeps ray all list stack a.limit fits parts (says_state start.result) start.ensures a.list.now end.new.list a.stack.now
          end.new.stack
          (subst (λ (s : State). Kept s a.list.now end.new.list a.stack.now end.new.stack) half end.ensures.1),
      limits_hold ray all list stack parts,
      cabinet_reads ray all list stack a.limit parts a.hit.now a.index.now a.part.now a.spent.now (omega arith) _ answer,
    )
