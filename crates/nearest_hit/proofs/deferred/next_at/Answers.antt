-- `nearest_hit::deferred::next_at` meets its contract. Assumes nothing.
use mathlib.Core.Path.{sym, ap, ◌∙◌}
use Rattle.arithmetic.proofs.Order.{ne_self_is_nan}
use Rattle.vectors.specs.Vector.{normalizable}
use Rattle.vectors.proofs.NormalLaws.{told_direction, between_tells}
use Rattle.nearest_hit.specs.Nearest.{next_of}
use Rattle.nearest_hit.specs.Deferred.{says_near, faced_indexed}
use Rattle.nearest_hit.proofs.NextLaws.{next_none}
use Rattle.nearest_hit.proofs.DeferredLaws.{next_faced, cross_faces, cross_without}
use Rattle.nearest_hit.proofs.deferred.next_at.Goals as goal

-- flat
pub returns-then-is_flat-clause-result_value : goal.returns-then-is_flat-clause-result_value
returns-then-is_flat-clause-result_value c s =
    next_none _ _ ∙ ap (next_of _ _) (simp (sym c.is_flat.ensures, c.if-is_flat.true))

-- a distance that is not a number
pub returns-then-distance-clause-result_value : goal.returns-then-distance-clause-result_value
returns-then-distance-clause-result_value c s =
    let a = c.args in
    ap (faced_indexed s) (c.stopped.ensures.by_index a.index) ∙ next_faced s (says_near a.best) a.index _
    ∙ ap (next_of _ _) (simp (sym c.is_flat.ensures, c.if-is_flat.false, sym (ne_self_is_nan _) ∙ c.if-distance.true))

-- a dot that tells the length
pub returns-then-tells_length : goal.returns-then-tells_length
returns-then-tells_length c =
    let a = c.args in
    let told = between_tells _ _ c.tells_length.ensures c.if-tells_length.true in
    let directed = sym (told_direction c.cross-cross.result c.dot-square.result c.dot-square.ensures told.0 told.1) in
    let own = sym (ap normalizable c.cross-cross.ensures) ∙ directed in
    record {
      result_value = λ s.
          ap (faced_indexed s) c.nearer.ensures.result_value ∙ next_faced s (says_near a.best) a.index _
          ∙ ap (next_of _ _)
          (simp (
            sym c.is_flat.ensures,
            c.if-is_flat.false,
            sym (ne_self_is_nan _) ∙ c.if-distance.false,
            sym (cross_faces s a.a a.b a.distance own),
            c.cross-cross.ensures,
          ));
      hit_measured = λ h. c.nearer.ensures.hit_measured h (record { directs = directed; told = c.dot-square.ensures });
    }

-- one that does not, of a cross that has a direction
pub returns-then-is_normalizable-clause-result_value : goal.returns-then-is_normalizable-clause-result_value
returns-then-is_normalizable-clause-result_value c s =
    let a = c.args in
    let directed = sym c.is_normalizable.ensures ∙ c.if-is_normalizable.true in
    let own = sym (ap normalizable c.cross-cross.ensures) ∙ directed in
    ap (faced_indexed s) c.nearer-then-is_normalizable.ensures.result_value ∙ next_faced s (says_near a.best) a.index _
    ∙ ap (next_of _ _)
    (simp (
      sym c.is_flat.ensures,
      c.if-is_flat.false,
      sym (ne_self_is_nan _) ∙ c.if-distance.false,
      sym (cross_faces s a.a a.b a.distance own),
      c.cross-cross.ensures,
    ))

-- one that has none
pub returns-clause-result_value : goal.returns-clause-result_value
returns-clause-result_value c s =
    let a = c.args in
    let none = sym c.is_normalizable.ensures ∙ c.if-is_normalizable.false in
    let own = sym (ap normalizable c.cross-cross.ensures) ∙ none in
    ap (faced_indexed s) (c.stopped-2.ensures.by_index a.index) ∙ next_faced s (says_near a.best) a.index _
    ∙ ap (next_of _ _)
    (simp (
      sym c.is_flat.ensures,
      c.if-is_flat.false,
      sym (ne_self_is_nan _) ∙ c.if-distance.false,
      sym (cross_without s a.a a.b a.distance own),
    ))
