-- What the drill's answer about a mesh says of the part as drawn. Assumes nothing.
use Rattle.std.proofs.Common.{◌≡◌, ℕ, Bool, true, false, sym, refl, ◌∙◌, subst, lit<}
use lib.Ieee.{Float}
use Rattle.geometry.specs.Segment.{ray_admitted}
use Rattle.geometry.specs.declared.ray.Ray.{Ray}
use Rattle.casts.specs.Answer.{invalid_input, out_of_range}
use Rattle.tree.specs.Mesh.{Mesh}
use Rattle.exact_triangle.specs.Grid.{within, grid_admitted}
use Rattle.mesh_exact.proofs.Ranges.{vector_finite}
use Rattle.mesh_drill.specs.MeshDrill.{DrillAnswer, Clear, Touches, Stopped}
use Rattle.mesh_drill.specs.Radius.{widestᶠ, radius_admitted}
use Rattle.mesh_drill.specs.Drilling.{drill_plain, DrillAdmitted}
use Rattle.mesh_drill.specs.Part.{corner_of, PartAsDrawn}
use Rattle.mesh_drill.proofs.Answers.{ray_invalid, radius_invalid, ray_out, radius_out, drill_sure}
use Rattle.mesh_drill.proofs.Drawings.{drawing}
use Rattle.mesh_drill.proofs.Clearing.{clear_as_drawn, touched_as_drawn}

abbrev Answered : DrillAnswer → Type 0
Answered Clear = Unit {0}
Answered (Touches i) = Unit {0}
Answered (Stopped n) = ⊥

no_stop_clear : (n : ℕ) → Clear ≡ Stopped n → ⊥
no_stop_clear n e = subst Answered e tt

no_stop_touches : (i n : ℕ) → Touches i ≡ Stopped n → ⊥
no_stop_touches i n e = subst Answered e tt

-- an answer that is no refusal is about a ray and a radius that are admitted
admitted : (r : Ray) (radius : Float) (m : Mesh) → ((n : ℕ) → drill_plain r radius m ≡ Stopped n → ⊥) → DrillAdmitted r radius
admitted r radius m answered =
    go (ray_admitted r) (radius_admitted radius) (grid_admitted r) (within widestᶠ radius) refl refl refl refl
  where
    go : (p z q s : Bool) → ray_admitted r ≡ p → radius_admitted radius ≡ z → grid_admitted r ≡ q → within widestᶠ radius ≡ s
        → DrillAdmitted r radius
    go false z q s a b c d = absurd (answered invalid_input (sym (ray_invalid r radius m a)))
    go true false q s a b c d = absurd (answered invalid_input (sym (radius_invalid r radius m a b)))
    go true true false s a b c d = absurd (answered out_of_range (sym (ray_out r radius m a b c)))
    go true true true false a b c d = absurd (answered out_of_range (sym (radius_out r radius m a b c d)))
    go true true true true a b c d = record { ray = a; size = b; read = c; widest = d }

pub part_as_drawn : (r : Ray) (radius : Float) (m : Mesh) → PartAsDrawn r radius m (drill_plain r radius m)
part_as_drawn r radius m = record {
  has_drawing = λ answered i h.
      let a = admitted r radius m answered in
      let w = ((drill_sure r radius m).within answered).corners in
      drawing r radius (corner_of m i 0) (corner_of m i 1) (corner_of m i 2) a.ray a.size
      (vector_finite (corner_of m i 0) (w i 0 h (lit< tt))) (vector_finite (corner_of m i 1) (w i 1 h (lit< tt)))
      (vector_finite (corner_of m i 2) (w i 2 h (lit< tt)));
  clear = λ e i h.
      let a = admitted r radius m (λ n f. no_stop_clear n (sym e ∙ f)) in
      clear_as_drawn r radius (corner_of m i 0) (corner_of m i 1) (corner_of m i 2) a.ray a.read a.widest
      (λ s. (drill_sure r radius m).certain.clear e i (record { triangle = h; point = s }));
  touches = λ i e.
      let a = admitted r radius m (λ n f. no_stop_touches i n (sym e ∙ f)) in
      touched_as_drawn r radius (corner_of m i 0) (corner_of m i 1) (corner_of m i 2) a.ray a.read a.widest
      ((drill_sure r radius m).certain.touches i e).point;
}

-- the same of any answer that is the drill's without a tree
pub answer_as_drawn : (r : Ray) (radius : Float) (m : Mesh) (answer : DrillAnswer) → answer ≡ drill_plain r radius m
    → PartAsDrawn r radius m answer
answer_as_drawn r radius m answer e = subst (PartAsDrawn r radius m) (sym e) (part_as_drawn r radius m)
