-- A pass that casts at no part stays one: it leaves the work areas as they were. Assumes nothing.
use Prim.Native.Nat.{ℕ, ◌*◌, ◌-◌}
use mathlib.Core.Path.{◌≡◌, refl, sym, ap, ◌∙◌}
use mathlib.Core.Bool.{Bool, true, false, ◌&&◌, cond, true≢false}
use lib.Dec.{leb}
use lib.ListN.{length}
use Rattle.casts.specs.Answer.{bad_shape, no_room}
use Rattle.tree.specs.Layout.{Tree}
use Rattle.tree.specs.Mesh.{Mesh, thirds, lengths_admitted}
use Rattle.tree_query.specs.Query.{walk_fits}
use Rattle.vectors.specs.declared.vec3.Vec3.{Vec3}
use Rattle.cabinet.specs.declared.part.Part.{Part}
use Rattle.cabinet.specs.Found.{State}
use Rattle.cabinet.specs.Parts.{Areas, mesh_of, tree_of_part, ranges_inside}
use Rattle.cabinet.specs.PartCast.{cast_moved}
use Rattle.cabinet.specs.Cabinet.{is_refused, after_part}
use Rattle.cabinet.specs.Steps.{keeping, refuse_with, is_over, is_idle, own_step, step_part}

-- a state that looks is idle
looks_idle : (s : State) → s.casting ≡ false → is_idle s ≡ true
unfolding is_idle
looks_idle s e = simp e

-- each case of a step keeps the flag
own_looks : (origin : Vec3) (m : Mesh) (t : Tree) (list stack : ℕ) (s : State) → s.casting ≡ false → (own_step origin m t list stack s
    ).casting ≡ false
unfolding own_step refuse_with
own_looks origin m t list stack s e =
    go (lengths_admitted (length m.vertices) (length m.triangles) && leb t.node_count (2 * thirds (length m.triangles)))
    (walk_fits (thirds (length m.triangles)) t list stack) s.casting e
    (keeping s (after_part s.at (cast_moved (s.limit - s.at.spent) s.ray origin m t)))
  where
    go : (x y z : Bool) → z ≡ false → (cast : State)
        → (cond x (cond y (cond z cast s) (refuse_with no_room s)) (refuse_with bad_shape s)).casting ≡ false
    go false y z h cast = e
    go true false z h cast = e
    go true true false h cast = e
    go true true true h cast = absurd (true≢false h)

part_looks : (a : Areas) (list stack : ℕ) (s : State) (p : Part) → s.casting ≡ false → (step_part a list stack s p).casting ≡ false
unfolding step_part refuse_with
part_looks a list stack s p e =
    go (is_over s)
    (ranges_inside p (length a.vertices) (length a.triangles) (length a.node_boxes) (length a.triangle_boxes)
    (length a.node_words)
    (length a.order))
    (own_step p.origin (mesh_of a p) (tree_of_part a p) list stack s) (own_looks p.origin (mesh_of a p) (tree_of_part a p) list stack s e)
  where
    go : (x y : Bool) (own : State) → own.casting ≡ false → (cond x s (cond y own (refuse_with bad_shape s))).casting ≡ false
    go true y own h = e
    go false true own h = h
    go false false own h = e

-- a refusal ends the second pass
idle_refuses : (s : State) → s.casting ≡ true → is_idle s ≡ true → is_refused s.at.found ≡ true
unfolding is_idle
idle_refuses s e idle = sym (simp e) ∙ idle

refused_stays : (a : Areas) (list stack : ℕ) (s : State) (p : Part) → s.casting ≡ true → is_refused s.at.found ≡ true
    → step_part a list stack s p ≡ s
unfolding step_part is_over
refused_stays a list stack s p e f = simp (e, f)

pub idle_stays : (a : Areas) (list stack : ℕ) (s : State) (p : Part) → is_idle s ≡ true → is_idle (step_part a list stack s p) ≡ true
idle_stays a list stack s p idle = go s.casting refl
  where
    go : (b : Bool) → s.casting ≡ b → is_idle (step_part a list stack s p) ≡ true
    go false e = looks_idle (step_part a list stack s p) (part_looks a list stack s p e)
    go true e = ap is_idle (refused_stays a list stack s p e (idle_refuses s e idle)) ∙ idle
