-- The check's answer is yes exactly when lengths and room are as stated and the tree passes. Assumes nothing.
use Prim.Native.Nat.{ℕ}
use mathlib.Core.Path.{◌≡◌, refl}
use mathlib.Core.Bool.{Bool, true, false, cond}
use mathlib.Core.List.{List}
use native.Mathlib.Omega.{arith}
use lib.ListN.{length}
use Rattle.casts.specs.Answer.{bad_shape, no_room}
use Rattle.tree.specs.Layout.{Tree}
use Rattle.tree.specs.Mesh.{Mesh, thirds, lengths_admitted}
use Rattle.tree_check.specs.Check.{tree_passes}
use Rattle.tree_check.specs.Verdict.{yes, no, refused, room_for, check_of, marks_after}

-- the marks after a yes and after a no may hold anything
pub marks_open : (passes : Bool) (before after : List ℕ) → after ≡ marks_after (cond passes yes no) before after
marks_open true before after = refl
marks_open false before after = refl

chosen_yes : (shape room passes : Bool) → cond shape (cond room (cond passes yes no) (refused no_room)) (refused bad_shape) ≡ yes
    → passes ≡ true
chosen_yes true true true h = refl
chosen_yes true true false h = let z : ◌≡◌ {A = ℕ} 0 1 = cc in absurd (omega arith)
chosen_yes true false passes h = let z : ◌≡◌ {A = ℕ} 0 1 = cc in absurd (omega arith)
chosen_yes false room passes h = let z : ◌≡◌ {A = ℕ} 0 1 = cc in absurd (omega arith)

module _ (m : Mesh) (t : Tree) (marks : ℕ) where
  abbrev room : Bool
  room = room_for (thirds (length m.triangles)) (length t.node_boxes) (length t.triangle_boxes) (length t.node_words)
      (length t.order) marks

  pub yes_passes : check_of m t marks ≡ yes → tree_passes m t ≡ true
  unfolding check_of
  yes_passes h = chosen_yes (lengths_admitted (length m.vertices) (length m.triangles)) room (tree_passes m t) h

  pub passes_yes : lengths_admitted (length m.vertices) (length m.triangles) ≡ true → room ≡ true → tree_passes m t ≡ true → check_of m t
      marks ≡ yes
  unfolding check_of
  passes_yes admitted long passes = rw (admitted, long, passes)
