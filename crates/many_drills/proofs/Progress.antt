-- Where the loop over the drills stands: the first drills' answers are at their places, and every slice is as long as it was. Assumes
-- nothing.
use Prim.Native.Nat.{ℕ, ◌+◌, ◌*◌, ◌<◌, ◌≤◌}
use mathlib.Core.Path.{◌≡◌, refl, ap, ◌∙◌}
use native.Mathlib.Omega.{arith}
use mathlib.Core.List.{List}
use lib.Ieee.{Float}
use lib.ListN.{length}
use Rattle.geometry.specs.declared.ray.Ray.{Ray}
use Rattle.tree.specs.Layout.{Tree}
use Rattle.tree.specs.Mesh.{Mesh}
use Rattle.mesh_drill.specs.MeshDrill.{DrillAnswer}
use Rattle.many_drills.specs.Many.{Places, ray_at, radius_at, answer_at, answers_of, tree_answer}
use Rattle.many_drills.proofs.Answers.{answers_next}

pub record Answered (answer : Ray → Float → DrillAnswer) (drills : List Float) (count i : ℕ) (before after : Places)
    (list₀ list stack₀ stack : List ℕ) : Type 0 where
  pub returned : after ≡ answers_of answer drills i before
  pub most : i ≤ count
  pub codes : length after.codes ≡ length before.codes
  pub indices : length after.indices ≡ length before.indices
  pub list_long : length list ≡ length list₀
  pub stack_long : length stack ≡ length stack₀

module _ (answer : Ray → Float → DrillAnswer) (drills : List Float) (count : ℕ) where
  -- before the first drill
  pub none_answered : (p : Places) (list stack : List ℕ) → Answered answer drills count 0 p p list list stack stack
  unfolding answers_of
  none_answered p list stack = record {
    returned = refl;
    most = omega arith;
    codes = refl;
    indices = refl;
    list_long = refl;
    stack_long = refl;
  }

  module _ (i : ℕ) (before p : Places) (list₀ list stack₀ stack : List ℕ) (less : i < count)
      (so_far : Answered answer drills count i before p list₀ list stack₀ stack) where
    -- the next drill and its places
    pub has_place : (9 * count ≤ length drills) × ((count ≤ length before.codes) × (count ≤ length before.indices))
        → (9 * i + 9 ≤ length drills) × ((i < length p.codes) × (i < length p.indices))
    has_place room = (
      omega (arith, room, less),
      (omega (arith, room, less, so_far.codes), omega (arith, room, less, so_far.indices)),
    )

    -- one more drill
    pub next_answered : (p' : Places) (list' stack' : List ℕ) → p' ≡ answer_at (answer (ray_at drills i) (radius_at drills i)) i p
        → length p'.codes ≡ length p.codes → length p'.indices ≡ length p.indices
        → length list' ≡ length list → length stack' ≡ length stack
        → Answered answer drills count (i + 1) before p' list₀ list' stack₀ stack'
    next_answered p' list' stack' e codes indices list_long stack_long = record {
      returned = answers_next answer drills i before p p' so_far.returned e;
      most = omega (arith, less);
      codes = codes ∙ so_far.codes;
      indices = indices ∙ so_far.indices;
      list_long = list_long ∙ so_far.list_long;
      stack_long = stack_long ∙ so_far.stack_long;
    }

-- work areas of the same lengths give the same answer
pub same_answer : (m : Mesh) (t : Tree) (list list' stack stack' : ℕ) → list ≡ list' → stack ≡ stack'
    → (r : Ray) (radius : Float) (i : ℕ) (p : Places)
    → answer_at (tree_answer m t list stack r radius) i p ≡ answer_at (tree_answer m t list' stack' r radius) i p
same_answer m t list list' stack stack' e f r radius i p =
    ap (λ (k : ℕ). answer_at (tree_answer m t k stack r radius) i p) e ∙ ap (λ (k : ℕ). answer_at (tree_answer m t list' k r radius) i p) f
