-- Where the loop over the rays stands: the first rays' answers are at their places, and every slice is as long as it was. Assumes nothing.
use Prim.Native.Nat.{ℕ, ◌+◌, ◌*◌, ◌<◌, ◌≤◌}
use mathlib.Core.Path.{◌≡◌, refl, sym, ap, ◌∙◌, subst}
use mathlib.Core.Bool.{Bool, ◌&&◌}
use native.Mathlib.Omega.{arith}
use mathlib.Core.List.{List}
use lib.Dec.{leb}
use lib.Ieee.{Float}
use lib.ListN.{length}
use Rattle.geometry.specs.declared.ray.Ray.{Ray}
use Rattle.nearest_hit.specs.Nearest.{Indexed}
use Rattle.tree.specs.Layout.{Tree}
use Rattle.tree.specs.Mesh.{Mesh}
use Rattle.tree_query.specs.Query.{tree_fits, walk_fits}
use Rattle.many_casts.specs.Ready.{Ready}
use Rattle.many_casts.specs.Many.{Places, ray_at, answer_at, answers_of, mesh_answer, exact_answer}
use Rattle.many_casts.proofs.Answers.{answers_next}

pub record Answered (answer : Ray → Indexed) (rays : List Float) (count i : ℕ) (before after : Places)
    (list₀ list stack₀ stack : List ℕ) : Type 0 where
  pub returned : after ≡ answers_of answer rays i before
  pub most : i ≤ count
  pub codes : length after.codes ≡ length before.codes
  pub hits : length after.hits ≡ length before.hits
  pub indices : length after.indices ≡ length before.indices
  pub list_long : length list ≡ length list₀
  pub stack_long : length stack ≡ length stack₀

module _ (answer : Ray → Indexed) (rays : List Float) (count : ℕ) where
  -- before the first ray
  pub none_answered : (p : Places) (list stack : List ℕ) → Answered answer rays count 0 p p list list stack stack
  unfolding answers_of
  none_answered p list stack = record {
    returned = refl;
    most = omega arith;
    codes = refl;
    hits = refl;
    indices = refl;
    list_long = refl;
    stack_long = refl;
  }

  module _ (i : ℕ) (before p : Places) (list₀ list stack₀ stack : List ℕ) (less : i < count)
      (so_far : Answered answer rays count i before p list₀ list stack₀ stack) where
    -- the next ray and its places
    pub has_place : (8 * count ≤ length rays)
        × ((count ≤ length before.codes) × ((4 * count ≤ length before.hits) × (count ≤ length before.indices)))
        → (8 * i + 8 ≤ length rays) × ((i < length p.codes) × ((4 * i + 4 ≤ length p.hits) × (i < length p.indices)))
    has_place room = (
      omega (arith, room, less),
      (
        omega (arith, room, less, so_far.codes),
        (omega (arith, room, less, so_far.hits), omega (arith, room, less, so_far.indices)),
      ),
    )

    -- one more ray
    pub next_answered : (p' : Places) (list' stack' : List ℕ) → p' ≡ answer_at (answer (ray_at rays i)) i p
        → length p'.codes ≡ length p.codes → length p'.hits ≡ length p.hits → length p'.indices ≡ length p.indices
        → length list' ≡ length list → length stack' ≡ length stack
        → Answered answer rays count (i + 1) before p' list₀ list' stack₀ stack'
    next_answered p' list' stack' e codes hits indices list_long stack_long = record {
      returned = answers_next answer rays i before p p' so_far.returned e;
      most = omega (arith, less);
      codes = codes ∙ so_far.codes;
      hits = hits ∙ so_far.hits;
      indices = indices ∙ so_far.indices;
      list_long = list_long ∙ so_far.list_long;
      stack_long = stack_long ∙ so_far.stack_long;
    }

-- work areas of the same lengths are as long as before
pub still_ready : {m : Mesh} {pose : List Float} {t : Tree} {room room' : Bool} → room ≡ room' → Ready m pose t room' → Ready m pose t room
still_ready {m} {pose} {t} e ready = subst (Ready m pose t) (sym e) ready

pub walk_room : (n : ℕ) (t : Tree) (list list' stack stack' : ℕ) → list ≡ list' → stack ≡ stack'
    → walk_fits n t list stack ≡ walk_fits n t list' stack'
walk_room n t list list' stack stack' e f = ap (λ (k : ℕ). walk_fits n t k stack) e ∙ ap (walk_fits n t list') f

pub tree_room : (n : ℕ) (t : Tree) (k stack stack' : ℕ) → stack ≡ stack' → (tree_fits n t && leb k stack) ≡ (tree_fits n t && leb k stack')
tree_room n t k stack stack' e = ap (λ (m : ℕ). tree_fits n t && leb k m) e

-- work areas of the same lengths give the same answer
pub same_answer : (m : Mesh) (pose : List Float) (t : Tree) (list list' stack stack' : ℕ) → list ≡ list' → stack ≡ stack'
    → (r : Ray) (i : ℕ) (p : Places)
    → answer_at (mesh_answer m pose t list stack r) i p ≡ answer_at (mesh_answer m pose t list' stack' r) i p
same_answer m pose t list list' stack stack' e f r i p =
    ap (λ (k : ℕ). answer_at (mesh_answer m pose t k stack r) i p) e ∙ ap (λ (k : ℕ). answer_at (mesh_answer m pose t list' k r) i p) f

pub same_exact : (m : Mesh) (pose : List Float) (t : Tree) (stack stack' : ℕ) → stack ≡ stack' → (r : Ray) (i : ℕ) (p : Places)
    → answer_at (exact_answer m pose t stack r) i p ≡ answer_at (exact_answer m pose t stack' r) i p
same_exact m pose t stack stack' e r i p = ap (λ (k : ℕ). answer_at (exact_answer m pose t k r) i p) e
