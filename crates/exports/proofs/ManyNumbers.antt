-- Every refusal of a call with many rays has a number below the codes. Assumes nothing.
use Prim.Native.Nat.{ℕ, ◌<◌}
use mathlib.Core.Path.{◌≡◌, refl, ap, subst}
use mathlib.Core.Bool.{Bool, true, false, cond}
use mathlib.Core.List.{List}
use borrow.Author.Tests.{ne_eqb, ltb-true}
use lib.Dec.{eqb, ltb}
use lib.Ieee.{Float}
use Rattle.geometry.specs.declared.ray.Ray.{Ray}
use Rattle.nearest_hit.specs.Nearest.{Indexed}
use Rattle.tree.specs.Layout.{Tree}
use Rattle.tree.specs.Mesh.{Mesh}
use Rattle.many_casts.specs.Many.{Places, ray_count, answers_of, many_tests, ReturnedMany, returned_many, many_returned}
use Rattle.results.specs.Results.{hit_code, done_code}
use Rattle.exports.proofs.RefusalNumbers.{Small, is_small, small_tests, tested}

-- the number, unless it says 'done'
unfoldable refusal_in : ReturnedMany → ℕ
refusal_in returned = cond (eqb returned.number done_code) 0 returned.number

chosen_small : (b : Bool) (k : ℕ) → ltb k 256 ≡ true → cond b 0 k < 256
chosen_small true k h = ltb-true 0 256 refl
chosen_small false k h = ltb-true k 256 h

refusal_read : (returned : ReturnedMany) → (returned.number ≡ done_code → ⊥) → refusal_in returned ≡ returned.number
unfolding refusal_in
refusal_read returned other = ap (λ (b : Bool). cond b 0 returned.number) (ne_eqb returned.number done_code other)

module _ (answer : Ray → Indexed) (rays : List Float) (m : Mesh) (pose : List Float) (t : Tree) (room : Bool) (p : Places) where
  stops : (k : ℕ) → ltb k 256 ≡ true → Small refusal_in (returned_many k p)
  unfolding refusal_in
  stops k h = is_small (chosen_small (eqb k done_code) k h)

  returned_small : Small refusal_in (many_returned answer rays m pose t room p)
  unfolding many_returned small_tests refusal_in
  returned_small =
      tested refusal_in (λ (number : ℕ). returned_many number p) stops (many_tests rays m pose t room p)
      (returned_many done_code (answers_of answer rays (ray_count rays) p)) refl (is_small (ltb-true 0 256 refl))

  pub many_small : ((many_returned answer rays m pose t room p).number ≡ done_code → ⊥) → (many_returned answer rays m pose t room p).number
      <
      hit_code
  many_small other =
      subst (λ (n : ℕ). n < hit_code) (refusal_read (many_returned answer rays m pose t room p) other) returned_small.below
