-- A sum that is finite has finite numbers: an infinity or NaN stays in it. Assumes nothing.
use Prim.Native.Nat.{ℕ, ◌+◌, ◌*◌, ◌<◌, ◌≤◌}
use mathlib.Core.Path.{◌≡◌, refl, sym, ap, ◌∙◌}
use mathlib.Core.Bool.{Bool, true, ◌&&◌, beq, false≢true}
use mathlib.Core.List.{List}
use mathlib.Core.Logic.{◌⊎◌, inl, inr}
use native.Mathlib.Omega.{arith}
use lib.Ieee.{Float, nan, inf, fin, add}
use lib.ListN.{length}
use Rattle.arithmetic.specs.Basic.{is_finite}
use Rattle.vectors.specs.Numbers.{◌+ᶠ◌}
use Rattle.vectors.specs.Vector.{finite_vec, add_of}
use Rattle.vectors.specs.declared.vec3.Vec3.{Vec3}
use Rattle.lists.proofs.JoinedTests.{and_first, and_second, and_three}
use Rattle.lists.proofs.CountLaws.{same_or_other}
use Rattle.casts.proofs.LateTests.{endless_or_nan}
use Rattle.tree.specs.Layout.{vector_at}
use Rattle.tree.specs.Mesh.{thirds}
use Rattle.mesh_plain.specs.Boxes.{AllFinite}

first_finite : (x y : Float) → is_finite (x +ᶠ y) ≡ true → is_finite x ≡ true
unfolding is_finite add
first_finite nan y h = h
first_finite (inf s) nan h = h
first_finite (inf s) (inf t) h = absurd (false≢true (sym (endless_or_nan (beq s t) s) ∙ h))
first_finite (inf s) (fin t n d) h = h
first_finite (fin s m e) y h = refl

second_finite : (x y : Float) → is_finite (x +ᶠ y) ≡ true → is_finite y ≡ true
unfolding is_finite add
second_finite nan nan h = h
second_finite nan (inf t) h = h
second_finite nan (fin t n d) h = refl
second_finite (inf s) nan h = h
second_finite (inf s) (inf t) h = absurd (false≢true (sym (endless_or_nan (beq s t) s) ∙ h))
second_finite (inf s) (fin t n d) h = refl
second_finite (fin s m e) nan h = h
second_finite (fin s m e) (inf t) h = h
second_finite (fin s m e) (fin t n d) h = refl

-- ---- vectors
module _ (v : Vec3) where
  abbrev later : Bool
  later = is_finite v.y && is_finite v.z

  -- a vector whose numbers have a finite sum
  pub sum_finite : is_finite ((v.x +ᶠ v.y) +ᶠ v.z) ≡ true → finite_vec v ≡ true
  unfolding finite_vec
  sum_finite h =
      let front = first_finite (v.x +ᶠ v.y) v.z h in
      and_three (is_finite v.x) (is_finite v.y) (is_finite v.z) (first_finite v.x v.y front)
      (second_finite v.x v.y front) (second_finite (v.x +ᶠ v.y) v.z h)

  module _ (w : Vec3) (h : finite_vec (add_of v w) ≡ true) where
    on_x_lem : is_finite (v.x +ᶠ w.x) ≡ true
    unfolding finite_vec add_of
    on_x_lem = and_first (is_finite (v.x +ᶠ w.x)) (is_finite (v.y +ᶠ w.y) && is_finite (v.z +ᶠ w.z)) h

    on_others : (is_finite (v.y +ᶠ w.y) && is_finite (v.z +ᶠ w.z)) ≡ true
    unfolding finite_vec add_of
    on_others = and_second (is_finite (v.x +ᶠ w.x)) (is_finite (v.y +ᶠ w.y) && is_finite (v.z +ᶠ w.z)) h

    on_y_lem : is_finite (v.y +ᶠ w.y) ≡ true
    on_y_lem = and_first (is_finite (v.y +ᶠ w.y)) (is_finite (v.z +ᶠ w.z)) on_others

    on_z_lem : is_finite (v.z +ᶠ w.z) ≡ true
    on_z_lem = and_second (is_finite (v.y +ᶠ w.y)) (is_finite (v.z +ᶠ w.z)) on_others

    pub first_of_sum : finite_vec v ≡ true
    unfolding finite_vec
    first_of_sum =
        and_three (is_finite v.x) (is_finite v.y) (is_finite v.z) (first_finite v.x w.x on_x_lem)
        (first_finite v.y w.y on_y_lem) (first_finite v.z w.z on_z_lem)

    pub second_of_sum : finite_vec w ≡ true
    unfolding finite_vec
    second_of_sum =
        and_three (is_finite w.x) (is_finite w.y) (is_finite w.z) (second_finite v.x w.x on_x_lem)
        (second_finite v.y w.y on_y_lem) (second_finite v.z w.z on_z_lem)

-- ---- the vertices before a place
module _ (xs : List Float) where
  pub record Summed (sum : Vec3) (i : ℕ) : Type 0 where
    pub within : i ≤ thirds (length xs)
    pub each : finite_vec sum ≡ true → (j : ℕ) → j < i → finite_vec (vector_at xs (3 * j)) ≡ true

  pub summed_begins : (sum : Vec3) → Summed sum 0
  summed_begins sum = record { within = omega arith; each = λ h j k. absurd (omega (arith, k)) }

  module _ (sum : Vec3) (i : ℕ) (s : Summed sum i) where
    pub summed_goes : i < thirds (length xs) → (v : Vec3) → v ≡ vector_at xs (3 * i) → (next : Vec3) → next ≡ add_of sum v
        → Summed next (i + 1)
    summed_goes h v e next f = record { within = omega arith; each = λ y j k. go j k (same_or_other j i) (sym (ap finite_vec f) ∙ y) }
      where
        go : (j : ℕ) → j < i + 1 → (j ≡ i) ⊎ (j ≡ i → ⊥) → finite_vec (add_of sum v) ≡ true → finite_vec (vector_at xs (3 * j)) ≡ true
        go j k (inl q) y = ap (λ (z : ℕ). finite_vec (vector_at xs (3 * z))) q ∙ sym (ap finite_vec e) ∙ second_of_sum sum v y
        go j k (inr q) y = s.each (first_of_sum sum v y) j (omega (arith, k, q))

    pub summed_ends : thirds (length xs) ≤ i → is_finite ((sum.x +ᶠ sum.y) +ᶠ sum.z) ≡ true → AllFinite xs
    summed_ends h y = record { each = λ j l. s.each (sum_finite sum y) j (omega (arith, l, h)) }
