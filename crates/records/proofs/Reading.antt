-- What is read of a well-formed record by its plan is what the record says. Assumes nothing.
use Prim.Native.Nat.{ℕ, zero, suc, ◌+◌, ◌*◌, ◌<◌, ◌≤◌}
use mathlib.Core.Path.{◌≡◌, refl, sym, ap, subst, ◌∙◌}
use mathlib.Core.Bool.{Bool, true, false, cond}
use mathlib.Core.List.{List, [], ◌∷◌}
use native.Mathlib.Omega.{arith}
use lib.Dec.{T, eqb, leb, leb→le}
use lib.Ieee.{Float}
use lib.Ieee.Fits.{and_l, and_r}
use lib.ListN.{length, get_or, take, drop, replicate}
use lib.Seq.{sets, sets-eq, take_at}
use Rattle.vectors.specs.Numbers.{zeroᶠ}
use Rattle.geometry.specs.declared.ray.Ray.{Ray}
use Rattle.tree.specs.Layout.{vector_at}
use Rattle.float_forms.specs.declared.forms.Form.{Form}
use Rattle.float_forms.specs.declared.forms.Form.TheVariants.{First, Long, Short}
use Rattle.float_forms.specs.Forms.{size_of, rays_of}
use Rattle.float_forms.specs.Bytes.{numbers_of, words_of}
use Rattle.float_forms.proofs.RunLaws.{numbers_count, words_count}
use Rattle.record_bytes.specs.declared.shape.Plan.{Plan}
use Rattle.record_bytes.specs.Records.{many_counts, many_indices, kind_of, counts_of, said_of}
use Rattle.record_bytes.specs.Kinds.{byte_of}
use Rattle.record_bytes.specs.Plans.{Known}
use Rattle.record_bytes.proofs.Lengths.{Measured, read_measured}
use Rattle.record_bytes.proofs.Parts.{formed}
use Rattle.record_bytes.proofs.PlanLaws.{Sizes, sizes, said_counts, said_numbers, said_indices}
use Rattle.records.specs.Areas.{Sized}
use Rattle.records.specs.Shapes.{ray_by, shape_from, shape_by}
use Rattle.records.specs.Lines.{shape_text}

-- a place of a list has no default
pub no_default : {A : Type 0} (l : List A) (i : ℕ) (a b : A) → i < length l → get_or l i a ≡ get_or l i b
no_default [] i a b h = absurd (omega (arith, h))
no_default (x ∷ l) zero a b h = refl
no_default (x ∷ l) (suc i) a b h = no_default l i a b (omega (arith, h))

-- what was read to the front of an area
front_is : {A : Type 0} (area xs : List A) (n : ℕ) → length xs ≡ n → n ≤ length area → take n (sets area 0 xs) ≡ xs
front_is area xs n e room = ap (take n) (sets-eq xs area 0 (omega (arith, e, room))) ∙ take_at xs (drop (0 + length xs) area) n e

-- a ray has seven floats or eight
rays_least : (form : Form) → 7 ≤ rays_of form
rays_least First = omega arith
rays_least Long = omega arith
rays_least Short = omega arith

rays_most : (form : Form) → rays_of form ≤ 8
rays_most First = omega arith
rays_most Long = omega arith
rays_most Short = omega arith

pub rays_within : (form : Form) {count size : ℕ} → count ≡ rays_of form → 6 + size_of form * rays_of form ≤ size
    → (6 + size_of form * count ≤ size) × (count ≤ 8)
rays_within form e h = rw e (h, rays_most form)

-- near is 0 where it has seven
eight_read : (form : Form) (l : List ℕ)
    → ray_by (sets (replicate 8 zeroᶠ) 0 (numbers_of form (rays_of form) l)) ≡ ray_by (numbers_of form (rays_of form) l)
unfolding ray_by vector_at numbers_of
eight_read First l = refl
eight_read Long l = refl
eight_read Short l = refl

pub ray_read : (form : Form) (l : List ℕ) {count : ℕ} → count ≡ rays_of form
    → ray_by (sets (replicate 8 zeroᶠ) 0 (numbers_of form count l)) ≡ ray_by (numbers_of form (rays_of form) l)
ray_read form l e = rw e (eight_read form l)

-- a mesh has two counts, and no other kind has indices
few_indices : (form : Form) (kind : ℕ) (counts : List ℕ)
    → 2 + 8 * rays_of form + 4 * many_counts kind + 4 * many_indices kind counts ≤ 8192 → many_indices kind counts ≤ 2031
unfolding many_counts many_indices
few_indices form kind counts = go (eqb kind 3)
  where
    go : (b : Bool) → 2 + 8 * rays_of form + 4 * cond b 2 (cond (eqb kind 4) 2 (cond (eqb kind 5) 3 0))
        + 4 * cond b (3 * get_or counts 1 0) 0 ≤ 8192
        → cond b (3 * get_or counts 1 0) 0 ≤ 2031
    go true h = omega (arith, h, rays_least form)
    go false h = omega arith

module _ (form : Form) (l : List ℕ) (plan : Plan) (k : Known form l plan) where
  pub plan_sizes : Sizes form l plan
  plan_sizes = sizes form l plan k

  pub numbers_few : plan.numbers ≤ 1024
  numbers_few = omega (arith, plan_sizes.small)

  pub indices_few : plan.indices ≤ 2031
  indices_few =
      rw plan_sizes.indices_are
      (few_indices form (kind_of l) (counts_of form l)
      (omega (arith, plan_sizes.small, plan_sizes.counts_are, plan_sizes.indices_are)))

  -- the parts of the areas
  pub counts_read : (area : List ℕ) (place : ℕ) → place ≡ 6 + size_of form * rays_of form + 4 * 0 → plan.counts ≤ length area
      → take plan.counts (sets area 0 (words_of plan.counts (drop place l))) ≡ (said_of form l).counts
  counts_read area place e room =
      let at : place ≡ 6 + size_of form * rays_of form = omega (arith, e) in
      front_is area (words_of plan.counts (drop place l)) plan.counts (words_count plan.counts (drop place l)) room
      ∙ (ap (λ (n : ℕ). words_of plan.counts (drop n l)) at ∙ sym (said_counts form l plan plan_sizes))

  pub numbers_read : (area : List Float) (place : ℕ) → place ≡ 6 + size_of form * rays_of form + 4 * plan.counts
      → plan.numbers ≤ length area
      → take plan.numbers (sets area 0 (numbers_of form plan.numbers (drop place l))) ≡ (said_of form l).numbers
  numbers_read area place e room =
      front_is area (numbers_of form plan.numbers (drop place l)) plan.numbers (numbers_count form plan.numbers (drop place l)) room
      ∙ (ap (λ (n : ℕ). numbers_of form plan.numbers (drop n l)) e ∙ sym (said_numbers form l plan plan_sizes))

  pub indices_read : (area : List ℕ) (place : ℕ)
      → place ≡ 6 + size_of form * rays_of form + 4 * plan.counts + size_of form * plan.numbers → plan.indices ≤ length area
      → take plan.indices (sets area 0 (words_of plan.indices (drop place l))) ≡ (said_of form l).indices
  indices_read area place e room =
      front_is area (words_of plan.indices (drop place l)) plan.indices (words_count plan.indices (drop place l)) room
      ∙ (ap (λ (n : ℕ). words_of plan.indices (drop n l)) e ∙ sym (said_indices form l plan plan_sizes))

  measured : Measured form (said_of form l)
  measured = read_measured form form l refl

  -- as many counts and floats as the kind says
  said_sized : Sized (byte_of plan.kind) (said_of form l).counts (said_of form l).numbers
  unfolding said_of
  said_sized =
      let kinded = (formed form l (subst T (sym k.well_formed) tt)).kinded in
      rw plan_sizes.kind_is
      record {
        low = leb→le 1 (kind_of l) (and_l (leb 1 (kind_of l)) (leb (kind_of l) 5) kinded);
        high = leb→le (kind_of l) 5 (and_r (leb 1 (kind_of l)) (leb (kind_of l) 5) kinded);
        counted = measured.counted;
        numbered = measured.numbered;
      }

  pub read_sized : {counts : List ℕ} {numbers : List Float} → counts ≡ (said_of form l).counts → numbers ≡ (said_of form l).numbers
      → Sized (byte_of plan.kind) counts numbers
  read_sized c n = rw (c, n) said_sized

  pub read_text : {ray : Ray} {counts indices : List ℕ} {numbers : List Float} → ray ≡ ray_by (numbers_of form (rays_of form) (drop 6 l))
      → counts ≡ (said_of form l).counts → numbers ≡ (said_of form l).numbers → indices ≡ (said_of form l).indices
      → shape_text ray (shape_from (byte_of plan.kind) counts numbers indices)
      ≡ shape_text (ray_by (said_of form l).ray) (shape_by (said_of form l))
  unfolding said_of
  read_text r c n i = rw (r, c, n, i, plan_sizes.kind_is)
