-- The converter's steps, from a well-formed record's plan. Assumes nothing.
use Prim.Native.Nat.{ℕ, ◌+◌, ◌*◌, ◌<◌, ◌≤◌}
use mathlib.Core.Path.{◌≡◌, sym, ap, ◌∙◌}
use mathlib.Core.Bool.{Bool, true, false}
use mathlib.Core.List.{List, ◌++◌}
use native.Mathlib.Omega.{arith}
use borrow.Author.Tests.{lt-ltb, le-ltb}
use lib.ListN.{length, drop}
use lib.Seq.{sets, sets-eq}
use Rattle.float_forms.specs.declared.forms.Form.{Form}
use Rattle.record_bytes.specs.declared.shape.Plan.{Plan}
use Rattle.std.specs.Prelude.{None}
use Rattle.float_forms.specs.Forms.{size_of, rays_of}
use Rattle.float_forms.specs.Bytes.{numbers_of}
use Rattle.record_bytes.specs.Records.{body_length, counts_place, said_of, every_said}
use Rattle.float_forms.specs.Representable.{every, representable}
use Rattle.conversion.specs.Writing.{rewritten}
use Rattle.conversion.specs.Convert.{said_representable, written, refused, converted}
use Rattle.record_bytes.specs.Plans.{planned, Known, size_for}
use Rattle.record_bytes.proofs.PlanLaws.{Sizes, sizes, not_formed}
use Rattle.conversion.proofs.WritingLaws.{rewritten_length}

-- ---- the floats

pub ray_unrepresentable : (p q : Form) (l : List ℕ) → every (representable q) (numbers_of p (rays_of p) (drop 6 l)) ≡ false
    → false ≡ said_representable q (said_of p l)
unfolding every_said said_of
ray_unrepresentable p q l h = rw h

pub numbers_decide : (p q : Form) (l : List ℕ) (plan : Plan) (place : ℕ) (r : Bool) → Sizes p l plan
    → place ≡ counts_place p + 4 * plan.counts
    → every (representable q) (numbers_of p (rays_of p) (drop 6 l)) ≡ true
    → r ≡ every (representable q) (numbers_of p plan.numbers (drop place l))
    → r ≡ said_representable q (said_of p l)
unfolding every_said said_of
numbers_decide p q l plan place r s e h f = rw h (f ∙ (rw (e, s.counts_are, s.numbers_are)))

-- ---- lengths

pub size_is : (p q : Form) (l : List ℕ) (plan : Plan) → rays_of p ≡ rays_of q → Sizes p l plan → 4 + size_for q plan
    ≡ length (rewritten p q l)
unfolding size_for body_length
size_is p q l plan r s = rw (s.counts_are, s.numbers_are, s.indices_are) (sym (rewritten_length p q l r))

-- ---- the answers

pub malformed : (p q : Form) (l area : List ℕ) → planned p l ≡ None → record { answer = refused 2; area = area } ≡ converted p q l area
unfolding converted
malformed p q l area e = rw (not_formed p l e)

module _ (p q : Form) (l area : List ℕ) (plan : Plan) (r : rays_of p ≡ rays_of q) (k : Known p l plan) where
  size_known : 4 + size_for q plan ≡ length (rewritten p q l)
  size_known = size_is p q l plan r (sizes p l plan k)

  pub no_room : (body : ℕ) → body ≡ size_for q plan → length area < 4 + body
      → record { answer = refused 3; area = area } ≡ converted p q l area
  unfolding converted
  no_room body e h =
      let short : length area < length (rewritten p q l) = omega (arith, e, h, size_known) in
      rw (k.well_formed, lt-ltb (length area) (length (rewritten p q l)) short)

  pub unrepresentable : (body : ℕ) → body ≡ size_for q plan → 4 + body ≤ length area → said_representable q (said_of p l) ≡ false
      → record { answer = refused 11; area = area } ≡ converted p q l area
  unfolding converted
  unrepresentable body e h f =
      let room : length (rewritten p q l) ≤ length area = omega (arith, e, h, size_known) in
      rw (k.well_formed, le-ltb (length area) (length (rewritten p q l)) room, f)

  pub done : (body : ℕ) (after : List ℕ) → body ≡ size_for q plan → 4 + body ≤ length area → said_representable q (said_of p l) ≡ true
      → after ≡ sets area 0 (rewritten p q l)
      → record { answer = written (4 + body); area = after } ≡ converted p q l area
  unfolding converted
  done body after e h f g =
      let room : length (rewritten p q l) ≤ length area = omega (arith, e, h, size_known) in
      let n : 4 + body ≡ length (rewritten p q l) = ap (λ (z : ℕ). 4 + z) e ∙ size_known in
      let here : 0 + length (rewritten p q l) ≡ length (rewritten p q l) = omega arith in
      let whole : after ≡ rewritten p q l ++ drop (length (rewritten p q l)) area = g ∙
      (sets-eq (rewritten p q l) area 0 (omega (arith, room)) ∙ (rw here)) in
      rw (k.well_formed, le-ltb (length area) (length (rewritten p q l)) room, f, n, whole)

pub size_for_lem : (q : Form) (plan : Plan) (r : ℕ)
    → r ≡ 2 + size_of q * rays_of q + 4 * plan.counts + size_of q * plan.numbers + 4 * plan.indices
    → r ≡ size_for q plan
unfolding size_for
size_for_lem q plan r e = e
