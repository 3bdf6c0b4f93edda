-- What a well-formed record's plan says. Assumes nothing.
use Prim.Native.Nat.{ℕ, ◌+◌, ◌*◌, ◌≤◌}
use mathlib.Core.Path.{◌≡◌, refl, sym, subst}
use mathlib.Core.Bool.{Bool, true, false, cond}
use mathlib.Core.List.{List}
use native.Mathlib.Omega.{arith}
use lib.Dec.{T, eqb}
use lib.ListN.{length, drop}
use Rattle.float_forms.specs.declared.forms.Form.{Form}
use Rattle.float_forms.specs.Forms.{size_of, rays_of}
use Rattle.float_forms.specs.Bytes.{numbers_of, words_of}
use Rattle.record_bytes.specs.declared.shape.Plan.{Plan}
use Rattle.std.specs.Prelude.{Some, None}
use Rattle.record_bytes.specs.Kinds.{byte_of}
use Rattle.record_bytes.proofs.KindLaws.{byte_named}
use Rattle.record_bytes.specs.Records.{many_counts, many_numbers, many_indices, body_length, kind_of, counts_place, counts_of, said_of}
use Rattle.record_bytes.specs.Records.{well_formed}
use Rattle.record_bytes.specs.Plans.{plan_of, planned, Known}
use Rattle.record_bytes.proofs.Parts.{Formed, formed}
use Rattle.record_bytes.proofs.ShapeLaws.{long_body}

-- ---- which plan it is

pub known : (form : Form) (l : List ℕ) (plan : Plan) → planned form l ≡ Some plan → Known form l plan
unfolding planned
known form l plan e = go (well_formed form l) refl e
  where
    go : (b : Bool) → well_formed form l ≡ b → cond b (Some (plan_of form l)) None ≡ Some plan → Known form l plan
    go true w e = record { well_formed = w; is_plan = cc }
    go false w e = absurd (let z : ◌≡◌ {A = ℕ} 0 1 = cc in omega arith)

pub not_formed : (form : Form) (l : List ℕ) → planned form l ≡ None → well_formed form l ≡ false
unfolding planned
not_formed form l e = go (well_formed form l) e
  where
    go : (b : Bool) → cond b (Some (plan_of form l)) None ≡ None → b ≡ false
    go true e = absurd (let z : ◌≡◌ {A = ℕ} 0 1 = cc in omega arith)
    go false e = refl

-- ---- its numbers

pub record Sizes (form : Form) (l : List ℕ) (plan : Plan) : Type 0 where
  pub kind_is : byte_of plan.kind ≡ kind_of l
  pub counts_are : plan.counts ≡ many_counts (kind_of l)
  pub numbers_are : plan.numbers ≡ many_numbers (kind_of l) (counts_of form l)
  pub indices_are : plan.indices ≡ many_indices (kind_of l) (counts_of form l)
  pub few : plan.counts ≤ 3
  pub whole : counts_place form + 4 * plan.counts + size_of form * plan.numbers + 4 * plan.indices ≡ length l
  pub small : 2 + 8 * rays_of form + 4 * plan.counts + 8 * plan.numbers + 4 * plan.indices ≤ 8192

counts_few : (kind : ℕ) → many_counts kind ≤ 3
unfolding many_counts
counts_few kind = go (eqb kind 3) (eqb kind 4) (eqb kind 5)
  where
    go : (a b c : Bool) → cond a 2 (cond b 2 (cond c 3 0)) ≤ 3
    go true b c = omega arith
    go false true c = omega arith
    go false false true = omega arith
    go false false false = omega arith

whole_length : (form : Form) (l : List ℕ) → Formed form l
    → counts_place form + 4 * many_counts (kind_of l) + size_of form * many_numbers (kind_of l) (counts_of form l)
    + 4 * many_indices (kind_of l) (counts_of form l) ≡ length l
unfolding body_length
whole_length form l g = omega (arith, g.filled)

sizes_of : (form : Form) (l : List ℕ) → Formed form l → Sizes form l (plan_of form l)
unfolding plan_of
sizes_of form l g = record {
  kind_is = byte_named (kind_of l) g.kinded;
  counts_are = refl;
  numbers_are = refl;
  indices_are = refl;
  few = counts_few (kind_of l);
  whole = whole_length form l g;
  small = omega (arith, g.small, long_body form (kind_of l) (counts_of form l));
}

pub sizes : (form : Form) (l : List ℕ) (plan : Plan) → Known form l plan → Sizes form l plan
sizes form l plan k = rw k.is_plan (sizes_of form l (formed form l (subst T (sym k.well_formed) tt)))

-- ---- what the record says, read by the plan

module _ (form : Form) (l : List ℕ) (plan : Plan) (s : Sizes form l plan) where
  pub said_counts : (said_of form l).counts ≡ words_of plan.counts (drop (counts_place form) l)
  unfolding said_of counts_of
  said_counts = rw s.counts_are

  pub said_numbers : (said_of form l).numbers
      ≡ numbers_of form plan.numbers (drop (counts_place form + 4 * plan.counts) l)
  unfolding said_of
  said_numbers = rw (s.counts_are, s.numbers_are)

  pub said_indices : (said_of form l).indices
      ≡ words_of plan.indices (drop (counts_place form + 4 * plan.counts + size_of form * plan.numbers) l)
  unfolding said_of
  said_indices = rw (s.counts_are, s.numbers_are, s.indices_are)
