-- Inner contracts only: what a reader finds out of a record before it looks at a float. Definitions only. Assumes nothing.
use Rattle.std.specs.Prelude.{ℕ, ◌+◌, ◌*◌, ◌≡◌, true, cond, List, ltb, Option, Some, None}
use Rattle.float_forms.specs.declared.forms.Form.{Form}
use Rattle.record_bytes.specs.declared.shape.Plan.{Plan}
use Rattle.float_forms.specs.Forms.{size_of, rays_of}
use Rattle.record_bytes.specs.Records.{many_counts, many_numbers, many_indices, kind_of, counts_of, filled, well_formed}
use Rattle.record_bytes.specs.Kinds.{kind_named}

-- 8 · 1,025 passes 8,192
unfoldable pub capped : ℕ → ℕ
capped count = cond (ltb 1024 count) 1025 count

unfoldable pub plan_of : Form → List ℕ → Plan
plan_of form bytes = record {
  kind = kind_named (kind_of bytes);
  counts = many_counts (kind_of bytes);
  numbers = many_numbers (kind_of bytes) (counts_of form bytes);
  indices = many_indices (kind_of bytes) (counts_of form bytes);
}

unfoldable pub filling : Form → List ℕ → Option Plan
filling form bytes = cond (filled form bytes) (Some (plan_of form bytes)) None

unfoldable pub planned : Form → List ℕ → Option Plan
planned form bytes = cond (well_formed form bytes) (Some (plan_of form bytes)) None

-- a well-formed record's plan
pub record Known (form : Form) (bytes : List ℕ) (plan : Plan) : Type 0 where
  pub well_formed : well_formed form bytes ≡ true
  pub is_plan : plan ≡ plan_of form bytes

-- the body's length in a form, from the plan
unfoldable pub size_for : Form → Plan → ℕ
size_for form plan = 2 + size_of form * rays_of form + 4 * plan.counts + size_of form * plan.numbers + 4 * plan.indices
