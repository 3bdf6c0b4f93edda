-- `mesh_plain::boxes::code_of` meets its contract. Assumes nothing.
use mathlib.Core.Path.{sym}
use native.Mathlib.Omega.{arith}
use Rattle.mesh_plain.specs.Boxes.{code_of}
use Rattle.mesh_plain.proofs.boxes.code_of.Goals as goal

pub overflow_mul-result : goal.overflow_mul-result
overflow_mul-result c = omega (arith, c.side_code-z.ensures.upper_bound)

pub overflow_add-result : goal.overflow_add-result
overflow_add-result c = omega (arith, c.side_code-z.ensures.upper_bound, c.side_code-y.ensures.upper_bound)

pub overflow_mul-result-2 : goal.overflow_mul-result-2
overflow_mul-result-2 c = omega (arith, c.side_code-z.ensures.upper_bound, c.side_code-y.ensures.upper_bound)

pub overflow_add-result-2 : goal.overflow_add-result-2
overflow_add-result-2 c = omega (
  arith,
  c.side_code-z.ensures.upper_bound,
  c.side_code-y.ensures.upper_bound,
  c.side_code-x.ensures.upper_bound,
)

pub returns : goal.returns
unfolding code_of
returns c = simp (sym c.side_code-x.ensures.value, sym c.side_code-y.ensures.value, sym c.side_code-z.ensures.value)
