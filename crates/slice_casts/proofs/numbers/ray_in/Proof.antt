-- `slice_casts::numbers::ray_in` meets its contract. Assumes nothing.
use borrow.Author.Rules.{rules}
use Rattle.slice_casts.specs.Slices.{ray_in}
use Rattle.slice_casts.proofs.numbers.ray_in.Statement.{statement}
use Rattle.slice_casts.proofs.numbers.ray_in.Tie as tie

-- two vectors and two numbers, each at its place
returns : tie.Need-returns
unfolding ray_in
returns c =
    let (o, d) : tie.After-vector_at × tie.After-vector_at-2 = search in
    simp (o.vector_at.ensures, d.vector_at-2.ensures)

pub ray_in_spec : {M : Type 1} → statement M
ray_in_spec =
    tie.close
    (tie.spec
    (λ c κs. search rules)  -- vector_at-requires
    (λ c κs. search rules)  -- vector_at-requires-2
    (search rules)  -- bounds-ray-6
    (search rules)  -- bounds-ray-7
    returns)
