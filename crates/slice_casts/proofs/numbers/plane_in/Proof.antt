-- `slice_casts::numbers::plane_in` meets its contract. Assumes nothing.
use borrow.Author.Rules.{rules}
use Rattle.slice_casts.specs.Slices.{plane_in}
use Rattle.slice_casts.proofs.numbers.plane_in.Statement.{statement}
use Rattle.slice_casts.proofs.numbers.plane_in.Tie as tie

-- a vector and a number, each at its place
returns : tie.Need-returns
unfolding plane_in
returns c =
    let n : tie.After-vector_at = search in
    simp n.vector_at.ensures

pub plane_in_spec : {M : Type 1} → statement M
plane_in_spec =
    tie.close
    (tie.spec
    (λ c κs. search rules)  -- vector_at-requires
    (search rules)  -- bounds-plane-3
    returns)
