-- `slice_casts::numbers::corners_in` meets its contract. Assumes nothing.
use borrow.Author.Rules.{rules}
use Rattle.slice_casts.specs.Slices.{corners_in}
use Rattle.slice_casts.proofs.numbers.corners_in.Statement.{statement}
use Rattle.slice_casts.proofs.numbers.corners_in.Tie as tie

-- three vectors, each at its place
returns : tie.Need-returns
unfolding corners_in
returns c =
    let (a, b, d) : tie.After-vector_at × tie.After-vector_at-2 × tie.After-vector_at-3 = search in
    simp (a.vector_at.ensures, b.vector_at-2.ensures, d.vector_at-3.ensures)

pub corners_in_spec : {M : Type 1} → statement M
corners_in_spec =
    tie.close
    (tie.spec
    (λ c κs. search rules)  -- vector_at-requires
    (λ c κs. search rules)  -- vector_at-requires-2
    (λ c κs. search rules)  -- vector_at-requires-3
    returns)
