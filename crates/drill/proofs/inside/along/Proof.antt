-- `drill::inside::along` meets its contract. Assumes nothing.
use Rattle.drill.proofs.Laws.{sized_as}
use Rattle.drill.specs.Code.{vector_of}
use Rattle.wide_integers.proofs.Reading.{bits, bits_back, widen, product_size, sum_size}
use Rattle.wide_integers.proofs.Polynomials.{times_comm}
use mir.Val.{SFits}
use mir.Syntax.{w64}
use lib.IntN.{ℤ, ◌+ℤ◌, ◌*ℤ◌}
use lib.Dec.{lit≤}
use mathlib.Core.Path.{◌≡◌, ◌∙◌}
use borrow.Author.Rules.{rules}
use Rattle.drill.proofs.inside.along.Statement.{statement}
use Rattle.drill.proofs.inside.along.Tie as tie

module _ (s : tie.Start) where
  px : SFits w64 s.args.p.x
  px = search rules

  py : SFits w64 s.args.p.y
  py = search rules

  pz : SFits w64 s.args.p.z
  pz = search rules

-- the factors in their order
ordered : (a : ℤ) {x : ℤ} → SFits w64 x → a *ℤ bits x ≡ x *ℤ a
ordered a {x} f = (λ i. a *ℤ bits_back f i) ∙ times_comm a x

returns : tie.Need-returns
returns c =
    let s : tie.Start = search in
    let g = vector_of s.args.g in
    let p = s.requires.0 in
    let q = s.requires.1 in
    let e = c.weighted.ensures ∙ (λ i. ordered g.x (px s) i +ℤ ordered g.y (py s) i +ℤ ordered g.z (pz s) i) in (
      e,
      widen (sized_as e (sum_size (sum_size (product_size p.x q.x) (product_size p.y q.y)) (product_size p.z q.z)))
          (lit≤ tt),
    )

pub along_spec : {M : Type 1} → statement M
along_spec =
    tie.close
    (tie.spec
    (λ c κs. search rules)  -- weighted-requires
    returns)
