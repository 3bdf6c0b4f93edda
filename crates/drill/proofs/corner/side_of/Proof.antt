-- `drill::corner::side_of` meets its contract. Assumes nothing.
use Rattle.drill.proofs.Rejecting.{side_enough, size_at_most}
use Rattle.drill.proofs.Laws.{sized_as}
use Rattle.drill.specs.Code.{SideOf}
use Rattle.exact_triangle.proofs.Laws.{fixed_fits, fixed_once}
use Rattle.wide_integers.proofs.Reading.{widen, product_size}
use Rattle.wide_integers.specs.Value.{value}
use Rattle.wide_integers.specs.Sizes.{Sized}
use native.Mathlib.Nat.{le_refl}
use lib.Signed.{le_z}
use lib.IntN.{ℤ, pos, ◌*ℤ◌}
use lib.Dec.{lit≤}
use Prim.Native.Nat.{ℕ, ◌*◌, ◌^◌}
use mathlib.Core.Path.{sym, ap, ◌∙◌, subst}
use borrow.Author.Rules.{rules}
use Rattle.drill.proofs.corner.side_of.Statement.{statement}
use Rattle.drill.proofs.corner.side_of.Tie as tie

mul-result : tie.Need-overflow_mul-result
mul-result c = let s : tie.Start = search in fixed_fits 1073741826 s.requires.1 (lit≤ tt) (lit≤ tt)

mul-result-2 : tie.Need-overflow_mul-result-2
mul-result-2 c = let s : tie.Start = search in fixed_fits 4294967296 s.requires.1 (lit≤ tt) (lit≤ tt)

fixed-size : (n : ℕ) {A : ℕ} {a : ℤ} → Sized A a → Sized (A * n) (a *ℤ pos n)
fixed-size n h = product_size {y = pos n} h (record { size = le_refl n })

returns : tie.Need-returns-then-at_most
returns c =
    let (s, o, m) : tie.Start × tie.After-of_i64 × tie.After-at_most = search in
    let e = fixed_once 1073741826 s.requires.1 (lit≤ tt) (lit≤ tt) in
    let k = sym (m.at_most.ensures ∙ ap (λ (z : ℤ). le_z (value s.args.length) z) o.of_i64.ensures) ∙ c.if-at_most.true in (
      widen (sized_as e (fixed-size 1073741826 s.requires.1)) (lit≤ tt),
      (λ ρ h. subst (SideOf (pos (ρ * ρ) *ℤ value s.args.length)) (sym e)
          (side_enough ρ 1073741826 s.args.radius (value s.args.length) h k)),
    )

returns-2 : tie.Need-returns
returns-2 c =
    let s : tie.Start = search in
    let e = fixed_once 4294967296 s.requires.1 (lit≤ tt) (lit≤ tt) in (
      widen (sized_as e (fixed-size 4294967296 s.requires.1)) (lit≤ tt),
      (λ ρ h. subst (SideOf (pos (ρ * ρ) *ℤ value s.args.length)) (sym e)
          (side_enough ρ 4294967296 s.args.radius (value s.args.length) h
          (size_at_most (2 ^ 64) (value s.args.length) s.requires.0.size))),
    )

pub side_of_spec : {M : Type 1} → statement M
side_of_spec =
    tie.close
    (tie.spec
    (λ c κs. search rules)  -- of_i64-requires
    (λ c κs. search rules)  -- at_most-requires
    mul-result
    returns
    mul-result-2
    returns-2)
