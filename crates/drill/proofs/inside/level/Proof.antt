-- `drill::inside::level` meets its contract. Assumes nothing.
use Rattle.wide_integers.proofs.Reading.{bits, plain, widen, sized_bits}
use Rattle.wide_integers.specs.Sizes.{Sized}
use lib.IntN.{ℤ, ◌+ℤ◌, ◌-ℤ◌, ◌*ℤ◌}
use lib.Dec.{lit≤}
use Prim.Native.Nat.{◌*◌, ◌^◌}
use mathlib.Core.Path.{◌≡◌, ◌∙◌}
use Rattle.drill.proofs.inside.level.Statement.{statement}
use Rattle.drill.proofs.inside.level.Tie as tie

abbrev Tall : ℤ → Type 0
Tall = Sized (3 * 2 ^ 60)

abbrev Short : ℤ → Type 0
Short = Sized (2 ^ 29)

-- what one coordinate asks, and what it is of the numbers as they come
module _ {p q r a b c : ℤ} (h : Tall p × (Tall q × Tall r)) (ha : Short a) (hb : Short b) (hc : Short c) where
  asked : (Tall (bits p) × (Tall (bits q) × Tall (bits r))) × (Short (bits a) × (Short (bits b) × Short (bits c)))
  asked = (
    (sized_bits h.0 (lit≤ tt), (sized_bits h.1.0 (lit≤ tt), sized_bits h.1.1 (lit≤ tt))),
    (sized_bits ha (lit≤ tt), (sized_bits hb (lit≤ tt), sized_bits hc (lit≤ tt))),
  )

  as-come : {v : ℤ}
      → v ≡ (bits q -ℤ bits r) *ℤ bits a +ℤ (bits r -ℤ bits p) *ℤ bits b +ℤ (bits p -ℤ bits q) *ℤ bits c
      → v ≡ (q -ℤ r) *ℤ a +ℤ (r -ℤ p) *ℤ b +ℤ (p -ℤ q) *ℤ c
  as-come e =
      let ep = plain (widen h.0 (lit≤ tt)) in
      let eq = plain (widen h.1.0 (lit≤ tt)) in
      let er = plain (widen h.1.1 (lit≤ tt)) in
      let ea = plain (widen ha (lit≤ tt)) in
      let eb = plain (widen hb (lit≤ tt)) in
      let ec = plain (widen hc (lit≤ tt)) in
      e ∙ (λ i. (eq i -ℤ er i) *ℤ ea i +ℤ (er i -ℤ ep i) *ℤ eb i +ℤ (ep i -ℤ eq i) *ℤ ec i)

abbrev begun₁ : tie.After-level_at → tie.Start
begun₁ k = search

abbrev begun₂ : tie.After-level_at-2 → tie.After-level_at
begun₂ k = search

level-at-requires : tie.Need-level_at-requires
level-at-requires c κs =
    let s : tie.Start = search in
    asked s.requires.0 s.requires.1.0.x s.requires.1.1.0.x s.requires.1.1.1.x

level-at-requires-2 : tie.Need-level_at-requires-2
level-at-requires-2 c κs =
    let k : tie.After-level_at = search in
    let s = begun₁ k in
    asked s.requires.0 s.requires.1.0.y s.requires.1.1.0.y s.requires.1.1.1.y

level-at-requires-3 : tie.Need-level_at-requires-3
level-at-requires-3 c κs =
    let k : tie.After-level_at-2 = search in
    let s = begun₁ (begun₂ k) in
    asked s.requires.0 s.requires.1.0.z s.requires.1.1.0.z s.requires.1.1.1.z

returns : tie.Need-returns
returns c =
    let y : tie.After-level_at-2 = search in
    let x = begun₂ y in
    let s = begun₁ x in
    let h = s.requires.0 in
    let g = s.requires.1 in
    let ex = x.level_at.ensures in
    let ey = y.level_at-2.ensures in
    let ez = c.level_at-3.ensures in (
      (λ i. record {
        x = as-come h g.0.x g.1.0.x g.1.1.x ex.0 i;
        y = as-come h g.0.y g.1.0.y g.1.1.y ey.0 i;
        z = as-come h g.0.z g.1.0.z g.1.1.z ez.0 i;
      }),
      record { x = ex.1; y = ey.1; z = ez.1 },
    )

pub level_spec : {M : Type 1} → statement M
level_spec =
    tie.close
    (tie.spec
    level-at-requires
    level-at-requires-2
    level-at-requires-3
    returns)
