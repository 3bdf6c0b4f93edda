-- `drill::forms::cross` meets its contract. Assumes nothing.
use Rattle.exact_triangle.proofs.Laws.{told_read, told_sized}
use Rattle.wide_integers.proofs.Reading.{bits, plain, widen}
use Rattle.wide_integers.specs.Determinant.{determinant}
use Rattle.wide_integers.specs.Sizes.{Sized}
use lib.IntN.{ℤ}
use lib.Dec.{lit≤}
use Prim.Native.Nat.{◌^◌}
use mathlib.Core.Path.{◌≡◌, ◌∙◌}
use Rattle.drill.proofs.forms.cross.Goals as goal

-- what one is of the numbers as they come
as-come : {a b c d : ℤ} → Sized (2 ^ 29) a → Sized (2 ^ 29) b → Sized (2 ^ 31) c → Sized (2 ^ 31) d
    → {r : ℤ} → (r ≡ determinant (bits a) (bits b) (bits c) (bits d)) × Sized (2 ^ 61) r → bits r ≡ determinant a b c d
as-come ha hb hc hd e =
    told_read (e.0 ∙ (λ i. determinant (plain (widen ha (lit≤ tt)) i) (plain (widen hb (lit≤ tt)) i) (plain (widen hc (lit≤ tt)) i)
    (plain (widen hd (lit≤ tt)) i))) e.1 (lit≤ tt)

pub returns : goal.returns
returns c =
    let p = c.requires.0 in
    let q = c.requires.1 in (
      (λ i. record {
        x = as-come p.y p.z q.y q.z c.minor.ensures i;
        y = as-come p.z p.x q.z q.x c.minor-2.ensures i;
        z = as-come p.x p.y q.x q.y c.minor-3.ensures i;
      }),
      record {
        x = told_sized c.minor.ensures.1 (lit≤ tt);
        y = told_sized c.minor-2.ensures.1 (lit≤ tt);
        z = told_sized c.minor-3.ensures.1 (lit≤ tt);
      },
    )
