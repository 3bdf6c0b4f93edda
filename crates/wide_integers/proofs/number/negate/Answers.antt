-- `wide_integers::number::negate` meets its contract. Assumes nothing.
use Rattle.std.proofs.Common.{◌≡◌, ℤ, pos, ◌-ℤ◌, neg_ℤ, sym, ap, ◌∙◌, subst}
use lib.IntN.{+ℤ_idl}
use Rattle.wide_integers.specs.Value.{value, FitsWide}
use Rattle.wide_integers.proofs.number.negate.Goals as goal

-- 0 - x is -x
from_zero : (z x : ℤ) → z ≡ pos 0 → z -ℤ x ≡ neg_ℤ x
from_zero z x e = ap (λ (y : ℤ). y -ℤ x) e ∙ +ℤ_idl (neg_ℤ x)

pub difference-requires : goal.difference-requires
difference-requires c = subst FitsWide (sym (from_zero (value c.zero.result) (value c.args.a) c.zero.ensures)) c.requires

pub returns : goal.returns
returns c = c.difference.ensures ∙ from_zero (value c.zero.result) (value c.args.a) c.zero.ensures
