-- The steps of a sample, each of which refuses unless its result is finite. Definitions only. Assumes nothing.
use Rattle.std.specs.Prelude.{cond, Float, Option, Some, None}
use Rattle.arithmetic.specs.Basic.{is_finite}
use Rattle.vectors.specs.Numbers.{◌+ᶠ◌, ◌-ᶠ◌, ◌*ᶠ◌, ◌/ᶠ◌, oneᶠ}
use Rattle.distance_grid.specs.declared.faces.Face.{Face}

unfoldable pub checked : Float → Option Float
checked x = cond (is_finite x) (Some x) None

unfoldable pub blend : Float → Float → Float → Float
blend a b amount = a *ᶠ (oneᶠ -ᶠ amount) +ᶠ b *ᶠ amount

unfoldable pub lerp : Option Float → Option Float → Float → Option Float
lerp (Some a) (Some b) amount = checked (blend a b amount)
lerp (Some a) None amount = None
lerp None b amount = None

unfoldable pub checked_difference : Float → Float → Option Float
checked_difference a b = checked (a -ᶠ b)

-- a quotient is not tested: the next step is
unfoldable pub over : Option Float → Float → Option Float
over (Some a) spacing = Some (a /ᶠ spacing)
over None spacing = None

-- between four numbers: along the first axis, then along the second
unfoldable pub lerp_face : Option Float → Option Float → Option Float → Option Float → Float → Float → Option Float
lerp_face c00 c10 c01 c11 s t = lerp (lerp c00 c10 s) (lerp c01 c11 s) t

unfoldable pub value_on : Face → Float → Float → Option Float
value_on f s t = lerp_face (Some f.a00) (Some f.a10) (Some f.a01) (Some f.a11) s t

-- one axis of the gradient, from the cell's two faces across that axis
unfoldable pub slope_on : Face → Face → Float → Float → Float → Option Float
slope_on low high spacing s t =
    lerp_face
    (over (checked_difference high.a00 low.a00) spacing)
    (over (checked_difference high.a10 low.a10) spacing)
    (over (checked_difference high.a01 low.a01) spacing)
    (over (checked_difference high.a11 low.a11) spacing)
    s t
