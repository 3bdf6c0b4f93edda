-- A place that was found in the grid: its cell's nodes are the grid's, and it lies from 0 to 1 in the cell on each axis. Assumes nothing.
use mathlib.Core.Path.{◌≡◌, refl, sym, ap, subst, ◌∙◌}
use mathlib.Core.Bool.{Bool, true, false, ◌&&◌, cond, false≢true}
use Prim.Native.Nat.{ℕ, ◌+◌, ◌-◌, ◌^◌, ◌≤◌, ◌<◌}
use lib.Dec.{T, ltb, lit<}
use borrow.Author.Tests.{ltb-true, ltb-false}
use native.Mathlib.Omega.{arith}
use lib.Ieee.{Float, binary64, of_bits, of_int, round, fits, neg, sub, lt, le, is_nan}
use Rattle.arithmetic.specs.Basic.{is_finite, clamp_to}
use Rattle.arithmetic.proofs.Exactness.{of_int_is, of_int_value}
use Rattle.arithmetic.proofs.Order.{le_of_lt, not_lt_of_le, le_transitive}
use Rattle.arithmetic.proofs.Clamps.{clamp_one, clamp_above_low, clamp_below_high, clamp_inside}
use Rattle.arithmetic.proofs.SumOrder.{neg_finite}
use Rattle.arithmetic.proofs.QuotientOrder.{between_finite}
use Rattle.arithmetic.proofs.RoundedOrder.{plain_mono}
use Rattle.vectors.specs.Numbers.{◌-ᶠ◌, ◌/ᶠ◌, zeroᶠ, oneᶠ}
use Rattle.vectors.specs.Vector.{finite_vec}
use Rattle.lists.proofs.JoinedTests.{and_first, and_second}
use Rattle.vectors.specs.declared.vec3.Vec3.{Vec3}
use Rattle.distance_grid.specs.Grid.{whole, last_node, SideStands, SidesStand}
use Rattle.distance_grid.specs.Places.{top_of, clamped_to, clamped, stays, in_box, clamped_point, up_to, floor_cell, guess_holds}
use Rattle.distance_grid.specs.Places.{cell_below}
use Rattle.distance_grid.specs.Places.{place_of, place_at, locate_axis, with_place, locate_inside, locate}
use Rattle.distance_grid.specs.Places.{is_fraction, Fractions}
use Rattle.distance_grid.specs.declared.grid.Sides.{Sides}
use Rattle.distance_grid.specs.declared.grid.Grid.{Grid}
use Rattle.distance_grid.specs.Places.{Place}
use Rattle.distance_grid.specs.Places.{PlaceAt, NoPlace}
use Rattle.distance_grid.specs.Places.{Located}
use Rattle.distance_grid.specs.Places.{LocatedAt as At, NotLocated as Refused}
use Rattle.distance_grid.proofs.CellLaws.{up_to_least}
use Rattle.distance_grid.proofs.NearLaws.{near_is_cell}
use Rattle.arithmetic.proofs.RoundedNumbers.{round_number}
use Rattle.arithmetic.proofs.Numbers.{finite_number}
use Rattle.cubic.proofs.ValueLaws.{sum_finite_number, value_finite}

-- ---- a point in the box is not drawn
stays_there : (p o s : Float) (side : ℕ) → stays p o (last_node o s side) ≡ true → p ≡ clamped p o s side
unfolding stays clamped clamped_to
stays_there p o s side = go (lt p o) (lt (last_node o s side) p)
  where
    go : (a b : Bool) → cond a false (cond b false true) ≡ true → p ≡ cond a o (cond b (top_of o s (last_node o s side)) p)
    go true b h = absurd (false≢true h)
    go false true h = absurd (false≢true h)
    go false false h = refl

pub in_box_stays : (g : Grid) (p : Vec3) → in_box g p ≡ true → p ≡ clamped_point g p
unfolding in_box clamped_point
in_box_stays g p h =
    let on_x = stays p.x g.origin.x (last_node g.origin.x g.spacing.x g.sides.x) in
    let on_y = stays p.y g.origin.y (last_node g.origin.y g.spacing.y g.sides.y) in
    let on_z = stays p.z g.origin.z (last_node g.origin.z g.spacing.z g.sides.z) in
    let rest = and_second on_x (on_y && on_z) h in
    let x = stays_there p.x g.origin.x g.spacing.x g.sides.x (and_first on_x (on_y && on_z) h) in
    let y = stays_there p.y g.origin.y g.spacing.y g.sides.y (and_first on_y on_z rest) in
    let z = stays_there p.z g.origin.z g.spacing.z g.sides.z (and_second on_y on_z rest) in
    same x y z
  where
    same : {a b c : Float} → p.x ≡ a → p.y ≡ b → p.z ≡ c → p ≡ record { x = a; y = b; z = c }
    same {a} {b} {c} e f k =
        subst (λ (w : Float). p ≡ record { x = a; y = b; z = w }) k
        (subst (λ (v : Float). p ≡ record { x = a; y = v; z = p.z }) f
        (subst (λ (u : Float). p ≡ record { x = u; y = p.y; z = p.z }) e refl))

-- ---- what is clamped from 0 to 1 is a fraction, unless it is NaN
zero_number : is_nan zeroᶠ ≡ false
unfolding of_bits is_nan
zero_number = refl

zero_below_one : le zeroᶠ oneᶠ ≡ true
unfolding of_bits le
zero_below_one = refl

clamp_is_fraction : (x : Float) → is_nan x ≡ false → is_fraction (clamp_to x zeroᶠ oneᶠ) ≡ true
unfolding is_fraction
clamp_is_fraction x n = simp (clamp_above_low x zeroᶠ oneᶠ n zero_below_one, clamp_below_high x zeroᶠ oneᶠ n zero_below_one)

-- ---- the rest that is left in a cell is no NaN
whole_number : (n : ℕ) → is_nan (whole n) ≡ false
whole_number n = ap is_nan (of_int_is binary64 n) ∙ round_number binary64 false n 1

whole_finite : (n : ℕ) → n ≤ 2 ^ 53 → is_finite (whole n) ≡ true
whole_finite n l = value_finite (whole n) false n 1 (of_int_value n l)

rest_number : (x : Float) (n : ℕ) → is_nan x ≡ false → n ≤ 2 ^ 53 → is_nan (x -ᶠ whole n) ≡ false
unfolding sub
rest_number x n p l = sum_finite_number x (neg (whole n)) p (neg_finite (whole n) ∙ whole_finite n l)

clamp_number : (x : Float) (n : ℕ) → is_nan x ≡ false → is_nan (clamp_to x zeroᶠ (whole n)) ≡ false
clamp_number x n p = clamp_one x zeroᶠ (whole n) (λ (z : Float). is_nan z ≡ false) p zero_number (whole_number n)

-- ---- a guess that holds is the place
wholes_ordered : (a b : ℕ) → a ≤ b → le (whole a) (whole b) ≡ true
wholes_ordered a b l =
    subst (λ (x : Float). le x (whole b) ≡ true) (sym (of_int_is binary64 a))
    (subst (λ (y : Float). le (round binary64 false a 1) y ≡ true) (sym (of_int_is binary64 b))
    (plain_mono a 1 b 1 (lit< tt) (lit< tt) (omega arith)))

zero_whole : zeroᶠ ≡ whole 0
unfolding of_bits of_int
zero_whole = refl

cell_kept : (near last : ℕ) → near ≤ last → near ≡ up_to last near
unfolding up_to
cell_kept near last l = go (ltb near last) (ltb-false near last)
  where
    go : (b : Bool) → (b ≡ false → last ≤ near) → near ≡ cond b near last
    go true h = refl
    go false h = let g = h refl in omega arith

same_place : (raw : Float) (near side : ℕ) → is_finite raw ≡ true → raw ≡ clamp_to raw zeroᶠ (whole (side - 1))
    → near ≡ up_to (side - 2) (floor_cell raw) → PlaceAt near (clamp_to (raw -ᶠ whole near) zeroᶠ oneᶠ) ≡ place_at raw side
unfolding place_at place_of cell_below
same_place raw near side finite clamps cell =
    ap (λ (k : ℕ). PlaceAt k (clamp_to (raw -ᶠ whole k) zeroᶠ oneᶠ)) cell
    ∙ ap (λ (x : Float). PlaceAt (up_to (side - 2) (floor_cell x)) (clamp_to (x -ᶠ whole (up_to (side - 2) (floor_cell x))) zeroᶠ oneᶠ))
    clamps
    ∙ sym (ap (λ (b : Bool). cond b (place_of (clamp_to raw zeroᶠ (whole (side - 1))) side) NoPlace) finite)

pub guessed_place : (raw : Float) (near side : ℕ) → T (fits binary64 raw) → guess_holds raw near side ≡ true
    → PlaceAt near (clamp_to (raw -ᶠ whole near) zeroᶠ oneᶠ) ≡ place_at raw side
unfolding guess_holds
guessed_place raw near side f h =
    let above = le (whole near) raw in
    let below = lt raw (whole (near + 1)) in
    let rest = and_second (ltb near 256) (ltb (near + 1) side && (above && below)) h in
    let last = and_second (ltb (near + 1) side) (above && below) rest in
    let few = ltb-true near 256 (and_first (ltb near 256) _ h) in
    let there = ltb-true (near + 1) side (and_first (ltb (near + 1) side) (above && below) rest) in
    let from = and_first above below last in
    let to = and_second above below last in
    let cell = near_is_cell raw near few f from to in
    let finite =
    between_finite (whole near) raw (whole (near + 1)) (whole_finite near (omega arith)) (whole_finite (near + 1) (omega arith)) from
    (le_of_lt raw (whole (near + 1)) to) in
    let not_below = not_lt_of_le zeroᶠ raw
    (le_transitive zeroᶠ (whole near) raw (subst (λ (z : Float). le z (whole near) ≡ true) (sym zero_whole) (wholes_ordered 0 near (omega
    arith)))
    from) in
    let not_above = not_lt_of_le raw (whole (side - 1))
    (le_transitive raw (whole (near + 1)) (whole (side - 1)) (le_of_lt raw (whole (near + 1)) to)
    (wholes_ordered (near + 1) (side - 1) (omega arith))) in
    same_place raw near side finite (clamp_inside raw zeroᶠ (whole (side - 1)) not_below not_above)
    (cell_kept near (side - 2) (omega arith) ∙ ap (up_to (side - 2)) (sym cell))

-- ---- one axis
data Found : ℕ → Place → Type 0 where
  found : {side cell : ℕ} {fraction : Float} → cell + 1 < side → is_fraction fraction ≡ true → Found side (PlaceAt cell fraction)
  not_found : {side : ℕ} → Found side NoPlace

place_found : (coordinate : Float) (side : ℕ) → SideStands side → is_nan coordinate ≡ false → Found side (place_of coordinate side)
unfolding place_of
place_found coordinate side s n =
    let two = s.least in
    let top = s.most in
    let l : cell_below coordinate side ≤ side - 2 = unfold cell_below in up_to_least (side - 2) _ in
    let small : cell_below coordinate side ≤ 2 ^ 53 = omega arith in
    found {side = side} {cell = cell_below coordinate side} (omega arith)
    (clamp_is_fraction (coordinate -ᶠ whole (cell_below coordinate side)) (rest_number coordinate (cell_below coordinate side) n small))

axis_found : (point origin spacing : Float) (side : ℕ) → SideStands side → Found side (locate_axis point origin spacing side)
unfolding locate_axis place_at
axis_found point origin spacing side s = go (is_finite raw) refl
  where
    raw : Float
    raw = (point -ᶠ origin) /ᶠ spacing

    go : (b : Bool) → is_finite raw ≡ b → Found side (cond b (place_of (clamp_to raw zeroᶠ (whole (side - 1))) side) NoPlace)
    go true h = place_found (clamp_to raw zeroᶠ (whole (side - 1))) side s (clamp_number raw (side - 1) (finite_number raw h))
    go false h = not_found

-- ---- the grid
pub data Settled (s : Sides) : Located → Type 0 where
  settled : {x y z : ℕ} {tx ty tz : Float} → (x + 1 < s.x) × ((y + 1 < s.y) × (z + 1 < s.z)) → Fractions record
      { x = tx; y = ty; z = tz } → Settled s (At x tx y ty z tz)
  not_settled : {number : ℕ} → Settled s (Refused number)

chosen_settled : {s : Sides} (b : Bool) {l k : Located} → Settled s l → Settled s k → Settled s (cond b l k)
chosen_settled true p q = p
chosen_settled false p q = q

all_found : (s : Sides) {a b c : Place} → Found s.x a → Found s.y b → Found s.z c
    → Settled s (with_place a (λ (x : ℕ) (tx : Float). with_place b
    (λ (y : ℕ) (ty : Float). with_place c (λ (z : ℕ) (tz : Float). At x tx y ty
    z tz))))
all_found s (found p t) (found q u) (found r v) = settled (p, (q, r)) record { on_x = t; on_y = u; on_z = v }
all_found s (found p t) (found q u) not_found = not_settled
all_found s (found p t) not_found c = not_settled
all_found s not_found b c = not_settled

locate_settled : (g : Grid) (p : Vec3) → SidesStand g.sides → Settled g.sides (locate g p)
unfolding locate locate_inside
locate_settled g p s =
    chosen_settled (finite_vec p)
    (all_found g.sides
    (axis_found (clamped_point g p).x g.origin.x g.spacing.x g.sides.x s.on_x)
    (axis_found (clamped_point g p).y g.origin.y g.spacing.y g.sides.y s.on_y)
    (axis_found (clamped_point g p).z g.origin.z g.spacing.z g.sides.z s.on_z))
    not_settled

cell_of : {s : Sides} {x y z : ℕ} {tx ty tz : Float} → Settled s (At x tx y ty z tz) → (x + 1 < s.x) × ((y + 1 < s.y) × (z + 1 < s.z))
cell_of (settled c f) = c

fractions_of : {s : Sides} {x y z : ℕ} {tx ty tz : Float} → Settled s (At x tx y ty z tz) → Fractions record { x = tx; y = ty; z = tz }
fractions_of (settled c f) = f

-- the nodes of a cell that was found are the grid's
pub located_below : (g : Grid) (p : Vec3) {x y z : ℕ} {tx ty tz : Float} → SidesStand g.sides → locate g p ≡ At x tx y ty z tz
    → (x + 1 < g.sides.x) × ((y + 1 < g.sides.y) × (z + 1 < g.sides.z))
located_below g p s e = cell_of (subst (Settled g.sides) e (locate_settled g p s))

-- and the place in it is made of fractions
pub located_fractions : (g : Grid) (p : Vec3) {x y z : ℕ} {tx ty tz : Float} → SidesStand g.sides → locate g p ≡ At x tx y ty z tz →
    Fractions record { x = tx; y = ty; z = tz }
located_fractions g p s e = fractions_of (subst (Settled g.sides) e (locate_settled g p s))
