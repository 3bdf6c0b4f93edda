-- A finite point is refused only for a coordinate inside the nodes whose own place is not finite: no coordinate that is drawn is
-- refused. Assumes nothing.
use mathlib.Core.Path.{◌≡◌, refl, sym, ap, ◌∙◌}
use mathlib.Core.Logic.{◌⊎◌, inl, inr}
use mathlib.Core.Bool.{Bool, true, false, cond, true≢false}
use mathlib.Core.List.{List}
use Prim.Native.Nat.{ℕ}
use lib.Ieee.{Float, lt}
use lib.ListN.{length}
use Rattle.vectors.specs.Vector.{finite_vec}
use Rattle.vectors.specs.declared.vec3.Vec3.{Vec3}
use Rattle.geometry.specs.Box.{valid_box}
use Rattle.casts.specs.Answer.{overflow}
use Rattle.distance_grid.specs.Grid.{last_node, grid_box, grid_admitted}
use Rattle.distance_grid.specs.Places.{clamped, clamped_point, locate_axis, with_place, locate_inside, locate}
use Rattle.grid_laws.specs.Clamping.{AxisStands, AxesStand, RefusedInside, VectorFits}
use Rattle.distance_grid.specs.declared.grid.Grid.{Grid}
use Rattle.distance_grid.specs.Places.{Place, PlaceAt, NoPlace, Located, LocatedAt as At, NotLocated as Refused}
use Rattle.grid_laws.proofs.ClampedLaws.{clamped_right}
use Rattle.grid_laws.proofs.AxisLaws.{axes_stand}

-- ---- one axis
clamped_refused : (o s : Float) (side : ℕ) → AxisStands o s side → (p : Float) → locate_axis (clamped p o s side) o s side ≡ NoPlace
    → RefusedInside o s side p
clamped_refused o s side axis p e = go (lt p o) (lt (last_node o s side) p) refl refl
  where
    go : (b c : Bool) → lt p o ≡ b → lt (last_node o s side) p ≡ c → RefusedInside o s side p
    go true c h k = absurd ((clamped_right o s side axis p).located (λ a b. true≢false (sym h ∙ a)) e)
    go false true h k = absurd ((clamped_right o s side axis p).located (λ a b. true≢false (sym k ∙ b)) e)
    go false false h k = record {
      not_before = h;
      not_behind = k;
      refused = ap (λ (q : Float). locate_axis q o s side) (sym ((clamped_right o s side axis p).inside h k)) ∙ e;
    }

-- ---- three axes
is_refused_lem : Located → Bool
is_refused_lem (At x tx y ty z tz) = false
is_refused_lem (Refused number) = true

one_missing : (a b c : Place)
    → is_refused_lem (with_place a
    (λ (x : ℕ) (tx : Float). with_place b (λ (y : ℕ) (ty : Float). with_place c (λ (z : ℕ) (tz : Float). At x tx y ty z tz))))
    ≡ true → (a ≡ NoPlace) ⊎ ((b ≡ NoPlace) ⊎ (c ≡ NoPlace))
unfolding is_refused_lem
one_missing (PlaceAt x tx) (PlaceAt y ty) (PlaceAt z tz) h = absurd (true≢false (sym h))
one_missing (PlaceAt x tx) (PlaceAt y ty) NoPlace h = inr (inr refl)
one_missing (PlaceAt x tx) NoPlace c h = inr (inl refl)
one_missing NoPlace b c h = inl refl

inside_refused : (g : Grid) (p : Vec3) (number : ℕ) → finite_vec p ≡ true → locate g p ≡ Refused number
    → is_refused_lem (locate_inside g (clamped_point g p)) ≡ true
unfolding locate is_refused_lem
inside_refused g p number f e =
    ap is_refused_lem (sym (ap (λ (b : Bool). cond b (locate_inside g (clamped_point g p)) (Refused overflow)) f) ∙ e)

refused_inside : (g : Grid) → AxesStand g → (p : Vec3) (number : ℕ) → finite_vec p ≡ true → locate g p ≡ Refused number
    → RefusedInside g.origin.x g.spacing.x g.sides.x p.x
    ⊎ (RefusedInside g.origin.y g.spacing.y g.sides.y p.y ⊎ RefusedInside g.origin.z g.spacing.z g.sides.z
    p.z)
refused_inside g axes p number f e = go (missing (inside_refused g p number f e))
  where
    X : Type 0
    X = locate_axis (clamped p.x g.origin.x g.spacing.x g.sides.x) g.origin.x g.spacing.x g.sides.x ≡ NoPlace

    Y : Type 0
    Y = locate_axis (clamped p.y g.origin.y g.spacing.y g.sides.y) g.origin.y g.spacing.y g.sides.y ≡ NoPlace

    Z : Type 0
    Z = locate_axis (clamped p.z g.origin.z g.spacing.z g.sides.z) g.origin.z g.spacing.z g.sides.z ≡ NoPlace

    missing : is_refused_lem (locate_inside g (clamped_point g p)) ≡ true → X ⊎ (Y ⊎ Z)
    missing h = one_missing _ _ _ (unfold locate_inside clamped_point in h)

    go : X ⊎ (Y ⊎ Z)
        → RefusedInside g.origin.x g.spacing.x g.sides.x p.x
        ⊎ (RefusedInside g.origin.y g.spacing.y g.sides.y p.y ⊎ RefusedInside g.origin.z g.spacing.z g.sides.z
        p.z)
    go (inl h) = inl (clamped_refused g.origin.x g.spacing.x g.sides.x axes.on_x p.x h)
    go (inr (inl h)) = inr (inl (clamped_refused g.origin.y g.spacing.y g.sides.y axes.on_y p.y h))
    go (inr (inr h)) = inr (inr (clamped_refused g.origin.z g.spacing.z g.sides.z axes.on_z p.z h))

-- on a grid that is admitted and whose box is valid
pub refused_only_inside : (g : Grid) (values : List Float) → VectorFits g.origin → VectorFits g.spacing → grid_admitted g
    (length values) ≡ true
    → valid_box (grid_box g) ≡ true → (p : Vec3) (number : ℕ) → finite_vec p ≡ true → locate g p ≡ Refused number
    → RefusedInside g.origin.x g.spacing.x g.sides.x p.x
    ⊎ (RefusedInside g.origin.y g.spacing.y g.sides.y p.y ⊎ RefusedInside g.origin.z g.spacing.z g.sides.z
    p.z)
refused_only_inside g values o s a v p number f e = refused_inside g (axes_stand g values o s a v) p number f e
