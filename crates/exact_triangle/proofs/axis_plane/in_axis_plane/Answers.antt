-- `exact_triangle::axis_plane::in_axis_plane` meets its contract. Assumes nothing.
use Rattle.std.proofs.Common.{◌≡◌, ℕ, ℤ, ◌-ℤ◌, sym, refl, ap, ◌∙◌, subst, inl, inr, lit≤, w64, to_z, of_z}
use Rattle.wide_integers.specs.Sizes.{Sized}
use Rattle.wide_integers.proofs.Reading.{bits, plain, widen, sized_bits}
use Rattle.exact_depth.proofs.Terms.{Term, term, minus, minus_fits, read_sized}
use Rattle.exact_triangle.specs.CrossingDistance.{AtPlane}
use Rattle.exact_triangle.proofs.axis_plane.in_axis_plane.Goals as goal

-- numbers with one pattern are one
one_number : {x y : ℤ} → Sized 268435456 x → Sized 268435456 y → of_z w64 x ≡ of_z w64 y → y ≡ x
one_number h g e = sym (plain (widen g (lit≤ tt))) ∙ ap (λ (n : ℕ). to_z w64 n) (sym e) ∙ plain (widen h (lit≤ tt))

pub overflow_sub-a : goal.overflow_sub-a
overflow_sub-a c = minus_fits (term c.requires.0.0 (lit≤ tt)) (term c.requires.1.0 (lit≤ tt)) (lit≤ tt)

pub at_plane-requires : goal.at_plane-requires
at_plane-requires c =
    let away : Term (bits (bits c.args.a -ℤ bits c.args.o)) (c.args.a -ℤ c.args.o) 536870912 =
    minus (term c.requires.0.0 (lit≤ tt)) (term c.requires.1.0 (lit≤ tt)) (lit≤ tt) in
    (read_sized away, sized_bits c.requires.1.1 (lit≤ tt))

pub returns-then-a-c : goal.returns-then-a-c
returns-then-a-c c =
    let away : Term (bits (bits c.args.a -ℤ bits c.args.o)) (c.args.a -ℤ c.args.o) 536870912 =
    minus (term c.requires.0.0 (lit≤ tt)) (term c.requires.1.0 (lit≤ tt)) (lit≤ tt) in
    let v = c.args in
    inr (record {
      second = one_number c.requires.0.0 c.requires.0.1.0 c.if-a-b.true;
      third = one_number c.requires.0.0 c.requires.0.1.1 c.if-a-c.true;
      across =
          subst (λ (z : ℤ). AtPlane z v.d v.start v.finish c.at_plane.result) away.is
          (subst (λ (z : ℤ). AtPlane (bits (bits v.a -ℤ bits v.o)) z v.start v.finish c.at_plane.result)
          (plain (widen c.requires.1.1 (lit≤ tt))) c.at_plane.ensures);
    })

pub returns-else-a-c : goal.returns-else-a-c
returns-else-a-c c = inl refl

pub returns-else-a-b : goal.returns-else-a-b
returns-else-a-b c = inl refl
