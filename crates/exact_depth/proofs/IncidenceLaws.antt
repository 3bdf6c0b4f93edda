-- The signs of a triangle's weights decide where the line passes it. Assumes nothing.
use Rattle.std.specs.Prelude.{None}
use mathlib.Core.Path.{◌≡◌, refl, sym, ap, ◌∙◌}
use mathlib.Core.Logic.{◌⊎◌, inl, inr}
use mathlib.Core.Bool.{Bool, true, false, ◌||◌, true≢false, false≢true}
use Prim.Native.Nat.{ℕ, suc, ◌+◌, ◌*◌, ◌≤◌, ◌<◌}
use native.Mathlib.Nat.{mul-le-mul_right}
use native.Mathlib.Omega.{arith}
use lib.IntN.{ℤ, pos, negsuc, neg_ℤ, ◌+ℤ◌, ◌*ℤ◌}
use lib.Signed.{lt_z}
use Rattle.wide_integers.proofs.Integers.{pp, np}
use Rattle.wide_integers.proofs.Polynomials.{own, own_pos, rep_add, rep_neg, rep_mul}
use Rattle.wide_integers.proofs.Order.{rep_lt, lt_rep, rep_nlt, nlt_rep, rep_same}
use Rattle.exact_depth.specs.declared.projection.Projected.{Projected}
use Rattle.exact_depth.specs.declared.projection.Fraction.{Fraction}
use Rattle.exact_depth.specs.FirstPoint.{seen_determinant, kept, crossing, by_weights, first_point}
use Rattle.exact_depth.specs.Meeting.{Meets, On, HasArea}
use Rattle.exact_depth.specs.Orientation.{SignOf}
use Rattle.exact_depth.specs.declared.incidence.Incidence.{Incidence}
use Rattle.exact_depth.specs.declared.incidence.Incidence.TheVariants.{Outside, Crossing, Coplanar}
use Rattle.exact_depth.specs.Incidence.{Crosses, any_negative, any_positive, BySigns, Incident}
use Rattle.exact_depth.proofs.Weights.{Weights, own_weights, negated}
use Rattle.exact_depth.proofs.Firsts.{nonneg_of, positive_of}
use Rattle.exact_depth.proofs.Crossed.{own_meets}
use Rattle.exact_depth.proofs.OneSided.{unmet}

-- ---- what the tests say
abbrev pub Above : ℤ → Type 0
Above x = lt_z (pos 0) x ≡ true

abbrev pub Beneath : ℤ → Type 0
Beneath x = lt_z x (pos 0) ≡ true

pub some_of : (p q r : Bool) → (p || (q || r)) ≡ true → (p ≡ true) ⊎ ((q ≡ true) ⊎ (r ≡ true))
some_of true q r h = inl refl
some_of false true r h = inr (inl refl)
some_of false false true h = inr (inr refl)
some_of false false false h = absurd (false≢true h)

pub none_of : (p q r : Bool) → (p || (q || r)) ≡ false → (p ≡ false) × ((q ≡ false) × (r ≡ false))
none_of true q r h = absurd (true≢false h)
none_of false true r h = absurd (true≢false h)
none_of false false true h = absurd (true≢false h)
none_of false false false h = (refl, (refl, refl))

-- ---- of a point of the line in the triangle each weight is a share of their sum
record Share (D : ℕ) (W x : ℤ) : Type 0 where
  n : ℕ
  is : pos D *ℤ x ≡ pos n *ℤ W

-- so no two have opposite signs
opposite : (D : ℕ) (W x y : ℤ) → 0 < D → Share D W x → Share D W y → Above x → Beneath y → ⊥
opposite D (pos w) x y p s t h g = true≢false (sym g ∙ nonneg_of D (t.n * w) y p t.is)
opposite D (negsuc w) x y p s t h g =
    let m = rep_lt (own_pos 0) (own x) h in
    let e = rep_same (rep_mul (own_pos D) (own x)) (rep_mul (own_pos s.n) (own (negsuc w))) s.is in
    let k : (np x + 1) * D ≤ pp x * D = mul-le-mul_right D (omega (arith, m)) in
    none D (pp x) (np x) s.n w p e k
  where
    none : (D a b n w : ℕ) → 0 < D → D * a + 0 * b + (n * suc w + 0 * 0) ≡ n * 0 + 0 * suc w + (D * b + 0 * a) → (b + 1) * D ≤ a * D → ⊥
    none D a b n w p e k = omega (arith, p, e, k)

module _ (a b c : Projected) where
  abbrev α : ℤ
  α = seen_determinant b c

  abbrev β : ℤ
  β = seen_determinant c a

  abbrev γ : ℤ
  γ = seen_determinant a b

  abbrev sum : ℤ
  sum = α +ℤ β +ℤ γ

  ws : Weights a.across a.up b.across b.up c.across c.up α β γ
  ws = own_weights a.across a.up b.across b.up c.across c.up

  -- ---- outside
  module _ (near far : ℤ) (D : ℕ) (t : ℤ) (o : On near far a b c D t) where
    abbrev m : Meets a b c D t
    m = o.meets

    share_of : (x : ℤ) (n : ℕ) → pos (m.i + m.j + m.k) *ℤ x ≡ pos n *ℤ sum → Share D sum x
    share_of x n h = record { n = n; is = ap (λ (k : ℕ). pos k *ℤ x) (sym m.total) ∙ h }

    first_share : Share D sum α
    first_share = share_of α m.i (ws.first m.i m.j m.k m.across m.up)

    second_share : Share D sum β
    second_share = share_of β m.j (ws.second m.i m.j m.k m.across m.up)

    third_share : Share D sum γ
    third_share = share_of γ m.k (ws.third m.i m.j m.k m.across m.up)

    any_positive_lem : (y : ℤ) → Share D sum y → Beneath y → Above α ⊎ (Above β ⊎ Above γ) → ⊥
    any_positive_lem y s g (inl h) = opposite D sum α y o.positive first_share s h g
    any_positive_lem y s g (inr (inl h)) = opposite D sum β y o.positive second_share s h g
    any_positive_lem y s g (inr (inr h)) = opposite D sum γ y o.positive third_share s h g

    no_point : Above α ⊎ (Above β ⊎ Above γ) → Beneath α ⊎ (Beneath β ⊎ Beneath γ) → ⊥
    no_point h (inl g) = any_positive_lem α first_share g h
    no_point h (inr (inl g)) = any_positive_lem β second_share g h
    no_point h (inr (inr g)) = any_positive_lem γ third_share g h

  pub outside : Above α ⊎ (Above β ⊎ Above γ) → Beneath α ⊎ (Beneath β ⊎ Beneath γ) → (near far : ℤ) → None ≡ first_point a b c near far
  outside h g near far = unmet near far a b c (λ D t o. no_point near far D t o h g)

  -- ---- inside: none is below 0, and one is above
  module _ (A : lt_z α (pos 0) ≡ false) (B : lt_z β (pos 0) ≡ false) (C : lt_z γ (pos 0) ≡ false)
      (some : Above α ⊎ (Above β ⊎ Above γ)) where
    sum_above : Above sum
    sum_above =
        let p = rep_nlt (own α) (own_pos 0) A in
        let q = rep_nlt (own β) (own_pos 0) B in
        let r = rep_nlt (own γ) (own_pos 0) C in
        lt_rep (own_pos 0) (rep_add (rep_add (own α) (own β)) (own γ))
        (go (pp α) (np α) (pp β) (np β) (pp γ) (np γ) p q r (each some))
      where
        each : Above α ⊎ (Above β ⊎ Above γ) → (np α < pp α) ⊎ ((np β < pp β) ⊎ (np γ < pp γ))
        each (inl h) = let m = rep_lt (own_pos 0) (own α) h in inl (omega (arith, m))
        each (inr (inl h)) = let m = rep_lt (own_pos 0) (own β) h in inr (inl (omega (arith, m)))
        each (inr (inr h)) = let m = rep_lt (own_pos 0) (own γ) h in inr (inr (omega (arith, m)))

        go : (a b c d e f : ℕ) → 0 + b ≤ a + 0 → 0 + d ≤ c + 0 → 0 + f ≤ e + 0 → (b < a) ⊎ ((d < c) ⊎ (f < e))
            → 0 + (b + d + f) < a + c + e + 0
        go a b c d e f p q r (inl h) = omega (arith, p, q, r, h)
        go a b c d e f p q r (inr (inl h)) = omega (arith, p, q, r, h)
        go a b c d e f p q r (inr (inr h)) = omega (arith, p, q, r, h)

    abbrev at : Fraction
    at = record { t = α *ℤ a.depth +ℤ β *ℤ b.depth +ℤ γ *ℤ c.depth; w = sum }

    crossed : (near far : ℤ) → first_point a b c near far ≡ kept at near far
    unfolding first_point by_weights crossing
    crossed near far = simp (sum_above, A, B, C)

    apart : HasArea a b c
    apart z s u = false≢true (sym (ap (lt_z (pos 0)) z) ∙ sum_above)

    pub inside_above : Crosses a b c
    inside_above =
        let e = positive_of sum sum_above in
        record {
          at = at;
          W = pp sum;
          positive = e.1;
          denominator = e.0;
          meets = own_meets (pos 0) (pos 0) a b c α β γ ws (pp sum) e.0 e.1 apart A B C;
          first = crossed;
        }

  -- ---- .. or none is above 0, and one is below
  module _ (A : lt_z (pos 0) α ≡ false) (B : lt_z (pos 0) β ≡ false) (C : lt_z (pos 0) γ ≡ false)
      (some : Beneath α ⊎ (Beneath β ⊎ Beneath γ)) where
    abbrev turned : ℤ
    turned = neg_ℤ α +ℤ neg_ℤ β +ℤ neg_ℤ γ

    not_beneath : (x : ℤ) → lt_z (pos 0) x ≡ false → lt_z (neg_ℤ x) (pos 0) ≡ false
    not_beneath x h = let m = rep_nlt (own_pos 0) (own x) h in nlt_rep (rep_neg (own x)) (own_pos 0) (omega (arith, m))

    fewer : pp α + pp β + pp γ < np α + np β + np γ
    fewer =
        let p = rep_nlt (own_pos 0) (own α) A in
        let q = rep_nlt (own_pos 0) (own β) B in
        let r = rep_nlt (own_pos 0) (own γ) C in
        go (pp α) (np α) (pp β) (np β) (pp γ) (np γ) p q r (each some)
      where
        each : Beneath α ⊎ (Beneath β ⊎ Beneath γ) → (pp α < np α) ⊎ ((pp β < np β) ⊎ (pp γ < np γ))
        each (inl h) = let m = rep_lt (own α) (own_pos 0) h in inl (omega (arith, m))
        each (inr (inl h)) = let m = rep_lt (own β) (own_pos 0) h in inr (inl (omega (arith, m)))
        each (inr (inr h)) = let m = rep_lt (own γ) (own_pos 0) h in inr (inr (omega (arith, m)))

        go : (a b c d e f : ℕ) → a + 0 ≤ 0 + b → c + 0 ≤ 0 + d → e + 0 ≤ 0 + f → (a < b) ⊎ ((c < d) ⊎ (e < f)) → a + c + e < b + d + f
        go a b c d e f p q r (inl h) = omega (arith, p, q, r, h)
        go a b c d e f p q r (inr (inl h)) = omega (arith, p, q, r, h)
        go a b c d e f p q r (inr (inr h)) = omega (arith, p, q, r, h)

    sum_beneath : Beneath sum
    sum_beneath =
        let k = fewer in lt_rep (rep_add (rep_add (own α) (own β)) (own γ)) (own_pos 0) (omega (arith, k))

    sum_not_above : lt_z (pos 0) sum ≡ false
    sum_not_above =
        let k = fewer in nlt_rep (own_pos 0) (rep_add (rep_add (own α) (own β)) (own γ)) (omega (arith, k))

    turned_above : Above turned
    turned_above =
        let k = fewer in
        lt_rep (own_pos 0) (rep_add (rep_add (rep_neg (own α)) (rep_neg (own β))) (rep_neg (own γ))) (omega (arith, k))

    abbrev turned_at : Fraction
    turned_at = record { t = neg_ℤ α *ℤ a.depth +ℤ neg_ℤ β *ℤ b.depth +ℤ neg_ℤ γ *ℤ c.depth; w = turned }

    turned_crossed : (near far : ℤ) → first_point a b c near far ≡ kept turned_at near far
    unfolding first_point by_weights crossing
    turned_crossed near far = simp (sum_not_above, sum_beneath, not_beneath α A, not_beneath β B, not_beneath γ C)

    turned_apart : HasArea a b c
    turned_apart z s u = false≢true (sym (ap (λ (x : ℤ). lt_z x (pos 0)) z) ∙ sum_beneath)

    pub inside_below : Crosses a b c
    inside_below =
        let e = positive_of turned turned_above in
        record {
          at = turned_at;
          W = pp turned;
          positive = e.1;
          denominator = e.0;
          meets =
              own_meets (pos 0) (pos 0) a b c (neg_ℤ α) (neg_ℤ β) (neg_ℤ γ) (negated ws) (pp turned) e.0 e.1 turned_apart
              (not_beneath α A) (not_beneath β B) (not_beneath γ C);
          first = turned_crossed;
        }

  -- ---- by numbers with the weights' signs
  module _ {x y z : ℤ} (X : SignOf x α) (Y : SignOf y β) (Z : SignOf z γ) where
    below_is : any_negative x y z ≡ any_negative α β γ
    below_is = λ i. X.below i || (Y.below i || Z.below i)

    above_is : any_positive x y z ≡ any_positive α β γ
    above_is = λ i. X.above i || (Y.above i || Z.above i)

    below_of : any_negative x y z ≡ true → Beneath α ⊎ (Beneath β ⊎ Beneath γ)
    below_of h = some_of (lt_z α (pos 0)) (lt_z β (pos 0)) (lt_z γ (pos 0)) (sym below_is ∙ h)

    above_of : any_positive x y z ≡ true → Above α ⊎ (Above β ⊎ Above γ)
    above_of h = some_of (lt_z (pos 0) α) (lt_z (pos 0) β) (lt_z (pos 0) γ) (sym above_is ∙ h)

    pub incident_by : (r : Incidence) → BySigns x y z r → Incident a b c r
    incident_by Outside h = outside (above_of h.1) (below_of h.0)
    incident_by Crossing (inl h) =
        let n = none_of (lt_z (pos 0) α) (lt_z (pos 0) β) (lt_z (pos 0) γ) (sym above_is ∙ h.1) in
        inside_below n.0 n.1.0 n.1.1 (below_of h.0)
    incident_by Crossing (inr h) =
        let n = none_of (lt_z α (pos 0)) (lt_z β (pos 0)) (lt_z γ (pos 0)) (sym below_is ∙ h.0) in
        inside_above n.0 n.1.0 n.1.1 (above_of h.1)
    incident_by Coplanar h = tt

-- ---- the tests of three numbers, one after the other
