-- The test of the plane's point nearest to the axis' segment: which of three it is, and what it says. Assumes nothing.
use mathlib.Core.Path.{◌≡◌, refl, sym, ap, ◌∙◌, subst}
use mathlib.Core.Logic.{◌⊎◌, inl, inr}
use mathlib.Core.Bool.{Bool, true, false, ◌&&◌, cond}
use lib.IntN.{ℤ, pos, neg_ℤ, ◌+ℤ◌, ◌-ℤ◌, ◌*ℤ◌}
use lib.Signed.{lt_z, le_z}
use Rattle.wide_integers.proofs.Polynomials.{times_neg}
use Rattle.lists.proofs.JoinedTests.{and_first, and_second, and_three}
use Rattle.drill.specs.Decision.{FromAxis, nearest_in, plane_in}
use Rattle.wide_integers.proofs.Signs.{Nonneg, Positive, Negative, sign_of, nonneg_as, nonneg_sum, nonneg_times, nonneg_cancel}
use Rattle.wide_integers.proofs.Signs.{positive_nonneg}
use Rattle.wide_integers.proofs.Signs.{positive_as, positive_or_zero, square_nonneg, nonneg_of_le, le_of_nonneg, positive_of_lt}
use Rattle.wide_integers.proofs.Signs.{lt_of_positive}
use Rattle.wide_integers.proofs.Signs.{below_of_negative, not_below, nonneg_of_not, negated_positive, clash_signs, positive_sum}
use Rattle.wide_integers.proofs.Signs.{no_positive_zero}
use Rattle.drill.proofs.Identities as Identities
use Rattle.drill.proofs.Weighing.{Weights, total, sum_of, disc, sideways, upward, inward, low_of, high_of, In}
use Rattle.drill.proofs.Interiors.{opposite, Before, before, before_back, nowhere, Past, past, past_back}

-- ---- signs
not_above : {x : ℤ} → Negative x → lt_z (pos 0) x ≡ false
not_above {x} n = go (lt_z (pos 0) x) refl
  where
    go : (b : Bool) → lt_z (pos 0) x ≡ b → b ≡ false
    go false e = refl
    go true e = absurd (clash_signs (positive_nonneg (positive_of_lt x e)) n)

negative_cancel : {D x : ℤ} → Positive D → Negative (D *ℤ x) → Negative x
negative_cancel {D} {x} p n = elim (sign_of x) [
  | inl q ↦ q
  | inr q ↦ absurd (clash_signs (nonneg_times (positive_nonneg p) q) n)
]

-- ---- which of the three
module _ (near far : Bool) (i j k f h : ℤ) where
  abbrev inside : Bool
  inside = le_z (pos 0) i && (le_z (pos 0) j && le_z (pos 0) k)

  nearest_first : Negative f → near ≡ true → nearest_in near far i j k f h ≡ true
  nearest_first n e = ap (λ (b : Bool). cond b near (cond (lt_z h (pos 0)) far inside)) (below_of_negative n) ∙ e

  nearest_second : Nonneg f → Negative h → far ≡ true → nearest_in near far i j k f h ≡ true
  nearest_second p n e =
      ap (λ (b : Bool). cond b near (cond (lt_z h (pos 0)) far inside)) (not_below p)
      ∙ ap (λ (b : Bool). cond b far inside) (below_of_negative n) ∙ e

  nearest_third : Nonneg f → Nonneg h → Nonneg i → Nonneg j → Nonneg k → nearest_in near far i j k f h ≡ true
  nearest_third p q u v w =
      ap (λ (b : Bool). cond b near (cond (lt_z h (pos 0)) far inside)) (not_below p)
      ∙ ap (λ (b : Bool). cond b far inside) (not_below q)
      ∙ and_three (le_z (pos 0) i) (le_z (pos 0) j) (le_z (pos 0) k) (le_of_nonneg u) (le_of_nonneg v) (le_of_nonneg w)

  record Inside : Type 0 where
    past_near : Nonneg f
    before_far : Nonneg h
    first : Nonneg i
    second : Nonneg j
    third : Nonneg k

  nearest_says : nearest_in near far i j k f h ≡ true → (near ≡ true) ⊎ ((far ≡ true) ⊎ Inside)
  nearest_says e = go (lt_z f (pos 0)) (lt_z h (pos 0)) refl refl e
    where
      go : (b c : Bool) → lt_z f (pos 0) ≡ b → lt_z h (pos 0) ≡ c → cond b near (cond c far inside) ≡ true
          → (near ≡ true) ⊎ ((far ≡ true) ⊎ Inside)
      go true c u v e = inl e
      go false true u v e = inr (inl e)
      go false false u v e =
          let r = and_second (le_z (pos 0) i) (le_z (pos 0) j && le_z (pos 0) k) e in
          inr (inr (record {
            past_near = nonneg_of_not f u;
            before_far = nonneg_of_not h v;
            first = nonneg_of_le i (and_first (le_z (pos 0) i) (le_z (pos 0) j && le_z (pos 0) k) e);
            second = nonneg_of_le j (and_first (le_z (pos 0) j) (le_z (pos 0) k) r);
            third = nonneg_of_le k (and_second (le_z (pos 0) j) (le_z (pos 0) k) r);
          }))

  -- ---- by the sign of the weights' sum
  abbrev W : ℤ
  W = i +ℤ j +ℤ k

  abbrev forth : Bool
  forth = nearest_in near far i j k f h

  abbrev back : Bool
  back = nearest_in near far (neg_ℤ i) (neg_ℤ j) (neg_ℤ k) (neg_ℤ f) (neg_ℤ h)

  plane_forth : Positive W → plane_in near far i j k f h ≡ forth
  unfolding plane_in
  plane_forth p = ap (λ (b : Bool). cond b forth (cond (lt_z W (pos 0)) back near)) (lt_of_positive p)

  plane_back : Negative W → plane_in near far i j k f h ≡ back
  unfolding plane_in
  plane_back n =
      ap (λ (b : Bool). cond b forth (cond (lt_z W (pos 0)) back near)) (not_above n)
      ∙ ap (λ (b : Bool). cond b back near) (below_of_negative n)

  plane_none : W ≡ pos 0 → plane_in near far i j k f h ≡ near
  unfolding plane_in
  plane_none e = ap (λ (z : ℤ). cond (lt_z (pos 0) z) forth (cond (lt_z z (pos 0)) back near)) e

-- ---- what passes, and what it says
-- n is on the axis; D f and D h are how far it is past near and before far
module _ (R : ℤ) (a b c : FromAxis) (n : Weights) (D f h M : ℤ) (low_is : low_of a b c n ≡ D *ℤ f) (high_is : high_of a b c n ≡ D *ℤ h)
    (ex : sideways a b c n ≡ pos 0) (ey : upward a b c n ≡ pos 0) (ez : inward a b c n ≡ pos 0) (near far : Bool) where
  abbrev test : Bool
  test = plane_in near far n.i n.j n.k f h

  negated_low : low_of a b c (opposite n) ≡ D *ℤ neg_ℤ f
  negated_low = Identities.negated_sum n.i n.j n.k a.low b.low c.low ∙ ap neg_ℤ low_is ∙ sym (times_neg D f)

  negated_high : high_of a b c (opposite n) ≡ D *ℤ neg_ℤ h
  negated_high = Identities.negated_sum n.i n.j n.k a.high b.high c.high ∙ ap neg_ℤ high_is ∙ sym (times_neg D h)

  opposed_total : total (opposite n) ≡ neg_ℤ (total n)
  opposed_total = Identities.negated_total n.i n.j n.k

  negative_total : Positive (total (opposite n)) → Negative (total n)
  negative_total p = elim (sign_of (total n)) [
    | inl q ↦ q
    | inr q ↦ absurd (no_positive_zero (positive_sum p q) ((λ s. opposed_total s +ℤ total n) ∙ sum_zero (total n)))
  ]
    where
      sum_zero : (z : ℤ) → neg_ℤ z +ℤ z ≡ pos 0
      sum_zero z = Identities.cancels z

  module _ (pD : Positive D) where
    pub axis_passes : In R a b c n → test ≡ true
    axis_passes g =
        plane_forth near far n.i n.j n.k f h g.size
        ∙ nearest_third near far n.i n.j n.k f h (nonneg_cancel pD (nonneg_as low_is g.low))
        (nonneg_cancel pD (nonneg_as high_is g.high)) g.first g.second g.third

    pub axis_back_passes : In R a b c (opposite n) → test ≡ true
    axis_back_passes g =
        plane_back near far n.i n.j n.k f h (negative_total g.size)
        ∙ nearest_third near far (neg_ℤ n.i) (neg_ℤ n.j) (neg_ℤ n.k) (neg_ℤ f) (neg_ℤ h)
        (nonneg_cancel pD (nonneg_as negated_low g.low)) (nonneg_cancel pD (nonneg_as negated_high g.high)) g.first g.second
        g.third

    pub near_passes : Before a b c n → near ≡ true → test ≡ true
    near_passes (before p q) e =
        plane_forth near far n.i n.j n.k f h p
        ∙ nearest_first near far n.i n.j n.k f h (negative_cancel pD (subst Negative low_is q)) e
    near_passes (before_back p q) e =
        plane_back near far n.i n.j n.k f h p
        ∙ nearest_first near far (neg_ℤ n.i) (neg_ℤ n.j) (neg_ℤ n.k) (neg_ℤ f) (neg_ℤ h)
        (negative_cancel pD (subst Negative negated_low q)) e
    near_passes (nowhere z) e = plane_none near far n.i n.j n.k f h z ∙ e

    -- far is not before near
    module _ (n_m : Nonneg M) (ends : f +ℤ h ≡ M *ℤ total n) where
      other : (x y w : ℤ) → x +ℤ y ≡ M *ℤ w → Nonneg w → Negative y → Nonneg x
      other x y w e p q =
          nonneg_as ((λ s. sym e s -ℤ y) ∙ Identities.first_of_sum x y)
          (nonneg_sum (nonneg_times n_m p) (positive_nonneg (negated_positive q)))

      pub far_passes : Past a b c n → far ≡ true → test ≡ true
      far_passes (past p q) e =
          let hn = negative_cancel pD (subst Negative high_is q) in
          plane_forth near far n.i n.j n.k f h p
          ∙ nearest_second near far n.i n.j n.k f h (other f h (total n) ends (positive_nonneg p) hn) hn e
      far_passes (past_back p q) e =
          let hn = negative_cancel pD (subst Negative negated_high q) in
          plane_back near far n.i n.j n.k f h p
          ∙ nearest_second near far (neg_ℤ n.i) (neg_ℤ n.j) (neg_ℤ n.k) (neg_ℤ f) (neg_ℤ h)
          (other (neg_ℤ f) (neg_ℤ h) (neg_ℤ (total n)) (Identities.negated_both f h ∙ ap neg_ℤ ends ∙ sym (times_neg M (total n)))
          (positive_nonneg (negated_positive p)) hn) hn e

  -- ---- and back
  module _ (nR : Nonneg R) (n_d : Nonneg D) where
    own_room : (y : Weights) → sideways a b c y ≡ pos 0 → upward a b c y ≡ pos 0 → inward a b c y ≡ pos 0
        → Nonneg (disc R (total y) (sideways a b c y) (upward a b c y) (inward a b c y))
    own_room y u v w =
        nonneg_as (sym ((λ s. disc R (total y) (u s) (v s) (w s)) ∙ Identities.disc_axis R (total y)))
        (nonneg_times nR (square_nonneg (total y)))

    axis_in : Positive (total n) → Inside near far n.i n.j n.k f h → In R a b c n
    axis_in p g = record {
      first = g.first;
      second = g.second;
      third = g.third;
      low = nonneg_as (sym low_is) (nonneg_times n_d g.past_near);
      high = nonneg_as (sym high_is) (nonneg_times n_d g.before_far);
      size = p;
      near = own_room n ex ey ez;
    }

    opposed : (u v w : ℤ) → sum_of n u v w ≡ pos 0 → sum_of (opposite n) u v w ≡ pos 0
    opposed u v w e = Identities.negated_sum n.i n.j n.k u v w ∙ ap neg_ℤ e

    axis_back_in : Negative (total n) → Inside near far (neg_ℤ n.i) (neg_ℤ n.j) (neg_ℤ n.k) (neg_ℤ f) (neg_ℤ h)
        → In R a b c (opposite n)
    axis_back_in p g = record {
      first = g.first;
      second = g.second;
      third = g.third;
      low = nonneg_as (sym negated_low) (nonneg_times n_d g.past_near);
      high = nonneg_as (sym negated_high) (nonneg_times n_d g.before_far);
      size = positive_as (sym opposed_total) (negated_positive p);
      near = own_room (opposite n) (opposed a.moment.x b.moment.x c.moment.x ex)
          (opposed a.moment.y b.moment.y c.moment.y ey) (opposed a.moment.z b.moment.z c.moment.z ez);
    }

    pub plane_says : test ≡ true → (near ≡ true) ⊎ ((far ≡ true) ⊎ (In R a b c n ⊎ In R a b c (opposite n)))
    plane_says e = elim (sign_of (total n)) [
      | inl q ↦ elim (nearest_says near far (neg_ℤ n.i) (neg_ℤ n.j) (neg_ℤ n.k) (neg_ℤ f) (neg_ℤ h)
          (sym (plane_back near far n.i n.j n.k f h q) ∙ e)) [
            | inl u ↦ inl u
            | inr (inl u) ↦ inr (inl u)
            | inr (inr u) ↦ inr (inr (inr (axis_back_in q u)))
          ]
      | inr q ↦ elim (positive_or_zero q) [
        | inr z ↦ inl (sym (plane_none near far n.i n.j n.k f h z) ∙ e)
        | inl p ↦ elim (nearest_says near far n.i n.j n.k f h (sym (plane_forth near far n.i n.j n.k f h p) ∙ e)) [
          | inl u ↦ inl u
          | inr (inl u) ↦ inr (inl u)
          | inr (inr u) ↦ inr (inr (inl (axis_in p u)))
        ]
      ]
    ]
