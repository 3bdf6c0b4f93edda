-- The code's steps give exact_depth's numbers, and keep to their sizes. Assumes nothing.
use Rattle.std.specs.Prelude.{Option, None}
use Rattle.exact_depth.specs.declared.wide_depth.WideDepth.{WideDepth}
use mathlib.Core.Path.{◌≡◌, sym, ap, ◌∙◌, subst}
use mathlib.Core.Bool.{Bool, true, false, cond}
use lib.Dec.{lit≤, lit<}
use lib.IntN.{ℤ, pos, neg_ℤ, ◌-ℤ◌, ◌*ℤ◌, +ℤ_idl}
use lib.Signed.{lt_z}
use mir.Syntax.{w64}
use mir.Val.{SFits}
use Rattle.exact_depth.specs.declared.projection.Projected.{Projected}
use Rattle.exact_depth.specs.declared.projection.Fraction.{Fraction}
use Rattle.wide_integers.specs.Sizes.{Sized61}
use Rattle.exact_depth.specs.declared.plane.Side.{Side}
use Rattle.wide_integers.specs.Determinant.{determinant}
use Rattle.exact_depth.specs.FirstPoint.{seen_determinant, height_of, side_of, entering}
use Rattle.wide_integers.proofs.Reading.{bits, Fit, fits, plain, widen, held_fit, product_size, difference_size, negated_size}
use Rattle.wide_integers.proofs.Reading.{bits_back}
use Rattle.wide_integers.proofs.Polynomials.{times_comm}
use Rattle.wide_integers.specs.declared.number.Wide.{Wide}
use Rattle.wide_integers.specs.Value.{value, Middling, Weight, FitsWide as Three}
use Rattle.wide_integers.proofs.OperationLaws.{held, middling, word_size}
use Rattle.exact_depth.specs.declared.plane.PlanePoint.{PlanePoint}
use Rattle.exact_depth.specs.declared.coplanar_point.Edge.{Edge}
use Rattle.exact_depth.specs.declared.coplanar_point.PlaneDepth.{PlaneDepth}
use Rattle.exact_depth.specs.Answer.{Finds, side_as, plane_depth_of}
use Rattle.exact_depth.specs.Sizes.{Close, Flat, Bounded, Shallow}

-- ---- answers
pub finds_as : {r : Option WideDepth} {d e : Option Fraction} → Finds r d → d ≡ e → Finds r e
finds_as f p = record { is = f.is ∙ p; narrow = f.narrow }

pub missed : {d : Option Fraction} → None ≡ d → Finds None d
missed p = record { is = p; narrow = tt }

-- ---- what the machine reads back
module _ {a b c d : ℤ} (fa : SFits w64 a) (fb : SFits w64 b) (fc : SFits w64 c) (fd : SFits w64 d) where
  pub determinant_back : {x : ℤ} → x ≡ determinant (bits a) (bits b) (bits c) (bits d) → x ≡ determinant a b c d
  determinant_back e = e ∙ (λ i. determinant (bits_back fa i) (bits_back fb i) (bits_back fc i) (bits_back fd i))

  -- the first and the third up to 2^61
  pub determinant_weight : Sized61 a → Sized61 c → Weight (determinant a b c d)
  determinant_weight ha hc = difference_size (product_size ha (word_size fd)) (product_size (word_size fb) hc)

-- ---- the range
module _ (t w n : ℤ) (f : SFits w64 n) {m : ℤ} (e : m ≡ w *ℤ bits n) where
  bound : n *ℤ w ≡ m
  bound = times_comm n w ∙ ap (λ (z : ℤ). w *ℤ z) (sym (bits_back f)) ∙ sym e

  pub low_told : {r b : Bool} → r ≡ lt_z t m → r ≡ b → lt_z t (n *ℤ w) ≡ b
  low_told h k = ap (λ (z : ℤ). lt_z t z) bound ∙ sym h ∙ k

  pub high_told : {r b : Bool} → r ≡ lt_z m t → r ≡ b → lt_z (n *ℤ w) t ≡ b
  high_told h k = ap (λ (z : ℤ). lt_z z t) bound ∙ sym h ∙ k

-- ---- a side's height
module _ (l f t w : ℤ) (hf : Fit f) (hw : Fit w) where
  pub height_told : {x y : ℤ} → x ≡ l *ℤ bits w → y ≡ t *ℤ bits f → x -ℤ y ≡ determinant l f t w
  height_told e d =
      (λ i. e i -ℤ d i) ∙ (λ i. l *ℤ plain hw i -ℤ t *ℤ plain hf i) ∙ ap (λ (z : ℤ). l *ℤ w -ℤ z) (times_comm t f)

  pub height_held : Weight l → Weight t → Three (determinant l f t w)
  height_held hl ht = held (difference_size (product_size hl hw) (product_size hf ht)) (lit< tt)

pub fit_middling : {z : ℤ} → Fit z → Middling z
fit_middling h = middling h (lit< tt)

pub word_weight : {z : ℤ} → SFits w64 z → Weight z
word_weight f = widen (word_size f) (lit≤ tt)

-- ---- 0 - z
module _ {z : ℤ} (h : Fit z) where
  from_zero : pos 0 -ℤ bits z ≡ neg_ℤ z
  from_zero = +ℤ_idl (neg_ℤ (bits z)) ∙ ap neg_ℤ (plain h)

  pub negate_fits : SFits w64 (pos 0 -ℤ bits z)
  negate_fits = subst (SFits w64) (sym from_zero) (fits (negated_size h))

  pub negate_read : bits (pos 0 -ℤ bits z) ≡ neg_ℤ z
  negate_read = ap (λ (y : ℤ). bits y) from_zero ∙ plain (negated_size h)

-- ---- the corners' weights
pub seen_weight : {p q : Projected} → Close p → Close q → Weight (seen_determinant p q)
seen_weight h g =
    widen (difference_size (product_size h.across g.up) (product_size h.up g.across)) (lit≤ tt)

-- ---- sides and depths in a plane
record Steady (s : Side) : Type 0 where
  level : Weight s.level
  fall : Fit s.fall

record Kept (f : Fraction) : Type 0 where
  t : Weight f.t
  w : Fit f.w

pub side_bounded : {p q : PlanePoint} {r : Edge} → SFits w64 p.depth → SFits w64 q.depth → Flat p → Flat q
    → side_as r ≡ side_of p q → Bounded r
unfolding side_of
side_bounded {p} {q} {r} d f h g e =
    let k : Steady (side_as r) =
    subst Steady (sym e) (record {
      level = determinant_weight (fits (held_fit h.u)) d (fits (held_fit g.u)) f h.u g.u;
      fall = difference_size h.u g.u;
    }) in
    record { level = k.level; fall = k.fall }

entering_kept : (f : Fraction) (s : Side) → Kept f → Steady s → Kept (entering f s)
unfolding entering
entering_kept f s h g = go (lt_z s.fall (pos 0)) (lt_z (height_of s f) (pos 0))
  where
    go : (p q : Bool) → Kept (cond p (cond q (record { t = neg_ℤ s.level; w = neg_ℤ s.fall }) f) f)
    go false q = h
    go true false = h
    go true true = record { t = negated_size g.level; w = negated_size g.fall }

pub entering_shallow : {m r : PlaneDepth} {s : Edge} → Shallow m → Bounded s → plane_depth_of r ≡ entering (plane_depth_of m) (side_as s)
    → Shallow r
entering_shallow {m} {r} {s} h g e =
    let k : Kept (plane_depth_of r) =
    subst Kept (sym e) (entering_kept (plane_depth_of m) (side_as s) (record { t = h.t; w = h.w })
    (record { level = g.level; fall = g.fall })) in
    record { t = k.t; w = k.w }

pub start_shallow : {near : ℤ} {v : Wide} → SFits w64 near → value v ≡ bits near → Shallow (record { t = v; w = pos 1 })
start_shallow f e = record { t = subst Weight (sym (e ∙ bits_back f)) (word_weight f); w = record { size = lit≤ tt } }

module _ {w z : ℤ} (h : Fit w) (e : z ≡ bits w) where
  pub word_told : z ≡ w
  word_told = e ∙ plain h

  pub word_middling : Middling z
  word_middling = subst Middling (sym word_told) (fit_middling h)
