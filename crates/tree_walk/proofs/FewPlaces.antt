-- A few order places taken without a jump for each: what stands behind those listed is put back. Assumes nothing.
use Prim.Native.Nat.{ℕ, zero, suc, ◌+◌, ◌-◌, ◌*◌, ◌<◌, ◌≤◌}
use mathlib.Core.Path.{◌≡◌, refl, sym, ap, ap₂, subst, ◌∙◌}
use mathlib.Core.Bool.{Bool, true, false, ◌&&◌}
use mathlib.Core.List.{List, [], ◌∷◌}
use native.Mathlib.Omega.{arith}
use native.Mathlib.Numerals.{add-one}
use lib.Ieee.{Float, le}
use lib.ListN.{length, take, drop, set, get_or, length-set}
use lib.Seq.{drop-cons, drop-set-lt, get_or-set_same, take-set-le}
use Rattle.geometry.specs.Box.{touches, touch_side}
use Rattle.geometry.specs.declared.aabb.Aabb.{Aabb}
use Rattle.lists.specs.Lists.{range, all_below}
use Rattle.tree.specs.Layout.{Tree, word_at, box_at}
use Rattle.tree_walk.specs.Walk.{Walking, walking, take_place, take_places}
use Rattle.tree_walk.specs.Areas.{Room, Placed}
use Rattle.tree_walk.specs.Opening.{as_number}
use Rattle.std.specs.Prelude.{Some, None}
use Rattle.tree_walk.proofs.Places.{place_outside, place_missed, place_listed, places_broken, after_places, drop_later}

-- ---- a test as a number
pub number_small : (b : Bool) → as_number b ≤ 1
number_small true = omega arith
number_small false = omega arith

pub numbers_joined : (p q : Bool) → as_number p * as_number q ≡ as_number (p && q)
numbers_joined true true = refl
numbers_joined true false = refl
numbers_joined false true = refl
numbers_joined false false = refl

pub four_joined : (p q r s : Bool) → (as_number p * as_number q) * (as_number r * as_number s) ≡ as_number ((p && q) && (r && s))
four_joined p q r s = ap₂ (λ (m n : ℕ). m * n) (numbers_joined p q) (numbers_joined r s) ∙ numbers_joined (p && q) (r && s)

reorder : (p q r s t u : Bool) → (((p && q) && (r && s)) && (t && u)) ≡ ((p && u) && ((q && r) && (t && s)))
reorder false q r s t u = refl
reorder true false false false false false = refl
reorder true false false false false true = refl
reorder true false false false true false = refl
reorder true false false false true true = refl
reorder true false false true false false = refl
reorder true false false true false true = refl
reorder true false false true true false = refl
reorder true false false true true true = refl
reorder true false true false false false = refl
reorder true false true false false true = refl
reorder true false true false true false = refl
reorder true false true false true true = refl
reorder true false true true false false = refl
reorder true false true true false true = refl
reorder true false true true true false = refl
reorder true false true true true true = refl
reorder true true false false false false = refl
reorder true true false false false true = refl
reorder true true false false true false = refl
reorder true true false false true true = refl
reorder true true false true false false = refl
reorder true true false true false true = refl
reorder true true false true true false = refl
reorder true true false true true true = refl
reorder true true true false false false = refl
reorder true true true false false true = refl
reorder true true true false true false = refl
reorder true true true false true true = refl
reorder true true true true false false = refl
reorder true true true true false true = refl
reorder true true true true true false = refl
reorder true true true true true true = refl

abbrev low : Aabb → Aabb → Bool
low a b = le a.min.x b.max.x && le a.min.y b.max.y

abbrev high : Aabb → Aabb → Bool
high a b = le b.min.y a.max.y && le b.min.z a.max.z

abbrev last : Aabb → Aabb → Bool
last a b = le a.min.z b.max.z && le b.min.x a.max.x

pub touch_number_is : (a b : Aabb)
    → (as_number (le a.min.x b.max.x) * as_number (le a.min.y b.max.y))
    * (as_number (le b.min.y a.max.y) * as_number (le b.min.z a.max.z))
    * (as_number (le a.min.z b.max.z) * as_number (le b.min.x a.max.x)) ≡ as_number (touches a b)
unfolding touches touch_side
touch_number_is a b =
    ap₂ (λ (m n : ℕ). m * n)
    (four_joined (le a.min.x b.max.x) (le a.min.y b.max.y) (le b.min.y a.max.y) (le b.min.z a.max.z))
    (numbers_joined (le a.min.z b.max.z) (le b.min.x a.max.x))
    ∙ numbers_joined (low a b && high a b) (last a b)
    ∙ ap as_number (reorder (le a.min.x b.max.x) (le a.min.y b.max.y) (le b.min.y a.max.y)
    (le b.min.z a.max.z) (le a.min.z b.max.z) (le b.min.x a.max.x))

-- ---- what stood behind those listed
pub record Behind (before list₀ : List ℕ) (found : ℕ) : Type 0 where
  pub kept : (k : ℕ) → k < 5 → get_or before k 0 ≡ word_at list₀ (found + k)

five_kept : (list : List ℕ) (found k : ℕ) → k < 5
    → get_or (word_at list found ∷ (word_at list (found + 1) ∷ (word_at list (found + 2)
    ∷ (word_at list (found + 3) ∷ (word_at list (found + 4)
    ∷ []))))) k 0 ≡ word_at list (found + k)
five_kept list found zero h =
    let e : found ≡ found + 0 = omega arith in
    ap (word_at list) e
five_kept list found (suc zero) h = refl
five_kept list found (suc (suc zero)) h = refl
five_kept list found (suc (suc (suc zero))) h = refl
five_kept list found (suc (suc (suc (suc zero)))) h = refl
five_kept list found (suc (suc (suc (suc (suc k))))) h = absurd (omega arith)

pub five_behind : (list : List ℕ) (found : ℕ)
    → Behind (word_at list found ∷ (word_at list (found + 1) ∷ (word_at list (found + 2)
    ∷ (word_at list (found + 3) ∷ (word_at list (found + 4)
    ∷ []))))) list found
five_behind list found = record { kept = five_kept list found }

pub behind_is : (before list₀ : List ℕ) (found listed : ℕ) → Behind before list₀ found → found ≤ listed → listed - found < 5
    → get_or before (listed - found) 0 ≡ word_at list₀ listed
behind_is before list₀ found listed b h k =
    let e : found + (listed - found) ≡ listed = omega arith in
    b.kept (listed - found) k ∙ ap (word_at list₀) e

pub number_bounds : (k : ℕ) (a b : Aabb) → k ≡ as_number (touches a b) → k ≤ 1
number_bounds k a b e = omega (arith, e, number_small (touches a b))

-- ---- the places
module _ (n : ℕ) (box : Aabb) (order : List ℕ) (boxes : List Float) (list₀ : List ℕ) (found start end : ℕ) where
  -- what is left of the places gives what all of them give; behind those listed one place may hold anything
  pub record Fewing (list : List ℕ) (listed place : ℕ) : Type 0 where
    pub begun : start ≤ place
    pub within : place ≤ end
    pub long : length list ≡ length list₀
    pub grows : found ≤ listed
    pub few : listed + start ≤ found + place
    pub gives : (t : Tree) (stack : List ℕ) → t.order ≡ order → t.triangle_boxes ≡ boxes
        → take_places t n box (walking stack (take listed list)) (range place (end - place))
        ≡ after_places n box order boxes list₀ found start end t stack
    pub rest : drop (suc listed) list ≡ drop (suc listed) list₀
    pub below : all_below n (take listed list) ≡ true

  module _ (r : Room n order boxes list₀ found) where
    pub few_begins : start ≤ end → Fewing list₀ found start
    few_begins h =
        record {
          begun = omega arith;
          within = h;
          long = refl;
          grows = omega arith;
          few = omega arith;
          gives = λ (t : Tree) (stack : List ℕ) (o : t.order ≡ order) (b : t.triangle_boxes ≡ boxes). refl;
          rest = refl;
          below = r.below;
        }

    module _ (small : end ≤ start + 4) (wide : found + 5 ≤ n) (list : List ℕ) (listed place : ℕ) (p : Fewing list listed place) where
      pub few_inside : listed < length list
      few_inside = omega (arith, r.lent, p.long, p.few, p.within)

      room : Room n order boxes list listed
      room =
          let h : listed ≤ length list = omega (arith, few_inside) in
          record { ordered = r.ordered; boxed = r.boxed; lent = omega (arith, r.lent, p.long); inside = h; below = p.below }

      -- the next place first
      next_first : place < end → (t : Tree) (stack : List ℕ) → t.order ≡ order → t.triangle_boxes ≡ boxes
          → take_places t n box (take_place t n box (walking stack (take listed list)) place) (range (place + 1) (end - (place + 1))) ≡
          after_places n box order boxes list₀ found start end t stack
      unfolding take_places range
      next_first h t stack o b =
          let e : end - place ≡ suc (end - (place + 1)) = omega arith in
          rw (add-one place)
          (rw (e, add-one place) at (p.gives t stack o b))

      pub few_breaks : place < end → n ≤ word_at order place → Placed (after_places n box order boxes list₀ found start end) n order boxes
          list₀ found None list
      few_breaks h k =
          record {
            holds =
                λ (t : Tree) (stack : List ℕ) (o : t.order ≡ order) (b : t.triangle_boxes ≡ boxes).
                sym (places_broken t n box (range (place + 1) (end - (place + 1))))
                ∙ ap (λ (w : Walking). take_places t n box w (range (place + 1) (end - (place + 1))))
                ((place_outside n box order boxes list listed place k).holds t stack o b) ∙ next_first h t stack o b;
            grown = tt;
          }

      -- a place that does not touch leaves its triangle behind those listed, one that touches lists it
      abbrev word : ℕ
      word = word_at order place

      abbrev wrote : List ℕ
      wrote = set list listed word

      few_missed : place < end → word < n → touches (box_at boxes word) box ≡ false → Fewing wrote listed (place + 1)
      few_missed h k m =
          let j : listed ≤ listed = omega arith in
          let i : listed < suc listed = omega arith in
          let e : take listed wrote ≡ take listed list = take-set-le listed list listed word j in
          record {
            begun = omega (arith, p.begun);
            within = omega arith;
            long = length-set list listed word ∙ p.long;
            grows = p.grows;
            few = omega (arith, p.few);
            gives =
                λ (t : Tree) (stack : List ℕ) (o : t.order ≡ order) (b : t.triangle_boxes ≡ boxes).
                ap (λ (l : List ℕ). take_places t n box (walking stack l) (range (place + 1) (end - (place + 1)))) e
                ∙ ap (λ (w : Walking). take_places t n box w (range (place + 1) (end - (place + 1))))
                ((place_missed n box order boxes list listed place room k m).holds t stack o b) ∙ next_first h t stack o b;
            rest = drop-set-lt (suc listed) list listed word i ∙ p.rest;
            below = ap (all_below n) e ∙ p.below;
          }

      few_listed : place < end → word < n → touches (box_at boxes word) box ≡ true → Fewing wrote (listed + 1) (place + 1)
      few_listed h k m =
          let f : listed < n = omega (arith, p.few, p.within) in
          let d = place_listed n box order boxes list listed place room k m f in
          let i : suc listed ≤ suc (listed + 1) = omega arith in
          let j : listed < suc (listed + 1) = omega arith in
          record {
            begun = omega (arith, p.begun);
            within = omega arith;
            long = length-set list listed word ∙ p.long;
            grows = omega (arith, p.grows);
            few = omega (arith, p.few);
            gives =
                λ (t : Tree) (stack : List ℕ) (o : t.order ≡ order) (b : t.triangle_boxes ≡ boxes).
                ap (λ (w : Walking). take_places t n box w (range (place + 1) (end - (place + 1)))) (d.holds t stack o b)
                ∙ next_first h t stack o b;
            rest = drop-set-lt (suc (listed + 1)) list listed word j ∙ drop_later (suc listed) (suc (listed + 1)) list list₀ i p.rest;
            below = d.grown.below;
          }

      pub few_goes : place < end → word < n → (k : ℕ) → k ≡ as_number (touches (box_at boxes word) box) → Fewing wrote (listed + k)
          (place + 1)
      few_goes h k c e = go (touches (box_at boxes word) box) refl e
        where
          go : (b : Bool) → touches (box_at boxes word) box ≡ b → c ≡ as_number b → Fewing wrote (listed + c) (place + 1)
          go true m f = subst (λ (x : ℕ). Fewing wrote (listed + x) (place + 1)) (sym f) (few_listed h k m)
          go false m f =
              let z : listed ≡ listed + c = omega arith in
              subst (λ (x : ℕ). Fewing wrote x (place + 1)) z (few_missed h k m)

      -- the place behind those listed is put back
      pub few_ends : end ≤ place → (v : ℕ) → v ≡ word_at list₀ listed
          → Placed (after_places n box order boxes list₀ found start end) n order boxes list₀ found (Some listed) (set list listed v)
      unfolding take_places range
      few_ends h v q =
          let e : end - place ≡ 0 = omega arith in
          let j : listed ≤ listed = omega arith in
          let i : listed < suc listed = omega arith in
          let inside₀ : listed < length list₀ = omega (arith, few_inside, p.long) in
          let inside' : listed < length (set list listed v) = simp length-set few_inside in
          let s : take listed (set list listed v) ≡ take listed list = take-set-le listed list listed v j in
          record {
            holds =
                λ (t : Tree) (stack : List ℕ) (o : t.order ≡ order) (b : t.triangle_boxes ≡ boxes).
                ap (walking stack) s ∙ (rw e at (p.gives t stack o b));
            grown =
                record {
                  grows = p.grows;
                  inside = omega (arith, inside');
                  rest = drop-cons (set list listed v) listed 0 inside'
                      ∙ ap (λ (x : ℕ). x ∷ drop (suc listed) (set list listed v)) (get_or-set_same list listed v 0 few_inside ∙ q)
                      ∙ ap (λ (l : List ℕ). word_at list₀ listed ∷ l) (drop-set-lt (suc listed) list listed v i ∙ p.rest)
                      ∙ sym (drop-cons list₀ listed 0 inside₀);
                  below = ap (all_below n) s ∙ p.below;
                };
          }
