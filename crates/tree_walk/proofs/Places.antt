-- Order places taken one after another: what each outcome of a place leaves, and what holds between two places. Assumes nothing.
use Prim.Native.Nat.{ℕ, suc, ◌+◌, ◌-◌, ◌<◌, ◌≤◌}
use mathlib.Core.Path.{◌≡◌, refl, sym, ap, subst, ◌∙◌}
use mathlib.Core.Bool.{true, false}
use mathlib.Core.List.{List, [], ◌∷◌, ◌++◌}
use native.Mathlib.Omega.{arith}
use native.Mathlib.Numerals.{add-one}
use borrow.Author.Tests.{lt-ltb, le-ltb, le-leb, lt-leb}
use lib.Dec.{ltb}
use lib.Ieee.{Float}
use lib.ListN.{length, take, drop, set, length-set}
use lib.Seq.{length-take-le, take-suc-set, drop-set-lt, drop-drop}
use Rattle.geometry.specs.Box.{touches}
use Rattle.geometry.specs.declared.aabb.Aabb.{Aabb}
use Rattle.lists.specs.Lists.{range, all_below}
use Rattle.tree.specs.Layout.{Tree, word_at, box_at}
use Rattle.tree_walk.specs.Walk.{Walking, walking, broken, take_place, take_places, at_leaf}
use Rattle.tree_walk.specs.Areas.{listed, Grown, Room, Placed}
use Rattle.std.specs.Prelude.{Option, Some, None}
use Rattle.lists.proofs.EveryLaws.{every_snoc}

-- a list that has not grown, and one that has grown twice
pub grown_none : (n found : ℕ) (list : List ℕ) → found ≤ length list → all_below n (take found list) ≡ true → Grown n list list found found
grown_none n found list h a = record { grows = omega arith; inside = h; rest = refl; below = a }

pub drop_later : (k m : ℕ) (xs ys : List ℕ) → k ≤ m → drop k xs ≡ drop k ys → drop m xs ≡ drop m ys
drop_later k m xs ys h e =
    let s : k + (m - k) ≡ m = omega arith in
    ap (λ (j : ℕ). drop j xs) (sym s) ∙ sym (drop-drop (m - k) k xs) ∙ ap (drop (m - k)) e ∙ drop-drop (m - k) k ys ∙ ap
    (λ (j : ℕ). drop j ys) s

pub grown_twice : (n a b c : ℕ) (xs ys zs : List ℕ) → Grown n xs ys a b → Grown n ys zs b c → Grown n xs zs a c
grown_twice n a b c xs ys zs g h =
    let f : a ≤ b = g.grows in
    let f' : b ≤ c = h.grows in
    record { grows = omega arith; inside = h.inside; rest = h.rest ∙ drop_later b c ys xs f' g.rest; below = h.below }

module _ (n : ℕ) (box : Aabb) (order : List ℕ) (boxes : List Float) (list : List ℕ) (found place : ℕ) where
  abbrev pub after_place : Tree → List ℕ → Walking
  after_place t stack = take_place t n box (walking stack (take found list)) place

  pub place_outside : n ≤ word_at order place → Placed after_place n order boxes list found None list
  unfolding take_place
  place_outside h =
      record {
        holds = λ (t : Tree) (stack : List ℕ) (o : t.order ≡ order) (b : t.triangle_boxes ≡ boxes). simp
            (o, le-ltb (word_at order place) n h);
        grown = tt;
      }

  pub place_missed : Room n order boxes list found → word_at order place < n → touches (box_at boxes (word_at order place)) box ≡ false
      → Placed after_place n order boxes list found (Some found) list
  unfolding take_place
  place_missed r h m =
      record {
        holds = λ (t : Tree) (stack : List ℕ) (o : t.order ≡ order) (b : t.triangle_boxes ≡ boxes). simp
            (o, b, lt-ltb (word_at order place) n h, m);
        grown = grown_none n found list r.inside r.below;
      }

  pub place_full : Room n order boxes list found → word_at order place < n → touches (box_at boxes (word_at order place)) box ≡ true → n ≤
      found
      → Placed after_place n order boxes list found None list
  unfolding take_place
  place_full r h m f =
      record {
        holds =
            λ (t : Tree) (stack : List ℕ) (o : t.order ≡ order) (b : t.triangle_boxes ≡ boxes).
            simp (o, b, lt-ltb (word_at order place) n h, m, length-take-le found list r.inside, le-ltb found n f);
        grown = tt;
      }

  pub place_listed : Room n order boxes list found → word_at order place < n → touches (box_at boxes (word_at order place)) box ≡ true
      → found
      < n
      → Placed after_place n order boxes list found (Some (found + 1)) (set list found (word_at order place))
  unfolding take_place
  place_listed r h m f =
      let k : found < length list = omega (arith, r.lent) in
      let j : found < suc found = omega arith in
      let e : take (found + 1) (set list found (word_at order place)) ≡ take found list ++ (word_at order place ∷ []) = rw (add-one found)
      (take-suc-set list found (word_at order place) k) in
      record {
        holds =
            λ (t : Tree) (stack : List ℕ) (o : t.order ≡ order) (b : t.triangle_boxes ≡ boxes).
            simp (o, b, lt-ltb (word_at order place) n h, m, length-take-le found list r.inside, lt-ltb found n f) (ap (walking stack) e);
        grown =
            record {
              grows = omega arith;
              inside = simp length-set (omega arith);
              rest = rw (add-one found) (drop-set-lt (suc found) list found (word_at order place) j);
              below = ap (all_below n) e ∙ every_snoc (λ (x : ℕ). ltb x n) (take found list) (word_at order place) r.below
                  (lt-ltb (word_at order place) n h);
            };
      }

-- no place after a 5 changes anything
pub places_broken : (t : Tree) (n : ℕ) (box : Aabb) (places : List ℕ) → take_places t n box broken places ≡ broken
unfolding take_places take_place
places_broken t n box [] = refl
places_broken t n box (place ∷ rest) = places_broken t n box rest

module _ (n : ℕ) (box : Aabb) (order : List ℕ) (boxes : List Float) (list₀ : List ℕ) (found start end : ℕ) where
  abbrev pub after_places : Tree → List ℕ → Walking
  after_places t stack = take_places t n box (walking stack (take found list₀)) (range start (end - start))

  -- what is left of the places gives what all of them give
  pub record Placing (list : List ℕ) (listed place : ℕ) : Type 0 where
    pub within : place ≤ end
    pub long : length list ≡ length list₀
    pub gives : (t : Tree) (stack : List ℕ) → t.order ≡ order → t.triangle_boxes ≡ boxes
        → take_places t n box (walking stack (take listed list)) (range place (end - place)) ≡ after_places t stack
    pub grown : Grown n list₀ list found listed

  pub placing_begins : Room n order boxes list₀ found → start ≤ end → Placing list₀ found start
  placing_begins r h =
      record {
        within = h;
        long = refl;
        gives = λ (t : Tree) (stack : List ℕ) (o : t.order ≡ order) (b : t.triangle_boxes ≡ boxes). refl;
        grown = grown_none n found list₀ r.inside r.below;
      }

  pub placing_room : Room n order boxes list₀ found → (list : List ℕ) (listed place : ℕ) → Placing list listed place → Room n order boxes
      list listed
  placing_room r list listed place p =
      record {
        ordered = r.ordered;
        boxed = r.boxed;
        lent = omega (arith, r.lent, p.long);
        inside = p.grown.inside;
        below = p.grown.below;
      }

  module _ (list : List ℕ) (listed place : ℕ) (p : Placing list listed place) where
    -- the next place first
    next_first : place < end → (t : Tree) (stack : List ℕ) → t.order ≡ order → t.triangle_boxes ≡ boxes
        → take_places t n box (take_place t n box (walking stack (take listed list)) place) (range (place + 1) (end - (place + 1))) ≡
        after_places t stack
    unfolding take_places range
    next_first h t stack o b =
        let e : end - place ≡ suc (end - (place + 1)) = omega arith in
        rw (add-one place)
        (rw (e, add-one place) at (p.gives t stack o b))

    pub placing_goes : place < end → (r : Option ℕ) (next : ℕ) (exit : List ℕ) → Placed (after_place n box order boxes list listed place) n
        order boxes list listed r exit → r ≡ Some next
        → length exit ≡ length list → Placing exit next (place + 1)
    placing_goes h r next exit d e l =
        let d' : Placed (after_place n box order boxes list listed place) n order boxes list listed (Some next) exit =
        subst (λ (x : Option ℕ). Placed (after_place n box order boxes list listed place) n order boxes list listed x exit) e d in
        record {
          within = omega arith;
          long = l ∙ p.long;
          gives =
              λ (t : Tree) (stack : List ℕ) (o : t.order ≡ order) (b : t.triangle_boxes ≡ boxes).
              ap (λ (w : Walking). take_places t n box w (range (place + 1) (end - (place + 1)))) (d'.holds t stack o b) ∙ next_first h t
              stack o b;
          grown = grown_twice n found listed next list₀ list exit p.grown d'.grown;
        }

    pub placing_breaks : place < end → (r : Option ℕ) (exit : List ℕ) → Placed (after_place n box order boxes list listed place) n order
        boxes list listed r exit → r ≡ None
        → Placed after_places n order boxes list₀ found None exit
    placing_breaks h r exit d e =
        let d' : Placed (after_place n box order boxes list listed place) n order boxes list listed None exit =
        subst (λ (x : Option ℕ). Placed (after_place n box order boxes list listed place) n order boxes list listed x exit) e d in
        record {
          holds =
              λ (t : Tree) (stack : List ℕ) (o : t.order ≡ order) (b : t.triangle_boxes ≡ boxes).
              sym (places_broken t n box (range (place + 1) (end - (place + 1))))
              ∙ ap (λ (w : Walking). take_places t n box w (range (place + 1) (end - (place + 1)))) (d'.holds t stack o b) ∙ next_first h t
              stack o b;
          grown = tt;
        }

    pub placing_ends : end ≤ place → Placed after_places n order boxes list₀ found (Some listed) list
    unfolding take_places range
    placing_ends h =
        let e : end - place ≡ 0 = omega arith in
        record {
          holds = λ (t : Tree) (stack : List ℕ) (o : t.order ≡ order) (b : t.triangle_boxes ≡ boxes). rw e at (p.gives t stack o b);
          grown = p.grown;
        }

-- a leaf, by where its places end
module _ (n : ℕ) (box : Aabb) (order : List ℕ) (boxes : List Float) (list : List ℕ) (found first second : ℕ) where
  abbrev pub after_leaf : Tree → List ℕ → Walking
  after_leaf t stack = at_leaf t n box first second stack (take found list)

  pub leaf_outside : (start size : ℕ) → start ≡ first → size ≡ second → n < start + size → Placed after_leaf n order boxes list found None
      list
  unfolding at_leaf
  leaf_outside start size e f h =
      record {
        holds =
            λ (t : Tree) (stack : List ℕ) (o : t.order ≡ order) (b : t.triangle_boxes ≡ boxes).
            simp (sym e, sym f, lt-leb (start + size) n h);
        grown = tt;
      }

  pub leaf_taken : (start size : ℕ) → start ≡ first → size ≡ second → start + size ≤ n → (r : Option ℕ) (exit : List ℕ)
      → Placed (after_places n box order boxes list found start (start + size)) n order boxes list found r exit → Placed after_leaf n order
      boxes list found r exit
  unfolding at_leaf
  leaf_taken start size e f h r exit d =
      let l : (start + size) - start ≡ size = omega arith in
      record {
        holds =
            λ (t : Tree) (stack : List ℕ) (o : t.order ≡ order) (b : t.triangle_boxes ≡ boxes).
            simp (sym e, sym f, le-leb (start + size) n h) (rw l at (d.holds t stack o b));
        grown = d.grown;
      }
