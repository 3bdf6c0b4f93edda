-- The children of a branch, tested when it is opened: what each outcome leaves gives what the walk's definition gives. Assumes nothing.
use Prim.Native.Nat.{ℕ, zero, suc, ◌+◌, ◌-◌, ◌<◌, ◌≤◌}
use mathlib.Core.Path.{◌≡◌, refl, sym, ap, subst, ◌∙◌}
use mathlib.Core.Bool.{Bool, true, false, ◌&&◌}
use mathlib.Core.List.{List, [], ◌∷◌}
use native.Mathlib.Omega.{arith}
use native.Mathlib.Numerals.{add-one}
use borrow.Author.Tests.{ltb-true, lt-ltb}
use lib.Dec.{ltb}
use lib.Ieee.{Float}
use lib.ListN.{length, take, set}
use Rattle.geometry.specs.Box.{touches}
use Rattle.geometry.specs.declared.aabb.Aabb.{Aabb}
use Rattle.lists.specs.Lists.{every, all_below}
use Rattle.lists.proofs.EveryLaws.{every_cons}
use Rattle.lists.proofs.JoinedTests.{and_second}
use Rattle.tree.specs.Layout.{Tree, word_at, box_at}
use Rattle.tree_walk.specs.Walk.{Walking, walking, times, child_fits, at_branch, take_node, ended}
use Rattle.tree_walk.specs.Areas.{on_stack, Grown}
use Rattle.tree_walk.specs.Opening.{onward, due, onward_by, open_next, Opens, OpensBy, GrownIn, Waiting, Tested, Branched}
use Rattle.tree_walk.specs.declared.ahead.Opened.{Opened}
use Rattle.tree_walk.specs.declared.ahead.Opened.TheVariants.{Next, Ended, Stopped}
use Rattle.tree_walk.proofs.Branches.{on_stack_push, left_unfit, right_unfit}
use Rattle.tree_walk.proofs.Limits.{times_empty}
use Rattle.tree_walk.proofs.Opening.{broken_onward, short, missed_leaves, missed_below}

-- ---- the next node of the stack
pub next_none : (stack : List ℕ) (top found spent : ℕ) → top ≡ 0 → Ended found ≡ open_next stack top found spent
unfolding open_next
next_none stack top found spent e = rw e refl

pub next_some : (stack : List ℕ) (top found spent : ℕ) → (top ≡ 0 → ⊥) → Next (word_at stack (top - 1)) (top - 1) found spent ≡ open_next
    stack top found spent
unfolding open_next
next_some stack top found spent e =
    let s : top ≡ suc (top - 1) = omega (arith, e) in
    ap (λ (k : ℕ). open_next stack k found spent) (sym s)

pub next_onward : (t : Tree) (n : ℕ) (box : Aabb) (stack list : List ℕ) (top found spent : ℕ)
    → onward_by t n box (open_next stack top found spent) list stack ≡ onward t n box (due t.node_count spent top) (on_stack stack top)
    (take found list)
unfolding open_next onward on_stack
next_onward t n box stack list zero found spent = ap (ended t n box) (sym (times_empty t n box (due t.node_count spent 0)
    (take found list)))
next_onward t n box stack list (suc k) found spent =
    let e : suc (due t.node_count spent k) ≡ due t.node_count spent (suc k) = omega arith in
    ap (λ (j : ℕ). onward t n box j (word_at stack k ∷ on_stack stack k) (take found list)) e

pub next_stands : (nodes : ℕ) (boxes : List Float) (box : Aabb) (limit : ℕ) (stack : List ℕ) (top found spent : ℕ) → spent ≤ nodes → top ≤
    spent → all_below nodes (on_stack stack top) ≡ true
    → every (λ (x : ℕ). touches (box_at boxes x) box) (on_stack stack top) ≡ true → due nodes spent top ≤ limit
    → OpensBy nodes boxes box limit (open_next stack top found spent) stack
unfolding open_next on_stack
next_stands nodes boxes box limit stack zero found spent w h a b d = tt
next_stands nodes boxes box limit stack (suc k) found spent w h a b d = (
  record
      { within = w; tall = omega arith; below = a; touching = b },
  omega arith,
)

pub next_grown : (n from : ℕ) (entry list stack : List ℕ) (top found spent : ℕ) → Grown n entry list from found → GrownIn n entry from
    (open_next stack top found spent) list
unfolding open_next
next_grown n from entry list stack zero found spent g = g
next_grown n from entry list stack (suc k) found spent g = g

stack_length : (stack : List ℕ) (top : ℕ) → length (on_stack stack top) ≡ top
unfolding on_stack
stack_length stack zero = refl
stack_length stack (suc k) = ap suc (stack_length stack k)

-- ---- both children
module _ (nodes : ℕ) (boxes : List Float) (box : Aabb) (left right : ℕ) (stack : List ℕ) (top found spent : ℕ)
    (w : Waiting nodes boxes box left right stack top spent) where
  abbrev touches_box : ℕ → Bool
  touches_box x = touches (box_at boxes x) box

  abbrev more : ℕ
  more = suc (due nodes spent top)

  -- the test of the box that was read is the tree's
  of_tree : (t : Tree) (x : ℕ) (v : Bool) → t.node_boxes ≡ boxes → touches_box x ≡ v → touches (box_at t.node_boxes x) box ≡ v
  of_tree t x v e m = ap (λ (b : List Float). touches (box_at b x) box) e ∙ m

  one_below : (x : ℕ) → x < nodes → all_below nodes (x ∷ on_stack stack top) ≡ true
  one_below x h = every_cons (λ (y : ℕ). ltb y nodes) x (on_stack stack top) (lt-ltb x nodes h) w.below

  one_touching : (x : ℕ) → touches_box x ≡ true → every touches_box (x ∷ on_stack stack top) ≡ true
  one_touching x m = every_cons touches_box x (on_stack stack top) m w.touching

  pub both_touch : top < length stack → touches_box left ≡ true → touches_box right ≡ true
      → Tested nodes boxes box left right stack top found spent (Next left (top + 1) found spent) (set stack top right)
  both_touch h l m =
      let p : on_stack (set stack top right) (top + 1) ≡ right ∷ on_stack stack top = rw (add-one top) (on_stack_push stack top right h) in
      record {
        holds =
            λ (t : Tree) (n : ℕ) (list : List ℕ) (e : t.node_count ≡ nodes) (f : t.node_boxes ≡ boxes).
            let k : suc (due t.node_count spent (top + 1)) ≡ suc more = omega (arith, e) in
            ap (λ (j : ℕ). onward t n box j (left ∷ on_stack (set stack top right) (top + 1)) (take found list)) k
            ∙ ap (λ (s : List ℕ). onward t n box (suc more) (left ∷ s) (take found list)) p;
        stands = (
          record {
            within = w.within;
            tall = omega (arith, w.tall);
            below = ap (λ (s : List ℕ). all_below nodes (left ∷ s)) p
                ∙ every_cons (λ (y : ℕ). ltb y nodes) left (right ∷ on_stack stack top)
                (lt-ltb left nodes w.first) (one_below right w.second);
            touching = ap (λ (s : List ℕ). every touches_box (left ∷ s)) p ∙ every_cons touches_box left (right ∷ on_stack stack top) l
                (one_touching right m);
          },
          omega arith,
        );
        grown = λ (n : ℕ) (list : List ℕ) (g : Grown n list list found found). g;
      }

  -- one of them alone
  one_stands : (x : ℕ) → x < nodes → touches_box x ≡ true → OpensBy nodes boxes box (suc more) (Next x top found spent) stack
  one_stands x h m = (
    record
        { within = w.within; tall = omega (arith, w.tall); below = one_below x h; touching = one_touching x m },
    omega arith,
  )

  pub left_touches : touches_box left ≡ true → touches_box right ≡ false
      → Tested nodes boxes box left right stack top found spent (Next left top found spent) stack
  left_touches l m =
      record {
        holds =
            λ (t : Tree) (n : ℕ) (list : List ℕ) (e : t.node_count ≡ nodes) (f : t.node_boxes ≡ boxes).
            ap (λ (j : ℕ). onward t n box (suc (due j spent top)) (left ∷ on_stack stack top) (take found list)) e
            ∙ sym (missed_below t n box more (left ∷ []) right (on_stack stack top) (take found list) (of_tree t right false f m));
        stands = one_stands left w.first l;
        grown = λ (n : ℕ) (list : List ℕ) (g : Grown n list list found found). g;
      }

  pub right_touches : touches_box left ≡ false → touches_box right ≡ true
      → Tested nodes boxes box left right stack top found spent (Next right top found spent) stack
  right_touches l m =
      record {
        holds =
            λ (t : Tree) (n : ℕ) (list : List ℕ) (e : t.node_count ≡ nodes) (f : t.node_boxes ≡ boxes).
            ap (λ (j : ℕ). onward t n box (suc (due j spent top)) (right ∷ on_stack stack top) (take found list)) e
            ∙ sym (missed_leaves t n box more left (right ∷ on_stack stack top) (take found list) (of_tree t left false f l));
        stands = one_stands right w.second m;
        grown = λ (n : ℕ) (list : List ℕ) (g : Grown n list list found found). g;
      }

  pub none_touches : touches_box left ≡ false → touches_box right ≡ false → (r : Opened) → r ≡ open_next stack top found spent
      → Tested nodes boxes box left right stack top found spent r stack
  none_touches l m r q =
      let within : spent ≤ nodes = w.within in
      let tall : top ≤ spent = omega (arith, w.tall) in
      let less : due nodes spent top ≤ suc more = omega arith in
      subst (λ (x : Opened). Tested nodes boxes box left right stack top found spent x stack) (sym q)
      (record {
        holds =
            λ (t : Tree) (n : ℕ) (list : List ℕ) (e : t.node_count ≡ nodes) (f : t.node_boxes ≡ boxes).
            next_onward t n box stack list top found spent
            ∙ ap (λ (j : ℕ). onward t n box (due j spent top) (on_stack stack top) (take found list)) e
            ∙ sym (missed_leaves t n box (due nodes spent top) right (on_stack stack top) (take found list) (of_tree t right false f m))
            ∙ sym (missed_leaves t n box more left (right ∷ on_stack stack top) (take found list) (of_tree t left false f l));
        stands = next_stands nodes boxes box (suc more) stack top found spent within tall w.below w.touching less;
        grown = λ (n : ℕ) (list : List ℕ) (g : Grown n list list found found). next_grown n found list list stack top found spent g;
      })

-- ---- a branch
module _ (nodes : ℕ) (boxes : List Float) (box : Aabb) (node left right : ℕ) (stack : List ℕ) (top found spent : ℕ) where
  abbrev fits : ℕ → Bool
  fits child = ltb node child && ltb child nodes

  pub stopped_left : fits left ≡ false → Branched nodes boxes box node left right stack top found spent Stopped stack
  stopped_left h =
      record {
        holds =
            λ (t : Tree) (n : ℕ) (list : List ℕ) (e : t.node_count ≡ nodes) (f : t.node_boxes ≡ boxes).
            broken_onward t n box (due nodes spent top) (at_branch t n box node left right (on_stack stack top) (take found list))
            ((left_unfit nodes node left right stack top found h).holds t n box list e);
        stands = tt;
        grown = λ (n : ℕ) (list : List ℕ) (g : Grown n list list found found). tt;
      }

  pub stopped_right : fits left ≡ true → fits right ≡ false → Branched nodes boxes box node left right stack top found spent Stopped stack
  stopped_right l h =
      record {
        holds =
            λ (t : Tree) (n : ℕ) (list : List ℕ) (e : t.node_count ≡ nodes) (f : t.node_boxes ≡ boxes).
            broken_onward t n box (due nodes spent top) (at_branch t n box node left right (on_stack stack top) (take found list))
            ((right_unfit nodes node left right stack top found l h).holds t n box list e);
        stands = tt;
        grown = λ (n : ℕ) (list : List ℕ) (g : Grown n list list found found). tt;
      }

  module _ (l : fits left ≡ true) (r : fits right ≡ true) where
    both_fit : (t : Tree) (n : ℕ) (list : List ℕ) → t.node_count ≡ nodes
        → walking (left ∷ (right ∷ on_stack stack top)) list ≡ at_branch t n box node left right (on_stack stack top) list
    unfolding at_branch child_fits
    both_fit t n list e = simp (e, l, r)

    -- the children are more than there are nodes: the walk passes the node count
    pub stopped_past : nodes - spent < 2 → Branched nodes boxes box node left right stack top found spent Stopped stack
    unfolding onward
    stopped_past h =
        record {
          holds =
              λ (t : Tree) (n : ℕ) (list : List ℕ) (e : t.node_count ≡ nodes) (f : t.node_boxes ≡ boxes).
              let k : due nodes spent top < length (left ∷ (right ∷ on_stack stack top)) = omega (arith, stack_length stack top) in
              sym (short t n box (due nodes spent top) (left ∷ (right ∷ on_stack stack top)) (take found list) k)
              ∙ ap (λ (x : Walking). ended t n box (times (due nodes spent top) (take_node t n box) x)) (both_fit t n (take found list) e);
          stands = tt;
          grown = λ (n : ℕ) (list : List ℕ) (g : Grown n list list found found). tt;
        }

    pub waits : 2 ≤ nodes - spent → Opens nodes boxes box stack node top spent → Waiting nodes boxes box left right stack top (spent + 2)
    unfolding every
    waits h o =
        record {
          within = omega (arith, o.within);
          tall = omega (arith, o.tall);
          first = ltb-true left nodes (and_second (ltb node left) (ltb left nodes) l);
          second = ltb-true right nodes (and_second (ltb node right) (ltb right nodes) r);
          below = and_second (ltb node nodes) (all_below nodes (on_stack stack top)) o.below;
          touching = and_second (touches (box_at boxes node) box) (every (λ (x : ℕ). touches (box_at boxes x) box) (on_stack stack top))
              o.touching;
        }

    pub children_tested : 2 ≤ nodes - spent → (x : Opened) (exit : List ℕ) → Tested nodes boxes box left right stack top found (spent + 2) x
        exit
        → Branched nodes boxes box node left right stack top found spent x exit
    unfolding onward
    children_tested h x exit d =
        let k : suc (suc (due nodes (spent + 2) top)) ≡ due nodes spent top = omega arith in
        record {
          holds =
              λ (t : Tree) (n : ℕ) (list : List ℕ) (e : t.node_count ≡ nodes) (f : t.node_boxes ≡ boxes).
              d.holds t n list e f
              ∙ ap (λ (j : ℕ). onward t n box j (left ∷ (right ∷ on_stack stack top)) (take found list)) k
              ∙ ap (λ (y : Walking). ended t n box (times (due nodes spent top) (take_node t n box) y)) (both_fit t n (take found list) e);
          stands = subst (λ (j : ℕ). OpensBy nodes boxes box j x exit) k d.stands;
          grown = d.grown;
        }
