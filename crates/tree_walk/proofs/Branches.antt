-- A stack in an area: a push leaves what is below it, the node taken from it is the first of it, and the children of a branch are the next
-- ones as the definition of the walk says. Assumes nothing.
use Prim.Native.Nat.{ℕ, zero, suc, ◌+◌, ◌-◌, ◌<◌, ◌≤◌}
use mathlib.Core.Path.{◌≡◌, refl, sym, ap, ◌∙◌}
use mathlib.Core.Bool.{Bool, true, false, ◌&&◌}
use mathlib.Core.List.{List, ◌∷◌}
use native.Mathlib.Omega.{arith}
use native.Mathlib.Numerals.{add-one}
use lib.Dec.{ltb}
use lib.ListN.{length, set, take}
use lib.Seq.{get_or-set_same, get_or-set_other}
use Rattle.geometry.specs.declared.aabb.Aabb.{Aabb}
use Rattle.tree.specs.Layout.{Tree, word_at}
use Rattle.lists.proofs.JoinedTests.{and_second}
use Rattle.tree_walk.specs.Walk.{walking, child_fits, at_branch}
use Rattle.lists.specs.Lists.{all_below}
use Rattle.tree_walk.specs.Areas.{on_stack, popped, walking_after, Grown, KeptBy, Pushed}
use Rattle.tree_walk.specs.declared.step.Stepped.TheVariants.{Next, Ended, Stopped}
use Rattle.lists.proofs.EveryLaws.{every_cons}

-- a store above the top
pub on_stack_set : (area : List ℕ) (i v k : ℕ) → k ≤ i → on_stack (set area i v) k ≡ on_stack area k
unfolding on_stack
on_stack_set area i v zero h = refl
on_stack_set area i v (suc k) h =
    let k≤i : k ≤ i = omega arith in
    ap (λ (x : ℕ). x ∷ on_stack (set area i v) k) (get_or-set_other area i k v 0 (λ (e : k ≡ i). omega arith)) ∙ ap
    (λ (r : List ℕ). word_at area k ∷ r) (on_stack_set area i v k k≤i)

-- a push
pub on_stack_push : (area : List ℕ) (k v : ℕ) → k < length area → on_stack (set area k v) (suc k) ≡ v ∷ on_stack area k
unfolding on_stack
on_stack_push area k v h =
    let r : k ≤ k = omega arith in
    ap (λ (x : ℕ). x ∷ on_stack (set area k v) k) (get_or-set_same area k v 0 h) ∙ ap (λ (r : List ℕ). v ∷ r) (on_stack_set area k v k r)

-- a node taken: the code's cases are the definition's
pub popped_none : (stack : List ℕ) (top found : ℕ) → top ≡ 0 → Ended found ≡ popped stack top found
unfolding popped
popped_none stack top found e = rw e refl

pub popped_next : (stack : List ℕ) (top found : ℕ) → (top ≡ 0 → ⊥) → Next (word_at stack (top - 1)) (top - 1) found ≡ popped stack top found
unfolding popped
popped_next stack top found e =
    let s : top ≡ suc (top - 1) = omega (arith, e) in
    ap (λ (k : ℕ). popped stack k found) (sym s)

-- the stack is as it was: its next node stands first
pub popped_held : (stack list : List ℕ) (top found : ℕ) → walking_after (popped stack top found) list stack ≡ walking (on_stack stack top)
    (take found list)
unfolding popped on_stack
popped_held stack list zero found = refl
popped_held stack list (suc top) found = refl

pub popped_kept : (n nodes from : ℕ) (entry list stack : List ℕ) (top found limit : ℕ) → Grown n entry list from found → all_below nodes
    (on_stack stack top) ≡ true → top ≤ limit
    → KeptBy n nodes entry from limit (popped stack top found) list stack
unfolding popped on_stack
popped_kept n nodes from entry list stack zero found limit g a h = g
popped_kept n nodes from entry list stack (suc top) found limit g a h = record
    { grown = g; stands = record { within = omega arith; below = a } }

module _ (nodes node left right : ℕ) (stack : List ℕ) (top found : ℕ) where
  abbrev fits : ℕ → Bool
  fits child = ltb node child && ltb child nodes

  pub left_unfit : fits left ≡ false → Pushed nodes node left right stack top found Stopped stack
  unfolding at_branch child_fits
  left_unfit h =
      record {
        holds = λ (t : Tree) (n : ℕ) (box : Aabb) (list : List ℕ) (e : t.node_count ≡ nodes). simp (e, h);
        kept = λ (n : ℕ) (list₀ list : List ℕ) (from : ℕ) (g : Grown n list₀ list from found). tt;
      }

  pub right_unfit : fits left ≡ true → fits right ≡ false → Pushed nodes node left right stack top found Stopped stack
  unfolding at_branch child_fits
  right_unfit g h =
      record {
        holds = λ (t : Tree) (n : ℕ) (box : Aabb) (list : List ℕ) (e : t.node_count ≡ nodes). simp (e, g, h);
        kept = λ (n : ℕ) (list₀ list : List ℕ) (from : ℕ) (g : Grown n list₀ list from found). tt;
      }

  pub right_pushed : fits left ≡ true → fits right ≡ true → top < length stack → all_below nodes (on_stack stack top) ≡ true
      → Pushed nodes node left right stack top found (Next left (top + 1) found) (set stack top right)
  unfolding at_branch child_fits
  right_pushed g h k a =
      let p : on_stack (set stack top right) (top + 1) ≡ right ∷ on_stack stack top = rw (add-one top) (on_stack_push stack top right k) in
      record {
        holds =
            λ (t : Tree) (n : ℕ) (box : Aabb) (list : List ℕ) (e : t.node_count ≡ nodes).
            simp (e, g, h) (ap (λ (s : List ℕ). walking (left ∷ s) (take found list)) p);
        kept =
            λ (n : ℕ) (list₀ list : List ℕ) (from : ℕ) (grown : Grown n list₀ list from found).
            record {
              grown = grown;
              stands =
                  record {
                    within = omega arith;
                    below =
                        ap (λ (s : List ℕ). all_below nodes (left ∷ s)) p
                        ∙ every_cons (λ (x : ℕ). ltb x nodes) left (right ∷ on_stack stack top)
                        (and_second (ltb node left) (ltb left nodes) g)
                        (every_cons (λ (x : ℕ). ltb x nodes) right (on_stack stack top) (and_second (ltb node right) (ltb right nodes) h)
                        a);
                  };
            };
      }
