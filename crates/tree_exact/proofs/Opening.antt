-- A node that is opened, as the code reads it, leaves of the walk what its definition says. Assumes nothing.
use Prim.Native.Nat.{ℕ, ◌+◌, ◌-◌, ◌*◌, ◌≤◌, ◌<◌}
use mathlib.Core.Path.{◌≡◌, refl, sym, ap, ◌∙◌}
use mathlib.Core.Bool.{cond}
use mathlib.Core.List.{List, [], ◌∷◌}
use native.Mathlib.Omega.{arith}
use Rattle.lists.specs.Lists.{range}
use Rattle.tree.specs.Layout.{Tree, word_at, kind_at, first_at, second_at}
use Rattle.tree_exact.specs.Onward.{onward, Opens}
use Rattle.tree_exact.specs.declared.node.Node.{Node}
use Rattle.tree_exact.specs.declared.node.Node.TheVariants.{Leaf, Branch, Bad}
use Rattle.tree_exact.proofs.OnwardLaws.{leaf_opened, leaf_broken, kind_broken, first_broken, second_broken, branch_opened}

module _ (n : ℕ) (words : List ℕ) (node : ℕ) where
  abbrev Read : Node → Type 0
  Read r = Opens n words node r

  -- a word of the tree's
  at : (t : Tree) (place : ℕ) → t.node_words ≡ words → word_at t.node_words place ≡ word_at words place
  at t place e = ap (λ (l : List ℕ). word_at l place) e

  module _ (kind : kind_at words node ≡ 0) where
    pub opens_bad_leaf : n < first_at words node + second_at words node → Read Bad
    opens_bad_leaf h = record {
      holds = λ t answer opens left_first k stack s e o.
          leaf_broken t n answer opens left_first k stack s node o (at t (3 * node) e ∙ kind)
          (omega (arith, h, at t (3 * node + 1) e, at t (3 * node + 2) e));
      stands = tt;
    }

    pub opens_leaf : (first second : ℕ) → first ≡ first_at words node → second ≡ second_at words node → first + second ≤ n
        → Read (Leaf first (first + second))
    opens_leaf first second p q h = record {
      holds = λ t answer opens left_first k stack s e o.
          let x : first ≡ first_at t.node_words node = p ∙ sym (at t (3 * node + 1) e) in
          let y : first + second - first ≡ second_at t.node_words node = omega (arith, q, at t (3 * node + 2) e) in
          (λ i. onward t n answer opens left_first k (range (x i) (y i)) stack s)
          ∙ leaf_opened t n answer opens left_first k stack s node o (at t (3 * node) e ∙ kind)
          (omega (arith, h, p, q, at t (3 * node + 1) e, at t (3 * node + 2) e));
      stands = h;
    }

  pub opens_bad_kind : (kind_at words node ≡ 0 → ⊥) → (kind_at words node ≡ 1 → ⊥) → Read Bad
  opens_bad_kind p q = record {
    holds = λ t answer opens left_first k stack s e o.
        kind_broken t n answer opens left_first k stack s node o (λ z. p (sym (at t (3 * node) e) ∙ z))
        (λ z. q (sym (at t (3 * node) e) ∙ z));
    stands = tt;
  }

  module _ (kind : kind_at words node ≡ 1) where
    pub opens_bad_first : first_at words node ≤ node → Read Bad
    opens_bad_first h = record {
      holds = λ t answer opens left_first k stack s e o.
          first_broken t n answer opens left_first k stack s node o (at t (3 * node) e ∙ kind) (omega (arith, h, at t (3 * node + 1) e));
      stands = tt;
    }

    module _ (above : node < first_at words node) where
      pub opens_bad_second : second_at words node ≤ node → Read Bad
      opens_bad_second h = record {
        holds = λ t answer opens left_first k stack s e o.
            second_broken t n answer opens left_first k stack s node o (at t (3 * node) e ∙ kind)
            (omega (arith, above, at t (3 * node + 1) e)) (omega (arith, h, at t (3 * node + 2) e));
        stands = tt;
      }

      pub opens_branch : (left right : ℕ) → left ≡ first_at words node → right ≡ second_at words node → node < second_at words node
          → Read (Branch left right)
      opens_branch left right p q above' = record {
        holds = λ t answer opens left_first k stack s e o.
            let x = p ∙ sym (at t (3 * node + 1) e) in
            let y = q ∙ sym (at t (3 * node + 2) e) in
            ap (λ (l : List ℕ). onward t n answer opens left_first k [] l s)
            (λ i. cond (left_first node) (x i ∷ (y i ∷ stack)) (y i ∷ (x i ∷ stack)))
            ∙ branch_opened t n answer opens left_first k stack s node o (at t (3 * node) e ∙ kind)
            (omega (arith, above, at t (3 * node + 1) e)) (omega (arith, above', at t (3 * node + 2) e)) (left_first node) refl;
        stands = (p, q);
      }
