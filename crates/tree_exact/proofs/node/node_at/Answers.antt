-- `tree_exact::node::node_at` meets its contract. Assumes nothing.
use native.Mathlib.Omega.{arith}
use Rattle.tree_exact.proofs.Opening.{opens_bad_leaf, opens_leaf, opens_bad_kind, opens_bad_first, opens_bad_second, opens_branch}
use Rattle.tree_exact.proofs.node.node_at.Goals as goal

-- a leaf that starts past the triangles
pub returns-then-first-count : goal.returns-then-first-count
returns-then-first-count c =
    let v = c.args in
    opens_bad_leaf v.count v.words.now v.node (omega (arith, c.word_at-kind.ensures))
    (omega (arith, c.word_at-first.ensures, c.word_at-second.ensures))

-- a leaf that ends past them
pub returns-then-second-count : goal.returns-then-second-count
returns-then-second-count c =
    let v = c.args in
    opens_bad_leaf v.count v.words.now v.node (omega (arith, c.word_at-kind.ensures))
    (omega (arith, c.word_at-first.ensures, c.word_at-second.ensures))

-- a leaf
pub returns-then-kind-eq0 : goal.returns-then-kind-eq0
returns-then-kind-eq0 c =
    let v = c.args in
    opens_leaf v.count v.words.now v.node (omega (arith, c.word_at-kind.ensures)) c.word_at-first.result c.word_at-second.result
    c.word_at-first.ensures c.word_at-second.ensures (omega arith)

-- a kind that is none
pub returns-then-kind-ne1 : goal.returns-then-kind-ne1
returns-then-kind-ne1 c =
    let v = c.args in
    let kind = c.word_at-kind.ensures in
    opens_bad_kind v.count v.words.now v.node (λ e. omega (arith, kind, e)) (λ e. omega (arith, kind, e))

-- a left child that is not above its parent
pub returns-then-first-node : goal.returns-then-first-node
returns-then-first-node c =
    let v = c.args in
    opens_bad_first v.count v.words.now v.node (omega (arith, c.word_at-kind.ensures)) (omega (arith, c.word_at-first.ensures))

-- a right child that is not
pub returns-then-second-node : goal.returns-then-second-node
returns-then-second-node c =
    let v = c.args in
    opens_bad_second v.count v.words.now v.node (omega (arith, c.word_at-kind.ensures)) (omega (arith, c.word_at-first.ensures))
    (omega (arith, c.word_at-second.ensures))

-- a branch
pub returns : goal.returns
returns c =
    let v = c.args in
    opens_branch v.count v.words.now v.node (omega (arith, c.word_at-kind.ensures)) (omega (arith, c.word_at-first.ensures))
    c.word_at-first.result c.word_at-second.result c.word_at-first.ensures c.word_at-second.ensures
    (omega (arith, c.word_at-second.ensures))
