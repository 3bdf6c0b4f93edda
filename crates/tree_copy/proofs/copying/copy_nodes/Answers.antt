-- `tree_copy::copying::copy_nodes` meets its contract. Assumes nothing.
use Rattle.std.proofs.Common.{◌≡◌, refl, ap, ◌∙◌, arith, ℕ, List, ◌+◌, ◌*◌}
use lib.Seq.{sets}
use Rattle.lists.specs.Lists.{range, flat_map}
use Rattle.tree_copy.specs.Moved.{moved_node, moved_nodes}
use Rattle.tree_copy.proofs.CopyLaws.{nodes_next}
use Rattle.tree_copy.proofs.copying.copy_nodes.Goals as goal

pub loop-i-init : goal.loop-i-init
unfolding moved_nodes range flat_map
loop-i-init c = refl

pub copy_node-requires : goal.copy_node-requires
copy_node-requires c =
    let l = c.loop-i in
    ((omega (arith, c.requires.0), omega (arith, c.requires.0, l.auto.area)), c.requires.1.each l.i (omega arith))

pub loop-i-preserved : goal.loop-i-preserved
loop-i-preserved c =
    let l = c.loop-i in
    let a = c.args in
    c.copy_node.ensures
    ∙ ap (λ (z : List ℕ). sets z (a.place + 3 * l.i) (moved_node a.nodes a.places a.words.now l.i)) l.invariant
    ∙ nodes_next a.area.now a.words.now a.place a.nodes a.places l.i

pub returns : goal.returns
returns c =
    let l = c.loop-i in
    let a = c.args in
    let e : l.i ≡ a.count = omega arith in
    l.invariant ∙ ap (λ (k : ℕ). sets a.area.now a.place (moved_nodes a.nodes a.places a.words.now k)) e
