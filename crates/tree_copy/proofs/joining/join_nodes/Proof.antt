-- `tree_copy::joining::join_nodes` meets its contract. Assumes nothing.
use mathlib.Core.Path.{sym, ap, ◌∙◌, subst}
use mathlib.Core.Bool.{Bool, cond}
use mathlib.Core.List.{List, [], ◌∷◌}
use Prim.Native.Nat.{ℕ, ◌+◌, ◌*◌}
use native.Mathlib.Omega.{arith}
use lib.Seq.{sets}
use Rattle.tree_copy.specs.Moved.{moved_nodes}
use Rattle.tree_copy.specs.Sizes.{SmallNodes}
use Rattle.tree_copy.proofs.MovedLists.{length_nodes}
use Rattle.tree_copy.proofs.JoinLaws.{three_runs, root_words_length}
use borrow.Author.Rules.{rules}
use Rattle.tree_copy.proofs.joining.join_nodes.Statement.{statement}
use Rattle.tree_copy.proofs.joining.join_nodes.Tie as tie

put-root-words-requires : tie.Need-put_root_words-roots-requires
put-root-words-requires c κs =
    let start : tie.Start = search in
    let p = start.requires in
    ((λ left. omega (arith, p.0, ap {B = ℕ} (λ (e : Bool). cond e 0 1) left)), omega (arith, p.1.0))

copy-nodes-requires : tie.Need-copy_nodes-requires
copy-nodes-requires c κs =
    let (start, at-put-root-words) : tie.Start × tie.After-put_root_words-roots = search in
    let a = start.args in
    let p = start.requires in
    let r = at-put-root-words.put_root_words-roots in (
      (omega (arith, p.0), omega (arith, p.0, r.ensures.0, r.auto.area)),
      subst (λ (k : ℕ). SmallNodes a.first.now k 0 a.m)
          (sym r.ensures.0) p.1.1.0,
    )

copy-nodes-requires-2 : tie.Need-copy_nodes-requires-2
copy-nodes-requires-2 c κs =
    let (start, at-put-root-words, at-copy-nodes) : tie.Start × tie.After-put_root_words-roots × tie.After-copy_nodes = search in
    let a = start.args in
    let p = start.requires in
    let r = at-put-root-words.put_root_words-roots in (
      (
        omega (arith, p.0),
        omega
            (arith, p.0, r.ensures.0, r.auto.area, at-copy-nodes.copy_nodes.auto.area),
      ),
      subst (λ (k : ℕ). SmallNodes a.second.now (k + a.m) a.places a.n) (sym r.ensures.0) p.1.1.1,
    )

returns : tie.Need-returns
returns c =
    let (start, at-put-root-words, at-copy-nodes, at-copy-nodes2) :
    tie.Start × tie.After-put_root_words-roots × tie.After-copy_nodes × tie.After-copy_nodes-2 = search in
    let a = start.args in
    let p = start.requires in
    let r = at-put-root-words.put_root_words-roots in
    let k = r.result in
    let e : ℕ = cond a.empty 0 1 in
    let xs = moved_nodes e 0 a.first.now a.m in
    let ys = moved_nodes (e + a.m) a.places a.second.now a.n in
    let root = cond a.empty [] (1 ∷ (1 ∷ ((1 + a.m) ∷ []))) in
    let lr = root_words_length a.empty 1 1 (1 + a.m) in
    let lx = length_nodes e 0 a.first.now a.m in
    let ly = length_nodes (e + a.m) a.places a.second.now a.n in
    at-copy-nodes2.copy_nodes-2.ensures
    ∙ ap (λ (z : List ℕ). sets z (3 * (k + a.m)) (moved_nodes (k + a.m) a.places a.second.now a.n))
    (at-copy-nodes.copy_nodes.ensures ∙ ap
    (λ (z : List ℕ). sets z (3 * k) (moved_nodes k 0 a.first.now a.m)) r.ensures.1)
    ∙ ap (λ (j : ℕ). sets (sets (sets a.area.now 0 root) (3 * j) (moved_nodes j 0 a.first.now a.m)) (3 * (j + a.m))
    (moved_nodes (j + a.m) a.places a.second.now a.n)) r.ensures.0
    ∙ three_runs a.area.now root xs ys (3 * e) (3 * (e + a.m)) lr (omega (arith, lr, lx)) (omega (arith, lr, lx, ly, p.0.1))

pub join_nodes_spec : {M : Type 1} → statement M
join_nodes_spec =
    tie.close
    (tie.spec
    put-root-words-requires
    (search rules)  -- overflow_mul-roots
    copy-nodes-requires
    (search rules)  -- overflow_add-roots
    (search rules)  -- overflow_add-roots-2
    (search rules)  -- overflow_mul-roots-2
    copy-nodes-requires-2
    (search rules)  -- shape_of-area
    returns)
