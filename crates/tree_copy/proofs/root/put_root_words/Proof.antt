-- `tree_copy::root::put_root_words` meets its contract. Assumes nothing.
use mathlib.Core.Path.{sym, ap, ◌∙◌}
use mathlib.Core.Bool.{Bool, cond}
use mathlib.Core.List.{[], ◌∷◌}
use Prim.Native.Nat.{◌+◌}
use native.Mathlib.Omega.{arith}
use lib.Seq.{sets}
use borrow.Author.Rules.{rules}
use Rattle.tree_copy.proofs.root.put_root_words.Statement.{statement}
use Rattle.tree_copy.proofs.root.put_root_words.Tie as tie

put-words-requires : tie.Need-put_words-requires
put-words-requires c κs =
    let start : tie.Start = search in
    (start.requires.0 c.if-empty.false, (omega arith, omega (arith, start.requires.1)))

returns-2 : tie.Need-returns
returns-2 c =
    let (start, else1, at-put-words) : tie.Start × tie.Else-empty × tie.After-put_words = search in
    let a = start.args in
    let left = else1.if-empty.false in (
      ap (λ (e : Bool). cond e 0 1) (sym left),
      at-put-words.put_words.ensures ∙ ap (λ (e : Bool). sets a.area.now 0 (cond e [] (1 ∷ (1 ∷ ((1 + a.m) ∷ []))))) (sym left),
    )

pub put_root_words_spec : {M : Type 1} → statement M
put_root_words_spec =
    tie.close (tie.spec
    (λ c. search rules)  -- returns-then-empty
    (search rules)  -- overflow_add-m
    put-words-requires
    (search rules)  -- shape_of-area
    returns-2)
