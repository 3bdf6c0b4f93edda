-- A test that all numbers of a list pass, and what stands in the list. Assumes nothing.
use Prim.Native.Nat.{ℕ}
use mathlib.Core.Path.{◌≡◌, refl, ap, ◌∙◌, subst}
use mathlib.Core.Logic.{⊎_elim}
use mathlib.Core.Bool.{Bool, true, false, ◌&&◌, true≢false}
use mathlib.Core.List.Memᴰ
use mathlib.Core.List.{List, [], ◌∷◌}
use Rattle.lists.proofs.JoinedTests.{and_both, and_first, and_second}
use Rattle.height_field.specs.declared.field.Field.{Field}
use Rattle.height_ranges.specs.Ranges.{cell_nodes, nodes_of}
use Rattle.lists.specs.Lists.{every}
use Rattle.height_ranges.specs.Promise.{Among}

module _ (test : ℕ → Bool) where
  pub every_at : (l : List ℕ) (n : ℕ) → every test l ≡ true → Among n l → test n ≡ true
  unfolding every
  every_at [] n h m = absurd (Memᴰ.not-nil m)
  every_at (x ∷ xs) n h m =
      ⊎_elim (λ e. ap test e ∙ and_first (test x) (every test xs) h) (λ t. every_at xs n (and_second (test x) (every test xs) h) t)
      (Memᴰ.cases_cons m)

  pub every_of : (l : List ℕ) → ((n : ℕ) → Among n l → test n ≡ true) → every test l ≡ true
  unfolding every
  every_of [] h = refl
  every_of (x ∷ xs) h = and_both (test x) (every test xs) (h x (Memᴰ.head refl)) (every_of xs (λ n m. h n (Memᴰ.tail m)))

  -- one that fails, where not all pass
  pub record Failing (l : List ℕ) : Type 0 where
    pub number : ℕ
    pub among : Among number l
    pub fails : test number ≡ false

  pub some_fails : (l : List ℕ) → every test l ≡ false → Failing l
  unfolding every
  some_fails [] h = absurd (true≢false h)
  some_fails (x ∷ xs) h = go (test x) refl (some_fails xs) h
    where
      go : (b : Bool) → test x ≡ b → (every test xs ≡ false → Failing xs) → (b && every test xs) ≡ false → Failing (x ∷ xs)
      go true e below k = let r = below k in record { number = r.number; among = Memᴰ.tail r.among; fails = r.fails }
      go false e below k = record { number = x; among = Memᴰ.head refl; fails = e }

-- the nodes of a cell are among those of all
pub nodes_of_cell : (f : Field) (cells : List ℕ) (cell node : ℕ) → Among cell cells → Among node (cell_nodes f cell)
    → Among node (nodes_of f cells)
unfolding nodes_of
nodes_of_cell f [] cell node m k = absurd (Memᴰ.not-nil m)
nodes_of_cell f (x ∷ xs) cell node m k =
    ⊎_elim (λ e. Memᴰ.append_left (nodes_of f xs) (subst (λ (c : ℕ). Among node (cell_nodes f c)) e k))
    (λ t. Memᴰ.append_right (cell_nodes f x) (nodes_of_cell f xs cell node t k)) (Memᴰ.cases_cons m)
