-- The first cell of an ascending list that passes a test is the cell of the listing's first triangle. Assumes nothing.
use Prim.Native.Nat.{ℕ, ◌+◌, ◌*◌, ◌/◌, ◌≤◌}
use mathlib.Core.Path.{◌≡◌, refl, sym, ap, ◌∙◌}
use mathlib.Core.Logic.{⊎_elim}
use mathlib.Core.Bool.{Bool, true, false, ◌||◌, cond, true≢false}
use mathlib.Core.List.Memᴰ
use mathlib.Core.List.{List, [], ◌∷◌, ◌++◌}
use native.Mathlib.Omega.{arith}
use lib.Ieee.{Float}
use Rattle.geometry.specs.Box.{touches}
use Rattle.geometry.specs.declared.aabb.Aabb.{Aabb}
use Rattle.height_field.specs.declared.field.Field.{Field}
use Rattle.height_field.specs.Grid.{cell_row, cell_column}
use Rattle.height_field.specs.Listing.{Listing, listed, both, list_all, cell_finite, feature_box, list_cell}
use Rattle.lists.specs.Lists.{keep}
use Rattle.height_ranges.specs.Answer.{Answer, clear, possible, refused}
use Rattle.height_ranges.specs.RangesCast.{answer_listed}
use Rattle.height_ranges.specs.Pass.{cell_touches, first_cell}
use Rattle.height_ranges.specs.Promise.{Among}
use Rattle.height_ranges.proofs.VisitedCells.{Ascends, next}
use Rattle.height_ranges.proofs.FiniteCells.{cell_lists}

-- ---- the first that passes

module _ (test : ℕ → Bool) where
  pub record Least (cells : List ℕ) (cell : ℕ) : Type 0 where
    pub among : Among cell cells
    pub passes : test cell ≡ true
    pub least : (other : ℕ) → Among other cells → test other ≡ true → cell ≤ other

  pub first_least : (cells : List ℕ) (cell : ℕ) → Ascends cells → first_cell test cells ≡ possible cell → Least cells cell
  unfolding first_cell
  first_least [] cell a e = let z : ◌≡◌ {A = ℕ} 0 1 = cc in absurd (omega arith)
  first_least (x ∷ xs) cell (next least a) e = go (test x) refl (first_least xs cell a) e
    where
      go : (b : Bool) → test x ≡ b → (first_cell test xs ≡ possible cell → Least xs cell)
          → cond b (possible x) (first_cell test xs) ≡ possible cell → Least (x ∷ xs) cell
      go true p below e =
          let same : cell ≡ x = cc in
          record {
            among = Memᴰ.head same;
            passes = ap test same ∙ p;
            least = λ other m t. ⊎_elim (λ d. omega arith) (λ k. let l = least other k in omega arith) (Memᴰ.cases_cons m);
          }
      go false p below e =
          let r = below e in
          record {
            among = Memᴰ.tail r.among;
            passes = r.passes;
            least = λ other m t. ⊎_elim (λ d. absurd (true≢false (sym t ∙ ap test d ∙ p))) (λ k. r.least other k t)
                (Memᴰ.cases_cons m);
          }

  pub clear_fails : (cells : List ℕ) → first_cell test cells ≡ clear → (cell : ℕ) → Among cell cells → test cell ≡ true → ⊥
  unfolding first_cell
  clear_fails [] e cell m t = absurd (Memᴰ.not-nil m)
  clear_fails (x ∷ xs) e cell m t = go (test x) refl (λ h. clear_fails xs h cell) e
    where
      go : (b : Bool) → test x ≡ b → (first_cell test xs ≡ clear → Among cell xs → test cell ≡ true → ⊥)
          → cond b (possible x) (first_cell test xs) ≡ clear → ⊥
      go true p below e = let z : ◌≡◌ {A = ℕ} 0 1 = cc in omega arith
      go false p below e = ⊎_elim (λ d. true≢false (sym t ∙ ap test d ∙ p)) (λ k. below e k t) (Memᴰ.cases_cons m)

  pub never_refused : (cells : List ℕ) (number : ℕ) → first_cell test cells ≡ refused number → ⊥
  unfolding first_cell
  never_refused [] number e = let z : ◌≡◌ {A = ℕ} 0 1 = cc in omega arith
  never_refused (x ∷ xs) number e = go (test x) (never_refused xs number) e
    where
      go : (b : Bool) → (first_cell test xs ≡ refused number → ⊥) → cond b (possible x) (first_cell test xs) ≡ refused number → ⊥
      go true below e = let z : ◌≡◌ {A = ℕ} 0 1 = cc in omega arith
      go false below e = below e

  -- and so the other way round
  pub least_first : (cells : List ℕ) (cell : ℕ) → Ascends cells → Least cells cell → first_cell test cells ≡ possible cell
  least_first cells cell a l = go (first_cell test cells) refl
    where
      go : (c : Answer) → first_cell test cells ≡ c → first_cell test cells ≡ possible cell
      go clear e = absurd (clear_fails cells e cell l.among l.passes)
      go (possible other) e =
          let o = first_least cells other a e in
          let p = l.least other o.among o.passes in
          let q = o.least cell l.among l.passes in
          let same : other ≡ cell = omega arith in
          e ∙ ap possible same
      go (refused number) e = absurd (never_refused cells number e)

  pub fails_clear : (cells : List ℕ) → ((cell : ℕ) → Among cell cells → test cell ≡ true → ⊥) → first_cell test cells ≡ clear
  unfolding first_cell
  fails_clear [] h = refl
  fails_clear (x ∷ xs) h = go (test x) (h x (Memᴰ.head refl)) (fails_clear xs (λ c m. h c (Memᴰ.tail m)))
    where
      go : (b : Bool) → (b ≡ true → ⊥) → first_cell test xs ≡ clear → cond b (possible x) (first_cell test xs) ≡ clear
      go true f below = absurd (f refl)
      go false f below = below

-- ---- the listing

module _ (f : Field) (heights : List Float) (box : Aabb) where
  pub record Lists (cells : List ℕ) : Type 0 where
    pub features : List ℕ
    pub listing : list_all (list_cell f heights box) cells ≡ listed features
    pub first : answer_listed (listed features) ≡ first_cell (cell_touches f heights box) cells

  -- what one cell puts before the rest
  cell_first : (cell : ℕ) (s t : Bool) (rest : List ℕ)
      → answer_listed (listed (cond s ((cell * 2) ∷ cond t ((cell * 2 + 1) ∷ []) []) (cond t ((cell * 2 + 1) ∷ []) []) ++ rest)) ≡ cond
      (s || t) (possible cell) (answer_listed (listed rest))
  unfolding answer_listed
  cell_first cell true t rest = let e : cell * 2 / 2 ≡ cell = omega arith in ap possible e
  cell_first cell false true rest = let e : (cell * 2 + 1) / 2 ≡ cell = omega arith in ap possible e
  cell_first cell false false rest = refl

  pub lists_touching : (cells : List ℕ) → ((cell : ℕ) → Among cell cells
      → cell_finite f heights (cell_row f cell) (cell_column f cell) ≡ true) → Lists cells
  unfolding list_all first_cell both cell_touches keep answer_listed
  lists_touching [] h = record { features = []; listing = refl; first = refl }
  lists_touching (cell ∷ cells) h =
      let r = lists_touching cells (λ c m. h c (Memᴰ.tail m)) in
      let test : ℕ → Bool = λ (feature : ℕ). touches (feature_box f heights feature) box in
      let own = keep test ((cell * 2) ∷ (cell * 2 + 1) ∷ []) in
      record {
        features = own ++ r.features;
        listing = ap (λ (l : Listing). both l (list_all (list_cell f heights box) cells))
            (cell_lists f heights box cell (h cell (Memᴰ.head refl))) ∙ ap (both (listed own)) r.listing;
        first = cell_first cell (test (cell * 2)) (test (cell * 2 + 1)) r.features
            ∙ ap (cond (test (cell * 2) || test (cell * 2 + 1)) (possible cell)) r.first;
      }

pub clear_empty : (features : List ℕ) → answer_listed (listed features) ≡ clear → features ≡ []
unfolding answer_listed
clear_empty [] e = refl
clear_empty (x ∷ xs) e = let z : ◌≡◌ {A = ℕ} 0 1 = cc in absurd (omega arith)
