-- How often a number stands in a list: of joined lists, ranges, those that pass a test and gathered lists. Assumes nothing.
use Prim.Native.Nat.{ℕ, zero, suc, ◌+◌, ◌≤◌, ◌<◌}
use mathlib.Core.Path.{◌≡◌, refl, sym, ap, ◌∙◌}
use mathlib.Core.Logic.{◌⊎◌, inl, inr, ⊎_elim, ◌≢◌}
use mathlib.Core.Bool.{Bool, true, false, cond, true≢false}
use mathlib.Core.List.Memᴰ
use mathlib.Core.List.{List, [], ◌∷◌, ◌++◌, append_assoc, Memᴰ}
use native.Mathlib.Omega.{arith}
use lib.Dec.{leb, ltb, eqb}
use lib.ListN.{length, get_or, take, drop}
use lib.Seq.{drop-cons}
use borrow.Author.Tests.{leb-true, leb-false, ltb-true, ltb-false, eqb-true, eqb-false, eq-eqb, ne_eqb}
use Rattle.lists.proofs.JoinedTests.{and_first, and_second}
use Rattle.lists.specs.Lists.{range, count, keep, every, flat_map}

-- ---- one number
abbrev pub one : ℕ → ℕ → ℕ
one x y = cond (eqb x y) 1 0

pub one_same : (x y : ℕ) → x ≡ y → one x y ≡ 1
one_same x y e = ap (λ (b : Bool). cond b 1 0) (eq-eqb x y e)

pub one_other : (x y : ℕ) → (x ≡ y → ⊥) → one x y ≡ 0
one_other x y h = ap (λ (b : Bool). cond b 1 0) (ne_eqb x y h)

pub same_or_other : (x y : ℕ) → (x ≡ y) ⊎ (x ≡ y → ⊥)
same_or_other x y = go (eqb x y) refl
  where
    go : (b : Bool) → eqb x y ≡ b → (x ≡ y) ⊎ (x ≡ y → ⊥)
    go true h = inl (eqb-true x y h)
    go false h = inr (eqb-false x y h)

-- ---- a list
pub count_cons : (x y : ℕ) (ys : List ℕ) → count x (y ∷ ys) ≡ one x y + count x ys
unfolding count
count_cons x y ys = refl

pub count_nil : (x : ℕ) → count x [] ≡ 0
unfolding count
count_nil x = refl

pub count_append : (x : ℕ) (l m : List ℕ) → count x (l ++ m) ≡ count x l + count x m
count_append x [] m = omega (arith, count_nil x)
count_append x (y ∷ l) m = omega (arith, count_cons x y (l ++ m), count_cons x y l, count_append x l m)

pub member_of_count : (x : ℕ) (l : List ℕ) → 0 < count x l → Memᴰ x l
member_of_count x [] h = absurd (omega (arith, count_nil x))
member_of_count x (y ∷ l) h = go (member_of_count x l) (same_or_other x y)
  where
    go : (0 < count x l → Memᴰ x l) → (x ≡ y) ⊎ (x ≡ y → ⊥) → Memᴰ x (y ∷ l)
    go rest (inl e) = Memᴰ.head e
    go rest (inr n) = Memᴰ.tail (rest (omega (arith, count_cons x y l, one_other x y n)))

pub count_of_member : (x : ℕ) (l : List ℕ) → Memᴰ x l → 0 < count x l
count_of_member x [] m = absurd (Memᴰ.not-nil m)
count_of_member x (y ∷ l) m = go (count_of_member x l) (Memᴰ.cases_cons m)
  where
    go : (Memᴰ x l → 0 < count x l) → (x ≡ y) ⊎ Memᴰ x l → 0 < count x (y ∷ l)
    go rest (inl e) = omega (arith, count_cons x y l, one_same x y e)
    go rest (inr n) = omega (arith, count_cons x y l, rest n)

pub every_at : (p : ℕ → Bool) (l : List ℕ) → every p l ≡ true → (x : ℕ) → Memᴰ x l → p x ≡ true
unfolding every
every_at p [] h x m = absurd (Memᴰ.not-nil m)
every_at p (y ∷ l) h x m =
    ⊎_elim
    (λ (e : x ≡ y). ap p e ∙ and_first (p y) (every p l) h)
    (λ (n : Memᴰ x l). every_at p l (and_second (p y) (every p l) h) x n)
    (Memᴰ.cases_cons m)

-- ---- ranges
pub length_range : (start size : ℕ) → length (range start size) ≡ size
unfolding range
length_range start zero = refl
length_range start (suc size) = ap suc (length_range (suc start) size)

count_range_below : (x start size : ℕ) → x < start → count x (range start size) ≡ 0
unfolding range
count_range_below x start zero h = count_nil x
count_range_below x start (suc size) h =
    omega (
      arith,
      count_cons x start (range (suc start) size),
      one_other x start (λ e. omega arith),
      count_range_below x (suc start) size
          (omega arith),
    )

count_range_above : (x start size : ℕ) → start + size ≤ x → count x (range start size) ≡ 0
unfolding range
count_range_above x start zero h = count_nil x
count_range_above x start (suc size) h =
    omega (
      arith,
      count_cons x start (range (suc start) size),
      one_other x start (λ e. omega arith),
      count_range_above x (suc start) size
          (omega arith),
    )

pub count_range_inside : (x start size : ℕ) → start ≤ x → x < start + size → count x (range start size) ≡ 1
unfolding range
count_range_inside x start zero p q = absurd (omega arith)
count_range_inside x start (suc size) p q = go (count_range_inside x (suc start) size) (same_or_other x start)
  where
    go : (suc start ≤ x → x < suc start + size → count x (range (suc start) size) ≡ 1) → (x ≡ start) ⊎ (x ≡ start → ⊥) → count x
        (start ∷ range (suc start) size) ≡ 1
    go rest (inl e) = omega (
      arith,
      count_cons x start (range (suc start) size),
      one_same x start e,
      count_range_below x (suc start) size
          (omega arith),
    )
    go rest (inr n) =
        let f : x ≢ start = n in
        omega (arith, count_cons x start (range (suc start) size), one_other x start n, rest (omega arith) (omega arith))

pub range_bounds : (x start size : ℕ) → 0 < count x (range start size) → (start ≤ x) × (x < start + size)
range_bounds x start size h = (above (leb start x) refl, under (ltb x (start + size)) refl)
  where
    above : (b : Bool) → leb start x ≡ b → start ≤ x
    above true e = leb-true start x e
    above false e = absurd (omega (arith, count_range_below x start size (leb-false start x e)))

    under : (b : Bool) → ltb x (start + size) ≡ b → x < start + size
    under true e = ltb-true x (start + size) e
    under false e = absurd (omega (arith, count_range_above x start size (ltb-false x (start + size) e)))

-- ---- those that pass a test
pub count_keep : (p : ℕ → Bool) (x : ℕ) (l : List ℕ) → count x (keep p l) ≡ cond (p x) (count x l) 0
unfolding keep
count_keep p x [] = go (p x)
  where
    go : (b : Bool) → count x [] ≡ cond b (count x []) 0
    go true = refl
    go false = count_nil x
count_keep p x (y ∷ l) = go (p y) refl (p x) refl (same_or_other x y) (count_keep p x l)
  where
    other : (b : Bool) → count x (keep p l) ≡ cond b (count x l) 0 → (x ≡ y → ⊥) → count x (keep p l) ≡ cond b (count x (y ∷ l)) 0
    other true h n = omega (arith, count_cons x y l, one_other x y n)
    other false h n = h

    go : (a : Bool) → p y ≡ a → (b : Bool) → p x ≡ b → (x ≡ y) ⊎ (x ≡ y → ⊥) → count x (keep p l) ≡ cond (p x) (count x l) 0
        → count x (cond (p y) (y ∷ keep p l) (keep p l)) ≡ cond (p x) (count x (y ∷ l)) 0
    go true e true f s h = simp (e, f) (let h' = simp f at h in omega (arith, count_cons x y l, count_cons x y (keep p l)))
    go true e false f (inl s) h = absurd (true≢false (sym e ∙ ap p (sym s) ∙ f))
    go true e false f (inr n) h = simp (e, f) (let h' = simp f at h in omega (arith, count_cons x y (keep p l), one_other x y n))
    go false e true f (inl s) h = absurd (true≢false (sym f ∙ ap p s ∙ e))
    go false e true f (inr n) h = simp (e, f) (let h' = simp f at h in omega (arith, count_cons x y l, one_other x y n))
    go false e false f s h = simp (e, f) (let h' = simp f at h in omega arith)

pub keep_alike : (p q : ℕ → Bool) (l : List ℕ) → ((x : ℕ) → 0 < count x l → p x ≡ q x) → keep p l ≡ keep q l
unfolding keep
keep_alike p q [] h = refl
keep_alike p q (y ∷ l) h =
    ap (λ (b : Bool). cond b (y ∷ keep p l) (keep p l)) (h y (omega (arith, count_cons y y l, one_same y y refl)))
    ∙ ap (λ (r : List ℕ). cond (q y) (y ∷ r) r) (keep_alike p q l (λ (x : ℕ) (k : 0 < count x l). h x (omega (arith, count_cons x y l))))

-- those of two lists that pass, one list after the other
pub keep_append : (p : ℕ → Bool) (l m : List ℕ) → keep p (l ++ m) ≡ keep p l ++ keep p m
unfolding keep
keep_append p [] m = refl
keep_append p (x ∷ l) m = go (p x) (keep_append p l m)
  where
    go : (b : Bool) → keep p (l ++ m) ≡ keep p l ++ keep p m
        → cond b (x ∷ keep p (l ++ m)) (keep p (l ++ m)) ≡ cond b (x ∷ keep p l) (keep p l) ++ keep p m
    go true e = ap (λ (r : List ℕ). x ∷ r) e
    go false e = e

-- ---- gathered lists
pub flat_map_cons : (f : ℕ → List ℕ) (x : ℕ) (l : List ℕ) → flat_map f (x ∷ l) ≡ f x ++ flat_map f l
unfolding flat_map
flat_map_cons f x l = refl

pub count_flat_map_cons : (f : ℕ → List ℕ) (x y : ℕ) (l : List ℕ) → count y (flat_map f (x ∷ l)) ≡ count y (f x) + count y (flat_map f l)
count_flat_map_cons f x y l = ap (count y) (flat_map_cons f x l) ∙ count_append y (f x) (flat_map f l)

pub flat_map_append : (f : ℕ → List ℕ) (l m : List ℕ) → flat_map f (l ++ m) ≡ flat_map f l ++ flat_map f m
unfolding flat_map
flat_map_append f [] m = refl
flat_map_append f (x ∷ l) m = ap (λ (r : List ℕ). f x ++ r) (flat_map_append f l m) ∙ sym (append_assoc (f x) (flat_map f l) (flat_map f m))

-- what is gathered comes from one of them
pub record From (f : ℕ → List ℕ) (l : List ℕ) (y : ℕ) : Type 0 where
  pub source : ℕ
  pub listed : 0 < count source l
  pub given : 0 < count y (f source)

pub gathered_from : (f : ℕ → List ℕ) (l : List ℕ) (y : ℕ) → 0 < count y (flat_map f l) → From f l y
unfolding flat_map
gathered_from f [] y h = absurd (omega (arith, count_nil y))
gathered_from f (x ∷ l) y h = go (λ k. gathered_from f l y k) (count y (f x)) refl
  where
    go : (0 < count y (flat_map f l) → From f l y) → (k : ℕ) → count y (f x) ≡ k → From f (x ∷ l) y
    go rest zero e =
        let r = rest (omega (arith, count_append y (f x) (flat_map f l))) in
        record { source = r.source; listed = omega (arith, count_cons r.source x l, r.listed); given = r.given }
    go rest (suc k) e = record { source = x; listed = omega (arith, count_cons x x l, one_same x x refl); given = omega arith }

pub gathers : (f : ℕ → List ℕ) (l : List ℕ) (x y : ℕ) → 0 < count x l → 0 < count y (f x) → 0 < count y (flat_map f l)
unfolding flat_map
gathers f [] x y h k = absurd (omega (arith, count_nil x))
gathers f (z ∷ l) x y h k = go (λ (r : 0 < count x l). gathers f l x y r k) (same_or_other x z)
  where
    go : (0 < count x l → 0 < count y (flat_map f l)) → (x ≡ z) ⊎ (x ≡ z → ⊥) → 0 < count y (f z ++ flat_map f l)
    go rest (inl e) = omega (arith, ap (λ (i : ℕ). count y (f i)) e, count_append y (f z) (flat_map f l))
    go rest (inr n) = omega (arith, count_append y (f z) (flat_map f l), rest (omega (arith, count_cons x z l, one_other x z n)))

pub flat_map_flat_map : (f g : ℕ → List ℕ) (l : List ℕ) → flat_map f (flat_map g l) ≡ flat_map (λ (x : ℕ). flat_map f (g x)) l
unfolding flat_map
flat_map_flat_map f g [] = refl
flat_map_flat_map f g (x ∷ l) = flat_map_append f (g x) (flat_map g l)
    ∙ ap (λ (r : List ℕ). flat_map f (g x) ++ r) (flat_map_flat_map f g l)

-- the words at a range of places
pub flat_map_words : (words : List ℕ) (start size : ℕ) → start + size ≤ length words → flat_map (λ (p : ℕ). get_or words p 0 ∷ [])
    (range start size) ≡ take size (drop start words)
unfolding flat_map range
flat_map_words words start zero h = refl
flat_map_words words start (suc size) h =
    ap (λ (r : List ℕ). get_or words start 0 ∷ r) (flat_map_words words (suc start) size (omega arith))
    ∙ ap (take (suc size)) (sym (drop-cons words start 0 (omega arith)))
