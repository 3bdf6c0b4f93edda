-- A record's parts, written one behind another, from a well-formed record's plan. Assumes nothing.
use Prim.Native.Nat.{ℕ, ◌+◌, ◌*◌, ◌<◌, ◌≤◌}
use mathlib.Core.Path.{◌≡◌, refl, sym, ap, subst, ◌∙◌}
use mathlib.Core.Bool.{Bool, true}
use mathlib.Core.List.{List, [], ◌∷◌, ◌++◌, append_assoc}
use native.Mathlib.Omega.{arith}
use lib.Ieee.{Float}
use lib.ListN.{length, drop, length-append}
use lib.Seq.{sets}
use Rattle.float_forms.specs.declared.forms.Form.{Form}
use Rattle.float_forms.specs.declared.forms.Form.TheVariants.{First, Long, Short}
use Rattle.record_bytes.specs.declared.shape.Plan.{Plan}
use Rattle.float_forms.specs.Forms.{size_of, rays_of, version_of}
use Rattle.float_forms.specs.Bytes.{word_bytes, numbers_of, numbers_bytes, words_of, words_bytes}
use Rattle.record_bytes.specs.Records.{body_length, kind_of, counts_place, counts_of}
use Rattle.record_bytes.specs.Records.{said_of, fields_bytes, record_bytes, every_said}
use Rattle.float_forms.specs.Representable.{every}
use Rattle.conversion.specs.Writing.{rewritten}
use Rattle.record_bytes.specs.Kinds.{byte_of}
use Rattle.record_bytes.specs.Plans.{size_for}
use Rattle.float_forms.proofs.Numbers.{word_length}
use Rattle.float_forms.proofs.RunLaws.{numbers_count, words_count, numbers_length, words_length}
use Rattle.record_bytes.proofs.Lengths.{written_length, read_measured}
use Rattle.record_bytes.proofs.PlanLaws.{Sizes}
use Rattle.lists.proofs.JoinedTests.{and_parts}
use Rattle.lists.proofs.Runs.{sets_append}

-- what every float passes, the ray's do, and the shape's
module _ (p : Form) (test : Float → Bool) (l : List ℕ) (h : every_said test (said_of p l) ≡ true) where
  both_runs : (every test (numbers_of p (rays_of p) (drop 6 l)) ≡ true) × (every test (said_of p l).numbers ≡ true)
  unfolding every_said said_of
  both_runs = and_parts (every test (numbers_of p (rays_of p) (drop 6 l))) (every test (said_of p l).numbers) h

  pub ray_passes : every test (numbers_of p (rays_of p) (drop 6 l)) ≡ true
  ray_passes = both_runs.0

  pub numbers_pass : (plan : Plan) (place : ℕ) → Sizes p l plan → place ≡ counts_place p + 4 * plan.counts
      → every test (numbers_of p plan.numbers (drop place l)) ≡ true
  unfolding said_of
  numbers_pass plan place s e = rw (e, s.counts_are, s.numbers_are) both_runs.1

-- ---- lengths

pub size_below : (q : Form) (p : Form) (l : List ℕ) (plan : Plan) → rays_of p ≡ rays_of q → Sizes p l plan → size_for q plan ≤ 8192
unfolding size_for
size_below First p l plan r s = omega (arith, r, s.small)
size_below Long p l plan r s = omega (arith, r, s.small)
size_below Short p l plan r s = omega (arith, r, s.small)

-- the converted record's length, known before a float is looked at
pub rewritten_length : (p q : Form) (l : List ℕ) → rays_of p ≡ rays_of q → length (rewritten p q l) ≡ 4 + body_length q (kind_of l)
    (counts_of p l)
unfolding said_of
rewritten_length p q l r = written_length q (said_of p l) (read_measured p q l r)

-- ---- writing, a part after another

pub two_parts : (l o1 o2 xs ys : List ℕ) (i j : ℕ) → o1 ≡ sets l i xs → o2 ≡ sets o1 j ys → i + length xs ≡ j → o2 ≡ sets l i (xs ++ ys)
two_parts l o1 o2 xs ys i j e f k = f ∙ (rw (e, sym k) (sym (sets_append l i xs ys)))

pub head_written : (l after : List ℕ) (n v kind : ℕ) → after ≡ sets l 0 (word_bytes n)
    → sets after 4 (v ∷ (kind ∷ [])) ≡ sets l 0 (word_bytes n ++ (v ∷ (kind ∷ [])))
head_written l after n v kind e =
    two_parts l after (sets after 4 (v ∷ (kind ∷ []))) (word_bytes n) (v ∷ (kind ∷ [])) 0 4 e refl (omega (arith, word_length n))

run_length : (p q : Form) (n : ℕ) (l : List ℕ) → length (numbers_bytes q (numbers_of p n l)) ≡ size_of q * n
run_length p q n l = numbers_length q (numbers_of p n l) ∙ ap (λ (k : ℕ). size_of q * k) (numbers_count p n l)

pub run_behind : (p q : Form) (n i j : ℕ) (l : List ℕ) → j ≡ i + size_of q * n → i + length (numbers_bytes q (numbers_of p n l)) ≡ j
run_behind p q n i j l e = ap (λ (k : ℕ). i + k) (run_length p q n l) ∙ sym e

module _ (p q : Form) (l out : List ℕ) (plan : Plan) (r : rays_of p ≡ rays_of q) (s : Sizes p l plan) where
  front : ℕ → List ℕ
  front body = word_bytes body ++ (version_of q ∷ (byte_of plan.kind ∷ []))

  middle : List ℕ
  middle = numbers_bytes q (numbers_of p (rays_of p) (drop 6 l)) ++ words_bytes (words_of plan.counts (drop (counts_place p) l))

  rear : ℕ → List ℕ
  rear from =
      numbers_bytes q (numbers_of p plan.numbers (drop from l)) ++ words_bytes
      (words_of plan.indices (drop (from + size_of p * plan.numbers) l))

  parts_are : front (size_for q plan) ++ (middle ++ rear (counts_place p + 4 * plan.counts)) ≡ rewritten p q l
  unfolding front middle rear record_bytes fields_bytes said_of counts_of size_for body_length
  parts_are =
      rw (s.kind_is, s.counts_are, s.numbers_are, s.indices_are) (simp append_assoc)

  front_length : (body : ℕ) → length (front body) ≡ 6
  unfolding front
  front_length body = omega (arith, length-append (word_bytes body) (version_of q ∷ (byte_of plan.kind ∷ [])), word_length body)

  middle_length : length middle ≡ size_of q * rays_of q + 4 * plan.counts
  unfolding middle
  middle_length =
      let ray = numbers_bytes q (numbers_of p (rays_of p) (drop 6 l)) in
      let counts = words_of plan.counts (drop (counts_place p) l) in
      omega (
        arith,
        length-append ray (words_bytes counts),
        run_length p q (rays_of p) (drop 6 l),
        ap (λ (n : ℕ). size_of q * n) r,
        words_length counts,
        words_count plan.counts
            (drop (counts_place p) l),
      )

  pub all_written : (o1 o2 o3 : List ℕ) (body from to : ℕ) → body ≡ size_for q plan → from ≡ counts_place p + 4 * plan.counts
      → to ≡ counts_place q + 4 * plan.counts
      → o1 ≡ sets out 0 (word_bytes body ++ (version_of q ∷ (byte_of plan.kind ∷ [])))
      → o2 ≡ sets o1 6
      (numbers_bytes q (numbers_of p (rays_of p) (drop 6 l)) ++ words_bytes (words_of plan.counts (drop (counts_place p) l)))
      → o3 ≡ sets o2 to
      (numbers_bytes q (numbers_of p plan.numbers (drop from l)) ++ words_bytes
      (words_of plan.indices (drop (from + size_of p * plan.numbers) l)))
      → o3 ≡ sets out 0 (rewritten p q l)
  unfolding front middle rear
  all_written o1 o2 o3 body from to eb ef et e1 e2 e3 =
      let f = front body in
      let b = rear from in
      let lf : length f ≡ 6 = front_length body in
      let joined : o2 ≡ sets out 0 (f ++ middle) = two_parts out o1 o2 f middle 0 6 e1 e2 (omega (arith, lf)) in
      let after : 0 + length (f ++ middle) ≡ to = omega (arith, length-append f middle, lf, middle_length, et) in
      let all : o3 ≡ sets out 0 ((f ++ middle) ++ b) = two_parts out o2 o3 (f ++ middle) b 0 to joined e3 after in
      all ∙ ap (sets out 0)
      (append_assoc f middle b ∙ (ap (λ (n : ℕ). front n ++ (middle ++ b)) eb ∙ (ap (λ (n : ℕ). front (size_for q plan) ++ (middle ++ rear
      n)) ef ∙ parts_are)))

-- ---- what each step of writing asks

pub kept_by : (l after : List ℕ) (n : ℕ) → length after ≡ length l → n ≤ length l → n ≤ length after
kept_by l after n e h = subst (λ (k : ℕ). n ≤ k) (sym e) h

module _
    (p q : Form)
    (l : List ℕ)
    (plan : Plan)
    (r : rays_of p ≡ rays_of q)
    (s : Sizes p l plan)
    (body n : ℕ)
    (e : body ≡ size_for q plan)
    (room : 4 + body ≤ n)
  where
    pub head_room : (6 ≤ n) × (body < 4294967296)
    unfolding size_for
    head_room = (omega (arith, e, room), omega (arith, e, size_below q p l plan r s))

    pub ray_room : counts_place q + 4 * plan.counts ≤ n
    unfolding size_for
    ray_room = omega (arith, e, room)

    pub shape_room : (to : ℕ) → to ≡ counts_place q + 4 * plan.counts → to + size_of q * plan.numbers + 4 * plan.indices ≤ n
    unfolding size_for
    shape_room to f = omega (arith, e, f, room)
