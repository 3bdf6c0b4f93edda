-- The cast at all parts under a limit is that without one where the limit is at least the need, and else 10 with the limit spent.
-- Assumes nothing.
use Prim.Native.Nat.{ℕ, ◌+◌, ◌-◌, ◌≤◌, ◌<◌}
use mathlib.Core.Path.{◌≡◌, refl, ap, ◌∙◌}
use mathlib.Core.Bool.{Bool, true, false, true≢false}
use mathlib.Core.List.{List, [], ◌∷◌}
use native.Mathlib.Omega.{arith}
use borrow.Author.Tests.{leb-true, leb-false}
use lib.Dec.{leb}
use Rattle.geometry.specs.Segment.{ray_admitted}
use Rattle.geometry.specs.declared.ray.Ray.{Ray}
use Rattle.casts.specs.Answer.{limit_reached}
use Rattle.nearest_hit.specs.Nearest.{stopped}
use Rattle.cabinet.specs.declared.part.Part.{Part}
use Rattle.cabinet.specs.Found.{Found, Nothing, Hit, Refused, Progress}
use Rattle.cabinet.specs.Parts.{Areas, mesh_of, tree_of_part}
use Rattle.cabinet.specs.PartCast.{Costed, costing, cast_moved, own_cast}
use Rattle.cabinet.specs.Cabinet.{refused_after, answer_of, is_refused, found_next, next_part, after_part, cast_part, cast_parts}
use Rattle.cabinet.specs.Cabinet.{own_part, own_parts}
use Rattle.cabinet.proofs.PartLimits.{limited_within, limited_past, part_limited}

-- ---- one part on top of the others
pub after_refused : (s : Progress) (c : Costed) → is_refused s.found ≡ true → after_part s c ≡ s
unfolding after_part
after_refused s c e = simp e

abbrev pub extended : Progress → Costed → Progress
extended s c = record { part = next_part s.part; spent = s.spent + c.spent; found = found_next s.found s.part c.answer }

pub after_begun : (s : Progress) (c : Costed) → is_refused s.found ≡ false → after_part s c ≡ extended s c
unfolding after_part
after_begun s c e = simp e

-- a part's refusal is the cabinet's
stopped_next : (f : Found) (part number : ℕ) → is_refused f ≡ false → found_next f part (stopped number) ≡ Refused number
unfolding found_next
stopped_next Nothing part number e = refl
stopped_next (Hit q i n d) part number e = refl
stopped_next (Refused k) part number e = absurd (true≢false e)

module _ (r : Ray) (a : Areas) where
  -- after a refusal nothing changes
  cast_refused : (limit : ℕ) (s : Progress) (ps : List Part) → is_refused s.found ≡ true → cast_parts r a limit s ps ≡ s
  unfolding cast_parts cast_part
  cast_refused limit s [] e = refl
  cast_refused limit s (p ∷ ps) e =
      let f = after_refused s (cast_moved (limit - s.spent) r p.origin (mesh_of a p) (tree_of_part a p)) e in
      ap (λ (x : Progress). cast_parts r a limit x ps) f ∙ cast_refused limit s ps e

  pub own_refused : (s : Progress) (ps : List Part) → is_refused s.found ≡ true → own_parts r a s ps ≡ s
  unfolding own_parts own_part
  own_refused s [] e = refl
  own_refused s (p ∷ ps) e =
      let f = after_refused s (own_cast r p.origin (mesh_of a p) (tree_of_part a p)) e in
      ap (λ (x : Progress). own_parts r a x ps) f ∙ own_refused s ps e

  -- the count only grows
  after_grows : (s : Progress) (c : Costed) → s.spent ≤ (after_part s c).spent
  after_grows s c = go (is_refused s.found) refl
    where
      go : (b : Bool) → is_refused s.found ≡ b → s.spent ≤ (after_part s c).spent
      go true e = rw (after_refused s c e) (omega arith)
      go false e = rw (after_begun s c e) (omega arith)

  own_grows : (s : Progress) (ps : List Part) → s.spent ≤ (own_parts r a s ps).spent
  unfolding own_parts own_part
  own_grows s [] = omega arith
  own_grows s (p ∷ ps) =
      let c = own_cast r p.origin (mesh_of a p) (tree_of_part a p) in
      omega (arith, after_grows s c, own_grows (after_part s c) ps)

  -- ---- the limit
  module _ (h : ray_admitted r ≡ true) (limit : ℕ) where
    abbrev used : Progress → Progress
    used s = record { part = next_part s.part; spent = limit; found = Refused limit_reached }

    -- what the limit makes of the whole
    pub record Limited (free bound : Progress) : Type 0 where
      pub suffices : free.spent ≤ limit → bound ≡ free
      pub used_up : limit < free.spent → answer_of bound ≡ refused_after limit_reached limit
      pub within : bound.spent ≤ limit

    module _ (s : Progress) (p : Part) (begun : is_refused s.found ≡ false) (l : s.spent ≤ limit) where
      abbrev own : Costed
      own = own_cast r p.origin (mesh_of a p) (tree_of_part a p)

      part_suffices : s.spent + own.spent ≤ limit → cast_part r a limit s p ≡ own_part r a s p
      unfolding cast_part own_part
      part_suffices k =
          ap (after_part s) (part_limited (limit - s.spent) r p.origin (mesh_of a p) (tree_of_part a p) h ∙ limited_within
          (limit - s.spent) own (omega arith))

      part_used : limit < s.spent + own.spent → cast_part r a limit s p ≡ used s
      unfolding cast_part
      part_used k =
          let c : cast_moved (limit - s.spent) r p.origin (mesh_of a p) (tree_of_part a p) ≡ costing (limit - s.spent)
          (stopped limit_reached) =
          part_limited (limit - s.spent) r p.origin (mesh_of a p) (tree_of_part a p) h ∙ limited_past (limit - s.spent) own
          (omega arith) in
          let d : s.spent + (limit - s.spent) ≡ limit = omega arith in
          ap (after_part s) c ∙ after_begun s (costing (limit - s.spent) (stopped limit_reached)) begun ∙ rw
          (d, stopped_next s.found s.part limit_reached begun) refl

      own_begun : own_part r a s p ≡ extended s own
      unfolding own_part
      own_begun = after_begun s own begun

    pub parts_limited : (s : Progress) (ps : List Part) → s.spent ≤ limit → Limited (own_parts r a s ps) (cast_parts r a limit s ps)
    unfolding own_parts cast_parts
    parts_limited s [] l = record { suffices = λ k. refl; used_up = λ k. absurd (omega arith); within = l }
    parts_limited s (p ∷ ps) l = go (is_refused s.found) refl
        (leb (s.spent + (own_cast r p.origin (mesh_of a p) (tree_of_part a p)).spent) limit) refl
        (λ (x : Progress) (k : x.spent ≤ limit). parts_limited x ps k)
      where
        refused_before : is_refused s.found ≡ true
            → Limited (own_parts r a (own_part r a s p) ps) (cast_parts r a limit (cast_part r a limit s p) ps)
        refused_before e =
            let f = own_refused s (p ∷ ps) e in
            let g = cast_refused limit s (p ∷ ps) e in
            rw (f, g) (record { suffices = λ k. refl; used_up = λ k. absurd (omega arith); within = l })

        go : (b : Bool) → is_refused s.found ≡ b → (d : Bool)
            → leb (s.spent + (own_cast r p.origin (mesh_of a p) (tree_of_part a p)).spent) limit ≡ d
            → ((x : Progress) → x.spent ≤ limit → Limited (own_parts r a x ps) (cast_parts r a limit x ps))
            → Limited (own_parts r a (own_part r a s p) ps) (cast_parts r a limit (cast_part r a limit s p) ps)
        go true e d f ih = refused_before e
        go false e true f ih =
            let k = leb-true (s.spent + (own_cast r p.origin (mesh_of a p) (tree_of_part a p)).spent) limit f in
            rw (part_suffices s p e l k) (ih (own_part r a s p) (rw (own_begun s p e l) k))
        go false e false f ih =
            let k = leb-false (s.spent + (own_cast r p.origin (mesh_of a p) (tree_of_part a p)).spent) limit f in
            let past : limit < (own_parts r a (own_part r a s p) ps).spent = omega (
              arith,
              k,
              own_grows (own_part r a s p) ps,
              ap
                  (λ (x : Progress). x.spent) (own_begun s p e l),
            ) in
            rw (part_used s p e l k, cast_refused limit (used s) ps refl)
            (record { suffices = λ q. absurd (omega arith); used_up = λ q. refl; within = omega arith })
