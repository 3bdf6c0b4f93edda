-- What is promised of the limit holds. Assumes nothing.
use Prim.Native.Nat.{ℕ, ◌≤◌, ◌<◌}
use mathlib.Core.Path.{◌≡◌, refl, sym, ap, ◌∙◌}
use mathlib.Core.Bool.{Bool, true, false, ◌&&◌, cond, true≢false}
use mathlib.Core.List.{List}
use native.Mathlib.Omega.{arith}
use borrow.Author.Tests.{leb-true, leb-false, le-leb, ltb-true}
use lib.Dec.{leb, ltb}
use lib.Ieee.{Float}
use Rattle.vectors.specs.declared.vec3.Vec3.{Vec3}
use Rattle.geometry.specs.Segment.{ray_admitted}
use Rattle.geometry.specs.declared.ray.Ray.{Ray}
use Rattle.casts.specs.Answer.{invalid_input, bad_shape, no_room, limit_reached}
use Rattle.lists.proofs.JoinedTests.{and_both, and_first, and_second}
use Rattle.cabinet.specs.declared.part.Part.{Part}
use Rattle.cabinet.specs.Found.{Found, Nothing, Hit, Refused, Progress}
use Rattle.cabinet.specs.Parts.{Areas, shape_fits, room_fits}
use Rattle.cabinet.specs.Cabinet.{Answer, hit_in, none_after, refused, refused_after, answer_with, answer_of, beginning, cast_parts}
use Rattle.cabinet.specs.Cabinet.{own_parts, all_parts, cast_cabinet}
use Rattle.cabinet.specs.Promises.{spent_of, nodes_of, AllChecked, Passes, needed, answer_at, LimitPromises}
use Rattle.cabinet.specs.Promises.{LimitsHold}
use Rattle.cabinet.proofs.Limits.{Limited, parts_limited}
use Rattle.cabinet.proofs.Numbers.{of_part, plain_found, parts_plain}
use Rattle.cabinet.proofs.Alone.{own_nearest, own_parts_few}

-- a hit or a none
abbrev is_settled : Answer → Bool
is_settled (hit_in part triangle normal distance spent) = true
is_settled (none_after spent) = true
is_settled (refused number) = false
is_settled (refused_after number spent) = false

answer_spent : (f : Found) (spent : ℕ) → spent_of (answer_with f spent) ≡ spent
answer_spent Nothing spent = refl
answer_spent (Hit part index normal distance) spent = refl
answer_spent (Refused number) spent = refl

-- whether an answer is no refusal with 10
abbrev not_ten : Answer → Bool
not_ten (refused_after number spent) = of_part number
not_ten (refused number) = true
not_ten (none_after spent) = true
not_ten (hit_in part triangle normal distance spent) = true

answer_plain : (f : Found) (spent : ℕ) → not_ten (answer_with f spent) ≡ plain_found f
answer_plain Nothing spent = refl
answer_plain (Hit part index normal distance) spent = refl
answer_plain (Refused number) spent = refl

-- refusals 1, 2 and 3 come before the first part, and from it on a number above them that is at most the limit's
abbrev pub returned_apart : Answer → Bool
returned_apart (refused number) = leb number no_room
returned_apart (refused_after number spent) = ltb no_room number && leb number limit_reached
returned_apart (none_after spent) = true
returned_apart (hit_in part triangle normal distance spent) = true

found_apart : (f : Found) (spent : ℕ) → plain_found f ≡ true → returned_apart (answer_with f spent) ≡ true
found_apart Nothing spent e = refl
found_apart (Hit part index normal distance) spent e = refl
found_apart (Refused number) spent e =
    let above = and_first (ltb no_room number) (ltb number limit_reached) e in
    let below = ltb-true number limit_reached (and_second (ltb no_room number) (ltb number limit_reached) e) in
    and_both (ltb no_room number) (leb number limit_reached) above (le-leb number limit_reached (omega (arith, below)))

module _ (r : Ray) (a : Areas) (list stack : ℕ) (parts : List Part) (p : Passes r a list stack parts) where
  passed : (limit : ℕ) → answer_at r a list stack parts limit ≡ answer_of (cast_parts r a limit beginning parts)
  unfolding cast_cabinet
  passed limit = simp (p.ray, p.shapes, p.rooms)

  bound : (limit : ℕ) → Limited r a p.ray limit (own_parts r a beginning parts) (cast_parts r a limit beginning parts)
  bound limit = parts_limited r a p.ray limit beginning parts (omega arith)

  enough : (limit : ℕ) → needed r a list stack parts ≤ limit → answer_at r a list stack parts limit ≡ answer_of
      (own_parts r a beginning parts)
  enough limit h = passed limit ∙ ap answer_of ((bound limit).suffices h)

  short : (limit : ℕ) → limit < needed r a list stack parts → answer_at r a list stack parts limit ≡ refused_after limit_reached limit
  short limit h = passed limit ∙ (bound limit).used_up h

  settled_stays : (limit more : ℕ) → limit ≤ more → is_settled (answer_at r a list stack parts limit) ≡ true
      → answer_at r a list stack parts more ≡ answer_at r a list stack parts limit
  settled_stays limit more l s = go (leb (needed r a list stack parts) limit) refl
    where
      go : (b : Bool) → leb (needed r a list stack parts) limit ≡ b
          → answer_at r a list stack parts more ≡ answer_at r a list stack parts limit
      go true e =
          let h = leb-true (needed r a list stack parts) limit e in
          enough more (omega arith) ∙ sym (enough limit h)
      go false e =
          let h = leb-false (needed r a list stack parts) limit e in
          absurd (true≢false (sym s ∙ ap is_settled (short limit h)))

  only_short : (limit spent : ℕ) → answer_at r a list stack parts limit ≡ refused_after limit_reached spent
      → limit < needed r a list stack parts
  only_short limit spent e = go (leb (needed r a list stack parts) limit) refl
    where
      go : (b : Bool) → leb (needed r a list stack parts) limit ≡ b → limit < needed r a list stack parts
      go false f = leb-false (needed r a list stack parts) limit f
      go true f =
          let own : answer_of (own_parts r a beginning parts) ≡ refused_after limit_reached spent = sym
          (enough limit (leb-true (needed r a list stack parts) limit f)) ∙ e in
          let p' = parts_plain r a beginning parts refl in
          absurd (true≢false (sym p' ∙ sym (answer_plain (own_parts r a beginning parts).found (own_parts r a beginning parts).spent) ∙
          ap not_ten own))

  apart_past : (limit : ℕ) → returned_apart (answer_of (cast_parts r a limit beginning parts)) ≡ true
  apart_past limit = go (leb (needed r a list stack parts) limit) refl
    where
      go : (b : Bool) → leb (needed r a list stack parts) limit ≡ b → returned_apart (answer_of (cast_parts r a limit beginning parts))
          ≡ true
      go true e =
          ap (λ (s : Progress). returned_apart (answer_of s)) ((bound limit).suffices (leb-true (needed r a list stack parts) limit e))
          ∙ found_apart (own_parts r a beginning parts).found (needed r a list stack parts) (parts_plain r a beginning parts refl)
      go false e = ap returned_apart ((bound limit).used_up (leb-false (needed r a list stack parts) limit e))

  few : AllChecked a parts → needed r a list stack parts ≤ nodes_of parts
  few c = omega (arith, own_parts_few r a list stack beginning parts c)

  pub promises : LimitPromises r a list stack parts
  promises = record {
    suffices = enough;
    used_up = short;
    only_used_up = only_short;
    spent_within =
        λ (limit : ℕ). omega (
          arith,
          (bound limit).within,
          answer_spent (cast_parts r a limit beginning parts).found
              (cast_parts r a limit beginning parts).spent,
          ap spent_of (passed limit),
        );
    hit_stays =
        λ (limit more part triangle : ℕ) (normal : Vec3) (distance : Float) (spent : ℕ) (l : limit ≤ more) e. settled_stays limit more
        l (ap is_settled e) ∙ e;
    none_stays = λ (limit more spent : ℕ) (l : limit ≤ more) e. settled_stays limit more l (ap is_settled e) ∙ e;
    each_alone =
        λ (limit : ℕ) (l : needed r a list stack parts ≤ limit).
        enough limit l
        ∙ ap (λ (f : Found). answer_with f (needed r a list stack parts)) (own_nearest r a list stack p.ray beginning parts
        p.shapes p.rooms);
    needs_few = few;
  }

pub limits_hold : LimitsHold
limits_hold = promises

pub returned_apart_lem : (r : Ray) (a : Areas) (list stack limit : ℕ) (parts : List Part)
    → returned_apart (cast_cabinet r a list stack limit parts) ≡ true
unfolding cast_cabinet
returned_apart_lem r a list stack limit parts = go (ray_admitted r) refl (all_parts (shape_fits a) parts) refl
    (all_parts (room_fits a list stack) parts)
    refl
  where
    go : (b : Bool) → ray_admitted r ≡ b → (c : Bool) → all_parts (shape_fits a) parts ≡ c → (d : Bool)
        → all_parts (room_fits a list stack) parts ≡ d
        → returned_apart (cond b (cond c (cond d (answer_of (cast_parts r a limit beginning parts)) (refused no_room)) (refused bad_shape))
        (refused invalid_input)) ≡ true
    go true e true f true g = apart_past r a list stack parts (record { ray = e; shapes = f; rooms = g }) limit
    go true e true f false g = refl
    go true e false f d g = refl
    go false e c f d g = refl
