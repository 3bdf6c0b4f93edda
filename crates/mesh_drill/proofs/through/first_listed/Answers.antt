-- `mesh_drill::through::first_listed` meets its contract. Assumes nothing.
use Rattle.std.proofs.Common.{Ok, sym, ap, ◌∙◌, arith}
use Rattle.std.proofs.lemmas.Result.{err_from_is_err_and}
use Rattle.mesh.proofs.Folding.{listed_below}
use Rattle.mesh_drill.specs.Drilling.{says_drill}
use Rattle.mesh_drill.proofs.Listings.{listing_begins, listing_goes, listing_touched, listing_refused, listing_ends}
use Rattle.mesh_drill.proofs.through.first_listed.Goals as goal

pub loop-i-init : goal.loop-i-init
loop-i-init c = λ l ρ h g. listing_begins _ _ _

pub drilled_at-requires : goal.drilled_at-requires
drilled_at-requires c = (omega (arith, listed_below _ _ c.requires.0.0 _ _ c.requires.0.1 c.loop-i-test.true), c.requires.1)

-- clear
pub loop-i-preserved : goal.loop-i-preserved
loop-i-preserved c =
    λ m ρ h g.
    listing_goes _ _ _ c.requires.0.0 c.loop-i.i (c.loop-i.invariant m ρ h g) c.loop-i-test.true
    (sym (ap says_drill (c.in_ok-index.was ∙ ap Ok c.in_default.is)) ∙ c.drilled_at.ensures m ρ h g)

-- touched
pub returns-in-Some : goal.returns-in-Some
returns-in-Some c =
    λ m ρ h g.
    listing_touched _ _ _ c.requires.0.0 c.loop-i.i (c.loop-i.invariant m ρ h g) c.loop-i-test.true _
    (sym (ap says_drill (c.in_ok-index.was ∙ ap Ok c.in-Some.is)) ∙ c.drilled_at.ensures m ρ h g)

-- a refusal
pub returns-in_err-index : goal.returns-in_err-index
returns-in_err-index c =
    let p = err_from_is_err_and c.from_residual.result c.from_residual.ensures.1 in
    λ m ρ h g.
    rw (p.1, p.2) (listing_refused _ _ _ c.requires.0.0 c.loop-i.i (c.loop-i.invariant m ρ h g) c.loop-i-test.true _
    (sym (ap says_drill c.in_err-index.was) ∙ c.drilled_at.ensures m ρ h g))

pub returns : goal.returns
returns c = λ m ρ h g. listing_ends _ _ _ c.requires.0.0 c.loop-i.i (c.loop-i.invariant m ρ h g) (omega arith)
