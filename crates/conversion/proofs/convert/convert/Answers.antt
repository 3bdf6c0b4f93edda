-- A refusal for each check, in their order, or the record written.
use Rattle.std.proofs.Common.{sym, ◌∙◌, arith}
use Rattle.record_bytes.specs.Plans.{Known}
use Rattle.record_bytes.proofs.PlanLaws.{known, sizes}
use Rattle.conversion.proofs.ConvertLaws.{malformed, no_room, unrepresentable, done, size_for_lem}
use Rattle.conversion.proofs.Representable.{representable_fits_said}
use Rattle.conversion.proofs.convert.convert.Goals as goal

pub returns-in_default : goal.returns-in_default
returns-in_default c = malformed c.args.p c.args.q c.args.source.now c.args.out.now (sym c.in_default.ensures)

pub body_length-body-requires : goal.body_length-body-requires
body_length-body-requires c =
    let k : Known c.args.p c.args.source.now c.in-Some.plan = known _ _ _ (sym c.in-Some.ensures) in
    let z = sizes _ _ _ k in
    (z.few, (omega (arith, z.small), omega (arith, z.small)))

pub returns-then-out-body : goal.returns-then-out-body
returns-then-out-body c =
    let k : Known c.args.p c.args.source.now c.in-Some.plan = known _ _ _ (sym c.in-Some.ensures) in
    no_room _ _ _ _ _ c.requires k _ (size_for_lem _ _ _ c.body_length-body.ensures.0) c.if-out-body.true

pub is_representable-requires : goal.is_representable-requires
is_representable-requires c = known _ _ _ (sym c.in-Some.ensures)

pub returns-then-not-is_representable : goal.returns-then-not-is_representable
returns-then-not-is_representable c =
    let k : Known c.args.p c.args.source.now c.in-Some.plan = known _ _ _ (sym c.in-Some.ensures) in
    unrepresentable _ _ _ _ _ c.requires k _ (size_for_lem _ _ _ c.body_length-body.ensures.0) c.if-out-body.false
    (sym c.is_representable.ensures ∙ c.if-not-is_representable.true)

pub write-requires : goal.write-requires
write-requires c =
    let k : Known c.args.p c.args.source.now c.in-Some.plan = known _ _ _ (sym c.in-Some.ensures) in
    let passed = sym c.is_representable.ensures ∙ c.if-not-is_representable.false in
    (k, ((size_for_lem _ _ _ c.body_length-body.ensures.0, c.if-out-body.false), (representable_fits_said c.args.q _ passed, c.requires)))

pub returns : goal.returns
returns c =
    let k : Known c.args.p c.args.source.now c.in-Some.plan = known _ _ _ (sym c.in-Some.ensures) in
    done _ _ _ _ _ c.requires k _ c.write.new.out (size_for_lem _ _ _ c.body_length-body.ensures.0) c.if-out-body.false
    (sym c.is_representable.ensures ∙ c.if-not-is_representable.false) c.write.ensures
