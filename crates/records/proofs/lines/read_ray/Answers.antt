use Rattle.std.proofs.Common.{ap, ◌∙◌}
use Rattle.records.specs.Shapes.{ray_by}
use Rattle.records.proofs.Reading.{rays_within, ray_read}
use Rattle.records.proofs.lines.read_ray.Goals as goal

pub read_floats-requires : goal.read_floats-requires
read_floats-requires c = rays_within c.args.form c.ray_count.ensures c.requires

pub returns : goal.returns
returns c = c.ray_by.ensures ∙ (ap ray_by c.read_floats.ensures ∙ ray_read c.args.form _ c.ray_count.ensures)
