-- A text copied is stored.
use Rattle.record_text.proofs.Storing.{put_copied}
use Rattle.record_text.proofs.text.put_text.Goals as goal

pub returns : goal.returns
returns c = put_copied c.args.out.now c.copy_from_slice.new.self c.args.text.now c.args.at c.requires c.copy_from_slice.ensures.after
