use Rattle.std.proofs.Common.{rules}
use Rattle.gin_cleanup.proofs.cleanup.Cleanup.read_again.Goals as goal

pub returns : goal.returns
returns c = record { few = search rules; turned = c.read_from.ensures }
