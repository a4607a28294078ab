use Rattle.gin_cleanup.proofs.NextPages.{next_begins, next_is_there, next_follows, next_stays}
use Rattle.gin_cleanup.proofs.laws.pages_follow.Goals as goal

pub returns : goal.returns
returns c = record { begins = next_begins; there = next_is_there; follows = next_follows; stays = next_stays }
