use Rattle.std.proofs.lemmas.Result.{on_ok_weaker}
use Rattle.wal.proofs.Born.{created_settled}
use Rattle.wal.proofs.Paging.{kept_from}
use Rattle.wal.proofs.log.Wal.create.Goals as goal

pub returns-clause-settled : goal.returns-clause-settled
returns-clause-settled g c = λ told. on_ok_weaker c.write_header.result (λ is. created_settled g.D.Disk _ is)
    (c.write_header.ensures.stands told)

pub returns-clause-keeps_pages : goal.returns-clause-keeps_pages
returns-clause-keeps_pages g c = λ told. kept_from g.D.Disk _ _ _ (c.write_header.ensures.any_moment told)
