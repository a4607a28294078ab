use Rattle.shell_run.proofs.NextRun.{opens_is_no_refusal, empty_may_start, next_may_start, next_has_all}
use Rattle.shell_run.proofs.laws.next_run.Goals as goal

pub returns : goal.returns
returns g c = record {
  opens = opens_is_no_refusal c.no_store_is_none.ensures;
  empty = empty_may_start g.D.Disk;
  may_start = next_may_start g.D.Disk g.E.Disk c.opens_to_one.ensures;
  has_all = next_has_all g.D.Disk g.E.Disk c.opens_to_one.ensures;
}
