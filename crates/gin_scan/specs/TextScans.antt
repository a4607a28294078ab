-- Scans for text queries.
use Rattle.std.specs.Prelude.{◌≡◌}
use Rattle.gin_opclass.specs.Class.{meaning}
use Rattle.ts_query.specs.Queries.{Query}
use Rattle.ts_match.specs.Meaning.{Holds}
use Rattle.ts_match.specs.Judging.{judged}
use Rattle.ts_match.specs.Class.{asked_of, reads_all}
use Rattle.ts_match.specs.Plan.{plan_of}
use Rattle.gin_scan.specs.Scanning.{AsksFor}
use Rattle.gin_scan.specs.declared.scan.Scan.{Scan}

-- the scan asks the keys of the query, and its work is made for it
pub record IsFor (q : Query) (s : Scan) : Type 0 where
  pub query : s.query.now ≡ q
  pub asks : AsksFor (meaning asked_of reads_all Holds judged) q s.core
  pub work : s.work ≡ plan_of q
