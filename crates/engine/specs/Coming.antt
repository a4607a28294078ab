-- How a search comes to a page that it can't use.
use Rattle.std.specs.Prelude.{[], ⊤}
use Rattle.disk_trait.specs.declared.device.Disk.{Ghosts as Disk}
use Rattle.ts_query.specs.Queries.{Query}
use Rattle.ts_match.specs.Meaning.{Holds}
use Rattle.ts_match.specs.Judging.{judged}
use Rattle.ts_match.specs.Class.{asked_of, reads_all}
use Rattle.gin_opclass.specs.Class.{meaning}
use Rattle.gin_scan.specs.Reaching.{IsBadOnPath}
use Rattle.engine.specs.Db.{DbValue}
use Rattle.engine.specs.Going.{Goes}
use Rattle.engine.specs.declared.error.DbError.{DbError}
use Rattle.engine.specs.declared.error.DbError.TheVariants.{BadPage}

-- Nothing was logged until a search for the query came to the page; it is on the way that the search takes from
-- the metapage, as pages lie in memory then, and has not what it has to have there.
abbrev pub ComesToBadPage : {D : Type 0} → Disk D → DbValue D → Query → DbError → Type 0
ComesToBadPage {D} device old q (BadPage p) =
    (s : DbValue D) × Goes device old s [] × IsBadOnPath (meaning asked_of reads_all Holds judged) q s.frames p
ComesToBadPage device old q e = ⊤
