-- No page of a lawful store is bad, so none was before.
use Rattle.std.proofs.Common.{◌∙◌, List}
use Rattle.disk_trait.specs.declared.device.Disk.{Ghosts as Disk}
use Rattle.page_types.specs.declared.record.Record.{Record}
use Rattle.engine.specs.Answers.{MeetsNoBadPage}
use Rattle.engine.specs.Db.{DbValue}
use Rattle.engine.specs.Going.{Goes, MetNoFault}
use Rattle.engine.specs.declared.error.DbError.{DbError}
use Rattle.engine.specs.declared.error.DbError.TheVariants.{NoDocument, Conflict, StoreFull, LogFull, XidsSpent, Down}
use Rattle.engine.specs.declared.error.DbError.TheVariants.{DiskFault, BadPage, OutOfMemory}
use Rattle.engine.proofs.Growing.{stays_for}
use Rattle.engine.proofs.Logs.{AreNoCommits}

module _ {D : Type 0} (device : Disk D) (old mid : DbValue D) where
  -- what the refusal of a later call tells, after steps that commit nothing and meet no fault
  pub no_bad_before : {rs : List Record} → Goes device old mid rs → AreNoCommits rs → MetNoFault device old mid
      → (e : DbError) → MeetsNoBadPage device mid e → MeetsNoBadPage device old e
  no_bad_before path none met (BadPage p) not = λ tells found H f up.
      not tells found H (stays_for device tells path none found H f) (met.down ∙ up)
  no_bad_before path none met DiskFault not = tt
  no_bad_before path none met OutOfMemory not = tt
  no_bad_before path none met NoDocument not = tt
  no_bad_before path none met (Conflict x) not = tt
  no_bad_before path none met StoreFull not = tt
  no_bad_before path none met LogFull not = tt
  no_bad_before path none met XidsSpent not = tt
  no_bad_before path none met (Down f) not = tt
