-- The laws of legal logs, for the proofs of those who use them.
use Rattle.core_state.specs.Bullets.{BulletsHold}
use Rattle.core_state.specs.Standing.{DocumentsHold, CommitsHold}
use Rattle.core_state.specs.Steady.{SteadyHold}
use Rattle.core_state.specs.PagesTold.{PagesHold}
use Rattle.core_state.specs.RecordKeeps.{RecordsKeep}
use Rattle.core_state.specs.PendingSteps.{LinkedIsIndexed, PutIsInFront, OthersKeepRows}
use Rattle.core_state.proofs.Law.AllCases.{all_steps}
use Rattle.core_state.proofs.Law.BulletsLogs.{bullets_hold_by}
use Rattle.core_state.proofs.Law.Standing as standing
use Rattle.core_state.proofs.Law.SteadyLogs.{all_steady}
use Rattle.core_state.proofs.Law.PagesTold.{pages_hold}
use Rattle.core_state.proofs.Law.RecordKeeps as keeps
use Rattle.core_state.proofs.Law.NowIndexed as now
use Rattle.core_state.proofs.Law.CommitsIndexed as commit
use Rattle.core_state.proofs.Law.PutsInFront as front
use Rattle.core_state.proofs.Law.OtherRows as rows

pub bullets : BulletsHold
bullets = bullets_hold_by all_steps

pub documents : DocumentsHold
documents = standing.documents_hold all_steps

pub commits_hold : CommitsHold
commits_hold R legal = commit.commits_indexed R legal.valid

pub steady : SteadyHold
steady = all_steady

pub pages : PagesHold
pages = pages_hold all_steps

pub records : RecordsKeep
records = keeps.records_keep all_steps

pub linked_indexed : LinkedIsIndexed
linked_indexed = now.linked_indexed all_steps

pub put_in_front : PutIsInFront
put_in_front = front.put_in_front all_steps

pub others_keep_rows : OthersKeepRows
others_keep_rows = rows.others_keep_rows all_steps
