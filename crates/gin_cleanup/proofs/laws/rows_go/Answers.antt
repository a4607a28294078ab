use Rattle.core_state.proofs.LawsHold.{pages}
use Rattle.gin_cleanup.proofs.StillRows.{still_begins, row_there, still_grows, still_goes, still_ends}
use Rattle.gin_cleanup.proofs.laws.rows_go.Goals as goal

pub returns : goal.returns
returns c = record {
  begins = λ R P legal shown line on. still_begins P line (row_there R P (pages R P legal shown).list line on) on;
  grows = still_grows;
  goes = still_goes;
  ends = still_ends;
}
