use Rattle.shell_run.proofs.Traces.{none_stored_after_failure, none_committed_after_failure, no_clock_falls}
use Rattle.shell_run.proofs.Traces.{no_flush_is_late, no_flush_is_owed, no_commit_is_early, no_commit_is_late}
use Rattle.shell_run.proofs.Traces.{each_failure_is_noted, one_count_is_told, nothing_is_printed_with_4}
use Rattle.shell_run.proofs.Traces.{no_name_is_taken_twice, none_runs_after_the_sink_failed, no_half_script_is_run}
use Rattle.shell_run.proofs.Traces.{no_log_is_wiped, no_stray_file_is_written, no_store_is_written_unrun}
use Rattle.shell_run.proofs.Traces.{no_page_is_written, no_commit_is_left_out, none_is_replaced_unseen}
use Rattle.shell_run.proofs.laws.ruled_out.Goals as goal

pub returns : goal.returns
returns g c = record {
  stored_after_failure = none_stored_after_failure;
  committed_after_failure = none_committed_after_failure;
  clock_falls = no_clock_falls g.D.Disk;
  late_flush = no_flush_is_late g.D.Disk;
  owed_flush = no_flush_is_owed g.D.Disk;
  early = no_commit_is_early;
  late = no_commit_is_late;
  left_out = no_commit_is_left_out;
  unseen = none_is_replaced_unseen;
  unnoted = each_failure_is_noted;
  two_counts = one_count_is_told;
  printed_with_4 = nothing_is_printed_with_4;
  taken_twice = no_name_is_taken_twice;
  after_the_sink = none_runs_after_the_sink_failed;
  half_a_script = no_half_script_is_run g.S.Source g.K.Sink g.D.Disk;
  wiped = no_log_is_wiped g.K.Sink g.D.Disk;
  stray = no_stray_file_is_written g.K.Sink g.D.Disk;
  unrun = no_store_is_written_unrun g.K.Sink g.D.Disk;
  page_written = no_page_is_written g.K.Sink g.D.Disk;
}
