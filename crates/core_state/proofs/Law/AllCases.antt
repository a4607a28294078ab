-- The step of the invariant over each record of a legal log.
use Rattle.core_state.proofs.Law.Steps.{Cases, StepHolds}
use Rattle.core_state.proofs.Law.OneStep.{step_holds}
use Rattle.core_state.proofs.Law.Create.{create_case}
use Rattle.core_state.proofs.Law.SamePages.{begin_case, commit_case, abort_case, checkpoint_case}
use Rattle.core_state.proofs.Law.DocumentCases.{place_head_case, put_overflow_case, mark_deleted_case, put_pending_case}
use Rattle.core_state.proofs.Law.DocumentCases.{drop_page_case, free_slots_case}
use Rattle.core_state.proofs.Law.AddRow.{add_row_case}
use Rattle.core_state.proofs.Law.LinkPending.{link_pending_case}
use Rattle.core_state.proofs.Law.Shift.{shift_case}
use Rattle.core_state.proofs.Law.AddItems.{add_items_case}
use Rattle.core_state.proofs.Law.MakeTree.{make_tree_case}
use Rattle.core_state.proofs.Law.AddPostings.{add_postings_case}
use Rattle.core_state.proofs.Law.GrowRoot.{grow_root_case}
use Rattle.core_state.proofs.Law.SplitPage.{split_case}
use Rattle.core_state.proofs.Law.RemoveItems.{remove_items_case}
use Rattle.core_state.proofs.Law.DeletePost.{delete_post_case}

pub all_cases : Cases
all_cases = record {
  create = create_case;
  begin = begin_case;
  commit = commit_case;
  abort = abort_case;
  checkpoint = checkpoint_case;
  place_head = place_head_case;
  put_overflow = put_overflow_case;
  mark_deleted = mark_deleted_case;
  put_pending = put_pending_case;
  add_row = add_row_case;
  link_pending = link_pending_case;
  shift = shift_case;
  add_items = add_items_case;
  make_tree = make_tree_case;
  add_postings = add_postings_case;
  grow_root = grow_root_case;
  split = split_case;
  remove_items = remove_items_case;
  delete_post = delete_post_case;
  drop_page = drop_page_case;
  free_slots = free_slots_case;
}

pub all_steps : StepHolds
all_steps = step_holds all_cases
