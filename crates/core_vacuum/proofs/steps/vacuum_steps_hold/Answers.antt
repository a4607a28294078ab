use Rattle.core_vacuum.proofs.Logging.{remove_items_may, delete_post_may, drop_page_may, free_slots_may}
use Rattle.core_vacuum.proofs.steps.vacuum_steps_hold.Goals as goal

pub returns-clause-remove_items : goal.returns-clause-remove_items
returns-clause-remove_items c = remove_items_may

pub returns-clause-delete_post : goal.returns-clause-delete_post
returns-clause-delete_post c = delete_post_may

pub returns-clause-drop_page : goal.returns-clause-drop_page
returns-clause-drop_page c = drop_page_may

pub returns-clause-free_slots : goal.returns-clause-free_slots
returns-clause-free_slots c = free_slots_may
