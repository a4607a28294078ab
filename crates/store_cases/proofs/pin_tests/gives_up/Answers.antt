use Rattle.store_cases.proofs.Places.{stays_taken}
use Rattle.store_cases.proofs.pin_tests.gives_up.Goals as goal

pub unpin-requires : goal.unpin-requires
unpin-requires c = stays_taken _ _ _ _ _ _ _ c.pin-given.ensures.free c.pin-given.ensures.pinned c.pin-kept.ensures.free
    c.pin-kept.ensures.pinned
