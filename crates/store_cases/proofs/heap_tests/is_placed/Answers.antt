use Rattle.store_cases.proofs.heap_tests.is_placed.Goals as goal

pub place-requires : goal.place-requires
place-requires c = c.requires.fits
