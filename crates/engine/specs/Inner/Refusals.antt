-- The refusals of the journal, of pages in memory and of a cleanup as those of the store.
use Rattle.buffer_frames.specs.declared.log_error.LogError.{LogError}
use Rattle.buffer_frames.specs.declared.log_error.LogError.TheVariants as logs
use Rattle.buffer_frames.specs.declared.frame_error.FrameError.{FrameError}
use Rattle.buffer_frames.specs.declared.frame_error.FrameError.TheVariants as frames
use Rattle.gin_place.specs.declared.error.PlaceError.{PlaceError}
use Rattle.gin_place.specs.declared.error.PlaceError.TheVariants as places
use Rattle.engine.specs.declared.error.DbError.{DbError}
use Rattle.engine.specs.declared.error.DbError.TheVariants as store

abbrev pub log_refusal : LogError → DbError
log_refusal logs.DiskFault = store.DiskFault
log_refusal logs.LogFull = store.LogFull
log_refusal (logs.Down fault) = store.Down fault
log_refusal logs.XidsSpent = store.XidsSpent
log_refusal logs.OutOfMemory = store.OutOfMemory

abbrev pub frame_refusal : FrameError → DbError
frame_refusal frames.DiskFault = store.DiskFault
frame_refusal (frames.Down fault) = store.Down fault
frame_refusal (frames.BadPage page) = store.BadPage page
frame_refusal frames.OutOfMemory = store.OutOfMemory

abbrev pub place_refusal : PlaceError → DbError
place_refusal places.StoreFull = store.StoreFull
place_refusal places.DiskFault = store.DiskFault
place_refusal places.LogFull = store.LogFull
place_refusal (places.Down fault) = store.Down fault
place_refusal (places.BadPage page) = store.BadPage page
place_refusal places.OutOfMemory = store.OutOfMemory
