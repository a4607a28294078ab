-- The refusals of pages in memory, as those of placing.
use Rattle.buffer_frames.specs.declared.frame_error.FrameError.{FrameError}
use Rattle.buffer_frames.specs.declared.frame_error.FrameError.TheVariants as frames
use Rattle.buffer_frames.specs.declared.log_error.LogError.{LogError}
use Rattle.buffer_frames.specs.declared.log_error.LogError.TheVariants as logs
use Rattle.gin_place.specs.declared.error.PlaceError.{PlaceError}
use Rattle.gin_place.specs.declared.error.PlaceError.TheVariants.{DiskFault, LogFull, Down, BadPage, OutOfMemory}

abbrev pub frame_refusal : FrameError → PlaceError
frame_refusal frames.DiskFault = DiskFault
frame_refusal (frames.Down f) = Down f
frame_refusal (frames.BadPage p) = BadPage p
frame_refusal frames.OutOfMemory = OutOfMemory

abbrev pub log_refusal : LogError → PlaceError
log_refusal logs.DiskFault = DiskFault
log_refusal logs.LogFull = LogFull
log_refusal (logs.Down f) = Down f
log_refusal logs.XidsSpent = OutOfMemory
log_refusal logs.OutOfMemory = OutOfMemory
