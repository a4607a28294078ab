use Rattle.std.proofs.Common.{◌≡◌, take}
use Rattle.disk_trait.specs.Events.{content, until}
use Rattle.disk_trait.proofs.memory.MemoryFile.content_after.Given as goal

abbrev pub invariant-loop-event : goal.invariant-loop-event
invariant-loop-event l =
    l.now.items ≡ content l.self.first.items (until l.moment (take l.event-index l.self.events.items))
