-- Files that open, seen by an opening.
use Rattle.std.proofs.Common.{ℕ, ◌<◌, [], get_or}
use Rattle.disk_trait.specs.Files.{Files}
use Rattle.buffer_frames.proofs.FirstLogs.{empty_opens}
use Rattle.buffer_frames.proofs.LogFiles.{opens_is_store}
use Rattle.engine.specs.Finding.{History}
use Rattle.engine.specs.Opening.{OpensTo, IsNoStore, NoStoreIsNone}

pub no_refusal : NoStoreIsNone → (files : Files) (H : History) → ((i : ℕ) → get_or files.log i 0 < 256)
    → OpensTo files H → IsNoStore files → ⊥
no_refusal none files H bytes o refused = (none files bytes).0 refused o.records (opens_is_store files H o)

pub none_opens : OpensTo (record { log = []; pages = [] }) []
none_opens = empty_opens
