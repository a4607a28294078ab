-- A device over files: its folder, its counts, and which files it has opened.
use Rattle.std.specs.Prelude.{◌≡◌, ◌⊎◌, ℕ, None, Result, IsErr}
use Rattle.disk_trait.specs.Device.{last_count, HasCause, CountsFailures}
use Rattle.disk_trait.specs.Schedules.{HasRisen}
use Rattle.disk_file.specs.Folder.{FolderState}
use Rattle.disk_file.specs.declared.disk.FileDisk.{FileDisk}
use Rattle.disk_file.specs.declared.host.HostFolder.{Ghosts as HostFolder}

module _ {F H : Type 0} {host : HostFolder F H} where
  -- what its folder holds
  abbrev pub folder_of : FileDisk F H host → FolderState
  folder_of d = host.state d.opened.folder

  -- how often a call has failed
  abbrev pub faults_of : FileDisk F H host → ℕ
  faults_of d = d.counts.faults

  -- how often a write or a sync has failed
  abbrev pub write_faults_of : FileDisk F H host → ℕ
  write_faults_of d = d.counts.writes

  -- no call has opened a file
  abbrev pub HasNoneOpen : FileDisk F H host → Type 0
  HasNoneOpen d = (d.opened.log ≡ None) × (d.opened.pages ≡ None)

  -- a count is at its last number
  abbrev pub IsAtLast : FileDisk F H host → Type 0
  IsAtLast d = (faults_of d ≡ last_count) ⊎ (write_faults_of d ≡ last_count)

  -- The call failed, and nothing of the folder was called, where a count was at its last number.
  abbrev pub FailsAtLast : {T E : Type 0} → FileDisk F H host → FileDisk F H host → Result T E
      → Type 0
  FailsAtLast old new result = IsAtLast old → IsErr result × (new.opened ≡ old.opened)

  -- A call that asks counts a fault where it failed, and no fault of a write.
  pub record CountsAsking {T E : Type 0} (old new : FileDisk F H host) (result : Result T E)
      : Type 0 where
    pub cause : HasCause (faults_of old) (faults_of new) result
    pub writes : write_faults_of new ≡ write_faults_of old
    pub counted : HasRisen (faults_of old) (faults_of new) result
    pub last : FailsAtLast old new result

  -- A call that writes counts a fault where it failed, and one of a write too.
  pub record CountsWriting {T E : Type 0} (old new : FileDisk F H host) (result : Result T E)
      : Type 0 where
    pub cause : HasCause (faults_of old) (faults_of new) result
    pub writes : CountsFailures (write_faults_of old) (write_faults_of new) result
    pub counted : HasRisen (faults_of old) (faults_of new) result
    pub counted_write : HasRisen (write_faults_of old) (write_faults_of new) result
    pub last : FailsAtLast old new result
