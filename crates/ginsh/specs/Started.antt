-- What the program starts from, and what it runs.
use Rattle.std.specs.Prelude.{◌≡◌, List, String}
use Rattle.std.specs.declared.alloc.Global.{Global}
use Rattle.disk_trait.specs.declared.device.Disk.{Ghosts as Disk}
use Rattle.disk_trait.specs.declared.stream.Source.{Ghosts as Source}
use Rattle.disk_trait.specs.declared.stream.Sink.{Ghosts as Sink}
use Rattle.shell_run.specs.RunMeets.{RunMeets}
use Rattle.shell_run.specs.declared.top.Outcome.{Outcome}
use Rattle.disk_file.specs.FileDisk.{faults_of, write_faults_of, HasNoneOpen}
use Rattle.disk_file.specs.declared.disk.FileDisk.{FileDisk}
use Rattle.disk_file.specs.declared.host.HostFolder.{Ghosts as HostFolder}
use Rattle.disk_file.specs.declared.streams.StdSource.{StdSource}
use Rattle.disk_file.specs.declared.streams.StdSink.{StdSink}

-- a source over this reader that has not failed
pub record IsFrom {R : Type 0} (script : StdSource R) (reader : R) : Type 0 where
  pub over : script.reader ≡ reader
  pub no_fault : script.faults ≡ 0

-- a sink over this writer that has not failed
pub record IsInto {W : Type 0} (out : StdSink W) (writer : W) : Type 0 where
  pub over : out.writer ≡ writer
  pub no_fault : out.faults ≡ 0

-- a device over the files of this folder that has opened none of them, and whose calls have not failed
pub record IsNewDisk {F H : Type 0} {host : HostFolder F H} (disk : FileDisk F H host) (folder : F)
    : Type 0 where
  pub over : disk.opened.folder ≡ folder
  pub closed : HasNoneOpen disk
  pub no_fault : (faults_of disk ≡ 0) × (write_faults_of disk ≡ 0)

-- a run by these words, from this reader to this writer, over the files of this folder, none of which was opened before
pub record RunsOver {F H I O : Type 0} {host : HostFolder F H} (source : Source (StdSource I)) (sink : Sink (StdSink O))
    (device : Disk (FileDisk F H host)) (words : List (String Global)) (folder : F) (reader : I) (writer : O)
    (r : Outcome (StdSource I) (StdSink O) (FileDisk F H host)) : Type 0 where
  pub script : StdSource I
  pub out : StdSink O
  pub disk : FileDisk F H host
  pub from : IsFrom script reader
  pub into : IsInto out writer
  pub new : IsNewDisk disk folder
  pub meets : RunMeets source sink device words script out disk r
