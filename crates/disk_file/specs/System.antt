-- The state of a folder of which nothing is said.
use Rattle.std.specs.Prelude.{⊤, [], true}
use Rattle.disk_file.specs.Folder.{FolderState}

abbrev pub untold : FolderState
untold = record {
  seen = record { log = []; pages = [] };
  clock = 0;
  image = λ _ _. ⊤;
  errors = 0;
  has = λ _. true;
  names = λ _. true;
}
