-- Stores are not refused.
use Rattle.disk_trait.specs.Files.{Files}
use Rattle.core_state.specs.Log.{Log}
use Rattle.buffer_frames.specs.NoStore.{IsStoreOf, IsNoStore}

-- files of which records count and can be applied are not refused as none
abbrev pub StoresAreKnown : Type 0
StoresAreKnown = (files : Files) (R : Log) → IsStoreOf files R → IsNoStore files → ⊥
