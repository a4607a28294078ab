-- What holds of the documents of a pin's snapshot.
use Rattle.std.proofs.Common.{◌≡◌, take}
use Rattle.core_state.specs.Log.{Log, In}
use Rattle.core_state.specs.History.{Document, History, IsHistory, docs}
use Rattle.core_state.specs.Legal.{IsLegal, Pin, Keeps}
use Rattle.core_state.proofs.SnapshotOrder.{RiseBy, serial_of, docs_rise, one_there}

pub record PinLaws (R : Log) (pin : Pin) (H : History) : Type 0 where
  pub one_serial : (d e : Document) → In d (docs (take pin.commits H)) → In e (docs (take pin.commits H))
      → d.name.serial ≡ e.name.serial → d ≡ e
  pub rise : RiseBy serial_of (docs (take pin.commits H))

pub pin_laws : (R : Log) (pin : Pin) (H : History) → IsLegal R → Keeps R pin → IsHistory R H → PinLaws R pin H
pin_laws R pin H legal keeps history = record {
  one_serial = one_there R H pin.commits legal history;
  rise = docs_rise R H pin.commits legal history;
}
