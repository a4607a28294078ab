-- What a step draws after a state of the log, and the record that is made of it.
use Rattle.std.specs.Prelude.{◌≢◌, ℕ, suc, ◌<◌, ◌^◌, List, [], length, map}
use Rattle.std.specs.List.{AllByRecursion}
use Rattle.page_types.specs.Numbers.{page_limit}
use Rattle.page_types.specs.Keys.{Rising}
use Rattle.page_types.specs.Pages.{IsPage}
use Rattle.page_types.specs.Records.{IsKind}
use Rattle.page_types.specs.declared.page.Body.TheVariants as body
use Rattle.page_types.specs.declared.record.Change.{Change}
use Rattle.page_types.specs.declared.record.Kind.{Kind}
use Rattle.page_types.specs.declared.record.Kind.TheVariants as kind
use Rattle.page_types.specs.declared.record.Record.{Record}
use Rattle.core_state.specs.Allowed.{Sheet, Step, sheet_pages, made_by}
use Rattle.core_state.specs.States.{StateValue}
use Rattle.buffer_frames.specs.First.{imaged}
use Rattle.buffer_frames.specs.declared.step.Drawn.{Drawn}

-- the page has a number and an encoding, and isn't a free one
pub record IsSheet (x : Sheet) : Type 0 where
  pub page : x.page < page_limit
  pub content : IsPage x.content
  pub used : x.content.body ≢ body.Free

-- The step has an encoding, whatever it draws.
pub record HasEncoding (s : Step) : Type 0 where
  pub kind : IsKind s.kind
  pub few : length s.after < 2 ^ 8
  pub each : AllByRecursion IsSheet s.after
  pub once : Rising (λ (p q : ℕ). p ≢ q) (sheet_pages s.after)

-- a kind, with the commit number or the serial that it draws
abbrev pub kind_by : StateValue → Kind → Kind
kind_by s (kind.Commit n) = kind.Commit (suc (length s.deleted))
kind_by s (kind.PlaceHead item serial) = kind.PlaceHead item s.next_serial
kind_by s k = k

-- the xid of a record of this kind; a Begin draws it
abbrev pub xid_by : StateValue → Kind → ℕ → ℕ
xid_by s kind.Begin xid = suc (length s.fates)
xid_by s k xid = xid

-- the xid, commit number or serial that is drawn; 0 where none is
abbrev pub value_by : StateValue → Kind → ℕ
value_by s kind.Begin = suc (length s.fates)
value_by s (kind.Commit n) = suc (length s.deleted)
value_by s (kind.PlaceHead item serial) = s.next_serial
value_by s k = 0

-- what is drawn
abbrev pub drawn_by : StateValue → Kind → Drawn
drawn_by s k = record { number = suc s.records; value = value_by s k }

-- the record of a step, without its changes
abbrev pub front_of : StateValue → Step → Record
front_of s step = record {
  number = suc s.records;
  xid = xid_by s step.kind step.xid;
  kind = kind_by s step.kind;
  changes = [];
}

-- a page as a record makes it
abbrev pub made_sheet : Record → Sheet → Sheet
made_sheet r x = record { page = x.page; content = made_by r x.content }

abbrev pub made_sheets : Record → List Sheet → List Sheet
made_sheets r xs = map (made_sheet r) xs

-- pages by their images
abbrev pub images_of : List Sheet → List Change
images_of xs = map (λ (x : Sheet). imaged x.page x.content) xs

-- the record of a step after a state: each page that it leaves is written as an image
abbrev pub record_of : StateValue → Step → Record
record_of s step =
    record (front_of s step) { changes = images_of (made_sheets (front_of s step) step.after) }
