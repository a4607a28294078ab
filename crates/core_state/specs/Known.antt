-- What the rules ask of a log beside the pages that a record changes and the index: what the state
-- of a log can answer.
use Rattle.std.specs.Prelude.{ℕ, length}
use Rattle.page_types.specs.declared.page.Body.{Body}
use Rattle.page_types.specs.declared.page.Body.TheVariants as body
use Rattle.core_state.specs.Log.{Log, Pages, commits, next_xid, next_serial, fate, redo_of}
use Rattle.core_state.specs.declared.answers.Fate.{Fate}
use Rattle.core_state.specs.declared.answers.PageUse.{PageUse}
use Rattle.core_state.specs.declared.answers.PageUse.TheVariants as usage

-- the use of a page with this stamp and this content
abbrev pub use_by : ℕ → Body → PageUse
use_by stamp body.Free = usage.Unused
use_by stamp (body.Deleted gone) = usage.Deleted stamp
use_by stamp _ = usage.Used

-- the use of each page
abbrev pub use_in : Pages → ℕ → PageUse
use_in P p = use_by (P p).stamp (P p).body

-- how many records and commits there are, the fate of each xid, the numbers that are drawn next,
-- the last redo number, and the use of each page
pub record Known : Type 0 where
  pub records : ℕ
  pub commits : ℕ
  pub fates : ℕ → Fate
  pub next_xid : ℕ
  pub next_serial : ℕ
  pub redo : ℕ
  pub uses : ℕ → PageUse

-- what is known of a log and its pages
abbrev pub known : Log → Pages → Known
known R P = record {
  records = length R;
  commits = commits R;
  fates = fate R;
  next_xid = next_xid R;
  next_serial = next_serial R;
  redo = redo_of R;
  uses = use_in P;
}
