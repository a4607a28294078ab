-- The first logs of a store.
use Rattle.std.proofs.Common.{◌≡◌, ◌<◌, ℕ, zero, suc, List, [], ◌∷◌, length, refl, sym, ap}
use Rattle.std.proofs.Common.{subst, ◌∙◌, inl, inr, arith}
use Rattle.std.specs.List.{AllByRecursion}
use Rattle.page_types.specs.Numbers.{page_limit}
use Rattle.page_types.specs.Pages.{IsPage}
use Rattle.page_types.specs.Records.{IsChange, IsRecord}
use Rattle.page_types.specs.Edits.{edited, CanEdit}
use Rattle.page_types.specs.Views.{free_page}
use Rattle.page_types.specs.declared.page.Page.{Page}
use Rattle.page_types.specs.declared.page.Body.TheVariants as body
use Rattle.page_types.specs.declared.record.Change.{Change}
use Rattle.page_types.specs.declared.record.Edit.{Edit}
use Rattle.page_types.specs.declared.record.Record.{Record}
use Rattle.page_types.specs.declared.record.Kind.TheVariants as kind
use Rattle.page_types.proofs.PageLaws.{has_parts}
use Rattle.core_state.specs.Log.{Log, Pages, In, Shows, commits, after_changes, replay}
use Rattle.core_state.specs.Allowed.{Sheet}
use Rattle.core_state.specs.Legal.{RuleHolds, Valid, IsImageOf, RecordsAreValid, IsLegal}
use Rattle.core_state.proofs.Showing.{replay_kept, none_yet, free_is, shown_none}
use Rattle.core_state.proofs.Worked.{meta_is, root_is}
use Rattle.buffer_frames.specs.First.{imaged, first_page, first_record, first_sheets}
use Rattle.buffer_frames.specs.Opens.{IsEarlyKind}
use Rattle.buffer_frames.specs.Inner.LogFiles.{AreEarly, EmptyIsLog, FirstIsLog, EmptyOpens}
use Rattle.buffer_frames.proofs.LogFiles.{empty_stands}

-- the change is an image that can be made to all bytes
pub imaged_is : (page : ℕ) (content : Page) (c : Change) → c ≡ imaged page content → IsImageOf c
imaged_is page content c e = (_, ap (λ (x : Change). x.edit) e)

pub can_image : (c : Change) (old : List ℕ) → IsImageOf c → CanEdit c.edit old
can_image c old i = subst (λ (e : Edit). CanEdit e old) (sym i.1) tt

pub imaged_fits : (page : ℕ) (content : Page) → page < page_limit → IsPage content
    → IsChange content.stamp (imaged page content)
imaged_fits page content small is =
    let parts = has_parts content is in
    record { page = small; edit = record { size = parts.size; stamp = parts.stamp } }

-- no record of an early log is a checkpoint
no_checkpoint : (R : Log) (r : Record) (redo : ℕ) → AreEarly R → In r R → r.kind ≡ kind.Checkpoint redo → ⊥
no_checkpoint R r redo early i e = subst IsEarlyKind e (early r i)

-- one record more after the log
pub early_more : (R : Log) (r : Record) → AreEarly R → IsEarlyKind r.kind → AreEarly (r ∷ R)
early_more R r early e s (inl same) = subst (λ (x : Record). IsEarlyKind x.kind) (sym same) e
early_more R r early e s (inr i) = early s i

pub legal_more : (R : Log) (r : Record) → IsLegal R → AreEarly (r ∷ R) → Valid R r (commits R) (suc (length R))
    → ((c : Change) → In c r.changes → IsImageOf c) → IsLegal (r ∷ R)
legal_more R r l early v images = record {
  valid = (l.valid, v);
  images = (l.images, λ c i low. inr (images c i));
  redo_images = λ s redo i e. absurd (no_checkpoint (r ∷ R) s redo early i e);
}

-- the pages that a legal log shows
pub shown_by : (R : Log) → RecordsAreValid R → (P : Pages) × Shows R P
shown_by [] v = (none_yet, shown_none)
shown_by (r ∷ R) v = (v.1.after, v.1.shown_after)

-- a record without changes shows the same
pub shown_on : (R : Log) (r : Record) (P : Pages) → r.changes ≡ [] → Shows R P → Shows (r ∷ R) P
unfolding replay
shown_on R r P e shown p = (
  (shown p).0,
  (shown p).1 ∙ sym (ap (λ cs. after_changes r.number cs p (replay R p)) e),
)

pub empty_is_log : EmptyIsLog
empty_is_log = record {
  legal = record { valid = tt; images = tt; redo_images = λ r redo i k. absurd i };
  history = refl;
  early = λ r i. absurd i;
}

-- the pages that the first record leaves
abbrev pub made : Pages
made zero = first_page (body.Meta 0 0 0)
made (suc zero) = first_page (body.EntryLeaf [] [])
made (suc (suc p)) = free_page

behind_two : (p : ℕ) → In (suc (suc p)) (0 ∷ 1 ∷ []) → ⊥
behind_two p (inl e) = omega (arith, e)
behind_two p (inr (inl e)) = omega (arith, e)
behind_two p (inr (inr e)) = absurd e

pub shown_made : Shows (first_record ∷ []) made
unfolding replay edited
shown_made zero = (meta_is, refl)
shown_made (suc zero) = (root_is, refl)
shown_made (suc (suc p)) =
    (free_is, (shown_none (suc (suc p))).1 ∙ sym (replay_kept [] first_record (suc (suc p)) (behind_two p)))

pub first_is_record : IsRecord first_record
first_is_record = record {
  number = omega arith;
  xid = omega arith;
  kind = tt;
  count = omega arith;
  changes = (
    imaged_fits 0 (first_page (body.Meta 0 0 0)) (omega arith) meta_is,
    (imaged_fits 1 (first_page (body.EntryLeaf [] [])) (omega arith) root_is, tt),
  );
  once = (((λ e. omega (arith, e)), tt), (tt, tt));
}

first_images : (c : Change) → In c first_record.changes → IsImageOf c
first_images c (inl e) = imaged_is 0 (first_page (body.Meta 0 0 0)) c e
first_images c (inr (inl e)) = imaged_is 1 (first_page (body.EntryLeaf [] [])) c e
first_images c (inr (inr e)) = absurd e

first_valid : Valid [] first_record 0 1
first_valid = record {
  before = none_yet;
  after = made;
  shown = shown_none;
  shown_after = shown_made;
  is_record = first_is_record;
  can_edit = λ c i. can_image c (replay [] c.page) (first_images c i);
  number = refl;
  started = inl refl;
  rule = RuleHolds.create (record { here = record { kind_is = refl; pages = refl; empty = refl; after_is = refl } });
}

pub first_is_log : FirstIsLog
first_is_log =
    let early : AreEarly (first_record ∷ []) = early_more [] first_record empty_is_log.early tt in
    record {
      legal = legal_more [] first_record empty_is_log.legal early first_valid first_images;
      history = refl;
      early = early;
    }

pub empty_opens : EmptyOpens
empty_opens = record {
  records = [];
  counted = record {
    batches = [];
    opens = inl (inl (omega arith), refl);
    records = record { lists = []; each = tt; log_is = refl; numbered = tt };
  };
  log_of = empty_is_log;
  pages = empty_stands [] [] empty_is_log;
}

pub first_are_pages : AllByRecursion (λ (x : Sheet). IsPage x.content) first_sheets
first_are_pages = (meta_is, (root_is, tt))
