-- What the first two bytes of a page say: the kind of a live page, or of a deleted one, and what goes with it.
use Rattle.std.specs.Prelude.{ℕ, zero, suc, Bool, true, ◌&&◌, List, [], ◌∷◌, Option, Some, None, nat_le, nat_lt, ◌==◌}
use Rattle.std.specs.Prelude.{if◌then◌else◌}
use Rattle.std.specs.List.{slice_get}
use Rattle.page_types.specs.Numbers.{page_limit, most_slots}
use Rattle.page_code.specs.declared.form.Form.{Form}
use Rattle.page_code.specs.declared.form.Form.TheVariants.{Free, Meta, Heap, Overflow, Pending, EntryLeaf, EntryInner}
use Rattle.page_code.specs.declared.form.Form.TheVariants.{PostLeaf, PostInner, GoneOverflow, GonePending, GonePostLeaf}

-- the kind of a deleted page
abbrev pub deleted_kind : ℕ
deleted_kind = 9

-- the kinds of live pages in the order of their numbers
abbrev pub live_forms : List Form
live_forms = Free ∷ Meta ∷ Heap ∷ Overflow ∷ Pending ∷ EntryLeaf ∷ EntryInner ∷ PostLeaf ∷ PostInner ∷ []

-- what a deleted page was, by the number of that kind
abbrev pub gone_forms : List (Option Form)
gone_forms = None ∷ None ∷ None ∷ Some GoneOverflow ∷ Some GonePending ∷ None ∷ None ∷ Some GonePostLeaf ∷ []

abbrev pub joined_option : Option (Option Form) → Option Form
joined_option None = None
joined_option (Some form) = form

-- the form of a page of this kind, which was of that kind before its deletion, 0 where it is live
abbrev pub live_form : ℕ → ℕ → Option Form
live_form kind zero = slice_get live_forms kind
live_form kind (suc was) = None

abbrev pub form_with : ℕ → ℕ → Option Form
form_with kind was = if kind == deleted_kind then joined_option (slice_get gone_forms was) else live_form kind was

-- how many slots, rows, entries, children or items a page of this form may have
abbrev pub count_fits : Form → ℕ → Bool
count_fits Free n = n == 0
count_fits Meta n = n == 0
count_fits Heap n = nat_le n most_slots
count_fits Overflow n = n == 0
count_fits EntryInner n = nat_lt 0 n
count_fits PostInner n = nat_lt 0 n
count_fits GoneOverflow n = n == 0
count_fits _ n = true

-- a free page has no right link and no stamp
abbrev pub fits_free : Form → ℕ → Bool
fits_free Free n = n == 0
fits_free _ n = true

abbrev pub right_fits : Form → ℕ → Bool
right_fits form right = nat_lt right page_limit && fits_free form right
