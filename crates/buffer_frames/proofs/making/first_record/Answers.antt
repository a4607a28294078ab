use Rattle.std.proofs.Common.{◌≡◌, rules, List, sym, subst}
use Rattle.std.specs.Prelude.{All}
use Rattle.page_types.specs.Pages.{IsPage}
use Rattle.core_state.specs.Allowed.{Sheet}
use Rattle.buffer_frames.specs.First.{first_sheets}
use Rattle.buffer_frames.proofs.DrawnRecords.{all_from}
use Rattle.buffer_frames.proofs.FirstLogs.{first_are_pages}
use Rattle.buffer_frames.proofs.making.first_record.Goals as goal

pub images-requires : goal.images-requires
images-requires c =
    let is : c.deref.result.now ≡ first_sheets = search rules in
    subst (λ (xs : List Sheet). All (λ (x : Sheet). IsPage x.content) xs) (sym is)
    (all_from (λ (x : Sheet). IsPage x.content) first_sheets first_are_pages)
