-- The lowest unused page, after each change.
use Rattle.std.proofs.Common.{◌≡◌, ◌≢◌, ◌≤◌, nat_lt, ℕ, Bool, true, false, cond, ◌==◌, List, [], ◌∷◌, get_or, sym, ◌∙◌}
use Rattle.std.proofs.Common.{inl, inr, arith}
use Rattle.std.specs.Prelude.{if◌then◌else◌}
use Rattle.page_types.specs.Numbers.{page_limit}
use Rattle.page_types.specs.declared.record.Change.{Change}
use Rattle.core_state.specs.Changes.{IsNew}
use Rattle.core_state.specs.States.{kind_byte, edited_use, with_use, uses_after}
use Rattle.core_state.specs.Inner.Lowest.{AreUsedBelow}
use Rattle.core_state.specs.declared.answers.PageUse.{PageUse}
use Rattle.core_state.specs.declared.answers.PageUse.TheVariants as usage
use Rattle.core_state.proofs.PutLists.{put_here, put_else}
use Rattle.core_state.proofs.RunningOnes.{same_or_other}

pub use_in_either : (b : Bool) (number : ℕ) → cond b (usage.Deleted number) usage.Used ≢ usage.Unused
use_in_either true number e = cc
use_in_either false number e = cc

used_put : (us : List PageUse) (p q : ℕ) (u : PageUse) → u ≢ usage.Unused → get_or us q usage.Unused ≢ usage.Unused
    → get_or (with_use p u us) q usage.Unused ≢ usage.Unused
used_put us p q u new old e = elim (same_or_other q p) [
  | inl f ↦ new (cc (put_here usage.Unused us p u))
  | inr d ↦ old (sym (put_else usage.Unused us p q u d) ∙ e)
]

used_either : (b : Bool) (us : List PageUse) (p q : ℕ) (u : PageUse) → u ≢ usage.Unused
    → get_or us q usage.Unused ≢ usage.Unused
    → get_or (if b then with_use p u us else us) q usage.Unused ≢ usage.Unused
used_either true us p q u new old = used_put us p q u new old
used_either false us p q u new old = old

-- no change makes a page unused
used_after : (number : ℕ) (cs : List Change) (us : List PageUse) (q : ℕ) → get_or us q usage.Unused ≢ usage.Unused
    → get_or (uses_after number cs us) q usage.Unused ≢ usage.Unused
used_after number [] us q old = old
used_after number (c ∷ cs) us q old =
    used_after number cs (if nat_lt c.page page_limit then with_use c.page (edited_use number c.edit) us else us) q
    (used_either (nat_lt c.page page_limit) us c.page q (edited_use number c.edit)
    (use_in_either (kind_byte c.edit == 9) number) old)

pub used_below_after : (number : ℕ) (cs : List Change) (us : List PageUse) (p : ℕ) → AreUsedBelow us p
    → AreUsedBelow (uses_after number cs us) p
used_below_after number cs us p below q l = used_after number cs us q (below q l)

-- a deleted page is new exactly where its stamp is old enough
pub deleted_back : (us : List PageUse) (since p stamp : ℕ) → get_or us p usage.Unused ≡ usage.Deleted stamp
    → IsNew (λ q. get_or us q usage.Unused) since p → stamp ≤ since
deleted_back us since p stamp is (IsNew.unused e none) = absurd (cc)
deleted_back us since p stamp is (IsNew.deleted old e at) = let same : old ≡ stamp = cc in omega (arith, same, at)
