-- The state of a legal log says of it.
use Rattle.std.proofs.Common.{◌≡◌, ◌≢◌, ap, refl, ◌∙◌}
use Rattle.std.specs.Prelude.{None}
use Rattle.core_state.specs.Log.{fate}
use Rattle.core_state.specs.States.{StateFollows, done_by}
use Rattle.core_state.specs.declared.transactions.Transaction.{Transaction}
use Rattle.core_state.specs.declared.answers.Fate.{Fate}
use Rattle.core_state.specs.declared.answers.Fate.TheVariants.{Unused, Running, Aborted, Committed}
use Rattle.core_state.proofs.Following.{kept, kept_by}
use Rattle.core_state.proofs.LivesFollow.{heaps_told, lives_told}
use Rattle.core_state.proofs.PageSizes.{sizes_told}
use Rattle.core_state.proofs.PageUses.{uses_told}
use Rattle.core_state.proofs.PlacedNames.{placed_rise}

pub state_told : StateFollows
state_told pages xid_limit R l =
    let k = kept pages xid_limit R l.valid in
    record {
      records = k.records;
      fates = k.fates;
      next_xid = k.next_xid_is;
      next_serial = k.next_serial_is;
      redo = k.redo_is;
      commits = k.commits_are;
      deleted = k.deleted;
      inserted = k.inserted;
      heaps = heaps_told pages xid_limit R l.valid;
      lives = lives_told pages xid_limit R l.valid;
      running = λ x e. k.running x ∙ ap (λ (f : Fate). kept_by f (done_by R x)) e;
      not_running = λ x off. k.running x ∙ not_kept (fate R x) (done_by R x) off;
      placed_rise = placed_rise R l.valid;
      uses = uses_told pages xid_limit R l.valid;
      sizes = sizes_told pages xid_limit R l.valid;
    }
  where
    not_kept : (f : Fate) (t : Transaction) → f ≢ Running → kept_by f t ≡ None
    not_kept Unused t off = refl
    not_kept Running t off = absurd (off refl)
    not_kept Aborted t off = refl
    not_kept (Committed n) t off = refl
