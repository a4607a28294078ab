-- A sweep after a leaf of a posting tree.
use Rattle.std.proofs.Common.{◌≡◌, ◌≢◌, ◌<◌, ◌+◌, ◌*◌, ◌-◌, ◌^◌, ℕ, suc, List, [], length, sym, ap}
use Rattle.std.proofs.Common.{subst}
use Rattle.std.proofs.Common.{Bool, arith}
use Rattle.std.specs.Prelude.{Some, None}
use Rattle.std.specs.Option.{unwrap_or}
use Rattle.page_types.specs.Pages.{IsPage, IsBody}
use Rattle.core_state.specs.Log.{Log, Pages, Shows}
use Rattle.core_state.specs.Allowed.{Sheet}
use Rattle.core_state.specs.Index.{Below}
use Rattle.core_state.specs.Legal.{IsLegal}
use Rattle.core_state.specs.TreeRules.{IsRoot}
use Rattle.core_vacuum.specs.Entries.{EntriesHold}
use Rattle.core_vacuum.specs.Leaves.{LeavesHold}
use Rattle.gin_place.specs.Stepping.{reads_left, most_reads}
use Rattle.gin_vacuum.specs.Inner.Reading.{IsReadPosts, body_after}
use Rattle.gin_vacuum.specs.Inner.Sweeping.{HasNextTree, GoesPast, HasGoneOn}
use Rattle.gin_vacuum.specs.Stepping.{steps_left, below_left, above_left}
use Rattle.gin_vacuum.specs.Sweeping.{IsAt, HasHigh}
use Rattle.gin_vacuum.specs.declared.deleting.Empty.{Empty}
use Rattle.gin_vacuum.specs.declared.sweeping.ReadPosts.{ReadPosts}
use Rattle.gin_vacuum.specs.declared.sweeping.Sweeping.{Sweeping}
use Rattle.gin_vacuum.specs.declared.sweeping.Stage.{Stage}
use Rattle.gin_vacuum.specs.declared.sweeping.Stage.TheVariants as stage
use Rattle.gin_vacuum.proofs.Cleaned.{IsLeftAs}
use Rattle.gin_vacuum.proofs.PostsNext.{past_next, parent_next, past_most, most_after}
use Rattle.gin_vacuum.proofs.TreesStay.{tree_root}

-- the leaf at work is one of a tree
pub post_there : (P : Pages) (dead : List ℕ) (m : Sweeping) (root before page held : ℕ)
    → m.stage ≡ stage.Posts root before page → held ≡ page → IsAt P dead m m.stage
    → (r : ℕ) × IsRoot P r × Below P r held
post_there P dead m root before page held is number at =
    let a = subst (IsAt P dead m) is at in (
      root,
      tree_root P dead m.roots.items m.next m.link m.left root a.0,
      subst (Below P root) (sym number) a.1.0,
    )

next_high : (old new : Sweeping) → HasNextTree old new → HasHigh new.stage
next_high old _ (HasNextTree.tree root get) = tt
next_high old _ (HasNextTree.leaf all on) = tt
next_high old _ (HasNextTree.done all end) = tt

pub past_high : (root before link : ℕ) (old new : Sweeping) → GoesPast root before link old new → HasHigh new.stage
past_high root before link old _ (GoesPast.leaf on) = tt
past_high root before link old _ (GoesPast.tree new end next) = next_high old new next

module _ (dead : List ℕ) (m : Sweeping) (root before page extent left : ℕ) (is : m.stage ≡ stage.Posts root before page)
    (held : Sheet) (number : held.page ≡ page) (read : ReadPosts) (x : IsReadPosts dead held.content read) where
  abbrev leaf : Empty
  leaf = record { root = root; before = before; page = page; high = read.high; link = read.link }

  abbrev gone : Sweeping
  gone = record m { left_below = Some left }

  module _ (S : Log) (P : Pages) (some : S ≢ []) (legal : IsLegal S) (shown : Shows S P) (leaves : LeavesHold)
      (entries : EntriesHold) (e : suc left ≡ unwrap_or m.left_below extent) (at : IsAt P dead m m.stage)
      (then : IsLeftAs held read.cleaned P) where
    abbrev at_posts : IsAt P dead m (stage.Posts root before page)
    at_posts = subst (IsAt P dead m) is at

    abbrev content : (P page).body ≡ body_after held.content read.cleaned
    content = subst (λ (n : ℕ). (P n).body ≡ body_after held.content read.cleaned) number then.0

    abbrev right : (P page).right ≡ held.content.right
    right = subst (λ (n : ℕ). (P n).right ≡ held.content.right) number then.1

    abbrev parent_at : ℕ → Sweeping
    parent_at link = record gone {
      stage =
          stage.Parent (record { root = root; before = before; page = page; high = read.high; link = link }) root None;
    }

    pub gone_next : (new : Sweeping) → HasGoneOn leaf read.is_empty gone new → IsAt P dead new new.stage
    gone_next _ (HasGoneOn.parent empty not_last) =
        subst (λ (n : ℕ). IsAt P dead (parent_at n) (parent_at n).stage) (sym x.link)
        (parent_next S P some legal shown leaves entries dead m root before page extent left e at_posts held.content
        read.cleaned x.cleaned content right read.high x.list x.leaf not_last (x.empty.0 empty))
    gone_next _ (HasGoneOn.past new past) =
        past_next S P some legal shown leaves entries dead m root before page extent left e at_posts held.content
        read.cleaned x.cleaned content right new
        (subst (λ (n : ℕ). GoesPast root page n gone new) x.link past)

  pub gone_high : IsPage held.content → (new : Sweeping) → HasGoneOn leaf read.is_empty gone new → HasHigh new.stage
  gone_high is_page _ (HasGoneOn.parent empty not_last) =
      let ends = (subst (IsBody held.content.right held.content.stamp) x.leaf is_page.body).0 in
      (omega (arith, not_last), ends.item)
  gone_high is_page _ (HasGoneOn.past new past) = past_high root page read.link gone new past

-- ── how many steps are left ──

steps_at : (m : Sweeping) (root before page : ℕ) → m.stage ≡ stage.Posts root before page
    → steps_left m ≡ most_after m (reads_left m.left_below)
steps_at m root before page is =
    let e = ap (λ (t : Stage). ((reads_left m.left * 2 ^ 16 + (length m.roots.items - m.next)) * most_reads
    + below_left m t) * most_reads + above_left t) is in
    omega (arith, e)

-- on the way down a tree
pub below_lower : (m : Sweeping) (root page left : ℕ) → m.stage ≡ stage.TreeDown root page
    → left < reads_left m.left_below → most_after m left < steps_left m
below_lower m root page left is low =
    let e = ap (λ (t : Stage). ((reads_left m.left * 2 ^ 16 + (length m.roots.items - m.next)) * most_reads
    + below_left m t) * most_reads + above_left t) is in
    omega (arith, e, low)

pub gone_lower : (m new : Sweeping) (root before page left : ℕ) (leaf : Empty) (empty : Bool)
    → m.stage ≡ stage.Posts root before page → left < reads_left m.left_below
    → HasGoneOn leaf empty (record m { left_below = Some left }) new → steps_left new < steps_left m
gone_lower m _ root before page left leaf empty is low (HasGoneOn.parent e not_last) =
    let s = steps_at m root before page is in omega (arith, s, low)
gone_lower m _ root before page left leaf empty is low (HasGoneOn.past new past) =
    let s = steps_at m root before page is in
    let most = past_most leaf.root leaf.page leaf.link (record m { left_below = Some left }) new past in
    omega (arith, s, low, most)
