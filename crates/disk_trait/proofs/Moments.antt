-- What one call does to the past of a file in memory, and so to what a crash may have left.
use Rattle.std.proofs.Common.{◌≡◌, ◌⊎◌, ℕ, ◌+◌, ◌≤◌, Bool, true, false, leb, List, [], ◌∷◌, ◌++◌, length, refl, sym, ap}
use Rattle.std.proofs.Common.{◌∙◌, subst, arith, inl, inr, ⊎_elim}
use Rattle.std.proofs.lemmas.Bool.Decides.{nat_tests}
use Rattle.disk_trait.specs.Files.{overwritten}
use Rattle.disk_trait.specs.Device.{Torn, Elapses}
use Rattle.disk_trait.specs.Events.{changed, content, LeavesAfter, Images, until, newest, LeftAt}
use Rattle.disk_trait.specs.Inner.Standing.{content_left, until_all}
use Rattle.disk_trait.specs.Inner.Pushed.{event, IsSameFile, HasWritten, HasSynced}
use Rattle.disk_trait.specs.MemoryDisk.{image_of}
use Rattle.disk_trait.proofs.Growing.{content-push}
use Rattle.disk_trait.proofs.Replaying.{images_on, until_off}
use Rattle.disk_trait.specs.declared.past.Change.TheVariants.{Write, Sync}
use Rattle.disk_trait.specs.declared.past.Event.{Event}
use Rattle.disk_trait.specs.declared.memory.MemoryFile.{MemoryFile}
use Rattle.disk_trait.specs.declared.disk.MemoryDisk.{MemoryDisk}

until_push : (m : ℕ) (es : List Event) (e : Event) → newest es ≤ m → e.moment ≤ m
    → until m (es ++ e ∷ []) ≡ es ++ e ∷ []
until_push m [] e new le = let yes : leb e.moment m ≡ true = grind (arith, nat_tests) in rw yes refl
until_push m (x ∷ es) e new le = let yes : leb x.moment m ≡ true = grind (arith, nat_tests) in
    rw yes (ap (λ (l : List Event). x ∷ l) (until_push m es e (omega arith) le))

images_push : (es : List Event) (now : List ℕ) (may : List ℕ → Type 0) (e : Event) (c : List ℕ)
    → Images now may (es ++ e ∷ []) c → LeavesAfter e.change (content now es) (Images now may es) c
images_push [] now may e c left = left
images_push (x ∷ es) now may e c left = images_push es (changed x.change now) (LeavesAfter x.change now may) e c left

-- the images of a file that held `first`, after these events
abbrev After : List ℕ → List Event → List ℕ → Type 0
After first es c = Images first (λ d. d ≡ first) es c

after_same : (first first' : List ℕ) (es es' : List Event) (c : List ℕ) → first' ≡ first → es' ≡ es → After first' es' c
    → After first es c
after_same first first' es es' c f e left = subst (λ (p : List ℕ × List Event). After p.0 p.1 c) (λ i. (f i, e i)) left

-- a file that stays, or has one event more, of the next moment
pub record Grown (t : ℕ) (f f' : MemoryFile) : Type 0 where
  pub first : f'.first.items ≡ f.first.items
  pub way : (f'.events.items ≡ f.events.items)
      ⊎ ((e : Event) × (e.moment ≡ t + 1) × (f'.events.items ≡ f.events.items ++ e ∷ []))

same_past : (t m : ℕ) (f f' : MemoryFile) → Grown t f f' → m ≤ t → until m f'.events.items ≡ until m f.events.items
same_past t m f f' padded le = ⊎_elim (λ (same : f'.events.items ≡ f.events.items). ap (until m) same)
    (λ (w : (e : Event) × (e.moment ≡ t + 1) × (f'.events.items ≡ f.events.items ++ e ∷ [])). ap (until m) w.2
    ∙ until_off m f.events.items w.0 (omega (arith, w.1))) padded.way

past_is : (t m : ℕ) (f f' : MemoryFile) (c : List ℕ) → Grown t f f' → m ≤ t → LeftAt f'.first.items f'.events.items m c
    → LeftAt f.first.items f.events.items m c
past_is t m f f' c padded le left = after_same f.first.items f'.first.items (until m f.events.items)
    (until m f'.events.items) c padded.first (same_past t m f f' padded le) left

past_keeps : (t m : ℕ) (f f' : MemoryFile) (c : List ℕ) → Grown t f f' → m ≤ t → LeftAt f.first.items f.events.items m c
    → LeftAt f'.first.items f'.events.items m c
past_keeps t m f f' c padded le left = after_same f'.first.items f.first.items (until m f'.events.items)
    (until m f.events.items) c (sym padded.first) (sym (same_past t m f f' padded le)) left

-- time goes on
pub elapses : (d d' : MemoryDisk) → Grown d.schedule.calls d.log d'.log → Grown d.schedule.calls d.pages d'.pages
    → d.schedule.calls ≤ d'.schedule.calls → d'.schedule.calls ≤ d.schedule.calls + 1
    → Elapses d.schedule.calls d'.schedule.calls (image_of d) (image_of d')
elapses d d' log pages later next = record {
  later = later;
  past_is = λ m c le left. (
    past_is d.schedule.calls m d.log d'.log c.log log le left.0,
    past_is d.schedule.calls m d.pages d'.pages c.pages pages le left.1,
  );
  keeps = λ m c le left. (
    past_keeps d.schedule.calls m d.log d'.log c.log log le left.0,
    past_keeps d.schedule.calls m d.pages d'.pages c.pages pages le left.1,
  );
  one_moment =
      λ m c lt le left. let same : m ≡ d'.schedule.calls = omega arith in subst (λ k. image_of d' k c) same left;
}

pub grown_same : (t : ℕ) (f f' : MemoryFile) → IsSameFile f f' → Grown t f f'
grown_same t f f' same = record { first = same.0; way = inl same.1 }

-- a file that stays leaves what it could leave
pub same_leaves : (t t' : ℕ) (f f' : MemoryFile) (c : List ℕ) → IsSameFile f f' → newest f.events.items ≤ t → t ≤ t'
    → LeftAt f'.first.items f'.events.items t' c → LeftAt f.first.items f.events.items t c
same_leaves t t' f f' c same new le left =
    after_same f.first.items f'.first.items (until t f.events.items) (until t' f'.events.items) c same.0
    (ap (until t') same.1 ∙ until_all t' f.events.items (omega arith) ∙ sym (until_all t f.events.items new)) left

pub same_keeps : (t t' : ℕ) (f f' : MemoryFile) (c : List ℕ) → IsSameFile f f' → newest f.events.items ≤ t → t ≤ t'
    → LeftAt f.first.items f.events.items t c → LeftAt f'.first.items f'.events.items t' c
same_keeps t t' f f' c same new le left =
    after_same f'.first.items f.first.items (until t' f'.events.items) (until t f.events.items) c (sym same.0)
    (until_all t f.events.items new ∙ sym (until_all t' f.events.items (omega arith)) ∙ ap (until t') (sym same.1)) left

-- what is left of a file with one event more
pushed_leaves : (t : ℕ) (f f' : MemoryFile) (e : Event) (c : List ℕ) → f'.first.items ≡ f.first.items
    → f'.events.items ≡ f.events.items ++ e ∷ [] → e.moment ≡ t + 1 → newest f.events.items ≤ t
    → LeftAt f'.first.items f'.events.items (t + 1) c
    → LeavesAfter e.change (content f.first.items f.events.items) (After f.first.items f.events.items) c
pushed_leaves t f f' e c first events moment new left =
    images_push f.events.items f.first.items (λ d. d ≡ f.first.items) e c
    (after_same f.first.items f'.first.items (f.events.items ++ e ∷ []) (until (t + 1) f'.events.items) c first
    (ap (until (t + 1)) events ∙ until_push (t + 1) f.events.items e (omega arith) (omega (arith, moment))) left)

pushed_keeps : (t : ℕ) (f f' : MemoryFile) (e : Event) (c : List ℕ) → f'.first.items ≡ f.first.items
    → f'.events.items ≡ f.events.items ++ e ∷ [] → e.moment ≡ t + 1 → newest f.events.items ≤ t
    → LeavesAfter e.change (content f.first.items f.events.items) (After f.first.items f.events.items) c
    → LeftAt f'.first.items f'.events.items (t + 1) c
pushed_keeps t f f' e c first events moment new left =
    after_same f'.first.items f.first.items (until (t + 1) f'.events.items) (f.events.items ++ e ∷ []) c (sym first)
    (sym (ap (until (t + 1)) events ∙ until_push (t + 1) f.events.items e (omega arith) (omega (arith, moment))))
    (images_on f.events.items f.first.items (λ d. d ≡ f.first.items) e c left)

now_left : (t : ℕ) (f : MemoryFile) (c : List ℕ) → newest f.events.items ≤ t → After f.first.items f.events.items c
    → LeftAt f.first.items f.events.items t c
now_left t f c new left =
    subst (λ (l : List Event). After f.first.items l c) (sym (until_all t f.events.items new)) left

pub written_leaves : (t at : ℕ) (bytes : List ℕ) (done : Bool) (f f' : MemoryFile) (c : List ℕ) → HasWritten (t
    + 1) at bytes done f f' → newest f.events.items ≤ t → LeftAt f'.first.items f'.events.items (t + 1) c
    → (d : List ℕ) × LeftAt f.first.items f.events.items t d × Torn at (length bytes) d c
written_leaves t at bytes done f f' c wrote new left =
    let v = wrote.1.0 in
    let was = pushed_leaves t f f' (event (t + 1) (Write at v done)) c wrote.0 wrote.1.2 refl new left in
    (was.0, now_left t f was.0 new was.1, subst (λ (b : List ℕ). Torn at (length b) was.0 c) wrote.1.1 was.2)

pub written_keeps : (t at : ℕ) (bytes : List ℕ) (done : Bool) (f f' : MemoryFile) (x c : List ℕ)
    → HasWritten (t + 1) at bytes done f f' → newest f.events.items ≤ t → LeftAt f.first.items f.events.items t x
    → Torn at (length bytes) x c
    → LeftAt f'.first.items f'.events.items (t + 1) c
written_keeps t at bytes done f f' x c wrote new was torn =
    let v = wrote.1.0 in
    pushed_keeps t f f' (event (t + 1) (Write at v done)) c wrote.0 wrote.1.2 refl new (
      x,
      subst (λ (l : List Event). After f.first.items l x) (until_all t f.events.items new) was,
      subst (λ (b : List ℕ). Torn at (length b) x c) (sym wrote.1.1) torn,
    )

pub synced_keeps : (t : ℕ) (f f' : MemoryFile) (c : List ℕ) → HasSynced (t + 1) f f' → newest f.events.items ≤ t
    → c ≡ f.bytes.items → LeftAt f'.first.items f'.events.items (t + 1) c
synced_keeps t f f' c synced new is =
    pushed_keeps t f f' (event (t + 1) Sync) c synced.0 synced.1 refl new (is ∙ f.holds)

pub synced_leaves : (t : ℕ) (f f' : MemoryFile) (c : List ℕ) → HasSynced (t + 1) f f' → newest f.events.items ≤ t
    → LeftAt f'.first.items f'.events.items (t + 1) c → c ≡ f.bytes.items
synced_leaves t f f' c synced new left =
    pushed_leaves t f f' (event (t + 1) Sync) c synced.0 synced.1 refl new left ∙ sym f.holds

pub synced_no_more : (t : ℕ) (f f' : MemoryFile) (c : List ℕ) → HasSynced (t + 1) f f' → newest f.events.items ≤ t
    → LeftAt f'.first.items f'.events.items (t + 1) c → LeftAt f.first.items f.events.items t c
synced_no_more t f f' c synced new left =
    let is : c ≡ content f.first.items f.events.items = synced_leaves t f f' c synced new left ∙ f.holds in
    now_left t f c new (subst (After f.first.items f.events.items) (sym is)
    (content_left f.events.items f.first.items (λ d. d ≡ f.first.items) refl))

-- what a read gives
pub bytes_same : (f f' : MemoryFile) → IsSameFile f f' → f'.bytes.items ≡ f.bytes.items
bytes_same f f' same =
    f'.holds ∙ ap (λ (l : List ℕ). content l f'.events.items) same.0 ∙ ap (content f.first.items) same.1 ∙ sym f.holds

pub bytes_written : (m at : ℕ) (bytes : List ℕ) (f f' : MemoryFile) → HasWritten m at bytes true f f'
    → f'.bytes.items ≡ overwritten at bytes f.bytes.items
bytes_written m at bytes f f' wrote =
    f'.holds ∙ ap (λ (l : List ℕ). content l f'.events.items) wrote.0 ∙ ap (content f.first.items) wrote.1.2
    ∙ content-push f.first.items f.events.items (event m (Write at wrote.1.0 true))
    ∙ ap (λ (b : List ℕ). overwritten at b (content f.first.items f.events.items)) wrote.1.1
    ∙ ap (overwritten at bytes) (sym f.holds)

pub bytes_failed : (m at : ℕ) (bytes : List ℕ) (f f' : MemoryFile) → HasWritten m at bytes false f f'
    → f'.bytes.items ≡ f.bytes.items
bytes_failed m at bytes f f' wrote =
    f'.holds ∙ ap (λ (l : List ℕ). content l f'.events.items) wrote.0 ∙ ap (content f.first.items) wrote.1.2
    ∙ content-push f.first.items f.events.items (event m (Write at wrote.1.0 false)) ∙ sym f.holds

pub bytes_synced : (m : ℕ) (f f' : MemoryFile) → HasSynced m f f' → f'.bytes.items ≡ f.bytes.items
bytes_synced m f f' synced =
    f'.holds ∙ ap (λ (l : List ℕ). content l f'.events.items) synced.0 ∙ ap (content f.first.items) synced.1
    ∙ content-push f.first.items f.events.items (event m Sync) ∙ sym f.holds

pub grown_written : (t at : ℕ) (bytes : List ℕ) (done : Bool) (f f' : MemoryFile)
    → HasWritten (t + 1) at bytes done f f' → Grown t f f'
grown_written t at bytes done f f' wrote =
    record { first = wrote.0; way = inr (event (t + 1) (Write at wrote.1.0 done), refl, wrote.1.2) }

pub grown_synced : (t : ℕ) (f f' : MemoryFile) → HasSynced (t + 1) f f' → Grown t f f'
grown_synced t f f' synced = record { first = synced.0; way = inr (event (t + 1) Sync, refl, synced.1) }
