use Rattle.std.proofs.Common.{◌≡◌, ℕ, [], false, Err, drop, refl, sym, ap, subst, ◌∙◌, arith}
use Rattle.std.proofs.lemmas.Result.{err_from_is_err_and}
use Rattle.page_types.specs.Pages.{IsPage}
use Rattle.page_types.specs.declared.page.Page.{Page}
use Rattle.core_maintenance.proofs.Found.{right_keeps_found}
use Rattle.core_maintenance.proofs.WaysLead.{ways_hold}
use Rattle.buffer_frames.specs.Passes.{Seen}
use Rattle.gin_place.specs.Placing.{IsAt}
use Rattle.gin_place.specs.Causes.{IsBad, IsWhy}
use Rattle.gin_place.specs.Stepping.{HasStepped}
use Rattle.gin_place.specs.Inner.Reading.{IsRoomy}
use Rattle.gin_place.specs.Inner.ReadingItems.{IsReadingIn, IsFullLeafIn}
use Rattle.gin_place.specs.declared.error.PlaceError.TheVariants.{OutOfMemory}
use Rattle.gin_place.specs.declared.reading.Reading.TheVariants as readings
use Rattle.gin_place.proofs.Carrying.{reads_still, same_added, reads_in_turn, right_on}
use Rattle.gin_place.proofs.Causing.{finds_now}
use Rattle.gin_place.proofs.Faults.{calm_fine, fine_still, fine_then}
use Rattle.gin_place.proofs.HeldNext.{never}
use Rattle.gin_place.proofs.Stepped.{true_false, holds_at, stepped_after, none_took, rested, refused, answered}
use Rattle.gin_place.proofs.WentOn.{went, stand_within}
use Rattle.gin_place.proofs.placing.Placing.step.Goals as goal

pub hold_next-requires : goal.hold_next-requires
hold_next-requires g c = record {
  pass = c.requires.pass;
  right = c.requires.right;
  none = c.requires.none;
  way = (
    c.args.key.now,
    c.args.items.now,
    c.requires.items,
    c.requires.placing,
    c.in-At.sought,
    c.in-At.parent,
    c.in-At.is,
  );
}

pub read_next-requires : goal.read_next-requires
read_next-requires g c = record {
  page = c.page.ensures.is_page;
  key = c.requires.key;
  items = c.requires.items;
  from = (c.requires.placing.3).0;
  next = (subst (IsAt g.D.Disk c.args.frames.now c.args.pass.now c.args.key.now c.args.items.now c.args.self.now.from)
      c.in-At.is c.requires.placing.0).0;
}

pub add_items-requires : goal.add_items-requires
add_items-requires g c =
    let is_page = subst IsPage c.page.ensures.value c.page.ensures.is_page in
    let holds = holds_at g.D.Disk c.args.frames.now c.hold_next.new.frames c.args.pass.now
    c.hold_next.new.pass c.hold_next.ensures.reads c.requires.right c.args.key.now c.args.items.now
    c.args.self.now c.in-At.sought c.in-At.parent c.in-At.page c.in_ok-held.held
    c.in_ok-held.ensures.holding c.in_ok-held.ensures.seen c.in_ok-held.ensures.number is_page c.requires.key
    c.requires.items c.requires.rows c.in-At.is c.requires.placing in
    let reading = subst (λ (x : Page). IsReadingIn c.in-At.sought x c.args.key.now
    (drop c.args.self.now.from c.args.items.now) (readings.Added c.in-Ok-Added.new c.in-Ok-Added.count))
    c.page.ensures.value
    (subst (IsReadingIn c.in-At.sought c.page.result.now c.args.key.now (drop c.args.self.now.from c.args.items.now))
    c.in-Ok-Added.field-0-is c.in-Ok-Added.ensures.reading) in
    record { read = (c.args.key.now, c.in-At.parent, c.in-At.page, holds, reading) }

pub begin_tree-requires : goal.begin_tree-requires
begin_tree-requires g c =
    let is_page = subst IsPage c.page.ensures.value c.page.ensures.is_page in
    let holds = holds_at g.D.Disk c.args.frames.now c.hold_next.new.frames c.args.pass.now
    c.hold_next.new.pass c.hold_next.ensures.reads c.requires.right c.args.key.now c.args.items.now
    c.args.self.now c.in-At.sought c.in-At.parent c.in-At.page c.in_ok-held.held
    c.in_ok-held.ensures.holding c.in_ok-held.ensures.seen c.in_ok-held.ensures.number is_page c.requires.key
    c.requires.items c.requires.rows c.in-At.is c.requires.placing in
    let reading = subst (λ (x : Page). IsReadingIn c.in-At.sought x c.args.key.now
    (drop c.args.self.now.from c.args.items.now) (readings.Long c.in-Ok-Long.place)) c.page.ensures.value
    (subst (IsReadingIn c.in-At.sought c.page.result.now c.args.key.now (drop c.args.self.now.from c.args.items.now))
    c.in-Ok-Long.field-0-is c.in-Ok-Long.ensures.reading) in
    record { read = (c.args.key.now, c.in-At.sought, c.in-At.parent, c.in-At.page, holds, reading) }

pub begin_again-requires : goal.begin_again-requires
begin_again-requires g c =
    let is_page = subst IsPage c.page.ensures.value c.page.ensures.is_page in
    let holds = holds_at g.D.Disk c.args.frames.now c.hold_next.new.frames c.args.pass.now
    c.hold_next.new.pass c.hold_next.ensures.reads c.requires.right c.args.key.now c.args.items.now
    c.args.self.now c.in-At.sought c.in-At.parent c.in-At.page c.in_ok-held.held
    c.in_ok-held.ensures.holding c.in_ok-held.ensures.seen c.in_ok-held.ensures.number is_page c.requires.key
    c.requires.items c.requires.rows c.in-At.is c.requires.placing in
    let reading = subst (λ (x : Page). IsReadingIn c.in-At.sought x c.args.key.now
    (drop c.args.self.now.from c.args.items.now) readings.Full) c.page.ensures.value
    (subst (IsReadingIn c.in-At.sought c.page.result.now c.args.key.now (drop c.args.self.now.from c.args.items.now))
    c.in-Ok-Full.field-0-is c.in-Ok-Full.ensures.reading) in
    record {
      read = holds;
      full = reading;
      leaf = λ first. subst (λ (x : Page). IsFullLeafIn c.in-At.sought x readings.Full) c.page.ensures.value
          (subst (IsFullLeafIn c.in-At.sought c.page.result.now) c.in-Ok-Full.field-0-is
          (c.in-Ok-Full.ensures.leaf first));
    }

pub release-requires : goal.release-requires
release-requires g c = record {
  pass = c.hold_next.ensures.reads.works.is_pass;
  right = right_on g.D.Disk c.args.frames.now c.hold_next.new.frames c.args.pass.now c.hold_next.new.pass []
      c.requires.right
      c.hold_next.ensures.reads.works;
  holding = ([], c.in_ok-held.ensures.holding);
}

pub release-requires-in-Err : goal.release-requires-in-Err
release-requires-in-Err g c = record {
  pass = c.hold_next.ensures.reads.works.is_pass;
  right = right_on g.D.Disk c.args.frames.now c.hold_next.new.frames c.args.pass.now c.hold_next.new.pass []
      c.requires.right
      c.hold_next.ensures.reads.works;
  holding = ([], c.in_ok-held.ensures.holding);
}

pub go_on-requires : goal.go_on-requires
go_on-requires g c =
    let reading = subst (λ (x : Page). IsReadingIn c.in-At.sought x c.args.key.now
    (drop c.args.self.now.from c.args.items.now) (readings.On c.in-Ok-On.next)) c.page.ensures.value
    (subst (IsReadingIn c.in-At.sought c.page.result.now c.args.key.now (drop c.args.self.now.from c.args.items.now))
    c.in-Ok-On.field-0-is c.in-Ok-On.ensures.reading) in
    record {
      left = c.in_ok-held.ensures.left.0;
      from = (c.requires.placing.3).0;
      stand = λ count is. stand_within c.in-At.sought c.in_ok-held.held.content c.args.key.now c.args.items.now
          c.args.self.now.from count c.in-Ok-On.next is
          (c.requires.placing.3).0 reading;
    }

pub returns-in_default : goal.returns-in_default
returns-in_default g c =
    let still = (reads_still g.D.Disk c.args.frames.now c.args.pass.now c.requires.pass (same_added g.D.Disk
    c.args.frames.now)).works in
    answered g.D.Disk c.args.frames.now c.args.pass.now c.args.key.now c.args.items.now c.args.self.now
    c.args.frames.now
    c.args.pass.now [] c.args.self.now false (omega arith) still c.requires.none
    (c.requires.placing, (λ e. c.in_default.is, λ e. refl))
    (rested g.D.Disk c.args.frames.now c.args.pass.now c.args.key.now c.args.items.now c.args.self.now c.args.frames.now
    c.args.pass.now c.args.self.now false still refl refl)
    (λ e. absurd (true_false (sym e))) (fine_still g.D.Disk c.args.frames.now)
    (none_took g.D.Disk c.args.frames.now c.args.pass.now c.args.key.now c.args.items.now c.args.self.now)

pub returns-in_err-held : goal.returns-in_err-held
returns-in_err-held g c =
    let p = err_from_is_err_and c.from_residual.result c.from_residual.ensures.1 in
    let w = c.in_err-held.field-0.0 in
    let e = c.in_err-held.ensures in
    subst (HasStepped g.D.Disk c.args.frames.now c.args.pass.now c.hold_next.new.frames c.hold_next.new.pass
    c.args.key.now c.args.items.now
    c.args.self.now c.args.self.now) (sym (p.1 ∙ ap Err p.2))
    (refused g.D.Disk c.args.frames.now c.args.pass.now c.args.key.now c.args.items.now c.args.self.now
    c.hold_next.new.frames
    c.hold_next.new.pass w c.args.self.now c.hold_next.ensures.reads e.still c.requires.placing refl
    (e.cause c.args.key.now c.args.items.now c.requires.items c.requires.placing) e.lawful e.fault)

pub returns-in-Ok-Added : goal.returns-in-Ok-Added
returns-in-Ok-Added g c =
    let is_page = subst IsPage c.page.ensures.value c.page.ensures.is_page in
    let holds = holds_at g.D.Disk c.args.frames.now c.hold_next.new.frames c.args.pass.now
    c.hold_next.new.pass c.hold_next.ensures.reads c.requires.right c.args.key.now c.args.items.now
    c.args.self.now c.in-At.sought c.in-At.parent c.in-At.page c.in_ok-held.held
    c.in_ok-held.ensures.holding c.in_ok-held.ensures.seen c.in_ok-held.ensures.number is_page c.requires.key
    c.requires.items c.requires.rows c.in-At.is c.requires.placing in
    let reading = subst (λ (x : Page). IsReadingIn c.in-At.sought x c.args.key.now
    (drop c.args.self.now.from c.args.items.now) (readings.Added c.in-Ok-Added.new c.in-Ok-Added.count))
    c.page.ensures.value
    (subst (IsReadingIn c.in-At.sought c.page.result.now c.args.key.now (drop c.args.self.now.from c.args.items.now))
    c.in-Ok-Added.field-0-is c.in-Ok-Added.ensures.reading) in
    stepped_after g.D.Disk c.args.frames.now c.hold_next.new.frames c.add_items.new.frames c.args.pass.now
    c.hold_next.new.pass c.add_items.new.pass c.hold_next.ensures.reads.works c.in_ok-held.ensures.fine c.args.key.now
    c.args.items.now c.args.self.now c.add_items.new.self c.add_items.result
    (c.add_items.ensures c.args.key.now c.in-At.parent c.in-At.page holds reading)

pub returns-in-Ok-Long : goal.returns-in-Ok-Long
returns-in-Ok-Long g c =
    let is_page = subst IsPage c.page.ensures.value c.page.ensures.is_page in
    let holds = holds_at g.D.Disk c.args.frames.now c.hold_next.new.frames c.args.pass.now
    c.hold_next.new.pass c.hold_next.ensures.reads c.requires.right c.args.key.now c.args.items.now
    c.args.self.now c.in-At.sought c.in-At.parent c.in-At.page c.in_ok-held.held
    c.in_ok-held.ensures.holding c.in_ok-held.ensures.seen c.in_ok-held.ensures.number is_page c.requires.key
    c.requires.items c.requires.rows c.in-At.is c.requires.placing in
    let reading = subst (λ (x : Page). IsReadingIn c.in-At.sought x c.args.key.now
    (drop c.args.self.now.from c.args.items.now) (readings.Long c.in-Ok-Long.place)) c.page.ensures.value
    (subst (IsReadingIn c.in-At.sought c.page.result.now c.args.key.now (drop c.args.self.now.from c.args.items.now))
    c.in-Ok-Long.field-0-is c.in-Ok-Long.ensures.reading) in
    stepped_after g.D.Disk c.args.frames.now c.hold_next.new.frames c.begin_tree.new.frames c.args.pass.now
    c.hold_next.new.pass c.begin_tree.new.pass c.hold_next.ensures.reads.works c.in_ok-held.ensures.fine c.args.key.now
    c.args.items.now c.args.self.now c.begin_tree.new.self c.begin_tree.result
    (c.begin_tree.ensures c.args.key.now c.in-At.sought c.in-At.parent c.in-At.page holds reading)

pub returns-in-Ok-Full : goal.returns-in-Ok-Full
returns-in-Ok-Full g c =
    let is_page = subst IsPage c.page.ensures.value c.page.ensures.is_page in
    let holds = holds_at g.D.Disk c.args.frames.now c.hold_next.new.frames c.args.pass.now
    c.hold_next.new.pass c.hold_next.ensures.reads c.requires.right c.args.key.now c.args.items.now
    c.args.self.now c.in-At.sought c.in-At.parent c.in-At.page c.in_ok-held.held
    c.in_ok-held.ensures.holding c.in_ok-held.ensures.seen c.in_ok-held.ensures.number is_page c.requires.key
    c.requires.items c.requires.rows c.in-At.is c.requires.placing in
    stepped_after g.D.Disk c.args.frames.now c.hold_next.new.frames c.begin_again.new.frames c.args.pass.now
    c.hold_next.new.pass c.begin_again.new.pass c.hold_next.ensures.reads.works c.in_ok-held.ensures.fine c.args.key.now
    c.args.items.now c.args.self.now c.begin_again.new.self c.begin_again.result (c.begin_again.ensures holds)

pub returns-in-Ok-On : goal.returns-in-Ok-On
returns-in-Ok-On g c =
    let read = c.hold_next.ensures.reads in
    let back = c.release.ensures.reads in
    let is_page = subst IsPage c.page.ensures.value c.page.ensures.is_page in
    let seen = subst (λ (n : ℕ). Seen g.D.Disk c.hold_next.new.frames c.hold_next.new.pass (λ S P. P
    n ≡ c.in_ok-held.held.content))
    c.in_ok-held.ensures.number c.in_ok-held.ensures.seen in
    let reading = subst (λ (x : Page). IsReadingIn c.in-At.sought x c.args.key.now
    (drop c.args.self.now.from c.args.items.now) (readings.On c.in-Ok-On.next)) c.page.ensures.value
    (subst (IsReadingIn c.in-At.sought c.page.result.now c.args.key.now (drop c.args.self.now.from c.args.items.now))
    c.in-Ok-On.field-0-is c.in-Ok-On.ensures.reading) in
    went g.D.Disk c.args.frames.now c.hold_next.new.frames c.release.new.frames c.args.pass.now c.hold_next.new.pass
    c.release.new.pass c.args.key.now c.args.items.now c.args.self.now c.in-At.sought c.in-At.parent c.in-At.page
    c.in_ok-held.held.content read back (sym (c.release.ensures.holding [] c.in_ok-held.ensures.holding).all) c.in-At.is
    c.requires.placing seen
    (fine_then g.D.Disk c.args.frames.now c.hold_next.new.frames c.release.new.frames c.in_ok-held.ensures.fine
    (calm_fine g.D.Disk c.hold_next.new.frames c.release.new.frames c.release.ensures.calm))
    (c.release.ensures.down ∙ c.in_ok-held.ensures.down)
    c.found_leads_down.ensures c.found_leads_down-2.ensures c.in_ok-held.left
    (c.in_ok-held.ensures.enough c.args.key.now c.args.items.now c.in-At.sought c.in-At.parent c.requires.placing
    c.in-At.is)
    c.in_ok-held.ensures.left.0 c.in_ok-held.ensures.left.1 c.in_ok-held.ensures.lies is_page c.requires.pass
    (never g.D.Disk c.args.frames.now c.args.pass.now c.args.key.now c.args.items.now c.args.self.now c.in-At.sought
    c.in-At.parent c.in-At.page c.in-At.is
    c.requires.items c.requires.placing right_keeps_found ways_hold c.requires.pass c.requires.right
    c.requires.none)
    c.go_on.new.self c.in-Ok-On.next c.go_on.result reading
    (λ making. subst (λ (x : Page). IsRoomy c.in-At.sought x (readings.On c.in-Ok-On.next)) c.page.ensures.value
    (subst (IsRoomy c.in-At.sought c.page.result.now) c.in-Ok-On.field-0-is (c.in-Ok-On.ensures.room making)))
    c.go_on.ensures

pub returns-in-Err : goal.returns-in-Err
returns-in-Err g c =
    let back = c.release-in-Err.ensures.reads in
    let reads = reads_in_turn g.D.Disk c.args.frames.now c.hold_next.new.frames c.release-in-Err.new.frames
    c.args.pass.now c.hold_next.new.pass c.release-in-Err.new.pass c.hold_next.ensures.reads back in
    refused g.D.Disk c.args.frames.now c.args.pass.now c.args.key.now c.args.items.now c.args.self.now
    c.release-in-Err.new.frames c.release-in-Err.new.pass OutOfMemory c.args.self.now reads
    (sym (c.release-in-Err.ensures.holding [] c.in_ok-held.ensures.holding).all) c.requires.placing refl
    (finds_now g.D.Disk c.args.frames.now c.args.pass.now
    (IsWhy g.D.Disk (IsBad g.D.Disk c.args.key.now c.args.self.now) c.release-in-Err.new.frames OutOfMemory)
    c.requires.pass tt) tt
    (fine_then g.D.Disk c.args.frames.now c.hold_next.new.frames c.release-in-Err.new.frames c.in_ok-held.ensures.fine
    (calm_fine g.D.Disk c.hold_next.new.frames c.release-in-Err.new.frames c.release-in-Err.ensures.calm))
