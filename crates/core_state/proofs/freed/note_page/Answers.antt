use Rattle.std.proofs.Common.{◌≡◌, ◌<◌, ℕ, List, length, ap, subst, sym, ◌∙◌, arith}
use Rattle.std.specs.Prelude.{Ok, Err, is_ok}
use Rattle.std.specs.Vec.{vec_len, vec_capacity}
use Rattle.std.specs.List.{insert}
use Rattle.std.specs.List.Sorted.{IsBinarySearchResult}
use Rattle.std.specs.Ordering.{nat_cmp}
use Rattle.std.proofs.lemmas.List.Sorted.{searched}
use Rattle.core_state.specs.States.{with_page}
use Rattle.core_state.specs.Inner.Rising.{AreRising}
use Rattle.core_state.proofs.Taken.{when_true}
use Rattle.core_state.proofs.RisingPages.{rising_at, rising_more, page_there, page_put}
use Rattle.core_state.proofs.freed.note_page.Goals as goal

pub returns-in-Err-clause-pages : goal.returns-in-Err-clause-pages
returns-in-Err-clause-pages c =
    let qs : List ℕ = c.args.freed.now.items in
    let room : vec_len c.args.freed.now < vec_capacity c.args.freed.now = omega
    (arith, c.requires.room, c.deref.ensures.len, ap length c.deref.ensures.value) in
    let found = searched qs c.args.page (Err c.in-Err.place)
    (subst (λ (xs : List ℕ). IsBinarySearchResult (λ (y : ℕ). nat_cmp y c.args.page) xs (Err c.in-Err.place))
    c.deref.ensures.value c.in-Err.ensures.position) (rising_at qs c.requires.rising) in
    when_true (is_ok c.insert.result) c.insert.new.self.items (insert qs c.in-Err.place c.args.page) qs
    (c.insert.ensures.succeeds room) c.insert.ensures.items
    ∙ sym (page_put qs c.in-Err.place c.args.page found.0 found.1 found.2)

pub returns-in-Err-clause-rising : goal.returns-in-Err-clause-rising
returns-in-Err-clause-rising c =
    let qs : List ℕ = c.args.freed.now.items in
    let room : vec_len c.args.freed.now < vec_capacity c.args.freed.now = omega
    (arith, c.requires.room, c.deref.ensures.len, ap length c.deref.ensures.value) in
    let found = searched qs c.args.page (Err c.in-Err.place)
    (subst (λ (xs : List ℕ). IsBinarySearchResult (λ (y : ℕ). nat_cmp y c.args.page) xs (Err c.in-Err.place))
    c.deref.ensures.value c.in-Err.ensures.position) (rising_at qs c.requires.rising) in
    let put : c.insert.new.self.items ≡ with_page c.args.page qs =
    when_true (is_ok c.insert.result) c.insert.new.self.items (insert qs c.in-Err.place c.args.page) qs
    (c.insert.ensures.succeeds room) c.insert.ensures.items
    ∙ sym (page_put qs c.in-Err.place c.args.page found.0 found.1 found.2) in
    subst AreRising (sym put) (rising_more c.args.page qs c.requires.rising)

pub returns-in-Ok-clause-pages : goal.returns-in-Ok-clause-pages
returns-in-Ok-clause-pages c =
    let qs : List ℕ = c.args.freed.now.items in
    let found = searched qs c.args.page (Ok c.in-Ok.field-0)
    (subst (λ (xs : List ℕ). IsBinarySearchResult (λ (y : ℕ). nat_cmp y c.args.page) xs (Ok c.in-Ok.field-0))
    c.deref.ensures.value c.in-Ok.ensures.position) (rising_at qs c.requires.rising) in
    sym (page_there qs c.in-Ok.field-0 c.args.page c.requires.rising found.0 found.1)
