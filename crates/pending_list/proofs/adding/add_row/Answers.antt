use Rattle.std.proofs.Common.{◌≡◌, ◌≤◌, ℕ, List, [], ◌∷◌, ◌++◌, length, map, Vec, Global, refl, sym, ap, subst, ◌∙◌}
use Rattle.std.proofs.Common.{arith}
use Rattle.std.proofs.lemmas.List.{length-map}
use Rattle.std.proofs.lemmas.Option.{none-some}
use Rattle.page_types.specs.Numbers.{most_body}
use Rattle.page_types.specs.Pages.{IsPage}
use Rattle.page_types.specs.Encoding.{body_bytes}
use Rattle.page_types.specs.Views.{rows_in}
use Rattle.page_types.specs.declared.page.Page.{Page}
use Rattle.page_types.specs.declared.page.Row.{Row}
use Rattle.page_types.specs.declared.page.Body.{Body}
use Rattle.page_types.specs.declared.page.Body.TheVariants as body
use Rattle.pending_list.specs.Packing.{row_of}
use Rattle.pending_list.specs.Adding.{with_row}
use Rattle.pending_list.proofs.PackedRows.{IsFitting, is_fitting}
use Rattle.pending_list.proofs.AddedRows.{no_room, has_room, added_page}
use Rattle.pending_list.proofs.adding.add_row.Goals as goal

-- the rows as they are made
row_put : (p : Page) (item : ℕ) (old rows new : List Row) (keys : List (List ℕ)) → p.body ≡ body.Pending old
    → rows ≡ old → new ≡ rows ++ row_of item keys ∷ [] → body.Pending new ≡ with_row p item keys
row_put p item old rows new keys is copied made =
    ap body.Pending (made ∙ ap (λ (rs : List Row). rs ++ row_of item keys ∷ []) (copied ∙ ap rows_in (sym is)))

-- the keys' bytes
abbrev bytes_of : Vec ℕ Global → List ℕ
bytes_of key = key.items

pub returns-then-fitting-keys-clause-full : goal.returns-then-fitting-keys-clause-full
returns-then-fitting-keys-clause-full c =
    let page = c.args.page.now in
    let keys = c.args.keys.now in
    let told = c.fitting.ensures in
    let fit : IsFitting (length (body_bytes page.body)) (map bytes_of keys) c.fitting.result =
    subst (λ (n : ℕ). IsFitting n (map bytes_of keys) c.fitting.result) c.body_length.ensures
    (is_fitting bytes_of c.body_length.result keys c.fitting.result told.within told.fits told.most) in (
      λ e. no_room page c.args.item (map bytes_of keys) c.fitting.result c.requires.page fit
          (omega (arith, length-map keys bytes_of, c.if-fitting-keys.true)),
      λ h. refl,
    )

pub returns-clause-added : goal.returns-clause-added
returns-clause-added c =
    let page = c.args.page.now in
    ap (λ (b : Body). record page { body = b })
    (row_put page c.args.item c.in-Pending.old c.in_ok-rows.rows c.push_row.new.rows (map bytes_of c.args.keys.now)
    c.in-Pending.is c.in_ok-rows.ensures.cases c.in_ok-push_row.ensures)

pub returns-clause-full : goal.returns-clause-full
returns-clause-full c =
    let page = c.args.page.now in
    let keys = c.args.keys.now in
    let told = c.fitting.ensures in
    let fit : IsFitting (length (body_bytes page.body)) (map bytes_of keys) c.fitting.result =
    subst (λ (n : ℕ). IsFitting n (map bytes_of keys) c.fitting.result) c.body_length.ensures
    (is_fitting bytes_of c.body_length.result keys c.fitting.result told.within told.fits told.most) in
    let room : length (body_bytes (with_row page c.args.item (map bytes_of keys))) ≤ most_body =
    has_room page c.args.item (map bytes_of keys) c.fitting.result c.requires.page c.requires.keys fit
    (omega (arith, length-map keys bytes_of, c.if-fitting-keys.false)) in
    (λ e. absurd (none-some _ (sym e)), λ h. absurd (omega (arith, h, room)))

pub returns-clause-is_page : goal.returns-clause-is_page
returns-clause-is_page c =
    let page = c.args.page.now in
    let keys = c.args.keys.now in
    let told = c.fitting.ensures in
    let fit : IsFitting (length (body_bytes page.body)) (map bytes_of keys) c.fitting.result =
    subst (λ (n : ℕ). IsFitting n (map bytes_of keys) c.fitting.result) c.body_length.ensures
    (is_fitting bytes_of c.body_length.result keys c.fitting.result told.within told.fits told.most) in
    let room : length (body_bytes (with_row page c.args.item (map bytes_of keys))) ≤ most_body =
    has_room page c.args.item (map bytes_of keys) c.fitting.result c.requires.page c.requires.keys fit
    (omega (arith, length-map keys bytes_of, c.if-fitting-keys.false)) in
    let same = row_put page c.args.item c.in-Pending.old c.in_ok-rows.rows c.push_row.new.rows (map bytes_of keys)
    c.in-Pending.is c.in_ok-rows.ensures.cases c.in_ok-push_row.ensures in
    λ is. subst (λ b. IsPage (record page { body = b })) (sym same)
    (added_page page c.args.item (map bytes_of keys) c.requires.page c.requires.item c.requires.keys room is)
