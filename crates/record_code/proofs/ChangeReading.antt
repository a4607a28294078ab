-- Changes that are read, and changes that are read again.
use Rattle.std.proofs.Common.{◌≡◌, ◌≢◌, ℕ, zero, suc, ◌^◌, ◌<◌, Bool, true, false, cond, ltb, eqb, List, [], ◌∷◌, ◌++◌}
use Rattle.std.proofs.Common.{length, take, drop, Result, Ok, Err, refl, sym, ap, subst, ◌∙◌, append_assoc, arith}
use Rattle.std.specs.Prelude.{◌||◌}
use Rattle.std.specs.List.{flat_map, AllByRecursion}
use Rattle.std.proofs.lemmas.Bool.{ltb-true, lt-ltb, eqb-true, eqb-false, eq-eqb, ne_eqb, or_parts}
use Rattle.std.proofs.lemmas.List.{length-drop, length-take-le, append-nil, take-append-drop, take_at}
use Rattle.std.proofs.lemmas.List.Concat.{flat_map-cons}
use Rattle.byteorder.specs.Endian.{little_number, little_bytes}
use Rattle.byteorder.specs.Numbers.{little_number-reads_back, little_from-take}
use Rattle.page_types.specs.Numbers.{u16_bytes, u32_bytes, u64_bytes}
use Rattle.page_types.specs.Keys.{Rising}
use Rattle.page_types.specs.Records.{edit_bytes, change_bytes, stamp_in, IsImage, IsDelta, IsEdit, IsChange}
use Rattle.page_types.specs.declared.record.Change.{Change}
use Rattle.page_types.specs.declared.record.Edit.{Edit}
use Rattle.page_types.specs.declared.record.Edit.TheVariants.{Image, Delta}
use Rattle.record_code.specs.Laws.{AreBytes}
use Rattle.page_types.specs.Fields.{◌>>=◌, number_at, bytes_at}
use Rattle.page_types.proofs.FieldReading.{bind_ok, IsBytes-drop, IsBytes-take, wide8, Takes, Takes-then, u16_takes}
use Rattle.page_types.proofs.FieldReading.{u32_takes, u16_again, u32_again, bytes_take, bytes_again}
use Rattle.record_code.specs.Reading.{stands, page_at, image_at, delta_at, edit_at, change_at, changes_at}
use Rattle.record_code.proofs.Steps.{guard_ok, guard_held, ok_is}

page_takes : (before : List Change) (bytes : List ℕ) (p : ℕ) (rest : List ℕ) → AreBytes bytes
    → page_at before bytes ≡ Ok (p, rest) → Takes bytes (u32_bytes p) rest × (p < 1048576) × (stands p before ≡ false)
unfolding page_at
page_takes before bytes p rest fits e =
    let a = bind_ok (number_at 4 bytes) (λ page. cond (ltb page.0 1048576)
    (cond (stands page.0 before) (Err (length bytes)) (Ok page)) (Err (length bytes))) (p, rest) e in
    let g = guard_held (ltb a.0.0 1048576) (length bytes) (cond (stands a.0.0 before) (Err (length bytes)) (Ok a.0))
    (p, rest) a.2 in
    let h = guard_ok (stands a.0.0 before) (length bytes) a.0 (p, rest) g.1 in
    let t = u32_takes bytes a.0.0 a.0.1 fits a.1 in
    let below : a.0.0 < 1048576 = ltb-true _ _ g.0 in
    subst (λ (x : ℕ × List ℕ). Takes bytes (u32_bytes x.0) x.1 × (x.0 < 1048576) × (stands x.0 before ≡ false)) h.1
    (t.0, below, h.0)

page_again : (before : List Change) (p : ℕ) (rest : List ℕ) → p < 1048576 → stands p before ≡ false
    → page_at before (u32_bytes p ++ rest) ≡ Ok (p, rest)
unfolding page_at
page_again before p rest lt new =
    let below : ltb p 1048576 ≡ true = lt-ltb p 1048576 lt in
    rw (u32_again p rest (omega arith), below, new) refl

-- the stamp of an image, as a number and as bytes
stamp_read : (image : List ℕ) (number : ℕ) → length image ≡ 8192 → AreBytes image
    → little_number 8 (drop 8 image) ≡ number → stamp_in image ≡ u64_bytes number
unfolding u64_bytes
stamp_read image number len fits e =
    let behind : AreBytes (drop 8 image) = IsBytes-drop 8 image fits in
    let size : length (stamp_in image) ≡ 8 = length-take-le 8 (drop 8 image) (omega (arith, length-drop 8 image)) in
    sym (wide8.back (stamp_in image) size (IsBytes-take 8 (drop 8 image) behind))
    ∙ ap (little_bytes 8) (little_from-take 0 8 8 (drop 8 image) (omega arith) ∙ e)

stamp_again : (image : List ℕ) (number : ℕ) → number < 2 ^ 64 → stamp_in image ≡ u64_bytes number
    → little_number 8 (drop 8 image) ≡ number
unfolding u64_bytes
stamp_again image number lt e =
    let whole : drop 8 image ≡ little_bytes 8 number ++ drop 8 (drop 8 image) =
    sym (take-append-drop 8 (drop 8 image)) ∙ ap (λ (t : List ℕ). t ++ drop 8 (drop 8 image)) e in
    ap (little_number 8) whole ∙ little_number-reads_back 8 number (drop 8 (drop 8 image)) lt

image_takes : (number : ℕ) (bytes : List ℕ) (x : Edit × List ℕ) → AreBytes bytes → image_at number bytes ≡ Ok x
    → Takes (0 ∷ bytes) (edit_bytes x.0) x.1 × IsEdit number x.0
unfolding image_at
image_takes number bytes x fits e =
    let a = bind_ok (bytes_at 8192 bytes) (λ image. cond (eqb (little_number 8 (drop 8 image.0)) number)
    (Ok (Image image.0, image.1)) (Err (length bytes))) x e in
    let made : Edit × List ℕ = (Image a.0.0, a.0.1) in
    let g = guard_held (eqb (little_number 8 (drop 8 a.0.0)) number) (length bytes) (Ok made) x a.2 in
    let t = bytes_take 8192 bytes a.0.0 a.0.1 fits a.1 in
    let fits_too : AreBytes a.0.0 =
    subst AreBytes (ap (take 8192) t.0.parts ∙ take_at a.0.0 a.0.1 8192 t.1) (IsBytes-take 8192 bytes fits) in
    let stamp = stamp_read a.0.0 number t.1 fits_too (eqb-true _ _ g.0) in
    let parts : 0 ∷ bytes ≡ (0 ∷ a.0.0) ++ a.0.1 = ap (λ (w : List ℕ). 0 ∷ w) t.0.parts in
    let whole : Takes (0 ∷ bytes) (edit_bytes (Image a.0.0)) a.0.1 =
    record { parts = parts; rest_fits = t.0.rest_fits } in
    subst (λ (y : Edit × List ℕ). Takes (0 ∷ bytes) (edit_bytes y.0) y.1 × IsEdit number y.0) (ok_is made x g.1)
    (whole, record { size = t.1; stamp = stamp })

image_again : (number : ℕ) (image rest : List ℕ) → number < 2 ^ 64 → IsImage number image
    → image_at number (image ++ rest) ≡ Ok (Image image, rest)
unfolding image_at
image_again number image rest lt is =
    let same : eqb (little_number 8 (drop 8 image)) number ≡ true = eq-eqb _ _ (stamp_again image number lt is.stamp) in
    rw (bytes_again 8192 image rest is.size, same) refl

delta_takes : (number : ℕ) (bytes : List ℕ) (x : Edit × List ℕ) → AreBytes bytes → delta_at bytes ≡ Ok x
    → Takes (1 ∷ bytes) (edit_bytes x.0) x.1 × IsEdit number x.0
unfolding delta_at
delta_takes number bytes x fits e =
    let a = bind_ok (bytes_at 8 bytes) (λ f. number_at 2 f.1 >>= λ s. number_at 2 s.1 >>= λ c. number_at 2 c.1
    >>= λ n. bytes_at n.0 n.1 >>= λ w. Ok (Delta f.0 s.0 c.0 w.0, w.1)) x e in
    let b = bind_ok (number_at 2 a.0.1) (λ s. number_at 2 s.1 >>= λ c. number_at 2 c.1 >>= λ n. bytes_at n.0 n.1
    >>= λ w. Ok (Delta a.0.0 s.0 c.0 w.0, w.1)) x a.2 in
    let c = bind_ok (number_at 2 b.0.1)
    (λ c. number_at 2 c.1 >>= λ n. bytes_at n.0 n.1 >>= λ w. Ok (Delta a.0.0 b.0.0 c.0 w.0, w.1)) x b.2 in
    let d = bind_ok (number_at 2 c.0.1) (λ n. bytes_at n.0 n.1 >>= λ w. Ok (Delta a.0.0 b.0.0 c.0.0 w.0, w.1)) x c.2 in
    let w = bind_ok (bytes_at d.0.0 d.0.1) (λ w. Ok (Delta a.0.0 b.0.0 c.0.0 w.0, w.1)) x d.2 in
    let t0 = bytes_take 8 bytes a.0.0 a.0.1 fits a.1 in
    let t1 = u16_takes a.0.1 b.0.0 b.0.1 t0.0.rest_fits b.1 in
    let t2 = u16_takes b.0.1 c.0.0 c.0.1 t1.0.rest_fits c.1 in
    let t3 = u16_takes c.0.1 d.0.0 d.0.1 t2.0.rest_fits d.1 in
    let t4 = bytes_take d.0.0 d.0.1 w.0.0 w.0.1 t3.0.rest_fits w.1 in
    let size : Takes c.0.1 (u16_bytes (length w.0.0)) d.0.1 = rw (t4.1) t3.0 in
    let e34 = Takes-then c.0.1 (u16_bytes (length w.0.0)) d.0.1 w.0.0 w.0.1 size t4.0 in
    let e24 = Takes-then b.0.1 (u16_bytes c.0.0) c.0.1 (u16_bytes (length w.0.0) ++ w.0.0) w.0.1 t2.0 e34 in
    let e14 = Takes-then a.0.1 (u16_bytes b.0.0) b.0.1
    (u16_bytes c.0.0 ++ (u16_bytes (length w.0.0) ++ w.0.0)) w.0.1 t1.0 e24 in
    let e04 = Takes-then bytes a.0.0 a.0.1 (u16_bytes b.0.0 ++ (u16_bytes c.0.0 ++ (u16_bytes (length w.0.0) ++ w.0.0)))
    w.0.1 t0.0 e14 in
    let made : Edit × List ℕ = (Delta a.0.0 b.0.0 c.0.0 w.0.0, w.0.1) in
    let parts : 1 ∷ bytes
    ≡ (1 ∷ (a.0.0 ++ (u16_bytes b.0.0 ++ (u16_bytes c.0.0 ++ (u16_bytes (length w.0.0) ++ w.0.0))))) ++ w.0.1 =
    ap (λ (l : List ℕ). 1 ∷ l) e04.parts in
    let whole : Takes (1 ∷ bytes) (edit_bytes (Delta a.0.0 b.0.0 c.0.0 w.0.0)) w.0.1 =
    record { parts = parts; rest_fits = e04.rest_fits } in
    let few : length w.0.0 < 2 ^ 16 = rw (t4.1) t3.1 in
    subst (λ (y : Edit × List ℕ). Takes (1 ∷ bytes) (edit_bytes y.0) y.1 × IsEdit number y.0) (ok_is made x w.2)
    (whole, record { front_size = t0.1; start_fits = t1.1; cut_fits = t2.1; size_fits = few })

delta_regrouped : (f s c n x t : List ℕ) → (f ++ (s ++ (c ++ (n ++ x)))) ++ t ≡ f ++ (s ++ (c ++ (n ++ (x ++ t))))
delta_regrouped f s c n x t = simp append_assoc

delta_again : (f : List ℕ) (s c : ℕ) (x rest : List ℕ) → IsDelta f s c x
    → delta_at ((f ++ (u16_bytes s ++ (u16_bytes c ++ (u16_bytes (length x) ++ x)))) ++ rest) ≡ Ok (Delta f s c x, rest)
unfolding delta_at
delta_again f s c x rest is =
    ap delta_at (delta_regrouped f (u16_bytes s) (u16_bytes c) (u16_bytes (length x)) x rest)
    ∙ rw (
      bytes_again 8 f (u16_bytes s ++ (u16_bytes c ++ (u16_bytes (length x) ++ (x ++ rest)))) is.front_size,
      u16_again s (u16_bytes c ++ (u16_bytes (length x) ++ (x ++ rest))) is.start_fits,
      u16_again c (u16_bytes (length x) ++ (x ++ rest)) is.cut_fits,
      u16_again (length x) (x ++ rest) is.size_fits,
      bytes_again (length x) x rest refl,
    ) refl

edit_takes : (number : ℕ) (bytes : List ℕ) (x : Edit × List ℕ) → AreBytes bytes → edit_at number bytes ≡ Ok x
    → Takes bytes (edit_bytes x.0) x.1 × IsEdit number x.0
edit_takes number [] x fits e = absurd cc
edit_takes number (zero ∷ bytes) x fits e = image_takes number bytes x (λ i. fits (suc i)) e
edit_takes number (suc zero ∷ bytes) x fits e = delta_takes number bytes x (λ i. fits (suc i)) e
edit_takes number (suc (suc b) ∷ bytes) x fits e = absurd cc

edit_again : (number : ℕ) (d : Edit) (rest : List ℕ) → number < 2 ^ 64 → IsEdit number d
    → edit_at number (edit_bytes d ++ rest) ≡ Ok (d, rest)
edit_again number (Image image) rest lt is = image_again number image rest lt is
edit_again number (Delta f s c x) rest lt is = delta_again f s c x rest is

-- a change that is read after others
record TakesChange (number : ℕ) (before : List Change) (bytes : List ℕ) (c : Change) (rest : List ℕ) : Type 0 where
  takes : Takes bytes (change_bytes c) rest
  fits : IsChange number c
  is_new : stands c.page before ≡ false

change_takes : (number : ℕ) (before : List Change) (bytes : List ℕ) (x : Change × List ℕ) → AreBytes bytes
    → change_at number before bytes ≡ Ok x → TakesChange number before bytes x.0 x.1
unfolding change_at change_bytes
change_takes number before bytes x fits e =
    let a = bind_ok (page_at before bytes)
    (λ p. edit_at number p.1 >>= λ d. Ok (record { page = p.0; edit = d.0 }, d.1)) x e in
    let b = bind_ok (edit_at number a.0.1) (λ d. Ok (record { page = a.0.0; edit = d.0 }, d.1)) x a.2 in
    let t0 = page_takes before bytes a.0.0 a.0.1 fits a.1 in
    let t1 = edit_takes number a.0.1 b.0 t0.0.rest_fits b.1 in
    let both = Takes-then bytes (u32_bytes a.0.0) a.0.1 (edit_bytes b.0.0) b.0.1 t0.0 t1.0 in
    let made : Change × List ℕ = (record { page = a.0.0; edit = b.0.0 }, b.0.1) in
    let whole : TakesChange number before bytes made.0 made.1 =
    record { takes = both; fits = record { page = t0.1; edit = t1.1 }; is_new = t0.2 } in
    subst (λ (y : Change × List ℕ). TakesChange number before bytes y.0 y.1) (ok_is made x b.2) whole

change_again : (number : ℕ) (before : List Change) (c : Change) (rest : List ℕ) → number < 2 ^ 64 → IsChange number c
    → stands c.page before ≡ false → change_at number before (change_bytes c ++ rest) ≡ Ok (c, rest)
unfolding change_at change_bytes
change_again number before c rest lt is new =
    ap (change_at number before) (append_assoc (u32_bytes c.page) (edit_bytes c.edit) rest)
    ∙ rw (page_again before c.page (edit_bytes c.edit ++ rest) is.page new, edit_again number c.edit rest lt is.edit)
    refl

abbrev pub IsOther : Change → Change → Type 0
IsOther c d = c.page ≢ d.page

-- one change more, whose page is new
all-push : (P : Change → Type 0) (cs : List Change) (c : Change) → AllByRecursion P cs → P c
    → AllByRecursion P (cs ++ c ∷ [])
all-push P [] c h p = (p, tt)
all-push P (d ∷ cs) c h p = (h.0, all-push P cs c h.1 p)

rising-push : (before : List Change) (c : Change) → Rising IsOther before → stands c.page before ≡ false
    → Rising IsOther (before ++ c ∷ [])
rising-push [] c h new = (tt, tt)
rising-push (d ∷ ds) c h new =
    let parts = or_parts (eqb d.page c.page) (stands c.page ds) new in
    (all-push (IsOther d) ds c h.0 (eqb-false _ _ parts.0), rising-push ds c h.1 parts.1)

all-at : (P : Change → Type 0) (ds : List Change) (c : Change) (cs : List Change) → AllByRecursion P (ds ++ c ∷ cs)
    → P c
all-at P [] c cs h = h.0
all-at P (d ∷ ds) c cs h = all-at P ds c cs h.1

not-equal : (a b : ℕ) (t : Bool) → (a ≢ b) → t ≡ false → (eqb a b || t) ≡ false
not-equal a b t ne e = rw (ne_eqb a b ne) e

is-new : (before : List Change) (c : Change) (cs : List Change) → Rising IsOther (before ++ c ∷ cs)
    → stands c.page before ≡ false
is-new [] c cs h = refl
is-new (d ∷ ds) c cs h =
    not-equal d.page c.page (stands c.page ds) (all-at (IsOther d) ds c cs h.0) (is-new ds c cs h.1)

-- changes that are read after others
pub record TakesChanges (number k : ℕ) (before : List Change) (bytes : List ℕ) (all : List Change)
    (rest : List ℕ) : Type 0 where
  pub new : List Change
  pub all_are : all ≡ before ++ new
  pub takes : Takes bytes (flat_map change_bytes new) rest
  pub count : length new ≡ k
  pub fit : AllByRecursion (IsChange number) new
  pub once : Rising IsOther all

pub changes_take : (number k : ℕ) (before : List Change) (bytes : List ℕ) (x : List Change × List ℕ) → AreBytes bytes
    → Rising IsOther before → changes_at number k before bytes ≡ Ok x → TakesChanges number k before bytes x.0 x.1
unfolding changes_at
changes_take number zero before bytes x fits rising e =
    let made : List Change × List ℕ = (before, bytes) in
    let whole : TakesChanges number zero before bytes made.0 made.1 = record {
      new = [];
      all_are = sym (append-nil before);
      takes = record { parts = refl; rest_fits = fits };
      count = refl;
      fit = tt;
      once = rising;
    } in
    subst (λ (y : List Change × List ℕ). TakesChanges number zero before bytes y.0 y.1) (ok_is made x e) whole
changes_take number (suc k) before bytes x fits rising e =
    let a = bind_ok (change_at number before bytes) (λ c. changes_at number k (before ++ c.0 ∷ []) c.1) x e in
    let t = change_takes number before bytes a.0 fits a.1 in
    let more = changes_take number k (before ++ a.0.0 ∷ []) a.0.1 x t.takes.rest_fits
    (rising-push before a.0.0 rising t.is_new) a.2 in
    let both = Takes-then bytes (change_bytes a.0.0) a.0.1 (flat_map change_bytes more.new) x.1 t.takes more.takes in
    record {
      new = a.0.0 ∷ more.new;
      all_are = more.all_are ∙ append_assoc before (a.0.0 ∷ []) more.new;
      takes = rw flat_map-cons both;
      count = ap suc more.count;
      fit = (t.fits, more.fit);
      once = more.once;
    }

pub changes_again : (number : ℕ) (before cs : List Change) (rest : List ℕ)
    → number < 2 ^ 64 → AllByRecursion (IsChange number) cs → Rising IsOther (before ++ cs)
    → changes_at number (length cs) before (flat_map change_bytes cs ++ rest) ≡ Ok (before ++ cs, rest)
unfolding changes_at
changes_again number before [] rest lt fit rising = ap (λ (l : List Change). Ok (l, rest)) (sym (append-nil before))
changes_again number before (c ∷ cs) rest lt fit rising =
    let regrouped : flat_map change_bytes (c ∷ cs) ++ rest ≡ change_bytes c ++ (flat_map change_bytes cs ++ rest) =
    ap (λ (x : List ℕ). x ++ rest) (flat_map-cons change_bytes c cs)
    ∙ append_assoc (change_bytes c) (flat_map change_bytes cs) rest in
    let first = change_again number before c (flat_map change_bytes cs ++ rest) lt fit.0 (is-new before c cs rising) in
    let grouped : before ++ c ∷ cs ≡ (before ++ c ∷ []) ++ cs = sym (append_assoc before (c ∷ []) cs) in
    let others = changes_again number (before ++ c ∷ []) cs rest lt fit.1 (subst (Rising IsOther) grouped rising) in
    ap (changes_at number (suc (length cs)) before) regrouped
    ∙ ap (λ (r : Result (Change × List ℕ) ℕ). r >>= λ x. changes_at number (length cs) (before ++ x.0 ∷ []) x.1) first
    ∙ others ∙ ap (λ (l : List Change). Ok (l, rest)) (sym grouped)
