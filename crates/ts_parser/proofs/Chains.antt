-- The run or the hyphen word at the front is the one that the rules name.
use Rattle.std.proofs.Common.{◌≡◌, ℕ, ◌+◌, ◌<◌, ◌≤◌, List, [], ◌∷◌, ◌++◌, length, take, drop, Bool, true, false, ◌&&◌}
use Rattle.std.proofs.Common.{◌==◌, nat_lt, refl, sym, ap, ◌∙◌, length-append, take-append-drop, arith, lt-ltb}
use Rattle.std.proofs.Common.{ltb-true, eqb-true, All}
use Rattle.std.specs.List.{list_all, list_any, prefix_len, join_with_byte}
use Rattle.std.proofs.lemmas.Bool.{false≢true, and_parts, and_from, or_from, and_left, and_right}
use Rattle.std.proofs.lemmas.List.{take_at}
use Rattle.std.proofs.lemmas.List.Folds.{length-prefix_len}
use Rattle.std.proofs.lemmas.List.Sums.{prefix_len-le-length}
use Rattle.std.proofs.lemmas.List.Elements.{All-cons, All-head, All-tail, All-nil}
use Rattle.ts_parser.specs.Letters.{IsWordLetter, IsWordByte, StartsWithout, is_word_letter, is_word_byte, begins_with}
use Rattle.ts_parser.specs.Words.{IsRun, IsLink, EndsChain, IsChain, NoChain}
use Rattle.ts_parser.specs.Rows.{begins_piece}
use Rattle.ts_parser.specs.WordForms.{begins_link, run_len, links_len, run_kind, whole_kind, word_form}
use Rattle.ts_parser.specs.Forms.{form}
use Rattle.ts_parser.proofs.Rows.{is_piece, goes_on, row_over, prefix_over, piece_over, ends_without, row_join}
use Rattle.ts_parser.proofs.Rows.{first_piece, row_of}
use Rattle.ts_parser.proofs.ByteTests.{tells_letter, tells_word_byte, without_test, test_without, all_test, test_all}
use Rattle.ts_parser.proofs.ByteTests.{any_test, test_any}
use Rattle.ts_parser.proofs.Bodies.{front_passes, front_stops}

-- letters and digits with a letter among them, as a test
abbrev pub is_link : List ℕ → Bool
is_link w = is_piece is_word_byte is_word_letter w

pub link_test : (w : List ℕ) → IsLink w → is_link w ≡ true
link_test w h = and_from (list_all is_word_byte w) (list_any is_word_letter w) (all_test is_word_byte IsWordByte
    tells_word_byte w h.inner) (any_test is_word_letter IsWordLetter (λ c. (tells_letter c).1) w h.letter)

pub test_link : (w : List ℕ) → is_link w ≡ true → IsLink w
test_link w h =
    let k = and_parts (list_all is_word_byte w) (list_any is_word_letter w) h in
    record {
      inner = test_all is_word_byte IsWordByte tells_word_byte w k.0;
      letter = test_any is_word_letter IsWordLetter (λ c. (tells_letter c).0) w k.1;
    }

pub links_test : (us : List (List ℕ)) → All IsLink us → list_all is_link us ≡ true
links_test [] h = refl
links_test (u ∷ us) h = and_from (is_link u) (list_all is_link us) (link_test u (All-head IsLink u us h))
    (links_test us (All-tail IsLink u us h))

pub test_links : (us : List (List ℕ)) → list_all is_link us ≡ true → All IsLink us
test_links [] h = All-nil IsLink
test_links (u ∷ us) h =
    let k = and_parts (is_link u) (list_all is_link us) h in All-cons IsLink u us (test_link u k.0) (test_links us k.1)

pub link_inner : (w : List ℕ) → is_link w ≡ true → list_all is_word_byte w ≡ true
link_inner w h = (and_parts (list_all is_word_byte w) (list_any is_word_letter w) h).0

-- ── the end of a chain ──
-- a link at the front, and what is after its run
link_behind : (r : List ℕ) → begins_link r ≡ true
    → (u : List ℕ) × (q : List ℕ) × (r ≡ u ++ q) × IsLink u × StartsWithout IsWordByte q
link_behind r h =
    let u : List ℕ = take (prefix_len is_word_byte r) r in
    let q : List ℕ = drop (prefix_len is_word_byte r) r in (
      u,
      q,
      sym (take-append-drop (prefix_len is_word_byte r) r),
      test_link u (and_from (list_all is_word_byte u) (list_any is_word_letter u) (front_passes is_word_byte r) h),
      test_without is_word_byte IsWordByte tells_word_byte q (front_stops is_word_byte r),
    )

pub chain_stops : (r : List ℕ) → EndsChain r → goes_on is_word_byte is_word_letter 45 r ≡ false
chain_stops [] h = refl
chain_stops (c ∷ r) h =
    let n : is_word_byte c ≡ false = without_test is_word_byte IsWordByte tells_word_byte (c ∷ r) h.0 in
    or_from (is_word_byte c) ((c == 45) && begins_link r) n (stops_by (c == 45) (begins_link r) refl refl)
  where
    stops_by : (a b : Bool) → (c == 45) ≡ a → begins_link r ≡ b → ((c == 45) && begins_link r) ≡ false
    stops_by true true e f = absurd
        (let k = link_behind r f in h.1 k.0 k.1 (ap (λ x. x ∷ r) (eqb-true c 45 e) ∙ ap (λ z. 45 ∷ z) k.2) k.3 k.4)
    stops_by true false e f = and_right (c == 45) (begins_link r) f
    stops_by false b e f = and_left (c == 45) (begins_link r) e

pub stops_chain : (r : List ℕ) → goes_on is_word_byte is_word_letter 45 r ≡ false → EndsChain r
stops_chain r h = (
  test_without is_word_byte IsWordByte tells_word_byte r (ends_without is_word_byte is_word_letter 45 r h),
  λ u q e l s.
      let w = link_test u l in
      let a = and_parts (list_all is_word_byte u) (list_any is_word_letter u) w in
      let b : begins_piece is_word_byte is_word_letter (u ++ q) ≡ true = piece_over is_word_byte is_word_letter u q a.0
      (without_test is_word_byte IsWordByte tells_word_byte q s) ∙ a.1 in
      false≢true (sym h ∙ ap (λ z. goes_on is_word_byte is_word_letter 45 z) e ∙ b),
)

-- ── chains ──
-- a chain is at the front
abbrev pub is_chain : List ℕ → Bool
is_chain u = begins_link u && nat_lt (run_len u) (links_len u)

pub chain_len : (us : List (List ℕ)) (r : List ℕ) → IsChain us r
    → links_len (join_with_byte 45 us ++ r) ≡ length (join_with_byte 45 us)
chain_len [] r h = absurd (let k = h.more in omega (arith, k))
chain_len (u ∷ []) r h = absurd (let k = h.more in omega (arith, k))
chain_len (u ∷ v ∷ us) r h =
    let k = and_parts (is_link u) (list_all is_link (v ∷ us)) (links_test (u ∷ v ∷ us) h.links) in
    row_join is_word_byte is_word_letter 45 u (v ∷ us) r refl (link_inner u k.0) k.1 (chain_stops r h.ends)

pub chain_test : (us : List (List ℕ)) (r : List ℕ) → IsChain us r → is_chain (join_with_byte 45 us ++ r) ≡ true
chain_test [] r h = absurd (let k = h.more in omega (arith, k))
chain_test (u ∷ []) r h = absurd (let k = h.more in omega (arith, k))
chain_test (u ∷ v ∷ us) r h =
    let z : List ℕ = join_with_byte 45 (u ∷ v ∷ us) ++ r in
    let w = link_test u (All-head IsLink u (v ∷ us) h.links) in
    let a = and_parts (list_all is_word_byte u) (list_any is_word_letter u) w in
    let f = first_piece is_word_byte 45 u (v ∷ us) r refl
    (ends_without is_word_byte is_word_letter 45 r (chain_stops r h.ends)) in
    let b : begins_link z ≡ true =
    ap begins_link f.is ∙ piece_over is_word_byte is_word_letter u f.rest a.0 f.ends ∙ a.1 in
    let n : run_len z ≡ length u = ap run_len f.is ∙ prefix_over is_word_byte u f.rest a.0 f.ends in
    let l = chain_len (u ∷ v ∷ us) r h in
    let m = length-append u (45 ∷ join_with_byte 45 (v ∷ us)) in
    and_from (begins_link z) (nat_lt (run_len z) (links_len z)) b
    (lt-ltb (run_len z) (links_len z) (omega (arith, n, l, m)))

-- a chain at the front of u
pub record ChainIn (u : List ℕ) : Type 0 where
  pub links : List (List ℕ)
  pub rest : List ℕ
  pub is : u ≡ join_with_byte 45 links ++ rest
  pub holds : IsChain links rest

chain_in : (u first : List ℕ) (others : List (List ℕ)) (rest : List ℕ) → u ≡ join_with_byte 45 (first ∷ others) ++ rest
    → links_len u ≡ length (join_with_byte 45 (first ∷ others)) → list_all is_word_byte first ≡ true
    → list_all is_link others ≡ true → goes_on is_word_byte is_word_letter 45 rest ≡ false → is_chain u ≡ true
    → ChainIn u
chain_in u first [] rest e l a p s h =
    let k = ltb-true (run_len u) (links_len u) (and_parts (begins_link u) (nat_lt (run_len u) (links_len u)) h).1 in
    let n : run_len u ≡ length first =
    ap run_len e ∙ prefix_over is_word_byte first rest a (ends_without is_word_byte is_word_letter 45 rest s) in
    absurd (omega (arith, k, n, l))
chain_in u first (v ∷ vs) rest e l a p s h =
    let f = first_piece is_word_byte 45 first (v ∷ vs) rest refl (ends_without is_word_byte is_word_letter 45 rest s) in
    let b : list_any is_word_letter first ≡ true =
    sym (piece_over is_word_byte is_word_letter first f.rest a f.ends) ∙ sym (ap begins_link (e ∙ f.is))
    ∙ (and_parts (begins_link u) (nat_lt (run_len u) (links_len u)) h).0 in
    record {
      links = first ∷ v ∷ vs;
      rest = rest;
      is = e;
      holds = record {
        more = omega arith;
        links = test_links (first ∷ v ∷ vs) (and_from (is_link first) (list_all is_link (v ∷ vs))
            (and_from (list_all is_word_byte first) (list_any is_word_letter first) a b) p);
        ends = stops_chain rest s;
      };
    }

pub test_chain : (u : List ℕ) → is_chain u ≡ true → ChainIn u
test_chain u h = let k = row_of is_word_byte is_word_letter 45 u refl in
    chain_in u k.first k.others k.rest k.is k.size k.inner k.pieces k.ends h

pub no_chain : (u : List ℕ) → is_chain u ≡ false → NoChain u
no_chain u h us r e c = false≢true (sym h ∙ ap is_chain e ∙ chain_test us r c)

pub chain_none : (u : List ℕ) → NoChain u → is_chain u ≡ false
chain_none u h = none_by (is_chain u) refl
  where
    none_by : (b : Bool) → is_chain u ≡ b → is_chain u ≡ false
    none_by true e = absurd (let k = test_chain u e in h k.links k.rest k.is k.holds)
    none_by false e = e

-- ── words ──
pub word_chain : (us : List (List ℕ)) (r : List ℕ) → IsChain us r
    → word_form (join_with_byte 45 us ++ r) ≡ form (whole_kind (join_with_byte 45 us)) (length (join_with_byte 45 us))
word_chain us r h =
    let j : List ℕ = join_with_byte 45 us in
    let z : List ℕ = j ++ r in
    let one : word_form z ≡ form (whole_kind (take (links_len z) z)) (links_len z) = rw (chain_test us r h) refl in
    one ∙ ap (λ n. form (whole_kind (take n z)) n) (chain_len us r h)
    ∙ ap (λ w. form (whole_kind w) (length j)) (take_at j r (length j) refl)

pub word_run : (u r : List ℕ) → IsRun u r → is_chain (u ++ r) ≡ false
    → word_form (u ++ r) ≡ form (run_kind u) (length u)
word_run u r h e =
    let z : List ℕ = u ++ r in
    let one : word_form z ≡ form (run_kind (take (run_len z) z)) (run_len z) = rw e refl in
    let n : run_len z ≡ length u = prefix_over is_word_byte u r (all_test is_word_byte IsWordByte tells_word_byte u
    h.inner) (without_test is_word_byte IsWordByte tells_word_byte r h.ends) in
    one ∙ ap (λ i. form (run_kind (take i z)) i) n
    ∙ ap (λ w. form (run_kind w) (length u)) (take_at u r (length u) refl)

-- a run at the front of u
pub record RunIn (u : List ℕ) : Type 0 where
  pub run : List ℕ
  pub rest : List ℕ
  pub is : u ≡ run ++ rest
  pub inner : list_all is_word_byte run ≡ true
  pub holds : IsRun run rest

run_some : (u : List ℕ) → begins_with is_word_byte u ≡ true → 0 < run_len u
run_some [] h = absurd (false≢true h)
run_some (c ∷ u) h = rw h (omega arith)

pub run_in : (u : List ℕ) → begins_with is_word_byte u ≡ true → RunIn u
run_in u h =
    let a : list_all is_word_byte (take (run_len u) u) ≡ true = front_passes is_word_byte u in
    let s = run_some u h in
    let l = length-prefix_len is_word_byte u in
    record {
      run = take (run_len u) u;
      rest = drop (run_len u) u;
      is = sym (take-append-drop (run_len u) u);
      inner = a;
      holds = record {
        some = omega (arith, s, l);
        inner = test_all is_word_byte IsWordByte tells_word_byte (take (run_len u) u) a;
        ends = test_without is_word_byte IsWordByte tells_word_byte (drop (run_len u) u) (front_stops is_word_byte u);
      };
    }

-- ── a run that is read first ──
pub links_behind : (u : List ℕ) → links_len u ≡ run_len u + links_len (drop (run_len u) u)
links_behind u =
    ap links_len (sym (take-append-drop (run_len u) u)) ∙ row_over is_word_byte is_word_letter 45 (take (run_len u) u)
    (drop (run_len u) u) (front_passes is_word_byte u)
    ∙ ap (λ n. n + links_len (drop (run_len u) u)) (length-prefix_len is_word_byte u)

pub run_takes : (u : List ℕ) → begins_with is_word_byte u ≡ true → 0 < length (take (run_len u) u)
run_takes u h = let s = run_some u h in let l = length-prefix_len is_word_byte u in omega (arith, s, l)

pub links_from : (u : List ℕ) (n : ℕ) → n ≡ run_len u → (n ≤ length u) × (links_len u ≡ n + links_len (drop n u))
links_from u n e = let l = prefix_len-le-length is_word_byte u in
    (omega (arith, l, e), links_behind u ∙ ap (λ m. m + links_len (drop m u)) (sym e))
