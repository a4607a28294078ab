-- Calls of a folder one after another.
use Rattle.std.proofs.Common.{ℕ, ◌+◌, ◌<◌, ◌≤◌, List, refl, ◌∙◌, inl, inr, ⊎_elim, arith}
use Rattle.disk_trait.specs.Files.{Files}
use Rattle.disk_trait.specs.Device.{Past, Torn, FileTorn, LeavesNoMore, Elapses, Rose}
use Rattle.disk_trait.specs.declared.device.File.{File}
use Rattle.disk_file.specs.Folder.{FolderState, Stays, OnlyLooks, StandsStill, OnlyTears, OnlySettles}

pub stays_same : (s : FolderState) → Stays s s
stays_same s = record { has = λ _ is. is; names = λ _ is. is }

pub stays_then : {a b c : FolderState} → Stays a b → Stays b c → Stays a c
stays_then x y = record { has = λ f is. y.has f (x.has f is); names = λ f is. y.names f (x.names f is) }

pub no_time : (n : ℕ) (past : Past) → Elapses n n past past
no_time n past = record {
  later = omega arith;
  past_is = λ _ _ _ left. left;
  keeps = λ _ _ _ left. left;
  one_moment = λ _ _ before l left. let no : ⊥ = omega (arith, before, l) in absurd no;
}

-- Two stretches of time, where a crash at the end leaves all that it could leave in between.
pub elapses_then : (k m n : ℕ) (p q r : Past) → Elapses k m p q → Elapses m n q r
    → LeavesNoMore (r n) (q m) → Elapses k n p r
elapses_then k m n p q r x y less = record {
  later = omega (arith, x.later, y.later);
  past_is = λ i c l left. x.past_is i c l (y.past_is i c (omega (arith, x.later, l)) left);
  keeps = λ i c l left. y.keeps i c (omega (arith, x.later, l)) (x.keeps i c l left);
  one_moment = λ i c before l left.
      ⊎_elim
      (λ (is : i ≤ m). less c (x.one_moment i c before is (y.past_is i c is left)))
      (λ (is : m < i). y.one_moment i c is l left)
      (grind arith);
}

pub looks_same : (tells : Type 0) (s : FolderState) → OnlyLooks tells s s
looks_same tells s = record {
  seen = λ _. refl;
  no_more = λ _ _ left. left;
  no_less = λ _ left. left;
  time = no_time s.clock s.image;
  stays = stays_same s;
}

pub looks_then : (tells : Type 0) (a b c : FolderState) → OnlyLooks tells a b → OnlyLooks tells b c
    → OnlyLooks tells a c
looks_then tells a b c x y = record {
  seen = λ told. y.seen told ∙ x.seen told;
  no_more = λ told f left. x.no_more told f (y.no_more told f left);
  no_less = λ f left. y.no_less f (x.no_less f left);
  time = elapses_then a.clock b.clock c.clock a.image b.image c.image x.time y.time y.no_less;
  stays = stays_then x.stays y.stays;
}

pub still_then : (tells : Type 0) (a b c : FolderState) → StandsStill tells a b
    → StandsStill tells b c → StandsStill tells a c
still_then tells a b c x y = (looks_then tells a b c x.0 y.0, y.1 ∙ x.1)

pub torn_none : (file : File) (at n : ℕ) (c : Files) → FileTorn file at n c c
torn_none file at n c = record {
  torn = record { no_shorter = omega arith; no_longer = omega arith; elsewhere = λ _ _ _. refl };
  same = refl;
}

-- a range within another
torn_then : (at n place k : ℕ) (a b c : List ℕ) → at ≤ place → place + k ≤ at + n → Torn at n a b
    → Torn place k b c → Torn at n a c
torn_then at n place k a b c from to x y = record {
  no_shorter = omega (arith, x.no_shorter, y.no_shorter);
  no_longer = omega (arith, from, to, x.no_longer, y.no_longer);
  elsewhere = λ i l away.
      y.elsewhere i (omega (arith, x.no_shorter, l))
      (⊎_elim (λ (is : i < at). inl (omega (arith, is, from))) (λ (is : at + n ≤ i). inr (omega (arith, is, to))) away)
      ∙ x.elsewhere i l away;
}

file_torn_then : (file : File) (at n place k : ℕ) (a b c : Files) → at ≤ place
    → place + k ≤ at + n → FileTorn file at n a b → FileTorn file place k b c
    → FileTorn file at n a c
file_torn_then file at n place k a b c from to x y = record {
  torn = torn_then at n place k _ _ _ from to x.torn y.torn;
  same = y.same ∙ x.same;
}

-- a range torn is a greater one torn
pub file_torn_within : (file : File) (at n place k : ℕ) (b c : Files) → at ≤ place
    → place + k ≤ at + n → FileTorn file place k b c → FileTorn file at n b c
file_torn_within file at n place k b c from to y =
    file_torn_then file at n place k b b c from to (torn_none file at n b) y

pub tears_none : (tells : Type 0) (file : File) (at n : ℕ) (s : FolderState)
    → OnlyTears tells file at n s s
tears_none tells file at n s = record {
  torn = λ _ c left. (c, left, torn_none file at n c);
  no_less = λ _ left. left;
  time = no_time s.clock s.image;
  stays = stays_same s;
}

pub tears_then : (tells : Type 0) (file : File) (at n place k : ℕ) (a b c : FolderState)
    → at ≤ place → place + k ≤ at + n → OnlyTears tells file at n a b
    → OnlyTears tells file place k b c → OnlyTears tells file at n a c
tears_then tells file at n place k a b c from to x y = record {
  torn = λ told f left.
      let e = y.torn told f left in
      let d = x.torn told e.0 e.1 in
      (d.0, d.1, file_torn_then file at n place k d.0 e.0 f from to d.2 e.2);
  no_less = λ f left. y.no_less f (x.no_less f left);
  time = elapses_then a.clock b.clock c.clock a.image b.image c.image x.time y.time y.no_less;
  stays = stays_then x.stays y.stays;
}

-- what a look left is torn
pub looks_tears : (tells : Type 0) (file : File) (at n : ℕ) (a b c : FolderState)
    → OnlyLooks tells a b → OnlyTears tells file at n b c → OnlyTears tells file at n a c
looks_tears tells file at n a b c x y = record {
  torn = λ told f left.
      let e = y.torn told f left in
      (e.0, x.no_more told e.0 e.1, e.2);
  no_less = λ f left. y.no_less f (x.no_less f left);
  time = elapses_then a.clock b.clock c.clock a.image b.image c.image x.time y.time y.no_less;
  stays = stays_then x.stays y.stays;
}

-- A sync is one moment, so the looks before it take no time.
pub still_settles : (tells : Type 0) (a b c : FolderState) → StandsStill tells a b
    → OnlySettles tells b c → OnlySettles tells a c
still_settles tells a b c x y = record {
  seen = λ told. y.seen told ∙ x.0.seen told;
  no_more = λ told f left. x.0.no_more told f (y.no_more told f left);
  time = record {
    later = omega (arith, x.0.time.later, y.time.later);
    past_is = λ m f l left. x.0.time.past_is m f l (y.time.past_is m f (omega (arith, l, x.0.time.later)) left);
    keeps = λ m f l left. y.time.keeps m f (omega (arith, l, x.0.time.later)) (x.0.time.keeps m f l left);
    one_moment = λ m f before l left. y.time.one_moment m f (omega (arith, before, x.1)) l left;
  };
  stays = stays_then x.0.stays y.stays;
}

pub still_settles_none : (tells : Type 0) (a b : FolderState) → StandsStill tells a b
    → OnlySettles tells a b
still_settles_none tells a b x = record {
  seen = x.0.seen;
  no_more = x.0.no_more;
  time = x.0.time;
  stays = x.0.stays;
}

-- an error that came before, or after
pub rose_later : (a b c : ℕ) → Rose a b → b ≤ c → Rose a c
rose_later a b c rose l = omega (arith, rose, l)

pub rose_earlier : (a b c : ℕ) → a ≤ b → Rose b c → Rose a c
rose_earlier a b c l rose = omega (arith, rose, l)

-- the same range again
pub tears_again : (tells : Type 0) (file : File) (at n : ℕ) (a b c : FolderState)
    → OnlyTears tells file at n a b → OnlyTears tells file at n b c → OnlyTears tells file at n a c
tears_again tells file at n a b c x y =
    tears_then tells file at n at n a b c (omega arith) (omega arith) x y
