-- Streams that are read, and written, piece by piece.
use Rattle.std.proofs.Common.{◌≡◌, ℕ, take, drop, ◌+◌, ◌<◌, List, [], ◌++◌, length, length-append, append_assoc, arith}
use Rattle.std.proofs.Common.{refl, sym, ◌∙◌, ap, subst}
use Rattle.std.specs.Prelude.{Option, Some, None, Bool, true, false}
use Rattle.std.proofs.lemmas.List.{append-nil, take-append-drop}
use Rattle.shell_run.specs.Inner.Sending.{Sends, SendsBut}
use Rattle.std.specs.Io.KnownBytes.{Appends, Keeps}

pub appends_none : (a : Option (List ℕ)) → Appends a a []
appends_none None = tt
appends_none (Some a) = sym (append-nil a)

pub appends_then : (a b c : Option (List ℕ)) (xs ys : List ℕ) → Appends a b xs → Appends b c ys → Appends a c (xs ++ ys)
appends_then None b c xs ys h k = tt
appends_then (Some a) None c xs ys h k = absurd h
appends_then (Some a) (Some b) None xs ys h k = absurd k
appends_then (Some a) (Some b) (Some c) xs ys h k = k ∙ ap (λ z. z ++ ys) h ∙ append_assoc a xs ys

pub appends_kept : (a b : Option (List ℕ)) → Keeps a b → Appends a b []
appends_kept None b h = tt
appends_kept (Some a) None h = absurd h
appends_kept (Some a) (Some b) h = h ∙ sym (append-nil a)

pub puts_start : (a : Option (List ℕ)) (text : List ℕ) (b : Bool) → Sends a a text text b
puts_start a text b = record { sent = []; unsent = text; all = refl; took = appends_none a; waits = λ e. refl }

pub puts_more : (a b c : Option (List ℕ)) (text rest sent more : List ℕ) (w : Bool) → Sends a b text rest true
    → Appends b c sent → rest ≡ sent ++ more → Sends a c text more w
puts_more a b c text rest sent more w h k e = record {
  sent = h.sent ++ sent;
  unsent = more;
  all = append_assoc h.sent sent more ∙ ap (λ z. h.sent ++ z) (sym e ∙ sym (h.waits refl)) ∙ h.all;
  took = appends_then a b c h.sent sent h.took k;
  waits = λ e. refl;
}

pub puts_stop : (a b c : Option (List ℕ)) (text rest waiting : List ℕ) → Sends a b text rest true → Keeps b c
    → Sends a c text waiting false
puts_stop a b c text rest waiting h k = record {
  sent = h.sent ++ [];
  unsent = h.unsent;
  all = ap (λ z. z ++ h.unsent) (append-nil h.sent) ∙ h.all;
  took = appends_then a b c h.sent [] h.took (appends_kept b c k);
  waits = λ e. cc;
}

pub puts_drop : (a b c : Option (List ℕ)) (text rest : List ℕ) (n : ℕ) → Sends a b text rest true
    → Appends b c (take n rest) → Sends a c text (drop n rest) true
puts_drop a b c text rest n h k =
    puts_more a b c text rest (take n rest) (drop n rest) true h k (sym (take-append-drop n rest))

-- the steps of a text that is written piece by piece
pub ruleset writing_steps = (puts_start, puts_drop, puts_stop)

-- a text more after what waits
pub puts_behind : (a b c : Option (List ℕ)) (text rest t w : List ℕ) (well : Bool) → Sends a b text rest true
    → Sends b c (rest ++ t) w well → Sends a c (text ++ t) w well
puts_behind a b c text rest t w well h k = record {
  sent = h.sent ++ k.sent;
  unsent = k.unsent;
  all = append_assoc h.sent k.sent k.unsent ∙ ap (λ z. h.sent ++ z) (k.all ∙ ap (λ z. z ++ t) (sym (h.waits refl)))
      ∙ sym (append_assoc h.sent h.unsent t) ∙ ap (λ z. z ++ t) h.all;
  took = appends_then a b c h.sent k.sent h.took k.took;
  waits = k.waits;
}

-- a run that stops has more to write, of which nothing is written
pub puts_short : (a b : Option (List ℕ)) (text more waiting rest : List ℕ) (well : Bool) → Sends a b text waiting well
    → Sends a b (text ++ more) rest false
puts_short a b text more waiting rest well h = record {
  sent = h.sent;
  unsent = h.unsent ++ more;
  all = sym (append_assoc h.sent h.unsent more) ∙ ap (λ z. z ++ more) h.all;
  took = h.took;
  waits = λ e. cc;
}

-- where a text more was put after what waits, at most these two are not taken
pub puts_few : (n : ℕ) (a b c : Option (List ℕ)) (text rest t w : List ℕ) (well : Bool)
    → Sends a b text rest true → Sends b c (rest ++ t) w well → length rest + length t < n
    → SendsBut n a c (text ++ t) w well
unfolding puts_behind
puts_few n a b c text rest t w well h k few = (
  puts_behind a b c text rest t w well h k,
  (let l : length k.unsent < n =
      omega (arith, few, ap length k.all, length-append k.sent k.unsent, length-append rest t) in l),
)

-- likewise where no more was put
pub puts_none : (n : ℕ) (a b c : Option (List ℕ)) (text rest w : List ℕ) (well : Bool)
    → Sends a b text rest true → Sends b c rest w well → length rest < n
    → SendsBut n a c text w well
puts_none n a b c text rest w well h k few =
    subst (λ z. SendsBut n a c z w well) (append-nil text)
    (puts_few n a b c text rest [] w well h
    (subst (λ z. Sends b c z w well) (sym (append-nil rest)) k) (omega (arith, few)))
