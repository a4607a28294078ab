-- What a run meets, by how far it came.
use Rattle.std.proofs.Common.{◌≡◌, ◌≢◌, ◌⊎◌, inl, inr, ℕ, ◌<◌, ◌≤◌, List, length, length-append, arith, refl, ap}
use Rattle.std.proofs.Common.{IfSome}
use Rattle.std.specs.Prelude.{Option, Some, None, String}
use Rattle.std.specs.Io.KnownBytes.{Consumes, IsAtEnd}
use Rattle.std.specs.declared.alloc.Global.{Global}
use Rattle.disk_trait.specs.Device.{Rose}
use Rattle.disk_trait.specs.declared.device.Disk.{Ghosts as Disk}
use Rattle.disk_trait.specs.declared.stream.Source.{Ghosts as Source}
use Rattle.disk_trait.specs.declared.stream.Sink.{Ghosts as Sink}
use Rattle.shell_run.specs.HasRead.{HasRead}
use Rattle.shell_script.specs.declared.command_words.Options.{Options}
use Rattle.shell_run.specs.Words.{IsForm, settings_for}
use Rattle.shell_run.specs.RunMeets.{RunMeets}
use Rattle.shell_run.specs.Inner.Serving.{ServeMeets}
use Rattle.shell_run.specs.Inner.Statuses.{stop_number}
use Rattle.shell_run.specs.declared.error.Stop.{Stop}
use Rattle.shell_run.specs.declared.error.Stop.TheVariants.{SourceFault, TooLong, OutOfMemory}
use Rattle.shell_run.specs.declared.script.TheConstants.{SCRIPT_LIMIT}
use Rattle.shell_run.specs.declared.top.Outcome.{Outcome}
use Rattle.shell_run.proofs.Ending.{Unread, unread}
use Rattle.shell_run.proofs.Served.{idle_causes, idle}

-- what was read to its end is all of it
no_longer : (before after : Option (List ℕ)) (text : List ℕ) (n : ℕ) (P : Type 0)
    → Consumes before after text → IsAtEnd after → length text ≤ n
    → IfSome before (λ bytes. n < length bytes → P)
no_longer None after text n P h e short = tt
no_longer (Some a) None text n P h e short = absurd h
no_longer (Some a) (Some b) text n P h e short =
    λ long. absurd (let x : ⊥ =
    omega (arith, long, short, ap length h, ap length e, length-append text b) in x)

if_so : (o : Option (List ℕ)) (n : ℕ) (P : Type 0) → P → IfSome o (λ bytes. n < length bytes → P)
if_so None n P p = tt
if_so (Some a) n P p = λ long. p

module _ {S K D : Type 0} (source : Source S) (sink : Sink K) (device : Disk D)
    (words : List (String Global)) (script : S) (out : K) (disk : D) where
  abbrev outcome : ℕ → S → K → D → Outcome S K D
  outcome status script' out' disk' =
      record { status = status; script = script'; out = out'; store = disk' }

  pub run_of_no_form : ((options : Options) → IsForm words options → ⊥)
      → RunMeets source sink device words script out disk (outcome 2 script out disk)
  run_of_no_form none = record {
    range = omega arith;
    status_2 = (λ e. none, λ n. refl);
    nothing_2 = λ e. (refl, refl, refl);
    status_6 = λ e. absurd (let x : ⊥ = omega (arith, e) in x);
    status_8 = λ e. absurd (let x : ⊥ = omega (arith, e) in x);
    too_long = λ a b c. absurd (a refl);
    nothing_run = λ e. absurd (let x : ⊥ = omega (arith, e) in x);
    causes = idle_causes sink device out disk 2 (inl refl);
    read = λ e.
        elim e [ inl n ↦ absurd (n.0 refl) | inr n ↦ absurd (let x : ⊥ = omega (arith, n) in x) ];
    headline = inl (idle sink device out disk 2 (inl refl));
  }

  pub run_unread : (options : Options) → IsForm words options
      → (script' : S) (stop : Stop) (status : ℕ) → status ≡ stop_number stop
      → (stop ≡ SourceFault) ⊎ (stop ≡ TooLong) ⊎ (stop ≡ OutOfMemory)
      → (stop ≡ SourceFault → Rose (source.fault_count script) (source.fault_count script'))
      → (stop ≡ TooLong → IfSome (source.left script) (λ bytes. SCRIPT_LIMIT < length bytes))
      → RunMeets source sink device words script out disk (outcome status script' out disk)
  run_unread options form script' stop status number error fault long =
      let u : Unread stop status = unread stop status number error in
      let n : (status ≡ 6) ⊎ (status ≡ 8) ⊎ (status ≡ 5) = u.number in
      record {
        range = omega (arith, n);
        status_2 = (
          λ e. absurd (let x : ⊥ = omega (arith, n, e) in x),
          λ none. absurd (none options form),
        );
        nothing_2 = λ e. absurd (let x : ⊥ = omega (arith, n, e) in x);
        status_6 = λ e. fault (u.at_6 e);
        status_8 = λ e. long (u.at_8 e);
        too_long = λ a b c. if_so (source.left script) SCRIPT_LIMIT (status ≡ 8) (eight n b c);
        nothing_run = λ e. (refl, refl);
        causes = idle_causes sink device out disk status (inr n);
        read = λ e.
            elim e [
              | inl m ↦ absurd (other n m)
              | inr m ↦ absurd (let x : ⊥ = omega (arith, m) in
                  x)
            ];
        headline = inl (idle sink device out disk status (inr n));
      }
    where
      eight : (status ≡ 6) ⊎ (status ≡ 8) ⊎ (status ≡ 5) → status ≢ 5 → status ≢ 6 → status ≡ 8
      eight (inl e) five six = absurd (six e)
      eight (inr (inl e)) five six = e
      eight (inr (inr e)) five six = absurd (five e)

      other : (status ≡ 6) ⊎ (status ≡ 8) ⊎ (status ≡ 5)
          → (status ≢ 2) × (status ≢ 5) × (status ≢ 6) × (status ≢ 8) → ⊥
      other (inl e) m = m.2 e
      other (inr (inl e)) m = m.3 e
      other (inr (inr e)) m = m.1 e

  pub run_served : (options : Options) → IsForm words options → (script' : S) (text : List ℕ)
      → HasRead (source.left script) (source.left script') text → IsAtEnd (source.left script')
      → length text ≤ SCRIPT_LIMIT
      → (status : ℕ) (out' : K) (disk' : D)
      → ServeMeets sink device (settings_for options) text status out out' disk disk'
      → RunMeets source sink device words script out disk (outcome status script' out' disk')
  run_served options form script' text read end short status out' disk' m =
      let below : status ≤ 7 = m.range.0 in
      record {
        range = omega (arith, below);
        status_2 = (λ e. absurd (m.range.1 e), λ none. absurd (none options form));
        nothing_2 = λ e. absurd (m.range.1 e);
        status_6 = λ e. absurd (m.range.2 e);
        status_8 = λ e. absurd (let x : ⊥ = omega (arith, below, e) in x);
        too_long =
            λ a b c. no_longer (source.left script) (source.left script') text SCRIPT_LIMIT
            (status ≡ 8) read end short;
        nothing_run =
            λ e. elim e [
              | inl six ↦ absurd (m.range.2 six)
              | inr eight ↦ absurd (let x : ⊥ =
                  omega (arith, below, eight) in x)
            ];
        causes = m.causes;
        read = λ e. end;
        headline = elim m.headline [ inl h ↦ inl h | inr h ↦ inr (options, text, form, read, end, h) ];
      }
