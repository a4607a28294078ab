-- A snapshot in use, and the names of its commits.
use Rattle.std.proofs.Common.{◌≡◌, ◌≤◌, ℕ, zero, suc, List, [], ◌∷◌, length, map, take, refl, sym, ap}
use Rattle.std.proofs.Common.{ap₂, subst, ◌∙◌, inl, inr, arith}
use Rattle.std.specs.Prelude.{Option, Some, IfSome, Result, Ok, Vec, min}
use Rattle.std.specs.declared.alloc.Global.{Global}
use Rattle.std.specs.declared.alloc.AllocError.{AllocError}
use Rattle.std.proofs.lemmas.List.{length-map, take_all}
use Rattle.disk_trait.specs.declared.device.Disk.{Ghosts as Disk}
use Rattle.core_state.specs.Log.{Log}
use Rattle.core_state.specs.History.{Commit}
use Rattle.core_state.specs.Legal.{IsLegal, Keeps}
use Rattle.core_state.specs.States.{StateValue}
use Rattle.core_state.proofs.RunningOnes.{below_or_past}
use Rattle.snap_pins.specs.Taken.{IsPinned}
use Rattle.buffer_frames.specs.Frames.{Stands}
use Rattle.buffer_frames.specs.Passes.{IsPassOf, in_use}
use Rattle.buffer_frames.specs.declared.pass.Pass.{Pass}
use Rattle.buffer_frames.specs.declared.pass.Pinned.{Pinned}
use Rattle.engine.specs.Db.{DbValue, state_of, IsUp}
use Rattle.engine.specs.Finding.{Name, History, names, AreCommitNames}
use Rattle.engine.specs.Inner.Asked.{AreFirst, commits_answer}
use Rattle.engine.specs.declared.asks.FirstCommits.{FirstCommits}
use Rattle.engine.specs.Inner.Finds.{ListsAll}
use Rattle.engine.specs.declared.commit_names.CommitNames.{CommitNames}
use Rattle.engine.proofs.Growing.{state_says}

pub pinned : {D : Type 0} (device : Disk D) (s : DbValue D) (R : Log) (pass : Pass) (p : Pinned) → device.tells → IsUp s
    → Stands device s.frames R → IsLegal R → IsPassOf s.frames pass → pass.pin ≡ Some p
    → Keeps R (record { commits = p.commits; length = p.length })
pinned device s R pass p tells up stands legal of is =
    let at = subst (λ (o : Option Pinned). IfSome o (λ (q : Pinned). IsPinned s.frames.pins q.place (in_use q)
    × (q.length ≤ pass.seen))) is of.pin in
    (stands.pins tells up legal).each p.place (in_use p) at.0

-- ── commits ──

pub take_map : {A B : Type 0} (f : A → B) (n : ℕ) (xs : List A) → take n (map f xs) ≡ map f (take n xs)
take_map f zero [] = refl
take_map f zero (x ∷ xs) = refl
take_map f (suc n) [] = refl
take_map f (suc n) (x ∷ xs) = ap (λ zs. f x ∷ zs) (take_map f n xs)

pub take_least : {A : Type 0} (n : ℕ) (xs : List A) → take (min n (length xs)) xs ≡ take n xs
take_least n xs = elim (below_or_past n (length xs)) [
  | inl lt ↦
      let e : min n (length xs) ≡ n = omega (arith, lt) in
      ap (λ k. take k xs) e
  | inr le ↦
      let e : min n (length xs) ≡ length xs = omega (arith, le) in
      ap (λ k. take k xs) e ∙ take_all (length xs) xs (omega arith) ∙ sym (take_all n xs le)
]

commits_named : (cs : List CommitNames) (H : History)
    → map (λ (c : CommitNames). c.deleted.items) cs ≡ map (λ (c : Commit). c.deleted) H
    → map (λ (c : CommitNames). c.inserted.items) cs ≡ map (λ (c : Commit). names c.inserted) H → AreCommitNames cs H
commits_named [] [] a b = refl
commits_named [] (h ∷ H) a b = absurd (let z : ⊥ = cc in z)
commits_named (c ∷ cs) [] a b = absurd (let z : ⊥ = cc in z)
commits_named (c ∷ cs) (h ∷ H) a b =
    let d : c.deleted.items ≡ h.deleted = cc in
    let i : c.inserted.items ≡ names h.inserted = cc in
    let ds : map (λ (c : CommitNames). c.deleted.items) cs ≡ map (λ (c : Commit). c.deleted) H = cc in
    let is : map (λ (c : CommitNames). c.inserted.items) cs ≡ map (λ (c : Commit). names c.inserted) H = cc in
    (record { deleted = d; inserted = i }, commits_named cs H ds is)

module _ {D : Type 0} (device : Disk D) where
  -- the names of the first commits are those of the history
  pub lists_all : (s : DbValue D) (n : ℕ) (commits : List CommitNames) → AreFirst (state_of s) n commits
      → ListsAll device s n commits
  lists_all s n commits first tells found H f =
      let told = state_says device found H s f in
      let history = f.begins.log_of.history in
      let deleted = told.deleted H history in
      let inserted = told.inserted H history in
      let size : length (state_of s).deleted ≡ length H =
      ap length deleted ∙ length-map H (λ (c : Commit). c.deleted) in
      commits_named commits (take n H)
      (first.deleted ∙ ap (take n) deleted ∙ take_map (λ (c : Commit). c.deleted) n H)
      (first.inserted ∙ ap₂ (λ (k : ℕ) (xs : List (List Name)). take (min n k) xs) size inserted
      ∙ take_map (λ (c : Commit). names c.inserted) (min n (length H)) H
      ∙ ap (map (λ (c : Commit). names c.inserted)) (take_least n H))

pub first_named : (ask : FirstCommits) (s : StateValue) (floor since : ℕ)
    (r : Result (Vec CommitNames Global) AllocError) (cs : Vec CommitNames Global) → r ≡ Ok cs
    → commits_answer ask s floor since r → AreFirst s ask.commits cs.items
first_named ask s floor since r cs is a = subst (commits_answer ask s floor since) is a
