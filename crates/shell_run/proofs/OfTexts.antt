-- The replies to statements that don't come to the store: no cause of them is the store's.
use Rattle.std.proofs.Common.{◌≡◌, inl, inr, ℕ, List, [], ◌∷◌, subst}
use Rattle.ts_base.specs.Vectors.{Vector}
use Rattle.ts_config.specs.Known.{Known}
use Rattle.shell_script.specs.Grammar.{VectorSource, vector_text, vector_by, QuerySource, query_text, query_by, Part}
use Rattle.shell_script.specs.Grammar.{Expr}
use Rattle.shell_script.specs.Lines.{Line}
use Rattle.shell_script.specs.OpeningLines.{OpeningLine, dictionary_opening, configuration_opening}
use Rattle.shell_run.specs.Defining.{IsDefined}
use Rattle.shell_run.specs.Values.{SourceFails, OthersFail, ExprFails, QueryFails, IsRefusedBy, IsShown, IsQueried}
use Rattle.shell_run.specs.Values.{IsParsed}
use Rattle.shell_run.specs.Run.{Refusal, Reply, shows_vector, shows_query}
use Rattle.shell_run.specs.Run.{shows_tokens, done, refused, down, device, no_statement, IsOkOfStore, IsOkOfChange}

-- the cause of a refusal is a text, and neither the log nor the device
abbrev IsOfText : (Refusal → Type 0) → Type 0
IsOfText P = ((n : ℕ) → P (down n) → ⊥) × (P device → ⊥)

-- the reply says nothing of the store
pub record IsTextReply (reply : Reply) : Type 0 where
  pub not_down : (n : ℕ) → reply ≡ refused (down n) → ⊥
  pub not_fault : reply ≡ refused device → ⊥
  pub not_ok : IsOkOfStore reply → ⊥
  pub not_done : IsOkOfChange reply → ⊥

of_text : (P : Refusal → Type 0) (reply : Reply) → IsOfText P → IsRefusedBy P reply → IsTextReply reply
of_text P (refused why) of h = record {
  not_down = λ n e. let same : why ≡ down n = cc in of.0 n (subst P same h);
  not_fault = λ e. let same : why ≡ device = cc in of.1 (subst P same h);
  not_ok = λ ok. ok;
  not_done = λ ok. ok;
}
of_text P reply of h = absurd h

source_of_text : (known : Known) (s : VectorSource) → IsOfText (SourceFails known s)
source_of_text known (vector_text text) = (λ n h. h, λ h. h)
source_of_text known (vector_by config weight text) = (λ n h. h, λ h. h)

others_of_text : (known : Known) (v : Vector) (ps : List Part) → IsOfText (OthersFail known v ps)
others_of_text known v [] = (λ n h. h, λ h. h)
others_of_text known v (p ∷ ps) = (
  λ n h. elim h [
    | inl x ↦ (source_of_text known p.source).0 n x
    | inr r ↦ elim r.2 [ inl x ↦ x | inr s ↦ (others_of_text known s.0 ps).0 n s.2 ]
  ],
  λ h. elim h [
    | inl x ↦ (source_of_text known p.source).1 x
    | inr r ↦ elim r.2 [ inl x ↦ x | inr s ↦ (others_of_text known s.0 ps).1 s.2 ]
  ],
)

expr_of_text : (known : Known) (e : Expr) → IsOfText (ExprFails known e)
expr_of_text known e = (
  λ n h. elim h
      [ inl x ↦ (source_of_text known e.first.source).0 n x | inr r ↦ (others_of_text known r.0 e.others).0 n r.2 ],
  λ h. elim h
      [ inl x ↦ (source_of_text known e.first.source).1 x | inr r ↦ (others_of_text known r.0 e.others).1 r.2 ],
)

query_of_text : (known : Known) (s : QuerySource) → IsOfText (QueryFails known s)
query_of_text known (query_text text) = (λ n h. h, λ h. h)
query_of_text known (query_by maker config text) = (λ n h. h, λ h. h)

pub expr_text : (known : Known) (e : Expr) (reply : Reply) → IsRefusedBy (ExprFails known e) reply → IsTextReply reply
expr_text known e reply h = of_text (ExprFails known e) reply (expr_of_text known e) h

pub query_text_reply : (known : Known) (s : QuerySource) (reply : Reply) → IsRefusedBy (QueryFails known s) reply
    → IsTextReply reply
query_text_reply known s reply h = of_text (QueryFails known s) reply (query_of_text known s) h

pub shown_text : (known : Known) (e : Expr) (reply : Reply) → IsShown known e reply → IsTextReply reply
shown_text known e (shows_vector text) i =
    record { not_down = λ n x. cc; not_fault = λ x. cc; not_ok = λ ok. ok; not_done = λ ok. ok }
shown_text known e (refused why) i = of_text (ExprFails known e) (refused why) (expr_of_text known e) i
shown_text known e reply i = absurd i

pub queried_text : (known : Known) (s : QuerySource) (reply : Reply) → IsQueried known s reply → IsTextReply reply
queried_text known s (shows_query shown) i =
    record { not_down = λ n x. cc; not_fault = λ x. cc; not_ok = λ ok. ok; not_done = λ ok. ok }
queried_text known s (refused why) i = of_text (QueryFails known s) (refused why) (query_of_text known s) i
queried_text known s reply i = absurd i

pub parsed_text : (text : List ℕ) (reply : Reply) → IsParsed text reply → IsTextReply reply
parsed_text text (shows_tokens tokens) i =
    record { not_down = λ n x. cc; not_fault = λ x. cc; not_ok = λ ok. ok; not_done = λ ok. ok }
parsed_text text reply i = absurd i

pub defined_text : (known : Known) (line : ℕ) (head : OpeningLine) (ls : List Line) (reply : Reply)
    → IsDefined known line head ls reply → IsTextReply reply
defined_text known line (dictionary_opening name kind) ls (refused (down count)) i = absurd i
defined_text known line (configuration_opening name) ls (refused (down count)) i = absurd i
defined_text known line (dictionary_opening name kind) ls (refused device) i = absurd i
defined_text known line (configuration_opening name) ls (refused device) i = absurd i
defined_text known line head ls (refused why) i =
    record { not_down = λ n x. cc; not_fault = λ x. cc; not_ok = λ ok. ok; not_done = λ ok. ok }
defined_text known line head ls done i =
    record { not_down = λ n x. cc; not_fault = λ x. cc; not_ok = λ ok. ok; not_done = λ ok. ok }
defined_text known line (dictionary_opening name kind) ls reply i = absurd i
defined_text known line (configuration_opening name) ls reply i = absurd i

pub line_text : (at : ℕ) → IsTextReply (refused (no_statement at))
line_text at = record { not_down = λ n x. cc; not_fault = λ x. cc; not_ok = λ ok. ok; not_done = λ ok. ok }
