-- The replies to statements.
use Rattle.std.specs.Prelude.{ℕ, List}
use Rattle.ts_parser.specs.declared.iter.Token.{Token}
use Rattle.page_types.specs.declared.page.Name.{Name}

-- What is at fault in a statement's text: refusals 2, 3 and 6 with the offset of the fault,
-- 7 with the size of the vector, and 8.
pub data TextFault : Type 0 where
  bad_vector : ℕ → TextFault
  bad_query : ℕ → TextFault
  long_lexeme : ℕ → TextFault
  large_vector : ℕ → TextFault
  large_query : TextFault

-- The refusals: 1 with the line's number; 4 and 5, where a configuration or a dictionary isn't there;
-- those of texts; 9, 10 with a transaction's number, 11 to 13, 14 with the device's count just after
-- the fault, 15, 16 with a page's number, and 17.
pub data Refusal : Type 0 where
  no_statement : ℕ → Refusal
  no_configuration : Refusal
  no_dictionary : Refusal
  text_refused : TextFault → Refusal
  no_document : Refusal
  conflict : ℕ → Refusal
  store_full : Refusal
  log_full : Refusal
  transactions_spent : Refusal
  down : ℕ → Refusal
  device : Refusal
  bad_page : ℕ → Refusal
  memory : Refusal

-- a commit: the names that it deleted, and those that it inserted
pub record CommitLine : Type 0 where
  pub deleted : List Name
  pub inserted : List Name

-- A vector or a query is shown by its text, a text by its tokens, and commits in their order. What
-- maintains the store is answered so where it came to its end; a definition is done.
pub data Reply : Type 0 where
  stored : Name → Reply
  removed : Reply
  maintained : Reply
  lists : List Name → Reply
  shows_vector : List ℕ → Reply
  shows_query : List ℕ → Reply
  shows_tokens : List Token → Reply
  shows_commits : List CommitLine → Reply
  done : Reply
  refused : Refusal → Reply
