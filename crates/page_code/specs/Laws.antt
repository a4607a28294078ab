-- Reading gives what is encoded, and all of it.
use Rattle.std.specs.Prelude.{◌≡◌, ◌<◌, ℕ, List, get_or, Ok}
use Rattle.page_types.specs.Encoding.{page_bytes}
use Rattle.page_types.specs.Pages.{IsPage}
use Rattle.page_types.specs.declared.page.Page.{Page}
use Rattle.page_code.specs.Reading.{page_at}

abbrev pub AreBytes : List ℕ → Type 0
AreBytes bytes = (i : ℕ) → get_or bytes i 0 < 256

-- the bytes are the encoding of this page
pub record Encodes (bytes : List ℕ) (p : Page) : Type 0 where
  pub is_page : IsPage p
  pub encoded : bytes ≡ page_bytes p

-- what is read is encoded so
abbrev pub ReadingIsEncoded : Type 0
ReadingIsEncoded = (bytes : List ℕ) (p : Page) → AreBytes bytes → page_at bytes ≡ Ok p → Encodes bytes p

-- what is encoded so is read
abbrev pub EncodingIsRead : Type 0
EncodingIsRead = (p : Page) → IsPage p → page_at (page_bytes p) ≡ Ok p
