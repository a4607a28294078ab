use Rattle.std.proofs.Common.{◌≡◌, sym, ◌∙◌, ap, subst}
use Rattle.std.specs.Prelude.{string_bytes}
use Rattle.std.specs.Str.{IsUtf8}
use Rattle.std.proofs.lemmas.Str.{IsUtf8-string_bytes}
use Rattle.porter_stem.specs.Stem.{stem}
use Rattle.porter_stem.proofs.Texts.{stem_utf8}
use Rattle.porter_stem.proofs.dictionary.stem_text.Goals as goal

pub from_utf8_unchecked-requires : goal.from_utf8_unchecked-requires
from_utf8_unchecked-requires c =
    let bytes : c.stem.new.word.items ≡ stem (string_bytes c.args.word) =
    c.stem.ensures ∙ ap (λ v. stem v.items) c.into_bytes-bytes.ensures.value in
    subst IsUtf8 (sym bytes) (stem_utf8 (string_bytes c.args.word) (IsUtf8-string_bytes c.args.word))

pub returns : goal.returns
returns c =
    ap (λ v. v.items) c.from_utf8_unchecked.ensures.value ∙ c.stem.ensures
    ∙ ap (λ v. stem v.items) c.into_bytes-bytes.ensures.value
