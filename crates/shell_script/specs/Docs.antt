-- The names of documents, as lines have them.
use Rattle.std.specs.Prelude.{◌≡◌, ℕ, ◌^◌, ◌<◌, List, ◌++◌, codes}
use Rattle.std.specs.Str.Parse.{IsNumeral, digits_value}
use Rattle.page_types.specs.declared.page.Name.{Name}

-- the text of a name, and what it names
pub record Doc : Type 0 where
  pub text : List ℕ
  pub name : Name

-- decimal digits, which may begin with zeros, of this number, which is below a bound
pub record IsDecimal (digits : List ℕ) (number bound : ℕ) : Type 0 where
  pub numeral : IsNumeral 10 digits
  pub value : digits_value 10 digits ≡ number
  pub below : number < bound

-- a page, `/`, a slot, `#` and a serial
pub record IsDoc (d : Doc) : Type 0 where
  pub page : List ℕ
  pub slot : List ℕ
  pub serial : List ℕ
  pub text : d.text ≡ page ++ (codes "/" ++ (slot ++ (codes "#" ++ serial)))
  pub page_is : IsDecimal page d.name.page (2 ^ 32)
  pub slot_is : IsDecimal slot d.name.slot (2 ^ 16)
  pub serial_is : IsDecimal serial d.name.serial (2 ^ 64)
