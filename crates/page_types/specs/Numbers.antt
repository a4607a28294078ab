-- Numbers as bytes, the little end first, and the limits of the formats.
use Rattle.std.specs.Prelude.{ℕ, ◌-◌, ◌^◌, List, replicate}
use Rattle.byteorder.specs.Endian.{little_bytes}

-- a number in two bytes
unfoldable pub u16_bytes : ℕ → List ℕ
u16_bytes n = little_bytes 2 n

-- a number in four bytes
unfoldable pub u32_bytes : ℕ → List ℕ
u32_bytes n = little_bytes 4 n

-- a number in eight bytes
unfoldable pub u64_bytes : ℕ → List ℕ
u64_bytes n = little_bytes 8 n

-- so many zero bytes
unfoldable pub zeros : ℕ → List ℕ
zeros n = replicate n 0

-- the bytes of a page, those before its body, and the most of its body
abbrev pub page_size : ℕ
page_size = 8192

abbrev pub front_size : ℕ
front_size = 24

abbrev pub most_body : ℕ
most_body = 8168

-- pages are numbered below this
abbrev pub page_limit : ℕ
page_limit = 2 ^ 20

-- an item is page * 2048 + slot, the slot below 2048
abbrev pub item_limit : ℕ
item_limit = 2 ^ 31

abbrev pub most_slots : ℕ
most_slots = 2048

-- a vector of at most so many bytes is in its head
abbrev pub most_short : ℕ
most_short = 2000

-- the most bytes of an item list that is in its entry
abbrev pub most_inline : ℕ
most_inline = 1000

-- the most bytes of a key's text
abbrev pub most_key_text : ℕ
most_key_text = 2046

-- the bound of an item that is no bound
abbrev pub no_bound : ℕ
no_bound = 2 ^ 32 - 1
