-- Texts and names, as the bytes of their UTF-8.
use Rattle.std.specs.Prelude.{ℕ, Bool, not, ◌&&◌, ◌||◌, ◌==◌, List, length, nat_le, slice_index}
use Rattle.std.specs.List.{list_all, list_any}
use Rattle.std.specs.Str.{is_utf8, chars, bytes_eq}
use Rattle.cse_image_parts.specs.Limits.{most_characters, most_name_bytes}
use Rattle.cse_image_parts.specs.Image.{ArrayLists}

-- UTF-8 without characters below U+0020
unfoldable pub is_text : List ℕ → Bool
is_text bytes = is_utf8 bytes && list_all (λ c. nat_le 32 c) (chars bytes)

-- at most 255 characters
unfoldable pub is_short : List ℕ → Bool
is_short bytes = nat_le (length (chars bytes)) most_characters

abbrev pub is_upper : ℕ → Bool
is_upper c = nat_le 65 c && nat_le c 90

-- an upper case letter, a digit or _
abbrev pub is_name_char : ℕ → Bool
is_name_char c = (is_upper c || (nat_le 48 c && nat_le c 57)) || (c == 95)

-- an upper case letter, with upper case letters, digits and _, at most 32 in all
unfoldable pub is_name : List ℕ → Bool
is_name name = (is_upper (slice_index name 0) && list_all is_name_char name) && nat_le (length name) most_name_bytes

-- no array before has this name
unfoldable pub is_new : List ArrayLists → List ℕ → Bool
is_new before name = not (list_any (λ x. bytes_eq x.name name) before)
