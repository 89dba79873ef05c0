-- What a report makes of a listing.
use Rattle.std.proofs.Common.{◌≡◌, ℕ, ◌<◌, true, false, List, [], ◌∷◌, ◌++◌, length, get_or, Some, option_map, refl, ap, ◌∙◌}
use Rattle.std.specs.Prelude.{map, slice_get, slice_set, slice_index}
use Rattle.std.proofs.lemmas.Option.{slice_get-map, slice_get_read}
use Rattle.cse_image_parts.specs.declared.entries.Message.{Message}
use Rattle.cse_image_parts.specs.Image.{MessageLists, message_lists}
use Rattle.cse_report.specs.declared.argument.Arg.{Arg}
use Rattle.cse_report.specs.MessageText.{message_text}
use Rattle.cse_report.specs.Counts.{one_more}
use Rattle.cse_report.specs.Listing.{Gives, is_listed, message_line}
use Rattle.cse_report.specs.Held.{Held, reported}

abbrev pub held : List MessageLists → List ℕ → List ℕ → List ℕ → List (List ℕ) → Held
held messages counts heading lines texts = record { messages = messages; counts = counts; heading = heading; lines = lines; texts = texts }

pub same_held : (m : List MessageLists) (c d h i l k : List ℕ) (t u : List (List ℕ)) → c ≡ d → h ≡ i → l ≡ k → t ≡ u → held m c h l t ≡ held m d i k u
same_held m c d h i l k t u p q r s =
    ap (λ (x : List ℕ). held m x h l t) p ∙ (ap (λ (x : List ℕ). held m d x l t) q ∙ (ap (λ (x : List ℕ). held m d i x t) r ∙ ap (λ (x : List (List ℕ)). held m d i k x) s))

-- the message of a number
pub message_there : (messages : List Message) (i : ℕ) (m : Message) → i < length messages → m ≡ get_or messages i m → slice_get (map message_lists messages) i ≡ Some (message_lists m)
message_there messages i m h at = slice_get-map message_lists messages i ∙ ap (option_map message_lists) (slice_get_read messages (length messages) i m refl h at)

-- a message that is only counted
pub reported-counted : (h : Held) (i : ℕ) (args : List Arg) (m : MessageLists) → slice_get h.messages i ≡ Some m → m.summary ≡ true
    → reported h (Gives i args) ≡ held h.messages (slice_set h.counts i (one_more (slice_index h.counts i))) h.heading (h.lines ++ []) (h.texts ++ [])
reported-counted h i args m e s = rw (e, s) refl

-- a message that is listed
pub reported-listed : (h : Held) (i : ℕ) (args : List Arg) (m : MessageLists) → slice_get h.messages i ≡ Some m → m.summary ≡ false
    → reported h (Gives i args) ≡ held h.messages (slice_set h.counts i (one_more (slice_index h.counts i))) []
    (h.lines ++ (h.heading ++ message_line m.number (message_text m.text args))) (h.texts ++ message_text m.text args ∷ [])
reported-listed h i args m e s = rw (e, s) refl

pub is_listed-there : (messages : List MessageLists) (i : ℕ) (m : MessageLists) → slice_get messages i ≡ Some m → m.summary ≡ false → is_listed messages i ≡ true
is_listed-there messages i m e s = rw (e, s) refl

-- a message that isn't listed, whatever its arguments
pub reported-unlisted : (h : Held) (i : ℕ) (args : List Arg) → is_listed h.messages i ≡ false
    → reported h (Gives i args) ≡ held h.messages (slice_set h.counts i (one_more (slice_index h.counts i))) h.heading (h.lines ++ []) (h.texts ++ [])
reported-unlisted h i args e = rw e refl
