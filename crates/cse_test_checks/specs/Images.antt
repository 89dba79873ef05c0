-- Worked images of both versions, and for each rule of the format bytes that break it, with the number and the place.
use Rattle.std.specs.Prelude.{◌≡◌, ℕ, ◌+◌, List, [], ◌∷◌, ◌++◌, length, map, take, drop, codes, replicate, Option, Some, None, Result, Ok, Err}
use Rattle.std.specs.List.{flat_map, range_with_len}
use Rattle.byteorder.specs.Endian.{little_bytes}
use Rattle.cse_image_parts.specs.declared.fault.FieldFault.{FieldFault}
use Rattle.cse_image_parts.specs.Image.{Image}
use Rattle.cse_image.specs.Place.{placed}
use Rattle.cse_image.specs.Reading.{reading}
use Rattle.cse_image.specs.Spelling.{spelling}
use Rattle.cse_image.specs.declared.error.ImageError.{ImageError}
use Rattle.cse_test_checks.specs.Rows.{Gives}

-- the number and the place of the fault of bytes; 0 and 0 for a program
abbrev pub told_of : Result Image ImageError → ℕ × ℕ
told_of (Ok x) = (0, 0)
told_of (Err e) = (e.number, e.at)

abbrev pub told : List ℕ → ℕ × ℕ
told bytes = told_of (placed (length bytes) (reading bytes))

-- lists "Hi" in the application's preproc: one message, one routine of two instructions, one event; in version 1
abbrev pub hello_one : List ℕ
hello_one =
    -- header
    67 ∷ 83 ∷ 69 ∷ 66 ∷ 1 ∷ 0 ∷ 0 ∷ 0
    -- records, items, sets, order
    ∷ 0 ∷ 0 ∷ 0 ∷ 0 ∷ 0 ∷ 0 ∷ 0 ∷ 0 ∷ 0 ∷ 0 ∷ 0 ∷ 0 ∷ 0 ∷ 0 ∷ 0 ∷ 0
    -- constants, texts, globals, arrays
    ∷ 0 ∷ 0 ∷ 0 ∷ 0 ∷ 0 ∷ 0 ∷ 0 ∷ 0 ∷ 0 ∷ 0 ∷ 0 ∷ 0 ∷ 0 ∷ 0 ∷ 0 ∷ 0
    -- messages
    ∷ 1 ∷ 0 ∷ 0 ∷ 0 ∷ 0 ∷ 0 ∷ 0 ∷ 0 ∷ 0 ∷ 0 ∷ 2 ∷ 0 ∷ 72 ∷ 105
    -- routines
    ∷ 1 ∷ 0 ∷ 0 ∷ 0 ∷ 0 ∷ 0 ∷ 0 ∷ 0 ∷ 2 ∷ 0 ∷ 0 ∷ 0
    -- events
    ∷ 1 ∷ 0 ∷ 0 ∷ 0 ∷ 0 ∷ 0 ∷ 0 ∷ 0 ∷ 0 ∷ 0 ∷ 0 ∷ 0
    -- Message 0
    ∷ 37 ∷ 0 ∷ 0 ∷ 0 ∷ 0 ∷ 0 ∷ 0 ∷ 0
    -- Return
    ∷ 40 ∷ 0 ∷ 0 ∷ 0 ∷ 0 ∷ 0 ∷ 0 ∷ 0 ∷ []

-- the same in version 2
abbrev pub hello : List ℕ
hello =
    -- header
    67 ∷ 83 ∷ 69 ∷ 66 ∷ 2 ∷ 0 ∷ 0 ∷ 0
    -- records, items, sets, order
    ∷ 0 ∷ 0 ∷ 0 ∷ 0 ∷ 0 ∷ 0 ∷ 0 ∷ 0 ∷ 0 ∷ 0 ∷ 0 ∷ 0 ∷ 0 ∷ 0 ∷ 0 ∷ 0
    -- constants, limits, texts, globals
    ∷ 0 ∷ 0 ∷ 0 ∷ 0 ∷ 0 ∷ 0 ∷ 0 ∷ 0 ∷ 0 ∷ 0 ∷ 0 ∷ 0 ∷ 0 ∷ 0 ∷ 0 ∷ 0
    -- arrays
    ∷ 0 ∷ 0 ∷ 0 ∷ 0
    -- messages
    ∷ 1 ∷ 0 ∷ 0 ∷ 0 ∷ 0 ∷ 0 ∷ 0 ∷ 0 ∷ 0 ∷ 0 ∷ 2 ∷ 0 ∷ 72 ∷ 105
    -- routines
    ∷ 1 ∷ 0 ∷ 0 ∷ 0 ∷ 0 ∷ 0 ∷ 0 ∷ 0 ∷ 2 ∷ 0 ∷ 0 ∷ 0
    -- events
    ∷ 1 ∷ 0 ∷ 0 ∷ 0 ∷ 0 ∷ 0 ∷ 0 ∷ 0 ∷ 0 ∷ 0 ∷ 0 ∷ 0
    -- Message 0
    ∷ 37 ∷ 0 ∷ 0 ∷ 0 ∷ 0 ∷ 0 ∷ 0 ∷ 0
    -- Return
    ∷ 40 ∷ 0 ∷ 0 ∷ 0 ∷ 0 ∷ 0 ∷ 0 ∷ 0 ∷ []

-- a counting loop of at most 3 turns, in version 1
abbrev pub loop_one : List ℕ
loop_one =
    -- header
    67 ∷ 83 ∷ 69 ∷ 66 ∷ 1 ∷ 0 ∷ 0 ∷ 0
    -- records, items, sets, order
    ∷ 0 ∷ 0 ∷ 0 ∷ 0 ∷ 0 ∷ 0 ∷ 0 ∷ 0 ∷ 0 ∷ 0 ∷ 0 ∷ 0 ∷ 0 ∷ 0 ∷ 0 ∷ 0
    -- constants
    ∷ 1 ∷ 0 ∷ 0 ∷ 0 ∷ 0 ∷ 0 ∷ 0 ∷ 0 ∷ 0 ∷ 0 ∷ 0 ∷ 0
    -- texts, globals, arrays, messages
    ∷ 0 ∷ 0 ∷ 0 ∷ 0 ∷ 0 ∷ 0 ∷ 0 ∷ 0 ∷ 0 ∷ 0 ∷ 0 ∷ 0 ∷ 0 ∷ 0 ∷ 0 ∷ 0
    -- routines
    ∷ 1 ∷ 0 ∷ 0 ∷ 0 ∷ 0 ∷ 0 ∷ 0 ∷ 0 ∷ 4 ∷ 0 ∷ 0 ∷ 0
    -- events
    ∷ 1 ∷ 0 ∷ 0 ∷ 0 ∷ 0 ∷ 0 ∷ 0 ∷ 0 ∷ 0 ∷ 0 ∷ 0 ∷ 0
    -- Number 0
    ∷ 1 ∷ 0 ∷ 0 ∷ 0 ∷ 0 ∷ 0 ∷ 0 ∷ 0
    -- LoopCount 3, 2
    ∷ 41 ∷ 0 ∷ 3 ∷ 0 ∷ 2 ∷ 0 ∷ 0 ∷ 0
    -- End 1
    ∷ 43 ∷ 0 ∷ 0 ∷ 0 ∷ 1 ∷ 0 ∷ 0 ∷ 0
    -- Return
    ∷ 40 ∷ 0 ∷ 0 ∷ 0 ∷ 0 ∷ 0 ∷ 0 ∷ 0 ∷ []

-- the same in version 2: the limits are 1, 2, 3, and the loop names the last
abbrev pub loop : List ℕ
loop =
    -- header
    67 ∷ 83 ∷ 69 ∷ 66 ∷ 2 ∷ 0 ∷ 0 ∷ 0
    -- records, items, sets, order
    ∷ 0 ∷ 0 ∷ 0 ∷ 0 ∷ 0 ∷ 0 ∷ 0 ∷ 0 ∷ 0 ∷ 0 ∷ 0 ∷ 0 ∷ 0 ∷ 0 ∷ 0 ∷ 0
    -- constants
    ∷ 1 ∷ 0 ∷ 0 ∷ 0 ∷ 0 ∷ 0 ∷ 0 ∷ 0 ∷ 0 ∷ 0 ∷ 0 ∷ 0
    -- limits
    ∷ 3 ∷ 0 ∷ 0 ∷ 0 ∷ 1 ∷ 0 ∷ 0 ∷ 0 ∷ 2 ∷ 0 ∷ 0 ∷ 0 ∷ 3 ∷ 0 ∷ 0 ∷ 0
    -- texts, globals, arrays, messages
    ∷ 0 ∷ 0 ∷ 0 ∷ 0 ∷ 0 ∷ 0 ∷ 0 ∷ 0 ∷ 0 ∷ 0 ∷ 0 ∷ 0 ∷ 0 ∷ 0 ∷ 0 ∷ 0
    -- routines
    ∷ 1 ∷ 0 ∷ 0 ∷ 0 ∷ 0 ∷ 0 ∷ 0 ∷ 0 ∷ 4 ∷ 0 ∷ 0 ∷ 0
    -- events
    ∷ 1 ∷ 0 ∷ 0 ∷ 0 ∷ 0 ∷ 0 ∷ 0 ∷ 0 ∷ 0 ∷ 0 ∷ 0 ∷ 0
    -- Number 0
    ∷ 1 ∷ 0 ∷ 0 ∷ 0 ∷ 0 ∷ 0 ∷ 0 ∷ 0
    -- LoopCount, place 2, 2
    ∷ 41 ∷ 0 ∷ 2 ∷ 0 ∷ 2 ∷ 0 ∷ 0 ∷ 0
    -- End 1
    ∷ 43 ∷ 0 ∷ 0 ∷ 0 ∷ 1 ∷ 0 ∷ 0 ∷ 0
    -- Return
    ∷ 40 ∷ 0 ∷ 0 ∷ 0 ∷ 0 ∷ 0 ∷ 0 ∷ 0 ∷ []

-- Each section of version 1 has an entry or two; in front of a line, the place of its first byte.
abbrev pub full : List ℕ
full =
    -- 0: header
    67 ∷ 83 ∷ 69 ∷ 66 ∷ 1 ∷ 0 ∷ 0 ∷ 0
    -- 8: records
    ∷ 1 ∷ 0 ∷ 0 ∷ 0 ∷ 30 ∷ 0 ∷ 0 ∷ 0 ∷ 12 ∷ 0 ∷ 0 ∷ 0
    -- 20: items
    ∷ 1 ∷ 0 ∷ 0 ∷ 0 ∷ 0 ∷ 1 ∷ 1 ∷ 0 ∷ 5 ∷ 0 ∷ 0 ∷ 0
    -- 32: sets
    ∷ 1 ∷ 0 ∷ 0 ∷ 0 ∷ 0 ∷ 0 ∷ 2 ∷ 0 ∷ 0 ∷ 0 ∷ 0 ∷ 0
    -- 44: order
    ∷ 1 ∷ 0 ∷ 0 ∷ 0 ∷ 0 ∷ 0 ∷ 0 ∷ 0
    -- 52: constants, -2
    ∷ 1 ∷ 0 ∷ 0 ∷ 0 ∷ 254 ∷ 255 ∷ 255 ∷ 255 ∷ 255 ∷ 255 ∷ 255 ∷ 255
    -- 64: texts, "hi"
    ∷ 1 ∷ 0 ∷ 0 ∷ 0 ∷ 2 ∷ 0 ∷ 104 ∷ 105
    -- 72: globals, a number and a text
    ∷ 2 ∷ 0 ∷ 0 ∷ 0 ∷ 1 ∷ 0 ∷ 0 ∷ 0 ∷ 2 ∷ 0 ∷ 5 ∷ 0
    -- 84: arrays
    ∷ 2 ∷ 0 ∷ 0 ∷ 0
    -- 88: A(3, 2) = 7
    ∷ 1 ∷ 2 ∷ 1 ∷ 0 ∷ 3 ∷ 0 ∷ 2 ∷ 0 ∷ 65 ∷ 1 ∷ 0 ∷ 0 ∷ 0 ∷ 7 ∷ 0 ∷ 0 ∷ 0 ∷ 0 ∷ 0 ∷ 0 ∷ 0
    -- 109: B(4)
    ∷ 0 ∷ 1 ∷ 1 ∷ 0 ∷ 4 ∷ 0 ∷ 66 ∷ 0 ∷ 0 ∷ 0 ∷ 0
    -- 120: messages, "%d"
    ∷ 1 ∷ 0 ∷ 0 ∷ 0 ∷ 9 ∷ 0 ∷ 0 ∷ 0 ∷ 1 ∷ 0 ∷ 2 ∷ 0 ∷ 37 ∷ 100
    -- 134: routines
    ∷ 2 ∷ 0 ∷ 0 ∷ 0
    -- 138: a local number, one instruction
    ∷ 0 ∷ 0 ∷ 0 ∷ 1 ∷ 1 ∷ 0 ∷ 0 ∷ 0 ∷ 1 ∷ 0 ∷ 0 ∷ 0
    -- 150: an occurrence and a text, two
    ∷ 1 ∷ 1 ∷ 1 ∷ 2 ∷ 3 ∷ 0 ∷ 0 ∷ 0 ∷ 2 ∷ 0 ∷ 255 ∷ 0 ∷ 2 ∷ 0 ∷ 0 ∷ 0
    -- 166: events
    ∷ 2 ∷ 0 ∷ 0 ∷ 0 ∷ 0 ∷ 0 ∷ 0 ∷ 0 ∷ 0 ∷ 0 ∷ 0 ∷ 0 ∷ 6 ∷ 0 ∷ 0 ∷ 0 ∷ 1 ∷ 0 ∷ 0 ∷ 0
    -- 186: Return
    ∷ 40 ∷ 0 ∷ 0 ∷ 0 ∷ 0 ∷ 0 ∷ 0 ∷ 0
    -- 194: Number 0
    ∷ 1 ∷ 0 ∷ 0 ∷ 0 ∷ 0 ∷ 0 ∷ 0 ∷ 0
    -- 202: Return
    ∷ 40 ∷ 0 ∷ 0 ∷ 0 ∷ 0 ∷ 0 ∷ 0 ∷ 0 ∷ []

-- the bytes with these from a place on
abbrev pub changed : List ℕ → ℕ → List ℕ → List ℕ
changed image at new = take at image ++ new ++ drop (at + length new) image

-- a row: a place, the bytes that stand there instead, and the number and the place of the fault
abbrev pub Tells : List ℕ → List (ℕ × List ℕ × ℕ × ℕ) → Type 0
Tells image rows = map (λ r. told (changed image r.0 r.1)) rows ≡ map (λ r. (r.2, r.3)) rows

-- a place outside the table of limits is nothing to the reader
abbrev pub loop_faults : List (ℕ × List ℕ × ℕ × ℕ)
loop_faults =
    (4, 3 ∷ [], 60, 4) ∷ (4, 0 ∷ [], 60, 4) ∷ (36, 1 ∷ 0 ∷ 1 ∷ [], 64, 36)
    ∷ (36, 255 ∷ 255 ∷ 255 ∷ 255 ∷ [], 64, 36) ∷ (40, 0 ∷ [], 63, 40) ∷ (48, 0 ∷ [], 63, 48)
    ∷ (40, 255 ∷ 255 ∷ 255 ∷ 255 ∷ [], 0, 0) ∷ (73, 2 ∷ [], 0, 0) ∷ (73, 3 ∷ [], 63, 73)
    ∷ (102, 3 ∷ [], 0, 0) ∷ (102, 255 ∷ 255 ∷ [], 0, 0) ∷ []

-- in version 1 b is the limit, from 1, and no routine gives a text
abbrev pub loop_one_faults : List (ℕ × List ℕ × ℕ × ℕ)
loop_one_faults =
    (57, 1 ∷ [], 0, 0) ∷ (57, 2 ∷ [], 63, 57) ∷ (86, 0 ∷ [], 63, 86)
    ∷ (86, 255 ∷ 255 ∷ [], 0, 0) ∷ []

-- Cells: an array alone, and both together, whose first alone has as many as may be; and a dimension 0 after as many.
abbrev pub full_faults : List (ℕ × List ℕ × ℕ × ℕ)
full_faults =
    (0, 88 ∷ [], 60, 0) ∷ (3, 88 ∷ [], 60, 0) ∷ (4, 3 ∷ [], 60, 4)
    ∷ (5, 1 ∷ [], 60, 4) ∷ (6, 1 ∷ [], 63, 6) ∷ (7, 1 ∷ [], 63, 6)
    ∷ (8, 201 ∷ [], 64, 8) ∷ (14, 1 ∷ [], 63, 14) ∷ (15, 1 ∷ [], 63, 14)
    ∷ (20, 17 ∷ 39 ∷ [], 64, 20) ∷ (25, 3 ∷ [], 63, 25) ∷ (32, 17 ∷ 39 ∷ [], 64, 32)
    ∷ (40, 2 ∷ [], 63, 40) ∷ (41, 1 ∷ [], 63, 41) ∷ (43, 1 ∷ [], 63, 41)
    ∷ (44, 201 ∷ [], 64, 44) ∷ (52, 1 ∷ 0 ∷ 1 ∷ [], 64, 52) ∷ (52, 255 ∷ 255 ∷ 255 ∷ 255 ∷ [], 64, 52)
    ∷ (64, 1 ∷ 0 ∷ 1 ∷ [], 64, 64) ∷ (68, 255 ∷ 255 ∷ [], 61, 210) ∷ (71, 31 ∷ [], 63, 70)
    ∷ (71, 255 ∷ [], 63, 70) ∷ (72, 1 ∷ 0 ∷ 1 ∷ [], 64, 72) ∷ (76, 0 ∷ [], 63, 76)
    ∷ (76, 3 ∷ [], 63, 76) ∷ (77, 1 ∷ [], 63, 77) ∷ (78, 1 ∷ [], 63, 78)
    ∷ (82, 0 ∷ [], 63, 82) ∷ (82, 0 ∷ 1 ∷ [], 63, 82) ∷ (84, 1 ∷ 16 ∷ [], 64, 84)
    ∷ (88, 2 ∷ [], 63, 88) ∷ (89, 0 ∷ [], 64, 89) ∷ (89, 4 ∷ [], 64, 89)
    ∷ (91, 1 ∷ [], 63, 91) ∷ (92, 0 ∷ [], 63, 92) ∷ (94, 0 ∷ [], 63, 94)
    ∷ (92, 255 ∷ 255 ∷ 255 ∷ 255 ∷ [], 64, 94) ∷ (92, 232 ∷ 3 ∷ 232 ∷ 3 ∷ [], 64, 113) ∷ (92, 232 ∷ 3 ∷ 232 ∷ 3 ∷ 65 ∷ 1 ∷ 0 ∷ 0 ∷ 0 ∷ 7 ∷ 0 ∷ 0 ∷ 0 ∷ 0 ∷ 0 ∷ 0 ∷ 0 ∷ 0 ∷ 1 ∷ 1 ∷ 0 ∷ 0 ∷ [], 63, 113)
    ∷ (96, 97 ∷ [], 63, 96) ∷ (96, 49 ∷ [], 63, 96) ∷ (90, 0 ∷ [], 63, 96)
    ∷ (90, 33 ∷ [], 63, 96) ∷ (115, 65 ∷ [], 63, 115) ∷ (97, 7 ∷ [], 64, 97)
    ∷ (120, 1 ∷ 0 ∷ 1 ∷ [], 64, 120) ∷ (128, 2 ∷ [], 63, 128) ∷ (129, 1 ∷ [], 63, 129)
    ∷ (132, 10 ∷ [], 63, 132) ∷ (134, 1 ∷ 16 ∷ [], 64, 134) ∷ (138, 2 ∷ [], 63, 138)
    ∷ (139, 2 ∷ [], 63, 139) ∷ (140, 2 ∷ [], 63, 141) ∷ (142, 0 ∷ [], 63, 142)
    ∷ (142, 3 ∷ [], 63, 142) ∷ (143, 1 ∷ [], 63, 143) ∷ (144, 1 ∷ [], 63, 144)
    ∷ (146, 0 ∷ [], 64, 146) ∷ (146, 65 ∷ 66 ∷ 15 ∷ [], 64, 146) ∷ (146, 64 ∷ 66 ∷ 15 ∷ [], 64, 162)
    ∷ (158, 4 ∷ [], 63, 158) ∷ (160, 0 ∷ [], 63, 160) ∷ (160, 0 ∷ 1 ∷ [], 63, 160)
    ∷ (166, 81 ∷ 195 ∷ [], 64, 166) ∷ (170, 8 ∷ [], 63, 170) ∷ (171, 1 ∷ [], 63, 171)
    ∷ (170, 7 ∷ [], 63, 180) ∷ (178, 0 ∷ [], 63, 180) ∷ (186, 46 ∷ [], 63, 186)
    ∷ (187, 1 ∷ [], 63, 187) ∷ (189, 1 ∷ [], 63, 188) ∷ (193, 1 ∷ [], 63, 190) ∷ []

-- the bytes of the program that bytes stand for, in version 2
abbrev pub written : Result Image FieldFault → Option (List ℕ)
written (Ok x) = Some (spelling x)
written (Err f) = None

abbrev pub rewritten : List ℕ → Option (List ℕ)
rewritten bytes = written (reading bytes)

-- each beginning of an image ends too early
abbrev pub EndsEarly : List ℕ → Type 0
EndsEarly image = map (λ n. told (take n image)) (range_with_len 0 (length image)) ≡ map (λ n. (61, n)) (range_with_len 0 (length image))

-- what stands before a text in the section of texts, and around the text of a message
abbrev pub before_text : List ℕ
before_text = take 28 hello ++ replicate 4 0 ++ 1 ∷ 0 ∷ 0 ∷ 0 ∷ []

-- a piece of a text, so often, with its length
abbrev pub long : List ℕ × ℕ → List ℕ
long p = let text = flat_map (λ n. p.0) (range_with_len 0 p.1) in little_bytes 2 (length text) ++ text

abbrev pub in_message : List ℕ × ℕ → ℕ × ℕ
in_message p = told (take 54 hello ++ long p ++ drop 58 hello)

abbrev pub in_text : List ℕ × ℕ → ℕ × ℕ
in_text p = told (before_text ++ long p ++ drop 36 hello)

-- U+00E9, in UTF-8
abbrev pub accented : List ℕ
accented = 195 ∷ 169 ∷ []

-- texts as those of messages, and as texts of the program
abbrev pub messages : List ((List ℕ × ℕ) × (ℕ × ℕ))
messages =
    ((codes "a", 255), (0, 0)) ∷ ((codes "a", 256), (64, 56)) ∷ ((accented, 255), (0, 0)) ∷ ((accented, 256), (64, 56))
    ∷ ((codes "\n", 256), (63, 56)) ∷ ((codes "%d", 16), (0, 0)) ∷ ((codes "%s", 17), (64, 56)) ∷ ((codes "%%", 100), (0, 0)) ∷ []

abbrev pub texts : List ((List ℕ × ℕ) × (ℕ × ℕ))
texts =
    ((codes "a", 255), (0, 0)) ∷ ((codes "a", 256), (64, 38)) ∷ ((accented, 255), (0, 0)) ∷ ((accented, 256), (64, 38))
    ∷ ((codes "\n", 256), (63, 38)) ∷ ((codes "%d", 16), (0, 0)) ∷ ((codes "%s", 17), (0, 0)) ∷ ((codes "%%", 100), (0, 0)) ∷ []

pub record ImagesAreWorked : Type 0 where
  pub rules_are : Tells full full_faults
  pub rules_of_loops_are : Tells loop loop_faults
  pub rules_of_version_one_are : Tells loop_one loop_one_faults
  pub version_two_is_written : Gives rewritten ((hello, Some hello) ∷ (hello_one, Some hello) ∷ (loop, Some loop) ∷ (loop_one, Some loop) ∷ [])
  pub hello_ends_early : EndsEarly hello
  pub hello_one_ends_early : EndsEarly hello_one
  pub loop_ends_early : EndsEarly loop
  pub full_ends_early : EndsEarly full
  pub one_byte_is_left : told (hello ++ 0 ∷ []) ≡ (62, 98)
  pub messages_are : Gives in_message messages
  pub texts_are : Gives in_text texts
