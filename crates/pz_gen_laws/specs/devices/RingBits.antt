-- The text of a ring, bit by bit.
use Rattle.std.specs.Prelude.{ℕ, List, [], ◌∷◌, ◌++◌, Bool, ◌==◌, if◌then◌else◌, codes}
use Rattle.std.specs.List.{flat_map, range_with_len}
use Rattle.pz_gen.specs.Ring as ring
use Rattle.pz_gen_laws.specs.devices.Bits.{Bit, blank, word, sign, station, cut}

-- the classes, and the head of the system
abbrev pub classes : List Bit
classes = cut ring.classes

-- the numbers of the stations
abbrev pub stations : ℕ → List ℕ
stations n = range_with_len 0 n

-- the instance of a station, and whether it is the first
abbrev pub instance_of : ℕ → Bool → List Bit
instance_of i first =
    station i ∷ blank 32 ∷ sign (codes ":") ∷ blank 32 ∷ word (codes "Station") ∷ sign (codes "(") ∷
    word (codes "first") ∷ blank 32 ∷ sign (codes ":=") ∷ blank 32 ∷
    word (if first then codes "true" else codes "false") ∷ sign (codes ")") ∷ blank 10 ∷ []

abbrev pub instance : ℕ → List Bit
instance i = instance_of i (i == 0)

-- the supervisor, and the head of the channels
abbrev pub supervisor : List Bit
supervisor = cut (ring.lines (codes "v : Supervisor" ∷ codes "channels" ∷ []))

-- the channel from station i to station j
abbrev pub channel_to : ℕ → ℕ → List Bit
channel_to i j =
    sign (codes "{") ∷ station i ∷ sign (codes ".") ∷ word (codes "right") ∷ sign (codes ",") ∷ blank 32 ∷
    station j ∷ sign (codes ".") ∷ word (codes "left") ∷ sign (codes "}") ∷ blank 10 ∷ []

abbrev pub channel : ℕ → ℕ → List Bit
channel n i = channel_to i (ring.next n i)

abbrev pub halted_end : ℕ → List Bit
halted_end i = sign (codes ",") ∷ blank 32 ∷ station i ∷ sign (codes ".") ∷ word (codes "sup") ∷ []

abbrev pub halting_begin : List Bit
halting_begin = sign (codes "{") ∷ word (codes "v") ∷ sign (codes ".") ∷ word (codes "sup") ∷ []

abbrev pub line_end : List Bit
line_end = sign (codes "}") ∷ blank 10 ∷ []

abbrev pub halting : List ℕ → List Bit
halting is = halting_begin ++ (flat_map halted_end is ++ line_end)

abbrev pub all_channels : ℕ → List Bit
all_channels n = flat_map (channel n) (stations n) ++ halting (stations n)

abbrev pub after_stations : ℕ → List Bit
after_stations n = supervisor ++ all_channels n

abbrev pub after_classes : ℕ → List Bit
after_classes n = flat_map instance (stations n) ++ after_stations n

abbrev pub bits : ℕ → List Bit
bits n = classes ++ after_classes n
