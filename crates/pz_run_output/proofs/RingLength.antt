-- The model of a ring is short enough to be read.
use Rattle.std.proofs.Common.{◌+◌, ◌*◌, ◌-◌, ◌^◌, ◌<◌, ◌≤◌, ℕ, zero, suc, Bool, true, false, ◌==◌, if◌then◌else◌, List, [], ◌∷◌, ◌++◌, length, codes, arith, lit≤, length-append}
use Rattle.std.specs.List.{flat_map, range_with_len}
use Rattle.std.specs.Fmt.{decimal}
use Rattle.std.proofs.lemmas.Fmt.{length-decimal-le}
use Rattle.std.proofs.lemmas.List.Concat.{flat_map-cons}
use Rattle.pz_gen.specs.Ring.{lines, classes, name, is_first, station, next, channel, halted_end, each, halting, model as ring_text}

-- so many texts, none longer than this
short_from : (a n most : ℕ) (f : ℕ → List ℕ) → ((i : ℕ) → i < a + n → length (f i) ≤ most) → length (flat_map f (range_with_len a n)) ≤ n * most
short_from a zero most f short = omega arith
short_from a (suc n) most f short =
    let rest : length (flat_map f (range_with_len (a + 1) n)) ≤ n * most = short_from (a + 1) n most f (λ i within. short i (omega (arith, within))) in
    let first : length (f a) ≤ most = short a (omega arith) in
    rw flat_map-cons (omega (arith, rest, first, length-append (f a) (flat_map f (range_with_len (a + 1) n))))

name_short : (i : ℕ) → i ≤ 1000 → length (name i) ≤ 5
name_short i within =
    let digits : length (decimal i) ≤ 4 = length-decimal-le 4 i (omega arith) (omega (arith, within)) (omega (arith, within)) in
    let letter : length (codes "s") ≤ 1 = lit≤ tt in
    omega (arith, digits, letter, length-append (codes "s") (decimal i))

first_short : (b : Bool) → length (if b then codes "true" else codes "false") ≤ 5
first_short true = lit≤ tt
first_short false = lit≤ tt

next_low : (b : Bool) (i : ℕ) → (if b then 0 else i + 1) ≤ i + 1
next_low true i = omega arith
next_low false i = omega arith

-- texts one behind the other
three : (a b c : List ℕ) (most : ℕ) → length a + length b + length c ≤ most → length (a ++ (b ++ c)) ≤ most
three a b c most short = omega (arith, short, length-append a (b ++ c), length-append b c)

four : (a b c d : List ℕ) (most : ℕ) → length a + length b + length c + length d ≤ most → length (a ++ (b ++ (c ++ d))) ≤ most
four a b c d most short = omega (arith, short, length-append a (b ++ (c ++ d)), length-append b (c ++ d), length-append c d)

five : (a b c d e : List ℕ) (most : ℕ) → length a + length b + length c + length d + length e ≤ most → length (a ++ (b ++ (c ++ (d ++ e)))) ≤ most
five a b c d e most short =
    omega (arith, short, length-append a (b ++ (c ++ (d ++ e))), length-append b (c ++ (d ++ e)), length-append c (d ++ e), length-append d e)

station_short : (i : ℕ) → i ≤ 1000 → length (station i) ≤ 40
station_short i within =
    let named : length (name i) ≤ 5 = name_short i within in
    let class : length (codes " : Station(first := ") ≤ 20 = lit≤ tt in
    let first : length (is_first i) ≤ 5 = first_short (i == 0) in
    let end : length (codes ")\n") ≤ 2 = lit≤ tt in
    four (name i) (codes " : Station(first := ") (is_first i) (codes ")\n") 40 (omega (arith, named, class, first, end))

channel_short : (n i : ℕ) → i + 1 ≤ 1000 → length (channel n i) ≤ 40
channel_short n i within =
    let start : length (codes "{") ≤ 1 = lit≤ tt in
    let from : length (name i) ≤ 5 = name_short i (omega (arith, within)) in
    let right : length (codes ".right, ") ≤ 8 = lit≤ tt in
    let low : next n i ≤ i + 1 = next_low (i + 1 == n) i in
    let to : length (name (next n i)) ≤ 5 = name_short (next n i) (omega (arith, within, low)) in
    let left : length (codes ".left}\n") ≤ 7 = lit≤ tt in
    five (codes "{") (name i) (codes ".right, ") (name (next n i)) (codes ".left}\n") 40 (omega (arith, start, from, right, to, left))

end_short : (i : ℕ) → i ≤ 1000 → length (halted_end i) ≤ 40
end_short i within =
    let comma : length (codes ", ") ≤ 2 = lit≤ tt in
    let named : length (name i) ≤ 5 = name_short i within in
    let port : length (codes ".sup") ≤ 4 = lit≤ tt in
    three (codes ", ") (name i) (codes ".sup") 40 (omega (arith, comma, named, port))

halting_short : (n : ℕ) → n ≤ 1000 → length (halting n) ≤ 40050
halting_short n within =
    let start : length (codes "{v.sup") ≤ 6 = lit≤ tt in
    let ends : length (each n halted_end) ≤ n * 40 = short_from 0 n 40 halted_end (λ i below. end_short i (omega (arith, within, below))) in
    let end : length (codes "}\n") ≤ 2 = lit≤ tt in
    three (codes "{v.sup") (each n halted_end) (codes "}\n") 40050 (omega (arith, within, start, ends, end))

pub ring_is_short : (n : ℕ) → n ≤ 1000 → length (ring_text n) < 2 ^ 32 - 1
ring_is_short n within =
    let heads : length classes ≤ 1000 = lit≤ tt in
    let stations : length (each n station) ≤ n * 40 = short_from 0 n 40 station (λ i below. station_short i (omega (arith, within, below))) in
    let middle : length (lines (codes "v : Supervisor" ∷ codes "channels" ∷ [])) ≤ 40 = lit≤ tt in
    let channels : length (each n (channel n)) ≤ n * 40 = short_from 0 n 40 (channel n) (λ i below. channel_short n i (omega (arith, within, below))) in
    let last : length (halting n) ≤ 40050 = halting_short n within in
    let all : length (ring_text n) ≤ 200000 =
    five classes (each n station) (lines (codes "v : Supervisor" ∷ codes "channels" ∷ [])) (each n (channel n)) (halting n) 200000
    (omega (arith, within, heads, stations, middle, channels, last)) in
    omega (arith, all)
