-- Of two things that are the same either may be named first.
use Rattle.std.proofs.Common.{◌≡◌, refl, sym, true≢false, ℕ, Bool, true, false, ◌&&◌, IsTrue, List, [], length, nat_eq, arith}
use Rattle.std.proofs.lemmas.Bool.Decides.{nat_tests}
use Rattle.std.proofs.lemmas.Slice.Eq.{bytes_eq-Decides}
use Rattle.std.specs.Bool.{beq}
use Rattle.std.specs.Option.{unwrap_or}
use Rattle.std.specs.Str.{bytes_eq}
use Rattle.pz_classes_code.specs.pz_syntax.declared.names.Id.{Id}
use Rattle.pz_classes_code.specs.pz_syntax.declared.classes.Message.{Message}
use Rattle.pz_classes_code.specs.pz_syntax.declared.clusters.ChannelEnd.{ChannelEnd}
use Rattle.pz_classes_code.specs.pz_syntax.declared.clusters.ChannelEnd.TheVariants.{Inner, Outer}
use Rattle.pz_classes_rules.specs.declared.method_id.Counts.{Counts}
use Rattle.pz_classes_rules.specs.declared.method_id.Counts.TheVariants.{Data, Process}
use Rattle.pz_classes_rules.specs.Methods.{same_counts}
use Rattle.pz_classes_rules.specs.RepeatRules.{Heading, same_name, same_heading, same_message}
use Rattle.pz_classes_rules.specs.ChannelRules.{same_end, both_outer}

bytes_turned : (p q : List ℕ) → IsTrue (bytes_eq p q) → IsTrue (bytes_eq q p)
bytes_turned p q is = (bytes_eq-Decides q p).1 (sym ((bytes_eq-Decides p q).0 is))

number_turned : (m n : ℕ) → nat_eq m n ≡ true → nat_eq n m ≡ true
number_turned m n is = grind (arith, nat_tests)

bool_turned : (a b : Bool) → IsTrue (beq a b) → IsTrue (beq b a)
bool_turned true true is = is
bool_turned true false is = is
bool_turned false true is = is
bool_turned false false is = is

both_true : (a b : Bool) → IsTrue (a && b) → IsTrue a × IsTrue b
both_true true true is = (refl, refl)
both_true true false is = absurd (true≢false (sym is))
both_true false b is = absurd (true≢false (sym is))

both : (a b : Bool) → IsTrue a → IsTrue b → IsTrue (a && b)
both a b first second = rw (first, second) refl

pub names_turned : (x y : Id) → IsTrue (same_name x y) → IsTrue (same_name y x)
names_turned x y is = bytes_turned x.name y.name is

counts_turned : (x y : Counts) → IsTrue (same_counts x y) → IsTrue (same_counts y x)
counts_turned (Data i) (Data j) is = number_turned i j is
counts_turned (Data i) (Process j o) is = absurd (true≢false (sym is))
counts_turned (Process i o) (Data j) is = absurd (true≢false (sym is))
counts_turned (Process i o) (Process j p) is =
    let each = both_true (nat_eq i j) (nat_eq o p) is in
    both (nat_eq j i) (nat_eq p o) (number_turned i j each.0) (number_turned o p each.1)

pub headings_turned : (x y : Heading) → IsTrue (same_heading x y) → IsTrue (same_heading y x)
headings_turned x y is =
    let each = both_true (same_counts x.signature.counts y.signature.counts) (bytes_eq x.signature.name y.signature.name) is in
    both (same_counts y.signature.counts x.signature.counts) (bytes_eq y.signature.name x.signature.name)
    (counts_turned x.signature.counts y.signature.counts each.0) (bytes_turned x.signature.name y.signature.name each.1)

abbrev count : Message → ℕ
count x = length (unwrap_or x.types [])

pub messages_turned : (x y : Message) → IsTrue (same_message x y) → IsTrue (same_message y x)
messages_turned x y is =
    let last = both_true (bytes_eq x.port.name y.port.name && beq x.out y.out && bytes_eq x.name.name y.name.name) (nat_eq (count x) (count y)) is in
    let third = both_true (bytes_eq x.port.name y.port.name && beq x.out y.out) (bytes_eq x.name.name y.name.name) last.0 in
    let two = both_true (bytes_eq x.port.name y.port.name) (beq x.out y.out) third.0 in
    both (bytes_eq y.port.name x.port.name && beq y.out x.out && bytes_eq y.name.name x.name.name) (nat_eq (count y) (count x))
    (both (bytes_eq y.port.name x.port.name && beq y.out x.out) (bytes_eq y.name.name x.name.name)
    (both (bytes_eq y.port.name x.port.name) (beq y.out x.out) (bytes_turned x.port.name y.port.name two.0) (bool_turned x.out y.out two.1))
    (bytes_turned x.name.name y.name.name third.1))
    (number_turned (count x) (count y) last.1)

pub ends_turned : (x y : ChannelEnd) → IsTrue (same_end x y) → IsTrue (same_end y x)
ends_turned (Inner i p) (Inner j q) is =
    let each = both_true (bytes_eq i.name j.name) (bytes_eq p.name q.name) is in
    both (bytes_eq j.name i.name) (bytes_eq q.name p.name) (bytes_turned i.name j.name each.0) (bytes_turned p.name q.name each.1)
ends_turned (Inner i p) (Outer q) is = absurd (true≢false (sym is))
ends_turned (Outer p) (Inner j q) is = absurd (true≢false (sym is))
ends_turned (Outer p) (Outer q) is = bytes_turned p.name q.name is

pub outers_turned : (x y : ChannelEnd) → IsTrue (both_outer x y) → IsTrue (both_outer y x)
outers_turned (Inner i p) y is = absurd (true≢false (sym is))
outers_turned (Outer p) (Inner j q) is = absurd (true≢false (sym is))
outers_turned (Outer p) (Outer q) is = refl
