-- No LF stands within a line.
use Rattle.std.proofs.Common.{◌≡◌, ◌<◌, subst, ℤ, refl, sym, ◌∙◌, ℕ, suc, pos, negsuc, ◌+◌, ◌/◌, ◌%◌, Bool, true, false, if◌then◌else◌, List, [], ◌∷◌, ◌++◌, map, Option, Some, None, arith, codes, append_assoc}
use Rattle.std.specs.Prelude.{nat_eq, nat_lt, nat_le, ◌||◌, ◌&&◌, slice_get}
use Rattle.std.specs.List.{flat_map}
use Rattle.std.specs.Option.{option_map_or}
use Rattle.std.specs.Fmt.{decimal, signed_decimal}
use Rattle.std.proofs.lemmas.List.Folds.{list_any-append}
use Rattle.std.proofs.lemmas.Bool.{ne_eqb, eqb-true}
use Rattle.pz_rules.specs.pz_syntax.declared.tokens.Pos.{Pos}
use Rattle.pz_rules.specs.pz_syntax.Classes.{ModelTree}
use Rattle.pz_rules.specs.pz_value.declared.value.Value.{Value}
use Rattle.pz_rules.specs.pz_value.declared.value.Value.TheVariants as value
use Rattle.pz_rules.specs.pz_state.declared.fault.FaultKind.{FaultKind}
use Rattle.pz_rules.specs.pz_state.declared.fault.FaultKind.TheVariants as fault
use Rattle.pz_rules.specs.pz_state.Objects.{ObjectView}
use Rattle.pz_rules.specs.pz_classes_rules.ClassNames.{class_names}
use Rattle.pz_bind_levels.specs.Places.{Address}
use Rattle.pz_bind_levels.specs.Wires.{Channel}
use Rattle.pz_rules.specs.pz_bind_rules.Nest.{processes}
use Rattle.pz_rules.specs.pz_bind_rules.Names.{path, wire_name, name_at}
use Rattle.pz_rules.specs.pz_bind_rules.Wires.{wires}
use Rattle.pz_rules.specs.pz_copy.Parcels.{ParcelView}
use Rattle.pz_rules.specs.pz_copy.ParcelText.{name_of, hex_digit, item_text, quoted, value_text, values_text, object_text, object_texts, objects_text, parcel_text}
use Rattle.pz_rules.specs.pz_offer.declared.trouble.Trouble.{Trouble}
use Rattle.pz_rules.specs.pz_offer.declared.trouble.Trouble.TheVariants as trouble
use Rattle.pz_rules.specs.declared.action.Kind.{Kind}
use Rattle.pz_rules.specs.declared.action.Kind.TheVariants as kind
use Rattle.pz_rules.specs.declared.action.Action.{Action}
use Rattle.pz_rules.specs.declared.action.Action.TheVariants.{Internal, Comm}
use Rattle.pz_trace.specs.declared.forms.Form.{Form}
use Rattle.pz_trace.specs.declared.forms.Form.TheVariants.{One, Two, Three}
use Rattle.pz_trace.specs.declared.ending.Ending.{Ending}
use Rattle.pz_trace.specs.declared.ending.Ending.TheVariants as ending
use Rattle.pz_trace.specs.Words.{kind_word, fault_word, pos_text}
use Rattle.pz_trace.specs.Labels.{path_of, wire_of, spot, sending, label}
use Rattle.pz_trace.specs.Lines.{newline, header, time_line, action_line, trouble_words, end_words, end_line}
use Rattle.pz_trace.specs.Laws.{Unbroken, IsLine, HasUnbrokenNames, HasUnbrokenMessage}
use Rattle.pz_trace.proofs.Digits.{decimal_lacks}

-- one text and then another
joined : (a b : List ℕ) → Unbroken a → Unbroken b → Unbroken (a ++ b)
joined a b whole rest = list_any-append (nat_eq 10) a b ∙ rw (whole, rest) refl

either : (b : Bool) (s t : List ℕ) → Unbroken s → Unbroken t → Unbroken (if b then s else t)
either true s t one other = one
either false s t one other = other

other_byte : (n : ℕ) (s : List ℕ) → nat_eq 10 n ≡ false → Unbroken s → Unbroken (n ∷ s)
other_byte n s apart rest = rw (apart, rest) refl

above : (n : ℕ) → 10 < n → nat_eq 10 n ≡ false
above n more = ne_eqb 10 n (λ same. absurd (omega arith))

choice_apart : (b : Bool) (n k : ℕ) → nat_eq 10 n ≡ false → nat_eq 10 k ≡ false → nat_eq 10 (if b then n else k) ≡ false
choice_apart true n k one other = one
choice_apart false n k one other = other

each_unbroken : {A : Type 0} (f : A → List ℕ) (xs : List A) → ((x : A) → Unbroken (f x)) → Unbroken (flat_map f xs)
each_unbroken f [] each = refl
each_unbroken f (x ∷ xs) each = joined (f x) (flat_map f xs) (each x) (each_unbroken f xs each)

hex_apart : (d : ℕ) → nat_eq 10 (hex_digit d) ≡ false
hex_apart d = choice_apart (nat_lt d 10) (48 + d) (87 + d) (above (48 + d) (omega arith)) (above (87 + d) (omega arith))

-- numbers

decimal_unbroken : (n : ℕ) → Unbroken (decimal n)
decimal_unbroken n = decimal_lacks 10 n (omega arith)

signed_unbroken : (z : ℤ) → Unbroken (signed_decimal z)
signed_unbroken (pos n) = decimal_unbroken n
signed_unbroken (negsuc n) = other_byte 45 (decimal (suc n)) refl (decimal_unbroken (suc n))

pos_unbroken : (at : Pos) → Unbroken (pos_text at)
pos_unbroken at = joined (decimal at.line) (codes ":" ++ decimal at.column) (decimal_unbroken at.line) (joined (codes ":") (decimal at.column) refl (decimal_unbroken at.column))

-- values and parcels

byte_unbroken : (quote byte : ℕ) (b : Bool) → nat_eq 10 byte ≡ b → nat_eq 10 quote ≡ false → Unbroken (item_text quote byte)
byte_unbroken quote byte false apart quote_apart =
    either (nat_eq byte 92 || nat_eq byte quote) (92 ∷ byte ∷ []) (if nat_le 32 byte && nat_le byte 126 then byte ∷ [] else 92 ∷ 120 ∷ hex_digit (byte / 16) ∷ hex_digit (byte % 16) ∷ [])
    (other_byte 92 (byte ∷ []) refl (other_byte byte [] apart refl))
    (either (nat_le 32 byte && nat_le byte 126) (byte ∷ []) (92 ∷ 120 ∷ hex_digit (byte / 16) ∷ hex_digit (byte % 16) ∷ [])
    (other_byte byte [] apart refl)
    (other_byte 92 (120 ∷ hex_digit (byte / 16) ∷ hex_digit (byte % 16) ∷ []) refl
    (other_byte 120 (hex_digit (byte / 16) ∷ hex_digit (byte % 16) ∷ []) refl
    (other_byte (hex_digit (byte / 16)) (hex_digit (byte % 16) ∷ []) (hex_apart (byte / 16))
    (other_byte (hex_digit (byte % 16)) [] (hex_apart (byte % 16)) refl)))))
byte_unbroken quote byte true same quote_apart =
    let is : 10 ≡ byte = eqb-true 10 byte same in
    subst (λ (n : ℕ). Unbroken (item_text quote n)) is (rw quote_apart refl)

quoted_unbroken : (quote : ℕ) (bytes : List ℕ) → nat_eq 10 quote ≡ false → Unbroken (quoted quote bytes)
quoted_unbroken quote bytes apart =
    other_byte quote (flat_map (item_text quote) bytes ++ quote ∷ []) apart
    (joined (flat_map (item_text quote) bytes) (quote ∷ []) (each_unbroken (item_text quote) bytes (λ b. byte_unbroken quote b (nat_eq 10 b) refl apart)) (other_byte quote [] apart refl))

value_unbroken : (v : Value) → Unbroken (value_text v)
value_unbroken value.Nil = refl
value_unbroken (value.Bool true) = refl
value_unbroken (value.Bool false) = refl
value_unbroken (value.Int n) = signed_unbroken n
value_unbroken (value.Char c) = quoted_unbroken 39 (c ∷ []) refl
value_unbroken (value.Str bytes) = quoted_unbroken 34 bytes refl
value_unbroken (value.Ref r) = other_byte 35 (decimal r) refl (decimal_unbroken r)

values_unbroken : (vs : List Value) → Unbroken (values_text vs)
values_unbroken [] = refl
values_unbroken (v ∷ vs) = joined (value_text v) (flat_map (λ u. 44 ∷ u) (map value_text vs)) (value_unbroken v) (rest_unbroken vs)
  where
    rest_unbroken : (ws : List Value) → Unbroken (flat_map (λ u. 44 ∷ u) (map value_text ws))
    rest_unbroken [] = refl
    rest_unbroken (w ∷ ws) = joined (44 ∷ value_text w) (flat_map (λ u. 44 ∷ u) (map value_text ws)) (other_byte 44 (value_text w) refl (value_unbroken w)) (rest_unbroken ws)

object_unbroken : (m : ModelTree) → HasUnbrokenNames m → (number : ℕ) (o : ObjectView) → Unbroken (object_text (class_names m) number o)
object_unbroken m whole number o =
    let name = name_of (class_names m) o.class in
    let items : Unbroken (91 ∷ (values_text o.items ++ 93 ∷ [])) = other_byte 91 (values_text o.items ++ 93 ∷ []) refl (joined (values_text o.items) (93 ∷ []) (values_unbroken o.items) refl) in
    other_byte 35 (decimal number ++ 61 ∷ (name ++ 91 ∷ (values_text o.items ++ 93 ∷ []))) refl
    (joined (decimal number) (61 ∷ (name ++ 91 ∷ (values_text o.items ++ 93 ∷ []))) (decimal_unbroken number)
    (other_byte 61 (name ++ 91 ∷ (values_text o.items ++ 93 ∷ [])) refl
    (joined name (91 ∷ (values_text o.items ++ 93 ∷ [])) (whole.classes o.class) items)))

texts_unbroken : (m : ModelTree) → HasUnbrokenNames m → (number : ℕ) (os : List ObjectView) → Unbroken (flat_map (λ u. 59 ∷ u) (object_texts (class_names m) number os))
texts_unbroken m whole number [] = refl
texts_unbroken m whole number (o ∷ os) =
    joined (59 ∷ object_text (class_names m) number o) (flat_map (λ u. 59 ∷ u) (object_texts (class_names m) (number + 1) os))
    (other_byte 59 (object_text (class_names m) number o) refl (object_unbroken m whole number o)) (texts_unbroken m whole (number + 1) os)

objects_unbroken : (m : ModelTree) → HasUnbrokenNames m → (os : List ObjectView) → Unbroken (objects_text (class_names m) os)
objects_unbroken m whole [] = refl
objects_unbroken m whole (o ∷ os) =
    let first = object_text (class_names m) 0 o in
    let rest = flat_map (λ (u : List ℕ). 59 ∷ u) (object_texts (class_names m) 1 os) in
    other_byte 123 ((first ++ rest) ++ 125 ∷ []) refl
    (joined (first ++ rest) (125 ∷ []) (joined first rest (object_unbroken m whole 0 o) (texts_unbroken m whole 1 os)) refl)

parcel_unbroken : (m : ModelTree) → HasUnbrokenNames m → (p : ParcelView) → Unbroken (parcel_text (class_names m) p)
parcel_unbroken m whole p =
    other_byte 40 (values_text p.values ++ 41 ∷ objects_text (class_names m) p.objects) refl
    (joined (values_text p.values) (41 ∷ objects_text (class_names m) p.objects) (values_unbroken p.values)
    (other_byte 41 (objects_text (class_names m) p.objects) refl (objects_unbroken m whole p.objects)))

-- names

name_unbroken : (m : ModelTree) → HasUnbrokenNames m → (place : Address) → Unbroken (path m place)
name_unbroken m whole [] = refl
name_unbroken m whole (i ∷ []) = whole.instances [] i
name_unbroken m whole (i ∷ j ∷ up) =
    joined (path m (j ∷ up)) (codes "." ++ name_at m (j ∷ up) i) (name_unbroken m whole (j ∷ up))
    (joined (codes ".") (name_at m (j ∷ up) i) refl (whole.instances (j ∷ up) i))

channel_unbroken : (m : ModelTree) → HasUnbrokenNames m → (c : Channel) → Unbroken (wire_name m c)
channel_unbroken m whole c =
    joined (path m c.place) (codes "#" ++ decimal (suc c.number)) (name_unbroken m whole c.place)
    (joined (codes "#") (decimal (suc c.number)) refl (decimal_unbroken (suc c.number)))

found_unbroken : {A : Type 0} (f : A → List ℕ) → ((x : A) → Unbroken (f x)) → (o : Option A) → Unbroken (option_map_or f o [])
found_unbroken f each None = refl
found_unbroken f each (Some x) = each x

path_unbroken : (m : ModelTree) → HasUnbrokenNames m → (i : ℕ) → Unbroken (path_of m i)
path_unbroken m whole i = found_unbroken (path m) (name_unbroken m whole) (slice_get (processes m) i)

wire_unbroken : (m : ModelTree) → HasUnbrokenNames m → (w : ℕ) → Unbroken (wire_of m w)
wire_unbroken m whole w = found_unbroken (wire_name m) (channel_unbroken m whole) (slice_get (wires m) w)

-- labels

kind_unbroken : (k : Kind) → Unbroken (kind_word k)
kind_unbroken kind.Skip = refl
kind_unbroken kind.Eval = refl
kind_unbroken kind.Test = refl
kind_unbroken kind.Expire = refl
kind_unbroken kind.Call = refl

fault_unbroken : (k : FaultKind) → Unbroken (fault_word k)
fault_unbroken fault.Overflow = refl
fault_unbroken fault.DivideByZero = refl
fault_unbroken fault.NotUnderstood = refl
fault_unbroken fault.Index = refl
fault_unbroken fault.NegativeDelay = refl
fault_unbroken fault.NotBoolean = refl
fault_unbroken fault.NotInteger = refl
fault_unbroken fault.StoreFull = refl
fault_unbroken fault.ClockTooLarge = refl

spot_unbroken : (m : ModelTree) → HasUnbrokenNames m → (i : ℕ) (at : Pos) → Unbroken (spot m i at)
spot_unbroken m whole i at =
    joined (path_of m i) (codes " " ++ pos_text at) (path_unbroken m whole i)
    (joined (codes " ") (pos_text at) refl (pos_unbroken at))

label_unbroken : (m : ModelTree) → HasUnbrokenNames m → (a : Action) → HasUnbrokenMessage a → Unbroken (label m a)
label_unbroken m whole (Internal end k at) message =
    joined (path_of m end.process) (codes " " ++ (kind_word k ++ (codes " " ++ pos_text at))) (path_unbroken m whole end.process)
    (joined (codes " ") (kind_word k ++ (codes " " ++ pos_text at)) refl
    (joined (kind_word k) (codes " " ++ pos_text at) (kind_unbroken k)
    (joined (codes " ") (pos_text at) refl (pos_unbroken at))))
label_unbroken m whole (Comm wire sender receiver name parcel) message =
    let receiving = codes " -> " ++ path_of m receiver.process in
    let sends : Unbroken (sending m sender.process name parcel) =
    joined (path_of m sender.process) (codes " ! " ++ (name ++ parcel_text (class_names m) parcel)) (path_unbroken m whole sender.process)
    (joined (codes " ! ") (name ++ parcel_text (class_names m) parcel) refl
    (joined name (parcel_text (class_names m) parcel) message (parcel_unbroken m whole parcel))) in
    joined (wire_of m wire) (codes " " ++ (sending m sender.process name parcel ++ receiving)) (wire_unbroken m whole wire)
    (joined (codes " ") (sending m sender.process name parcel ++ receiving) refl
    (joined (sending m sender.process name parcel) receiving sends
    (joined (codes " -> ") (path_of m receiver.process) refl (path_unbroken m whole receiver.process))))

-- a text and then LF
ended : (front text : List ℕ) → Unbroken front → text ≡ front ++ newline → IsLine text
ended front text whole is = record { front = front; unbroken = whole; ends = is }

three : (a b c n : List ℕ) → a ++ (b ++ (c ++ n)) ≡ (a ++ (b ++ c)) ++ n
three a b c n = simp append_assoc

pub header_lines : (form : Form) → IsLine (header form)
header_lines One = ended (codes "poosl-trace 1") (header One) refl refl
header_lines Two = ended (codes "poosl-trace 2") (header Two) refl refl
header_lines (Three units) =
    ended (codes "poosl-trace 3 " ++ decimal units) (header (Three units)) (joined (codes "poosl-trace 3 ") (decimal units) refl (decimal_unbroken units))
    (sym (append_assoc (codes "poosl-trace 3 ") (decimal units) newline))

pub time_lines : (clock d : ℕ) → IsLine (time_line clock d)
time_lines clock d =
    ended (decimal clock ++ (codes " time " ++ decimal d)) (time_line clock d)
    (joined (decimal clock) (codes " time " ++ decimal d) (decimal_unbroken clock) (joined (codes " time ") (decimal d) refl (decimal_unbroken d)))
    (three (decimal clock) (codes " time ") (decimal d) newline)

pub action_lines : (m : ModelTree) (clock n k : ℕ) (a : Action) → HasUnbrokenNames m → HasUnbrokenMessage a → IsLine (action_line m clock n k a)
action_lines m clock n k a whole message =
    let blank = codes " " in
    ended (decimal clock ++ (blank ++ (decimal n ++ (blank ++ (decimal k ++ (blank ++ label m a)))))) (action_line m clock n k a)
    (joined (decimal clock) (blank ++ (decimal n ++ (blank ++ (decimal k ++ (blank ++ label m a))))) (decimal_unbroken clock)
    (joined blank (decimal n ++ (blank ++ (decimal k ++ (blank ++ label m a)))) refl
    (joined (decimal n) (blank ++ (decimal k ++ (blank ++ label m a))) (decimal_unbroken n)
    (joined blank (decimal k ++ (blank ++ label m a)) refl
    (joined (decimal k) (blank ++ label m a) (decimal_unbroken k)
    (joined blank (label m a) refl (label_unbroken m whole a message)))))))
    (seven (decimal clock) blank (decimal n) blank (decimal k) blank (label m a) newline)
  where
    seven : (a b c d e f g n : List ℕ) → a ++ (b ++ (c ++ (d ++ (e ++ (f ++ (g ++ n)))))) ≡ (a ++ (b ++ (c ++ (d ++ (e ++ (f ++ g)))))) ++ n
    seven a b c d e f g n = simp append_assoc

trouble_unbroken : (m : ModelTree) → HasUnbrokenNames m → (t : Trouble) → Unbroken (trouble_words m t)
trouble_unbroken m whole (trouble.Fault k i at) =
    joined (codes "fault ") (fault_word k ++ (codes " " ++ spot m i at)) refl
    (joined (fault_word k) (codes " " ++ spot m i at) (fault_unbroken k)
    (joined (codes " ") (spot m i at) refl (spot_unbroken m whole i at)))
trouble_unbroken m whole (trouble.Spent i at) = joined (codes "spent ") (spot m i at) refl (spot_unbroken m whole i at)
trouble_unbroken m whole (trouble.High i at) = joined (codes "high ") (spot m i at) refl (spot_unbroken m whole i at)

end_unbroken : (m : ModelTree) → HasUnbrokenNames m → (end : Ending) → Unbroken (end_words m end)
end_unbroken m whole ending.End = refl
end_unbroken m whole ending.Deadlock = refl
end_unbroken m whole ending.Stop = refl
end_unbroken m whole (ending.Trouble t) = trouble_unbroken m whole t

pub end_lines : (m : ModelTree) (clock : ℕ) (end : Ending) → HasUnbrokenNames m → IsLine (end_line m clock end)
end_lines m clock end whole =
    let words = end_words m end in
    ended (decimal clock ++ (codes " " ++ words)) (end_line m clock end)
    (joined (decimal clock) (codes " " ++ words) (decimal_unbroken clock) (joined (codes " ") words refl (end_unbroken m whole end)))
    (three (decimal clock) (codes " ") words newline)
