-- Entries read from the words of a line, as the code reads them.
use Rattle.std.specs.Prelude.{ℕ, ◌+◌, nat_le, ℤ, pos, neg_ℤ, Bool, true, false, ◌&&◌, ◌==◌, if◌then◌else◌, bytes_eq, eqb, List, [], ◌∷◌, map, length, Option, Some, None, option_map, codes}
use Rattle.std.specs.List.{slice_split}
use Rattle.std.specs.Borrow.{Bor}
use Rattle.pz_lines.specs.Identifiers.{is_identifier}
use Rattle.pz_lines.specs.Numbers.{only_if, number_of}
use Rattle.pz_value.specs.declared.value.Value.{Value}
use Rattle.pz_value.specs.declared.value.Value.TheVariants as value
use Rattle.pz_env_script.specs.declared.entry.Entry.{Entry}
use Rattle.pz_env_script.specs.declared.entry.Transfer.{Transfer}
use Rattle.pz_env_script.specs.declared.entry.Transfer.TheVariants.{Send, Receive}
use Rattle.pz_env_script.specs.Entries.{most_values}

abbrev pub texts : List (Bor (List ℕ)) → List (List ℕ)
texts words = map (λ w. w.now) words

abbrev pub up_to : ℕ → Option ℕ → Option ℕ
up_to most None = None
up_to most (Some n) = only_if (nat_le n most) n

-- the number that the word is, if it is one and no greater
abbrev pub number_up_to : ℕ → List ℕ → Option ℕ
number_up_to most word = up_to most (number_of word)

abbrev pub greatest : ℕ
greatest = 9223372036854775807

abbrev pub wait_in : List ℕ → Option ℤ
wait_in word = option_map (λ n. pos n) (number_up_to greatest word)

abbrev pub negative_of : List ℕ → Option ℤ
negative_of digits = option_map (λ n. neg_ℤ (pos n)) (number_up_to (greatest + 1) digits)

abbrev pub integer_of : List ℕ → Option ℤ
integer_of [] = wait_in []
integer_of (b ∷ bs) = if b == 45 then negative_of bs else wait_in (b ∷ bs)

abbrev pub literal_of : List ℕ → Option Value
literal_of word =
    if bytes_eq word (codes "nil") then
    Some value.Nil
    else
    (if bytes_eq word (codes "true") then
    Some (value.Bool true)
    else
    (if bytes_eq word (codes "false") then Some (value.Bool false) else option_map value.Int (integer_of word)))

abbrev pub before : Option Value → Option (List Value) → Option (List Value)
before None values = None
before (Some v) None = None
before (Some v) (Some vs) = Some (v ∷ vs)

abbrev pub literals_of : List (List ℕ) → Option (List Value)
literals_of [] = Some []
literals_of (w ∷ ws) = before (literal_of w) (literals_of ws)

abbrev pub values_of : List (List ℕ) → Option (List Value)
values_of words = if nat_le (length words) most_values then literals_of words else None

abbrev pub count_in : List (List ℕ) → Option ℕ
count_in [] = None
count_in (w ∷ []) = number_up_to most_values w
count_in (w ∷ v ∷ ws) = None

abbrev pub transfer_of : List ℕ → List (List ℕ) → Option Transfer
transfer_of action words =
    if bytes_eq action (codes "send") then
    option_map Send (values_of words)
    else
    (if bytes_eq action (codes "receive") then option_map Receive (count_in words) else None)

abbrev pub are_names : List ℕ → List ℕ → List ℕ → Bool
are_names instance port message = is_identifier instance && (is_identifier port && is_identifier message)

abbrev pub put_together : Option ℤ → Bool → List ℕ → List ℕ → List ℕ → Option Transfer → Option Entry
put_together None named instance port message transfer = None
put_together (Some wait) false instance port message transfer = None
put_together (Some wait) true instance port message None = None
put_together (Some wait) true instance port message (Some transfer) =
    Some (record { wait = wait; instance = instance; port = port; message = message; transfer = transfer })

abbrev pub entry_of : List (List ℕ) → Option Entry
entry_of [] = None
entry_of (d ∷ []) = None
entry_of (d ∷ a ∷ []) = None
entry_of (d ∷ a ∷ i ∷ []) = None
entry_of (d ∷ a ∷ i ∷ p ∷ []) = None
entry_of (d ∷ a ∷ i ∷ p ∷ m ∷ words) =
    put_together (wait_in d) (are_names i p m) i p m (transfer_of a words)

-- the entry of a line
abbrev pub entry_in : List ℕ → Option Entry
entry_in line = entry_of (slice_split (λ b. eqb b 32) line)
