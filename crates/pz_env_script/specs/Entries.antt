-- Lines of a script: which text is which entry.
use Rattle.std.specs.Prelude.{◌≡◌, ◌≤◌, ◌<◌, ◌^◌, ℕ, pos, true, List, [], ◌∷◌, length, codes}
use Rattle.std.specs.List.{join_with_byte}
use Rattle.std.specs.Fmt.{decimal}
use Rattle.pz_syntax.specs.pz_items.Characters.{byte}
use Rattle.pz_lines.specs.Identifiers.{is_identifier}
use Rattle.pz_value.specs.declared.value.Value.{Value}
use Rattle.pz_env_script.specs.declared.entry.Entry.{Entry}
use Rattle.pz_env_script.specs.declared.entry.Transfer.{Transfer}
use Rattle.pz_env_script.specs.declared.entry.Transfer.TheVariants.{Send, Receive}
use Rattle.pz_env_script.specs.Literals.{AreLiterals}

-- the values of a message, and how many lines a script has, at most
abbrev pub most_values : ℕ
most_values = 100

-- What stands behind the message: `send` has a literal for each value, `receive` how many values come.
pub data IsTransfer : List ℕ → List (List ℕ) → Transfer → Type 0 where
  sends : (words : List (List ℕ)) (values : List Value) → AreLiterals words values → length values ≤ most_values → IsTransfer (codes "send") words (Send values)
  receives : (count : ℕ) → count ≤ most_values → IsTransfer (codes "receive") (decimal count ∷ []) (Receive count)

-- `D send INSTANCE PORT MESSAGE LITERAL ..` and `D receive INSTANCE PORT MESSAGE COUNT`
pub record AreWordsOf (words : List (List ℕ)) (entry : Entry) : Type 0 where
  pub wait : ℕ
  pub action : List ℕ
  pub rest : List (List ℕ)
  pub are : words ≡ decimal wait ∷ action ∷ entry.instance ∷ entry.port ∷ entry.message ∷ rest
  pub waits : entry.wait ≡ pos wait
  pub short : wait < 2 ^ 63
  pub instance : is_identifier entry.instance ≡ true
  pub port : is_identifier entry.port ≡ true
  pub message : is_identifier entry.message ≡ true
  pub transfer : IsTransfer action rest entry.transfer

-- the line, without its LF, is the words of the entry, separated by one blank
pub record IsEntry (line : List ℕ) (entry : Entry) : Type 0 where
  pub words : List (List ℕ)
  pub joined : line ≡ join_with_byte (byte " ") words
  pub are : AreWordsOf words entry

-- The entry as it is written: which way the message goes, the values that are sent, and how many values
-- there are.
abbrev pub values_in : Transfer → List Value
values_in (Send values) = values
values_in (Receive count) = []

abbrev pub count_in : Transfer → ℕ
count_in (Send values) = length values
count_in (Receive count) = count
