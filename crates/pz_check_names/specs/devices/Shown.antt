-- What is noted in nested scopes, one for each class that is open, of what these classes declare.
use Rattle.std.specs.Prelude.{◌≡◌, ℕ, Bool, true, ◌&&◌, nat_eq, List, map}
use Rattle.std.specs.Bool.{beq}
use Rattle.std.specs.Borrow.{Bor}
use Rattle.std.specs.List.{list_any}
use Rattle.std.specs.Str.{bytes_eq}
use Rattle.pz_classes_code.specs.pz_syntax.declared.names.Id.{Id}
use Rattle.pz_classes_code.specs.pz_syntax.declared.classes.Message.{Message}
use Rattle.pz_classes_code.specs.pz_syntax.Classes.{ProcessMethodTree, StartTree}
use Rattle.pz_classes.specs.pz_classes_rules.declared.method_id.Counts.TheVariants.{Process}
use Rattle.pz_classes.specs.pz_classes_rules.CallRules.{is_message}
use Rattle.pz_classes.specs.pz_classes_rules.Methods.{Signature, same_signature, process_signature}
use Rattle.pz_check_scopes.specs.Scopes.{Note}
use Rattle.pz_check_scopes.specs.devices.Holding.{Holds}
use Rattle.pz_check_scopes.specs.declared.nested.Nested.{Nested}
use Rattle.pz_check_names.specs.declared.messages.Signal.{Signal}
use Rattle.pz_check_names.specs.declared.methods.Call.{Call}

module _ {K X : Type 0} (eq : K → K → Bool) (matches : K → X → Bool) where
  -- whether something is noted for the key in a scope
  abbrev pub has_note : K → List (Note K Unit) → Bool
  has_note key scope = list_any (λ n. eq key n.key) scope

  -- whether the key is that of one of these things
  abbrev pub is_key_of : K → List X → Bool
  is_key_of key xs = list_any (matches key) xs

  -- The scopes that are kept are as many as the lists, and in each something is noted for the keys
  -- of the things of its list, and for no others.
  pub record Shows (lists : List (List X)) (nested : Nested K Unit) : Type 0 where
    pub scopes : List (List (Note K Unit))
    pub held : Holds eq scopes nested
    pub same : (key : K) → map (has_note key) scopes ≡ map (is_key_of key) lists

-- a name is noted by its spelling
abbrev pub ShowsNames : List (List Id) → Nested (Bor (List ℕ)) Unit → Type 0
ShowsNames lists names = Shows (λ (a b : Bor (List ℕ)). bytes_eq a.now b.now) (λ (key : Bor (List ℕ)) (x : Id). bytes_eq key.now x.name) lists names

abbrev pub same_signal : Signal → Signal → Bool
same_signal a b = bytes_eq a.port.now b.port.now && (beq a.out b.out && (bytes_eq a.name.now b.name.now && nat_eq a.count b.count))

abbrev pub is_signal_of : Signal → Message → Bool
is_signal_of s x = is_message s.port.now s.out s.name.now s.count x

abbrev pub ShowsMessages : List (List Message) → Nested Signal Unit → Type 0
ShowsMessages lists messages = Shows same_signal is_signal_of lists messages

-- the process method that is called by this name, with so many inputs and outputs
abbrev pub called : List ℕ → ℕ → ℕ → Signature
called name inputs outputs = record { name = name; counts = Process inputs outputs }

abbrev pub signature_of : Call → Signature
signature_of k = called k.name.now k.inputs k.outputs

abbrev pub same_call : Call → Call → Bool
same_call a b = bytes_eq a.name.now b.name.now && (nat_eq a.inputs b.inputs && nat_eq a.outputs b.outputs)

abbrev pub is_call_of : Call → ProcessMethodTree → Bool
is_call_of k r = same_signature (signature_of k) (process_signature r)

abbrev pub ShowsMethods : List (List ProcessMethodTree) → Nested Call Unit → Type 0
ShowsMethods lists methods = Shows same_call is_call_of lists methods

-- something is noted where there is an `init`
abbrev pub ShowsStarts : List (List StartTree) → Nested Unit Unit → Type 0
ShowsStarts lists starts = Shows (λ (a b : Unit). true) (λ (key : Unit) (x : StartTree). true) lists starts
