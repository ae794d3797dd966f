-- The rules on what is called, sent and received.
use Rattle.std.specs.Prelude.{ℕ, Bool, true, false, not, ◌&&◌, nat_eq, List, [], ◌∷◌, length, Option, codes}
use Rattle.std.specs.Option.{unwrap_or, option_map_or, option_and_then, is_none}
use Rattle.std.specs.Bool.{beq}
use Rattle.std.specs.Str.{bytes_eq}
use Rattle.std.specs.List.{list_any, flat_map}
use Rattle.pz_classes_code.specs.pz_syntax.declared.classes.Message.{Message}
use Rattle.pz_classes_code.specs.pz_syntax.Classes.{DeclTree, process_class, StartTree, ModelTree}
use Rattle.pz_classes_mentions.specs.declared.mention.Mention.{Mention}
use Rattle.pz_classes_mentions.specs.declared.mention.Mention.TheVariants.{Declared, Selector, Called, Port, Sent, Received}
use Rattle.pz_classes_code.specs.ReservedNames.{is_unsupported}
use Rattle.pz_classes_rules.specs.declared.method_id.Counts.TheVariants.{Data}
use Rattle.pz_classes_rules.specs.Numbers.{declaration}
use Rattle.pz_classes_rules.specs.Ancestors.{ancestors}
use Rattle.pz_classes_rules.specs.Members.{ports}
use Rattle.pz_classes_rules.specs.Methods.{Signature, same_signature, signatures, process_method, nearest}
use Rattle.pz_classes_rules.specs.Starts.{own_start}
use Rattle.pz_classes_rules.specs.Kinds.{is_process}
use Rattle.pz_classes_rules.specs.Words.{is_among}

-- C7: a process method that is called is one of the class, with these counts
abbrev pub breaks_c7 : ModelTree → ℕ → Mention → Bool
breaks_c7 m c (Called name inputs outputs) = is_none (process_method m c name.name inputs outputs)
breaks_c7 m c _ = false

-- the selectors of primitive values, with the numbers of their arguments
abbrev pub primitive_selectors : List (List ℕ × ℕ)
primitive_selectors =
    (codes "isNil", 0) ∷ (codes "div", 1) ∷ (codes "modulo", 1) ∷ (codes "min", 1) ∷ (codes "max", 1) ∷ (codes "abs", 0) ∷
    (codes "asString", 0) ∷ (codes "xor", 1) ∷ (codes "not", 0) ∷ (codes "asInteger", 0) ∷ (codes "concat", 1) ∷ (codes "size", 0) ∷
    (codes "get", 1) ∷ (codes "resize", 1) ∷ (codes "put", 2) ∷ []

abbrev pub is_primitive_selector : List ℕ → ℕ → Bool
is_primitive_selector name count = list_any (λ s. bytes_eq name s.0 && nat_eq count s.1) primitive_selectors

-- some class of the model declares it
abbrev pub is_declared : ModelTree → Signature → Bool
is_declared m s = list_any (λ d. list_any (same_signature s) (signatures d)) m.decls

-- C8: a selector with its count is one of a data class of the model, or of the primitive values
abbrev pub breaks_c8 : ModelTree → Mention → Bool
breaks_c8 m (Selector name count) = not (is_primitive_selector name.name count) && not (is_declared m (record { name = name.name; counts = Data count }))
breaks_c8 m _ = false

-- C9: a port is one of the class
abbrev pub breaks_c9 : ModelTree → ℕ → Mention → Bool
breaks_c9 m c (Port x) = not (is_among (ports m c) x.name)
breaks_c9 m c _ = false

abbrev pub own_messages : DeclTree → List Message
own_messages (process_class c) = unwrap_or c.messages []
own_messages _ = []

-- the messages that a class and its ancestors declare
abbrev pub messages : ModelTree → ℕ → List Message
messages m c = flat_map (λ a. option_map_or own_messages (declaration m a) []) (ancestors m c)

-- declared on this port, as sent or received, by this name and with so many parameters
abbrev pub is_message : List ℕ → Bool → List ℕ → ℕ → Message → Bool
is_message port out name count x = bytes_eq port x.port.name && beq out x.out && bytes_eq name x.name.name && nat_eq count (length (unwrap_or x.types []))

-- C10: a message is declared by the class or an ancestor
abbrev pub breaks_c10 : ModelTree → ℕ → Mention → Bool
breaks_c10 m c (Sent port name count) = not (list_any (is_message port.name true name.name count) (messages m c))
breaks_c10 m c (Received port name count) = not (list_any (is_message port.name false name.name count) (messages m c))
breaks_c10 m c _ = false

-- the `init` of the nearest of the class and its ancestors that has one
abbrev pub start : ModelTree → ℕ → Option StartTree
start m c = nearest (λ a. option_and_then own_start (declaration m a)) (ancestors m c)

-- C11: a process class has an `init`, own or inherited
abbrev pub breaks_c11 : ModelTree → ℕ → DeclTree → Mention → Bool
breaks_c11 m c d (Declared x) = not (is_unsupported x.name) && is_process d && is_none (start m c)
breaks_c11 m c d _ = false
