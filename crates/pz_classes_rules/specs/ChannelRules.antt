-- The rules on the ends of channels.
use Rattle.std.specs.Prelude.{◌≡◌, ℕ, Bool, true, false, not, ◌&&◌, List, Option, Some, Contains, IsTrue}
use Rattle.std.specs.Option.{option_map_or}
use Rattle.std.specs.Str.{bytes_eq}
use Rattle.std.specs.List.{find, flat_map}
use Rattle.pz_classes_code.specs.pz_syntax.declared.tokens.Pos.{Pos}
use Rattle.pz_classes_code.specs.pz_syntax.declared.clusters.Instance.{Instance}
use Rattle.pz_classes_code.specs.pz_syntax.declared.clusters.Channel.{Channel}
use Rattle.pz_classes_code.specs.pz_syntax.declared.clusters.ChannelEnd.{ChannelEnd}
use Rattle.pz_classes_code.specs.pz_syntax.declared.clusters.ChannelEnd.TheVariants.{Inner, Outer}
use Rattle.pz_classes_code.specs.pz_syntax.Classes.{DeclTree, ModelTree}
use Rattle.pz_check_violations.specs.declared.violation.Violation.{Violation}
use Rattle.pz_check_violations.specs.Order.{violation}
use Rattle.pz_classes_rules.specs.Numbers.{declaration}
use Rattle.pz_classes_rules.specs.Members.{ports}
use Rattle.pz_classes_rules.specs.Kinds.{is_cluster}
use Rattle.pz_classes_rules.specs.Words.{is_among}
use Rattle.pz_classes_rules.specs.Instances.{instances, channels, instance_class}
use Rattle.pz_classes_rules.specs.RepeatRules.{Repeats}

-- where an end stands: at its first name
abbrev pub end_place : ChannelEnd → Pos
end_place (Inner i port) = i.pos
end_place (Outer port) = port.pos

-- the ends of all channels, in the order of the text
abbrev pub ends : DeclTree → List ChannelEnd
ends d = flat_map (λ (h : Channel). h.ends) (channels d)

-- the instance of this name; where a name is declared twice, the first counts
abbrev pub instance_named : DeclTree → List ℕ → Option Instance
instance_named d name = find (λ i. bytes_eq name i.name.name) (instances d)

-- The port is one of the instance's class. Nothing is said where that is no class that may have instances.
abbrev pub has_port : ModelTree → List ℕ → Instance → Bool
has_port m port i = option_map_or (λ k. is_among (ports m k) port) (instance_class m i.class.name) true

-- C16: the instance and its port are there, or the port of the cluster class itself. The system has no ports.
abbrev pub breaks_c16 : ModelTree → ℕ → DeclTree → ChannelEnd → Bool
breaks_c16 m c d (Inner i port) = not (option_map_or (has_port m port.name) (instance_named d i.name) false)
breaks_c16 m c d (Outer port) = not (is_cluster d && is_among (ports m c) port.name)

pub data BreaksC16 (m : ModelTree) : Violation → Type 0 where
  no_end : (c : ℕ) (d : DeclTree) (e : ChannelEnd) → declaration m c ≡ Some d → Contains (ends d) e
      → IsTrue (breaks_c16 m c d e) → BreaksC16 m (violation 16 (end_place e))

abbrev pub same_end : ChannelEnd → ChannelEnd → Bool
same_end (Inner i port) (Inner j other) = bytes_eq i.name j.name && bytes_eq port.name other.name
same_end (Outer port) (Outer other) = bytes_eq port.name other.name
same_end _ _ = false

-- both are ports of the cluster class itself
abbrev pub both_outer : ChannelEnd → ChannelEnd → Bool
both_outer (Outer port) (Outer other) = true
both_outer _ _ = false

-- C17: no end stands twice, and no two ports of the cluster class are in one channel
pub data BreaksC17 (m : ModelTree) : Violation → Type 0 where
  again_end : (c : ℕ) (d : DeclTree) (e : ChannelEnd) → declaration m c ≡ Some d
      → Repeats same_end end_place (ends d) e → BreaksC17 m (violation 17 (end_place e))
  again_outer : (c : ℕ) (d : DeclTree) (h : Channel) (e : ChannelEnd) → declaration m c ≡ Some d → IsTrue (is_cluster d)
      → Contains (channels d) h → Repeats both_outer end_place h.ends e → BreaksC17 m (violation 17 (end_place e))
