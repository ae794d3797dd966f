-- What a sound model says of its system and of the clusters in it, in positive words.
use Rattle.std.specs.Prelude.{◌≡◌, ◌≤◌, ℕ, List, [], ◌∷◌, map, Some, Contains, IsTrue}
use Rattle.std.specs.Str.{bytes_eq}
use Rattle.std.specs.List.{count_by}
use Rattle.pz_classes_code.specs.pz_syntax.declared.clusters.Instance.{Instance}
use Rattle.pz_classes_code.specs.pz_syntax.declared.clusters.Channel.{Channel}
use Rattle.pz_classes_code.specs.pz_syntax.declared.clusters.ChannelEnd.{ChannelEnd}
use Rattle.pz_classes_code.specs.pz_syntax.declared.clusters.ChannelEnd.TheVariants.{Inner, Outer}
use Rattle.pz_classes_code.specs.pz_syntax.declared.clusters.SystemDecl.{SystemDecl}
use Rattle.pz_classes_code.specs.pz_syntax.Classes.{DeclTree, ModelTree}
use Rattle.pz_classes_rules.specs.Numbers.{declaration}
use Rattle.pz_classes_rules.specs.Members.{ports, spelled}
use Rattle.pz_classes_code.specs.Places.{place_in}
use Rattle.pz_classes_rules.specs.Kinds.{is_cluster}
use Rattle.pz_classes_rules.specs.Instances.{instances, channels, instance_class, parameters}
use Rattle.pz_classes_rules.specs.InstanceRules.{given_names, Holds}
use Rattle.pz_classes_rules.specs.RepeatRules.{same_name}
use Rattle.pz_classes_rules.specs.ChannelRules.{ends, instance_named, same_end, both_outer}
use Rattle.pz_classes_rules.specs.SizeRules.{systems, Totals, system_size}
use Rattle.pz_classes_rules.specs.Apart.{AreApart}
use Rattle.pz_classes_rules.specs.Soundness.{IsSound}

-- the model has one system
pub record HasOneSystem (m : ModelTree) : Type 0 where
  pub the_system : SystemDecl
  pub only : systems m ≡ the_system ∷ []

-- an instance is of a class that may have instances, and gives each of its parameters once and no
-- other name
pub record InstanceFits (m : ModelTree) (i : Instance) : Type 0 where
  pub class : ℕ
  pub is_class : instance_class m i.class.name ≡ Some class
  pub once : (name : List ℕ) → Contains (spelled (parameters m class)) name → count_by (bytes_eq name) (given_names i) ≡ 1
  pub only : (name : List ℕ) → Contains (given_names i) name → Contains (spelled (parameters m class)) name

-- a class has the port, which has its number among the class's ports
pub record HasPort (m : ModelTree) (c : ℕ) (port : List ℕ) : Type 0 where
  pub number : ℕ
  pub placed : place_in (spelled (ports m c)) port ≡ Some number

-- the instance is there, and its class has the port
pub record InnerFits (m : ModelTree) (d : DeclTree) (i port : List ℕ) : Type 0 where
  pub instance : Instance
  pub named : instance_named d i ≡ Some instance
  pub class : ℕ
  pub is_class : instance_class m instance.class.name ≡ Some class
  pub has_port : HasPort m class port

-- the class is a cluster class, and has the port itself
pub record OuterFits (m : ModelTree) (c : ℕ) (d : DeclTree) (port : List ℕ) : Type 0 where
  pub cluster : IsTrue (is_cluster d)
  pub has_port : HasPort m c port

-- an end of a channel of the class c, which is declared as d, is there
abbrev pub EndFits : ModelTree → ℕ → DeclTree → ChannelEnd → Type 0
EndFits m c d (Inner i port) = InnerFits m d i.name port.name
EndFits m c d (Outer port) = OuterFits m c d port.name

-- what is declared as class c stands in it as it should
pub record PartsFit (m : ModelTree) (c : ℕ) (d : DeclTree) : Type 0 where
  pub instances_fit : (i : Instance) → Contains (instances d) i → InstanceFits m i
  pub instances_apart : AreApart same_name (map (λ i. i.name) (instances d))
  pub ends_fit : (e : ChannelEnd) → Contains (ends d) e → EndFits m c d e
  pub ends_apart : AreApart same_end (ends d)
  pub outer_apart : (h : Channel) → Contains (channels d) h → AreApart both_outer h.ends
  pub unheld : IsTrue (is_cluster d) → Holds m c c → ⊥

-- the expanded system is not too large
pub record IsLimited (t : Totals) : Type 0 where
  pub processes : t.processes ≤ 10000
  pub clusters : t.clusters ≤ 10000
  pub channels : t.channels ≤ 1000000

pub record SystemFits (m : ModelTree) : Type 0 where
  pub one_system : HasOneSystem m
  pub parts_fit : (c : ℕ) (d : DeclTree) → declaration m c ≡ Some d → PartsFit m c d
  pub limited : (s : SystemDecl) → Contains (systems m) s → IsLimited (system_size m s)

-- a sound model has one system, in which everything is there that is named, and nothing stands twice
abbrev pub SoundSystemsFit : Type 0
SoundSystemsFit = (m : ModelTree) → IsSound m → SystemFits m
