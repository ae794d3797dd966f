-- What the rules look at in the system of a ring: the positions of its parts are left open.
use Rattle.std.specs.Prelude.{◌≡◌, ◌≢◌, ℕ, ◌+◌, List, [], ◌∷◌, ◌++◌, length, map, Bool, Some, None, unwrap_or, codes}
use Rattle.std.specs.List.{AllByRecursion, flat_map}
use Rattle.pz_classes_rules.specs.pz_syntax.declared.tokens.Pos.{Pos}
use Rattle.pz_classes_rules.specs.pz_syntax.declared.names.Id.{Id}
use Rattle.pz_classes_rules.specs.pz_syntax.declared.clusters.Arg.TheVariants.{Plain}
use Rattle.pz_classes_rules.specs.pz_syntax.declared.clusters.Instance.{Instance}
use Rattle.pz_classes_rules.specs.pz_syntax.declared.clusters.Channel.{Channel}
use Rattle.pz_classes_rules.specs.pz_syntax.declared.clusters.ChannelEnd.{ChannelEnd}
use Rattle.pz_classes_rules.specs.pz_syntax.declared.clusters.ChannelEnd.TheVariants.{Inner, Outer}
use Rattle.pz_classes_rules.specs.pz_syntax.declared.clusters.SystemDecl.{SystemDecl}
use Rattle.pz_gen.specs.Ring as ring
use Rattle.pz_gen_laws.specs.devices.RingBits.{stations}
use Rattle.pz_gen_laws.specs.devices.RingTree.{truth}

abbrev pub at : List ℕ → Pos → Id
at x p = record { name = x; pos = p }

-- a station or the supervisor, wherever its words stand
pub data IsPart : Instance → Type 0 where
  a_station : (i : ℕ) (first : Bool) (p q r u : Pos) → IsPart (record { name = at (ring.name i) p; class = at (codes "Station") q; given = Some (record { name = at (codes "first") r; arg = Plain (truth first) u } ∷ []) })
  the_supervisor : (p q : Pos) → IsPart (record { name = at (codes "v") p; class = at (codes "Supervisor") q; given = None })

abbrev pub part_name : Instance → List ℕ
part_name i = i.name.name

abbrev pub part_names : List ℕ → List (List ℕ)
part_names is = map ring.name is ++ codes "v" ∷ []

-- the names of a part and a port; a port of a cluster has no part
abbrev pub Key : Type 0
Key = List ℕ × List ℕ

abbrev pub end_key : ChannelEnd → Key
end_key (Inner part port) = (part.name, port.name)
end_key (Outer port) = ([], port.name)

abbrev pub end_keys : List Channel → List Key
end_keys cs = map end_key (flat_map (λ (c : Channel). c.ends) cs)

-- the ends of the channel from station i to station j
abbrev pub keys_to : ℕ → ℕ → List Key
keys_to i j = (ring.name i, codes "right") ∷ (ring.name j, codes "left") ∷ []

abbrev pub ring_keys : ℕ → ℕ → List Key
ring_keys n i = keys_to i (ring.next n i)

abbrev pub halted_key : ℕ → Key
halted_key i = (ring.name i, codes "sup")

abbrev pub halting_keys : List ℕ → List Key
halting_keys is = (codes "v", codes "sup") ∷ map halted_key is

abbrev pub all_keys : ℕ → List ℕ → List Key
all_keys n is = flat_map (ring_keys n) is ++ halting_keys is

abbrev pub instances_in : SystemDecl → List Instance
instances_in s = unwrap_or s.instances []

abbrev pub channels_in : SystemDecl → List Channel
channels_in s = unwrap_or s.channels []

-- the system of a ring of n stations
pub record IsRing (n : ℕ) (s : SystemDecl) : Type 0 where
  pub parts : AllByRecursion IsPart (instances_in s)
  pub names : map part_name (instances_in s) ≡ part_names (stations n)
  pub keys : end_keys (channels_in s) ≡ all_keys n (stations n)
  pub channels : length (channels_in s) ≡ n + 1

-- none of these is k
abbrev pub NotAmong : {K : Type 0} → K → List K → Type 0
NotAmong {K} k ks = AllByRecursion (λ (l : K). k ≢ l) ks

-- of these no two are equal
abbrev pub AreDistinct : {K : Type 0} → List K → Type 0
AreDistinct [] = Unit {0}
AreDistinct (k ∷ ks) = NotAmong k ks × AreDistinct ks
