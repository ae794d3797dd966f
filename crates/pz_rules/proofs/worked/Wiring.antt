-- Which wire a port has, computed, where every process stands in the system itself and in no cluster.
use Rattle.std.proofs.Common.{◌≡◌, inl, inr, ◌⊎◌, ℕ, zero, suc, Bool, true, false, List, [], ◌∷◌, Option, Some, None, refl, sym, subst, ap, ◌∙◌, slice_get}
use Rattle.std.specs.Prelude.{◌&&◌}
use Rattle.std.proofs.lemmas.Bool.{and_parts}
use Rattle.pz_bind_rules.specs.pz_syntax.declared.clusters.Instance.{Instance}
use Rattle.pz_bind_rules.specs.pz_syntax.declared.clusters.Channel.{Channel as Written}
use Rattle.pz_bind_rules.specs.pz_syntax.Classes.{ModelTree}
use Rattle.pz_bind_rules.specs.pz_classes_rules.Members.{ports, spelled}
use Rattle.pz_bind_levels.specs.Places.{Address}
use Rattle.pz_bind_levels.specs.Wires.{Channel, channel}
use Rattle.pz_bind_rules.specs.Nest.{processes, class_at, instance_at, channels_at}
use Rattle.pz_bind_rules.specs.Connections.{end, names_inner, is_in, Leads, itself}
use Rattle.pz_bind_rules.specs.Wires.{wires, HasWire}
use Rattle.pz_rules.specs.Ports.{IsWire}
use Rattle.pz_rules.proofs.Locals.{some_is}
use Rattle.pz_rules.proofs.Wires.{by_in, joined_top, lead_cases, Onwards}

pub no_true : {P : Type 0} → false ≡ true → P
no_true {P} e = absurd (differ e)
  where
    differ : false ≡ true → ⊥
    differ d = cc

-- in the system itself
abbrev outer : Address → Bool
outer [] = false
outer (j ∷ []) = true
outer (j ∷ i ∷ up) = false

abbrev all_outer : List Address → Bool
all_outer [] = true
all_outer (place ∷ places) = outer place && all_outer places

outer_at : (places : List Address) (i : ℕ) (place : Address) → all_outer places ≡ true → slice_get places i ≡ Some place → outer place ≡ true
outer_at [] i place all e = absurd (differ e)
  where
    differ : None ≡ Some place → ⊥
    differ d = cc
outer_at (q ∷ places) zero place all e = ap outer (sym (some_is e)) ∙ (and_parts (outer q) (all_outer places) all).0
outer_at (q ∷ places) (suc i) place all e = outer_at places i place (and_parts (outer q) (all_outer places) all).1 e

module _ (m : ModelTree) where
  -- no process stands in a cluster
  abbrev pub IsFlat : Type 0
  IsFlat = all_outer (processes m) ≡ true

  -- the channel names this port of the instance
  abbrev names_it : Option Instance → List ℕ → Option Written → Bool
  names_it None name h = false
  names_it (Some x) name None = false
  names_it (Some x) name (Some h) = names_inner x.name.name name h

  -- that of instance j of the system, where the channel is one of the system
  abbrev in_channel : ℕ → List ℕ → Address → ℕ → Bool
  in_channel j name [] k = names_it (instance_at m [] j) name (slice_get (channels_at m []) k)
  in_channel j name (i ∷ up) k = false

  abbrev in_wire : ℕ → List ℕ → Option Channel → Bool
  in_wire j name None = false
  in_wire j name (Some c) = in_channel j name c.place c.number

  abbrev named_in : Address → List ℕ → ℕ → Bool
  named_in [] name w = false
  named_in (j ∷ []) name w = in_wire j name (slice_get (wires m) w)
  named_in (j ∷ i ∷ up) name w = false

  abbrev port_in : Address → Option (List ℕ) → ℕ → Bool
  port_in place None w = false
  port_in place (Some name) w = named_in place name w

  abbrev placed_in : Option Address → ℕ → ℕ → Bool
  placed_in None port w = false
  placed_in (Some place) port w = port_in place (slice_get (spelled (ports m (class_at m place))) port) w

  abbrev pub wired : ℕ → ℕ → ℕ → Bool
  wired i port w = placed_in (slice_get (processes m) i) port w

  -- What is computed is so

  channel_sound : (j : ℕ) (name : List ℕ) (w : ℕ) (place : Address) (k : ℕ) → slice_get (wires m) w ≡ Some (channel place k) → in_channel j name place k ≡ true → HasWire m (end (j ∷ []) name) w
  channel_sound j name w (i ∷ up) k there is = no_true is
  channel_sound j name w [] k there is = by (instance_at m [] j) refl (slice_get (channels_at m []) k) refl is
    where
      by : (x : Option Instance) → instance_at m [] j ≡ x → (h : Option Written) → slice_get (channels_at m []) k ≡ h → names_it x name h ≡ true → HasWire m (end (j ∷ []) name) w
      by None stands h written named = no_true named
      by (Some x) stands None written named = no_true named
      by (Some x) stands (Some h) written named = record {
        last = channel [] k;
        reached = record { first = channel [] k; starts = is_in [] j k x h name stands written named; leads = itself (channel [] k) };
        ends = λ c joined. joined_top m k c joined;
        there = there;
      }

  wire_sound : (j : ℕ) (name : List ℕ) (w : ℕ) (o : Option Channel) → slice_get (wires m) w ≡ o → in_wire j name o ≡ true → HasWire m (end (j ∷ []) name) w
  wire_sound j name w None there is = no_true is
  wire_sound j name w (Some c) there is = channel_sound j name w c.place c.number there is

  named_sound : (place : Address) (name : List ℕ) (w : ℕ) → named_in place name w ≡ true → HasWire m (end place name) w
  named_sound [] name w is = no_true is
  named_sound (j ∷ []) name w is = wire_sound j name w (slice_get (wires m) w) refl is
  named_sound (j ∷ i ∷ up) name w is = no_true is

  port_sound : (i port w : ℕ) (place : Address) (o : Option (List ℕ)) → slice_get (processes m) i ≡ Some place → slice_get (spelled (ports m (class_at m place))) port ≡ o → port_in place o w ≡ true → IsWire m i port w
  port_sound i port w place None stands named is = no_true is
  port_sound i port w place (Some name) stands named is = record { place = place; is_process = stands; name = name; named = named; has_wire = named_sound place name w is }

  placed_sound : (i port w : ℕ) (o : Option Address) → slice_get (processes m) i ≡ o → placed_in o port w ≡ true → IsWire m i port w
  placed_sound i port w None stands is = no_true is
  placed_sound i port w (Some place) stands is = port_sound i port w place (slice_get (spelled (ports m (class_at m place))) port) stands refl is

  pub wired_sound : (i port w : ℕ) → wired i port w ≡ true → IsWire m i port w
  wired_sound i port w is = placed_sound i port w (slice_get (processes m) i) refl is

  -- And what is so is computed

  -- a channel of the system leads no further
  leads_no_further : (k : ℕ) (c : Channel) → Leads m (channel [] k) c → c ≡ channel [] k
  leads_no_further k c leads = by (lead_cases m (channel [] k) c leads)
    where
      by : (channel [] k ≡ c) ⊎ Onwards m (channel [] k) c → c ≡ channel [] k
      by (inl same) = sym same
      by (inr on) = absurd (joined_top m k on.0 on.1)

  named_complete : (place : Address) (name : List ℕ) (w : ℕ) → outer place ≡ true → HasWire m (end place name) w → named_in place name w ≡ true
  named_complete [] name w is has = no_true is
  named_complete (j ∷ i ∷ up) name w is has = no_true is
  named_complete (j ∷ []) name w is has =
      let inside = by_in m j [] name has.reached.first has.reached.starts in
      let x : Instance = inside.0 in
      let k : ℕ = inside.2.0 in
      let written = inside.2.2 in
      let h : Written = written.0 in
      let last : has.last ≡ channel [] k = leads_no_further k has.last (subst (λ (c : Channel). Leads m c has.last) written.2.1 has.reached.leads) in
      ap (in_wire j name) (has.there ∙ ap (λ (c : Channel). Some c) last)
      ∙ ap (λ (o : Option Instance). names_it o name (slice_get (channels_at m []) k)) inside.1
      ∙ ap (names_it (Some x) name) written.1
      ∙ written.2.0

  pub wired_complete : IsFlat → (i port w : ℕ) → IsWire m i port w → wired i port w ≡ true
  wired_complete flat i port w x =
      ap (λ (o : Option Address). placed_in o port w) x.is_process
      ∙ ap (λ (o : Option (List ℕ)). port_in x.place o w) x.named
      ∙ named_complete x.place x.name w (outer_at (processes m) i x.place flat x.is_process) x.has_wire
