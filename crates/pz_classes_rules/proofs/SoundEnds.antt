-- The channels of a sound model.
use Rattle.std.proofs.Common.{◌≡◌, refl, ℕ, suc, Bool, true, false, ◌&&◌, not, IsTrue, List, [], ◌∷◌, Option, Some, None}
use Rattle.std.specs.List.{Contains}
use Rattle.std.specs.Option.{option_map_or}
use Rattle.std.specs.Str.{bytes_eq}
use Rattle.pz_classes_code.specs.pz_syntax.declared.names.Id.{Id}
use Rattle.pz_classes_code.specs.pz_syntax.declared.clusters.Instance.{Instance}
use Rattle.pz_classes_code.specs.pz_syntax.declared.clusters.Channel.{Channel}
use Rattle.pz_classes_code.specs.pz_syntax.declared.clusters.ChannelEnd.{ChannelEnd}
use Rattle.pz_classes_code.specs.pz_syntax.declared.clusters.ChannelEnd.TheVariants.{Inner, Outer}
use Rattle.pz_classes_code.specs.pz_syntax.Classes.{DeclTree, ModelTree}
use Rattle.pz_check_violations.specs.Order.{violation}
use Rattle.pz_classes_rules.specs.Numbers.{declaration}
use Rattle.pz_classes_rules.specs.Members.{ports, spelled}
use Rattle.pz_classes_code.specs.Places.{place_from}
use Rattle.pz_classes_rules.specs.Kinds.{is_cluster}
use Rattle.pz_classes_rules.specs.Words.{is_among}
use Rattle.pz_classes_rules.specs.Instances.{instances, channels}
use Rattle.pz_classes_rules.specs.ChannelRules.{end_place, ends, instance_named, has_port, breaks_c16, no_end, same_end, both_outer, again_end, again_outer}
use Rattle.pz_classes_rules.specs.Soundness.{IsSound, an_end, two_ends}
use Rattle.pz_classes_rules.specs.Apart.{AreApart}
use Rattle.pz_classes_rules.specs.SoundSystem.{HasPort, EndFits, OuterFits}
use Rattle.pz_classes_rules.proofs.Elements.{both_true, at_place, found_in, in_flat}
use Rattle.pz_classes_rules.proofs.Turned.{ends_turned, outers_turned}
use Rattle.pz_classes_rules.proofs.Apart.{apart}
use Rattle.pz_classes_rules.proofs.SoundInstances.{has_class}

-- a name among these has a place
pub placed_from : (n : ℕ) (ids : List Id) (name : List ℕ) → IsTrue (is_among ids name) → (k : ℕ) × (place_from n (spelled ids) name ≡ Some k)
placed_from n [] name is = cc
placed_from n (x ∷ xs) name is = by_test (placed_from (suc n) xs name) (bytes_eq name x.name) refl
  where
    by_test : (IsTrue (is_among xs name) → (k : ℕ) × (place_from (suc n) (spelled xs) name ≡ Some k)) → (b : Bool) → bytes_eq name x.name ≡ b → (k : ℕ) × (place_from n (spelled (x ∷ xs)) name ≡ Some k)
    by_test rest true does = (n, rw does refl)
    by_test rest false does = let r = rest (rw does at is) in (r.0, rw does r.1)

pub port_is : (m : ModelTree) (c : ℕ) (port : List ℕ) → IsTrue (is_among (ports m c) port) → HasPort m c port
port_is m c port is = let at_number = placed_from 0 (ports m c) port is in record { number = at_number.0; placed = at_number.1 }

not_not : (b : Bool) → (IsTrue (not b) → ⊥) → IsTrue b
not_not true never = refl
not_not false never = absurd (never refl)

module _ (m : ModelTree) (sound : IsSound m) (c : ℕ) (d : DeclTree) (declared : declaration m c ≡ Some d) where
  end_holds : (e : ChannelEnd) → Contains (ends d) e → IsTrue (breaks_c16 m c d e) → ⊥
  end_holds e here wrong = sound.rules (violation 16 (end_place e)) (an_end (violation 16 (end_place e)) (no_end c d e declared here wrong))

  pub end_fits : (e : ChannelEnd) → Contains (ends d) e → EndFits m c d e
  end_fits (Inner i port) here = by_instance (instance_named d i.name) refl (not_not (option_map_or (has_port m port.name) (instance_named d i.name) false) (end_holds (Inner i port) here))
    where
      by_instance : (o : Option Instance) → instance_named d i.name ≡ o → IsTrue (option_map_or (has_port m port.name) o false) → EndFits m c d (Inner i port)
      by_instance None is has = cc
      by_instance (Some j) is has =
          let k = has_class m sound c d declared j (found_in (λ x. bytes_eq i.name x.name.name) (instances d) j is) in
          let there : IsTrue (is_among (ports m k.0) port.name) = rw k.1 at has in
          record { instance = j; named = is; class = k.0; is_class = k.1; has_port = port_is m k.0 port.name there }
  end_fits (Outer port) here =
      let is = both_true (is_cluster d) (is_among (ports m c) port.name) (not_not (is_cluster d && is_among (ports m c) port.name) (end_holds (Outer port) here)) in
      record { cluster = is.0; has_port = port_is m c port.name is.1 }

  pub ends_apart : AreApart same_end (ends d)
  ends_apart = apart same_end end_place (ends d) ends_turned (λ e again. sound.rules (violation 17 (end_place e)) (two_ends (violation 17 (end_place e)) (again_end c d e declared again)))

  pub outer_apart : (h : Channel) → Contains (channels d) h → AreApart both_outer h.ends
  outer_apart h here i j x y first second alike = by_cluster (cluster_at x (at_place h.ends i x first) alike)
    where
      cluster_at : (e : ChannelEnd) → Contains h.ends e → IsTrue (both_outer e y) → IsTrue (is_cluster d)
      cluster_at (Inner k port) among is = cc
      cluster_at (Outer port) among is = let fits : OuterFits m c d port.name = end_fits (Outer port) (in_flat (λ (g : Channel). g.ends) (channels d) h (Outer port) here among) in fits.cluster

      by_cluster : IsTrue (is_cluster d) → i ≡ j
      by_cluster cluster =
          apart both_outer end_place h.ends outers_turned
          (λ e again. sound.rules (violation 17 (end_place e)) (two_ends (violation 17 (end_place e)) (again_outer c d h e declared cluster here again))) i j x y first second alike
