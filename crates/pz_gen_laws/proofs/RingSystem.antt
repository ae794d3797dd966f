-- The system of a ring at its places.
use Rattle.std.proofs.Common.{◌≡◌, refl, sym, ◌∙◌, ap, ap₂, ℕ, suc, ◌+◌, ◌==◌, List, [], ◌∷◌, ◌++◌, length, map, codes, arith}
use Rattle.std.specs.List.{AllByRecursion, flat_map}
use Rattle.std.proofs.lemmas.List.{append-nil, map-append}
use Rattle.std.proofs.lemmas.List.FromFn.{length-range_with_len}
use Rattle.pz_classes_rules.specs.pz_syntax.declared.tokens.Pos.{Pos}
use Rattle.pz_classes_rules.specs.pz_syntax.declared.clusters.Instance.{Instance}
use Rattle.pz_classes_rules.specs.pz_syntax.declared.clusters.Channel.{Channel}
use Rattle.pz_classes_rules.specs.pz_syntax.declared.clusters.ChannelEnd.{ChannelEnd}
use Rattle.pz_classes_rules.specs.pz_syntax.declared.clusters.ChannelEnd.TheVariants.{Inner, Outer}
use Rattle.pz_classes_rules.specs.pz_syntax.ExpressionErasure.{origin}
use Rattle.pz_classes_rules.specs.pz_syntax.ModelText.{instance_text, end_text, channel_text}
use Rattle.pz_parser_cursor.specs.Places.{place_each, place_separated, place_tail}
use Rattle.pz_parser_declarations.specs.ClusterPlaces.{place_instance, place_end, place_channel, place_system}
use Rattle.pz_gen.specs.Ring.{name}
use Rattle.pz_gen_laws.specs.devices.RingBits.{stations}
use Rattle.pz_gen_laws.specs.devices.RingTree.{channel, halted_end, halting, all_instances, all_channels, ring_system}
use Rattle.pz_gen_laws.specs.devices.RingParts.{IsPart, a_station, the_supervisor, part_name, part_names, Key, end_key, end_keys, ring_keys, halted_key, halting_keys, IsRing}

module _ (at : ℕ → Pos) where
  placed_part : (n : ℕ) (i : Instance) → IsPart i → IsPart (place_instance at n i)
  placed_part n i (a_station j first p q r u) = a_station j first _ _ _ _
  placed_part n i (the_supervisor p q) = the_supervisor _ _

  placed_parts : (n : ℕ) (is : List Instance) → AllByRecursion IsPart is → AllByRecursion IsPart (place_each instance_text place_instance at n is)
  placed_parts n [] all = tt
  placed_parts n (i ∷ is) all = (placed_part n i all.0, placed_parts (n + length (instance_text i)) is all.1)

  placed_names : (n : ℕ) (is : List Instance) → map part_name (place_each instance_text place_instance at n is) ≡ map part_name is
  placed_names n [] = refl
  placed_names n (i ∷ is) = ap (λ (l : List (List ℕ)). part_name i ∷ l) (placed_names (n + length (instance_text i)) is)

  placed_end : (n : ℕ) (e : ChannelEnd) → end_key (place_end at n e) ≡ end_key e
  placed_end n (Inner part port) = refl
  placed_end n (Outer port) = refl

  placed_tail : (n : ℕ) (es : List ChannelEnd) → map end_key (place_tail end_text place_end at n es) ≡ map end_key es
  placed_tail n [] = refl
  placed_tail n (e ∷ es) = ap₂ (λ (k : Key) (l : List Key). k ∷ l) (placed_end (suc n) e) (placed_tail (suc n + length (end_text e)) es)

  placed_ends : (n : ℕ) (es : List ChannelEnd) → map end_key (place_separated end_text place_end at n es) ≡ map end_key es
  placed_ends n [] = refl
  placed_ends n (e ∷ es) = ap₂ (λ (k : Key) (l : List Key). k ∷ l) (placed_end n e) (placed_tail (n + length (end_text e)) es)

  end_keys-cons : (c : Channel) (cs : List Channel) → end_keys (c ∷ cs) ≡ map end_key c.ends ++ end_keys cs
  end_keys-cons c cs = map-append end_key c.ends (flat_map (λ (d : Channel). d.ends) cs)

  placed_keys : (n : ℕ) (cs : List Channel) → end_keys (place_each channel_text place_channel at n cs) ≡ end_keys cs
  placed_keys n [] = refl
  placed_keys n (c ∷ cs) =
      end_keys-cons (place_channel at n c) (place_each channel_text place_channel at (n + length (channel_text c)) cs)
      ∙ ap₂ (λ (k l : List Key). k ++ l) (placed_ends (suc n) c.ends) (placed_keys (n + length (channel_text c)) cs)
      ∙ sym (end_keys-cons c cs)

  placed_count : (n : ℕ) (cs : List Channel) → length (place_each channel_text place_channel at n cs) ≡ length cs
  placed_count n [] = refl
  placed_count n (c ∷ cs) = ap (λ (k : ℕ). suc k) (placed_count (n + length (channel_text c)) cs)

module _ where
  all_parts : (is : List ℕ) → AllByRecursion IsPart (all_instances is)
  all_parts [] = (the_supervisor origin origin, tt)
  all_parts (i ∷ is) = (a_station i (i == 0) origin origin origin origin, all_parts is)

  all_names : (is : List ℕ) → map part_name (all_instances is) ≡ part_names is
  all_names [] = refl
  all_names (i ∷ is) = ap (λ (l : List (List ℕ)). name i ∷ l) (all_names is)

  halted_keys : (is : List ℕ) → map end_key (map halted_end is) ≡ map halted_key is
  halted_keys [] = refl
  halted_keys (i ∷ is) = ap (λ (l : List Key). halted_key i ∷ l) (halted_keys is)

  keys_are : (n : ℕ) (is js : List ℕ) → end_keys (map (channel n) is ++ halting js ∷ []) ≡ flat_map (ring_keys n) is ++ halting_keys js
  keys_are n [] js = ap (λ (l : List Key). (codes "v", codes "sup") ∷ l) (ap (λ (l : List ChannelEnd). map end_key l) (append-nil (map halted_end js)) ∙ halted_keys js)
  keys_are n (i ∷ is) js = ap (λ (l : List Key). ring_keys n i ++ l) (keys_are n is js)

  count_is : (n : ℕ) (is js : List ℕ) → length (map (channel n) is ++ halting js ∷ []) ≡ length is + 1
  count_is n [] js = refl
  count_is n (i ∷ is) js = let rest : length (map (channel n) is ++ halting js ∷ []) ≡ length is + 1 = count_is n is js in omega (arith, rest)

  pub is_ring : (at : ℕ → Pos) (k n : ℕ) → IsRing n (place_system at k (ring_system n))
  is_ring at k n = record {
    parts = placed_parts at _ (all_instances (stations n)) (all_parts (stations n));
    names = placed_names at _ (all_instances (stations n)) ∙ all_names (stations n);
    keys = placed_keys at _ (all_channels n (stations n)) ∙ keys_are n (stations n) (stations n);
    channels = placed_count at _ (all_channels n (stations n)) ∙ count_is n (stations n) (stations n) ∙ ap (λ (l : ℕ). l + 1) (length-range_with_len 0 n);
  }
