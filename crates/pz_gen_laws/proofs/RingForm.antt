-- The tree of a ring: it is one of the grammar, it nests little, its text is that of the ring, and it
-- is in place.
use Rattle.std.proofs.Common.{◌≡◌, refl, sym, ◌∙◌, ap, ℕ, suc, ◌+◌, ◌≤◌, length, List, [], ◌∷◌, ◌++◌, map, arith}
use Rattle.std.proofs.lemmas.List.{append-nil}
use Rattle.pz_classes_rules.specs.pz_syntax.declared.tokens.Pos.{Pos}
use Rattle.pz_classes_rules.specs.pz_syntax.declared.clusters.Channel.{Channel}
use Rattle.pz_classes_rules.specs.pz_syntax.declared.clusters.ChannelEnd.{ChannelEnd}
use Rattle.pz_classes_rules.specs.pz_syntax.declared.clusters.SystemDecl.{SystemDecl}
use Rattle.pz_classes_rules.specs.pz_syntax.Classes.{system}
use Rattle.pz_classes_rules.specs.pz_syntax.ModelForm.{IsNonempty, Each, IsProcessClass, IsChannel, IsModel}
use Rattle.pz_classes_rules.specs.pz_syntax.ModelNesting.{nesting}
use Rattle.pz_classes_rules.specs.pz_syntax.ModelText.{end_text, channel_text, decl_text, text}
use Rattle.pz_parser_cursor.specs.Places.{place_separated, place_each}
use Rattle.pz_parser_declarations.specs.ClusterPlaces.{place_end, place_channel, place_system}
use Rattle.pz_parser.specs.ModelPlaces.{place_model}
use Rattle.pz_gen_laws.specs.devices.RingBits.{stations}
use Rattle.pz_gen_laws.specs.devices.RingTree.{channel, halting, all_channels, ring_system, station_at, supervisor_at, system_at, with_system, tree}
use Rattle.pz_gen_laws.proofs.Placing.{system_same, system_again}
use Rattle.pz_gen_laws.proofs.RingMarks.{classes_text}

module _ (at : ℕ → Pos) where
  station_form : IsProcessClass (station_at at)
  station_form = omega arith

  supervisor_form : IsProcessClass (supervisor_at at)
  supervisor_form = omega arith

  placed_ends : (n : ℕ) (es : List ChannelEnd) → IsNonempty es → IsNonempty (place_separated end_text place_end at n es)
  placed_ends n [] some = some
  placed_ends n (e ∷ es) some = tt

  placed_channels : (n : ℕ) (cs : List Channel) → Each IsChannel cs → Each IsChannel (place_each channel_text place_channel at n cs)
  placed_channels n [] all = tt
  placed_channels n (c ∷ cs) all = (placed_ends (suc n) c.ends all.0, placed_channels (n + length (channel_text c)) cs all.1)

  are_channels : (n : ℕ) (is js : List ℕ) → Each IsChannel (map (channel n) is ++ halting js ∷ [])
  are_channels n [] js = (tt, tt)
  are_channels n (i ∷ is) js = (tt, are_channels n is js)

  pub is_model : (n : ℕ) → IsModel (tree at n)
  is_model n = (tt, (station_form, (supervisor_form, (placed_channels _ (all_channels n (stations n)) (are_channels n (stations n) (stations n)), tt))))

  pub nests : (n : ℕ) → nesting (tree at n) ≤ 100
  nests n = omega arith

  with_text : (s : SystemDecl) → text (with_system at s) ≡ classes_text (decl_text (system s) ++ [])
  unfolding classes_text
  with_text s = refl

  pub text_is : (n : ℕ) → text (tree at n) ≡ classes_text (decl_text (system (ring_system n)))
  text_is n = with_text (place_system at system_at (ring_system n)) ∙ ap classes_text (append-nil _ ∙ system_same at system_at (ring_system n))

  pub in_place : (n : ℕ) → tree at n ≡ place_model at 0 (tree at n)
  in_place n = ap (λ (s : SystemDecl). with_system at s) (sym (system_again at system_at (ring_system n)))
