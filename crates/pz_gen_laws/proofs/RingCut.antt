-- The text of a ring, cut into its tokens.
use Rattle.std.proofs.Common.{◌≡◌, refl, ◌∙◌, ap, ap₂, ℕ, ◌==◌, Bool, true, false, not, ◌&&◌, List, [], ◌∷◌, ◌++◌, map, codes}
use Rattle.std.specs.List.{flat_map}
use Rattle.pz_lexer.specs.Bytes.{is_word, begins}
use Rattle.pz_lexer.specs.Tokens.{AreTokens, tokens_of}
use Rattle.pz_classes_rules.specs.pz_syntax.declared.tokens.Token.{Token}
use Rattle.pz_parser_cursor.specs.devices.Input.{marks}
use Rattle.pz_gen.specs.Ring as ring
use Rattle.pz_gen_laws.specs.devices.Bits.{Bit, piece_of, text_of, all_fit}
use Rattle.pz_gen_laws.specs.devices.RingBits.{classes, stations, instance_of, instance, supervisor, channel, halted_end, halting_begin, line_end, halting, all_channels, after_stations, after_classes, bits}
use Rattle.pz_gen_laws.proofs.Cuts.{joined_bits, are_pieces, text_of-append, text_of-flat_map, all_fit-append, Fit, Fit-append, Fit-flat_map}

module _ where
  classes_fit : Fit classes
  classes_fit rest = refl

  supervisor_fits : Fit supervisor
  supervisor_fits rest = refl

  instance_of_fits : (i : ℕ) (first : Bool) → Fit (instance_of i first)
  instance_of_fits i true = λ rest. refl
  instance_of_fits i false = λ rest. refl

  channel_fits : (n i : ℕ) → Fit (channel n i)
  channel_fits n i rest = refl

  -- the `sup` of an end is followed by the next end, or by what follows all
  then_ends : (is rest : List ℕ) → begins is_word rest ≡ false → begins is_word (text_of (flat_map halted_end is) ++ rest) ≡ false
  then_ends [] rest whole = whole
  then_ends (i ∷ is) rest whole = refl

  halted_ends_fit : (is rest : List ℕ) → begins is_word rest ≡ false → all_fit (flat_map halted_end is) rest ≡ true
  halted_ends_fit [] rest whole = refl
  halted_ends_fit (i ∷ is) rest whole =
      all_fit-append (halted_end i) (flat_map halted_end is) rest (ap (λ (b : Bool). not b && true) (then_ends is rest whole)) (halted_ends_fit is rest whole)

  first_end : (is rest : List ℕ) → begins is_word (text_of (flat_map halted_end is ++ line_end) ++ rest) ≡ false
  first_end [] rest = refl
  first_end (i ∷ is) rest = refl

  halting_fits : (is : List ℕ) → Fit (halting is)
  halting_fits is rest =
      all_fit-append halting_begin (flat_map halted_end is ++ line_end) rest (ap (λ (b : Bool). not b && true) (first_end is rest))
      (all_fit-append (flat_map halted_end is) line_end rest (halted_ends_fit is (text_of line_end ++ rest) refl) refl)

  bits_fit : (n : ℕ) → Fit (bits n)
  bits_fit n =
      Fit-append classes (after_classes n) classes_fit
      (Fit-append (flat_map instance (stations n)) (after_stations n) (Fit-flat_map instance (λ i. instance_of_fits i (i == 0)) (stations n))
      (Fit-append supervisor (all_channels n) supervisor_fits
      (Fit-append (flat_map (channel n) (stations n)) (halting (stations n)) (Fit-flat_map (channel n) (channel_fits n) (stations n)) (halting_fits (stations n)))))

  -- ---- the text

  joins : (bs cs : List Bit) (t u : List ℕ) → text_of bs ≡ t → text_of cs ≡ u → text_of (bs ++ cs) ≡ t ++ u
  joins bs cs t u front back = text_of-append bs cs ∙ ap₂ (λ (x y : List ℕ). x ++ y) front back

  class_text : text_of classes ≡ ring.classes
  class_text = refl

  instances_text : (is : List ℕ) → text_of (flat_map instance is) ≡ flat_map ring.station is
  instances_text = text_of-flat_map instance ring.station (λ i. refl)

  channels_text : (n : ℕ) (is : List ℕ) → text_of (flat_map (channel n) is) ≡ flat_map (ring.channel n) is
  channels_text n = text_of-flat_map (channel n) (ring.channel n) (λ i. refl)

  halted_text : (is : List ℕ) → text_of (flat_map halted_end is) ≡ flat_map ring.halted_end is
  halted_text = text_of-flat_map halted_end ring.halted_end (λ i. refl)

  halting_text : (n : ℕ) → text_of (halting (stations n)) ≡ ring.halting n
  halting_text n = joins halting_begin (flat_map halted_end (stations n) ++ line_end) (codes "{v.sup") (ring.each n ring.halted_end ++ codes "}\n") refl (joins (flat_map halted_end (stations n)) line_end (ring.each n ring.halted_end) (codes "}\n") (halted_text (stations n)) refl)

  bits_text : (n : ℕ) → text_of (bits n) ≡ ring.model n
  bits_text n =
      joins classes (after_classes n) ring.classes _ class_text
      (joins (flat_map instance (stations n)) (after_stations n) (ring.each n ring.station) _ (instances_text (stations n))
      (joins supervisor (all_channels n) (ring.lines (codes "v : Supervisor" ∷ codes "channels" ∷ [])) _ refl
      (joins (flat_map (channel n) (stations n)) (halting (stations n)) (ring.each n (ring.channel n)) (ring.halting n) (channels_text n (stations n)) (halting_text n))))

  pub tokens : ℕ → List Token
  tokens n = tokens_of (map piece_of (bits n))

  -- the text of a ring has tokens
  pub are_tokens : (n : ℕ) → AreTokens (ring.model n) (tokens n)
  unfolding tokens
  are_tokens n = record {
    pieces = map piece_of (bits n);
    spelling = joined_bits (bits n) ∙ bits_text n;
    cut = are_pieces (bits n) [] (bits_fit n []);
    kept = refl;
  }

  pub tokens_are : (n : ℕ) → marks (tokens n) ≡ marks (tokens_of (map piece_of (bits n)))
  unfolding tokens
  tokens_are n = refl
