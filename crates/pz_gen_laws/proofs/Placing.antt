-- Trees at the places of tokens: their texts are as before, and to put them there again changes nothing.
use Rattle.std.proofs.Common.{◌≡◌, refl, ◌∙◌, ap, ap₂, ℕ, suc, ◌+◌, List, [], ◌∷◌, ◌++◌, length, Option, Some, None}
use Rattle.pz_classes_rules.specs.pz_syntax.declared.tokens.Keyword.TheVariants as k
use Rattle.pz_classes_rules.specs.pz_syntax.declared.tokens.Symbol.{Symbol}
use Rattle.pz_classes_rules.specs.pz_syntax.declared.tokens.Symbol.TheVariants as s
use Rattle.pz_classes_rules.specs.pz_syntax.declared.tokens.Pos.{Pos}
use Rattle.pz_classes_rules.specs.pz_syntax.declared.tokens.Mark.{Mark}
use Rattle.pz_classes_rules.specs.pz_syntax.declared.clusters.Arg.{Arg}
use Rattle.pz_classes_rules.specs.pz_syntax.declared.clusters.Arg.TheVariants.{Plain, Negated, Parameter}
use Rattle.pz_classes_rules.specs.pz_syntax.declared.clusters.Given.{Given}
use Rattle.pz_classes_rules.specs.pz_syntax.declared.clusters.Instance.{Instance}
use Rattle.pz_classes_rules.specs.pz_syntax.declared.clusters.Channel.{Channel}
use Rattle.pz_classes_rules.specs.pz_syntax.declared.clusters.ChannelEnd.{ChannelEnd}
use Rattle.pz_classes_rules.specs.pz_syntax.declared.clusters.ChannelEnd.TheVariants.{Inner, Outer}
use Rattle.pz_classes_rules.specs.pz_syntax.declared.clusters.SystemDecl.{SystemDecl}
use Rattle.pz_classes_rules.specs.pz_syntax.Marks.{symbol, keyword, word, head, in_parentheses, in_braces, tail_separated, separated, each_text, optional, section}
use Rattle.pz_classes_rules.specs.pz_syntax.ModelText.{arg_text, given_text, givens_text, instance_text, end_text, channel_text, system_text}
use Rattle.pz_parser_cursor.specs.Places.{Placing, place_id, place_tail, place_separated, place_each, place_optional, place_section}
use Rattle.pz_parser_declarations.specs.ClusterPlaces.{place_arg, place_given, place_givens, place_instance, place_instances, place_end, place_channel, place_channels, place_system}

-- where the text of a part stays, so does that of a list
module _ {A : Type 0} (text_of : A → List Mark) (place : Placing A) (same : (at : ℕ → Pos) (n : ℕ) (x : A) → text_of (place at n x) ≡ text_of x) where
  each_same : (at : ℕ → Pos) (n : ℕ) (xs : List A) → each_text text_of (place_each text_of place at n xs) ≡ each_text text_of xs
  each_same at n [] = refl
  each_same at n (x ∷ xs) = ap₂ (λ (a b : List Mark). a ++ b) (same at n x) (each_same at (n + length (text_of x)) xs)

  tail_same : (separator : Symbol) (at : ℕ → Pos) (n : ℕ) (xs : List A) → tail_separated text_of separator (place_tail text_of place at n xs) ≡ tail_separated text_of separator xs
  tail_same separator at n [] = refl
  tail_same separator at n (x ∷ xs) = ap₂ (λ (a b : List Mark). symbol separator ∷ (a ++ b)) (same at (suc n) x) (tail_same separator at (suc n + length (text_of x)) xs)

  separated_same : (separator : Symbol) (at : ℕ → Pos) (n : ℕ) (xs : List A) → separated text_of separator (place_separated text_of place at n xs) ≡ separated text_of separator xs
  separated_same separator at n [] = refl
  separated_same separator at n (x ∷ xs) = ap₂ (λ (a b : List Mark). a ++ b) (same at n x) (tail_same separator at (n + length (text_of x)) xs)

-- where a part that is in place stays, so does a list
module _ {A : Type 0} (text_of : A → List Mark) (place : Placing A) (same : (at : ℕ → Pos) (n : ℕ) (x : A) → text_of (place at n x) ≡ text_of x) (again : (at : ℕ → Pos) (n : ℕ) (x : A) → place at n (place at n x) ≡ place at n x) where
  each_again : (at : ℕ → Pos) (n : ℕ) (xs : List A) → place_each text_of place at n (place_each text_of place at n xs) ≡ place_each text_of place at n xs
  each_again at n [] = refl
  each_again at n (x ∷ xs) =
      ap₂ (λ (y : A) (ys : List A). y ∷ ys) (again at n x)
      (ap (λ (t : List Mark). place_each text_of place at (n + length t) (place_each text_of place at (n + length (text_of x)) xs)) (same at n x) ∙ each_again at (n + length (text_of x)) xs)

  tail_again : (at : ℕ → Pos) (n : ℕ) (xs : List A) → place_tail text_of place at n (place_tail text_of place at n xs) ≡ place_tail text_of place at n xs
  tail_again at n [] = refl
  tail_again at n (x ∷ xs) =
      ap₂ (λ (y : A) (ys : List A). y ∷ ys) (again at (suc n) x)
      (ap (λ (t : List Mark). place_tail text_of place at (suc n + length t) (place_tail text_of place at (suc n + length (text_of x)) xs)) (same at (suc n) x) ∙ tail_again at (suc n + length (text_of x)) xs)

  separated_again : (at : ℕ → Pos) (n : ℕ) (xs : List A) → place_separated text_of place at n (place_separated text_of place at n xs) ≡ place_separated text_of place at n xs
  separated_again at n [] = refl
  separated_again at n (x ∷ xs) =
      ap₂ (λ (y : A) (ys : List A). y ∷ ys) (again at n x)
      (ap (λ (t : List Mark). place_tail text_of place at (n + length t) (place_tail text_of place at (n + length (text_of x)) xs)) (same at n x) ∙ tail_again at (n + length (text_of x)) xs)

module _ where
  arg_same : (at : ℕ → Pos) (n : ℕ) (a : Arg) → arg_text (place_arg at n a) ≡ arg_text a
  arg_same at n (Plain x pos) = refl
  arg_same at n (Negated x pos) = refl
  arg_same at n (Parameter x) = refl

  arg_again : (at : ℕ → Pos) (n : ℕ) (a : Arg) → place_arg at n (place_arg at n a) ≡ place_arg at n a
  arg_again at n (Plain x pos) = refl
  arg_again at n (Negated x pos) = refl
  arg_again at n (Parameter x) = refl

  given_same : (at : ℕ → Pos) (n : ℕ) (g : Given) → given_text (place_given at n g) ≡ given_text g
  given_same at n g = ap (λ (ms : List Mark). word g.name ∷ symbol s.Assign ∷ ms) (arg_same at (suc (suc n)) g.arg)

  given_again : (at : ℕ → Pos) (n : ℕ) (g : Given) → place_given at n (place_given at n g) ≡ place_given at n g
  given_again at n g = ap (λ (a : Arg). record { name = place_id at n g.name; arg = a }) (arg_again at (suc (suc n)) g.arg)

  givens_same : (at : ℕ → Pos) (n : ℕ) (o : Option (List Given)) → optional givens_text (place_optional place_givens at n o) ≡ optional givens_text o
  givens_same at n None = refl
  givens_same at n (Some gs) = ap in_parentheses (separated_same given_text place_given given_same s.Comma at (suc n) gs)

  givens_again : (at : ℕ → Pos) (n : ℕ) (o : Option (List Given)) → place_optional place_givens at n (place_optional place_givens at n o) ≡ place_optional place_givens at n o
  givens_again at n None = refl
  givens_again at n (Some gs) = ap (λ (l : List Given). Some l) (separated_again given_text place_given given_same given_again at (suc n) gs)

  instance_same : (at : ℕ → Pos) (n : ℕ) (i : Instance) → instance_text (place_instance at n i) ≡ instance_text i
  instance_same at n i = ap (λ (ms : List Mark). head i.name ∷ symbol s.Colon ∷ word i.class ∷ ms) (givens_same at (suc (suc (suc n))) i.given)

  instance_again : (at : ℕ → Pos) (n : ℕ) (i : Instance) → place_instance at n (place_instance at n i) ≡ place_instance at n i
  instance_again at n i = ap (λ (o : Option (List Given)). record { name = place_id at n i.name; class = place_id at (suc (suc n)) i.class; given = o }) (givens_again at (suc (suc (suc n))) i.given)

  end_same : (at : ℕ → Pos) (n : ℕ) (e : ChannelEnd) → end_text (place_end at n e) ≡ end_text e
  end_same at n (Inner part port) = refl
  end_same at n (Outer port) = refl

  end_again : (at : ℕ → Pos) (n : ℕ) (e : ChannelEnd) → place_end at n (place_end at n e) ≡ place_end at n e
  end_again at n (Inner part port) = refl
  end_again at n (Outer port) = refl

  channel_same : (at : ℕ → Pos) (n : ℕ) (c : Channel) → channel_text (place_channel at n c) ≡ channel_text c
  channel_same at n c = ap in_braces (separated_same end_text place_end end_same s.Comma at (suc n) c.ends)

  channel_again : (at : ℕ → Pos) (n : ℕ) (c : Channel) → place_channel at n (place_channel at n c) ≡ place_channel at n c
  channel_again at n c = ap (λ (es : List ChannelEnd). record { pos = at n; ends = es }) (separated_again end_text place_end end_same end_again at (suc n) c.ends)

  instances_same : (at : ℕ → Pos) (n : ℕ) (o : Option (List Instance)) → section k.Instances (each_text instance_text) (place_section place_instances at n o) ≡ section k.Instances (each_text instance_text) o
  instances_same at n None = refl
  instances_same at n (Some is) = ap (λ (ms : List Mark). keyword k.Instances ∷ ms) (each_same instance_text place_instance instance_same at (suc n) is)

  instances_again : (at : ℕ → Pos) (n : ℕ) (o : Option (List Instance)) → place_section place_instances at n (place_section place_instances at n o) ≡ place_section place_instances at n o
  instances_again at n None = refl
  instances_again at n (Some is) = ap (λ (l : List Instance). Some l) (each_again instance_text place_instance instance_same instance_again at (suc n) is)

  channels_same : (at : ℕ → Pos) (n : ℕ) (o : Option (List Channel)) → section k.Channels (each_text channel_text) (place_section place_channels at n o) ≡ section k.Channels (each_text channel_text) o
  channels_same at n None = refl
  channels_same at n (Some cs) = ap (λ (ms : List Mark). keyword k.Channels ∷ ms) (each_same channel_text place_channel channel_same at (suc n) cs)

  channels_again : (at : ℕ → Pos) (n : ℕ) (o : Option (List Channel)) → place_section place_channels at n (place_section place_channels at n o) ≡ place_section place_channels at n o
  channels_again at n None = refl
  channels_again at n (Some cs) = ap (λ (l : List Channel). Some l) (each_again channel_text place_channel channel_same channel_again at (suc n) cs)

  pub system_same : (at : ℕ → Pos) (n : ℕ) (d : SystemDecl) → system_text (place_system at n d) ≡ system_text d
  system_same at n d =
      ap₂ (λ (a b : List Mark). keyword k.System ∷ (a ++ b)) (instances_same at (suc n) d.instances)
      (channels_same at (suc n + length (section k.Instances (each_text instance_text) d.instances)) d.channels)

  pub system_again : (at : ℕ → Pos) (n : ℕ) (d : SystemDecl) → place_system at n (place_system at n d) ≡ place_system at n d
  system_again at n d =
      let from : ℕ = suc n + length (section k.Instances (each_text instance_text) d.instances) in
      ap₂ (λ (is : Option (List Instance)) (cs : Option (List Channel)). record { pos = at n; instances = is; channels = cs }) (instances_again at (suc n) d.instances)
      (ap (λ (t : List Mark). place_section place_channels at (suc n + length t) (place_section place_channels at from d.channels)) (instances_same at (suc n) d.instances) ∙ channels_again at from d.channels)
