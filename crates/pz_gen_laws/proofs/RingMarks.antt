-- The marks of a ring are the text of its tree.
use Rattle.std.proofs.Common.{◌≡◌, refl, sym, ◌∙◌, ap, ap₂, ℕ, ◌==◌, Bool, true, false, List, [], ◌∷◌, ◌++◌, map, codes, append_assoc, append-nil}
use Rattle.std.specs.List.{flat_map}
use Rattle.pz_classes_rules.specs.pz_syntax.declared.tokens.Keyword.TheVariants as k
use Rattle.pz_classes_rules.specs.pz_syntax.declared.tokens.Symbol.TheVariants as s
use Rattle.pz_classes_rules.specs.pz_syntax.declared.tokens.TokenKind.TheVariants as kind
use Rattle.pz_classes_rules.specs.pz_syntax.declared.tokens.Mark.{Mark}
use Rattle.pz_classes_rules.specs.pz_syntax.Heads.{goes_on, makes_head}
use Rattle.pz_classes_rules.specs.pz_syntax.Classes.{process_class, system}
use Rattle.pz_classes_rules.specs.pz_syntax.Marks.{symbol, keyword, mark, tail_separated, each_text}
use Rattle.pz_classes_rules.specs.pz_syntax.ExpressionText.{literal_kind}
use Rattle.pz_classes_rules.specs.pz_syntax.ModelText.{instance_text, end_text, channel_text, decl_text}
use Rattle.pz_gen.specs.Ring as ring
use Rattle.pz_gen_laws.specs.devices.Bits.{Bit}
use Rattle.pz_gen_laws.specs.devices.Marks.{kinds, roles, marks_of}
use Rattle.pz_gen_laws.specs.devices.RingBits as bit
use Rattle.pz_gen_laws.specs.devices.RingTree as tree

-- the text of both classes, before other marks
unfoldable pub classes_text : List Mark → List Mark
classes_text ms = decl_text (process_class tree.station_class) ++ (decl_text (process_class tree.supervisor_class) ++ ms)

module _ where
  classes_read : (bs : List Bit) → marks_of (bit.classes ++ bs) ≡ classes_text (keyword k.System ∷ keyword k.Instances ∷ marks_of bs)
  unfolding classes_text
  classes_read bs = refl

  -- the marks of an instance, whose class is a head or not
  instance_marks : ℕ → Bool → Bool → List Mark
  instance_marks i first head =
      record { kind = kind.Ident (ring.name i); head = true } ∷ symbol s.Colon ∷ record { kind = kind.Ident (codes "Station"); head = head } ∷ symbol s.LeftParen ∷
      mark (kind.Ident (codes "first")) ∷ symbol s.Assign ∷ mark (literal_kind (tree.truth first)) ∷ symbol s.RightParen ∷ []

  instance_begins : (i : ℕ) (first : Bool) (bs : List Bit) → marks_of (bit.instance_of i first ++ bs) ≡ instance_marks i first (goes_on (roles (kinds bs))) ++ marks_of bs
  unfolding instance_marks
  instance_begins i true bs = refl
  instance_begins i false bs = refl

  instance_is : (i : ℕ) (first : Bool) → instance_marks i first false ≡ instance_text (tree.station_of i first)
  unfolding instance_marks
  instance_is i true = refl
  instance_is i false = refl

  instance_read : (i : ℕ) (bs : List Bit) → goes_on (roles (kinds bs)) ≡ false → marks_of (bit.instance i ++ bs) ≡ instance_text (tree.station i) ++ marks_of bs
  instance_read i bs then_name =
      instance_begins i (i == 0) bs
      ∙ ap (λ (h : Bool). instance_marks i (i == 0) h ++ marks_of bs) then_name
      ∙ ap (λ (ms : List Mark). ms ++ marks_of bs) (instance_is i (i == 0))

  -- a name follows an instance
  then_instances : (is : List ℕ) (bs : List Bit) → goes_on (roles (kinds bs)) ≡ false → goes_on (roles (kinds (flat_map bit.instance is ++ bs))) ≡ false
  then_instances [] bs then_name = then_name
  then_instances (i ∷ is) bs then_name = refl

  instances_read : (is : List ℕ) (bs : List Bit) → goes_on (roles (kinds bs)) ≡ false → marks_of (flat_map bit.instance is ++ bs) ≡ flat_map (λ i. instance_text (tree.station i)) is ++ marks_of bs
  instances_read [] bs then_name = refl
  instances_read (i ∷ is) bs then_name =
      ap marks_of (append_assoc (bit.instance i) (flat_map bit.instance is) bs)
      ∙ instance_read i (flat_map bit.instance is ++ bs) (then_instances is bs then_name)
      ∙ ap (λ (ms : List Mark). instance_text (tree.station i) ++ ms) (instances_read is bs then_name)
      ∙ sym (append_assoc (instance_text (tree.station i)) (flat_map (λ j. instance_text (tree.station j)) is) (marks_of bs))

  supervisor_read : (bs : List Bit) → marks_of (bit.supervisor ++ bs) ≡ instance_text tree.supervisor ++ (keyword k.Channels ∷ marks_of bs)
  supervisor_read bs = refl

  channel_read : (n i : ℕ) (bs : List Bit) → marks_of (bit.channel n i ++ bs) ≡ channel_text (tree.channel n i) ++ marks_of bs
  channel_read n i bs = refl

  channels_read : (n : ℕ) (is : List ℕ) (bs : List Bit) → marks_of (flat_map (bit.channel n) is ++ bs) ≡ flat_map (λ i. channel_text (tree.channel n i)) is ++ marks_of bs
  channels_read n [] bs = refl
  channels_read n (i ∷ is) bs =
      ap marks_of (append_assoc (bit.channel n i) (flat_map (bit.channel n) is) bs)
      ∙ channel_read n i (flat_map (bit.channel n) is ++ bs)
      ∙ ap (λ (ms : List Mark). channel_text (tree.channel n i) ++ ms) (channels_read n is bs)
      ∙ sym (append_assoc (channel_text (tree.channel n i)) (flat_map (λ j. channel_text (tree.channel n j)) is) (marks_of bs))

  -- the marks of an end that is halted, whose port is a head or not
  end_marks : ℕ → Bool → List Mark
  end_marks i head = symbol s.Comma ∷ mark (kind.Ident (ring.name i)) ∷ symbol s.Dot ∷ record { kind = kind.Ident (codes "sup"); head = head } ∷ []

  halted_marks : List ℕ → List Mark
  halted_marks is = tail_separated end_text s.Comma (map tree.halted_end is)

  -- a comma or a brace follows an end
  then_ends : (is : List ℕ) → makes_head (roles (kinds (flat_map bit.halted_end is ++ bit.line_end))) ≡ false
  then_ends [] = refl
  then_ends (i ∷ is) = refl

  end_begins : (i : ℕ) (bs : List Bit) → marks_of (bit.halted_end i ++ bs) ≡ end_marks i (makes_head (roles (kinds bs))) ++ marks_of bs
  unfolding end_marks
  end_begins i bs = refl

  end_is : (i : ℕ) (is : List ℕ) (ms : List Mark) → ms ≡ halted_marks is ++ symbol s.RightBrace ∷ [] → end_marks i false ++ ms ≡ halted_marks (i ∷ is) ++ symbol s.RightBrace ∷ []
  unfolding end_marks halted_marks
  end_is i is ms same = ap (λ (l : List Mark). symbol s.Comma ∷ mark (kind.Ident (ring.name i)) ∷ symbol s.Dot ∷ mark (kind.Ident (codes "sup")) ∷ l) same

  halted_read : (is : List ℕ) → marks_of (flat_map bit.halted_end is ++ bit.line_end) ≡ halted_marks is ++ symbol s.RightBrace ∷ []
  unfolding halted_marks
  halted_read [] = refl
  halted_read (i ∷ is) =
      ap marks_of (append_assoc (bit.halted_end i) (flat_map bit.halted_end is) bit.line_end)
      ∙ end_begins i (flat_map bit.halted_end is ++ bit.line_end)
      ∙ ap (λ (h : Bool). end_marks i h ++ marks_of (flat_map bit.halted_end is ++ bit.line_end)) (then_ends is)
      ∙ end_is i is (marks_of (flat_map bit.halted_end is ++ bit.line_end)) (halted_read is)

  -- the channel of the supervisor, whose first port is a head or not
  first_marks : Bool → List Mark
  first_marks head = symbol s.LeftBrace ∷ mark (kind.Ident (codes "v")) ∷ symbol s.Dot ∷ record { kind = kind.Ident (codes "sup"); head = head } ∷ []

  halting_begins : (bs : List Bit) → marks_of (bit.halting_begin ++ bs) ≡ first_marks (makes_head (roles (kinds bs))) ++ marks_of bs
  unfolding first_marks
  halting_begins bs = refl

  halting_is : (is : List ℕ) → first_marks false ++ (halted_marks is ++ symbol s.RightBrace ∷ []) ≡ channel_text (tree.halting is)
  unfolding first_marks halted_marks
  halting_is is = refl

  halting_read : (is : List ℕ) → marks_of (bit.halting is) ≡ channel_text (tree.halting is)
  halting_read is =
      halting_begins (flat_map bit.halted_end is ++ bit.line_end)
      ∙ ap₂ (λ (h : Bool) (ms : List Mark). first_marks h ++ ms) (then_ends is) (halted_read is)
      ∙ halting_is is

  -- ---- the instances and channels of the tree

  stations_text : (is : List ℕ) → each_text instance_text (tree.all_instances is) ≡ flat_map (λ i. instance_text (tree.station i)) is ++ instance_text tree.supervisor
  stations_text [] = refl
  stations_text (i ∷ is) =
      ap (λ (ms : List Mark). instance_text (tree.station i) ++ ms) (stations_text is)
      ∙ sym (append_assoc (instance_text (tree.station i)) (flat_map (λ j. instance_text (tree.station j)) is) (instance_text tree.supervisor))

  channels_text : (n : ℕ) (is js : List ℕ) → each_text channel_text (map (tree.channel n) is ++ tree.halting js ∷ []) ≡ flat_map (λ i. channel_text (tree.channel n i)) is ++ (channel_text (tree.halting js) ++ [])
  channels_text n [] js = refl
  channels_text n (i ∷ is) js =
      ap (λ (ms : List Mark). channel_text (tree.channel n i) ++ ms) (channels_text n is js)
      ∙ sym (append_assoc (channel_text (tree.channel n i)) (flat_map (λ j. channel_text (tree.channel n j)) is) (channel_text (tree.halting js) ++ []))

  -- the marks behind the word `instances`
  behind : ℕ → List Mark
  behind n = each_text instance_text (tree.all_instances (bit.stations n)) ++ (keyword k.Channels ∷ each_text channel_text (tree.all_channels n (bit.stations n)))

  channels_are : (n : ℕ) → marks_of (bit.all_channels n) ≡ each_text channel_text (tree.all_channels n (bit.stations n))
  channels_are n =
      let is = bit.stations n in
      channels_read n is (bit.halting is)
      ∙ ap (λ (ms : List Mark). flat_map (λ i. channel_text (tree.channel n i)) is ++ ms) (halting_read is ∙ sym (append-nil (channel_text (tree.halting is))))
      ∙ sym (channels_text n is is)

  behind_are : (n : ℕ) → marks_of (bit.after_classes n) ≡ behind n
  unfolding behind
  behind_are n =
      let is = bit.stations n in
      instances_read is (bit.after_stations n) refl
      ∙ ap (λ (ms : List Mark). flat_map (λ i. instance_text (tree.station i)) is ++ ms)
      (supervisor_read (bit.all_channels n) ∙ ap (λ (ms : List Mark). instance_text tree.supervisor ++ (keyword k.Channels ∷ ms)) (channels_are n))
      ∙ sym (append_assoc (flat_map (λ i. instance_text (tree.station i)) is) (instance_text tree.supervisor) (keyword k.Channels ∷ each_text channel_text (tree.all_channels n is)))
      ∙ ap (λ (ms : List Mark). ms ++ (keyword k.Channels ∷ each_text channel_text (tree.all_channels n is))) (sym (stations_text is))

  system_is : (n : ℕ) → keyword k.System ∷ keyword k.Instances ∷ behind n ≡ decl_text (system (tree.ring_system n))
  unfolding behind
  system_is n = refl

  pub marks_are_text : (n : ℕ) → marks_of (bit.bits n) ≡ classes_text (decl_text (system (tree.ring_system n)))
  marks_are_text n =
      classes_read (bit.after_classes n)
      ∙ ap (λ (ms : List Mark). classes_text (keyword k.System ∷ keyword k.Instances ∷ ms)) (behind_are n)
      ∙ ap classes_text (system_is n)
