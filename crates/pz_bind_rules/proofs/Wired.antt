-- The wires of a system, and which ends have them.
use Rattle.std.proofs.Common.{◌≡◌, ◌↔◌, refl, sym, ap, ◌∙◌, subst, ℕ, suc, Bool, true, false, IsTrue, List, [], ◌∷◌, ◌++◌, append_assoc, map, length, Option, Some, None, slice_get, if◌then◌else◌, arith}
use Rattle.std.specs.Option.{option_map_or, is_some}
use Rattle.std.specs.List.{flat_map}
use Rattle.std.proofs.lemmas.List.{length_push}
use Rattle.std.proofs.lemmas.Slice.Eq.{bytes_eq-Decides}
use Rattle.pz_classes_rules.specs.pz_syntax.declared.clusters.Instance.{Instance}
use Rattle.pz_classes_rules.specs.pz_syntax.declared.clusters.Channel.{Channel as Written}
use Rattle.pz_classes_rules.specs.pz_syntax.declared.clusters.ChannelEnd.{ChannelEnd}
use Rattle.pz_classes_rules.specs.pz_syntax.declared.clusters.ChannelEnd.TheVariants.{Inner, Outer}
use Rattle.pz_classes_rules.specs.pz_syntax.Classes.{ModelTree}
use Rattle.pz_classes_rules.specs.Members.{ports, spelled}
use Rattle.pz_classes_rules.specs.SoundSystem.{SystemFits}
use Rattle.pz_bind_levels.specs.Layouts.{Layout}
use Rattle.pz_bind_levels.specs.Places.{Address}
use Rattle.pz_bind_levels.specs.Wires.{Channel, channel, joined_by, joined as joined_to}
use Rattle.pz_bind_levels.specs.Wires as by_number
use Rattle.pz_bind_levels.specs.Connections as numbers
use Rattle.pz_bind_levels.proofs.Each.{at_end}
use Rattle.pz_bind_rules.specs.Nest.{system_class, class_of, class_at, instance_at, channels_at, levels}
use Rattle.pz_bind_rules.specs.Names.{name_at}
use Rattle.pz_bind_rules.specs.Connections.{PortEnd, end, is_outer, names_inner, IsIn, is_in, Joined, joined, Connected, IsInNone}
use Rattle.pz_bind_rules.specs.Wires.{is_carried_on, is_joined, ending, wires_at, wires, HasWire}
use Rattle.pz_bind_rules.specs.devices.Layouts.{outer_from, layouts}
use Rattle.pz_bind_rules.proofs.Lists.{any_found, any_at, AreOnce, name_there}
use Rattle.pz_bind_rules.proofs.Layouts.{planned}
use Rattle.pz_bind_rules.proofs.Spots.{spot_at, levels_are}
use Rattle.pz_bind_rules.proofs.Named.{outer_end}
use Rattle.pz_bind_rules.proofs.Ends.{numbered, IsPort, InBack, in_back, port_is, joined_named, reaches_named, in_numbered, has_port, joined_back, reaches_numbered}

module _ (m : ModelTree) (fits : SystemFits m) (ports_once : (k : ℕ) → AreOnce (spelled (ports m k))) where
  -- ---- which channels are joined

  carried_on : (i : ℕ) (up : Address) (k : ℕ) (h : Written) → slice_get (channels_at m (i ∷ up)) k ≡ Some h → (c : Channel) → Joined m (channel (i ∷ up) k) c → is_joined m (i ∷ up) h ≡ true
  carried_on i up k h there c joins = by_joined (channel (i ∷ up) k) c joins refl refl
    where
      by_end : (g : Written) (port : List ℕ) → slice_get (channels_at m (i ∷ up)) k ≡ Some g → IsTrue (Rattle.pz_bind_rules.specs.Connections.names_outer port g) → InBack m (end (i ∷ up) port) c → is_joined m (i ∷ up) h ≡ true
      by_end g port again outer b =
          let both : Some h ≡ Some g = sym there ∙ again in
          let same : h ≡ g = cc in
          let o = outer_end port g outer in
          let places : i ∷ up ≡ b.i ∷ b.up = b.place in
          let number : i ≡ b.i = cc in
          let level : up ≡ b.up = cc in
          let name : name_at m up i ≡ b.instance.name.name = ap (λ n. name_at m up n) number ∙ (ap (λ q. name_at m q b.i) level ∙ ap (λ (x : Option Instance). option_map_or (λ (y : Instance). y.name.name) x []) b.stands) in
          let in_level : slice_get (channels_at m up) b.k ≡ Some b.written = ap (λ q. slice_get (channels_at m q) b.k) level ∙ b.there in
          let named : IsTrue (names_inner (name_at m up i) o.q.name b.written) = subst (λ n. IsTrue (names_inner n o.q.name b.written)) (sym name) (subst (λ p. IsTrue (names_inner b.instance.name.name p b.written)) o.is_port b.names) in
          let carries : IsTrue (is_carried_on m up i (Outer o.q)) = any_at (names_inner (name_at m up i) o.q.name) (channels_at m up) b.k b.written in_level named in
          any_at (is_carried_on m up i) h.ends o.at (Outer o.q) (ap (λ (x : Written). slice_get x.ends o.at) same ∙ o.there) carries

      by_joined : (b d : Channel) → Joined m b d → b ≡ channel (i ∷ up) k → c ≡ d → is_joined m (i ∷ up) h ≡ true
      by_joined _ _ (joined place n g port d again outer here) is other =
          let at : place ≡ i ∷ up = ap (λ (x : Channel). x.place) is in
          let number : n ≡ k = ap (λ (x : Channel). x.number) is in
          let there_too : slice_get (channels_at m (i ∷ up)) k ≡ Some g = subst (λ x. slice_get (channels_at m (i ∷ up)) x ≡ Some g) number (subst (λ q. slice_get (channels_at m q) n ≡ Some g) at again) in
          let inside : IsIn m (end (i ∷ up) port) c = subst (IsIn m (end (i ∷ up) port)) (sym other) (subst (λ q. IsIn m (end q port) d) at here) in
          by_end g port there_too outer (in_back m (end (i ∷ up) port) c inside)

  -- an instance stands where there are channels
  stands_at : (i : ℕ) (up : Address) (k : ℕ) (h : Written) → slice_get (channels_at m (i ∷ up)) k ≡ Some h → (x : Instance) × (instance_at m up i ≡ Some x)
  stands_at i up k h there = by_instance (instance_at m up i) refl
    where
      by_instance : (o : Option Instance) → instance_at m up i ≡ o → (x : Instance) × (instance_at m up i ≡ Some x)
      by_instance None none =
          let nothing : class_at m (i ∷ up) ≡ 0 = ap (λ (o : Option Instance). option_map_or (class_of m) o 0) none in
          let wrong : None ≡ Some h = sym (ap (λ c. slice_get (Rattle.pz_bind_rules.specs.Nest.channels_in m c) k) nothing) ∙ there in
          cc
      by_instance (Some x) is = (x, is)

  joined_on : (i : ℕ) (up : Address) (k : ℕ) (h : Written) → slice_get (channels_at m (i ∷ up)) k ≡ Some h → is_joined m (i ∷ up) h ≡ true → (c : Channel) × Joined m (channel (i ∷ up) k) c
  joined_on i up k h there is = by_end e.one e.there e.passes
    where
      e : Rattle.pz_bind_rules.proofs.Lists.Passing (is_carried_on m up i) h.ends
      e = any_found (is_carried_on m up i) h.ends is

      by_end : (one : ChannelEnd) → slice_get h.ends e.at ≡ Some one → IsTrue (is_carried_on m up i one) → (c : Channel) × Joined m (channel (i ∷ up) k) c
      by_end (Inner x q) found carries = let wrong : false ≡ true = carries in cc
      by_end (Outer q) found carries =
          let g = any_found (names_inner (name_at m up i) q.name) (channels_at m up) carries in
          let x = stands_at i up k h there in
          let name : name_at m up i ≡ x.0.name.name = ap (λ (o : Option Instance). option_map_or (λ (y : Instance). y.name.name) o []) x.1 in
          let named : IsTrue (names_inner x.0.name.name q.name g.one) = subst (λ n. IsTrue (names_inner n q.name g.one)) name g.passes in
          (channel up g.at, joined (i ∷ up) k h q.name (channel up g.at) there (any_at (is_outer q.name) h.ends e.at (Outer q) found ((bytes_eq-Decides q.name q.name).1 refl)) (is_in up i g.at x.0 g.one q.name x.1 g.there named))

  ends_alike : (place : Address) (k : ℕ) (h : Written) → slice_get (channels_at m place) k ≡ Some h → is_some (joined_by (layouts m) (system_class m) place (outer_from m (class_at m place) h.ends)) ≡ is_joined m place h
  ends_alike [] k h there = refl
  ends_alike (i ∷ up) k h there = ap is_some (sym here) ∙ by_case (joined_to (layouts m) (system_class m) (i ∷ up) k) refl (is_joined m (i ∷ up) h) refl
    where
      here : joined_to (layouts m) (system_class m) (i ∷ up) k ≡ joined_by (layouts m) (system_class m) (i ∷ up) (outer_from m (class_at m (i ∷ up)) h.ends)
      here = ap (joined_by (layouts m) (system_class m) (i ∷ up)) (port_is m (i ∷ up) k h there)

      by_case : (o : Option ℕ) → joined_to (layouts m) (system_class m) (i ∷ up) k ≡ o → (b : Bool) → is_joined m (i ∷ up) h ≡ b → is_some (joined_to (layouts m) (system_class m) (i ∷ up) k) ≡ is_joined m (i ∷ up) h
      by_case (Some j) joins b is = ap is_some joins ∙ sym (carried_on i up k h there (channel up j) (joined_named m up i k j joins))
      by_case None joins false is = ap is_some joins ∙ sym is
      by_case None joins true is =
          let on = joined_on i up k h there is in
          let b = joined_back m fits ports_once (channel (i ∷ up) k) on.0 on.1 in
          let wrong : None ≡ Some b.j = sym joins ∙ b.joins in
          cc

  -- ---- the wires

  ending_are : (place : Address) (before : List Written) (k : ℕ) (hs : List Written) → k ≡ length before → channels_at m place ≡ before ++ hs
      → by_number.ending (layouts m) (system_class m) place k (map (λ (h : Written). outer_from m (class_at m place) h.ends) hs) ≡ ending m place k hs
  ending_are place before k [] size all = refl
  ending_are place before k (h ∷ hs) size all =
      ap (λ b. (if b then [] else channel place k ∷ []) ++ by_number.ending (layouts m) (system_class m) place (suc k) (map (λ (g : Written). outer_from m (class_at m place) g.ends) hs)) (ends_alike place k h there)
      ∙ ap (λ (cs : List Channel). (if is_joined m place h then [] else channel place k ∷ []) ++ cs) (ending_are place (before ++ h ∷ []) (suc k) hs longer (all ∙ sym (append_assoc before (h ∷ []) hs)))
    where
      there : slice_get (channels_at m place) k ≡ Some h
      there = ap (λ (gs : List Written). slice_get gs k) all ∙ subst (λ n. slice_get (before ++ h ∷ hs) n ≡ Some h) (sym size) (at_end before h hs)

      longer : suc k ≡ length (before ++ h ∷ [])
      longer = let more = length_push before h in omega (arith, more, size)

  wires_there : (place : Address) → by_number.wires_of (layouts m) (system_class m) (spot_at m place) ≡ wires_at m place
  wires_there place =
      ap (λ (l : Layout). by_number.ending (layouts m) (system_class m) place 0 l.outer) (planned m place)
      ∙ ending_are place [] 0 (channels_at m place) refl refl

  wires_among : (ps : List Address) → flat_map (by_number.wires_of (layouts m) (system_class m)) (map (spot_at m) ps) ≡ flat_map (wires_at m) ps
  wires_among [] = refl
  wires_among (p ∷ ps) =
      ap (λ (cs : List Channel). cs ++ flat_map (by_number.wires_of (layouts m) (system_class m)) (map (spot_at m) ps)) (wires_there p)
      ∙ ap (λ (cs : List Channel). wires_at m p ++ cs) (wires_among ps)

  pub wires_are : by_number.wires (layouts m) (system_class m) ≡ wires m
  wires_are = ap (flat_map (by_number.wires_of (layouts m) (system_class m))) (levels_are m) ∙ wires_among (levels m)

  -- ---- the wire of an end

  pub has_wire : (place : Address) (p : ℕ) (name : List ℕ) (w : ℕ) → IsPort m place name p → numbers.HasWire (layouts m) (system_class m) (numbered place p) w → HasWire m (end place name) w
  has_wire place p name w port has = record {
    last = has.last;
    reached = reaches_named m place p name has.last port has.reached;
    ends = λ c joins. let b = joined_back m fits ports_once has.last c joins in let wrong : None ≡ Some b.j = sym has.ends ∙ b.joins in cc;
    there = ap (λ (cs : List Channel). slice_get cs w) (sym wires_are) ∙ has.there;
  }

  pub in_none : (place : Address) (p : ℕ) (name : List ℕ) → IsPort m place name p → numbers.IsInNone (layouts m) (system_class m) (numbered place p) → IsInNone m (end place name)
  in_none place p name port none c here = none c (in_numbered m fits ports_once (end place name) c p port here)

  pub wire_numbered : (e : PortEnd) (p w : ℕ) → IsPort m e.place e.port p → HasWire m e w → numbers.HasWire (layouts m) (system_class m) (numbered e.place p) w
  wire_numbered e p w port has = record {
    last = has.last;
    reached = reaches_numbered m fits ports_once e has.last p port has.reached;
    ends = by_place has.last.place has.last.number has.ends;
    there = ap (λ (cs : List Channel). slice_get cs w) wires_are ∙ has.there;
  }
    where
      by_place : (place : Address) (k : ℕ) → ((c : Channel) → Joined m (channel place k) c → ⊥) → joined_to (layouts m) (system_class m) place k ≡ None
      by_place [] k ends = refl
      by_place (i ∷ up) k ends = by_case (joined_to (layouts m) (system_class m) (i ∷ up) k) refl
        where
          by_case : (o : Option ℕ) → joined_to (layouts m) (system_class m) (i ∷ up) k ≡ o → joined_to (layouts m) (system_class m) (i ∷ up) k ≡ None
          by_case None joins = joins
          by_case (Some j) joins = absurd (ends (channel up j) (joined_named m up i k j joins))

  pub share : numbers.EndsShareWires (layouts m) (system_class m) → (e f : PortEnd) (v w : ℕ) → HasWire m e v → HasWire m f w → (v ≡ w) ↔ Connected m e f
  share law e f v w first second = (to, from)
    where
      to : v ≡ w → Connected m e f
      to same =
          let one : Some first.last ≡ Some second.last = sym first.there ∙ (ap (slice_get (wires m)) same ∙ second.there) in
          let last : first.last ≡ second.last = cc in
          record { met = first.last; one = first.reached; other = subst (Rattle.pz_bind_rules.specs.Connections.Reaches m f) (sym last) second.reached }

      from : Connected m e f → v ≡ w
      from c =
          let p = has_port m fits ports_once e first.reached.first first.reached.starts in
          let q = has_port m fits ports_once f second.reached.first second.reached.starts in
          let p_is : IsPort m e.place e.port p.number = name_there (spelled (ports m (class_at m e.place))) e.port p.number p.placed in
          let q_is : IsPort m f.place f.port q.number = name_there (spelled (ports m (class_at m f.place))) f.port q.number q.placed in
          (law (numbered e.place p.number) (numbered f.place q.number) v w (wire_numbered e p.number v p_is first) (wire_numbered f q.number w q_is second)).1
          (record { met = c.met; one = reaches_numbered m fits ports_once e c.met p.number p_is c.one; other = reaches_numbered m fits ports_once f c.met q.number q_is c.other })
