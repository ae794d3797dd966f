-- Ends and channels, by names and by numbers.
use Rattle.std.proofs.Common.{◌≡◌, refl, sym, ap, ◌∙◌, subst, ℕ, IsTrue, List, ◌∷◌, Option, Some, None, slice_get}
use Rattle.std.specs.Option.{option_map, option_map_or, option_and_then, unwrap_or}
use Rattle.std.proofs.lemmas.Option.{slice_get-map}
use Rattle.std.proofs.lemmas.Slice.Eq.{bytes_eq-Decides}
use Rattle.pz_classes_rules.specs.pz_syntax.declared.clusters.Instance.{Instance}
use Rattle.pz_classes_rules.specs.pz_syntax.declared.clusters.Channel.{Channel as Written}
use Rattle.pz_classes_rules.specs.pz_syntax.declared.clusters.ChannelEnd.TheVariants.{Outer}
use Rattle.pz_classes_rules.specs.pz_syntax.Classes.{ModelTree}
use Rattle.pz_classes_rules.specs.Members.{ports, spelled}
use Rattle.pz_classes_rules.specs.SoundSystem.{SystemFits, HasPort}
use Rattle.pz_bind_levels.specs.Layouts.{Layout}
use Rattle.pz_bind_levels.specs.Places.{Address, layout_at}
use Rattle.pz_bind_levels.specs.Wires.{Channel, channel, joined as joined_to}
use Rattle.pz_bind_levels.specs.Connections as by_number
use Rattle.pz_bind_rules.specs.Nest.{system_class, class_of, class_at, instance_at, instances_at, channels_at}
use Rattle.pz_bind_rules.specs.Connections.{PortEnd, end, is_outer, names_inner, IsIn, is_in, Joined, joined, Leads, itself, outwards, Reaches}
use Rattle.pz_bind_rules.specs.devices.Layouts.{outer_from, layouts}
use Rattle.pz_bind_rules.proofs.Lists.{any_at, AreOnce, name_there}
use Rattle.pz_bind_rules.proofs.Layouts.{planned}
use Rattle.pz_bind_rules.proofs.LevelFits.{level_fits}
use Rattle.pz_bind_rules.proofs.Named.{inner_end, outer_end, outer_named, outer_first, linked, link_named, named_link}

-- an end by the number of its port
abbrev pub numbered : Address → ℕ → by_number.PortEnd
numbered place port = record { place = place; port = port }

module _ (m : ModelTree) where
  -- the port of what stands at this place has this number
  abbrev pub IsPort : Address → List ℕ → ℕ → Type 0
  IsPort place name p = slice_get (spelled (ports m (class_at m place))) p ≡ Some name

  pub record InBack (e : PortEnd) (c : Channel) : Type 0 where
    pub up : Address
    pub i : ℕ
    pub k : ℕ
    pub instance : Instance
    pub written : Written
    pub place : e.place ≡ i ∷ up
    pub is : c ≡ channel up k
    pub stands : instance_at m up i ≡ Some instance
    pub there : slice_get (channels_at m up) k ≡ Some written
    pub names : IsTrue (names_inner instance.name.name e.port written)

  pub in_back : (e : PortEnd) (c : Channel) → IsIn m e c → InBack e c
  in_back _ _ (is_in up i k x h port stands there names) = record { up = up; i = i; k = k; instance = x; written = h; place = refl; is = refl; stands = stands; there = there; names = names }

  pub record NumberedBack (e : by_number.PortEnd) (c : Channel) : Type 0 where
    pub up : Address
    pub i : ℕ
    pub k : ℕ
    pub place : e.place ≡ i ∷ up
    pub is : c ≡ channel up k
    pub links : (layout_at (layouts m) (system_class m) up).linked i e.port ≡ Some k

  pub numbered_back : (e : by_number.PortEnd) (c : Channel) → by_number.IsIn (layouts m) (system_class m) e c → NumberedBack e c
  numbered_back _ _ (by_number.is_in i port k up links) = record { up = up; i = i; k = k; place = refl; is = refl; links = links }

  pub class_there : (up : Address) (i : ℕ) (x : Instance) → instance_at m up i ≡ Some x → class_at m (i ∷ up) ≡ class_of m x
  class_there up i x stands = ap (λ (o : Option Instance). option_map_or (class_of m) o 0) stands

  linked_is : (up : Address) (i p : ℕ) → (layout_at (layouts m) (system_class m) up).linked i p ≡ linked m (instances_at m up) (channels_at m up) i p
  linked_is up i p = ap (λ (l : Layout). l.linked i p) (planned m up)

  -- the port of its own cluster that a channel has
  pub port_is : (place : Address) (k : ℕ) (h : Written) → slice_get (channels_at m place) k ≡ Some h
      → unwrap_or (slice_get (layout_at (layouts m) (system_class m) place).outer k) None ≡ outer_from m (class_at m place) h.ends
  port_is place k h there =
      ap (λ (l : Layout). unwrap_or (slice_get l.outer k) None) (planned m place)
      ∙ (ap (λ o. unwrap_or o None) (slice_get-map (λ (g : Written). outer_from m (class_at m place) g.ends) (channels_at m place) k)
      ∙ ap (λ o. unwrap_or (option_map (λ (g : Written). outer_from m (class_at m place) g.ends) o) None) there)

  no_port : (place : Address) (k : ℕ) → slice_get (channels_at m place) k ≡ None → unwrap_or (slice_get (layout_at (layouts m) (system_class m) place).outer k) None ≡ None
  no_port place k none =
      ap (λ (l : Layout). unwrap_or (slice_get l.outer k) None) (planned m place)
      ∙ (ap (λ o. unwrap_or o None) (slice_get-map (λ (g : Written). outer_from m (class_at m place) g.ends) (channels_at m place) k)
      ∙ ap (λ o. unwrap_or (option_map (λ (g : Written). outer_from m (class_at m place) g.ends) o) None) none)

  -- ---- from numbers to names

  pub in_named : (up : Address) (i p k : ℕ) (name : List ℕ) → (layout_at (layouts m) (system_class m) up).linked i p ≡ Some k → IsPort (i ∷ up) name p → IsIn m (end (i ∷ up) name) (channel up k)
  in_named up i p k name links port =
      let r = link_named m (instances_at m up) (channels_at m up) i p k (sym (linked_is up i p) ∙ links) in
      let here : slice_get (spelled (ports m (class_of m r.instance))) p ≡ Some name = subst (λ c. slice_get (spelled (ports m c)) p ≡ Some name) (class_there up i r.instance r.stands) port in
      let both : Some r.port ≡ Some name = sym (name_there (spelled (ports m (class_of m r.instance))) r.port p r.numbered) ∙ here in
      let same : r.port ≡ name = cc in
      is_in up i k r.instance r.channel name r.stands r.there (subst (λ n. IsTrue (names_inner r.instance.name.name n r.channel)) same r.names)

  pub joined_named : (up : Address) (i k j : ℕ) → joined_to (layouts m) (system_class m) (i ∷ up) k ≡ Some j → Joined m (channel (i ∷ up) k) (channel up j)
  joined_named up i k j joins = by_channel (slice_get (channels_at m (i ∷ up)) k) refl
    where
      step : Option ℕ → Option ℕ
      step port = option_and_then ((layout_at (layouts m) (system_class m) up).linked i) port

      by_port : (h : Written) → slice_get (channels_at m (i ∷ up)) k ≡ Some h → (o : Option ℕ) → outer_from m (class_at m (i ∷ up)) h.ends ≡ o → step o ≡ Some j → Joined m (channel (i ∷ up) k) (channel up j)
      by_port h there None port links = let wrong : None ≡ Some j = links in cc
      by_port h there (Some p) port links =
          let o = outer_named m (class_at m (i ∷ up)) h.ends p port in
          joined (i ∷ up) k h o.1.name (channel up j) there (any_at (is_outer o.1.name) h.ends o.0 (Outer o.1) o.2 ((bytes_eq-Decides o.1.name o.1.name).1 refl))
          (in_named up i p j o.1.name links (name_there (spelled (ports m (class_at m (i ∷ up)))) o.1.name p o.3))

      by_channel : (o : Option Written) → slice_get (channels_at m (i ∷ up)) k ≡ o → Joined m (channel (i ∷ up) k) (channel up j)
      by_channel None there = let wrong : None ≡ Some j = sym (ap step (no_port (i ∷ up) k there)) ∙ joins in cc
      by_channel (Some h) there = by_port h there (outer_from m (class_at m (i ∷ up)) h.ends) refl (sym (ap step (port_is (i ∷ up) k h there)) ∙ joins)

  pub leads_named : (c d : Channel) → by_number.Leads (layouts m) (system_class m) c d → Leads m c d
  leads_named _ _ (by_number.itself c) = itself c
  leads_named _ _ (by_number.outwards i k j up c joins on) = outwards (channel (i ∷ up) k) (channel up j) c (joined_named up i k j joins) (leads_named (channel up j) c on)

  pub reaches_named : (place : Address) (p : ℕ) (name : List ℕ) (c : Channel) → IsPort place name p → by_number.Reaches (layouts m) (system_class m) (numbered place p) c → Reaches m (end place name) c
  reaches_named place p name c port r = by_back (numbered_back (numbered place p) r.first r.starts)
    where
      by_back : NumberedBack (numbered place p) r.first → Reaches m (end place name) c
      by_back b =
          let here : IsIn m (end (b.i ∷ b.up) name) (channel b.up b.k) = in_named b.up b.i p b.k name b.links (subst (λ q. IsPort q name p) b.place port) in
          record {
            first = r.first;
            starts = subst (λ q. IsIn m (end q name) r.first) (sym b.place) (subst (IsIn m (end (b.i ∷ b.up) name)) (sym b.is) here);
            leads = leads_named r.first c r.leads;
          }

  -- ---- from names to numbers, in a sound model

  module _ (fits : SystemFits m) (ports_once : (k : ℕ) → AreOnce (spelled (ports m k))) where
    links_of : (e : PortEnd) (c : Channel) (b : InBack e c) (p : ℕ) → IsPort e.place e.port p → (layout_at (layouts m) (system_class m) b.up).linked b.i p ≡ Some b.k
    links_of e c b p port =
        linked_is b.up b.i p
        ∙ named_link m (instances_at m b.up) (channels_at m b.up) (class_at m b.up) (level_fits m fits (class_at m b.up)) ports_once b.i p b.k b.instance b.written e.port b.stands b.there b.names
        (subst (λ k. slice_get (spelled (ports m k)) p ≡ Some e.port) (ap (class_at m) b.place ∙ class_there b.up b.i b.instance b.stands) port)

    pub in_numbered : (e : PortEnd) (c : Channel) (p : ℕ) → IsPort e.place e.port p → IsIn m e c → by_number.IsIn (layouts m) (system_class m) (numbered e.place p) c
    in_numbered e c p port here = by_back (in_back e c here)
      where
        by_back : InBack e c → by_number.IsIn (layouts m) (system_class m) (numbered e.place p) c
        by_back b =
            let there : by_number.IsIn (layouts m) (system_class m) (numbered (b.i ∷ b.up) p) (channel b.up b.k) = by_number.is_in b.i p b.k b.up (links_of e c b p port) in
            subst (λ q. by_number.IsIn (layouts m) (system_class m) (numbered q p) c) (sym b.place) (subst (by_number.IsIn (layouts m) (system_class m) (numbered (b.i ∷ b.up) p)) (sym b.is) there)

    -- an end in a channel is a port of its class
    pub has_port : (e : PortEnd) (c : Channel) → IsIn m e c → HasPort m (class_at m e.place) e.port
    has_port e c here = by_back (in_back e c here)
      where
        by_back : InBack e c → HasPort m (class_at m e.place) e.port
        by_back b =
            let n = inner_end b.instance.name.name e.port b.written b.names in
            let of_instance : HasPort m (class_of m b.instance) n.q.name = (level_fits m fits (class_at m b.up)).inner_port b.k n.at b.written n.x n.q b.there n.there b.i b.instance b.stands n.is_instance in
            subst (λ k. HasPort m k e.port) (sym (ap (class_at m) b.place ∙ class_there b.up b.i b.instance b.stands)) (subst (HasPort m (class_of m b.instance)) (sym n.is_port) of_instance)

    pub record JoinedBack (c d : Channel) : Type 0 where
      pub up : Address
      pub i : ℕ
      pub j : ℕ
      pub place : c.place ≡ i ∷ up
      pub is : d ≡ channel up j
      pub joins : joined_to (layouts m) (system_class m) c.place c.number ≡ Some j

    joins_at : (up : Address) (i k p j : ℕ) (h : Written) → slice_get (channels_at m (i ∷ up)) k ≡ Some h → outer_from m (class_at m (i ∷ up)) h.ends ≡ Some p → (layout_at (layouts m) (system_class m) up).linked i p ≡ Some j
        → joined_to (layouts m) (system_class m) (i ∷ up) k ≡ Some j
    joins_at up i k p j h there port links = ap (option_and_then ((layout_at (layouts m) (system_class m) up).linked i)) (port_is (i ∷ up) k h there ∙ port) ∙ links

    pub joined_back : (c d : Channel) → Joined m c d → JoinedBack c d
    joined_back _ _ (joined place k h port d there outer here) = by_back (in_back (end place port) d here)
      where
        by_back : InBack (end place port) d → JoinedBack (channel place k) d
        by_back b =
            let o = outer_end port h outer in
            let fit = level_fits m fits (class_at m place) in
            let p = fit.outer_port k o.at h o.q there o.there in
            let port_there : IsPort place port p.number = name_there (spelled (ports m (class_at m place))) o.q.name p.number p.placed ∙ ap Some (sym o.is_port) in
            let ends_at : outer_from m (class_at m place) h.ends ≡ Some p.number = outer_first m (class_at m place) h.ends o.at o.q (fit.outer_apart k h there) o.there ∙ p.placed in
            let links = links_of (end place port) d b p.number port_there in
            record {
              up = b.up;
              i = b.i;
              j = b.k;
              place = b.place;
              is = b.is;
              joins = subst (λ q. joined_to (layouts m) (system_class m) q k ≡ Some b.k) (sym b.place)
                  (joins_at b.up b.i k p.number b.k h (subst (λ q. slice_get (channels_at m q) k ≡ Some h) b.place there) (subst (λ q. outer_from m (class_at m q) h.ends ≡ Some p.number) b.place ends_at) links);
            }

    pub leads_numbered : (c d : Channel) → Leads m c d → by_number.Leads (layouts m) (system_class m) c d
    leads_numbered _ _ (itself c) = by_number.itself c
    leads_numbered _ _ (outwards c d e joins on) = by_back (joined_back c d joins) (leads_numbered d e on)
      where
        by_back : JoinedBack c d → by_number.Leads (layouts m) (system_class m) d e → by_number.Leads (layouts m) (system_class m) c e
        by_back b more =
            let there : by_number.Leads (layouts m) (system_class m) (channel (b.i ∷ b.up) c.number) e =
            by_number.outwards b.i c.number b.j b.up e (subst (λ q. joined_to (layouts m) (system_class m) q c.number ≡ Some b.j) b.place b.joins) (subst (λ (x : Channel). by_number.Leads (layouts m) (system_class m) x e) b.is more) in
            subst (λ q. by_number.Leads (layouts m) (system_class m) (channel q c.number) e) (sym b.place) there

    pub reaches_numbered : (e : PortEnd) (c : Channel) (p : ℕ) → IsPort e.place e.port p → Reaches m e c → by_number.Reaches (layouts m) (system_class m) (numbered e.place p) c
    reaches_numbered e c p port r = record { first = r.first; starts = in_numbered e r.first p port r.starts; leads = leads_numbered r.first c r.leads }
