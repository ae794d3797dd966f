-- In a sound model it is known of each port which wire it has: all that the definition of wires asks
-- can be decided.
use Rattle.std.proofs.Common.{◌≡◌, ◌<◌, ◌⊎◌, inl, inr, ℕ, suc, Bool, true, false, ◌||◌, IsTrue, List, [], ◌∷◌, length, Option, Some, None, refl, sym, subst, ap, ◌∙◌, slice_get, arith}
use Rattle.std.specs.List.{list_any, All, Contains}
use Rattle.std.proofs.lemmas.Option.{slice_get_within}
use Rattle.std.proofs.lemmas.Slice.Eq.{bytes_eq-Decides}
use Rattle.pz_bind_rules.specs.pz_syntax.declared.clusters.Instance.{Instance}
use Rattle.pz_bind_rules.specs.pz_syntax.declared.clusters.Channel.{Channel as Written}
use Rattle.pz_bind_rules.specs.pz_syntax.declared.clusters.ChannelEnd.{ChannelEnd}
use Rattle.pz_bind_rules.specs.pz_syntax.declared.clusters.ChannelEnd.TheVariants.{Inner, Outer}
use Rattle.pz_bind_rules.specs.pz_syntax.Classes.{ModelTree}
use Rattle.pz_bind_rules.specs.pz_classes_rules.Members.{ports, spelled}
use Rattle.pz_bind_rules.specs.pz_classes_rules.Soundness.{IsSound}
use Rattle.pz_bind_levels.specs.Places.{Address}
use Rattle.pz_bind_levels.specs.Wires.{Channel, channel}
use Rattle.pz_bind_rules.specs.Nest.{processes, class_at, instance_at, channels_at}
use Rattle.pz_bind_rules.specs.Connections.{PortEnd, end, is_outer, names_inner, IsIn, is_in, Joined, joined, Leads, itself, outwards, Reaches}
use Rattle.pz_bind_rules.specs.Wires.{wires, HasWire, EndsShareWires}
use Rattle.pz_rules.specs.Ports.{IsWire, HasWires}
use Rattle.pz_rules.proofs.Locals.{some_is, no_some}
use Rattle.pz_rules.proofs.Lists.{Contains-cases}
use Rattle.pz_rules.proofs.Finite.{Known, Finite, alike, nothing, just, from_option, where_known, either, bind, below}
use Rattle.pz_rules.proofs.Derived.{number_known, name_known}

-- What can be decided

-- whether some of finitely many have something
module _ {X : Type 0} (P Q : X → Type 0) where
  abbrev Found : List X → Type 0
  Found xs = ((x : X) × P x × Q x) ⊎ ((x : X) → Contains xs x → Q x → ⊥)

  nor_first : (x : X) (xs : List X) → (Q x → ⊥) → ((y : X) → Contains xs y → Q y → ⊥) → (y : X) → (y ≡ x) ⊎ Contains xs y → Q y → ⊥
  nor_first x xs not none y (inl same) q = not (subst Q same q)
  nor_first x xs not none y (inr later) q = none y later q

  search_step : (x : X) (xs : List X) → P x → Known (Q x) → Found xs → Found (x ∷ xs)
  search_step x xs p (inl q) rest = inl (x, p, q)
  search_step x xs p (inr not) (inl found) = inl found
  search_step x xs p (inr not) (inr none) = inr (λ y within q. nor_first x xs not none y (Contains-cases x xs y within) q)

  search_all : ((x : X) → Known (Q x)) → (xs : List X) → All P xs → Found xs
  search_all known [] all = inr (λ x within q. omega (arith, within.1))
  search_all known (x ∷ xs) all = search_step x xs (all 0 x (omega arith)) (known x) (search_all known xs (λ k d within. all (suc k) d (omega (arith, within))))

  found_known : (f : Finite P) → Found f.list → Known ((x : X) × P x × Q x)
  found_known f (inl found) = inl found
  found_known f (inr none) = inr (λ h. none h.0 (f.every h.0 h.1) h.2)

pub some_of : {X : Type 0} {P Q : X → Type 0} → Finite P → ((x : X) → Known (Q x)) → Known ((x : X) × P x × Q x)
some_of {X} {P} {Q} f known = found_known P Q f (search_all P Q known f.list f.sound)

or_of : (a b : Bool) → IsTrue a ⊎ IsTrue b → IsTrue (a || b)
or_of true b h = refl
or_of false b (inl e) = cc
or_of false b (inr e) = e

of_or : (a b : Bool) → IsTrue (a || b) → IsTrue a ⊎ IsTrue b
of_or true b h = inl refl
of_or false b h = inr h

true_known : (b : Bool) → Known (IsTrue b)
true_known true = inl refl
true_known false = inr (λ e. cc)

channel_known : (c d : Channel) → Known (c ≡ d)
channel_known c d = by (name_known c.place d.place) (number_known c.number d.number)
  where
    by : Known (c.place ≡ d.place) → Known (c.number ≡ d.number) → Known (c ≡ d)
    by (inl place) (inl number) = inl (ap (λ (p : Address). channel p c.number) place ∙ ap (λ (n : ℕ). channel d.place n) number)
    by (inl place) (inr other) = inr (λ e. other (ap (λ (x : Channel). x.number) e))
    by (inr other) number = inr (λ e. other (ap (λ (x : Channel). x.place) e))

-- Which channels

module _ (m : ModelTree) where
  -- an end of an instance is in channels of the level around it
  abbrev Named : Instance → List ℕ → Written → Type 0
  Named x port h = IsTrue (names_inner x.name.name port h)

  abbrev WrittenIn : Address → ℕ → List ℕ → Instance → ℕ → Channel → Type 0
  WrittenIn up i port x k c = (h : Written) × (slice_get (channels_at m up) k ≡ Some h) × (Named x port h × (c ≡ channel up k))

  abbrev NumberedIn : Address → ℕ → List ℕ → Instance → Channel → Type 0
  NumberedIn up i port x c = (k : ℕ) × (k < length (channels_at m up)) × WrittenIn up i port x k c

  abbrev pub InLevel : Address → ℕ → List ℕ → Channel → Type 0
  InLevel up i port c = (x : Instance) × (instance_at m up i ≡ Some x) × NumberedIn up i port x c

  written_in : (up : Address) (i : ℕ) (port : List ℕ) (x : Instance) (k : ℕ) → Finite (WrittenIn up i port x k)
  written_in up i port x k =
      bind {P = λ h. slice_get (channels_at m up) k ≡ Some h} {Q = λ h c. Named x port h × (c ≡ channel up k)} (from_option (slice_get (channels_at m up) k))
      (λ h. where_known (true_known (names_inner x.name.name port h)) (just (channel up k) refl (λ c e. e)))

  numbered_in : (up : Address) (i : ℕ) (port : List ℕ) (x : Instance) → Finite (NumberedIn up i port x)
  numbered_in up i port x = bind {P = λ k. k < length (channels_at m up)} {Q = WrittenIn up i port x} (below (length (channels_at m up))) (written_in up i port x)

  in_level : (up : Address) (i : ℕ) (port : List ℕ) → Finite (InLevel up i port)
  in_level up i port = bind {P = λ x. instance_at m up i ≡ Some x} {Q = NumberedIn up i port} (from_option (instance_at m up i)) (numbered_in up i port)

  in_by : (up : Address) (i : ℕ) (port : List ℕ) (c : Channel) → InLevel up i port c → IsIn m (end (i ∷ up) port) c
  in_by up i port c h =
      let at = h.2.2 in
      subst (IsIn m (end (i ∷ up) port)) (sym at.2.1) (is_in up i h.2.0 h.0 at.0 port h.1 at.1 at.2.0)

  -- what a channel that an end is in says of it
  abbrev InParts : PortEnd → Channel → Type 0
  InParts e c = (i : ℕ) × (up : Address) × (e.place ≡ i ∷ up) × InLevel up i e.port c

  in_parts : (e : PortEnd) (c : Channel) → IsIn m e c → InParts e c
  in_parts _ _ (is_in up i k x h port stands there named) = (i, up, refl, (x, stands, (k, slice_get_within (channels_at m up) k h there, (h, there, (named, refl)))))

  pub by_in : (i : ℕ) (up : Address) (port : List ℕ) (c : Channel) → IsIn m (end (i ∷ up) port) c → InLevel up i port c
  by_in i up port c h = by (in_parts (end (i ∷ up) port) c h)
    where
      by : InParts (end (i ∷ up) port) c → InLevel up i port c
      by (j, far, same, inside) =
          let number : j ≡ i = (heads same).0 in
          let place : far ≡ up = (heads same).1 in
          subst (λ (n : ℕ). InLevel up n port c) number (subst (λ (p : Address). InLevel p j port c) place inside)
        where
          heads : {x y : ℕ} {xs ys : List ℕ} → x ∷ xs ≡ y ∷ ys → (y ≡ x) × (ys ≡ xs)
          heads e = (cc, cc)

  -- the channels that an end of a place is in
  pub in_channels : (place : Address) (port : List ℕ) → Finite (IsIn m (end place port))
  in_channels [] port = nothing (λ c h. nowhere (in_parts (end [] port) c h))
    where
      nowhere : {c : Channel} → InParts (end [] port) c → ⊥
      nowhere (i, up, same, inside) = cc
  in_channels (i ∷ up) port = alike (in_by up i port) (by_in i up port) (in_level up i port)

  -- Channels that are joined with one further out

  -- the ports of its cluster that one of these ends is
  outer_of : (x : ChannelEnd) → Finite (λ port. IsTrue (is_outer port x))
  outer_of (Inner a b) = nothing (λ port h. cc)
  outer_of (Outer p) = just p.name ((bytes_eq-Decides p.name p.name).1 refl) (λ port h. (bytes_eq-Decides port p.name).0 h)

  abbrev IsOuter : List ChannelEnd → List ℕ → Type 0
  IsOuter es port = IsTrue (list_any (is_outer port) es)

  outer_ports : (es : List ChannelEnd) → Finite (IsOuter es)
  outer_ports [] = nothing (λ port h. cc)
  outer_ports (x ∷ es) =
      alike {P = λ port. IsTrue (is_outer port x) ⊎ IsOuter es port} {Q = IsOuter (x ∷ es)} (λ port h. or_of (is_outer port x) (list_any (is_outer port) es) h) (λ port h. of_or (is_outer port x) (list_any (is_outer port) es) h)
      (either (outer_of x) (outer_ports es))

  abbrev ByPort : Address → Written → Channel → Type 0
  ByPort place h c = (port : List ℕ) × IsOuter h.ends port × IsIn m (end place port) c

  abbrev JoinedBy : Address → ℕ → Channel → Type 0
  JoinedBy place k c = (h : Written) × (slice_get (channels_at m place) k ≡ Some h) × ByPort place h c

  by_port : (place : Address) (h : Written) → Finite (ByPort place h)
  by_port place h = bind {P = IsOuter h.ends} {Q = λ port c. IsIn m (end place port) c} (outer_ports h.ends) (λ port. in_channels place port)

  by_joined : (c d : Channel) → Joined m c d → JoinedBy c.place c.number d
  by_joined _ _ (joined place k h port d there outer inside) = (h, there, (port, outer, inside))

  pub joined_channels : (place : Address) (k : ℕ) → Finite (Joined m (channel place k))
  joined_channels place k =
      alike {P = JoinedBy place k} {Q = Joined m (channel place k)} (λ c h. joined place k h.0 h.2.0 c h.1 h.2.1 h.2.2) (λ c h. by_joined (channel place k) c h)
      (bind {P = λ h. slice_get (channels_at m place) k ≡ Some h} {Q = ByPort place} (from_option (slice_get (channels_at m place) k)) (by_port place))

  -- the next channel is in the level around this one
  joined_place : (i : ℕ) (up : Address) (k : ℕ) (c : Channel) → Joined m (channel (i ∷ up) k) c → c.place ≡ up
  joined_place i up k c h =
      let port = (by_joined (channel (i ∷ up) k) c h).2 in
      let inside = by_in i up port.0 c port.2 in
      ap (λ (x : Channel). x.place) inside.2.2.2.1

  pub joined_top : (k : ℕ) (c : Channel) → Joined m (channel [] k) c → ⊥
  joined_top k c h = let port = (by_joined (channel [] k) c h).2 in nowhere port.0 (in_parts (end [] port.0) c port.2)
    where
      nowhere : (port : List ℕ) → InParts (end [] port) c → ⊥
      nowhere port (i, up, same, inside) = cc

  -- Where a channel leads

  abbrev pub Onwards : Channel → Channel → Type 0
  Onwards c d = (x : Channel) × Joined m c x × Leads m x d

  pub lead_cases : (c d : Channel) → Leads m c d → (c ≡ d) ⊎ Onwards c d
  lead_cases _ _ (itself c) = inl refl
  lead_cases _ _ (outwards c x d h l) = inr (x, h, l)

  lead_by : (c d : Channel) → Known (c ≡ d) → Known (Onwards c d) → Known (Leads m c d)
  lead_by c d (inl same) on = inl (subst (Leads m c) same (itself c))
  lead_by c d (inr other) (inl h) = inl (outwards c h.0 d h.1 h.2)
  lead_by c d (inr other) (inr none) = inr (λ l. neither (lead_cases c d l))
    where
      neither : (c ≡ d) ⊎ Onwards c d → ⊥
      neither (inl same) = other same
      neither (inr on) = none on

  leads_known : (place : Address) (k : ℕ) (d : Channel) → Known (Leads m (channel place k) d)
  leads_known [] k d = lead_by (channel [] k) d (channel_known (channel [] k) d) (inr (λ h. joined_top k h.0 h.1))
  leads_known (i ∷ up) k d = lead_by (channel (i ∷ up) k) d (channel_known (channel (i ∷ up) k) d) (forget (some_of {P = Joined m (channel (i ∷ up) k)} {Q = λ x. (x.place ≡ up) × Leads m x d} (joined_channels (i ∷ up) k) (λ x. there x (name_known x.place up) (leads_known up x.number d))))
    where
      there : (x : Channel) → Known (x.place ≡ up) → Known (Leads m (channel up x.number) d) → Known ((x.place ≡ up) × Leads m x d)
      there x (inr other) l = inr (λ h. other h.0)
      there x (inl same) (inl l) = inl (same, subst (λ (p : Address). Leads m (channel p x.number) d) (sym same) l)
      there x (inl same) (inr none) = inr (λ h. none (subst (λ (p : Address). Leads m (channel p x.number) d) same h.1))

      forget : Known ((x : Channel) × Joined m (channel (i ∷ up) k) x × ((x.place ≡ up) × Leads m x d)) → Known (Onwards (channel (i ∷ up) k) d)
      forget (inl h) = inl (h.0, h.1, h.2.1)
      forget (inr none) = inr (λ h. none (h.0, h.1, (joined_place i up k h.0 h.1, h.2)))

  reaches_known : (place : Address) (port : List ℕ) (c : Channel) → Known (Reaches m (end place port) c)
  reaches_known place port c = by (some_of {P = IsIn m (end place port)} {Q = λ x. Leads m x c} (in_channels place port) (λ x. leads_known x.place x.number c))
    where
      by : Known ((x : Channel) × IsIn m (end place port) x × Leads m x c) → Known (Reaches m (end place port) c)
      by (inl h) = inl (record { first = h.0; starts = h.1; leads = h.2 })
      by (inr none) = inr (λ r. none (r.first, r.starts, r.leads))

  last_known : (c : Channel) → Known ((d : Channel) → Joined m c d → ⊥)
  last_known c = by (some_of {P = Joined m c} {Q = λ d. ℕ} (joined_channels c.place c.number) (λ d. inl 0))
    where
      by : Known ((d : Channel) × Joined m c d × ℕ) → Known ((d : Channel) → Joined m c d → ⊥)
      by (inl h) = inr (λ none. none h.0 h.1)
      by (inr none) = inl (λ d h. none (d, h, 0))

  -- Wires

  has_by : (place : Address) (port : List ℕ) (w : ℕ) (o : Option Channel) → slice_get (wires m) w ≡ o → Known (HasWire m (end place port) w)
  has_by place port w None e = inr (λ h. no_some (sym e ∙ h.there))
  has_by place port w (Some c) e = both (reaches_known place port c) (last_known c)
    where
      both : Known (Reaches m (end place port) c) → Known ((d : Channel) → Joined m c d → ⊥) → Known (HasWire m (end place port) w)
      both (inl r) (inl last) = inl (record { last = c; reached = r; ends = last; there = e })
      both (inr none) last = inr (λ h. none (subst (Reaches m (end place port)) (some_is (sym h.there ∙ e)) h.reached))
      both (inl r) (inr more) = inr (λ h. more (subst (λ (x : Channel). (d : Channel) → Joined m x d → ⊥) (some_is (sym h.there ∙ e)) h.ends))

  has_known : (place : Address) (port : List ℕ) (w : ℕ) → Known (HasWire m (end place port) w)
  has_known place port w = has_by place port w (slice_get (wires m) w) refl

  abbrev SomeWire : Address → List ℕ → Type 0
  SomeWire place port = (w : ℕ) × (w < length (wires m)) × HasWire m (end place port) w

  some_wire : (place : Address) (port : List ℕ) → Known (SomeWire place port)
  some_wire place port = some_of {P = λ w. w < length (wires m)} {Q = HasWire m (end place port)} (below (length (wires m))) (λ w. has_known place port w)

  abbrev number_of : {place : Address} {port : List ℕ} → Known (SomeWire place port) → Option ℕ
  number_of (inl h) = Some h.0
  number_of (inr none) = None

  number_has : (place : Address) (port : List ℕ) (w : ℕ) (o : Known (SomeWire place port)) → number_of o ≡ Some w → HasWire m (end place port) w
  number_has place port w (inl h) e = subst (HasWire m (end place port)) (some_is e) h.2
  number_has place port w (inr none) e = no_some e

  module _ (sound : IsSound m) (share : EndsShareWires m) where
    number_only : (place : Address) (port : List ℕ) (w : ℕ) (o : Known (SomeWire place port)) → HasWire m (end place port) w → number_of o ≡ Some w
    number_only place port w (inl h) x =
        ap (λ (n : ℕ). Some n) ((share sound (end place port) (end place port) h.0 w h.2 x).1 (record { met = h.2.last; one = h.2.reached; other = h.2.reached }))
    number_only place port w (inr none) x = absurd (none (w, slice_get_within (wires m) w x.last x.there, x))

    -- of a port of a process

    abbrev of_name : Address → Option (List ℕ) → Option ℕ
    of_name place None = None
    of_name place (Some name) = number_of (some_wire place name)

    abbrev of_place : ℕ → Option Address → Option ℕ
    of_place port None = None
    of_place port (Some place) = of_name place (slice_get (spelled (ports m (class_at m place))) port)

    abbrev the_wire : ℕ → ℕ → Option ℕ
    the_wire i port = of_place port (slice_get (processes m) i)

    wire_only : (i port w : ℕ) → IsWire m i port w → the_wire i port ≡ Some w
    wire_only i port w x = ap (of_place port) x.is_process ∙ ap (of_name x.place) x.named ∙ number_only x.place x.name w (some_wire x.place x.name) x.has_wire

    has_named : (i port w : ℕ) (place : Address) (o : Option (List ℕ)) → slice_get (processes m) i ≡ Some place → slice_get (spelled (ports m (class_at m place))) port ≡ o → of_name place o ≡ Some w → IsWire m i port w
    has_named i port w place None there e found = no_some found
    has_named i port w place (Some name) there e found = record { place = place; is_process = there; name = name; named = e; has_wire = number_has place name w (some_wire place name) found }

    has_placed : (i port w : ℕ) (o : Option Address) → slice_get (processes m) i ≡ o → of_place port o ≡ Some w → IsWire m i port w
    has_placed i port w None e found = no_some found
    has_placed i port w (Some place) e found = has_named i port w place (slice_get (spelled (ports m (class_at m place))) port) e refl found

    pub wires_known : HasWires m
    wires_known = record {
      wire = the_wire;
      has = λ i port w e. has_placed i port w (slice_get (processes m) i) refl e;
      only = wire_only;
    }
