-- The wire of a port of the environment is that of the end in the driven system.
use Rattle.std.proofs.Common.{◌≡◌, ◌⊎◌, inl, inr, refl, sym, ap, ◌∙◌, ℕ, zero, suc, ◌+◌, ◌<◌, ◌^◌, Bool, true, false, ◌&&◌, ◌||◌, List, [], ◌∷◌, ◌++◌, map, length, Some, None, slice_get, arith}
use Rattle.std.specs.List.{Contains}
use Rattle.std.specs.Option.{option_map}
use Rattle.std.specs.Str.{bytes_eq}
use Rattle.std.proofs.lemmas.Option.{slice_get-map}
use Rattle.std.proofs.lemmas.Slice.Eq.{bytes_eq-Decides}
use Rattle.pz_env_mimics.specs.pz_syntax.declared.clusters.Instance.{Instance}
use Rattle.pz_env_mimics.specs.pz_syntax.declared.clusters.Channel.{Channel as Written}
use Rattle.pz_env_mimics.specs.pz_syntax.Classes.{ModelTree}
use Rattle.pz_env_mimics.specs.pz_classes_rules.Numbers.{class}
use Rattle.pz_env_mimics.specs.pz_classes_rules.Members.{ports, spelled}
use Rattle.pz_env_mimics.specs.pz_classes_rules.SoundSystem.{SystemFits}
use Rattle.pz_bind_levels.specs.Places.{Address}
use Rattle.pz_bind_levels.specs.Wires.{Channel, channel}
use Rattle.pz_env_mimics.specs.pz_bind_rules.Nest.{class_at, instance_at, channels_at, processes}
use Rattle.pz_env_mimics.specs.pz_bind_rules.Connections.{PortEnd, end, names_inner, IsIn, is_in, Joined, joined as joins, Leads, itself, outwards}
use Rattle.pz_env_mimics.specs.pz_bind_rules.Wires.{wires, HasWire}
use Rattle.pz_env_mimics.specs.pz_rules.declared.limits.Limits.{Limits}
use Rattle.pz_env_mimics.specs.pz_rules.Ports.{IsWire}
use Rattle.pz_env_mimics.specs.pz_env_script.declared.entry.Entry.{Entry}
use Rattle.pz_env_mimics.specs.pz_env_rules.Environment.{Line, lines_of}
use Rattle.pz_env_mimics.specs.pz_env_rules.Ends.{first_mentions}
use Rattle.pz_env_mimics.specs.pz_env_rules.Joining.{joined, driving}
use Rattle.pz_env_mimics.specs.pz_env_rules.Driven.{IsWireOf}
use Rattle.pz_env_mimics.specs.pz_env_tree.Names.{class_name, instance_name, end_number, port_name, port_of}
use Rattle.pz_env_mimics.specs.pz_env_tree.ClosedTree.{environment, channel_of, closed_by}
use Rattle.pz_env_mimics.specs.pz_env_tree.Refusals.{IsFirstRefused}
use Rattle.pz_env_joined.proofs.Numbered.{got_later}
use Rattle.pz_env_joined.proofs.Closing.{closed_channels}
use Rattle.pz_env_joined.proofs.Firsts.{first_is_line, has_first, end_is}
use Rattle.pz_env_joined.proofs.Accepted.{no_line, no_channel, not_true}
use Rattle.pz_env_joined.proofs.Levels.{env_place, env_instance, env_class_at}
use Rattle.pz_env_joined.proofs.EnvironmentPorts.{one_port, number_low, number_of_first, port_there, env_ports}

-- a place behind the first of two lists
behind_first : {A : Type 0} (xs ys : List A) (k : ℕ) (x : A) → slice_get (xs ++ ys) k ≡ Some x
    → (slice_get xs k ≡ Some x) ⊎ ((r : ℕ) × (k ≡ length xs + r) × (slice_get ys r ≡ Some x))
behind_first [] ys k x at = inr (k, omega arith, at)
behind_first (y ∷ xs) ys zero x at = inl at
behind_first (y ∷ xs) ys (suc k) x at = by (behind_first xs ys k x at)
  where
    by : (slice_get xs k ≡ Some x) ⊎ ((r : ℕ) × (k ≡ length xs + r) × (slice_get ys r ≡ Some x))
        → (slice_get (y ∷ xs) (suc k) ≡ Some x) ⊎ ((r : ℕ) × (suc k ≡ length (y ∷ xs) + r) × (slice_get ys r ≡ Some x))
    by (inl there) = inl there
    by (inr (r, eq, there)) = inr (r, omega (arith, eq), there)

mapped : {A B : Type 0} (f : A → B) (xs : List A) (k : ℕ) (y : B) → slice_get (map f xs) k ≡ Some y → (x : A) × (slice_get xs k ≡ Some x) × (f x ≡ y)
mapped f [] k y at = cc
mapped f (x ∷ xs) zero y at = let eq : f x ≡ y = cc in (x, refl, eq)
mapped f (x ∷ xs) (suc k) y at = mapped f xs k y at

last_is : {A : Type 0} (xs : List A) (x y : A) → slice_get (xs ++ x ∷ []) (length xs) ≡ Some y → x ≡ y
last_is [] x y at = cc
last_is (z ∷ xs) x y at = last_is xs x y at

module _ (m : ModelTree) (script : List Entry) (fits : SystemFits m) (accepted : (line : ℕ) → IsFirstRefused m script line → ⊥) (few : length script < 2 ^ 64) (no_env : class m class_name ≡ None) where
  abbrev lines : List Line
  lines = lines_of script

  abbrev n : ModelTree
  n = closed_by m lines

  abbrev place : Address
  place = env_place m fits lines no_env

  abbrev own : ℕ
  own = length (channels_at m [])

  abbrev firsts : List Line
  firsts = first_mentions lines

  ports_are : ports n (class_at n place) ≡ map (port_of lines) firsts
  ports_are = ap (ports n) (env_class_at m fits lines no_env) ∙ env_ports m lines

  named : (k : ℕ) (f : Line) → slice_get firsts k ≡ Some f → slice_get (spelled (ports n (class_at n place))) k ≡ Some (port_name k)
  named k f at = ap (λ ps. slice_get (spelled ps) k) ports_are ∙ port_there lines k f at

  -- the channel of an end has the environment's port of that number, and no other
  one_of : (k r : ℕ) (f g : Line) → slice_get firsts k ≡ Some f → slice_get firsts r ≡ Some g
      → names_inner instance_name (port_name k) (channel_of lines g) ≡ true → k ≡ r
  one_of k r f g at there is =
      let other : bytes_eq instance_name g.entry.instance ≡ false =
      not_true (bytes_eq instance_name g.entry.instance) (λ same. no_line m script accepted g (first_is_line lines r g there) (sym ((bytes_eq-Decides instance_name g.entry.instance).0 same)))
      in
      let left : (bytes_eq (port_name k) (port_name (end_number lines g)) || false) ≡ true = ap (λ (b : Bool). (b && bytes_eq (port_name k) g.entry.port) || (bytes_eq (port_name k) (port_name (end_number lines g)) || false)) (sym other) ∙ is in
      let same : port_name k ≡ port_name r = (bytes_eq-Decides (port_name k) (port_name (end_number lines g))).0 (first_true (bytes_eq (port_name k) (port_name (end_number lines g))) left) ∙ ap port_name (number_of_first lines r g there) in
      one_port k r (number_low script few k f at) (number_low script few r g there) same
    where
      first_true : (b : Bool) → b || false ≡ true → b ≡ true
      first_true true h = refl
      first_true false h = h

  channel_is : (k q : ℕ) (f : Line) (h : Written) → slice_get firsts k ≡ Some f → slice_get (channels_at n []) q ≡ Some h
      → names_inner instance_name (port_name k) h ≡ true → q ≡ own + k
  channel_is k q f h at there is = by (behind_first (channels_at m []) (map (channel_of lines) firsts) q h (ap (λ hs. slice_get hs q) (sym (closed_channels m lines fits)) ∙ there))
    where
      by : (slice_get (channels_at m []) q ≡ Some h) ⊎ ((r : ℕ) × (q ≡ own + r) × (slice_get (map (channel_of lines) firsts) r ≡ Some h)) → q ≡ own + k
      by (inl mine) = absurd (no_channel m script accepted fits q h (port_name k) mine is)
      by (inr (r, eq, further)) =
          let g = mapped (channel_of lines) firsts r h further in
          let same : k ≡ r = one_of k r f g.0 at g.1 (ap (names_inner instance_name (port_name k)) g.2 ∙ is) in
          omega (arith, eq, same)

  -- which channel the port is in
  in_channel : (k : ℕ) (f : Line) (e : PortEnd) (c : Channel) → slice_get firsts k ≡ Some f → IsIn n e c → e.place ≡ place
      → e.port ≡ port_name k → c ≡ channel [] (own + k)
  in_channel k f _ _ at (is_in up i q x h port instance there names) eq same =
      let outer : up ≡ [] = cc in
      let number : i ∷ [] ≡ place = cc in
      let placed : instance_at n [] i ≡ Some x = ap (λ (p : Address). instance_at n p i) (sym outer) ∙ instance in
      let stands : instance_at n [] i ≡ Some environment = head_is i number in
      let is_env : x ≡ environment = cc in
      let in_system : slice_get (channels_at n []) q ≡ Some h = ap (λ (p : Address). slice_get (channels_at n p) q) (sym outer) ∙ there in
      let of_env : names_inner instance_name (port_name k) h ≡ true =
      ap (λ (y : Instance). names_inner y.name.name (port_name k) h) (sym is_env) ∙ ap (λ (p : List ℕ). names_inner x.name.name p h) (sym same) ∙ names
      in
      let q_is : q ≡ own + k = channel_is k q f h at in_system of_env in
      ap (λ (p : Address). channel p q) outer ∙ ap (channel []) q_is
    where
      head_is : (i : ℕ) → i ∷ [] ≡ place → instance_at n [] i ≡ Some environment
      head_is i eq = let same : i ≡ slice_head place = ap slice_head eq in ap (instance_at n []) same ∙ env_instance m fits lines no_env
        where
          slice_head : Address → ℕ
          slice_head [] = 0
          slice_head (k ∷ ks) = k

  -- a channel of the system leads nowhere
  stays : (k : ℕ) (c d : Channel) → Leads n c d → c ≡ channel [] k → d ≡ channel [] k
  stays k _ _ (itself c) eq = eq
  stays k _ _ (outwards c d e one rest) eq = absurd (never c d one eq)
    where
      no_end : (e : PortEnd) (c : Channel) → IsIn n e c → e.place ≡ [] → ⊥
      no_end _ _ (is_in up i q x h port instance there names) same = cc

      never : (c d : Channel) → Joined n c d → c ≡ channel [] k → ⊥
      never _ _ (joins p q h port d at outer inner) same = no_end (end p port) d inner (ap (λ (c : Channel). c.place) same)

  own_wire : (same_wires : wires (joined m lines) ≡ wires n) (k w : ℕ) (f : Line) → slice_get firsts k ≡ Some f
      → slice_get (wires (joined m lines)) w ≡ Some (channel [] (own + k)) → HasWire n (end place (port_name k)) w
  own_wire same_wires k w f at there = record {
    last = channel [] (own + k);
    reached = record { first = channel [] (own + k); starts = starts; leads = itself (channel [] (own + k)) };
    ends = λ c joining. not_joined (channel [] (own + k)) c joining refl;
    there = ap (λ (cs : List Channel). slice_get cs w) (sym same_wires) ∙ there;
  }
    where
      no_end : (e : PortEnd) (c : Channel) → IsIn n e c → e.place ≡ [] → ⊥
      no_end _ _ (is_in up i q x h port instance here names) same = cc

      not_joined : (b c : Channel) → Joined n b c → b ≡ channel [] (own + k) → ⊥
      not_joined _ _ (joins p q h port d here outer inner) same = no_end (end p port) d inner (ap (λ (b : Channel). b.place) same)

      is_there : slice_get (channels_at n []) (own + k) ≡ Some (channel_of lines f)
      is_there =
          ap (λ (hs : List Written). slice_get hs (own + k)) (closed_channels m lines fits)
          ∙ got_later (channels_at m []) (map (channel_of lines) firsts) k
          ∙ slice_get-map (channel_of lines) firsts k
          ∙ ap (option_map (channel_of lines)) at

      or_true : (b : Bool) → b || true ≡ true
      or_true true = refl
      or_true false = refl

      named_there : names_inner instance_name (port_name k) (channel_of lines f) ≡ true
      named_there =
          let own_name : bytes_eq (port_name k) (port_name (end_number lines f)) ≡ true = (bytes_eq-Decides (port_name k) (port_name (end_number lines f))).1 (ap port_name (sym (number_of_first lines k f at))) in
          ap (λ (b : Bool). (bytes_eq instance_name f.entry.instance && bytes_eq (port_name k) f.entry.port) || (b || false)) own_name
          ∙ or_true (bytes_eq instance_name f.entry.instance && bytes_eq (port_name k) f.entry.port)

      starts : IsIn n (end place (port_name k)) (channel [] (own + k))
      starts = is_in [] _ (own + k) environment (channel_of lines f) (port_name k) (env_instance m fits lines no_env) is_there named_there

  module _ (limits : Limits) (others : List Address) (behind : processes n ≡ others ++ place ∷ []) (same_wires : wires (joined m lines) ≡ wires n) where
    pub to_driven : (x : Line) (w : ℕ) → Contains lines x → IsWire n (length others) (end_number lines x) w → IsWireOf (driving m script limits) x w
    to_driven x w among is =
        let first = has_first lines x among in
        let k = first.0 in
        let f = first.1.first in
        let number : end_number lines x ≡ k = end_is lines x k first.1 in
        let at_place : place ≡ is.place = last_is others place is.place (ap (λ (ps : List Address). slice_get ps (length others)) (sym behind) ∙ is.is_process) in
        let name_there : slice_get (spelled (ports n (class_at n place))) k ≡ Some is.name =
        ap (λ (p : Address). slice_get (spelled (ports n (class_at n p))) k) at_place
        ∙ ap (slice_get (spelled (ports n (class_at n is.place)))) (sym number)
        ∙ is.named
        in
        let both : Some is.name ≡ Some (port_name k) = sym name_there ∙ named k f first.1.there in
        let name_is : is.name ≡ port_name k = cc in
        let reached = is.has_wire.reached in
        let starts : reached.first ≡ channel [] (own + k) = in_channel k f (end is.place is.name) reached.first first.1.there reached.starts (sym at_place) name_is in
        let last : is.has_wire.last ≡ channel [] (own + k) = stays (own + k) reached.first is.has_wire.last reached.leads starts in
        record {
          number = k;
          is_end = first.1;
          there = ap (λ (cs : List Channel). slice_get cs w) same_wires ∙ is.has_wire.there ∙ ap Some last;
        }

    pub to_closed : (x : Line) (w : ℕ) → IsWireOf (driving m script limits) x w → IsWire n (length others) (end_number lines x) w
    to_closed x w is =
        let number : end_number lines x ≡ is.number = end_is lines x is.number is.is_end in
        record {
          place = place;
          is_process = ap (λ (ps : List Address). slice_get ps (length others)) behind ∙ last_there others place;
          name = port_name is.number;
          named = ap (slice_get (spelled (ports n (class_at n place)))) number ∙ named is.number is.is_end.first is.is_end.there;
          has_wire = own_wire same_wires is.number w is.is_end.first is.is_end.there is.there;
        }
      where
        last_there : {A : Type 0} (xs : List A) (y : A) → slice_get (xs ++ y ∷ []) (length xs) ≡ Some y
        last_there [] y = refl
        last_there (z ∷ zs) y = last_there zs y
