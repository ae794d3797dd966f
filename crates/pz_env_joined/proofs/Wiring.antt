-- Ends have the same wires in two models, in which the same stands as far as one looks, where of the channels
-- of the system those with one number name the same of these ends.
use Rattle.std.proofs.Common.{◌≡◌, refl, sym, ap, ◌∙◌, subst, ℕ, zero, suc, Bool, ◌||◌, List, [], ◌∷◌, ◌++◌, length, Option, Some, slice_get, arith}
use Rattle.std.specs.Prelude.{if◌then◌else◌}
use Rattle.std.specs.List.{list_any, flat_map, AllByRecursion}
use Rattle.pz_env_mimics.specs.pz_syntax.declared.clusters.Instance.{Instance}
use Rattle.pz_env_mimics.specs.pz_syntax.declared.clusters.Channel.{Channel as Written}
use Rattle.pz_env_mimics.specs.pz_syntax.declared.clusters.ChannelEnd.{ChannelEnd}
use Rattle.pz_env_mimics.specs.pz_syntax.declared.clusters.ChannelEnd.TheVariants.{Inner, Outer}
use Rattle.pz_env_mimics.specs.pz_syntax.Classes.{ModelTree}
use Rattle.std.specs.Option.{option_map_or}
use Rattle.pz_bind_levels.specs.Places.{Address}
use Rattle.pz_bind_levels.specs.Wires.{Channel, channel}
use Rattle.pz_env_mimics.specs.pz_bind_rules.Nest.{instance_at, channels_at, levels}
use Rattle.pz_env_mimics.specs.pz_bind_rules.Names.{name_at}
use Rattle.pz_env_mimics.specs.pz_bind_rules.Connections.{PortEnd, end, names_inner, names_outer, IsIn, is_in, Joined, joined, Leads, itself, outwards}
use Rattle.pz_env_mimics.specs.pz_bind_rules.Wires.{is_carried_on, is_joined, ending, wires_at, wires, HasWire}

-- channels that name the same ports of this instance, and the same of their own cluster
pub data AreLike (name : List ℕ) : List Written → List Written → Type 0 where
  none : AreLike name [] []
  next : (h g : Written) (hs gs : List Written) → ((port : List ℕ) → names_inner name port h ≡ names_inner name port g)
      → ((port : List ℕ) → names_outer port h ≡ names_outer port g) → AreLike name hs gs
      → AreLike name (h ∷ hs) (g ∷ gs)

pub like_itself : (name : List ℕ) (hs : List Written) → AreLike name hs hs
like_itself name [] = none
like_itself name (h ∷ hs) = next h h hs hs (λ port. refl) (λ port. refl) (like_itself name hs)

pub like_turned : (name : List ℕ) (hs gs : List Written) → AreLike name hs gs → AreLike name gs hs
like_turned name _ _ none = none
like_turned name _ _ (next h g hs gs inner outer rest) = next g h gs hs (λ port. sym (inner port)) (λ port. sym (outer port)) (like_turned name hs gs rest)

pub like_behind : (name : List ℕ) (front hs gs : List Written) → AreLike name hs gs → AreLike name (front ++ hs) (front ++ gs)
like_behind name [] hs gs like = like
like_behind name (h ∷ front) hs gs like = next h h (front ++ hs) (front ++ gs) (λ port. refl) (λ port. refl) (like_behind name front hs gs like)

-- the one of the same number
record Other (name : List ℕ) (h : Written) (gs : List Written) (k : ℕ) : Type 0 where
  one : Written
  there : slice_get gs k ≡ Some one
  inner : (port : List ℕ) → names_inner name port one ≡ names_inner name port h

like_at : (name : List ℕ) (hs gs : List Written) → AreLike name hs gs → (k : ℕ) (h : Written) → slice_get hs k ≡ Some h → Other name h gs k
like_at name _ _ none k h at = cc
like_at name _ _ (next f g hs gs inner outer rest) zero h at = let eq : f ≡ h = cc in record { one = g; there = refl; inner = λ port. sym (inner port) ∙ ap (names_inner name port) eq }
like_at name _ _ (next f g hs gs inner outer rest) (suc k) h at = let o = like_at name hs gs rest k h at in record { one = o.one; there = o.there; inner = o.inner }

any_like : (name port : List ℕ) (hs gs : List Written) → AreLike name hs gs
    → list_any (names_inner name port) hs ≡ list_any (names_inner name port) gs
any_like name port _ _ none = refl
any_like name port _ _ (next h g hs gs inner outer rest) =
    ap (λ (b : Bool). b || list_any (names_inner name port) hs) (inner port)
    ∙ ap (λ (b : Bool). names_inner name port g || b) (any_like name port hs gs rest)

-- as far as one looks
pub record SameWiring (S : Address → Type 0) (a b : ModelTree) : Type 0 where
  pub outer : (i : ℕ) (up : Address) → S (i ∷ up) → S up
  pub instances : (i : ℕ) (up : Address) → S (i ∷ up) → instance_at a up i ≡ instance_at b up i
  pub inside : (i : ℕ) (up : Address) → S (i ∷ up) → channels_at a (i ∷ up) ≡ channels_at b (i ∷ up)
  pub system : (i : ℕ) → S (i ∷ []) → AreLike (name_at a [] i) (channels_at a []) (channels_at b [])
  pub as_many : length (channels_at a []) ≡ length (channels_at b [])

pub wiring_turned : (S : Address → Type 0) (a b : ModelTree) → SameWiring S a b → SameWiring S b a
wiring_turned S a b w = record {
  outer = w.outer;
  instances = λ i up s. sym (w.instances i up s);
  inside = λ i up s. sym (w.inside i up s);
  system = λ i s. subst (λ (o : Option Instance). AreLike (option_map_or (λ x. x.name.name) o []) (channels_at b []) (channels_at a [])) (w.instances i [] s) (like_turned (name_at a [] i) (channels_at a []) (channels_at b []) (w.system i s));
  as_many = sym w.as_many;
}

module _ (S : Address → Type 0) (a b : ModelTree) (w : SameWiring S a b) where
  -- the channels around an instance
  around : (i : ℕ) (up : Address) → S (i ∷ up) → AreLike (name_at a up i) (channels_at a up) (channels_at b up)
  around i [] s = w.system i s
  around i (j ∷ up) s = subst (AreLike (name_at a (j ∷ up) i) (channels_at a (j ∷ up))) (w.inside j up (w.outer i (j ∷ up) s)) (like_itself (name_at a (j ∷ up) i) (channels_at a (j ∷ up)))

  in_kept : (e : PortEnd) (c : Channel) → IsIn a e c → S e.place → IsIn b e c
  in_kept _ _ (is_in up i k x h port instance at names) s =
      let named : name_at a up i ≡ x.name.name = ap (λ (o : Option Instance). option_map_or (λ y. y.name.name) o []) instance in
      let other = like_at (name_at a up i) (channels_at a up) (channels_at b up) (around i up s) k h at in
      is_in up i k x other.one port (sym (w.instances i up s) ∙ instance) other.there
      (ap (λ (name : List ℕ). names_inner name port other.one) (sym named) ∙ other.inner port ∙ ap (λ (name : List ℕ). names_inner name port h) named ∙ names)

  in_outer : (e : PortEnd) (c : Channel) → IsIn a e c → S e.place → S c.place
  in_outer _ _ (is_in up i k x h port instance at names) s = w.outer i up s

  -- an end that is in a channel is that of something in a level
  in_inside : (e : PortEnd) (c : Channel) → IsIn a e c → S e.place → channels_at a e.place ≡ channels_at b e.place
  in_inside _ _ (is_in up i k x h port instance at names) s = w.inside i up s

  joined_kept : (c d : Channel) → Joined a c d → S c.place → Joined b c d
  joined_kept _ _ (joined place k h port d at outer inner) s =
      joined place k h port d (ap (λ (hs : List Written). slice_get hs k) (sym (in_inside (end place port) d inner s)) ∙ at) outer (in_kept (end place port) d inner s)

  joined_outer : (c d : Channel) → Joined a c d → S c.place → S d.place
  joined_outer _ _ (joined place k h port d at outer inner) s = in_outer (end place port) d inner s

  leads_kept : (c d : Channel) → Leads a c d → S c.place → Leads b c d × S d.place
  leads_kept _ _ (itself c) s = (itself c, s)
  leads_kept _ _ (outwards c d e one rest) s =
      let more = leads_kept d e rest (joined_outer c d one s) in
      (outwards c d e (joined_kept c d one s) more.0, more.1)

  carried_same : (i : ℕ) (up : Address) → S (i ∷ up) → (e : ChannelEnd) → is_carried_on a up i e ≡ is_carried_on b up i e
  carried_same i up s (Inner x port) = refl
  carried_same i up s (Outer port) =
      any_like (name_at a up i) port.name (channels_at a up) (channels_at b up) (around i up s)
      ∙ ap (λ (o : Option Instance). list_any (names_inner (option_map_or (λ y. y.name.name) o []) port.name) (channels_at b up)) (w.instances i up s)

  any_same : (f g : ChannelEnd → Bool) → ((e : ChannelEnd) → f e ≡ g e) → (es : List ChannelEnd) → list_any f es ≡ list_any g es
  any_same f g alike [] = refl
  any_same f g alike (e ∷ es) = ap (λ (t : Bool). t || list_any f es) (alike e) ∙ ap (λ (t : Bool). g e || t) (any_same f g alike es)

  ending_inside : (i : ℕ) (up : Address) → S (i ∷ up) → (k : ℕ) (hs : List Written) → ending a (i ∷ up) k hs ≡ ending b (i ∷ up) k hs
  ending_inside i up s k [] = refl
  ending_inside i up s k (h ∷ hs) =
      ap (λ (t : Bool). (if t then [] else channel (i ∷ up) k ∷ []) ++ ending a (i ∷ up) (suc k) hs) (any_same (is_carried_on a up i) (is_carried_on b up i) (carried_same i up s) h.ends)
      ∙ ap (λ (cs : List Channel). (if is_joined b (i ∷ up) h then [] else channel (i ∷ up) k ∷ []) ++ cs) (ending_inside i up s (suc k) hs)

  ending_system : (k : ℕ) (hs gs : List Written) → length hs ≡ length gs → ending a [] k hs ≡ ending b [] k gs
  ending_system k [] [] eq = refl
  ending_system k [] (g ∷ gs) eq = absurd (omega (arith, eq))
  ending_system k (h ∷ hs) [] eq = absurd (omega (arith, eq))
  ending_system k (h ∷ hs) (g ∷ gs) eq = ap (λ (cs : List Channel). channel [] k ∷ cs) (ending_system (suc k) hs gs (omega (arith, eq)))

  wires_at_same : (p : Address) → S p → wires_at a p ≡ wires_at b p
  wires_at_same [] s = ending_system 0 (channels_at a []) (channels_at b []) w.as_many
  wires_at_same (i ∷ up) s = ending_inside i up s 0 (channels_at a (i ∷ up)) ∙ ap (ending b (i ∷ up) 0) (w.inside i up s)

  flat_same : (ps : List Address) → AllByRecursion S ps → flat_map (wires_at a) ps ≡ flat_map (wires_at b) ps
  flat_same [] all = refl
  flat_same (p ∷ ps) all =
      ap (λ (cs : List Channel). cs ++ flat_map (wires_at a) ps) (wires_at_same p all.0)
      ∙ ap (λ (cs : List Channel). wires_at b p ++ cs) (flat_same ps all.1)

  -- where the levels are the same, so are the wires
  pub wires_same : levels a ≡ levels b → AllByRecursion S (levels a) → wires a ≡ wires b
  wires_same eq all = flat_same (levels a) all ∙ ap (flat_map (wires_at b)) eq

-- an end that one sees has the same wire
pub has_wire_kept : (S : Address → Type 0) (a b : ModelTree) → SameWiring S a b → wires a ≡ wires b → (e : PortEnd) (v : ℕ)
    → S e.place → HasWire a e v → HasWire b e v
has_wire_kept S a b w eq e v s has =
    let first = has.reached.first in
    let back = wiring_turned S a b w in
    let lead = leads_kept S a b w first has.last has.reached.leads (in_outer S a b w e first has.reached.starts s) in
    record {
      last = has.last;
      reached = record { first = first; starts = in_kept S a b w e first has.reached.starts s; leads = lead.0 };
      ends = λ c joins. has.ends c (joined_kept S b a back has.last c joins lead.1);
      there = ap (λ (cs : List Channel). slice_get cs v) (sym eq) ∙ has.there;
    }
