-- The links of a level are what its channels name.
use Rattle.std.proofs.Common.{◌≡◌, refl, sym, ap, ◌∙◌, subst, ℕ, zero, suc, ◌+◌, Bool, ◌&&◌, IsTrue, List, [], ◌∷◌, map, Option, Some, None, slice_get, arith}
use Rattle.std.specs.Option.{option_and_then}
use Rattle.std.specs.Str.{bytes_eq}
use Rattle.std.proofs.lemmas.Slice.Eq.{bytes_eq-Decides}
use Rattle.pz_classes_rules.specs.pz_syntax.declared.names.Id.{Id}
use Rattle.pz_classes_rules.specs.pz_syntax.declared.clusters.Instance.{Instance}
use Rattle.pz_classes_rules.specs.pz_syntax.declared.clusters.Channel.{Channel as Written}
use Rattle.pz_classes_rules.specs.pz_syntax.declared.clusters.ChannelEnd.{ChannelEnd}
use Rattle.pz_classes_rules.specs.pz_syntax.declared.clusters.ChannelEnd.TheVariants.{Inner, Outer}
use Rattle.pz_classes_rules.specs.pz_syntax.Classes.{ModelTree}
use Rattle.pz_classes_rules.specs.Members.{ports, spelled}
use Rattle.pz_classes_rules.specs.ChannelRules.{same_end, both_outer}
use Rattle.pz_classes_rules.specs.Apart.{AreApart}
use Rattle.pz_classes_rules.proofs.Elements.{both_true}
use Rattle.pz_bind_rules.specs.Nest.{class_of}
use Rattle.pz_bind_rules.specs.Connections.{is_inner, is_outer, names_inner, names_outer}
use Rattle.pz_bind_rules.specs.devices.Layouts.{linked_by, port_number, outer_from, links_from}
use Rattle.pz_bind_rules.proofs.Lists.{Passing, any_found, any_at, map_at, AreOnce, name_there, place_of}
use Rattle.pz_bind_rules.proofs.Linked.{IsEnd, InChannels, of_channels, channels_link, one_channel}
use Rattle.pz_bind_rules.proofs.LevelFits.{LevelFits}

same_bytes : (x y : List ℕ) → IsTrue (bytes_eq x y) → x ≡ y
same_bytes x y = (bytes_eq-Decides x y).0

bytes_same : (x y : List ℕ) → x ≡ y → IsTrue (bytes_eq x y)
bytes_same x y = (bytes_eq-Decides x y).1

both : (a b : Bool) → IsTrue a → IsTrue b → IsTrue (a && b)
both a b first second = rw (first, second) refl

-- the end names the port
pub record InnerEnd (instance port : List ℕ) (h : Written) : Type 0 where
  pub at : ℕ
  pub x : Id
  pub q : Id
  pub there : slice_get h.ends at ≡ Some (Inner x q)
  pub is_instance : instance ≡ x.name
  pub is_port : port ≡ q.name

pub inner_end : (instance port : List ℕ) (h : Written) → IsTrue (names_inner instance port h) → InnerEnd instance port h
inner_end instance port h is = by_end p.one p.there p.passes
  where
    p : Passing (is_inner instance port) h.ends
    p = any_found (is_inner instance port) h.ends is

    by_end : (e : ChannelEnd) → slice_get h.ends p.at ≡ Some e → IsTrue (is_inner instance port e) → InnerEnd instance port h
    by_end (Inner x q) there passes =
        let each = both_true (bytes_eq instance x.name) (bytes_eq port q.name) passes in
        record { at = p.at; x = x; q = q; there = there; is_instance = same_bytes instance x.name each.0; is_port = same_bytes port q.name each.1 }
    by_end (Outer q) there passes = cc

pub names_it : (instance port : List ℕ) (h : Written) (at : ℕ) (x q : Id) → slice_get h.ends at ≡ Some (Inner x q) → instance ≡ x.name → port ≡ q.name → IsTrue (names_inner instance port h)
names_it instance port h at x q there same_instance same_port =
    any_at (is_inner instance port) h.ends at (Inner x q) there (both (bytes_eq instance x.name) (bytes_eq port q.name) (bytes_same instance x.name same_instance) (bytes_same port q.name same_port))

pub record OuterEnd (port : List ℕ) (h : Written) : Type 0 where
  pub at : ℕ
  pub q : Id
  pub there : slice_get h.ends at ≡ Some (Outer q)
  pub is_port : port ≡ q.name

pub outer_end : (port : List ℕ) (h : Written) → IsTrue (names_outer port h) → OuterEnd port h
outer_end port h is = by_end p.one p.there p.passes
  where
    p : Passing (is_outer port) h.ends
    p = any_found (is_outer port) h.ends is

    by_end : (e : ChannelEnd) → slice_get h.ends p.at ≡ Some e → IsTrue (is_outer port e) → OuterEnd port h
    by_end (Inner x q) there passes = cc
    by_end (Outer q) there passes = record { at = p.at; q = q; there = there; is_port = same_bytes port q.name passes }

module _ (m : ModelTree) where
  -- ---- the port of its own cluster that a channel has

  pub outer_named : (c : ℕ) (es : List ChannelEnd) (p : ℕ) → outer_from m c es ≡ Some p → (at : ℕ) × (q : Id) × (slice_get es at ≡ Some (Outer q)) × (port_number m c q.name ≡ Some p)
  outer_named c [] p is = cc
  outer_named c (Inner x q ∷ es) p is = let r = outer_named c es p is in (suc r.0, r.1, r.2, r.3)
  outer_named c (Outer q ∷ es) p is = (0, q, refl, is)

  pub outer_first : (c : ℕ) (es : List ChannelEnd) (at : ℕ) (q : Id) → AreApart both_outer es → slice_get es at ≡ Some (Outer q) → outer_from m c es ≡ port_number m c q.name
  outer_first c [] at q apart there = cc
  outer_first c (Inner x r ∷ es) zero q apart there = let wrong : Inner x r ≡ Outer q = cc in absurd (differ x r q wrong)
    where
      IsInner : ChannelEnd → Type 0
      IsInner (Inner y s) = Unit {0}
      IsInner (Outer s) = ⊥

      differ : (y s t : Id) → Inner y s ≡ Outer t → ⊥
      differ y s t same = subst IsInner same tt
  outer_first c (Inner x r ∷ es) (suc at) q apart there = outer_first c es at q (λ i j y z first second alike. let later : suc i ≡ suc j = apart (suc i) (suc j) y z first second alike in omega arith) there
  outer_first c (Outer r ∷ es) zero q apart there = let same : Outer r ≡ Outer q = cc in ap (λ e. outer_from m c (e ∷ es)) same
  outer_first c (Outer r ∷ es) (suc at) q apart there = absurd (let wrong : 0 ≡ suc at = apart 0 (suc at) (Outer r) (Outer q) refl there refl in omega arith)

  -- ---- the channel that the port of an instance is in

  module _ (xs : List Instance) (hs : List Written) where
    abbrev pub linked : ℕ → ℕ → Option ℕ
    linked i p = linked_by (links_from m xs 0 hs) i p

    -- channel k names the port of instance i
    pub record LinkNamed (i p k : ℕ) : Type 0 where
      pub instance : Instance
      pub stands : slice_get xs i ≡ Some instance
      pub channel : Written
      pub there : slice_get hs k ≡ Some channel
      pub port : List ℕ
      pub numbered : port_number m (class_of m instance) port ≡ Some p
      pub names : IsTrue (names_inner instance.name.name port channel)

    pub link_named : (i p k : ℕ) → linked i p ≡ Some k → LinkNamed i p k
    link_named i p k links = by_end r.in_ends.one r.in_ends.there r.in_ends.is_end
      where
        r : InChannels m xs 0 hs i p k
        r = of_channels m xs 0 hs i p k links

        number : k ≡ r.at
        number = let is : k ≡ r.at + 0 = r.is in omega arith

        by_end : (e : ChannelEnd) → slice_get r.channel.ends r.in_ends.at ≡ Some e → IsEnd m xs i p e → LinkNamed i p k
        by_end (Outer q) there is = absurd is
        by_end (Inner x q) there (instance, port) = by_instance (slice_get xs i) refl
          where
            by_instance : (o : Option Instance) → slice_get xs i ≡ o → LinkNamed i p k
            by_instance None stands = let wrong : None ≡ Some p = rw stands at port in cc
            by_instance (Some y) stands =
                let named : Some y.name.name ≡ Some x.name = sym (map_at (λ (z : Instance). z.name.name) xs i y stands) ∙ name_there (map (λ (z : Instance). z.name.name) xs) x.name i instance in
                let same : y.name.name ≡ x.name = cc in
                record {
                  instance = y;
                  stands = stands;
                  channel = r.channel;
                  there = ap (slice_get hs) number ∙ r.there;
                  port = q.name;
                  numbered = sym (ap (option_and_then (λ (z : Instance). port_number m (class_of m z) q.name)) stands) ∙ port;
                  names = names_it y.name.name q.name r.channel r.in_ends.at x q there same refl;
                }

    -- in a sound model each end stands once
    module _ (c : ℕ) (fits : LevelFits m c xs hs) (ports_once : (k : ℕ) → AreOnce (spelled (ports m k))) where
      is_end : (i p : ℕ) (y : Instance) (x q : Id) → slice_get xs i ≡ Some y → y.name.name ≡ x.name → slice_get (spelled (ports m (class_of m y))) p ≡ Some q.name → IsEnd m xs i p (Inner x q)
      is_end i p y x q stands named there = (
        place_of (map (λ (z : Instance). z.name.name) xs) x.name i fits.names_once (map_at (λ (z : Instance). z.name.name) xs i y stands ∙ ap Some named),
        ap (option_and_then (λ (z : Instance). port_number m (class_of m z) q.name)) stands ∙ place_of (spelled (ports m (class_of m y))) q.name p (ports_once (class_of m y)) there,
      )

      -- two ends that are one port are the same end
      same_ends : (i p : ℕ) (e f : ChannelEnd) → IsEnd m xs i p e → IsEnd m xs i p f → IsTrue (same_end e f)
      same_ends i p (Outer q) f is other = absurd is
      same_ends i p (Inner x q) (Outer s) is other = absurd other
      same_ends i p (Inner x q) (Inner z s) (instance, port) (again, port_again) = by_instance (slice_get xs i) refl
        where
          one_name : (names : List (List ℕ)) (n : ℕ) (a b : List ℕ) → Rattle.pz_classes_rules.specs.pz_classes_code.Places.place_in names a ≡ Some n → Rattle.pz_classes_rules.specs.pz_classes_code.Places.place_in names b ≡ Some n → a ≡ b
          one_name names n a b first second = let both_there : Some a ≡ Some b = sym (name_there names a n first) ∙ name_there names b n second in cc

          by_instance : (o : Option Instance) → slice_get xs i ≡ o → IsTrue (same_end (Inner x q) (Inner z s))
          by_instance None stands = let wrong : None ≡ Some p = rw stands at port in cc
          by_instance (Some y) stands =
              both (bytes_eq x.name z.name) (bytes_eq q.name s.name)
              (bytes_same x.name z.name (one_name (map (λ (w : Instance). w.name.name) xs) i x.name z.name instance again))
              (bytes_same q.name s.name (one_name (spelled (ports m (class_of m y))) p q.name s.name
              (sym (ap (option_and_then (λ (w : Instance). port_number m (class_of m w) q.name)) stands) ∙ port)
              (sym (ap (option_and_then (λ (w : Instance). port_number m (class_of m w) s.name)) stands) ∙ port_again)))

      pub named_link : (i p k : ℕ) (y : Instance) (h : Written) (port : List ℕ) → slice_get xs i ≡ Some y → slice_get hs k ≡ Some h → IsTrue (names_inner y.name.name port h) → slice_get (spelled (ports m (class_of m y))) p ≡ Some port → linked i p ≡ Some k
      named_link i p k y h port stands there names numbered =
          let e = inner_end y.name.name port h names in
          let is = is_end i p y e.x e.q stands e.is_instance (numbered ∙ ap Some e.is_port) in
          let some = channels_link m xs 0 hs k h e.at (Inner e.x e.q) i p there e.there is in
          let r = of_channels m xs 0 hs i p some.0 some.1 in
          let one : k ≡ r.at = one_channel hs k r.at h r.channel e.at r.in_ends.at (Inner e.x e.q) r.in_ends.one there r.there e.there r.in_ends.there
          (λ a b first second. fits.ends_apart a b (Inner e.x e.q) r.in_ends.one first second (same_ends i p (Inner e.x e.q) r.in_ends.one is r.in_ends.is_end)) in
          let number : some.0 ≡ r.at + 0 = r.is in
          let same : some.0 ≡ k = omega arith in
          some.1 ∙ ap Some same
