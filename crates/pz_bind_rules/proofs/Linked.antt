-- Which ends the links of a level's channels come from.
use Rattle.std.proofs.Common.{◌≡◌, refl, sym, ap, ◌∙◌, subst, ℕ, zero, suc, ◌+◌, Bool, true, false, ◌&&◌, nat_eq, List, [], ◌∷◌, ◌++◌, map, length, Option, Some, None, slice_get, arith, ◌⊎◌, inl, inr, if◌then◌else◌}
use Rattle.std.specs.Option.{option_or}
use Rattle.std.specs.List.{flat_map}
use Rattle.std.proofs.lemmas.List.{length-map}
use Rattle.std.proofs.lemmas.Bool.{eqb-true}
use Rattle.pz_classes_rules.specs.pz_syntax.declared.clusters.Instance.{Instance}
use Rattle.pz_classes_rules.specs.pz_syntax.declared.clusters.Channel.{Channel as Written}
use Rattle.pz_classes_rules.specs.pz_syntax.declared.clusters.ChannelEnd.{ChannelEnd}
use Rattle.pz_classes_rules.specs.pz_syntax.declared.clusters.ChannelEnd.TheVariants.{Inner, Outer}
use Rattle.pz_classes_rules.specs.pz_syntax.Classes.{ModelTree}
use Rattle.pz_classes_rules.proofs.Elements.{both_true}
use Rattle.pz_bind_levels.proofs.Each.{in_first}
use Rattle.pz_bind_rules.specs.devices.Layouts.{Link, link, linked_by, instance_number, port_of, link_at, link_of, links_from}
use Rattle.pz_bind_rules.proofs.Lists.{in_later, map_at}

or_first : {A : Type 0} (a b : Option A) (x : A) → a ≡ Some x → option_or a b ≡ Some x
or_first a b x is = rw is refl

or_some : {A : Type 0} (a b : Option A) (x : A) → b ≡ Some x → (y : A) × (option_or a b ≡ Some y)
or_some None b x is = (x, is)
or_some (Some y) b x is = (y, refl)

or_cases : {A : Type 0} (a b : Option A) (x : A) → option_or a b ≡ Some x → (a ≡ Some x) ⊎ (b ≡ Some x)
or_cases None b x is = inr is
or_cases (Some y) b x is = inl is

pub or_assoc : {A : Type 0} (a b c : Option A) → option_or a (option_or b c) ≡ option_or (option_or a b) c
or_assoc None b c = refl
or_assoc (Some x) b c = refl

pub linked_append : (ls more : List Link) (i p : ℕ) → linked_by (ls ++ more) i p ≡ option_or (linked_by ls i p) (linked_by more i p)
linked_append [] more i p = refl
linked_append (l ∷ ls) more i p =
    let this : Option ℕ = if nat_eq i l.part && nat_eq p l.port then Some l.channel else None in
    ap (option_or this) (linked_append ls more i p) ∙ or_assoc this (linked_by ls i p) (linked_by more i p)

module _ (m : ModelTree) (xs : List Instance) where
  -- the end is this port of this instance, by their numbers
  abbrev pub IsEnd : ℕ → ℕ → ChannelEnd → Type 0
  IsEnd i p (Inner x q) = (instance_number xs x.name ≡ Some i) × (port_of m xs i q.name ≡ Some p)
  IsEnd i p (Outer q) = ⊥

  one_linked : (i p j r k c : ℕ) → linked_by (link j r k ∷ []) i p ≡ Some c → (i ≡ j) × (p ≡ r) × (c ≡ k)
  one_linked i p j r k c is = by_test (nat_eq i j && nat_eq p r) refl
    where
      by_test : (b : Bool) → (nat_eq i j && nat_eq p r) ≡ b → (i ≡ j) × (p ≡ r) × (c ≡ k)
      by_test true does =
          let each = both_true (nat_eq i j) (nat_eq p r) does in
          let chosen : Some k ≡ Some c = rw does at is in
          let number : c ≡ k = cc in
          (eqb-true i j each.0, eqb-true p r each.1, number)
      by_test false does = let wrong : None ≡ Some c = rw does at is in cc

  of_end : (k : ℕ) (e : ChannelEnd) (i p c : ℕ) → linked_by (link_of m xs k e) i p ≡ Some c → (c ≡ k) × IsEnd i p e
  of_end k (Outer q) i p c is = cc
  of_end k (Inner x q) i p c is = by_instance (instance_number xs x.name) refl
    where
      by_port : (j : ℕ) → instance_number xs x.name ≡ Some j → linked_by (link_at m xs k q.name j) i p ≡ Some c → (o : Option ℕ) → port_of m xs j q.name ≡ o → (c ≡ k) × IsEnd i p (Inner x q)
      by_port j found links None port = let wrong : None ≡ Some c = rw port at links in cc
      by_port j found links (Some r) port =
          let one = one_linked i p j r k c (rw port at links) in
          (one.2, (found ∙ ap Some (sym one.0), ap (λ a. port_of m xs a q.name) one.0 ∙ (port ∙ ap Some (sym one.1))))

      by_instance : (o : Option ℕ) → instance_number xs x.name ≡ o → (c ≡ k) × IsEnd i p (Inner x q)
      by_instance None found = let wrong : None ≡ Some c = rw found at is in cc
      by_instance (Some j) found = by_port j found (rw found at is) (port_of m xs j q.name) refl

  -- one of these ends is the port
  pub record InEnds (es : List ChannelEnd) (i p : ℕ) : Type 0 where
    pub at : ℕ
    pub one : ChannelEnd
    pub there : slice_get es at ≡ Some one
    pub is_end : IsEnd i p one

  of_ends : (k : ℕ) (es : List ChannelEnd) (i p c : ℕ) → linked_by (flat_map (link_of m xs k) es) i p ≡ Some c → (c ≡ k) × InEnds es i p
  of_ends k [] i p c is = cc
  of_ends k (e ∷ es) i p c is = by_part (of_ends k es i p c) (or_cases (linked_by (link_of m xs k e) i p) (linked_by (flat_map (link_of m xs k) es) i p) c (sym (linked_append (link_of m xs k e) (flat_map (link_of m xs k) es) i p) ∙ is))
    where
      by_part : (linked_by (flat_map (link_of m xs k) es) i p ≡ Some c → (c ≡ k) × InEnds es i p) → (linked_by (link_of m xs k e) i p ≡ Some c) ⊎ (linked_by (flat_map (link_of m xs k) es) i p ≡ Some c) → (c ≡ k) × InEnds (e ∷ es) i p
      by_part rest (inl here) = let one = of_end k e i p c here in (one.0, record { at = 0; one = e; there = refl; is_end = one.1 })
      by_part rest (inr later) = let r = rest later in (r.0, record { at = suc r.1.at; one = r.1.one; there = r.1.there; is_end = r.1.is_end })

  -- of these channels, the first of which has number n, channel c has the port
  pub record InChannels (n : ℕ) (hs : List Written) (i p c : ℕ) : Type 0 where
    pub at : ℕ
    pub is : c ≡ at + n
    pub channel : Written
    pub there : slice_get hs at ≡ Some channel
    pub in_ends : InEnds channel.ends i p

  pub of_channels : (n : ℕ) (hs : List Written) (i p c : ℕ) → linked_by (links_from m xs n hs) i p ≡ Some c → InChannels n hs i p c
  of_channels n [] i p c is = cc
  of_channels n (h ∷ hs) i p c is = by_part (of_channels (suc n) hs i p c) (or_cases (linked_by (flat_map (link_of m xs n) h.ends) i p) (linked_by (links_from m xs (suc n) hs) i p) c (sym (linked_append (flat_map (link_of m xs n) h.ends) (links_from m xs (suc n) hs) i p) ∙ is))
    where
      by_part : (linked_by (links_from m xs (suc n) hs) i p ≡ Some c → InChannels (suc n) hs i p c) → (linked_by (flat_map (link_of m xs n) h.ends) i p ≡ Some c) ⊎ (linked_by (links_from m xs (suc n) hs) i p ≡ Some c) → InChannels n (h ∷ hs) i p c
      by_part rest (inl here) = let one = of_ends n h.ends i p c here in let number : c ≡ n = one.0 in record { at = 0; is = omega arith; channel = h; there = refl; in_ends = one.1 }
      by_part rest (inr later) = let r = rest later in let number : c ≡ r.at + suc n = r.is in record { at = suc r.at; is = omega arith; channel = r.channel; there = r.there; in_ends = r.in_ends }

  -- ---- the other way round: such an end links the port

  end_links : (k : ℕ) (e : ChannelEnd) (i p : ℕ) → IsEnd i p e → linked_by (link_of m xs k e) i p ≡ Some k
  end_links k (Outer q) i p is = absurd is
  end_links k (Inner x q) i p (instance, port) = rw (instance, port) (chosen (nat_eq i i && nat_eq p p) (both_same i p))
    where
      same : (n : ℕ) → nat_eq n n ≡ true
      same n = grind (arith, Rattle.std.proofs.lemmas.Bool.Decides.nat_tests)

      both_same : (n r : ℕ) → (nat_eq n n && nat_eq r r) ≡ true
      both_same n r = rw (same n, same r) refl

      chosen : (b : Bool) → b ≡ true → option_or (if b then Some k else None) None ≡ Some k
      chosen b is = rw is refl

  ends_link : (k : ℕ) (es : List ChannelEnd) (at : ℕ) (e : ChannelEnd) (i p : ℕ) → slice_get es at ≡ Some e → IsEnd i p e → (c : ℕ) × (linked_by (flat_map (link_of m xs k) es) i p ≡ Some c)
  ends_link k [] at e i p there is = cc
  ends_link k (f ∷ es) zero e i p there is =
      let same : f ≡ e = cc in
      let here : linked_by (link_of m xs k f) i p ≡ Some k = end_links k f i p (subst (IsEnd i p) (sym same) is) in
      (k, linked_append (link_of m xs k f) (flat_map (link_of m xs k) es) i p ∙ or_first (linked_by (link_of m xs k f) i p) (linked_by (flat_map (link_of m xs k) es) i p) k here)
  ends_link k (f ∷ es) (suc at) e i p there is =
      let r = ends_link k es at e i p there is in
      let some = or_some (linked_by (link_of m xs k f) i p) (linked_by (flat_map (link_of m xs k) es) i p) r.0 r.1 in
      (some.0, linked_append (link_of m xs k f) (flat_map (link_of m xs k) es) i p ∙ some.1)

  pub channels_link : (n : ℕ) (hs : List Written) (j : ℕ) (h : Written) (at : ℕ) (e : ChannelEnd) (i p : ℕ) → slice_get hs j ≡ Some h → slice_get h.ends at ≡ Some e → IsEnd i p e → (c : ℕ) × (linked_by (links_from m xs n hs) i p ≡ Some c)
  channels_link n [] j h at e i p there inside is = cc
  channels_link n (g ∷ hs) zero h at e i p there inside is =
      let same : g ≡ h = cc in
      let here = ends_link n g.ends at e i p (subst (λ (x : Written). slice_get x.ends at ≡ Some e) (sym same) inside) is in
      (here.0, linked_append (flat_map (link_of m xs n) g.ends) (links_from m xs (suc n) hs) i p ∙ or_first (linked_by (flat_map (link_of m xs n) g.ends) i p) (linked_by (links_from m xs (suc n) hs) i p) here.0 here.1)
  channels_link n (g ∷ hs) (suc j) h at e i p there inside is =
      let r = channels_link (suc n) hs j h at e i p there inside is in
      let some = or_some (linked_by (flat_map (link_of m xs n) g.ends) i p) (linked_by (links_from m xs (suc n) hs) i p) r.0 r.1 in
      (some.0, linked_append (flat_map (link_of m xs n) g.ends) (links_from m xs (suc n) hs) i p ∙ some.1)

-- ---- where an end stands among those of all channels

-- the number of its channel for each end, where the first channel has number n
abbrev numbers : ℕ → List Written → List ℕ
numbers n [] = []
numbers n (h ∷ hs) = map (λ e. n) h.ends ++ numbers (suc n) hs

abbrev all_ends : List Written → List ChannelEnd
all_ends hs = flat_map (λ (h : Written). h.ends) hs

record EndAt (n : ℕ) (hs : List Written) (j : ℕ) (e : ChannelEnd) : Type 0 where
  at : ℕ
  there : slice_get (all_ends hs) at ≡ Some e
  number : slice_get (numbers n hs) at ≡ Some (j + n)

end_at : (n : ℕ) (hs : List Written) (j : ℕ) (h : Written) (at : ℕ) (e : ChannelEnd) → slice_get hs j ≡ Some h → slice_get h.ends at ≡ Some e → EndAt n hs j e
end_at n [] j h at e there inside = cc
end_at n (g ∷ hs) zero h at e there inside =
    let same : g ≡ h = cc in
    let here : slice_get g.ends at ≡ Some e = subst (λ (x : Written). slice_get x.ends at ≡ Some e) (sym same) inside in
    let none : 0 + n ≡ n = omega arith in
    record {
      at = at;
      there = in_first g.ends (all_ends hs) at e here;
      number = rw none (in_first (map (λ e. n) g.ends) (numbers (suc n) hs) at n (map_at (λ e. n) g.ends at e here));
    }
end_at n (g ∷ hs) (suc j) h at e there inside =
    let r = end_at (suc n) hs j h at e there inside in
    let more : suc j + n ≡ j + suc n = omega arith in
    let counts : length (map (λ e. n) g.ends) ≡ length g.ends = length-map g.ends (λ e. n) in
    record {
      at = length g.ends + r.at;
      there = in_later g.ends (all_ends hs) r.at ∙ r.there;
      number = rw (more, ← counts) (in_later (map (λ e. n) g.ends) (numbers (suc n) hs) r.at ∙ r.number);
    }

-- ends that stand at one place are in one channel
pub one_channel : (hs : List Written) (j k : ℕ) (g h : Written) (a b : ℕ) (e f : ChannelEnd) → slice_get hs j ≡ Some g → slice_get hs k ≡ Some h → slice_get g.ends a ≡ Some e → slice_get h.ends b ≡ Some f
    → ((x y : ℕ) → slice_get (all_ends hs) x ≡ Some e → slice_get (all_ends hs) y ≡ Some f → x ≡ y) → j ≡ k
one_channel hs j k g h a b e f first second in_first_one in_second_one apart =
    let one = end_at 0 hs j g a e first in_first_one in
    let two = end_at 0 hs k h b f second in_second_one in
    let same : one.at ≡ two.at = apart one.at two.at one.there two.there in
    let both : Some (j + 0) ≡ Some (k + 0) = sym one.number ∙ (ap (slice_get (numbers 0 hs)) same ∙ two.number) in
    let sums : j + 0 ≡ k + 0 = cc in
    omega arith
