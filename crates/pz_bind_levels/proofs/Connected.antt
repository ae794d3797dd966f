-- Ends are connected where they have the same wire.
use Rattle.std.proofs.Common.{◌≡◌, refl, sym, ap, ◌∙◌, subst, ℕ, List, [], ◌∷◌, Option, Some, None, slice_get}
use Rattle.std.specs.Option.{option_map, option_map_or}
use Rattle.pz_bind_levels.specs.Layouts.{Layout}
use Rattle.pz_bind_levels.specs.Places.{Address, layout_at}
use Rattle.pz_bind_levels.specs.Wires.{Channel, channel, joined, wires}
use Rattle.pz_bind_levels.specs.Connections.{PortEnd, IsIn, is_in, Leads, itself, outwards, Reaches, Connected, HasWire, IsInNone, EndsShareWires}
use Rattle.pz_bind_levels.specs.devices.Tops.{top, top_at, top_of}
use Rattle.pz_bind_levels.proofs.Places.{wires_once}

module _ (layouts : List Layout) (system : ℕ) where
  abbrev top_from : Channel → Channel
  top_from c = top layouts system c.place c.number

  -- the last channel is the same all along the way
  same_top : (c d : Channel) → Leads layouts system c d → top_from c ≡ top_from d
  same_top _ _ (itself c) = refl
  same_top _ _ (outwards i k j up c joins leads) = rw joins (same_top (channel up j) c leads)

  -- an end leads to its last channel
  leads_to_top : (place : Address) (k : ℕ) → Leads layouts system (channel place k) (top layouts system place k)
  leads_to_top [] k = itself (channel [] k)
  leads_to_top (i ∷ up) k = by_case (joined layouts system (i ∷ up) k) refl (λ j. leads_to_top up j)
    where
      by_case : (o : Option ℕ) → joined layouts system (i ∷ up) k ≡ o → ((j : ℕ) → Leads layouts system (channel up j) (top layouts system up j)) → Leads layouts system (channel (i ∷ up) k) (option_map_or (top layouts system up) o (channel (i ∷ up) k))
      by_case None is on = itself (channel (i ∷ up) k)
      by_case (Some j) is on = outwards i k j up (top layouts system up j) is (on j)

  top_in : (e : PortEnd) (c : Channel) → IsIn layouts system e c → top_of layouts system e ≡ Some (top_from c)
  top_in _ _ (is_in i port k up links) = rw links refl

  pub top_reached : (e : PortEnd) (c : Channel) → top_of layouts system e ≡ Some c → Reaches layouts system e c
  top_reached e c is = by_place e.place refl is
    where
      by_place : (place : Address) → e.place ≡ place → top_at layouts system place e.port ≡ Some c → Reaches layouts system e c
      by_place [] at wrong = cc
      by_place (i ∷ up) at found = by_link ((layout_at layouts system up).linked i e.port) refl found
        where
          by_link : (o : Option ℕ) → (layout_at layouts system up).linked i e.port ≡ o → option_map (top layouts system up) o ≡ Some c → Reaches layouts system e c
          by_link None links wrong = cc
          by_link (Some k) links found =
              let last : top layouts system up k ≡ c = cc in
              record { first = channel up k; starts = subst (λ p. IsIn layouts system (record { place = p; port = e.port }) (channel up k)) (sym at) (is_in i e.port k up links); leads = subst (Leads layouts system (channel up k)) last (leads_to_top up k) }

  same_last : (e : PortEnd) (c : Channel) → Reaches layouts system e c → top_of layouts system e ≡ Some (top_from c)
  same_last e c r = top_in e r.first r.starts ∙ ap Some (same_top r.first c r.leads)

  top_of_last : (c : Channel) → joined layouts system c.place c.number ≡ None → top_from c ≡ c
  top_of_last c is = by_place c.place c.number is
    where
      by_place : (place : Address) (k : ℕ) → joined layouts system place k ≡ None → top layouts system place k ≡ channel place k
      by_place [] k is = refl
      by_place (i ∷ up) k is = rw is refl

  top_ends : (place : Address) (k : ℕ) → joined layouts system (top layouts system place k).place (top layouts system place k).number ≡ None
  top_ends [] k = refl
  top_ends (i ∷ up) k = by_case (joined layouts system (i ∷ up) k) refl (λ j. top_ends up j)
    where
      Ends : Channel → Type 0
      Ends c = joined layouts system c.place c.number ≡ None

      by_case : (o : Option ℕ) → joined layouts system (i ∷ up) k ≡ o → ((j : ℕ) → joined layouts system (top layouts system up j).place (top layouts system up j).number ≡ None) → joined layouts system (option_map_or (top layouts system up) o (channel (i ∷ up) k)).place (option_map_or (top layouts system up) o (channel (i ∷ up) k)).number ≡ None
      by_case None is on = is
      by_case (Some j) is on = on j

  -- where the number of the last channel is known
  pub has_wire : (i port k w : ℕ) (up : Address) → (layout_at layouts system up).linked i port ≡ Some k → slice_get (wires layouts system) w ≡ Some (top layouts system up k) → HasWire layouts system (record { place = i ∷ up; port = port }) w
  has_wire i port k w up links there = record {
    last = top layouts system up k;
    reached = record { first = channel up k; starts = is_in i port k up links; leads = leads_to_top up k };
    ends = top_ends up k;
    there = there;
  }

  pub in_none : (i port : ℕ) (up : Address) → (layout_at layouts system up).linked i port ≡ None → IsInNone layouts system (record { place = i ∷ up; port = port })
  in_none i port up none _ (is_in _ _ k _ links) = let wrong : None ≡ Some k = sym none ∙ links in cc

  pub share : EndsShareWires layouts system
  share e f v w first second = (to, from)
    where
      to : v ≡ w → Connected layouts system e f
      to same =
          let one : Some first.last ≡ Some second.last = sym first.there ∙ (ap (slice_get (wires layouts system)) same ∙ second.there) in
          let last : first.last ≡ second.last = cc in
          record { met = first.last; one = first.reached; other = subst (Reaches layouts system f) (sym last) second.reached }

      from : Connected layouts system e f → v ≡ w
      from c = wires_once layouts system v w first.last first.there (second.there ∙ sym (ap Some lasts))
        where
          lasts : first.last ≡ second.last
          lasts =
              let one : Some (top_from first.last) ≡ Some (top_from second.last) = sym (same_last e first.last first.reached) ∙ (same_last e c.met c.one ∙ (sym (same_last f c.met c.other) ∙ same_last f second.last second.reached)) in
              let tops : top_from first.last ≡ top_from second.last = cc in
              sym (top_of_last first.last first.ends) ∙ (tops ∙ top_of_last second.last second.ends)
