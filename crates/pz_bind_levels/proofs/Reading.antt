-- What an expansion says of the wire of an end.
use Rattle.std.proofs.Common.{◌≡◌, refl, sym, subst, ℕ, ◌<◌, List, ◌∷◌, length, Option, Some, None, slice_get, arith}
use Rattle.std.specs.Option.{MatchOption}
use Rattle.pz_bind_levels.specs.declared.expansion.Standing.{Standing}
use Rattle.pz_bind_levels.specs.declared.expansion.Level.{Level}
use Rattle.pz_bind_levels.specs.declared.expansion.Expansion.{Expansion}
use Rattle.pz_bind_levels.specs.Layouts.{Layout, layout, AreLinked}
use Rattle.pz_bind_levels.specs.Places.{Address, Spot, levels}
use Rattle.pz_bind_levels.specs.Wires.{wires}
use Rattle.pz_bind_levels.specs.Connections.{HasWire, IsInNone}
use Rattle.pz_bind_levels.specs.devices.Expanded.{StandsAt, in_level, IsLevel, IsExpansion}
use Rattle.pz_bind_levels.specs.devices.Walking.{wire_at}
use Rattle.pz_bind_levels.proofs.Each.{there, partner}
use Rattle.pz_bind_levels.proofs.Connected.{has_wire, in_none}

module _ (layouts : List Layout) (system : ℕ) (linked : AreLinked layouts) (e : Expansion) (kept : IsExpansion layouts system e) (port : ℕ) where
  abbrev pub Says : Address → Option ℕ → Type 0
  Says place found = MatchOption found (IsInNone layouts system (record { place = place; port = port })) (HasWire layouts system (record { place = place; port = port }))

  in_that : (s : Standing) (up : Spot) (l : Level) → slice_get e.levels s.level ≡ Some l → IsLevel layouts system (levels layouts system) (wires layouts system) l up → (o : Option ℕ) → (layout layouts up.class).linked s.part port ≡ o
      → Says (s.part ∷ up.place) (wire_at layouts e.levels s port)
  in_that s up l at is None links =
      let none : wire_at layouts e.levels s port ≡ None = rw (at, is.class, links) refl in
      subst (Says (s.part ∷ up.place)) (sym none) (in_none layouts system s.part port up.place (rw is.planned links))
  in_that s up l at is (Some k) links = by_wire (there l.wires k (let inside : k < length (layout layouts up.class).outer = linked up.class s.part port k links in let counts : length l.wires ≡ length (layout layouts up.class).outer = is.counted in omega arith))
    where
      by_wire : (w : ℕ) × (slice_get l.wires k ≡ Some w) → Says (s.part ∷ up.place) (wire_at layouts e.levels s port)
      by_wire (w, wired) =
          let some : wire_at layouts e.levels s port ≡ Some w = rw (at, is.class, links) wired in
          subst (Says (s.part ∷ up.place)) (sym some) (has_wire layouts system s.part port k w up.place (rw is.planned links) (is.wired k w wired))

  pub says : (s : Standing) (place : Address) → StandsAt (levels layouts system) (Some s) place → Says place (wire_at layouts e.levels s port)
  says s _ (in_level _ up at) = by_level (partner (IsLevel layouts system (levels layouts system) (wires layouts system)) e.levels (levels layouts system) kept.levels s.level up at)
    where
      by_level : (l : Level) × (slice_get e.levels s.level ≡ Some l) × IsLevel layouts system (levels layouts system) (wires layouts system) l up → Says (s.part ∷ up.place) (wire_at layouts e.levels s port)
      by_level (l, found, is) = in_that s up l found is ((layout layouts up.class).linked s.part port) refl
