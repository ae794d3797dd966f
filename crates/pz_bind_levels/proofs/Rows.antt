-- A system of two clusters of one class, computed: in each cluster one channel is joined with one
-- outside, and one is not.
use Rattle.std.proofs.Common.{◌≡◌, refl, ℕ, zero, suc, true, false, List, [], ◌∷◌, map, Option, Some, None}
use Rattle.pz_bind_levels.specs.declared.plan.LevelPart.{LevelPart}
use Rattle.pz_bind_levels.specs.Layouts.{Layout, empty}
use Rattle.pz_bind_levels.specs.Places.{Address, levels, processes}
use Rattle.pz_bind_levels.specs.Wires.{channel, wires}
use Rattle.pz_bind_levels.specs.Connections.{PortEnd, is_in, itself, outwards, Connected, HasWire}

abbrev process : ℕ → LevelPart
process class = record { class = class; is_level = false }

abbrev level : ℕ → LevelPart
level class = record { class = class; is_level = true }

-- `instances s : S r : R t : S channels {s.o, r.i} {t.o, x}`
abbrev cluster_links : ℕ → ℕ → Option ℕ
cluster_links zero zero = Some 0
cluster_links (suc zero) zero = Some 0
cluster_links (suc (suc zero)) zero = Some 1
cluster_links part port = None

-- `instances c : C d : C q : R channels {c.x, q.i} {d.x}`
abbrev system_links : ℕ → ℕ → Option ℕ
system_links zero zero = Some 0
system_links (suc zero) zero = Some 1
system_links (suc (suc zero)) zero = Some 0
system_links part port = None

-- Array, S, R, C and the system
abbrev layouts : List Layout
layouts =
    empty ∷ empty ∷ empty
    ∷ record { parts = process 1 ∷ process 2 ∷ process 1 ∷ []; outer = None ∷ Some 0 ∷ []; linked = cluster_links }
    ∷ record { parts = level 3 ∷ level 3 ∷ process 2 ∷ []; outer = None ∷ None ∷ []; linked = system_links } ∷ []

-- c.s, c.r, c.t, d.s, d.r, d.t, q
seven_processes : map (λ s. s.place) (processes layouts 4) ≡ (0 ∷ 0 ∷ []) ∷ (1 ∷ 0 ∷ []) ∷ (2 ∷ 0 ∷ []) ∷ (0 ∷ 1 ∷ []) ∷ (1 ∷ 1 ∷ []) ∷ (2 ∷ 1 ∷ []) ∷ (2 ∷ []) ∷ []
seven_processes = refl

-- the system, c, d
three_levels : map (λ s. s.place) (levels layouts 4) ≡ [] ∷ (0 ∷ []) ∷ (1 ∷ []) ∷ []
three_levels = refl

-- #1, #2, c#1, d#1
four_wires : wires layouts 4 ≡ channel [] 0 ∷ channel [] 1 ∷ channel (0 ∷ []) 0 ∷ channel (1 ∷ []) 0 ∷ []
four_wires = refl

abbrev end : Address → PortEnd
end place = record { place = place; port = 0 }

-- c.t and q meet in #1
joined_through : Connected layouts 4 (end (2 ∷ 0 ∷ [])) (end (2 ∷ []))
joined_through = record {
  met = channel [] 0;
  one = record { first = channel (0 ∷ []) 1; starts = is_in 2 0 1 (0 ∷ []) refl; leads = outwards 0 1 0 [] (channel [] 0) refl (itself (channel [] 0)) };
  other = record { first = channel [] 0; starts = is_in 2 0 0 [] refl; leads = itself (channel [] 0) };
}

-- d.s has d#1, the last of the wires
hidden : HasWire layouts 4 (end (0 ∷ 1 ∷ [])) 3
hidden = record {
  last = channel (1 ∷ []) 0;
  reached = record { first = channel (1 ∷ []) 0; starts = is_in 0 0 0 (1 ∷ []) refl; leads = itself (channel (1 ∷ []) 0) };
  ends = refl;
  there = refl;
}
