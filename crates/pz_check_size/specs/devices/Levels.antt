-- The totals of each class, level by level, as a device of the proofs.
use Rattle.std.specs.Prelude.{ℕ, zero, suc, ◌+◌, Bool, ◌||◌, nat_le, min, List, [], ◌∷◌, map, slice_get}
use Rattle.std.specs.Option.{unwrap_or}
use Rattle.pz_check_size.specs.declared.nodes.Held.{Held}
use Rattle.pz_check_size.specs.declared.nodes.Node.{Node}
use Rattle.pz_check_size.specs.declared.totals.Totals.{Totals}

abbrev pub none_yet : Totals
none_yet = record { processes = 0; clusters = 0; channels = 0 }

abbrev pub capped_channels : ℕ → ℕ
capped_channels n = min n 1000001

-- both together, as far as just above the limits
abbrev pub capped_plus : Totals → Totals → Totals
capped_plus a b = record {
  processes = min (a.processes + b.processes) 10001;
  clusters = min (a.clusters + b.clusters) 10001;
  channels = min (a.channels + b.channels) 1000001;
}

abbrev pub is_above : Totals → Bool
is_above t = nat_le 10001 t.processes || nat_le 10001 t.clusters || nat_le 1000001 t.channels

abbrev pub total_in : List Totals → ℕ → Totals
total_in totals c = unwrap_or (slice_get totals c) none_yet

-- with these instances as well
abbrev pub with_all : List Totals → Totals → List Held → Totals
with_all totals t [] = t
with_all totals t (h ∷ hs) = with_all totals (capped_plus t (total_in totals h.class)) hs

abbrev pub total_with : List Totals → Node → Totals
total_with totals n = with_all totals n.own n.held

abbrev pub next_level : List Node → List Totals → List Totals
next_level nodes totals = map (total_with totals) nodes

abbrev pub level : List Node → ℕ → List Totals
level nodes zero = map (λ n. none_yet) nodes
level nodes (suc l) = next_level nodes (level nodes l)
