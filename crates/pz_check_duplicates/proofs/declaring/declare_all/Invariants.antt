use Rattle.std.proofs.Common.{◌≡◌, List, ◌∷◌, ◌++◌, map, take, drop}
use Rattle.pz_classes.specs.pz_syntax.declared.names.Id.{Id}
use Rattle.pz_check_violations.specs.Least.{least_from}
use Rattle.pz_check_duplicates.specs.devices.Names.{id_of}
use Rattle.pz_check_duplicates.specs.devices.Inheriting.{found_in}
use Rattle.pz_check_duplicates.specs.devices.Knowing.{spread, Knows}
use Rattle.pz_check_duplicates.proofs.declaring.declare_all.Given as goal

abbrev pub invariant-loop-name : goal.invariant-loop-name
invariant-loop-name l = record {
  known : (own : List Id) (outer : List (List Id)) → Knows (own ∷ outer) l.initial.known → Knows ((own ++ map id_of (take l.name-index l.names)) ∷ outer) l.known;
  found : (own : List Id) (outer : List (List Id)) → Knows (own ∷ outer) l.initial.known
      → least_from l.least (found_in (spread outer ++ (own ++ map id_of (take l.name-index l.names))) (map id_of (drop l.name-index l.names))) ≡ least_from l.fn.before (found_in (spread (own ∷ outer)) (map id_of l.names));
}
