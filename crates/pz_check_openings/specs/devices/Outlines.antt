-- What is asked of the methods of a model, as a device of the proofs.
use Rattle.std.specs.Prelude.{ℕ, zero, suc, List, [], ◌∷◌, length, map, min, Option, Some, None}
use Rattle.std.specs.Option.{unwrap_or}
use Rattle.std.specs.List.{flat_map}
use Rattle.pz_classes.specs.pz_syntax.Classes.{DeclTree, data_class, process_class, ProcessMethodTree, ModelTree}
use Rattle.pz_classes.specs.pz_classes_rules.Members.{grouped}
use Rattle.pz_classes_beginnings.specs.Beginning.{begun_all, all_plain_calls, statements_in_all}
use Rattle.pz_check_openings.specs.declared.outline.Outline.{Outline}

abbrev pub outline_of : ProcessMethodTree → Outline
outline_of r = record {
  name = r.name;
  inputs = length (grouped r.inputs);
  outputs = length (grouped r.outputs);
  statements = min (statements_in_all r.body) 1000001;
  begun = begun_all r.body;
  calls = all_plain_calls r.body;
}

abbrev pub nones : ℕ → List (Option Outline)
nones zero = []
nones (suc n) = None ∷ nones n

abbrev pub declared_outlines : DeclTree → List (Option Outline)
declared_outlines (data_class d) = nones (length (unwrap_or d.methods []))
declared_outlines (process_class p) = map (λ r. Some (outline_of r)) (unwrap_or p.methods [])
declared_outlines _ = []

-- each at the number of its method
abbrev pub outlines : ModelTree → List (Option Outline)
outlines m = flat_map declared_outlines m.decls
